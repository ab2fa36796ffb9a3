-- A trailer, one byte more at a time.
use Rattle.std.proofs.Common.{◌≡◌, ◌≢◌, ◌<◌, ◌≤◌, ◌+◌, ◌==◌, ◌∙◌, ℕ, Bool, true, false, not, if◌then◌else◌, inl, inr, List, [], ◌∷◌, ◌++◌, length, get_or, take, drop, arith, ap, sym, subst, refl, append_assoc, append-nil}
use Rattle.std.specs.List.{flat_map, AllByRecursion}
use Rattle.std.specs.Prelude.{◌↔◌, IsTrue}
use Rattle.std.proofs.lemmas.Bool.{both_ways, cases_eq, eqb-true, ne_eqb}
use Rattle.std.proofs.lemmas.Bool.Decides.{nat_tests}
use Rattle.std.proofs.lemmas.List.{length-append, length-take-le, take-append-drop, take-append-le, take_more}
use Rattle.std.proofs.lemmas.List.Elements.{All-append, All-cons, All-nil}
use Rattle.std.proofs.Math.Seq.{take-append_seam}
use Rattle.httparse.specs.Grammar.{AllPass, LineEnd, crlf, lf, print_end}
use Rattle.httparse.proofs.RunLemmas.{run_unique}
use Rattle.ld_wire.specs.Chunks.{HasLongTrailer, IsTrailer, IsTrailerLine, is_line_byte, trailer_limit}
use Rattle.ld_wire.specs.Trailer.{IsPart, IsTrailerSoFar, line_behind}
use Rattle.ld_wire.specs.declared.trailer.LineSoFar.{LineSoFar}
use Rattle.ld_wire.specs.declared.trailer.LineSoFar.TheVariants.{Empty, Return, Filled}
use Rattle.ld_wire.proofs.ChainLemmas.{IsEnd, after, chain_unique}
use Rattle.ld_wire.proofs.PieceLemmas.{Line, empty_line, empty_one, end_is, line_chain, lines_end, lines_unique, print_line, same_number}

-- ---- lines

lines_more : (lines : List (List ℕ)) (line : List ℕ) → AllByRecursion IsTrailerLine lines → IsTrailerLine line
    → AllByRecursion IsTrailerLine (lines ++ line ∷ [])
lines_more [] line are is = (is, tt)
lines_more (first ∷ lines) line are is = (are.0, lines_more lines line are.1 is)

print_more : (lines : List (List ℕ)) (line : List ℕ) → flat_map print_line (lines ++ line ∷ []) ≡ flat_map print_line lines ++ print_line line
print_more [] line = append-nil (print_line line)
print_more (first ∷ lines) line =
    ap (λ (t : List ℕ). print_line first ++ t) (print_more lines line) ∙ sym (append_assoc (print_line first) (flat_map print_line lines) (print_line line))

pass_more : (part : List ℕ) (byte : ℕ) → byte ≢ 10 → AllPass is_line_byte part → AllPass is_line_byte (part ++ byte ∷ [])
pass_more part byte other all =
    All-append (λ b. IsTrue (is_line_byte b)) part (byte ∷ []) all
    (All-cons (λ b. IsTrue (is_line_byte b)) byte [] (ap not (ne_eqb byte 10 other)) (All-nil (λ b. IsTrue (is_line_byte b))))

-- ---- one byte

behind_feed : (text : List ℕ) → IsTrailerSoFar Filled text → IsTrailerSoFar Empty (text ++ 10 ∷ [])
behind_feed text is = record {
  lines = is.lines ++ is.part ∷ [];
  part = [];
  form = lines_more is.lines is.part is.form (record { one = is.one; some = is.is.0; more = is.is.1 });
  one = All-nil (λ b. IsTrue (is_line_byte b));
  is = refl;
  text_is = ap (λ (t : List ℕ). t ++ 10 ∷ []) is.text_is ∙ append_assoc (flat_map print_line is.lines) is.part (10 ∷ [])
      ∙ sym (print_more is.lines is.part) ∙ sym (append-nil (flat_map print_line (is.lines ++ is.part ∷ [])));
}

-- the empty line ends it
behind_end : (line : LineSoFar) (text : List ℕ) → line ≢ Filled → IsTrailerSoFar line text → length text < trailer_limit
    → IsTrailer (text ++ 10 ∷ [])
behind_end Filled text other is short = absurd (other refl)
behind_end Empty text other is short =
    let long = length-append text (10 ∷ []) in
    record {
      lines = is.lines;
      end = lf;
      form = is.form;
      text_is = ap (λ (t : List ℕ). t ++ 10 ∷ []) is.text_is ∙ append_assoc (flat_map print_line is.lines) is.part (10 ∷ [])
          ∙ ap (λ (t : List ℕ). flat_map print_line is.lines ++ (t ++ 10 ∷ [])) is.is;
      short = omega arith;
    }
behind_end Return text other is short =
    let long = length-append text (10 ∷ []) in
    record {
      lines = is.lines;
      end = crlf;
      form = is.form;
      text_is = ap (λ (t : List ℕ). t ++ 10 ∷ []) is.text_is ∙ append_assoc (flat_map print_line is.lines) is.part (10 ∷ [])
          ∙ ap (λ (t : List ℕ). flat_map print_line is.lines ++ (t ++ 10 ∷ [])) is.is;
      short = omega arith;
    }

-- ---- another byte

not_empty : (part : List ℕ) (byte : ℕ) → part ++ byte ∷ [] ≢ []
not_empty part byte same = let long = length-append part (byte ∷ []) in let none = ap length same in omega arith

longer_part : (part : List ℕ) (byte : ℕ) → 0 < length part → part ++ byte ∷ [] ≢ 13 ∷ []
longer_part part byte some same = let long = length-append part (byte ∷ []) in let one = ap length same in omega arith

some_part : (part : List ℕ) → part ≢ [] → 0 < length part
some_part [] other = absurd (other refl)
some_part (byte ∷ part) other = omega arith

eqb-apart : (a b : ℕ) → (a == b) ≡ false → a ≢ b
eqb-apart a b not_so same = both_ways (a == b) not_so (ne_test a b same)
  where
    ne_test : (a b : ℕ) → a ≡ b → (a == b) ≡ true
    ne_test a b same = grind (arith, nat_tests)

first_byte : (byte : ℕ) → byte ≢ 13 → byte ∷ [] ≢ 13 ∷ []
first_byte byte other same = other (ap (λ (t : List ℕ). get_or t 0 0) same)

-- where the line was empty, by the tests of the byte
behind_empty : (feed return : Bool) (part : List ℕ) (byte : ℕ) → feed ≡ false → (return ≡ true → byte ≡ 13) → (return ≡ false → byte ≢ 13)
    → part ≡ [] → IsPart (if feed then Empty else if return then Return else Filled) (part ++ byte ∷ [])
behind_empty true return part byte no_feed is_so other is = absurd (cc)
behind_empty false true part byte no_feed is_so other is =
    ap (λ (t : List ℕ). t ++ byte ∷ []) is ∙ ap (λ (b : ℕ). b ∷ []) (is_so refl)
behind_empty false false part byte no_feed is_so other is = (
  not_empty part byte,
  λ same. first_byte byte (other refl) (sym (ap (λ (t : List ℕ). t ++ byte ∷ []) is) ∙ same),
)

behind_more : (feed : Bool) (part : List ℕ) (byte : ℕ) → feed ≡ false → 0 < length part
    → IsPart (if feed then Empty else Filled) (part ++ byte ∷ [])
behind_more true part byte no_feed some = absurd (cc)
behind_more false part byte no_feed some = (not_empty part byte, longer_part part byte some)

part_behind : (line : LineSoFar) (part : List ℕ) (byte : ℕ) → byte ≢ 10 → IsPart line part → IsPart (line_behind line byte) (part ++ byte ∷ [])
part_behind Empty part byte other is =
    behind_empty (byte == 10) (byte == 13) part byte (ne_eqb byte 10 other) (eqb-true byte 13) (λ not_so. eqb-apart byte 13 not_so) is
part_behind Return part byte other is =
    let one = ap length is in
    behind_more (byte == 10) part byte (ne_eqb byte 10 other) (omega arith)
part_behind Filled part byte other is = behind_more (byte == 10) part byte (ne_eqb byte 10 other) (some_part part is.0)

behind_byte : (line : LineSoFar) (text : List ℕ) (byte : ℕ) → byte ≢ 10 → IsTrailerSoFar line text
    → IsTrailerSoFar (line_behind line byte) (text ++ byte ∷ [])
behind_byte line text byte other is = record {
  lines = is.lines;
  part = is.part ++ byte ∷ [];
  form = is.form;
  one = pass_more is.part byte other is.one;
  is = part_behind line is.part byte other is.is;
  text_is = ap (λ (t : List ℕ). t ++ byte ∷ []) is.text_is ∙ append_assoc (flat_map print_line is.lines) is.part (byte ∷ []);
}

-- a byte that doesn't end the trailer
pub behind_one : (line : LineSoFar) (text : List ℕ) (byte : ℕ) → (byte ≡ 10 → line ≡ Filled) → IsTrailerSoFar line text
    → IsTrailerSoFar (line_behind line byte) (text ++ byte ∷ [])
behind_one line text byte goes is =
    elim (cases_eq byte 10) [
      | inl feed ↦
          let P : LineSoFar → Type 0 = λ l. IsTrailerSoFar l text in
          let Q : LineSoFar → Type 0 = λ l. IsTrailerSoFar (line_behind l 10) (text ++ 10 ∷ []) in
          let R : ℕ → Type 0 = λ b. IsTrailerSoFar (line_behind line b) (text ++ b ∷ []) in
          subst R (sym feed) (subst Q (sym (goes feed)) (behind_feed text (subst P (goes feed) is)))
      | inr other ↦ behind_byte line text byte other is
    ]

-- a line feed that ends it
pub behind_last : (line : LineSoFar) (text : List ℕ) (byte : ℕ) → byte ≡ 10 → line ≢ Filled → IsTrailerSoFar line text
    → length text < trailer_limit → IsTrailer (text ++ byte ∷ [])
behind_last line text byte feed other is short =
    let P : ℕ → Type 0 = λ b. IsTrailer (text ++ b ∷ []) in
    subst P (sym feed) (behind_end line text other is short)

-- ---- none yet

-- no line begins at a part of one
part_end : (k : ℕ) (part : List ℕ) → AllPass is_line_byte part → IsEnd print_line Line k part
part_end k part one line rest is same =
    let aligned : part ++ 10 ∷ [] ≡ line ++ 10 ∷ (rest ++ 10 ∷ []) =
    ap (λ (t : List ℕ). t ++ 10 ∷ []) same ∙ append_assoc (print_line line) rest (10 ∷ []) ∙ append_assoc line (10 ∷ []) (rest ++ 10 ∷ []) in
    let both = run_unique is_line_byte part line (10 ∷ []) (10 ∷ (rest ++ 10 ∷ [])) one is.one refl refl aligned in
    let rests = ap length both.1 in
    let long = length-append rest (10 ∷ []) in
    omega arith

-- no front of a trailer as far as it came is a whole one
pub no_front : (line : LineSoFar) (text front behind : List ℕ) → IsTrailerSoFar line text → IsTrailer front → text ≡ front ++ behind → ⊥
no_front line text front behind is trailer same =
    let left = ap (λ (t : List ℕ). t ++ behind) trailer.text_is ∙ append_assoc (flat_map print_line trailer.lines) (print_end trailer.end) behind in
    let chained = chain_unique print_line Line same_number lines_unique 0 trailer.lines is.lines (print_end trailer.end ++ behind) is.part
    (line_chain 0 trailer.lines trailer.form) (line_chain 0 is.lines is.form) (sym left ∙ sym same ∙ is.text_is)
    (lines_end (after same_number 0 trailer.lines) trailer.end behind) (part_end (after same_number 0 is.lines) is.part is.one) in
    no_feed trailer.end behind is.part is.one chained.1
  where
    no_feed : (end : LineEnd) (behind part : List ℕ) → AllPass is_line_byte part → print_end end ++ behind ≡ part → ⊥
    no_feed end behind part one same =
        let aligned : part ++ 10 ∷ [] ≡ empty_line end ++ 10 ∷ (behind ++ 10 ∷ []) =
        ap (λ (t : List ℕ). t ++ 10 ∷ []) (sym same ∙ end_is end behind) ∙ append_assoc (print_line (empty_line end)) behind (10 ∷ [])
        ∙ append_assoc (empty_line end) (10 ∷ []) (behind ++ 10 ∷ []) in
        let both = run_unique is_line_byte part (empty_line end) (10 ∷ []) (10 ∷ (behind ++ 10 ∷ [])) one (empty_one end) refl refl aligned in
        let rests = ap length both.1 in
        let long = length-append behind (10 ∷ []) in
        omega arith

-- as many bytes as a trailer may have, with none of them ending it, are too many
pub long_trailer : (line : LineSoFar) (text more : List ℕ) → IsTrailerSoFar line text → trailer_limit ≤ length text → HasLongTrailer (text ++ more)
long_trailer line text more is long =
    let whole = length-append text more in
    record {
      long = omega arith;
      none = λ (front rest : List ℕ). λ same trailer.
          let short = trailer.short in
          let inside : length front ≤ length text = omega arith in
          let front_is : take (length front) text ≡ front =
          sym (take-append-le (length front) text more inside) ∙ ap (take (length front)) same ∙ take-append_seam front rest in
          let behind = drop (length front) text in
          let text_is : text ≡ front ++ behind =
          sym (take-append-drop (length front) text) ∙ ap (λ (t : List ℕ). t ++ behind) front_is in
          no_front line text front behind is trailer text_is;
    }

-- ---- what the code keeps

-- the text behind one byte more
more_text : (text piece : List ℕ) (at : ℕ) → at < length piece
    → text ++ take (at + 1) piece ≡ (text ++ take at piece) ++ get_or piece at 0 ∷ []
more_text text piece at inside =
    ap (λ (t : List ℕ). text ++ t) (take_more piece at 0 inside) ∙ sym (append_assoc text (take at piece) (get_or piece at 0 ∷ []))

goes_on : (line : LineSoFar) (byte : ℕ) (ends : Bool) → IsTrue ends ↔ ((byte ≡ 10) × (line ≢ Filled)) → ends ≡ false → byte ≡ 10 → line ≡ Filled
goes_on Filled byte ends test not_so feed = refl
goes_on Empty byte ends test not_so feed = absurd (both_ways ends not_so (test.1 (feed, λ e. absurd (cc))))
goes_on Return byte ends test not_so feed = absurd (both_ways ends not_so (test.1 (feed, λ e. absurd (cc))))

pub one_more : (line : LineSoFar) (text piece : List ℕ) (at : ℕ) (ends : Bool) → at < length piece
    → IsTrue ends ↔ ((get_or piece at 0 ≡ 10) × (line ≢ Filled)) → ends ≡ false → IsTrailerSoFar line (text ++ take at piece)
    → IsTrailerSoFar (line_behind line (get_or piece at 0)) (text ++ take (at + 1) piece)
one_more line text piece at ends inside test not_so is =
    let byte = get_or piece at 0 in
    let P : List ℕ → Type 0 = λ t. IsTrailerSoFar (line_behind line byte) t in
    subst P (sym (more_text text piece at inside)) (behind_one line (text ++ take at piece) byte (goes_on line byte ends test not_so) is)

pub one_last : (line : LineSoFar) (text piece : List ℕ) (at before : ℕ) (ends : Bool) → at < length piece
    → IsTrue ends ↔ ((get_or piece at 0 ≡ 10) × (line ≢ Filled)) → ends ≡ true → length text ≡ before → before + at < trailer_limit
    → IsTrailerSoFar line (text ++ take at piece) → IsTrailer (text ++ take (at + 1) piece)
one_last line text piece at before ends inside test is_so same few is =
    let both = test.0 is_so in
    let long = length-append text (take at piece) in
    let front = length-take-le at piece (let i : at ≤ length piece = omega arith in i) in
    let P : List ℕ → Type 0 = λ t. IsTrailer t in
    subst P (sym (more_text text piece at inside))
    (behind_last line (text ++ take at piece) (get_or piece at 0) both.0 both.1 is (omega arith))

pub too_long : (line : LineSoFar) (text piece : List ℕ) (at before : ℕ) → at < length piece → length text ≡ before
    → trailer_limit ≤ before + (at + 1) → IsTrailerSoFar line (text ++ take (at + 1) piece) → HasLongTrailer (text ++ piece)
too_long line text piece at before inside same long is =
    let front = length-take-le (at + 1) piece (let i : at + 1 ≤ length piece = omega arith in i) in
    let whole = length-append text (take (at + 1) piece) in
    let P : List ℕ → Type 0 = λ t. HasLongTrailer t in
    let pieces = append_assoc text (take (at + 1) piece) (drop (at + 1) piece)
    ∙ ap (λ (t : List ℕ). text ++ t) (take-append-drop (at + 1) piece) in
    subst P pieces (long_trailer line (text ++ take (at + 1) piece) (drop (at + 1) piece) is (omega arith))
