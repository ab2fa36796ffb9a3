-- Segments and sequences as they are printed hold digits, strokes, colons and commas alone.
use Rattle.std.proofs.Common.{◌+◌, mod-lt, ◌≡◌, ◌<◌, ◌∙◌, ◌++◌, ◌∷◌, [], ℕ, zero, suc, Bool, true, false, cond, List, length, arith, refl, ap, subst}
use Rattle.std.specs.Prelude.{◌==◌, ◌%◌, ◌/◌, decimal}
use Rattle.std.specs.Fmt.{digit_glyph, digits, digits_onto}
use Rattle.std.specs.Str.Parse.{AllDigits}
use Rattle.std.specs.Char.{is_ascii_digit}
use Rattle.std.specs.List.{list_all}
use Rattle.std.proofs.lemmas.Bool.{and_parts, lt-ltb}
use Rattle.std.proofs.lemmas.Fmt.{decimal_digit, decimal_is_IsNumeral}
use Rattle.std.proofs.lemmas.List.{length-append}
use Rattle.std.proofs.lemmas.List.Folds.{list_all-append}
use Rattle.std.proofs.lemmas.List.Sums.{AllPass-from_list_all}
use Rattle.ld_journal.specs.Writable.{is_cut_byte, IsCutText}
use Rattle.ld_num.proofs.DigitLemmas.{test_from_digits}
use Rattle.ld_num.specs.declared.fraction.Frac.{Frac}
use Rattle.ld_segment.specs.Printed.{point_text, segment_text, sequence_text}

abbrev AreCut : List ℕ → Type 0
AreCut text = list_all is_cut_byte text ≡ true

glyph_is : (d : ℕ) → d < 10 → is_cut_byte (digit_glyph false d) ≡ true
glyph_is d small =
    let digits = subst (AllDigits 10) (decimal_digit d small) (decimal_is_IsNumeral d (omega arith)).0.1 in
    let digit : is_ascii_digit (48 + d) ≡ true = (and_parts (is_ascii_digit (48 + d)) true (test_from_digits ((48 + d) ∷ []) digits)).0 in
    let glyph : digit_glyph false d ≡ 48 + d = ap (λ (b : Bool). cond b (48 + d) (87 + d)) (lt-ltb d 10 small) in
    ap is_cut_byte glyph ∙ rw digit refl

onto_are : (k n : ℕ) (acc : List ℕ) → AreCut acc → AreCut (digits_onto k 10 false n acc)
onto_are zero n acc all = all
onto_are (suc k) n acc all =
    let glyph = glyph_is (n % 10) (mod-lt n (omega arith)) in
    let more : AreCut (digit_glyph false (n % 10) ∷ acc) = rw (glyph, all) refl in
    elim (n / 10 == 0) as (λ b. AreCut (cond b (digit_glyph false (n % 10) ∷ acc) (digits_onto k 10 false (n / 10) (digit_glyph false (n % 10) ∷ acc)))) [
      | true ↦ more
      | false ↦ onto_are k (n / 10) (digit_glyph false (n % 10) ∷ acc) more
    ]

decimal_is : (n : ℕ) → AreCut (decimal n)
unfolding digits
decimal_is n = onto_are 64 n [] refl

both : (xs ys : List ℕ) → AreCut xs → AreCut ys → AreCut (xs ++ ys)
both xs ys one two = list_all-append is_cut_byte xs ys ∙ rw (one, two) refl

point_is : (p : Frac) → AreCut (point_text p)
point_is p = elim (p.den == 1) as (λ b. AreCut (cond b (decimal p.num) (decimal p.num ++ 47 ∷ decimal p.den))) [
  | true ↦ decimal_is p.num
  | false ↦ both (decimal p.num) (47 ∷ decimal p.den) (decimal_is p.num) (rw (decimal_is p.den) refl)
]

points_are : (ps : List Frac) → AreCut (sequence_text ps)
points_are [] = refl
points_are (p ∷ []) = point_is p
points_are (p ∷ q ∷ ps) = both (point_text p) (44 ∷ sequence_text (q ∷ ps)) (point_is p) (rw (points_are (q ∷ ps)) refl)

-- ---- and they aren't empty

onto_some : (k n x : ℕ) (acc : List ℕ) → 0 < length (digits_onto k 10 false n (x ∷ acc))
onto_some zero n x acc = omega arith
onto_some (suc k) n x acc = elim (n / 10 == 0) as (λ b. 0 < length (cond b (digit_glyph false (n % 10) ∷ x ∷ acc) (digits_onto k 10 false (n / 10) (digit_glyph false (n % 10) ∷ x ∷ acc)))) [
  | true ↦ omega arith
  | false ↦ onto_some k (n / 10) (digit_glyph false (n % 10)) (x ∷ acc)
]

decimal_some : (n : ℕ) → 0 < length (decimal n)
unfolding digits
decimal_some n = elim (n / 10 == 0) as (λ b. 0 < length (cond b (digit_glyph false (n % 10) ∷ []) (digits_onto 63 10 false (n / 10) (digit_glyph false (n % 10) ∷ [])))) [
  | true ↦ omega arith
  | false ↦ onto_some 63 (n / 10) (digit_glyph false (n % 10)) []
]

front_some : (xs ys : List ℕ) → 0 < length xs → 0 < length (xs ++ ys)
front_some xs ys some = let sum : length (xs ++ ys) ≡ length xs + length ys = length-append xs ys in omega arith

point_some : (p : Frac) → 0 < length (point_text p)
point_some p = elim (p.den == 1) as (λ b. 0 < length (cond b (decimal p.num) (decimal p.num ++ 47 ∷ decimal p.den))) [
  | true ↦ decimal_some p.num
  | false ↦ front_some (decimal p.num) (47 ∷ decimal p.den) (decimal_some p.num)
]

points_some : (ps : List Frac) → 0 < length ps → 0 < length (sequence_text ps)
points_some [] some = absurd (omega arith)
points_some (p ∷ []) some = point_some p
points_some (p ∷ q ∷ ps) some = front_some (point_text p) (44 ∷ sequence_text (q ∷ ps)) (point_some p)

cut_text : (text : List ℕ) → 0 < length text → AreCut text → IsCutText text
cut_text text some are = record { some = some; bytes = AllPass-from_list_all is_cut_byte text are }

pub segment_cut : (from to : Frac) → IsCutText (segment_text from to)
segment_cut from to =
    cut_text (segment_text from to) (front_some (point_text from) (58 ∷ point_text to) (point_some from))
    (both (point_text from) (58 ∷ point_text to) (point_is from) (rw (point_is to) refl))

pub sequence_cut : (points : List Frac) → 0 < length points → IsCutText (sequence_text points)
sequence_cut points some = cut_text (sequence_text points) (points_some points some) (points_are points)
