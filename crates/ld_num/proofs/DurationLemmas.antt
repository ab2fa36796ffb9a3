-- The terms of a text.
use Rattle.std.proofs.Common.{◌≡◌, ◌<◌, ◌+◌, ◌∙◌, ◌∷◌, ◌++◌, [], ℕ, suc, List, Bool, true, false, length, take, drop, arith, ap, ap₂, sym, subst, refl, length-append, append_assoc, append-nil}
use Rattle.std.specs.Prelude.{◌↔◌, ◌&&◌, IsTrue, not, Result, Ok, Err, IfOk, sum_by}
use Rattle.std.proofs.Common.{inl, inr}
use Rattle.std.specs.Char.{is_ascii_digit}
use Rattle.std.specs.Int.{IsInRange}
use Rattle.std.specs.List.{AllByRecursion, list_all, flat_map, position_or_len}
use Rattle.std.specs.Str.Parse.{AllDigits}
use Rattle.std.proofs.Math.Seq.{take-append_seam, drop-append_seam}
use Rattle.std.proofs.lemmas.List.{take-append-drop}
use Rattle.std.proofs.lemmas.Bool.{and_parts}
use Rattle.std.proofs.lemmas.Bool.Decides.{nat_tests}
use Rattle.std.proofs.lemmas.Grind.{flat_map-append}
use Rattle.std.proofs.lemmas.Str.Parse.{digit_from_value}
use Rattle.ld_num.specs.Written.{point}
use Rattle.ld_num.specs.Duration.{IsNumber, Term, IsTerm, IsList, AreTerms, IsDuration, HaveLength, IsDurationRefusal, Answers, is_known, is_short, is_whole, term_length, longest, is_number_byte, term_spelling, whole_of, part_of}
use Rattle.ld_num.specs.Tally.{Tallies, first_term, behind_term, number_end, unit_end}
use Rattle.ld_num.specs.Shape.{has}
use Rattle.ld_num.specs.declared.tally.Tally.{Tally}
use Rattle.ld_num.specs.declared.fault.NumFault.{NumFault}
use Rattle.ld_num.specs.declared.fault.NumFault.TheVariants.{Empty, BadDigit, ZeroDenominator, TooLarge, BadUnit, NotWhole, Memory}
use Rattle.ld_num.proofs.DigitLemmas.{digits_from_test, test_from_digits}
use Rattle.ld_num.proofs.ShapeLemmas.{rejoined, has_whole}

both_true : (a b : Bool) → a ≡ true → b ≡ true → (a && b) ≡ true
both_true a b of_a of_b = rw (of_a, of_b)

pub number_test : (text whole part : List ℕ) (b : Bool) → whole ≡ whole_of text → part ≡ part_of text →
    0 < length whole + length part → b ≡ (list_all is_ascii_digit whole && list_all is_ascii_digit part) →
    IsTrue b ↔ IsNumber text
number_test text whole part b whole_is part_is some is = (
  λ passed. let both = and_parts (list_all is_ascii_digit whole) (list_all is_ascii_digit part) (sym is ∙ passed) in record {
    whole = subst (AllDigits 10) whole_is (digits_from_test whole both.0);
    part = subst (AllDigits 10) part_is (digits_from_test part both.1);
    some = subst (λ w. 0 < length w + length (part_of text)) whole_is (subst (λ p. 0 < length whole + length p) part_is some);
  },
  λ number. is ∙ both_true (list_all is_ascii_digit whole) (list_all is_ascii_digit part)
      (test_from_digits whole (subst (AllDigits 10) (sym whole_is) number.whole))
      (test_from_digits part (subst (AllDigits 10) (sym part_is) number.part)),
)

-- each byte passes a test
abbrev Pass : (ℕ → Bool) → List ℕ → Type 0
Pass p text = AllByRecursion (λ b. p b ≡ true) text

abbrev Fail : (ℕ → Bool) → List ℕ → Type 0
Fail p text = AllByRecursion (λ b. p b ≡ false) text

append_pass : (p : ℕ → Bool) (a b : List ℕ) → Pass p a → Pass p b → Pass p (a ++ b)
append_pass p [] b of_a of_b = of_b
append_pass p (x ∷ a) b of_a of_b = (of_a.0, append_pass p a b of_a.1 of_b)

pass_behind : (p : ℕ → Bool) (a b : List ℕ) → Pass p (a ++ b) → Pass p b
pass_behind p [] b all = all
pass_behind p (x ∷ a) b all = pass_behind p a b all.1

digit_passes : (c : ℕ) → IsInRange 48 57 c → is_number_byte c ≡ true
digit_passes c inside = grind (arith, nat_tests)

digits_pass : (digits : List ℕ) → AllDigits 10 digits → Pass is_number_byte digits
digits_pass [] all = tt
digits_pass (c ∷ cs) all = (digit_passes c (digit_from_value c all.0), digits_pass cs all.1)

number_passes : (number : List ℕ) → IsNumber number → Pass is_number_byte number
number_passes number is = decided (has point number) refl
  where
    decided : (b : Bool) → has point number ≡ b → Pass is_number_byte number
    decided true there =
        rw (rejoined point number there)
        (append_pass is_number_byte (whole_of number) (point ∷ part_of number) (digits_pass (whole_of number) is.whole)
        (refl, digits_pass (part_of number) is.part))
    decided false none = subst (Pass is_number_byte) (has_whole point number none) (digits_pass (whole_of number) is.whole)

-- the first place of a byte that passes, behind those that fail
place_behind : (p : ℕ → Bool) (a : List ℕ) (x : ℕ) (b : List ℕ) → Fail p a → p x ≡ true →
    position_or_len p (a ++ x ∷ b) ≡ length a
place_behind p [] x b fails passes = rw passes
place_behind p (y ∷ a) x b fails passes = let rest = place_behind p a x b fails.1 passes in rw fails.0 (omega arith)

place_nowhere : (p : ℕ → Bool) (a : List ℕ) → Fail p a → position_or_len p a ≡ length a
place_nowhere p [] fails = refl
place_nowhere p (y ∷ a) fails = let rest = place_nowhere p a fails.1 in rw fails.0 (omega arith)

others_fail : (a : List ℕ) → Pass is_number_byte a → Fail (λ b. not (is_number_byte b)) a
others_fail [] pass = tt
others_fail (x ∷ a) pass = (ap not pass.0, others_fail a pass.1)

number_ends : (number : List ℕ) (unit rest : List ℕ) → Pass is_number_byte number → 0 < length unit → Fail is_number_byte unit →
    number_end (number ++ (unit ++ rest)) ≡ length number
number_ends number [] rest pass some fails = absurd (omega arith)
number_ends number (u ∷ unit) rest pass some fails =
    place_behind (λ b. not (is_number_byte b)) number u (unit ++ rest) (others_fail number pass) (ap not fails.0)

unit_ends_at : (unit number rest : List ℕ) → Fail is_number_byte unit → Pass is_number_byte number → 0 < length number →
    unit_end (unit ++ (number ++ rest)) ≡ length unit
unit_ends_at unit [] rest fails pass some = absurd (omega arith)
unit_ends_at unit (x ∷ number) rest fails pass some = place_behind is_number_byte unit x (number ++ rest) fails pass.0

number_some : (number : List ℕ) → IsNumber number → 0 < length number
number_some [] is = absurd (let some = is.some in omega arith)
number_some (x ∷ number) is = omega arith

unit_ends : (unit : List ℕ) (terms : List Term) → Fail is_number_byte unit → AllByRecursion IsTerm terms →
    unit_end (unit ++ flat_map term_spelling terms) ≡ length unit
unit_ends unit [] fails each = ap unit_end (append-nil unit) ∙ place_nowhere is_number_byte unit fails
unit_ends unit (t ∷ terms) fails each =
    ap (λ r. unit_end (unit ++ r)) (append_assoc t.number t.unit (flat_map term_spelling terms))
    ∙ unit_ends_at unit t.number (t.unit ++ flat_map term_spelling terms) fails (number_passes t.number each.0.number) (number_some t.number each.0.number)

-- behind the number of the first term stands its unit
number_in_front : (t : Term) (rest : List ℕ) → IsTerm t → number_end (t.number ++ (t.unit ++ rest)) ≡ length t.number
number_in_front t rest is = number_ends t.number t.unit rest (number_passes t.number is.number) is.some is.unit

unfoldable pub term_of : List ℕ → List ℕ → Term
term_of number unit = record { number = number; unit = unit }

-- the first of several terms, and the others, are what stands in front and behind
head_is : (t : Term) (terms : List Term) → IsTerm t → AllByRecursion IsTerm terms →
    first_term (term_spelling t ++ flat_map term_spelling terms) ≡ t
unfolding term_of
head_is t terms is each =
    let rest : List ℕ = flat_map term_spelling terms in
    let front : number_end (t.number ++ (t.unit ++ rest)) ≡ length t.number = number_in_front t rest is in
    let behind : drop (number_end (t.number ++ (t.unit ++ rest))) (t.number ++ (t.unit ++ rest)) ≡ t.unit ++ rest =
    ap (λ k. drop k (t.number ++ (t.unit ++ rest))) front ∙ drop-append_seam t.number (t.unit ++ rest) in
    ap first_term (append_assoc t.number t.unit rest)
    ∙ ap₂ term_of
    (ap (λ k. take k (t.number ++ (t.unit ++ rest))) front ∙ take-append_seam t.number (t.unit ++ rest))
    (ap (λ b. take (unit_end b) b) behind
    ∙ ap (λ k. take k (t.unit ++ rest)) (unit_ends t.unit terms is.unit each)
    ∙ take-append_seam t.unit rest)

tail_is : (t : Term) (terms : List Term) → IsTerm t → AllByRecursion IsTerm terms →
    behind_term (term_spelling t ++ flat_map term_spelling terms) ≡ flat_map term_spelling terms
tail_is t terms is each =
    let rest : List ℕ = flat_map term_spelling terms in
    let front : number_end (t.number ++ (t.unit ++ rest)) ≡ length t.number = number_in_front t rest is in
    let behind : drop (number_end (t.number ++ (t.unit ++ rest))) (t.number ++ (t.unit ++ rest)) ≡ t.unit ++ rest =
    ap (λ k. drop k (t.number ++ (t.unit ++ rest))) front ∙ drop-append_seam t.number (t.unit ++ rest) in
    ap behind_term (append_assoc t.number t.unit rest)
    ∙ ap (λ b. drop (unit_end b) b) behind
    ∙ ap (λ k. drop k (t.unit ++ rest)) (unit_ends t.unit terms is.unit each)
    ∙ drop-append_seam t.unit rest

-- a text is what stands in front and what stands behind
front_and_behind : (text : List ℕ) → text ≡ term_spelling (first_term text) ++ behind_term text
front_and_behind text =
    let behind : List ℕ = drop (number_end text) text in
    sym (take-append-drop (number_end text) text)
    ∙ ap (λ b. take (number_end text) text ++ b) (sym (take-append-drop (unit_end behind) behind))
    ∙ sym (append_assoc (take (number_end text) text) (take (unit_end behind) behind) (drop (unit_end behind) behind))

front_fails_more : (p : ℕ → Bool) (x : ℕ) (text : List ℕ) (b : Bool) → p x ≡ b → Fail p (take (position_or_len p text) text) →
    Fail p (take (position_or_len p (x ∷ text)) (x ∷ text))
front_fails_more p x text true is rest = rw is tt
front_fails_more p x text false is rest = rw is (subst (λ n. Fail p (take n (x ∷ text)))
    (let e : suc (position_or_len p text) ≡ 1 + position_or_len p text = omega arith in e) (is, rest))

front_fails : (p : ℕ → Bool) (text : List ℕ) → Fail p (take (position_or_len p text) text)
front_fails p [] = tt
front_fails p (x ∷ text) = front_fails_more p x text (p x) refl (front_fails p text)

-- how far the reading of the terms has come
pub record Reached (text rest : List ℕ) (tally : Tally) : Type 0 where
  pub done : List Term
  pub spelled : text ≡ flat_map term_spelling done ++ rest
  pub each : AllByRecursion IsTerm done
  pub tallied : Tallies done tally
  pub complete : (terms : List Term) → IsList text terms → (more : List Term) × IsList rest more

pub reached_none : (text : List ℕ) (tally : Tally) → Tallies [] tally → Reached text text tally
reached_none text tally none = record {
  done = [];
  spelled = refl;
  each = tt;
  tallied = none;
  complete = λ terms is. (terms, is);
}

-- terms of a text that isn't empty begin with the one in front
pub record Begins (rest : List ℕ) : Type 0 where
  pub others : List Term
  pub first : IsTerm (first_term rest)
  pub behind : IsList (behind_term rest) others

begins : (rest : List ℕ) (terms : List Term) → 0 < length rest → IsList rest terms → Begins rest
begins rest [] some is = absurd (let none : length rest ≡ 0 = ap length is.spelled in omega arith)
begins rest (t ∷ terms) some is =
    let head : first_term rest ≡ t = ap first_term is.spelled ∙ head_is t terms is.each.0 is.each.1 in
    let tail : behind_term rest ≡ flat_map term_spelling terms = ap behind_term is.spelled ∙ tail_is t terms is.each.0 is.each.1 in
    record {
      others = terms;
      first = subst IsTerm (sym head) is.each.0;
      behind = record { spelled = tail; each = is.each.1 };
    }

append_each : (ts : List Term) (t : Term) → AllByRecursion IsTerm ts → IsTerm t → AllByRecursion IsTerm (ts ++ t ∷ [])
append_each [] t each is = (is, tt)
append_each (s ∷ ts) t each is = (each.0, append_each ts t each.1 is)

flat_push : (ts : List Term) (t : Term) → flat_map term_spelling (ts ++ t ∷ []) ≡ flat_map term_spelling ts ++ term_spelling t
flat_push ts t =
    flat_map-append term_spelling ts (t ∷ []) ∙ ap (λ b. flat_map term_spelling ts ++ b) (append-nil (term_spelling t))

pub first_is_term : (rest : List ℕ) → IsNumber (first_term rest).number → 0 < length (first_term rest).unit → IsTerm (first_term rest)
first_is_term rest number some = record {
  number = number;
  some = some;
  unit = front_fails is_number_byte (drop (number_end rest) rest);
}

pub reached_more : (text rest : List ℕ) (tally next : Tally) → 0 < length rest → IsTerm (first_term rest) →
    ((ts : List Term) → Tallies ts tally → Tallies (ts ++ first_term rest ∷ []) next) →
    Reached text rest tally → Reached text (behind_term rest) next
reached_more text rest tally next some is adds so_far = record {
  done = so_far.done ++ first_term rest ∷ [];
  spelled =
      so_far.spelled
      ∙ ap (λ r. flat_map term_spelling so_far.done ++ r) (front_and_behind rest)
      ∙ sym (append_assoc (flat_map term_spelling so_far.done) (term_spelling (first_term rest)) (behind_term rest))
      ∙ ap (λ f. f ++ behind_term rest) (sym (flat_push so_far.done (first_term rest)));
  each = append_each so_far.done (first_term rest) so_far.each is;
  tallied = adds so_far.done so_far.tallied;
  complete = λ terms list.
      let more = so_far.complete terms list in
      let begun = begins rest more.0 some more.1 in
      (begun.others, begun.behind);
}

-- where no term stands in front, the text is no terms
pub not_terms : (text rest : List ℕ) (tally : Tally) → 0 < length rest → (IsTerm (first_term rest) → ⊥) →
    Reached text rest tally → (terms : List Term) → AreTerms text terms → ⊥
not_terms text rest tally some not_term so_far terms are =
    let more = so_far.complete terms are.list in
    not_term (begins rest more.0 some more.1).first

pub all_terms : (text rest : List ℕ) (tally : Tally) → 0 < length text → length rest ≡ 0 → Reached text rest tally →
    (ts : List Term) × AreTerms text ts × Tallies ts tally
all_terms text [] tally some none reached =
    let spelled : text ≡ flat_map term_spelling reached.done = reached.spelled ∙ append-nil (flat_map term_spelling reached.done) in
    (reached.done, record { list = record { spelled = spelled; each = reached.each }; some = not_none reached.done spelled }, reached.tallied)
  where
    not_none : (ts : List Term) → text ≡ flat_map term_spelling ts → 0 < length ts
    not_none [] is = absurd (let nothing : length text ≡ 0 = ap length is in omega arith)
    not_none (t ∷ ts) is = omega arith
all_terms text (x ∷ rest) tally some none reached = absurd (omega arith)

pub behind_shorter : (rest : List ℕ) → 0 < length (first_term rest).unit → length (behind_term rest) < length rest
behind_shorter rest some =
    let whole : length rest ≡ length (term_spelling (first_term rest) ++ behind_term rest) = ap length (front_and_behind rest) in
    let parts = length-append (term_spelling (first_term rest)) (behind_term rest) in
    let front = length-append (first_term rest).number (first_term rest).unit in
    omega arith

-- an empty text begins with no term
nothing_begins : (text : List ℕ) (t : Term) (ts : List Term) → text ≡ [] → IsList text (t ∷ ts) → ⊥
nothing_begins text t ts none is =
    let long : length text ≡ length (term_spelling t ++ flat_map term_spelling ts) = ap length is.spelled in
    let empty : length text ≡ 0 = ap length none in
    let parts = length-append (term_spelling t) (flat_map term_spelling ts) in
    let front = length-append t.number t.unit in
    let some = is.each.0.some in
    omega arith

-- a text is one list of terms
lists_same : (text : List ℕ) (ts us : List Term) → IsList text ts → IsList text us → ts ≡ us
lists_same text [] [] left right = refl
lists_same text [] (u ∷ us) left right = absurd (nothing_begins text u us left.spelled right)
lists_same text (t ∷ ts) [] left right = absurd (nothing_begins text t ts right.spelled left)
lists_same text (t ∷ ts) (u ∷ us) left right =
    let head : first_term text ≡ t = ap first_term left.spelled ∙ head_is t ts left.each.0 left.each.1 in
    let head' : first_term text ≡ u = ap first_term right.spelled ∙ head_is u us right.each.0 right.each.1 in
    let tail : behind_term text ≡ flat_map term_spelling ts = ap behind_term left.spelled ∙ tail_is t ts left.each.0 left.each.1 in
    let tail' : behind_term text ≡ flat_map term_spelling us = ap behind_term right.spelled ∙ tail_is u us right.each.0 right.each.1 in
    ap₂ (λ x xs. x ∷ xs) (sym head ∙ head')
    (lists_same (behind_term text) ts us (record { spelled = tail; each = left.each.1 }) (record { spelled = tail'; each = right.each.1 }))

front_of_all : (p : ℕ → Bool) (a b : List ℕ) → Pass p (a ++ b) → Pass p a
front_of_all p [] b all = tt
front_of_all p (x ∷ a) b all = (all.0, front_of_all p a b all.1)

first_clash : (unit : List ℕ) → 0 < length unit → Fail is_number_byte unit → Pass is_number_byte unit → ⊥
first_clash [] some fails pass = absurd (omega arith)
first_clash (x ∷ unit) some fails pass = let e : true ≡ false = sym pass.0 ∙ fails.0 in cc

-- a number alone is no list of terms
number_no_list : (text : List ℕ) (ts : List Term) → IsNumber text → AreTerms text ts → ⊥
number_no_list text [] number are = absurd (let some = are.some in omega arith)
number_no_list text (t ∷ ts) number are =
    first_clash t.unit are.list.each.0.some are.list.each.0.unit
    (front_of_all is_number_byte t.unit (flat_map term_spelling ts)
    (pass_behind is_number_byte t.number (t.unit ++ flat_map term_spelling ts)
    (subst (Pass is_number_byte) (are.list.spelled ∙ append_assoc t.number t.unit (flat_map term_spelling ts)) (number_passes text number))))

pub one_duration : (text : List ℕ) (ts us : List Term) → IsDuration text ts → IsDuration text us → ts ≡ us
one_duration text ts us (inl left) (inl right) = lists_same text ts us left.list right.list
one_duration text ts us (inl left) (inr right) = absurd (number_no_list text ts right.0 left)
one_duration text ts us (inr left) (inl right) = absurd (number_no_list text us left.0 right)
one_duration text ts us (inr left) (inr right) = left.1 ∙ sym right.1

pub none_of_empty : (text : List ℕ) → length text ≡ 0 → (ts : List Term) → AreTerms text ts → ⊥
none_of_empty text empty [] are = absurd (let some = are.some in omega arith)
none_of_empty [] empty (t ∷ ts) are = nothing_begins [] t ts refl are.list
none_of_empty (x ∷ text) empty (t ∷ ts) are = absurd (omega arith)

pub not_number : (b : Bool) (number n : List ℕ) → b ≡ false → IsTrue b ↔ IsNumber number → number ≡ n → IsNumber n → ⊥
not_number b number n refused test same is = let passed : b ≡ true = test.1 (subst IsNumber (sym same) is) in cc

pub is_number_of : (b : Bool) (number n : List ℕ) → b ≡ true → IsTrue b ↔ IsNumber number → number ≡ n → IsNumber n
is_number_of b number n passed test same = subst IsNumber same (test.0 passed)

pub adds_first : (number unit : List ℕ) (t : Term) (tally next : Tally) → number ≡ t.number → unit ≡ t.unit →
    ((ts : List Term) → Tallies ts tally → Tallies (ts ++ term_of number unit ∷ []) next) →
    (ts : List Term) → Tallies ts tally → Tallies (ts ++ t ∷ []) next
unfolding term_of
adds_first number unit t tally next same_number same_unit adds ts so_far =
    subst (λ (u : Term). Tallies (ts ++ u ∷ []) next) (ap₂ term_of same_number same_unit) (adds ts so_far)

pub not_refused_duration : (text : List ℕ) (ts : List Term) (n : ℕ) → 0 < length text → IsDuration text ts → HaveLength ts n →
    (f : NumFault) → IsDurationRefusal text f → ⊥
not_refused_duration text ts n some is have Empty refusal = absurd (let none : length text ≡ 0 = ap length refusal in omega arith)
not_refused_duration text ts n some is have BadDigit refusal = refusal.1 ts is
not_refused_duration text ts n some is have BadUnit refusal =
    let same : list_all is_known refusal.0 ≡ list_all is_known ts = ap (list_all is_known) (one_duration text refusal.0 ts refusal.1 is) in
    let e : true ≡ false = sym have.known ∙ sym same ∙ refusal.2 in cc
not_refused_duration text ts n some is have TooLarge refusal =
    let same : refusal.0 ≡ ts = one_duration text refusal.0 ts refusal.1 is in
    let over : longest < sum_by term_length refusal.0 = refusal.2.1 (ap (list_all is_short) same ∙ have.short) in
    let small = have.small in
    let sums : sum_by term_length refusal.0 ≡ sum_by term_length ts = ap (sum_by term_length) same in
    omega arith
not_refused_duration text ts n some is have NotWhole refusal =
    let same : list_all is_whole refusal.0 ≡ list_all is_whole ts = ap (list_all is_whole) (one_duration text refusal.0 ts refusal.1 is) in
    let e : true ≡ false = sym have.whole ∙ sym same ∙ refusal.2.3 in cc
not_refused_duration text ts n some is have ZeroDenominator refusal = refusal
not_refused_duration text ts n some is have Memory refusal = refusal

pub accepted_duration : (text : List ℕ) (ts : List Term) (result : Result ℕ NumFault) → 0 < length text →
    IsDuration text ts → Answers ts result → IfOk result (λ _. (f : NumFault) → IsDurationRefusal text f → ⊥)
accepted_duration text ts (Err f) some is answers = tt
accepted_duration text ts (Ok n) some is have = not_refused_duration text ts n some is have
