-- Spans of time in a document.
use Rattle.std.proofs.Common.{◌≡◌, ◌≤◌, ◌<◌, ◌∙◌, ◌/◌, ◌^◌, ℕ, true, false, true≢false, List, [], ◌∷◌, ap, length, refl, sym, subst, inl, inr, arith}
use Rattle.std.specs.List.{list_all}
use Rattle.std.specs.Prelude.{◌⊎◌, Option, Result, Ok, sum_by}
use Rattle.ld_json.specs.Node.{NodeView}
use Rattle.ld_json.specs.Pointer.{member_path}
use Rattle.ld_json.specs.Rules.{Accepts}
use Rattle.ld_num.specs.Duration.{IsDuration, IsDurationRefusal, IsNumber, Term, is_known, is_short, longest, term_length}
use Rattle.ld_num.specs.declared.fault.NumFault.{NumFault}
use Rattle.ld_num.specs.declared.fault.NumFault.TheVariants.{Empty, BadDigit, ZeroDenominator, TooLarge, BadUnit, NotWhole, Memory}
use Rattle.ld_num.proofs.DurationLemmas.{none_of_empty, not_refused_duration, one_duration}
use Rattle.ld_script.specs.Fields.{given}
use Rattle.ld_script.specs.Ranges.{IsWithin}
use Rattle.ld_script.proofs.AnswerLemmas.{ok_accepts, ok_same}
use Rattle.ld_script.specs.Fault.{Refused}
use Rattle.ld_script.specs.Times.{IsSpan, RefusesSpan, RefusesTime, span_text}
use Rattle.ld_script.specs.declared.fault.ScriptFault.{ScriptFault}
use Rattle.ld_script.specs.declared.range.Range.{Range}

-- an answer that is Ok isn't refused, nor is what it holds
pub neither : {A : Type 0} → (answer : Result A ScriptFault) (x : A) (Refuses : A → Type 0) → answer ≡ Ok x → (Refuses x → ⊥) →
    (fault : ScriptFault) → Refused answer fault ⊎ ((y : A) × (answer ≡ Ok y) × Refuses y) → ⊥
neither answer x Refuses is accepts fault (inl refused) = ok_accepts answer x is fault refused
neither answer x Refuses is accepts fault (inr r) = accepts (subst Refuses (ok_same r.0 x (sym r.1 ∙ is)) r.2)

-- a text has one length
pub one_span : (text : List ℕ) (n m : ℕ) → IsSpan text n → IsSpan text m → n ≡ m
one_span text n m a b =
    a.2.sum ∙ ap (λ terms. sum_by term_length terms / 10 ^ 9) (one_duration text a.0 b.0 a.1 b.1) ∙ sym b.2.sum

-- a span within its range isn't refused
pub span_accepts : (range : Range) (path text : List ℕ) (n : ℕ) → IsSpan text n → IsWithin range.least range.most n →
    ((cause : NumFault) → IsDurationRefusal text cause → ⊥) → Accepts (RefusesSpan range path text)
span_accepts range path text n span within unrefused fault (inl r) = unrefused r.0 r.1
span_accepts range path text n span within unrefused fault (inr r) =
    r.2 (subst (IsWithin range.least range.most) (one_span text n r.0 span r.1) within)

-- a field whose span isn't refused isn't refused
pub time_accepts : (range : Range) (default : Option (List ℕ)) (node : NodeView) (name text : List ℕ) →
    given span_text default node name ≡ Ok text → Accepts (RefusesSpan range (member_path node.path name) text) →
    Accepts (RefusesTime range default node name)
time_accepts range default node name text holds accepts fault refuses =
    neither (given span_text default node name) text (λ t. RefusesSpan range (member_path node.path name) t fault) holds (accepts fault) fault refuses.refused

-- the empty text is no number
not_a_number : IsNumber [] → ⊥
not_a_number number = let some = number.some in absurd (omega arith)

-- a duration isn't written as the empty text
none_written : (text : List ℕ) (ts : List Term) → text ≡ [] → IsDuration text ts → ⊥
none_written text ts empty (inl are) = none_of_empty text (ap length empty) ts are
none_written text ts empty (inr number) = not_a_number (subst IsNumber empty number.0)

-- the terms of one text are the same
units_differ : (text : List ℕ) (ts us : List Term) → IsDuration text ts → IsDuration text us → list_all is_known ts ≡ false → list_all is_known us ≡ true → ⊥
units_differ text ts us of_ts of_us unknown known =
    true≢false (sym known ∙ sym (ap (list_all is_known) (one_duration text ts us of_ts of_us)) ∙ unknown)

sums_differ : (text : List ℕ) (ts us : List Term) → IsDuration text ts → IsDuration text us → (list_all is_short ts ≡ true → longest < sum_by term_length ts) → list_all is_short us ≡ true →
    sum_by term_length us ≤ longest → ⊥
sums_differ text ts us of_ts of_us long short small =
    let same = one_duration text ts us of_ts of_us in
    let over : longest < sum_by term_length ts = long (ap (list_all is_short) same ∙ short) in
    let sums : sum_by term_length ts ≡ sum_by term_length us = ap (sum_by term_length) same in
    absurd (omega arith)

-- a text is refused as a duration for one cause
pub one_cause : (text : List ℕ) (f g : NumFault) → IsDurationRefusal text f → IsDurationRefusal text g → f ≡ g
one_cause text Empty Empty l r = refl
one_cause text Empty BadDigit l r = absurd (r.0 l)
one_cause text Empty BadUnit l r = absurd (none_written text r.0 l r.1)
one_cause text Empty TooLarge l r = absurd (none_written text r.0 l r.1)
one_cause text Empty NotWhole l r = absurd (none_written text r.0 l r.1)
one_cause text Empty ZeroDenominator l r = absurd r
one_cause text Empty Memory l r = absurd r
one_cause text BadDigit Empty l r = absurd (l.0 r)
one_cause text BadDigit BadDigit l r = refl
one_cause text BadDigit BadUnit l r = absurd (l.1 r.0 r.1)
one_cause text BadDigit TooLarge l r = absurd (l.1 r.0 r.1)
one_cause text BadDigit NotWhole l r = absurd (l.1 r.0 r.1)
one_cause text BadDigit ZeroDenominator l r = absurd r
one_cause text BadDigit Memory l r = absurd r
one_cause text BadUnit Empty l r = absurd (none_written text l.0 r l.1)
one_cause text BadUnit BadDigit l r = absurd (r.1 l.0 l.1)
one_cause text BadUnit BadUnit l r = refl
one_cause text BadUnit TooLarge l r = absurd (units_differ text l.0 r.0 l.1 r.1 l.2 r.2.0)
one_cause text BadUnit NotWhole l r = absurd (units_differ text l.0 r.0 l.1 r.1 l.2 r.2.0)
one_cause text BadUnit ZeroDenominator l r = absurd r
one_cause text BadUnit Memory l r = absurd r
one_cause text TooLarge Empty l r = absurd (none_written text l.0 r l.1)
one_cause text TooLarge BadDigit l r = absurd (r.1 l.0 l.1)
one_cause text TooLarge BadUnit l r = absurd (units_differ text r.0 l.0 r.1 l.1 r.2 l.2.0)
one_cause text TooLarge TooLarge l r = refl
one_cause text TooLarge NotWhole l r = absurd (sums_differ text l.0 r.0 l.1 r.1 l.2.1 r.2.1 r.2.2)
one_cause text TooLarge ZeroDenominator l r = absurd r
one_cause text TooLarge Memory l r = absurd r
one_cause text NotWhole Empty l r = absurd (none_written text l.0 r l.1)
one_cause text NotWhole BadDigit l r = absurd (r.1 l.0 l.1)
one_cause text NotWhole BadUnit l r = absurd (units_differ text r.0 l.0 r.1 l.1 r.2 l.2.0)
one_cause text NotWhole TooLarge l r = absurd (sums_differ text r.0 l.0 r.1 l.1 r.2.1 l.2.1 l.2.2)
one_cause text NotWhole NotWhole l r = refl
one_cause text NotWhole ZeroDenominator l r = absurd r
one_cause text NotWhole Memory l r = absurd r
one_cause text ZeroDenominator g l r = absurd l
one_cause text Memory g l r = absurd l

-- a text that is a span isn't refused as a duration
pub spans_read : (text : List ℕ) (f : NumFault) (n : ℕ) → IsSpan text n → IsDurationRefusal text f → ⊥
spans_read [] f n span refused = none_written [] span.0 refl span.1
spans_read (x ∷ xs) f n span refused = not_refused_duration (x ∷ xs) span.0 n (omega arith) span.1 span.2 f refused
