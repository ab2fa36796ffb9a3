-- Values of options: durations have one length, and each kind has a value.
use Rattle.std.proofs.Common.{◌≡◌, ◌≢◌, ◌<◌, ◌∙◌, ◌∷◌, [], inl, inr, ℕ, List, length, true, false, arith, lit<, lit≤, refl, ap, sym, subst}
use Rattle.std.specs.Prelude.{◌/◌, ◌^◌, Bool, IsTrue, MatchOption, None, Option, Some, codes, is_some, sum_by}
use Rattle.ld_num.specs.Duration.{HaveLength, IsDuration, IsDurationRefusal, IsNumber, Term, milliseconds, term_length}
use Rattle.ld_num.specs.declared.fault.NumFault.{NumFault}
use Rattle.ld_num.proofs.DurationLemmas.{none_of_empty, not_refused_duration, one_duration}
use Rattle.ld_words.specs.Values.{IsSpan, IsValueOf}
use Rattle.ld_words.specs.declared.value.ValueKind.{ValueKind}
use Rattle.ld_words.specs.declared.value.ValueKind.TheVariants.{Plain, Number, Count, Span, Entries, Weights, Flag}

-- a text is a duration of one length
pub length_once : (text : List ℕ) (ts us : List Term) (m n : ℕ) → IsDuration text ts → HaveLength ts m →
    IsDuration text us → HaveLength us n → m ≡ n
length_once text ts us m n a la b lb =
    la.sum ∙ ap (λ xs. sum_by term_length xs / 10 ^ 9) (one_duration text ts us a b) ∙ sym lb.sum

pub span_once : (text : List ℕ) (m n : ℕ) → IsSpan text m → IsSpan text n → m ≡ n
span_once text m n a b = length_once text a.terms b.terms m n a.written a.long b.written b.long

duration_some : (text : List ℕ) (ts : List Term) → IsDuration text ts → 0 < length text
duration_some [] ts (inl are) = absurd (none_of_empty [] refl ts are)
duration_some [] ts (inr is) = absurd (let some = is.0.some in omega arith)
duration_some (b ∷ text) ts is = omega arith

-- a duration of no nanoseconds, and a text that is refused, are no span
pub zero_no_span : (text bytes : List ℕ) (m : ℕ) → bytes ≡ text → m ≡ 0 → ((ts : List Term) × IsDuration bytes ts × HaveLength ts m) →
    (n : ℕ) → IsSpan text n → ⊥
zero_no_span text bytes m same zero is n span =
    let some = span.some in
    let equal = length_once text is.0 span.terms m n (subst (λ t. IsDuration t is.0) same is.1) is.2 span.written span.long in
    omega arith

pub refused_no_span : (text bytes : List ℕ) (f : NumFault) → bytes ≡ text → IsDurationRefusal bytes f → (n : ℕ) → IsSpan text n → ⊥
refused_no_span text bytes f same refused n span =
    not_refused_duration text span.terms n (duration_some text span.terms span.written) span.written span.long f (subst (λ t. IsDurationRefusal t f) same refused)

-- ten milliseconds
ten_number : IsNumber (codes "10")
ten_number = record { whole = (lit< tt, (lit< tt, tt)); part = tt; some = lit< tt }

ten_span : IsSpan (codes "10") 10000000
ten_span = record {
  terms = milliseconds (codes "10") ∷ [];
  written = inr (ten_number, refl);
  long = record {
    known = refl;
    short = refl;
    small = lit≤ tt;
    whole = refl;
    sum = refl;
  };
  some = omega arith;
}

-- `10` is a value of each kind but a flag
pub sample : (k : ValueKind) → k ≢ Flag → IsValueOf k (codes "10")
sample Plain taken = refl
sample Number taken = (10, refl)
sample Count taken = (10, record { is = refl; enough = omega arith; few = omega arith })
sample Span taken = (10000000, ten_span)
sample Entries taken = (10, record { is = refl; enough = omega arith; few = omega arith })
sample Weights taken = (10 ∷ [], inr refl)
sample Flag taken = absurd (taken refl)

-- what the reading of a span says of a text
pub span_test : (kind : ValueKind) (text : List ℕ) (read : Option ℕ) (some : Bool) → kind ≡ Span → some ≡ is_some read →
    MatchOption read ((n : ℕ) → IsSpan text n → ⊥) (IsSpan text) → (IsTrue some → IsValueOf kind text) × (IsValueOf kind text → IsTrue some)
span_test kind text read some span is found =
    subst (λ k. (IsTrue some → IsValueOf k text) × (IsValueOf k text → IsTrue some)) (sym span) (step read (sym is) found)
  where
    step : (read : Option ℕ) → is_some read ≡ some → MatchOption read ((n : ℕ) → IsSpan text n → ⊥) (IsSpan text) →
        (IsTrue some → IsValueOf Span text) × (IsValueOf Span text → IsTrue some)
    step None is never = (λ yes_is. absurd (let clash = is ∙ yes_is in cc), λ value. absurd (never value.0 value.1))
    step (Some n) is span = (λ yes_is. (n, span), λ value. sym is)

-- what the test of a value says, of a kind that is the option's
pub valid_value : (k kind : ValueKind) (text : List ℕ) (test : Bool) → k ≡ kind → (IsTrue test → IsValueOf k text) × (IsValueOf k text → IsTrue test) →
    test ≡ true → IsValueOf kind text
valid_value k kind text test same is passed = subst (λ l. IsValueOf l text) same (is.0 passed)

pub no_value : (k kind : ValueKind) (text : List ℕ) (test : Bool) → k ≡ kind → (IsTrue test → IsValueOf k text) × (IsValueOf k text → IsTrue test) →
    test ≡ false → IsValueOf kind text → ⊥
no_value k kind text test same is failed value = let passed = is.1 (subst (λ l. IsValueOf l text) (sym same) value) in let clash = sym failed ∙ passed in cc
