-- Values don't begin with a dash.
use Rattle.std.proofs.Common.{◌≡◌, ◌<◌, ℕ, Bool, true, false, true≢false, List, [], ◌∷◌, ◌++◌, Option, Some, None, ap, refl, sym, subst, arith, eqb-true, inl, inr, map, suc, take, get_or}
use Rattle.std.specs.Prelude.{◌==◌}
use Rattle.std.specs.List.{flat_map, onto_first, position_or_len, slice_split}
use Rattle.std.specs.Str.Parse.{AllDigits}
use Rattle.clap.specs.Lexer.{strip_byte}
use Rattle.ld_num.specs.Duration.{IsDuration, IsNumber, Term, term_spelling}
use Rattle.ld_words.specs.Number.{number_of}
use Rattle.ld_words.specs.Values.{IsValueOf}
use Rattle.ld_words.specs.Weights.{AreWeights}
use Rattle.ld_words.specs.declared.value.ValueKind.{ValueKind}
use Rattle.ld_words.specs.declared.value.ValueKind.TheVariants as kinds

-- what isn't a dash and more has no first dash
no_first_dash : (text : List ℕ) → ((rest : List ℕ) → text ≡ 45 ∷ rest → ⊥) → strip_byte 45 text ≡ None
no_first_dash [] other = refl
no_first_dash (x ∷ xs) other = go (x == 45) refl
  where
    go : (b : Bool) → (x == 45) ≡ b → strip_byte 45 (x ∷ xs) ≡ None
    go true is = absurd (other xs (ap (λ y. y ∷ xs) (eqb-true x 45 is)))
    go false is = rw is refl

-- a dash and more is no number
dash_no_number : (rest : List ℕ) (n : ℕ) → number_of (45 ∷ rest) ≡ Some n → ⊥
dash_no_number rest n is = let clash : ◌≡◌ {A = Option ℕ} None (Some n) = is in absurd cc

dash_no_part : (parts : List (List ℕ)) (weights : List ℕ) → map number_of (onto_first 45 parts) ≡ map Some weights → ⊥
dash_no_part [] [] is = absurd cc
dash_no_part [] (w ∷ ws) is = let clash : ◌≡◌ {A = List (Option ℕ)} (None ∷ []) (Some w ∷ map Some ws) = is in absurd cc
dash_no_part (p ∷ ps) [] is = absurd cc
dash_no_part (p ∷ ps) (w ∷ ws) is = let clash : ◌≡◌ {A = List (Option ℕ)} (None ∷ map number_of ps) (Some w ∷ map Some ws) = is in absurd cc

dash_no_weights : (rest weights : List ℕ) → AreWeights (45 ∷ rest) weights → ⊥
dash_no_weights rest weights (inl none) = let clash = none.0 in absurd cc
dash_no_weights rest weights (inr are) = dash_no_part (slice_split (λ b. b == 44) rest) weights are

-- a dash and more is no amount of time
dash_no_amount : (rest : List ℕ) → IsNumber (45 ∷ rest) → ⊥
dash_no_amount rest number =
    let cut = λ (n : ℕ). take n (45 ∷ rest) in
    let behind : position_or_len (λ b. b == 46) (45 ∷ rest) ≡ suc (position_or_len (λ b. b == 46) rest) = omega arith in
    let digits : AllDigits 10 (cut (suc (position_or_len (λ b. b == 46) rest))) = subst (λ n. AllDigits 10 (cut n)) behind number.whole in
    let digit : 36 < 10 = digits.0 in
    absurd (omega arith)

dash_no_term : (number unit others rest : List ℕ) → IsNumber number → 45 ∷ rest ≡ (number ++ unit) ++ others → ⊥
dash_no_term [] unit others rest is same = let some : 0 < 0 = is.some in absurd (omega arith)
dash_no_term (x ∷ xs) unit others rest is same =
    let first : x ≡ 45 = sym (ap (λ l. get_or l 0 0) same) in
    dash_no_amount xs (subst (λ y. IsNumber (y ∷ xs)) first is)

dash_no_duration : (rest : List ℕ) (terms : List Term) → IsDuration (45 ∷ rest) terms → ⊥
dash_no_duration rest [] (inl are) = let some : 0 < 0 = are.some in absurd (omega arith)
dash_no_duration rest (t ∷ ts) (inl are) = dash_no_term t.number t.unit (flat_map term_spelling ts) rest are.list.each.0.number are.list.spelled
dash_no_duration rest terms (inr number) = dash_no_amount rest number.0

pub dash_no_value : (kind : ValueKind) (rest : List ℕ) → IsValueOf kind (45 ∷ rest) → ⊥
dash_no_value kinds.Plain rest value = true≢false (sym value)
dash_no_value kinds.Number rest value = dash_no_number rest value.0 value.1
dash_no_value kinds.Count rest value = dash_no_number rest value.0 value.1.is
dash_no_value kinds.Span rest value = dash_no_duration rest value.1.terms value.1.written
dash_no_value kinds.Entries rest value = dash_no_number rest value.0 value.1.is
dash_no_value kinds.Weights rest value = dash_no_weights rest value.0 value.1
dash_no_value kinds.Flag rest value = value

-- a value doesn't begin with a dash
pub no_dash : (kind : ValueKind) (text : List ℕ) → IsValueOf kind text → strip_byte 45 text ≡ None
no_dash kind text value = no_first_dash text (λ rest is. dash_no_value kind rest (subst (IsValueOf kind) is value))
