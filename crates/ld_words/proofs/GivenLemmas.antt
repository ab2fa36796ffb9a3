-- Options that were read, one by one.
use Rattle.std.proofs.Common.{◌≡◌, ◌<◌, ◌+◌, ◌∙◌, ◌++◌, ◌∷◌, [], ℕ, zero, suc, List, length, get_or, take, true, false, arith, refl, ap, sym, subst}
use Rattle.std.specs.Prelude.{Bool, MatchOption, Option, Some, None}
use Rattle.std.proofs.lemmas.List.{map-append, take_more}
use Rattle.ld_words.specs.Options.{is_name, value_of, Given}
use Rattle.ld_words.specs.OptionWords.{given_by}
use Rattle.ld_words.specs.Values.{IsSpan}
use Rattle.ld_words.specs.Words.{SpanUnder}
use Rattle.ld_words.specs.declared.given.GivenOption.{GivenOption}
use Rattle.ld_words.specs.declared.option.OptionName.{OptionName}
use Rattle.ld_words.proofs.OptionLemmas.{value_of_none_more}

abbrev pub given_of : GivenOption → Given
given_of o = record { name = o.name; value = o.value.now }

pub given_by_more : (options : List GivenOption) (o : GivenOption) → given_by (options ++ o ∷ []) ≡ given_by options ++ given_of o ∷ []
given_by_more options o = map-append given_of options (o ∷ [])

-- an option that has the name, where none before it has
here_step : (n : OptionName) (o : GivenOption) (options : List GivenOption) (i : ℕ) (d : GivenOption) (b : Bool) → is_name n o.name ≡ b →
    (value_of n (given_by (take i options)) ≡ None → value_of n (given_by options) ≡ Some (get_or options i d).value.now) →
    value_of n (given_by (o ∷ take i options)) ≡ None → value_of n (given_by (o ∷ options)) ≡ Some (get_or options i d).value.now
here_step n o options i d true is more none = absurd (let some : Some o.value.now ≡ None = sym (rw is refl) ∙ none in cc)
here_step n o options i d false is more none = rw is (more (sym (rw is refl) ∙ none))

pub value_at_index : (n : OptionName) (options : List GivenOption) (i : ℕ) (d : GivenOption) → i < length options →
    value_of n (given_by (take i options)) ≡ None → is_name n (get_or options i d).name ≡ true →
    value_of n (given_by options) ≡ Some (get_or options i d).value.now
value_at_index n [] i d inside none is = absurd (omega arith)
value_at_index n (o ∷ options) zero d inside none is = rw is refl
value_at_index n (o ∷ options) (suc i) d inside none is =
    here_step n o options i d (is_name n o.name) refl (λ less. value_at_index n options i d (omega arith) less is) none

-- an option that has another name
pub none_at_index : (n : OptionName) (options : List GivenOption) (i : ℕ) (d : GivenOption) → i < length options →
    value_of n (given_by (take i options)) ≡ None → is_name n (get_or options i d).name ≡ false →
    value_of n (given_by (take (i + 1) options)) ≡ None
none_at_index n options i d inside none other =
    ap (λ os. value_of n (given_by os)) (take_more options i d inside)
    ∙ ap (value_of n) (given_by_more (take i options) (get_or options i d))
    ∙ value_of_none_more n (given_by (take i options)) (given_of (get_or options i d)) none other

-- the duration in the text under a name
pub span_found : (n : OptionName) (given : List Given) (text : List ℕ) (read : Option ℕ) → value_of n given ≡ Some text →
    MatchOption read ((m : ℕ) → IsSpan text m → ⊥) (IsSpan text) → MatchOption read ((m : ℕ) → SpanUnder n given m → ⊥) (SpanUnder n given)
span_found n given text None is never = λ m under. never m (subst (λ t. IsSpan t m) (let e : under.0 ≡ text = let same = sym under.1 ∙ is in cc in e) under.2)
span_found n given text (Some m) is span = (text, is, span)
