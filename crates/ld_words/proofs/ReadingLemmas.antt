-- The words have one meaning.
use Rattle.std.proofs.Common.{◌≡◌, ◌∙◌, ◌++◌, ℕ, List, ap, refl, sym, subst}
use Rattle.std.specs.Prelude.{Bool, Option, Some, is_some}
use Rattle.ld_words.specs.Forms.{form_of, form_read, options_of, places_of, AreWordsOf}
use Rattle.ld_words.specs.Number.{number_of}
use Rattle.ld_words.specs.Options.{value_of, AreOptions, Given}
use Rattle.ld_words.specs.Values.{IsSpan}
use Rattle.ld_words.specs.Weights.{AreWeights}
use Rattle.ld_words.specs.Words.{form_asked, number_under, AreWeightsAsked, Asks, IsCutAsked, IsMeant, IsPaceAsked, IsPlayAsked, IsRefused, IsTestAsked, SpanUnder}
use Rattle.ld_words.specs.declared.fault.WordsFault.{WordsFault}
use Rattle.ld_words.specs.declared.fault.WordsFault.TheVariants.{Refused, Memory}
use Rattle.ld_words.specs.declared.form.FormName.{FormName}
use Rattle.ld_words.specs.declared.option.OptionName.{OptionName}
use Rattle.ld_words.specs.declared.option.OptionName.TheVariants as names
use Rattle.ld_words.specs.declared.words.Words.{Words}
use Rattle.ld_words.specs.declared.words.Words.TheVariants.{StripeWeights, StripeSegment, Plan, RehearseTest, RehearseWords, Help}
use Rattle.ld_words.proofs.FormLemmas.{not_refused, refused_once}
use Rattle.ld_words.proofs.OptionsLemmas.{options_once}
use Rattle.ld_words.proofs.PlacesLemmas.{values_length}
use Rattle.ld_words.proofs.ReaderLemmas.{split_once}
use Rattle.ld_words.proofs.ValueLemmas.{span_once}
use Rattle.ld_words.proofs.WeightsLemmas.{weights_once}

-- ---- words are of a form in one way

record SameWords (places others : List (List ℕ)) (given all : List Given) : Type 0 where
  pub places_are : places ≡ others
  pub given_are : given ≡ all

words_once : (form : FormName) (words places others : List (List ℕ)) (given all : List Given) → AreWordsOf form words places given →
    AreWordsOf form words others all → SameWords places others given all
words_once form words places others given all a b =
    let same = sym a.words_are ∙ b.words_are in
    let behind : places ++ a.option_words ≡ others ++ b.option_words = cc in
    let long = values_length (places_of form) places a.places_are ∙ sym (values_length (places_of form) others b.places_are) in
    let parts = split_once places others a.option_words b.option_words long behind in
    record {
      places_are = parts.0;
      given_are = options_once (options_of form) b.option_words given all (subst (λ ws. AreOptions (options_of form) ws given) parts.1 a.options_are) b.options_are;
    }

-- ---- what is meant by them, once

weights_asked_once : (places : List (List ℕ)) (v w : List ℕ) (p q m n : ℕ) → AreWeightsAsked places v p m → AreWeightsAsked places w q n →
    StripeWeights v p m ≡ StripeWeights w q n
weights_asked_once places v w p q m n a b =
    let same = sym a.places_are ∙ b.places_are in
    let weights_word : a.weights_word ≡ b.weights_word = cc in
    let position_word : a.position_word ≡ b.position_word = cc in
    let count_word : a.count_word ≡ b.count_word = cc in
    let weights = weights_once b.weights_word v w (subst (λ t. AreWeights t v) weights_word a.weights_are) b.weights_are in
    let position : p ≡ q = let e = sym a.position_is ∙ ap number_of position_word ∙ b.position_is in cc in
    let count : m ≡ n = let e = sym a.count_is ∙ ap number_of count_word ∙ b.count_is in cc in
    ap (λ x. StripeWeights x p m) weights ∙ ap (λ x. StripeWeights w x m) position ∙ ap (StripeWeights w q) count

cut_asked_once : (places : List (List ℕ)) (given : List Given) (m n : ℕ) (s s' q q' : Option (List ℕ)) → IsCutAsked places given m s q →
    IsCutAsked places given n s' q' → StripeSegment m s q ≡ StripeSegment n s' q'
cut_asked_once places given m n s s' q q' a b =
    let same = sym a.places_are ∙ b.places_are in
    let count_word : a.count_word ≡ b.count_word = cc in
    let count : m ≡ n = let e = sym a.count_is ∙ ap number_of count_word ∙ b.count_is in cc in
    let segment = a.segment_is ∙ sym b.segment_is in
    let sequence = a.sequence_is ∙ sym b.sequence_is in
    ap (λ x. StripeSegment x s q) count ∙ ap (λ x. StripeSegment n x q) segment ∙ ap (StripeSegment n s') sequence

number_once : (n : OptionName) (given : List Given) (a b : ℕ) → number_under n given ≡ Some a → number_under n given ≡ Some b → a ≡ b
number_once n given a b x y = let e = sym x ∙ y in cc

span_under_once : (n : OptionName) (given : List Given) (a b : ℕ) → SpanUnder n given a → SpanUnder n given b → a ≡ b
span_under_once n given a b x y =
    let text : x.0 ≡ y.0 = let e = sym x.1 ∙ y.1 in cc in
    span_once y.0 a b (subst (λ t. IsSpan t a) text x.2) y.2

-- a test and how it is cut
record SameTest (t t' : List ℕ) (s s' q q' : Option (List ℕ)) (e e' : Option ℕ) : Type 0 where
  pub test : t ≡ t'
  pub segment : s ≡ s'
  pub sequence : q ≡ q'
  pub entries : e ≡ e'

test_asked_once : (places : List (List ℕ)) (given : List Given) (t t' : List ℕ) (s s' q q' : Option (List ℕ)) (e e' : Option ℕ) →
    IsTestAsked places given t s q e → IsTestAsked places given t' s' q' e' → SameTest t t' s s' q q' e e'
test_asked_once places given t t' s s' q q' e e' a b = record {
  test = let same = sym a.places_are ∙ b.places_are in cc;
  segment = a.segment_is ∙ sym b.segment_is;
  sequence = a.sequence_is ∙ sym b.sequence_is;
  entries = a.entries_is ∙ sym b.entries_is;
}

-- the iterations and the journal of a rehearsal
record SamePlay (i i' : ℕ) (j j' : List ℕ) : Type 0 where
  pub iteration : i ≡ i'
  pub journal : j ≡ j'

play_asked_once : (given : List Given) (i i' : ℕ) (j j' : List ℕ) → IsPlayAsked given i j → IsPlayAsked given i' j' → SamePlay i i' j j'
play_asked_once given i i' j j' a b = record {
  iteration = span_under_once names.Iteration given i i' a.iteration_is b.iteration_is;
  journal = let same = sym a.journal_is ∙ b.journal_is in cc;
}

plan_asked_once : (places : List (List ℕ)) (given : List Given) (t t' : List ℕ) (s s' q q' : Option (List ℕ)) (e e' : Option ℕ) (l l' : Bool) →
    IsTestAsked places given t s q e → IsTestAsked places given t' s' q' e' → l ≡ is_some (value_of names.List given) → l' ≡ is_some (value_of names.List given) →
    Plan t s q e l ≡ Plan t' s' q' e' l'
plan_asked_once places given t t' s s' q q' e e' l l' a b x y =
    let same = test_asked_once places given t t' s s' q q' e e' a b in
    let test = same.test in
    let segment = same.segment in
    let sequence = same.sequence in
    let entries = same.entries in
    let listed = x ∙ sym y in
    cc

rehearse_test_once : (places : List (List ℕ)) (given : List Given) (t t' : List ℕ) (i i' : ℕ) (j j' : List ℕ) (s s' q q' : Option (List ℕ)) (e e' : Option ℕ) →
    IsTestAsked places given t s q e → IsTestAsked places given t' s' q' e' → IsPlayAsked given i j → IsPlayAsked given i' j' →
    RehearseTest t i j s q e ≡ RehearseTest t' i' j' s' q' e'
rehearse_test_once places given t t' i i' j j' s s' q q' e e' a b x y =
    let same = test_asked_once places given t t' s s' q q' e e' a b in
    let play = play_asked_once given i i' j j' x y in
    let test = same.test in
    let segment = same.segment in
    let sequence = same.sequence in
    let entries = same.entries in
    let iteration = play.iteration in
    let journal = play.journal in
    cc

rehearse_words_once : (given : List Given) (r u d p m i r' u' d' p' m' i' : ℕ) (j j' : List ℕ) (e e' : Option ℕ) →
    IsPaceAsked given r u d p m → IsPaceAsked given r' u' d' p' m' → IsPlayAsked given i j → IsPlayAsked given i' j' →
    e ≡ number_under names.Entries given → e' ≡ number_under names.Entries given →
    RehearseWords r u d p m i j e ≡ RehearseWords r' u' d' p' m' i' j' e'
rehearse_words_once given r u d p m i r' u' d' p' m' i' j j' e e' a b x y f g =
    let play = play_asked_once given i i' j j' x y in
    let rate = number_once names.Rate given r r' a.rate_is b.rate_is in
    let unit = span_under_once names.Unit given u u' a.unit_is b.unit_is in
    let duration = span_under_once names.Duration given d d' a.duration_is b.duration_is in
    let pre = number_once names.Pre given p p' a.pre_is b.pre_is in
    let max = number_once names.Max given m m' a.max_is b.max_is in
    let iteration = play.iteration in
    let journal = play.journal in
    let entries = f ∙ sym g in
    cc

meant_once : (places : List (List ℕ)) (given : List Given) (a b : Words) → form_asked a ≡ form_asked b → IsMeant places given a → IsMeant places given b → a ≡ b
meant_once places given (StripeWeights v p m) (StripeWeights w q n) same a b = weights_asked_once places v w p q m n a b
meant_once places given (StripeSegment m s q) (StripeSegment n s' q') same a b = cut_asked_once places given m n s s' q q' a b
meant_once places given (Plan t s q e l) (Plan t' s' q' e' l') same a b =
    plan_asked_once places given t t' s s' q q' e e' l l' a.0 b.0 a.1 b.1
meant_once places given (RehearseTest t i j s q e) (RehearseTest t' i' j' s' q' e') same a b =
    rehearse_test_once places given t t' i i' j j' s s' q q' e e' a.0 b.0 a.1 b.1
meant_once places given (RehearseWords r u d p m i j e) (RehearseWords r' u' d' p' m' i' j' e') same a b =
    rehearse_words_once given r u d p m i r' u' d' p' m' i' j j' e e' a.0 b.0 a.1 b.1 a.2 b.2
meant_once places given Help Help same a b = refl
meant_once places given x y same a b = absurd cc

-- words ask for at most one thing
pub asked_once : (words : List (List ℕ)) (a b : Words) → Asks words a → Asks words b → a ≡ b
asked_once words a b asked other =
    let same = words_once (form_read words) words asked.places other.places asked.given other.given asked.words_are other.words_are in
    let meant : IsMeant other.places other.given a =
    subst (λ ps. IsMeant ps other.given a) same.places_are (subst (λ gs. IsMeant asked.places gs a) same.given_are asked.meant)
    in
    meant_once other.places other.given a b (asked.form_is ∙ sym other.form_is) meant other.meant

-- they have at most one refusal
pub fault_once : (words : List (List ℕ)) (a b : WordsFault) → IsRefused words a → IsRefused words b → a ≡ b
fault_once words (Refused p) (Refused q) a b = ap Refused (refused_once (form_of (form_read words)) words p q a b)
fault_once words (Refused p) Memory a b = absurd b
fault_once words Memory b a other = absurd a

-- and not both
pub asked_not_refused : (words : List (List ℕ)) (a : Words) (f : WordsFault) → Asks words a → IsRefused words f → ⊥
asked_not_refused words a (Refused p) asked refused =
    not_refused (form_of (form_read words)) words p (record { places = asked.places; given = asked.given; are = asked.words_are }) refused
asked_not_refused words a Memory asked refused = refused
