-- Values that were taken of words of a form have what it asks for.
use Rattle.std.proofs.Common.{◌≡◌, ◌∙◌, ◌∷◌, [], ℕ, zero, suc, List, true, false, ap, refl, sym, subst}
use Rattle.std.specs.Prelude.{◌||◌, Bool, Option, Some, None, is_some, slice_get}
use Rattle.std.specs.List.{list_all}
use Rattle.std.specs.Option.{option_and_then}
use Rattle.std.proofs.lemmas.Bool.{and_parts}
use Rattle.ld_words.specs.Forms.{form_read, has_one_of, needs_of, options_of, places_of, AreValues, AreWordsOf, IsOfForm}
use Rattle.ld_words.specs.Meaning.{number_at, AreWeightsAt, IsMeantBy, IsTakenBy}
use Rattle.ld_words.specs.Number.{number_of}
use Rattle.ld_words.specs.Options.{kind_of, value_of, Given}
use Rattle.ld_words.specs.Taken.{text_at, IsTakenOf, Taken}
use Rattle.ld_words.specs.Values.{IsValueOf}
use Rattle.ld_words.specs.Weights.{AreWeights}
use Rattle.ld_words.specs.Words.{form_asked, number_under, Asks, IsMeant, IsPlayAsked, IsTestAsked, SpanUnder}
use Rattle.ld_words.specs.declared.form.FormName.{FormName}
use Rattle.ld_words.specs.declared.form.FormName.TheVariants as forms
use Rattle.ld_words.specs.declared.option.OptionName.{OptionName}
use Rattle.ld_words.specs.declared.option.OptionName.TheVariants as names
use Rattle.ld_words.specs.declared.value.ValueKind.{ValueKind}
use Rattle.ld_words.specs.declared.value.ValueKind.TheVariants as kinds
use Rattle.ld_words.specs.declared.words.Words.{Words}
use Rattle.ld_words.specs.declared.words.Words.TheVariants.{StripeWeights, StripeSegment, Plan, RehearseTest, RehearseWords, Help}
use Rattle.ld_words.proofs.OptionsLemmas.{value_valid}

-- ---- what the values were taken of means the same

-- lists with the same element at each place
same_elements : (a b : List (List ℕ)) → ((place : ℕ) → slice_get a place ≡ slice_get b place) → a ≡ b
same_elements [] [] same = refl
same_elements [] (y ∷ b) same = let clash = same 0 in cc
same_elements (x ∷ a) [] same = let clash = same 0 in cc
same_elements (x ∷ a) (y ∷ b) same =
    let head : x ≡ y = let e = same 0 in cc in
    let tail = same_elements a b (λ place. same (suc place)) in
    cc

-- numbers and durations under a name, by the values that are given
number_again : (n : OptionName) (a b : List Given) → value_of n a ≡ value_of n b → number_under n a ≡ number_under n b
number_again n a b same = ap (option_and_then number_of) same

span_again : (n : OptionName) (a b : List Given) (m : ℕ) → value_of n a ≡ value_of n b → SpanUnder n a m → SpanUnder n b m
span_again n a b m same span = (span.0, sym same ∙ span.1, span.2)

test_again : (places : List (List ℕ)) (a b : List Given) (test : List ℕ) (segment sequence : Option (List ℕ)) (entries : Option ℕ) →
    ((n : OptionName) → value_of n a ≡ value_of n b) → IsTestAsked places a test segment sequence entries → IsTestAsked places b test segment sequence entries
test_again places a b test segment sequence entries same m = record {
  places_are = m.places_are;
  segment_is = m.segment_is ∙ same names.Segment;
  sequence_is = m.sequence_is ∙ same names.Sequence;
  entries_is = m.entries_is ∙ number_again names.Entries a b (same names.Entries);
}

play_again : (a b : List Given) (iteration : ℕ) (journal : List ℕ) → ((n : OptionName) → value_of n a ≡ value_of n b) →
    IsPlayAsked a iteration journal → IsPlayAsked b iteration journal
play_again a b iteration journal same m = record {
  iteration_is = span_again names.Iteration a b iteration (same names.Iteration) m.iteration_is;
  journal_is = sym (same names.Journal) ∙ m.journal_is;
}

meant_again : (places : List (List ℕ)) (a b : List Given) (request : Words) → ((n : OptionName) → value_of n a ≡ value_of n b) → IsMeant places a request → IsMeant places b request
meant_again places a b (StripeWeights _ _ _) same m = m
meant_again places a b (StripeSegment _ _ _) same m = record {
  count_word = m.count_word;
  places_are = m.places_are;
  count_is = m.count_is;
  segment_is = m.segment_is ∙ same names.Segment;
  sequence_is = m.sequence_is ∙ same names.Sequence;
}
meant_again places a b (Plan test segment sequence entries _) same m =
    (test_again places a b test segment sequence entries same m.0, m.1 ∙ ap is_some (same names.List))
meant_again places a b (RehearseTest test iteration journal segment sequence entries) same m =
    (test_again places a b test segment sequence entries same m.0, play_again a b iteration journal same m.1)
meant_again places a b (RehearseWords _ unit duration _ _ iteration journal _) same m = (
  record {
    rate_is = sym (number_again names.Rate a b (same names.Rate)) ∙ m.0.rate_is;
    unit_is = span_again names.Unit a b unit (same names.Unit) m.0.unit_is;
    duration_is = span_again names.Duration a b duration (same names.Duration) m.0.duration_is;
    pre_is = sym (number_again names.Pre a b (same names.Pre)) ∙ m.0.pre_is;
    max_is = sym (number_again names.Max a b (same names.Max)) ∙ m.0.max_is;
  },
  play_again a b iteration journal same m.1,
  m.2 ∙ number_again names.Entries a b (same names.Entries),
)
meant_again places a b Help same m = m

-- what the words at the places and the options that were taken ask for is what any such words ask for
pub meant_by : (form : FormName) (taken : Taken) (request : Words) (is : IsTakenBy form taken) → form_asked request ≡ form → IsMeant is.places taken.given request →
    IsMeantBy form taken request
meant_by form taken request is same meant = record {
  form_is = same;
  meant = λ places given values.
      let at : is.places ≡ places = same_elements is.places places (λ place. sym (is.values_are.places_are place) ∙ values.places_are place) in
      meant_again places taken.given given request values.options_are (subst (λ ps. IsMeant ps taken.given request) at meant);
}

-- ---- what stands at the places

-- a single word at the places
pub record IsOnlyPlace (kind : ValueKind) (places : List (List ℕ)) : Type 0 where
  pub word : List ℕ
  pub places_are : places ≡ word ∷ []
  pub valid : IsValueOf kind word

only_place : (kind : ValueKind) (places : List (List ℕ)) → AreValues (kind ∷ []) places → IsOnlyPlace kind places
only_place kind [] are = absurd are
only_place kind (w ∷ []) are = record { word = w; places_are = refl; valid = are.0 }
only_place kind (w ∷ v ∷ more) are = absurd are.1

pub only_text : (form : FormName) (taken : Taken) (kind : ValueKind) → places_of form ≡ kind ∷ [] → IsTakenBy form taken → (text : List ℕ) × (text_at 0 taken ≡ Some text)
only_text form taken kind kinds is =
    let only = only_place kind is.places (subst (λ ks. AreValues ks is.places) kinds is.words_are.places_are) in
    (only.word, is.values_are.places_are 0 ∙ ap (λ ws. slice_get ws 0) only.places_are)

pub only_word : (form : FormName) (taken : Taken) (kind : ValueKind) (text : List ℕ) → places_of form ≡ kind ∷ [] → (is : IsTakenBy form taken) → text_at 0 taken ≡ Some text →
    is.places ≡ text ∷ []
only_word form taken kind text kinds is at =
    let only = only_place kind is.places (subst (λ ks. AreValues ks is.places) kinds is.words_are.places_are) in
    let same : only.word ≡ text = let e = sym (is.values_are.places_are 0 ∙ ap (λ ws. slice_get ws 0) only.places_are) ∙ at in cc in
    only.places_are ∙ ap (λ w. w ∷ []) same

-- the number of indices of `stripe N`
pub only_count : (taken : Taken) → IsTakenBy forms.StripeSegment taken → (n : ℕ) × (number_at 0 taken ≡ Some n)
only_count taken is =
    let only = only_place kinds.Count is.places is.words_are.places_are in
    (only.valid.0, ap (option_and_then number_of) (is.values_are.places_are 0 ∙ ap (λ ws. slice_get ws 0) only.places_are) ∙ only.valid.1.is)

pub cut_meant : (taken : Taken) (count : ℕ) (segment sequence : Option (List ℕ)) → IsTakenBy forms.StripeSegment taken → number_at 0 taken ≡ Some count →
    segment ≡ value_of names.Segment taken.given → sequence ≡ value_of names.Sequence taken.given → IsMeantBy forms.StripeSegment taken (StripeSegment count segment sequence)
cut_meant taken count segment sequence is at_count segment_is sequence_is =
    let only = only_place kinds.Count is.places is.words_are.places_are in
    meant_by forms.StripeSegment taken (StripeSegment count segment sequence) is refl
    (record {
      count_word = only.word;
      places_are = only.places_are;
      count_is = ap (option_and_then number_of) (sym (is.values_are.places_are 0 ∙ ap (λ ws. slice_get ws 0) only.places_are)) ∙ at_count;
      segment_is = segment_is;
      sequence_is = sequence_is;
    })

-- the words of `stripe WEIGHTS POSITION N`
record AreThree (taken : Taken) (places : List (List ℕ)) : Type 0 where
  pub a : List ℕ
  pub b : List ℕ
  pub c : List ℕ
  pub places_are : places ≡ a ∷ b ∷ c ∷ []
  pub at_a : text_at 0 taken ≡ Some a
  pub at_b : text_at 1 taken ≡ Some b
  pub at_c : text_at 2 taken ≡ Some c
  pub weights_are : IsValueOf kinds.Weights a
  pub position_is : IsValueOf kinds.Number b
  pub count_is : IsValueOf kinds.Count c

three_of : (taken : Taken) (places : List (List ℕ)) → ((place : ℕ) → text_at place taken ≡ slice_get places place) →
    AreValues (places_of forms.StripeWeights) places → AreThree taken places
three_of taken [] at are = absurd are
three_of taken (a ∷ []) at are = absurd are.1
three_of taken (a ∷ b ∷ []) at are = absurd are.1.1
three_of taken (a ∷ b ∷ c ∷ []) at are = record {
  a = a;
  b = b;
  c = c;
  places_are = refl;
  at_a = at 0;
  at_b = at 1;
  at_c = at 2;
  weights_are = are.0;
  position_is = are.1.0;
  count_is = are.1.1.0;
}
three_of taken (a ∷ b ∷ c ∷ d ∷ more) at are = absurd are.1.1.1

three : (taken : Taken) (is : IsTakenBy forms.StripeWeights taken) → AreThree taken is.places
three taken is = three_of taken is.places is.values_are.places_are is.words_are.places_are

pub has_weights : (taken : Taken) → IsTakenBy forms.StripeWeights taken → (weights : List ℕ) × AreWeightsAt 0 taken weights
has_weights taken is =
    let words = three taken is in
    (words.weights_are.0, (words.a, words.at_a, words.weights_are.1))

-- a text that is no weights stands at no place where weights are
pub never_weights : (taken : Taken) (place : ℕ) (text : List ℕ) → (weights : List ℕ) × AreWeightsAt place taken weights →
    text_at place taken ≡ Some text → ((weights : List ℕ) → AreWeights text weights → ⊥) → ⊥
never_weights taken place text has at never =
    let same : has.1.0 ≡ text = let e = sym has.1.1 ∙ at in cc in
    never has.0 (subst (λ w. AreWeights w has.0) same has.1.2)

pub has_position : (taken : Taken) → IsTakenBy forms.StripeWeights taken → (n : ℕ) × (number_at 1 taken ≡ Some n)
has_position taken is =
    let words = three taken is in
    (words.position_is.0, ap (option_and_then number_of) words.at_b ∙ words.position_is.1)

pub has_count : (taken : Taken) → IsTakenBy forms.StripeWeights taken → (n : ℕ) × (number_at 2 taken ≡ Some n)
has_count taken is =
    let words = three taken is in
    (words.count_is.0, ap (option_and_then number_of) words.at_c ∙ words.count_is.1.is)

pub weights_meant : (taken : Taken) (weights : List ℕ) (position count : ℕ) → IsTakenBy forms.StripeWeights taken →
    AreWeightsAt 0 taken weights → number_at 1 taken ≡ Some position → number_at 2 taken ≡ Some count →
    IsMeantBy forms.StripeWeights taken (StripeWeights weights position count)
weights_meant taken weights position count is at_weights at_position at_count =
    let words = three taken is in
    let weights_word : at_weights.0 ≡ words.a = let e = sym at_weights.1 ∙ words.at_a in cc in
    meant_by forms.StripeWeights taken (StripeWeights weights position count) is refl
    (record {
      weights_word = words.a;
      position_word = words.b;
      count_word = words.c;
      places_are = words.places_are;
      weights_are = subst (λ w. AreWeights w weights) weights_word at_weights.2;
      position_is = ap (option_and_then number_of) (sym words.at_b) ∙ at_position;
      count_is = ap (option_and_then number_of) (sym words.at_c) ∙ at_count;
    })

-- ---- the values that are needed

needed_at : (given : List Given) (needs : List (List OptionName)) (i : ℕ) (n : OptionName) → list_all (has_one_of given) needs ≡ true →
    slice_get needs i ≡ Some (n ∷ []) → is_some (value_of n given) ≡ true
needed_at given [] i n all at = cc
needed_at given (need ∷ needs) zero n all at =
    let same : need ≡ n ∷ [] = cc in
    let here = and_parts (has_one_of given need) (list_all (has_one_of given) needs) all in
    one_of (is_some (value_of n given)) (ap (has_one_of given) (sym same) ∙ here.0)
  where
    one_of : (b : Bool) → (b || false) ≡ true → b ≡ true
    one_of true is = refl
    one_of false is = is
needed_at given (need ∷ needs) (suc i) n all at =
    let here = and_parts (has_one_of given need) (list_all (has_one_of given) needs) all in
    needed_at given needs i n here.1 at

-- a value under a name
pub record HasValueUnder (given : List Given) (n : OptionName) : Type 0 where
  pub value : List ℕ
  pub is : value_of n given ≡ Some value

some_value : (given : List Given) (n : OptionName) (o : Option (List ℕ)) → value_of n given ≡ o → is_some o ≡ true → HasValueUnder given n
some_value given n (Some v) is some = record { value = v; is = is }
some_value given n None is some = cc

needed_value : (form : FormName) (taken : Taken) (i : ℕ) (n : OptionName) (is : IsTakenBy form taken) →
    slice_get (needs_of form) i ≡ Some (n ∷ []) → HasValueUnder is.given n
needed_value form taken i n is at = some_value is.given n (value_of n is.given) refl (needed_at is.given (needs_of form) i n is.words_are.needed at)

-- the value is of the kind of its name
needed_valid : (form : FormName) (taken : Taken) (n : OptionName) (kind : ValueKind) (value : List ℕ) (is : IsTakenBy form taken) → value_of n is.given ≡ Some value →
    kind_of n ≡ kind → (kind ≡ kinds.Flag → ⊥) → IsValueOf kind value
needed_valid form taken n kind value is some same taking =
    subst (λ k. IsValueOf k value) same
    (value_valid (options_of form) is.words_are.option_words is.given is.words_are.options_are n value some (λ flag. taking (sym same ∙ flag)))

pub has_text : (form : FormName) (taken : Taken) (i : ℕ) (n : OptionName) → IsTakenBy form taken →
    slice_get (needs_of form) i ≡ Some (n ∷ []) → (v : List ℕ) × (value_of n taken.given ≡ Some v)
has_text form taken i n is at =
    let found = needed_value form taken i n is at in
    (found.value, is.values_are.options_are n ∙ found.is)

pub has_number : (form : FormName) (taken : Taken) (i : ℕ) (n : OptionName) → IsTakenBy form taken →
    slice_get (needs_of form) i ≡ Some (n ∷ []) → kind_of n ≡ kinds.Number → (m : ℕ) × (number_under n taken.given ≡ Some m)
has_number form taken i n is at kind =
    let found = needed_value form taken i n is at in
    let number : IsValueOf kinds.Number found.value = needed_valid form taken n kinds.Number found.value is found.is kind (λ e. cc) in
    (number.0, ap (option_and_then number_of) (is.values_are.options_are n ∙ found.is) ∙ number.1)

pub has_span : (form : FormName) (taken : Taken) (i : ℕ) (n : OptionName) → IsTakenBy form taken →
    slice_get (needs_of form) i ≡ Some (n ∷ []) → kind_of n ≡ kinds.Span → (m : ℕ) × SpanUnder n taken.given m
has_span form taken i n is at kind =
    let found = needed_value form taken i n is at in
    let span : IsValueOf kinds.Span found.value = needed_valid form taken n kinds.Span found.value is found.is kind (λ e. cc) in
    (span.0, (found.value, is.values_are.options_are n ∙ found.is, span.1))

-- ---- what the words ask for

pub asks : (form : FormName) (words : List (List ℕ)) (taken : Taken) (request : Words) → form ≡ form_read words → (are : IsOfForm form words) →
    IsTakenOf are.places are.given taken → IsMeantBy form taken request → Asks words request
asks form words taken request form_is are values meant = record {
  form_is = meant.form_is ∙ form_is;
  places = are.places;
  given = are.given;
  words_are = subst (λ f. AreWordsOf f words are.places are.given) form_is are.are;
  meant = meant.meant are.places are.given values;
}
