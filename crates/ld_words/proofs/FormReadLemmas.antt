-- The form that words are read by is the one that they are of.
use Rattle.std.proofs.Common.{◌≡◌, ◌≢◌, ◌∙◌, ◌++◌, ◌∷◌, [], ℕ, List, map, true, false, true≢false, refl, ap, ap₂, sym, subst, append-nil, eqb-true}
use Rattle.std.specs.Prelude.{◌==◌, ◌||◌, Bool, codes, if◌then◌else◌}
use Rattle.std.specs.List.{AllByRecursion, flat_map, list_all, list_any}
use Rattle.std.proofs.lemmas.List.Folds.{list_any-append}
use Rattle.ld_words.specs.Forms.{command_of, form_of, form_read, has_one_of, is_option_word, needs_of, options_of, places_of, AreValues, AreWordsOf, IsOfForm}
use Rattle.ld_words.specs.Options.{name_text, option_words, words_by, AreOptions, Given, IsOptionOf, Manner, Written}
use Rattle.ld_words.specs.Options.Manner.{Apart, Joined, Alone}
use Rattle.ld_words.specs.Values.{IsValueOf}
use Rattle.ld_words.specs.Words.{IsRefused}
use Rattle.ld_words.specs.declared.fault.WordsFault.{WordsFault}
use Rattle.ld_words.specs.declared.fault.WordsFault.TheVariants.{Refused, Memory}
use Rattle.ld_words.specs.declared.form.FormName.{FormName}
use Rattle.ld_words.specs.declared.form.FormName.TheVariants as forms
use Rattle.ld_words.specs.declared.option.OptionName.{OptionName}
use Rattle.ld_words.specs.declared.value.ValueKind.{ValueKind}
use Rattle.ld_words.specs.declared.value.ValueKind.TheVariants as kinds
use Rattle.ld_words.proofs.BareNameLemmas.{written_name}
use Rattle.ld_words.proofs.DashLemmas.{dash_no_value}
use Rattle.ld_words.proofs.FormLemmas.{not_refused}

-- ---- values don't begin with two dashes

value_no_option : (kind : ValueKind) (text : List ℕ) → IsValueOf kind text → is_option_word text ≡ false
value_no_option kind [] value = refl
value_no_option kind (a ∷ []) value = refl
value_no_option kind (a ∷ b ∷ rest) value = go (a == 45) refl
  where
    go : (test : Bool) → (a == 45) ≡ test → is_option_word (a ∷ b ∷ rest) ≡ false
    go true is = absurd (dash_no_value kind (b ∷ rest) (subst (λ y. IsValueOf kind (y ∷ b ∷ rest)) (eqb-true a 45 is) value))
    go false is = rw is refl

values_no_option : (ks : List ValueKind) (words : List (List ℕ)) → AreValues ks words → list_any is_option_word words ≡ false
values_no_option [] [] are = refl
values_no_option [] (word ∷ words) are = absurd are
values_no_option (kind ∷ ks) [] are = absurd are
values_no_option (kind ∷ ks) (word ∷ words) are =
    ap₂ (λ a b. a || b) (value_no_option kind word are.0) (values_no_option ks words are.1)

-- ---- options begin with two dashes

-- words of which the first begins with two dashes
record StartsWithOption (words : List (List ℕ)) : Type 0 where
  pub first : List ℕ
  pub rest : List (List ℕ)
  pub words_are : words ≡ first ∷ rest
  pub option : is_option_word first ≡ true

option_starts : (name : OptionName) (value : List ℕ) (manner : Manner) (more : List (List ℕ)) →
    StartsWithOption (words_by manner (name_text name) value ++ more)
option_starts name value Apart more = record {
  first = name_text name;
  rest = value ∷ more;
  words_are = refl;
  option = ap is_option_word (written_name name);
}
option_starts name value Joined more = record {
  first = name_text name ++ 61 ∷ value;
  rest = more;
  words_are = refl;
  option = ap (λ text. is_option_word (text ++ 61 ∷ value)) (written_name name);
}
option_starts name value Alone more = record {
  first = name_text name;
  rest = more;
  words_are = refl;
  option = ap is_option_word (written_name name);
}

written_starts : (written : List Written) → map (λ (w : Written). w.option) written ≢ [] → StartsWithOption (flat_map option_words written)
written_starts [] some = absurd (some refl)
written_starts (w ∷ written) some = option_starts w.option.name w.option.value w.manner (flat_map option_words written)

-- where an option is needed, options begin with one
needed_starts : (form : FormName) (words : List (List ℕ)) (given : List Given) → AreOptions (options_of form) words given →
    list_all (has_one_of given) (needs_of form) ≡ true → list_all (has_one_of []) (needs_of form) ≡ false → StartsWithOption words
needed_starts form words given are needed lacks =
    let some : map (λ (w : Written). w.option) are.written ≢ [] = λ none.
    true≢false (sym needed ∙ ap (λ gs. list_all (has_one_of gs) (needs_of form)) (are.given_are ∙ none) ∙ lacks) in
    subst StartsWithOption (sym are.words_are) (written_starts are.written some)

any_starts : (words : List (List ℕ)) → StartsWithOption words → list_any is_option_word words ≡ true
any_starts words starts = ap (list_any is_option_word) starts.words_are ∙ ap (λ b. b || list_any is_option_word starts.rest) starts.option

-- of no names there are no options
no_names : (words : List (List ℕ)) (given : List Given) → AreOptions [] words given → words ≡ []
no_names words given are = are.words_are ∙ none are.written are.each
  where
    none : (written : List Written) → AllByRecursion (IsOptionOf []) written → flat_map option_words written ≡ []
    none [] each = refl
    none (w ∷ written) each = absurd (true≢false (sym each.0.known))

-- ---- the form that words are read by

read_weights : (places options : List (List ℕ)) → list_any is_option_word places ≡ false → options ≡ [] →
    form_read (codes "stripe" ∷ places ++ options) ≡ forms.StripeWeights
read_weights places options plain none =
    let same : list_any is_option_word (codes "stripe" ∷ places ++ options) ≡ false =
    ap (list_any is_option_word) (ap (λ ws. places ++ ws) none ∙ append-nil places) ∙ plain in
    ap (λ b. if b then forms.StripeSegment else forms.StripeWeights) same

read_segment : (places options : List (List ℕ)) → list_any is_option_word options ≡ true →
    form_read (codes "stripe" ∷ places ++ options) ≡ forms.StripeSegment
read_segment places options some =
    let same : list_any is_option_word (codes "stripe" ∷ places ++ options) ≡ true =
    list_any-append is_option_word places options
    ∙ ap (λ b. list_any is_option_word places || b) some
    ∙ either (list_any is_option_word places) in
    ap (λ b. if b then forms.StripeSegment else forms.StripeWeights) same
  where
    either : (b : Bool) → (b || true) ≡ true
    either true = refl
    either false = refl

read_test : (places options : List (List ℕ)) → AreValues (places_of forms.RehearseTest) places →
    form_read (codes "rehearse" ∷ places ++ options) ≡ forms.RehearseTest
read_test [] options are = absurd are
read_test (test ∷ []) options are =
    ap (λ b. if b then forms.RehearseWords else forms.RehearseTest) (value_no_option kinds.Plain test are.0)
read_test (test ∷ word ∷ words) options are = absurd are.1

read_rates : (places options : List (List ℕ)) → AreValues (places_of forms.RehearseWords) places → StartsWithOption options →
    form_read (codes "rehearse" ∷ places ++ options) ≡ forms.RehearseWords
read_rates [] options are starts =
    ap (λ ws. form_read (codes "rehearse" ∷ ws)) starts.words_are
    ∙ ap (λ b. if b then forms.RehearseWords else forms.RehearseTest) starts.option
read_rates (word ∷ words) options are starts = absurd are

read_parts : (form : FormName) (words places : List (List ℕ)) (given : List Given) → (are : AreWordsOf form words places given) →
    form_read (command_of form ∷ places ++ are.option_words) ≡ form
read_parts forms.StripeWeights words places given are =
    read_weights places are.option_words (values_no_option (places_of forms.StripeWeights) places are.places_are)
    (no_names are.option_words given are.options_are)
read_parts forms.StripeSegment words places given are =
    read_segment places are.option_words
    (any_starts are.option_words (needed_starts forms.StripeSegment are.option_words given are.options_are are.needed refl))
read_parts forms.Plan words places given are = refl
read_parts forms.RehearseTest words places given are = read_test places are.option_words are.places_are
read_parts forms.RehearseWords words places given are =
    read_rates places are.option_words are.places_are
    (needed_starts forms.RehearseWords are.option_words given are.options_are are.needed refl)
read_parts forms.Help words places given are = refl

-- words of a form are read by it
pub read_by_form : (form : FormName) (words : List (List ℕ)) → IsOfForm form words → form_read words ≡ form
read_by_form form words is = ap form_read is.are.words_are ∙ read_parts form words is.places is.given is.are

-- so they are of one form at most
pub form_once : (a b : FormName) (words : List (List ℕ)) → IsOfForm a words → IsOfForm b words → a ≡ b
form_once a b words is other = sym (read_by_form a words is) ∙ read_by_form b words other

-- and they aren't refused
pub form_not_refused : (form : FormName) (words : List (List ℕ)) (fault : WordsFault) → IsOfForm form words → IsRefused words fault → ⊥
form_not_refused form words (Refused place) is refused =
    not_refused (form_of (form_read words)) words place (subst (λ f. IsOfForm f words) (sym (read_by_form form words is)) is) refused
form_not_refused form words Memory is refused = refused
