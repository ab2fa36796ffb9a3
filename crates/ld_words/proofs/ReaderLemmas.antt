-- Words of a form, and the place at which they are refused: once for all forms.
use Rattle.std.proofs.Common.{◌≡◌, ◌≢◌, ◌<◌, ◌≤◌, ◌+◌, ◌∙◌, ◌++◌, ◌∷◌, [], ℕ, suc, List, length, get_or, take, drop, true, false, arith, refl, ap, sym, subst}
use Rattle.std.specs.Prelude.{◌&&◌, ◌||◌, Option, Some, None, Result, Ok, Err, MatchResult, is_some, slice_get}
use Rattle.std.specs.List.{AllByRecursion, list_all}
use Rattle.std.specs.Result.{IsErr, IsErrAnd}
use Rattle.std.specs.Str.{bytes_eq}
use Rattle.std.proofs.Math.Seq.{get_or-append_seam, take-length}
use Rattle.std.proofs.lemmas.List.{append_assoc, append-nil, get_or_append_left, length-append, length-take-le, take-append-drop}
use Rattle.std.proofs.lemmas.Option.{slice_get-get_or}
use Rattle.std.proofs.lemmas.Slice.Eq.{bytes_eq-Decides}
use Rattle.ld_words.specs.Form.{Form, IsFront, IsRefusal, IsRefusalBehind, IsRefusedBy}
use Rattle.ld_words.specs.Forms.{command_of, form_of, has_one_of, is_word, needs_of, options_of, places_of, AreValues, AreWordsOf}
use Rattle.ld_words.specs.Options.{is_among, AreOptions, Given}
use Rattle.ld_words.specs.OptionWords.{AreBegun, AreCounted, OfOptions}
use Rattle.ld_words.specs.declared.fault.WordsFault.{WordsFault}
use Rattle.ld_words.specs.declared.fault.WordsFault.TheVariants.{Refused, Memory}
use Rattle.ld_words.specs.declared.form.FormName.{FormName}
use Rattle.ld_words.specs.declared.form.FormName.TheVariants as forms
use Rattle.ld_words.specs.declared.option.OptionName.{OptionName}
use Rattle.ld_words.specs.declared.value.ValueKind.{ValueKind}
use Rattle.ld_words.specs.declared.value.ValueKind.TheVariants.{Flag}
use Rattle.ld_words.proofs.FormLemmas.{refused_at, refused_at_end, refused_behind, refused_from}
use Rattle.ld_words.proofs.OptionsLemmas.{no_options, options_once, with_names, IsGiven}
use Rattle.ld_words.proofs.PlacesLemmas.{value_at_place, values_append, values_behind, values_length}

-- ---- what is needed

-- the first of each list
firsts : List (List OptionName) → List OptionName
firsts [] = []
firsts ([] ∷ needs) = firsts needs
firsts ((n ∷ ns) ∷ needs) = n ∷ firsts needs

HaveFirst : List (List OptionName) → Type 0
HaveFirst [] = Unit {0}
HaveFirst ([] ∷ needs) = ⊥
HaveFirst ((n ∷ ns) ∷ needs) = HaveFirst needs

have_first : (form : FormName) → HaveFirst (needs_of form)
unfolding HaveFirst
have_first forms.StripeWeights = tt
have_first forms.StripeSegment = tt
have_first forms.Plan = tt
have_first forms.RehearseTest = tt
have_first forms.RehearseWords = tt
have_first forms.Help = tt

firsts_known : (form : FormName) → AllByRecursion (λ n. is_among n (options_of form) ≡ true) (firsts (needs_of form))
unfolding firsts
firsts_known forms.StripeWeights = tt
firsts_known forms.StripeSegment = (refl, tt)
firsts_known forms.Plan = tt
firsts_known forms.RehearseTest = (refl, (refl, tt))
firsts_known forms.RehearseWords = (refl, (refl, (refl, (refl, (refl, (refl, (refl, tt)))))))
firsts_known forms.Help = tt

-- where the first of each list is given, what is needed is
needed_given : (given : List Given) (needs : List (List OptionName)) → HaveFirst needs → AllByRecursion (IsGiven given) (firsts needs) →
    list_all (has_one_of given) needs ≡ true
unfolding firsts HaveFirst
needed_given given [] some have = refl
needed_given given ([] ∷ needs) some have = absurd some
needed_given given ((n ∷ ns) ∷ needs) some have =
    ap (λ o. (is_some o || has_one_of given ns) && list_all (has_one_of given) needs) have.0.1 ∙ needed_given given needs some have.1

-- ---- fronts

-- options behind the values at all places can go on to be words of the form
whole_front : (form : FormName) (places options : List (List ℕ)) → AreValues (places_of form) places → OfOptions (options_of form) options →
    (more : List (List ℕ)) × form_of form (command_of form ∷ places ++ (options ++ more))
whole_front form places options are is =
    let whole = with_names (options_of form) (firsts (needs_of form)) (firsts_known form) options is.0 is.1 in (
      whole.more,
      record {
        places = places;
        given = whole.all;
        are = record {
          option_words = options ++ whole.more;
          words_are = refl;
          places_are = are;
          options_are = whole.are;
          needed = needed_given whole.all (needs_of form) (have_first form) whole.have;
        };
      },
    )

begun_front : (form : FormName) (places options : List (List ℕ)) → AreValues (places_of form) places → OfOptions (options_of form) options →
    IsFront (form_of form) (command_of form ∷ places ++ options)
begun_front form places options are is =
    let whole = whole_front form places options are is in
    (whole.0, subst (λ ws. form_of form (command_of form ∷ ws)) (sym (append_assoc places options whole.0)) whole.1)

-- what stands behind the command
abbrev pub Behind : FormName → Form
Behind form words = form_of form (command_of form ∷ words)

-- values at the first places can go on too
places_front : (form : FormName) (i : ℕ) (words : List (List ℕ)) → AreValues (take i (places_of form)) words → IsFront (Behind form) words
places_front form i words are =
    let rest = values_behind form i in
    let all = subst (λ ks. AreValues ks (words ++ rest.0)) (take-append-drop i (places_of form)) (values_append (take i (places_of form)) (drop i (places_of form)) words rest.0 are rest.1) in
    let whole = whole_front form (words ++ rest.0) [] all ([], no_options (options_of form)) in
    (rest.0 ++ whole.0, subst (λ ws. form_of form (command_of form ∷ ws)) (append_assoc words rest.0 whole.0) whole.1)

-- ---- the command

pub word_there : (words : List (List ℕ)) (place : ℕ) (text : List ℕ) → is_word words place text ≡ true → slice_get words place ≡ Some text
word_there words place text is = step (slice_get words place) refl
  where
    step : (o : Option (List ℕ)) → slice_get words place ≡ o → slice_get words place ≡ Some text
    step None found = absurd (let clash : false ≡ true = rw found at is in cc)
    step (Some word) found = found ∙ ap Some ((bytes_eq-Decides word text).0 (rw found at is))

-- words that begin with another word, or with none, are refused at once
pub refused_command : (form : FormName) (words : List (List ℕ)) → is_word words 0 (command_of form) ≡ false → IsRefusedBy (form_of form) words 0
refused_command form words other =
    refused_at (form_of form) words 0 (omega arith) (let front = places_front form 0 [] tt in (command_of form ∷ front.0, front.1))
    (λ word more at whole. never word at (let e : word ≡ command_of form = let all = whole.are.words_are in cc in e))
    (λ end whole. let none = ap length whole.are.words_are in absurd (omega arith))
  where
    never : (word : List ℕ) → slice_get words 0 ≡ Some word → word ≡ command_of form → ⊥
    never word found is =
        let another : bytes_eq word (command_of form) ≡ false = rw found at other in
        let clash = sym another ∙ (bytes_eq-Decides word (command_of form)).1 is in
        cc

-- ---- the places

-- the word behind the first ones
word_behind : (words : List (List ℕ)) (i : ℕ) (word : List ℕ) (more : List (List ℕ)) → i ≤ length words →
    slice_get (take i words ++ word ∷ more) i ≡ Some word
word_behind words i word more inside =
    let long = length-take-le i words inside in
    let all = length-append (take i words) (word ∷ more) in
    slice_get-get_or (take i words ++ word ∷ more) i word (omega arith)
    ∙ ap Some (ap (λ k. get_or (take i words ++ word ∷ more) k word) (sym long) ∙ get_or-append_seam (take i words) word more word)

-- a word among the first ones is the same in front of others
word_in_front : (words more : List (List ℕ)) (i : ℕ) (word : List ℕ) → i < length words → slice_get (words ++ more) i ≡ Some word →
    slice_get words i ≡ Some word
word_in_front words more i word inside at =
    let all = length-append words more in
    slice_get-get_or words i word inside ∙ ap Some (sym (get_or_append_left words more word i inside)) ∙ sym (slice_get-get_or (words ++ more) i word (omega arith)) ∙ at

-- words whose place isn't filled are refused there
refused_behind_command : (form : FormName) (words : List (List ℕ)) (count : ℕ) → AreCounted (places_of form) words count →
    count < length (places_of form) → IsRefusedBy (Behind form) words count
refused_behind_command form words count counted missing =
    let kind = get_or (places_of form) count Flag in
    let at_kind : slice_get (places_of form) count ≡ Some kind = slice_get-get_or (places_of form) count Flag missing in
    refused_at (Behind form) words count counted.inside (places_front form count (take count words) counted.are)
    (λ word more at whole.
    let are = whole.are in
    let long = values_length (places_of form) whole.places are.places_are in
    let same : whole.places ++ are.option_words ≡ take count words ++ word ∷ more = let all = are.words_are in cc in
    let here = word_in_front whole.places are.option_words count word (omega arith) (ap (λ ws. slice_get ws count) same ∙ word_behind words count word more counted.inside) in
    counted.more kind at_kind word (at, value_at_place (places_of form) whole.places count kind word are.places_are at_kind here))
    (λ end whole.
    let are = whole.are in
    let long = values_length (places_of form) whole.places are.places_are in
    let all = ap length are.words_are in
    let parts = length-append whole.places are.option_words in
    omega arith)

pub refused_place : (form : FormName) (words : List (List ℕ)) (count : ℕ) → slice_get words 0 ≡ Some (command_of form) →
    AreCounted (places_of form) (drop 1 words) count → count < length (places_of form) → IsRefusedBy (form_of form) words (1 + count)
refused_place form [] count name counted missing = cc
refused_place form (a ∷ ws) count name counted missing =
    let is : command_of form ≡ a = cc in
    subst (λ w. IsRefusedBy (form_of form) (w ∷ ws) (1 + count)) is
    (refused_behind (Behind form) (form_of form) (command_of form ∷ []) ws count
    (λ more whole. ([], subst (λ ws. form_of form (command_of form ∷ ws)) (sym (append-nil more)) whole))
    (λ more whole. whole)
    (refused_behind_command form ws count counted missing))

drop_one : (a : List ℕ) (ws : List (List ℕ)) (n : ℕ) → drop (1 + n) (a ∷ ws) ≡ drop n ws
drop_one a ws n = ap (λ k. drop k (a ∷ ws)) (let one : 1 + n ≡ suc n = omega arith in one)

-- words whose places are filled
pub begun : (form : FormName) (words places : List (List ℕ)) (count : ℕ) → slice_get words 0 ≡ Some (command_of form) →
    AreCounted (places_of form) (drop 1 words) count → length (places_of form) ≤ count → places ≡ take count (drop 1 words) → AreBegun form words places
begun form [] places count name counted all same = cc
begun form (a ∷ ws) places count name counted all same =
    let is : a ≡ command_of form = cc in
    let within = counted.within in
    let full : count ≡ length (places_of form) = omega arith in
    let long : length places ≡ count = ap length same ∙ length-take-le count ws counted.inside in
    record {
      words_are = ap (λ w. w ∷ ws) is ∙ ap (λ ws. command_of form ∷ ws) (sym (take-append-drop count ws) ∙ ap (λ ps. ps ++ drop count ws) (sym same) ∙ ap (λ k. places ++ drop k ws) (sym long) ∙ ap (λ os. places ++ os) (sym (drop_one a ws (length places))));
      places_are = subst (AreValues (places_of form)) (sym same) (subst (λ ks. AreValues ks (take count ws)) (ap (λ k. take k (places_of form)) full ∙ take-length (places_of form)) counted.are);
    }

-- ---- the options behind them

-- lists of one length in front of others
pub split_once : (a b x y : List (List ℕ)) → length a ≡ length b → a ++ x ≡ b ++ y → (a ≡ b) × (x ≡ y)
split_once [] [] x y long same = (refl, same)
split_once [] (c ∷ b) x y long same = cc
split_once (c ∷ a) [] x y long same = cc
split_once (c ∷ a) (d ∷ b) x y long same =
    let head : c ≡ d = cc in
    let shorter : length a ≡ length b = omega arith in
    let behind : a ++ x ≡ b ++ y = cc in
    let rest = split_once a b x y shorter behind in
    let tail = rest.0 in
    let whole : c ∷ a ≡ d ∷ b = cc in
    (whole, rest.1)

-- words of a form have one way to be of it
record Parts (form : FormName) (places options : List (List ℕ)) : Type 0 where
  pub given : List Given
  pub are : AreOptions (options_of form) options given
  pub needed : list_all (has_one_of given) (needs_of form) ≡ true

parts_behind : (form : FormName) (places options : List (List ℕ)) → AreValues (places_of form) places →
    form_of form (command_of form ∷ places ++ options) → Parts form places options
parts_behind form places options are whole =
    let all = whole.are in
    let words_are = all.words_are in
    let long : length whole.places ≡ length places = values_length (places_of form) whole.places all.places_are ∙ sym (values_length (places_of form) places are) in
    let behind : whole.places ++ all.option_words ≡ places ++ options = cc in
    let same = split_once whole.places places all.option_words options long behind in
    record {
      given = whole.given;
      are = subst (λ os. AreOptions (options_of form) os whole.given) same.1 all.options_are;
      needed = all.needed;
    }

pub refused_options : (form : FormName) (words places : List (List ℕ)) (fault : WordsFault) → AreBegun form words places →
    IsRefusalBehind (1 + length places) (OfOptions (options_of form)) words fault → IsRefusal (form_of form) words fault
refused_options form words places Memory is refused = refused
refused_options form words places (Refused place) is refused =
    let options = drop (1 + length places) words in
    subst (IsRefusedBy (form_of form) words) (let e : length (command_of form ∷ places) + refused.0 ≡ place = let at = refused.1 in omega arith in e)
    (subst (λ ws. IsRefusedBy (form_of form) ws (length (command_of form ∷ places) + refused.0)) (sym is.words_are)
    (refused_behind (OfOptions (options_of form)) (form_of form) (command_of form ∷ places) options refused.0
    (λ more are. begun_front form places more is.places_are are)
    (λ more whole. let parts = parts_behind form places more is.places_are whole in (parts.given, parts.are))
    refused.2))

-- ---- what is needed

pub refused_end : (form : FormName) (words places : List (List ℕ)) (given : List Given) (place : ℕ) → length words ≡ place → AreBegun form words places →
    AreOptions (options_of form) (drop (1 + length places) words) given → list_all (has_one_of given) (needs_of form) ≡ false →
    IsRefusedBy (form_of form) words place
refused_end form words places given place at_end is are missing =
    let options = drop (1 + length places) words in
    subst (IsRefusedBy (form_of form) words) at_end
    (subst (λ ws. IsRefusedBy (form_of form) ws (length ws)) (sym is.words_are)
    (refused_at_end (form_of form) (command_of form ∷ places ++ options) (begun_front form places options is.places_are (given, are))
    (λ whole.
    let parts = parts_behind form places options is.places_are whole in
    let once = options_once (options_of form) options given parts.given are parts.are in
    let clash = sym missing ∙ ap (λ gs. list_all (has_one_of gs) (needs_of form)) once ∙ parts.needed in
    cc)))

pub accepted : (form : FormName) (words places : List (List ℕ)) (given : List Given) → AreBegun form words places →
    AreOptions (options_of form) (drop (1 + length places) words) given → list_all (has_one_of given) (needs_of form) ≡ true →
    AreWordsOf form words places given
accepted form words places given is are needed = record {
  option_words = drop (1 + length places) words;
  words_are = is.words_are;
  places_are = is.places_are;
  options_are = are;
  needed = needed;
}

-- ---- what the reading of the places says of a form

pub refused_command_here : (form : FormName) (words : List (List ℕ)) (command : List ℕ) → command ≡ command_of form → is_word words 0 command ≡ false →
    IsRefusedBy (form_of form) words 0
refused_command_here form words command same other = refused_command form words (subst (λ c. is_word words 0 c ≡ false) same other)

named_here : (form : FormName) (words : List (List ℕ)) (command : List ℕ) → command ≡ command_of form → is_word words 0 command ≡ true →
    slice_get words 0 ≡ Some (command_of form)
named_here form words command same is = word_there words 0 (command_of form) (subst (λ c. is_word words 0 c ≡ true) same is)

counted_here : (form : FormName) (kinds : List ValueKind) (behind words : List (List ℕ)) (count : ℕ) → kinds ≡ places_of form → behind ≡ drop 1 words →
    AreCounted kinds behind count → AreCounted (places_of form) (drop 1 words) count
counted_here form kinds behind words count same_kinds same are =
    subst (λ ks. AreCounted ks (drop 1 words) count) same_kinds (subst (λ ws. AreCounted kinds ws count) same are)

pub refused_place_here : (form : FormName) (words behind : List (List ℕ)) (command : List ℕ) (kinds : List ValueKind) (count : ℕ) → command ≡ command_of form →
    kinds ≡ places_of form → is_word words 0 command ≡ true → behind ≡ drop 1 words → AreCounted kinds behind count → count < length kinds →
    IsRefusedBy (form_of form) words (1 + count)
refused_place_here form words behind command kinds count named same_kinds is same counted missing =
    refused_place form words count (named_here form words command named is) (counted_here form kinds behind words count same_kinds same counted)
    (subst (λ ks. count < length ks) same_kinds missing)

pub begun_here : (form : FormName) (words behind places : List (List ℕ)) (command : List ℕ) (kinds : List ValueKind) (count : ℕ) → command ≡ command_of form →
    kinds ≡ places_of form → is_word words 0 command ≡ true → behind ≡ drop 1 words → AreCounted kinds behind count → length kinds ≤ count →
    places ≡ take count behind → AreBegun form words places
begun_here form words behind places command kinds count named same_kinds is same counted all taken =
    begun form words places count (named_here form words command named is) (counted_here form kinds behind words count same_kinds same counted)
    (subst (λ ks. length ks ≤ count) same_kinds all) (taken ∙ ap (take count) same)

-- ---- what the reading of options says of a form

pub options_here : (form : FormName) (names : List OptionName) (read words : List (List ℕ)) (given : List Given) → names ≡ options_of form → read ≡ words →
    AreOptions names read given → AreOptions (options_of form) words given
options_here form names read words given same_names same are =
    subst (λ ns. AreOptions ns words given) same_names (subst (λ ws. AreOptions names ws given) same are)

pub refused_here : (form : FormName) (names : List OptionName) (read words : List (List ℕ)) (fault : WordsFault) (first behind place : ℕ) → names ≡ options_of form →
    read ≡ drop first words → fault ≡ Refused behind → place ≡ first + behind → (fault ≢ Memory → IsRefusal (OfOptions names) read fault) →
    IsRefusalBehind first (OfOptions (options_of form)) words (Refused place)
refused_here form names read words fault first behind place same_names same is at refused = (
  behind,
  at,
  subst (λ ns. IsRefusedBy (OfOptions ns) (drop first words) behind) same_names
      (subst (λ ws. IsRefusedBy (OfOptions names) ws behind) same (refused_from (OfOptions names) read fault behind is refused)),
)

-- ---- the same, with lengths as the code has them

-- the words reach to the last place
pub long_here : (form : FormName) (words places : List (List ℕ)) (count all : ℕ) → length places ≡ count → length words ≡ all → AreBegun form words places → 1 + count ≤ all
long_here form words places count all places_long words_long is =
    let whole = ap length is.words_are in
    let parts = length-append places (drop (1 + length places) words) in
    omega arith

pub refused_options_here : (form : FormName) (words places : List (List ℕ)) (count : ℕ) (fault : WordsFault) → length places ≡ count → AreBegun form words places →
    IsRefusalBehind (1 + count) (OfOptions (options_of form)) words fault → IsRefusal (form_of form) words fault
refused_options_here form words places count fault long is refused =
    refused_options form words places fault is (subst (λ n. IsRefusalBehind (1 + n) (OfOptions (options_of form)) words fault) (sym long) refused)

pub refused_end_here : (form : FormName) (words places : List (List ℕ)) (count all : ℕ) (given : List Given) → length places ≡ count → length words ≡ all →
    AreBegun form words places → AreOptions (options_of form) (drop (1 + count) words) given → list_all (has_one_of given) (needs_of form) ≡ false →
    IsRefusedBy (form_of form) words all
refused_end_here form words places count all given long words_long is are missing =
    refused_end form words places given all words_long is (subst (λ n. AreOptions (options_of form) (drop (1 + n) words) given) (sym long) are) missing

pub accepted_here : (form : FormName) (words places : List (List ℕ)) (count : ℕ) (given : List Given) → length places ≡ count → AreBegun form words places →
    AreOptions (options_of form) (drop (1 + count) words) given → list_all (has_one_of given) (needs_of form) ≡ true → AreWordsOf form words places given
accepted_here form words places count given long is are needed =
    accepted form words places given is (subst (λ n. AreOptions (options_of form) (drop (1 + n) words) given) (sym long) are) needed

-- a fault that is handed on
pub handed_on : {T : Type 0} (P : T → Type 0) (Q : WordsFault → Type 0) (result : Result T WordsFault) (fault : WordsFault) →
    IsErr result × IsErrAnd result (λ f. f ≡ fault) → Q fault → MatchResult result P Q
handed_on P Q (Ok x) fault is q = absurd (let e = is.0 in cc)
handed_on P Q (Err f) fault is q = subst Q (sym is.1) q
