-- Words that are options: one option more, and the place at which they are refused.
use Rattle.std.proofs.Common.{◌≡◌, ◌≢◌, ◌<◌, ◌≤◌, ◌+◌, ◌∙◌, ◌++◌, ◌∷◌, ◌⊎◌, [], inl, inr, Bor, ℕ, List, length, get_or, map, take, true, false, arith, refl, ap, sym, subst}
use Rattle.std.specs.Prelude.{Bool, MatchOption, Option, Some, None, is_some, codes, slice_get, slice_index_or}
use Rattle.std.specs.List.{AllByRecursion, flat_map}
use Rattle.std.specs.Option.{option_map}
use Rattle.std.proofs.lemmas.Grind.{flat_map-append}
use Rattle.std.proofs.Math.Seq.{take-length}
use Rattle.std.proofs.lemmas.List.{append_assoc, append-nil, map-append, take_more}
use Rattle.std.proofs.lemmas.Option.{slice_get-get_or, slice_get-map, slice_get_within, get_or_from_slice_get}
use Rattle.ld_words.specs.Form.{IsFront, IsRefusedBy}
use Rattle.ld_words.specs.Options.{is_among, kind_of, name_text, option_words, times_given, value_of, words_by, AreOptions, Fits, Given, IsOptionOf, Manner, Written}
use Rattle.ld_words.specs.Options.Manner.{Apart, Joined, Alone}
use Rattle.ld_words.specs.OptionWords.{given_by, HasNoValue, HasValue, IsNotOf, IsStep, OfOptions}
use Rattle.ld_words.specs.Values.{IsValueOf}
use Rattle.ld_words.specs.declared.given.GivenOption.{GivenOption}
use Rattle.ld_words.specs.declared.option.OptionName.{OptionName}
use Rattle.ld_words.specs.declared.value.ValueKind.{ValueKind}
use Rattle.ld_words.specs.declared.value.ValueKind.TheVariants.{Plain, Number, Count, Span, Entries, Weights, Flag}
use Rattle.ld_words.proofs.FormLemmas.{refused_at}
use Rattle.ld_words.proofs.OptionLemmas.{alone_isn't_joined, behind_written, joined_once, name_from_text, no_written, not_given_before, same_name, times_more, value_has, value_of_kept, value_of_more}
use Rattle.ld_words.proofs.ValueLemmas.{sample}

-- ---- what holds of each option

all_append : {A : Type 0} (P : A → Type 0) (xs ys : List A) → AllByRecursion P xs → AllByRecursion P ys → AllByRecursion P (xs ++ ys)
all_append P [] ys a b = b
all_append P (x ∷ xs) ys a b = (a.0, all_append P xs ys a.1 b)

all_back : {A : Type 0} (P : A → Type 0) (xs ys : List A) → AllByRecursion P (xs ++ ys) → AllByRecursion P ys
all_back P [] ys all = all
all_back P (x ∷ xs) ys all = all_back P xs ys all.1

-- ---- one option more

-- no options are none
pub no_options : (names : List OptionName) → AreOptions names [] []
no_options names = record {
  written = [];
  words_are = refl;
  given_are = refl;
  each = tt;
  once = λ n. omega arith;
}

pub option_more : (names : List OptionName) (words : List (List ℕ)) (given : List Given) (w : Written) → AreOptions names words given →
    IsOptionOf names w → value_of w.option.name given ≡ None → AreOptions names (words ++ option_words w) (given ++ w.option ∷ [])
option_more names words given w are valid none = record {
  written = are.written ++ w ∷ [];
  words_are = ap (λ ws. ws ++ option_words w) are.words_are ∙ sym (flat_map-append option_words are.written (w ∷ []) ∙ ap (λ ws. flat_map option_words are.written ++ ws) (append-nil (option_words w)));
  given_are = ap (λ gs. gs ++ w.option ∷ []) are.given_are ∙ sym (map-append (λ (v : Written). v.option) are.written (w ∷ []));
  each = all_append (IsOptionOf names) are.written (w ∷ []) are.each (valid, tt);
  once = λ n. times_more given w.option n none (are.once n);
}

-- a value that fits is of its kind, or it is a flag's
pub record IsKept (option : Given) : Type 0 where
  pub is : (kind_of option.name ≢ Flag → IsValueOf (kind_of option.name) option.value)

fits_kept : (j : Manner) (k : ValueKind) (v : List ℕ) → Fits j k v → k ≢ Flag → IsValueOf k v
fits_kept Apart k v fits taken = fits
fits_kept Joined k v fits taken = fits
fits_kept Alone k v fits taken = absurd (taken fits.0)

all_kept : (names : List OptionName) (ws : List Written) → AllByRecursion (IsOptionOf names) ws →
    AllByRecursion IsKept (map (λ (w : Written). w.option) ws)
all_kept names [] all = tt
all_kept names (w ∷ ws) all =
    (record { is = fits_kept w.manner (kind_of w.option.name) w.option.value all.0.fits }, all_kept names ws all.1)

-- a value under a name that is no flag's is of the name's kind
pub value_valid : (names : List OptionName) (words : List (List ℕ)) (given : List Given) → AreOptions names words given →
    (n : OptionName) (v : List ℕ) → value_of n given ≡ Some v → kind_of n ≢ Flag → IsValueOf (kind_of n) v
value_valid names words given are n v some taken =
    value_has n (IsValueOf (kind_of n)) IsKept
    (λ g is kept. subst (λ m. IsValueOf (kind_of m) g.value) (sym (same_name n g.name is)) (kept.is (subst (λ m. kind_of m ≢ Flag) (same_name n g.name is) taken)))
    given (subst (AllByRecursion IsKept) (sym are.given_are) (all_kept names are.written are.each)) v some

-- ---- the options of a form, all of them

-- a name has a value
abbrev pub IsGiven : List Given → OptionName → Type 0
IsGiven given n = (v : List ℕ) × (value_of n given ≡ Some v)

abbrev pub Keeps : List Given → List Given → Type 0
Keeps old new = (n : OptionName) → IsGiven old n → IsGiven new n

pub record CanHave (names : List OptionName) (words : List (List ℕ)) (given : List Given) (wanted : List OptionName) : Type 0 where
  pub more : List (List ℕ)
  pub all : List Given
  pub are : AreOptions names (words ++ more) all
  pub keeps : Keeps given all
  pub have : AllByRecursion (IsGiven all) wanted

-- a value that fits a kind, and how it stands
sample_value : ValueKind → List ℕ
sample_value Flag = []
sample_value _ = codes "10"

sample_manner : ValueKind → Manner
sample_manner Flag = Alone
sample_manner _ = Joined

sample_fits : (k : ValueKind) → Fits (sample_manner k) k (sample_value k)
unfolding sample_value sample_manner
sample_fits Plain = sample Plain (λ e. cc)
sample_fits Number = sample Number (λ e. cc)
sample_fits Count = sample Count (λ e. cc)
sample_fits Span = sample Span (λ e. cc)
sample_fits Entries = sample Entries (λ e. cc)
sample_fits Weights = sample Weights (λ e. cc)
sample_fits Flag = (refl, refl)

-- an option of a name
sample_option : OptionName → Written
sample_option n = record { option = record { name = n; value = sample_value (kind_of n) }; manner = sample_manner (kind_of n) }

with_name : (names : List OptionName) (words : List (List ℕ)) (given : List Given) (n : OptionName) → AreOptions names words given →
    is_among n names ≡ true → (o : Option (List ℕ)) → value_of n given ≡ o → CanHave names words given (n ∷ [])
unfolding sample_option
with_name names words given n are among (Some v) some = record {
  more = [];
  all = given;
  are = subst (λ ws. AreOptions names ws given) (sym (append-nil words)) are;
  keeps = λ m is. is;
  have = ((v, some), tt);
}
with_name names words given n are among None none =
    let w = sample_option n in
    record {
      more = option_words w;
      all = given ++ w.option ∷ [];
      are = option_more names words given w are (record { known = among; fits = sample_fits (kind_of n) }) none;
      keeps = λ m is. (is.0, value_of_kept m given w.option is.0 is.1);
      have = ((w.option.value, value_of_more given w.option none), tt);
    }

-- options can go on until they have all names that are wanted
pub with_names : (names : List OptionName) (wanted : List OptionName) → AllByRecursion (λ n. is_among n names ≡ true) wanted →
    (words : List (List ℕ)) (given : List Given) → AreOptions names words given → CanHave names words given wanted
with_names names [] known words given are = record {
  more = [];
  all = given;
  are = subst (λ ws. AreOptions names ws given) (sym (append-nil words)) are;
  keeps = λ m is. is;
  have = tt;
}
with_names names (n ∷ wanted) known words given are =
    let first = with_name names words given n are known.0 (value_of n given) refl in
    let rest = with_names names wanted known.1 (words ++ first.more) first.all first.are in
    record {
      more = first.more ++ rest.more;
      all = rest.all;
      are = subst (λ ws. AreOptions names ws rest.all) (append_assoc words first.more rest.more) rest.are;
      keeps = λ m is. rest.keeps m (first.keeps m is);
      have = (rest.keeps n first.have.0, rest.have);
    }

-- ---- what can stand behind options

-- options go on as options
options_front : (names : List OptionName) (words : List (List ℕ)) (given : List Given) → AreOptions names words given → IsFront (OfOptions names) words
options_front names words given are = ([], (given, subst (λ ws. AreOptions names ws given) (sym (append-nil words)) are))

record Next (names : List OptionName) (given : List Given) (behind : List (List ℕ)) : Type 0 where
  pub first : Written
  pub rest : List Written
  pub words_are : behind ≡ option_words first ++ flat_map option_words rest
  pub valid : IsOptionOf names first
  pub none : value_of first.option.name given ≡ None

-- words that are options behind others begin with one of another name
next_given : (names : List OptionName) (words : List (List ℕ)) (given all : List Given) (word : List ℕ) (more : List (List ℕ)) →
    AreOptions names words given → AreOptions names (words ++ word ∷ more) all → Next names given (word ∷ more)
next_given names words given all word more are whole =
    let behind = behind_written names are.written whole.written (word ∷ more) are.each whole.each (ap (λ ws. ws ++ word ∷ more) (sym are.words_are) ∙ whole.words_are) in
    step behind.0 behind.1 behind.2
  where
    step : (rest : List Written) → whole.written ≡ are.written ++ rest → word ∷ more ≡ flat_map option_words rest → Next names given (word ∷ more)
    step [] split is = cc
    step (w ∷ rest) split is =
        let all_are : all ≡ given ++ w.option ∷ map (λ (v : Written). v.option) rest =
        whole.given_are ∙ ap (map (λ (v : Written). v.option)) split
        ∙ map-append (λ (v : Written). v.option) are.written (w ∷ rest)
        ∙ ap (λ gs. gs ++ w.option ∷ map (λ (v : Written). v.option) rest) (sym are.given_are)
        in
        let each = all_back (IsOptionOf names) are.written (w ∷ rest) (subst (AllByRecursion (IsOptionOf names)) split whole.each) in
        let once : times_given w.option.name (given ++ w.option ∷ map (λ (v : Written). v.option) rest) ≤ 1 =
        subst (λ gs. times_given w.option.name gs ≤ 1) all_are (whole.once w.option.name)
        in
        record { first = w; rest = rest; words_are = is; valid = each.0; none = not_given_before given w.option _ once }

-- a word that begins no option of a name that isn't given yet
pub record BeginsNone (names : List OptionName) (word : List ℕ) (given : List Given) : Type 0 where
  pub alone : (n : OptionName) → is_among n names ≡ true → value_of n given ≡ None → word ≢ name_text n
  pub joined : (n : OptionName) (v : List ℕ) → is_among n names ≡ true → value_of n given ≡ None → IsValueOf (kind_of n) v → word ≢ name_text n ++ 61 ∷ v

none_first : (names : List OptionName) (word : List ℕ) (more rest : List (List ℕ)) (given : List Given) (n : OptionName) (v : List ℕ) (j : Manner) →
    BeginsNone names word given → is_among n names ≡ true → value_of n given ≡ None → Fits j (kind_of n) v →
    word ∷ more ≡ words_by j (name_text n) v ++ rest → ⊥
none_first names word more rest given n v Joined begins among none fits is = begins.joined n v among none fits cc
none_first names word more rest given n v Apart begins among none fits is = begins.alone n among none cc
none_first names word more rest given n v Alone begins among none fits is = begins.alone n among none cc

none_begins : (names : List OptionName) (word : List ℕ) (more : List (List ℕ)) (words : List (List ℕ)) (given all : List Given) →
    AreOptions names words given → BeginsNone names word given → AreOptions names (words ++ word ∷ more) all → ⊥
none_begins names word more words given all are none whole =
    let next = next_given names words given all word more are whole in
    let w = next.first in
    none_first names word more (flat_map option_words next.rest) given w.option.name w.option.value w.manner none next.valid.known next.none next.valid.fits next.words_are

-- a word that begins no option is refused
pub refused_word : (names : List OptionName) (words : List (List ℕ)) (place : ℕ) (given : List Given) (word : List ℕ) → AreOptions names (take place words) given →
    slice_get words place ≡ Some word → BeginsNone names word given → IsRefusedBy (OfOptions names) words place
refused_word names words place given word are is none =
    let inside = slice_get_within words place word is in
    refused_at (OfOptions names) words place (omega arith) (options_front names (take place words) given are)
    (λ w more at front.
    let same : word ≡ w = let e = sym is ∙ at in cc in
    none_begins names w more (take place words) given front.0 are (subst (λ x. BeginsNone names x given) same none) front.1)
    (λ end whole. absurd (omega arith))

-- the option of a name is no flag, and has its value behind it
alone_first : (n m : OptionName) (v : List ℕ) (j : Manner) (more rest : List (List ℕ)) → kind_of n ≢ Flag → Fits j (kind_of m) v →
    name_text n ∷ more ≡ words_by j (name_text m) v ++ rest → (n ≡ m) × (more ≡ v ∷ rest) × IsValueOf (kind_of m) v
alone_first n m v Joined more rest taken fits is = absurd (alone_isn't_joined n m v cc)
alone_first n m v Apart more rest taken fits is = (name_from_text n m cc, cc, fits)
alone_first n m v Alone more rest taken fits is = absurd (taken (ap kind_of (name_from_text n m cc) ∙ fits.0))

-- a name that takes a value, without one behind it
pub refused_value : (names : List OptionName) (words : List (List ℕ)) (place : ℕ) (given : List Given) (n : OptionName) → AreOptions names (take place words) given →
    is_among n names ≡ true → slice_get words place ≡ Some (name_text n) → value_of n given ≡ None → HasNoValue n words (place + 1) →
    IsRefusedBy (OfOptions names) words (place + 1)
refused_value names words place given n are among is none no_value =
    let inside = slice_get_within words place (name_text n) is in
    let word : get_or words place [] ≡ name_text n = get_or_from_slice_get words place (name_text n) [] is in
    let front : take (place + 1) words ≡ take place words ++ name_text n ∷ [] =
    take_more words place [] inside ∙ ap (λ w. take place words ++ w ∷ []) word in
    refused_at (OfOptions names) words (place + 1) (omega arith)
    (subst (IsFront (OfOptions names)) (sym front) (name_front (take place words) are))
    (λ w more at whole.
    value_behind (take place words) are whole.0 (w ∷ more)
    (subst (λ ws. AreOptions names ws whole.0) (ap (λ ws. ws ++ w ∷ more) front ∙ append_assoc (take place words) (name_text n ∷ []) (w ∷ more)) whole.1)
    (λ m v rest name same valid. no_value.none v (at ∙ (let e : w ≡ v = cc in ap Some e), subst (λ k. IsValueOf (kind_of k) v) (sym name) valid)))
    (λ end whole.
    let all : words ≡ take place words ++ name_text n ∷ [] = sym (take_all_words words (place + 1) end) ∙ front in
    value_behind (take place words) are whole.0 []
    (subst (λ ws. AreOptions names ws whole.0) all whole.1) (λ m v rest name same valid. absurd cc))
  where
    take_all_words : (words : List (List ℕ)) (k : ℕ) → k ≡ length words → take k words ≡ words
    take_all_words words k e = ap (λ k. take k words) e ∙ take-length words

    -- a name goes on with a value
    name_front : (some : List (List ℕ)) → AreOptions names some given → IsFront (OfOptions names) (some ++ name_text n ∷ [])
    name_front some are =
        let w : Written = record { option = record { name = n; value = codes "10" }; manner = Apart } in
        let more = option_more names some given w are (record { known = among; fits = sample (kind_of n) no_value.wanted }) none in
        (codes "10" ∷ [], (_, subst (λ ws. AreOptions names ws (given ++ record { name = n; value = codes "10" } ∷ [])) (sym (append_assoc some (name_text n ∷ []) (codes "10" ∷ []))) more))

    value_behind : (some : List (List ℕ)) → AreOptions names some given →
        (all : List Given) (more : List (List ℕ)) → AreOptions names (some ++ name_text n ∷ more) all →
        ((m : OptionName) (v : List ℕ) (rest : List (List ℕ)) → n ≡ m → more ≡ v ∷ rest → IsValueOf (kind_of m) v → ⊥) → ⊥
    value_behind some are all more whole never =
        let next = next_given names some given all (name_text n) more are whole in
        let w = next.first in
        let first = alone_first n w.option.name w.option.value w.manner more (flat_map option_words next.rest) no_value.wanted next.valid.fits next.words_are in
        never w.option.name w.option.value (flat_map option_words next.rest) first.0 first.1 first.2

-- words are options in one way
pub options_once : (names : List OptionName) (words : List (List ℕ)) (given all : List Given) → AreOptions names words given → AreOptions names words all → given ≡ all
options_once names words given all a b =
    let behind = behind_written names a.written b.written [] a.each b.each (append-nil (flat_map option_words a.written) ∙ sym a.words_are ∙ b.words_are) in
    let nothing = no_written behind.0 behind.2 in
    let same : b.written ≡ a.written = behind.1 ∙ ap (λ ws. a.written ++ ws) nothing ∙ append-nil a.written in
    a.given_are ∙ ap (map (λ (w : Written). w.option)) (sym same) ∙ sym b.given_are

-- ---- what the reading of an option finds

-- a word that begins no option at all
pub other_begins_none : (names : List OptionName) (word : List ℕ) (given : List Given) → ((n : OptionName) → is_among n names ≡ true → IsNotOf word n) → BeginsNone names word given
other_begins_none names word given other = record {
  alone = λ n among none. (other n among).not_alone;
  joined = λ n v among none valid. (other n among).not_joined v;
}

some_isn't_none : {A : Type 0} (o : Option A) → is_some o ≡ true → o ≡ None → ⊥
some_isn't_none o some none = let e = sym some ∙ ap is_some none in cc

-- a name alone that is given already
pub name_begins_none : (names : List OptionName) (n : OptionName) (given : List Given) → is_some (value_of n given) ≡ true → BeginsNone names (name_text n) given
name_begins_none names n given some = record {
  alone = λ m among none same. some_isn't_none (value_of n given) some (ap (λ k. value_of k given) (name_from_text n m same) ∙ none);
  joined = λ m v among none valid. alone_isn't_joined n m v;
}

-- a name with a value that is given already, or whose value is none
pub joined_begins_none : (names : List OptionName) (n : OptionName) (value : List ℕ) (given : List Given) →
    (is_some (value_of n given) ≡ true) ⊎ (IsValueOf (kind_of n) value → ⊥) → BeginsNone names (name_text n ++ 61 ∷ value) given
joined_begins_none names n value given why = record {
  alone = λ m among none same. alone_isn't_joined m n value (sym same);
  joined = λ m v among none valid same. clash m v none valid (joined_once n m value v same) why;
}
  where
    clash : (m : OptionName) (v : List ℕ) → value_of m given ≡ None → IsValueOf (kind_of m) v → (n ≡ m) × (value ≡ v) →
        (is_some (value_of n given) ≡ true) ⊎ (IsValueOf (kind_of n) value → ⊥) → ⊥
    clash m v none valid same (inl some) = some_isn't_none (value_of n given) some (ap (λ k. value_of k given) same.0 ∙ none)
    clash m v none valid same (inr invalid) =
        invalid (subst (IsValueOf (kind_of n)) (sym same.1) (subst (λ k. IsValueOf (kind_of k) v) (sym same.0) valid))

-- whether a value was found under a name
pub is_found : (n : OptionName) (options slice : List GivenOption) (o : Option (Bor (List ℕ))) (found test : Bool) → slice ≡ options →
    MatchOption o (value_of n (given_by slice) ≡ None) (λ x. value_of n (given_by slice) ≡ Some x.now) → found ≡ is_some o → found ≡ test →
    is_some (value_of n (given_by options)) ≡ test
is_found n options slice o found test same is some passed =
    ap (λ os. is_some (value_of n (given_by os))) (sym same) ∙ step o is ∙ sym some ∙ passed
  where
    step : (o : Option (Bor (List ℕ))) → MatchOption o (value_of n (given_by slice) ≡ None) (λ x. value_of n (given_by slice) ≡ Some x.now) →
        is_some (value_of n (given_by slice)) ≡ is_some o
    step None is = ap is_some is
    step (Some x) is = ap is_some is

pub none_from_is_some : {A : Type 0} (o : Option A) → is_some o ≡ false → o ≡ None
none_from_is_some None none = refl
none_from_is_some (Some x) none = cc

step_in_one : (names : List OptionName) (words : List (List ℕ)) (place : ℕ) (old new : List GivenOption) (w : Written) (word : List ℕ) →
    AreOptions names (take place words) (given_by old) → IsOptionOf names w → slice_get words place ≡ Some word →
    value_of w.option.name (given_by old) ≡ None → given_by new ≡ given_by old ++ w.option ∷ [] → option_words w ≡ word ∷ [] →
    IsStep names words place (place + 1) new
step_in_one names words place old new w word are valid is none put alone =
    let inside = slice_get_within words place word is in
    let more = option_more names (take place words) (given_by old) w are valid none in
    let split = take_more words place [] inside ∙ ap (λ x. take place words ++ x ∷ []) (get_or_from_slice_get words place _ [] is) in
    record {
      further = omega arith;
      within = omega arith;
      read = subst (λ ws. AreOptions names ws (given_by new)) (ap (λ ws. take place words ++ ws) alone ∙ sym split) (subst (AreOptions names (take place words ++ option_words w)) (sym put) more);
    }

-- one option more, in one word
pub step_joined : (names : List OptionName) (words : List (List ℕ)) (place : ℕ) (old new : List GivenOption) (n : OptionName) (value : List ℕ) →
    AreOptions names (take place words) (given_by old) → is_among n names ≡ true → slice_get words place ≡ Some (name_text n ++ 61 ∷ value) →
    value_of n (given_by old) ≡ None → IsValueOf (kind_of n) value → given_by new ≡ given_by old ++ record { name = n; value = value } ∷ [] →
    IsStep names words place (place + 1) new
step_joined names words place old new n value are among is none valid put =
    step_in_one names words place old new (record { option = record { name = n; value = value }; manner = Joined }) _ are (record { known = among; fits = valid }) is none put refl

-- one option more, whose name is the word at a place
pub step_named : (names : List OptionName) (words : List (List ℕ)) (place behind : ℕ) (old new : List GivenOption) (n : OptionName) (value : List ℕ) →
    AreOptions names (take place words) (given_by old) → is_among n names ≡ true → slice_get words place ≡ Some (name_text n) →
    HasValue n words (place + 1) behind value →
    value_of n (given_by old) ≡ None → given_by new ≡ given_by old ++ record { name = n; value = value } ∷ [] →
    IsStep names words place behind new
step_named names words place behind old new n value are among is (inl flag) none put =
    subst (λ b. IsStep names words place b new) (sym flag.1)
    (step_in_one names words place old new (record { option = record { name = n; value = value }; manner = Alone }) _ are (record { known = among; fits = (flag.0, flag.2) }) is none put refl)
step_named names words place behind old new n value are among is (inr found) none put =
    let inside = slice_get_within words place (name_text n) is in
    let inside_next = slice_get_within words (place + 1) value found.0.0 in
    let more = option_more names (take place words) (given_by old) (record { option = record { name = n; value = value }; manner = Apart }) are (record { known = among; fits = found.0.1 }) none in
    let split = take_more words place [] inside ∙ ap (λ w. take place words ++ w ∷ []) (get_or_from_slice_get words place _ [] is) in
    let second = take_more words (place + 1) [] inside_next ∙ ap (λ w. take (place + 1) words ++ w ∷ []) (get_or_from_slice_get words (place + 1) _ [] found.0.0) in
    let at_end = found.1 in
    let both : take behind words ≡ take place words ++ name_text n ∷ value ∷ [] =
    ap (λ k. take k words) at_end ∙ second ∙ ap (λ ws. ws ++ value ∷ []) split ∙ append_assoc (take place words) (name_text n ∷ []) (value ∷ []) in
    record {
      further = omega arith;
      within = omega arith;
      read = subst (λ ws. AreOptions names ws (given_by new)) (sym both) (subst (AreOptions names (take place words ++ name_text n ∷ value ∷ [])) (sym put) more);
    }

-- the word at a place
pub word_at : {S : Type 0} (texts : List S) (bytes_of : S → List ℕ) (place : ℕ) (text : S) → place < length texts →
    text ≡ slice_index_or texts place text → slice_get (map bytes_of texts) place ≡ Some (bytes_of text)
word_at texts bytes_of place text inside is =
    slice_get-map bytes_of texts place ∙ ap (option_map bytes_of) (slice_get-get_or texts place text inside ∙ ap Some (sym is))
