-- What is read from clap's rows.
use Rattle.std.proofs.Common.{◌≡◌, ◌∙◌, ◌||◌, ℕ, zero, suc, Bool, true, false, true≢false, cond, List, [], ◌∷◌, ◌++◌, Option, Some, None, ap, refl, sym, subst, codes, map, inl, inr, length, arith, ◌≤◌}
use Rattle.std.specs.Prelude.{option_and_then, slice_get}
use Rattle.std.specs.List.{AllByRecursion, cons_option, filter_map, find}
use Rattle.std.specs.Option.{option_flatten, option_map, option_map_or}
use Rattle.std.specs.Str.{bytes_eq}
use Rattle.std.proofs.lemmas.Option.{slice_get-map, slice_get_past}
use Rattle.std.specs.Borrow.{Bor}
use Rattle.clap.specs.Walk.{Row, Text, first_of, has_row}
use Rattle.ld_words.specs.Forms.{AreValues, AreWordsOf, options_of, places_of}
use Rattle.ld_words.specs.Options.{Alone, Apart, Fits, Given, IsOptionOf, Joined, Manner, Written, is_among, is_name, kind_of, value_of}
use Rattle.ld_words.specs.Parsed.{all_names, flag_value, given_of, taken_of_rows, text_of}
use Rattle.ld_words.specs.Syntax.{bare_name, place_names}
use Rattle.ld_words.specs.Taken.{IsTakenOf, is_flag, is_none, text_at}
use Rattle.ld_words.specs.declared.form.FormName.{FormName}
use Rattle.ld_words.specs.declared.form.FormName.TheVariants.{StripeWeights, StripeSegment, Plan, RehearseTest, RehearseWords, Help}
use Rattle.ld_words.specs.declared.option.OptionName.{OptionName}
use Rattle.ld_words.specs.declared.option.OptionName.TheVariants as names
use Rattle.ld_words.specs.declared.value.ValueKind.{ValueKind}
use Rattle.ld_words.proofs.BareNameLemmas.{bare_names, either_order, one_name, same_text}
use Rattle.ld_words.proofs.AcceptedLemmas.{rows_of_words}
use Rattle.ld_words.proofs.DefaultLemmas.{Completes, off_row}
use Rattle.ld_words.proofs.FormSyntaxLemmas.{Differs, first_differs, lacks_options, rows_of_places, second_differs, third_differs}
use Rattle.ld_words.proofs.RowsLemmas.{row_of_option, value_shown}
use Rattle.ld_words.proofs.WalkedLemmas.{has_value}

-- ---- a value among the options that are read

either_false : (a b : Bool) → (a || b) ≡ false → (a ≡ false) × (b ≡ false)
either_false true b none = absurd (true≢false none)
either_false false b none = (refl, none)

every_name : (n : OptionName) → is_among n all_names ≡ true
every_name names.Segment = refl
every_name names.Sequence = refl
every_name names.Rate = refl
every_name names.Unit = refl
every_name names.Duration = refl
every_name names.Pre = refl
every_name names.Max = refl
every_name names.Iteration = refl
every_name names.Journal = refl
every_name names.Entries = refl
every_name names.List = refl

same_name : (n m : OptionName) → is_name n m ≡ true → m ≡ n
same_name n m is = one_name m n (sym (bare_names n m) ∙ is)

-- a name that gives nothing isn't found, and else it is found with what it gives
value_first : (rows : List Row) (n m : OptionName) (more : List Given) →
    value_of n (cons_option (given_of rows m) more) ≡ cond (is_name n m) (option_map_or (λ v. Some v) (text_of rows m) (value_of n more)) (value_of n more)
value_first rows n m more = go (text_of rows m) (is_name n m) refl
  where
    go : (text : Option Text) (b : Bool) → is_name n m ≡ b →
        value_of n (cons_option (option_map (λ v. record { name = m; value = v }) text) more) ≡ cond b (option_map_or (λ v. Some v) text (value_of n more)) (value_of n more)
    go None true is = refl
    go None false is = refl
    go (Some v) true is = rw is refl
    go (Some v) false is = rw is refl

nothing_given : (rows : List Row) (n : OptionName) (ms : List OptionName) → text_of rows n ≡ None → value_of n (filter_map (given_of rows) ms) ≡ None
nothing_given rows n [] none = refl
nothing_given rows n (m ∷ ms) none = value_first rows n m (filter_map (given_of rows) ms) ∙ go (is_name n m) (same_name n m) (nothing_given rows n ms none)
  where
    go : (b : Bool) → (b ≡ true → m ≡ n) → value_of n (filter_map (given_of rows) ms) ≡ None →
        cond b (option_map_or (λ v. Some v) (text_of rows m) (value_of n (filter_map (given_of rows) ms))) (value_of n (filter_map (given_of rows) ms)) ≡ None
    go true same rest = ap (λ text. option_map_or (λ v. Some v) text (value_of n (filter_map (given_of rows) ms))) (ap (text_of rows) (same refl) ∙ none) ∙ rest
    go false same rest = rest

something_given : (rows : List Row) (n : OptionName) (v : Text) (ms : List OptionName) → text_of rows n ≡ Some v → is_among n ms ≡ true → value_of n (filter_map (given_of rows) ms) ≡ Some v
something_given rows n v [] some among = absurd (true≢false (sym among))
something_given rows n v (m ∷ ms) some among = value_first rows n m (filter_map (given_of rows) ms) ∙ go (is_name n m) (same_name n m) among (something_given rows n v ms some)
  where
    go : (b : Bool) → (b ≡ true → m ≡ n) → (b || is_among n ms) ≡ true → (is_among n ms ≡ true → value_of n (filter_map (given_of rows) ms) ≡ Some v) →
        cond b (option_map_or (λ v. Some v) (text_of rows m) (value_of n (filter_map (given_of rows) ms))) (value_of n (filter_map (given_of rows) ms)) ≡ Some v
    go true same among rest = ap (λ text. option_map_or (λ v. Some v) text (value_of n (filter_map (given_of rows) ms))) (ap (text_of rows) (same refl) ∙ some)
    go false same among rest = rest among

-- what is read for a name is what the rows say of it
pub value_read : (rows : List Row) (n : OptionName) → value_of n (taken_of_rows rows).given ≡ text_of rows n
value_read rows n = go (text_of rows n) refl
  where
    go : (text : Option Text) → text_of rows n ≡ text → value_of n (taken_of_rows rows).given ≡ text
    go None is = nothing_given rows n all_names is
    go (Some v) is = something_given rows n v all_names is (every_name n)

-- ---- the rows of options

-- a flag that is given has the empty value
abbrev pub IsPlainFlag : Given → Type 0
IsPlainFlag g = is_flag g.name ≡ true → g.value ≡ []

flag_fits : (manner : Manner) (kind : ValueKind) (value : Text) → Fits manner kind value → is_none kind ≡ true → value ≡ []
flag_fits Apart kind value fits flag = absurd (true≢false (sym flag ∙ has_value kind value fits))
flag_fits Joined kind value fits flag = absurd (true≢false (sym flag ∙ has_value kind value fits))
flag_fits Alone kind value fits flag = fits.1

flags_plain : (names : List OptionName) (written : List Written) → AllByRecursion (IsOptionOf names) written → AllByRecursion IsPlainFlag (map (λ w. w.option) written)
flags_plain names [] each = tt
flags_plain names (x ∷ xs) each = (flag_fits x.manner (kind_of x.option.name) x.option.value each.0.fits, flags_plain names xs each.1)

-- the text that an option's row shows
shown : (g : Given) → IsPlainFlag g → cond (is_flag g.name) (flag_value (Some (value_shown g))) (Some (value_shown g)) ≡ Some g.value
shown g plain = go (is_flag g.name) plain
  where
    go : (b : Bool) → (b ≡ true → g.value ≡ []) → cond b (flag_value (Some (cond b (codes "true") g.value))) (Some (cond b (codes "true") g.value)) ≡ Some g.value
    go true plain = ap Some (sym (plain refl))
    go false plain = refl

hit : (g : Given) (rest : List Row) → IsPlainFlag g → text_of (row_of_option g ∷ rest) g.name ≡ Some g.value
hit g rest plain = let own = same_text (bare_name g.name) in rw own (shown g plain)

miss : (n : OptionName) (row : Row) (rest : List Row) → bytes_eq row.id (bare_name n) ≡ false → text_of (row ∷ rest) n ≡ text_of rest n
miss n row rest other = rw other refl

no_text : (n : OptionName) → text_of [] n ≡ None
no_text n = go (is_flag n)
  where
    go : (b : Bool) → ◌≡◌ {A = Option Text} (cond b None None) None
    go true = refl
    go false = refl

-- what the rows say of a name is its value
text_of_rows : (n : OptionName) (given : List Given) → AllByRecursion IsPlainFlag given → text_of (map row_of_option given) n ≡ value_of n given
text_of_rows n [] plain = no_text n
text_of_rows n (g ∷ gs) plain = go (is_name n g.name) refl (text_of_rows n gs plain.1)
  where
    go : (b : Bool) → is_name n g.name ≡ b → text_of (map row_of_option gs) n ≡ value_of n gs → text_of (row_of_option g ∷ map row_of_option gs) n ≡ value_of n (g ∷ gs)
    go true is rest =
        let same : g.name ≡ n = same_name n g.name is in
        let found : text_of (row_of_option g ∷ map row_of_option gs) n ≡ Some g.value =
        subst (λ m. text_of (row_of_option g ∷ map row_of_option gs) m ≡ Some g.value) same (hit g (map row_of_option gs) plain.0) in
        rw is found
    go false is rest = rw is (miss n (row_of_option g) (map row_of_option gs) (sym (bare_names n g.name) ∙ is) ∙ rest)

-- rows in front that have no option say nothing of one
behind_others : (n : OptionName) (front rest : List Row) → has_row (bare_name n) front ≡ false → text_of (front ++ rest) n ≡ text_of rest n
behind_others n [] rest none = refl
behind_others n (r ∷ rs) rest none =
    let parts = either_false (bytes_eq r.id (bare_name n)) (has_row (bare_name n) rs) none in
    miss n r (rs ++ rest) parts.0 ∙ behind_others n rs rest parts.1

-- ---- the row of a flag that isn't given

first_before : (id : Text) (rows : List Row) (last : Row) → bytes_eq last.id id ≡ false → first_of id (rows ++ last ∷ []) ≡ first_of id rows
first_before id [] last other = rw other refl
first_before id (r ∷ rs) last other = go (bytes_eq r.id id) (first_before id rs last other)
  where
    go : (b : Bool) → first_of id (rs ++ last ∷ []) ≡ first_of id rs
        → option_and_then (λ x. slice_get x.values 0) (cond b (Some r) (find (λ x. bytes_eq x.id id) (rs ++ last ∷ []))) ≡ option_and_then (λ x. slice_get x.values 0) (cond b (Some r) (find (λ x. bytes_eq x.id id) rs))
    go true rest = refl
    go false rest = rest

first_missing : (id : Text) (rows : List Row) → has_row id rows ≡ false → first_of id rows ≡ None
first_missing id [] none = refl
first_missing id (r ∷ rs) none =
    let parts = either_false (bytes_eq r.id id) (has_row id rs) none in
    rw parts.0 (first_missing id rs parts.1)

first_last : (id : Text) (rows : List Row) (last : Row) → has_row id rows ≡ false → bytes_eq last.id id ≡ true → first_of id (rows ++ last ∷ []) ≡ slice_get last.values 0
first_last id [] last none own = rw own refl
first_last id (r ∷ rs) last none own =
    let parts = either_false (bytes_eq r.id id) (has_row id rs) none in
    rw parts.0 (first_last id rs last parts.1 own)

off_says_nothing : (n : OptionName) (rows : List Row) → has_row (codes "list") rows ≡ false → text_of (rows ++ off_row ∷ []) n ≡ text_of rows n
off_says_nothing names.Segment rows none = first_before _ rows off_row refl
off_says_nothing names.Sequence rows none = first_before _ rows off_row refl
off_says_nothing names.Rate rows none = first_before _ rows off_row refl
off_says_nothing names.Unit rows none = first_before _ rows off_row refl
off_says_nothing names.Duration rows none = first_before _ rows off_row refl
off_says_nothing names.Pre rows none = first_before _ rows off_row refl
off_says_nothing names.Max rows none = first_before _ rows off_row refl
off_says_nothing names.Iteration rows none = first_before _ rows off_row refl
off_says_nothing names.Journal rows none = first_before _ rows off_row refl
off_says_nothing names.Entries rows none = first_before _ rows off_row refl
off_says_nothing names.List rows none = ap flag_value (first_last (codes "list") rows off_row none refl) ∙ sym (ap flag_value (first_missing (codes "list") rows none))

-- ---- the rows of places

no_place : (place : Text) → Differs place → (given : List Given) → first_of place (map row_of_option given) ≡ None
no_place place differs [] = refl
no_place place differs (g ∷ gs) =
    let other : bytes_eq (bare_name g.name) place ≡ false = either_order (bare_name g.name) place ∙ differs g.name in
    rw other (no_place place differs gs)

-- what is read at the three places that a form may have
at_three : (x y z : Option Text) (places : List Text) → length places ≤ 3 → x ≡ slice_get places 0 → y ≡ slice_get places 1 → z ≡ slice_get places 2 →
    (place : ℕ) → option_flatten (slice_get (x ∷ y ∷ z ∷ []) place) ≡ slice_get places place
at_three x y z places few first second third zero = first
at_three x y z places few first second third (suc zero) = second
at_three x y z places few first second third (suc (suc zero)) = third
at_three x y z places few first second third (suc (suc (suc k))) = sym (slice_get_past places (suc (suc (suc k))) (omega arith))

-- what the rows say of the places
record SayPlaces (rows : List Row) (places : List Text) : Type 0 where
  first : first_of (codes "place 1") rows ≡ slice_get places 0
  second : first_of (codes "place 2") rows ≡ slice_get places 1
  third : first_of (codes "place 3") rows ≡ slice_get places 2

say_places : (places : List Text) (given : List Given) → length places ≤ 3 → SayPlaces (rows_of_words places given) places
say_places [] given few = record { first = no_place _ first_differs given; second = no_place _ second_differs given; third = no_place _ third_differs given }
say_places (a ∷ []) given few = record { first = refl; second = no_place _ second_differs given; third = no_place _ third_differs given }
say_places (a ∷ b ∷ []) given few = record { first = refl; second = refl; third = no_place _ third_differs given }
say_places (a ∷ b ∷ c ∷ []) given few = record { first = refl; second = refl; third = refl }
say_places (a ∷ b ∷ c ∷ d ∷ more) given few = absurd (omega arith)

as_many : (kinds : List ValueKind) (places : List Text) → AreValues kinds places → length places ≡ length kinds
as_many [] [] are = refl
as_many [] (a ∷ more) are = absurd are
as_many (k ∷ ks) [] are = absurd are
as_many (k ∷ ks) (a ∷ more) are = let rest = as_many ks more are.1 in omega arith

few_places : (form : FormName) → length (places_of form) ≤ 3
few_places StripeWeights = omega arith
few_places StripeSegment = omega arith
few_places Plan = omega arith
few_places RehearseTest = omega arith
few_places RehearseWords = omega arith
few_places Help = omega arith

-- what is read at a place is what the rows say of its name
pub place_read : (rows : List Row) (names : List (Bor Text)) (place : ℕ) (name : Bor Text) → map (λ s. s.now) names ≡ place_names → slice_get names place ≡ Some name →
    text_at place (taken_of_rows rows) ≡ first_of name.now rows
place_read rows names place name are at =
    let text : slice_get place_names place ≡ Some name.now = ap (λ ns. slice_get ns place) (sym are) ∙ slice_get-map (λ (s : Bor Text). s.now) names place ∙ ap (option_map (λ (s : Bor Text). s.now)) at in
    ap option_flatten (slice_get-map (λ id. first_of id rows) place_names place ∙ ap (option_map (λ id. first_of id rows)) text)

-- ---- all of it

-- the rows after the defaults say the same of each id
record SaySame (rows after : List Row) : Type 0 where
  options : (n : OptionName) → text_of after n ≡ text_of rows n
  places : (place : Text) → bytes_eq (codes "list") place ≡ false → first_of place after ≡ first_of place rows

say_same : (rows after : List Row) → Completes rows after → SaySame rows after
say_same rows after (inl same) = subst (SaySame rows) (sym same) (record { options = λ n. refl; places = λ place other. refl })
say_same rows after (inr last) = subst (SaySame rows) (sym last.1) (record { options = λ n. off_says_nothing n rows last.0; places = λ place other. first_before place rows off_row other })

-- what is taken of words of a form is what stands at their places, and their options
pub taken_is : (form : FormName) (words places : List Text) (given : List Given) → AreWordsOf form words places given → (after : List Row) →
    Completes (rows_of_words places given) after → IsTakenOf places given (taken_of_rows after)
taken_is form words places given are after complete =
    let rows = rows_of_words places given in
    let same = say_same rows after complete in
    let many = as_many (places_of form) places are.places_are in
    let most = few_places form in
    let few : length places ≤ 3 = omega arith in
    let said = say_places places given few in
    let plain : AllByRecursion IsPlainFlag given = subst (AllByRecursion IsPlainFlag) (sym are.options_are.given_are) (flags_plain (options_of form) are.options_are.written are.options_are.each) in
    record {
      places_are = at_three _ _ _ places few (same.places (codes "place 1") refl ∙ said.first) (same.places (codes "place 2") refl ∙ said.second) (same.places (codes "place 3") refl ∙ said.third);
      options_are = λ n. value_read after n ∙ same.options n ∙ behind_others n (rows_of_places place_names places) (map row_of_option given) (lacks_options places n) ∙ text_of_rows n given plain;
    }
