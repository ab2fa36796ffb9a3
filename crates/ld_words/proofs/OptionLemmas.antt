-- Options: their names, what stands behind some of them, and what is given under a name.
use Rattle.std.proofs.Common.{◌≡◌, ◌≢◌, ◌<◌, ◌≤◌, ◌+◌, ◌∙◌, ◌++◌, ◌∷◌, [], ℕ, List, get_or, length, true, false, arith, refl, ap, sym, subst}
use Rattle.std.specs.Prelude.{◌==◌, Bool, Option, Some, None, codes, if◌then◌else◌}
use Rattle.std.specs.List.{AllByRecursion, after_first, before_first, flat_map, list_any}
use Rattle.std.specs.Str.{bytes_eq}
use Rattle.std.proofs.lemmas.List.Sums.{sum_by-append, sum_by-cons}
use Rattle.std.proofs.lemmas.List.{append_assoc}
use Rattle.std.proofs.lemmas.List.Folds.{list_any_at}
use Rattle.std.proofs.lemmas.Slice.Eq.{bytes_eq-Decides}
use Rattle.ld_words.specs.Options.{is_among, is_name, kind_of, name_text, option_words, times_given, value_of, words_by, Fits, Given, IsOptionOf, Manner, Written}
use Rattle.ld_words.specs.Options.Manner.{Apart, Joined, Alone}
use Rattle.ld_words.specs.Values.{IsValueOf}
use Rattle.ld_words.specs.declared.option.OptionName.{OptionName}
use Rattle.ld_words.specs.declared.option.OptionName.TheVariants as names
use Rattle.ld_words.specs.declared.value.ValueKind.{ValueKind}
use Rattle.ld_words.specs.declared.value.ValueKind.TheVariants.{Flag}

-- ---- names

-- the name that a text is
name_in : List ℕ → OptionName
name_in text =
    if bytes_eq text (codes "--segment") then names.Segment
    else if bytes_eq text (codes "--sequence") then names.Sequence
    else if bytes_eq text (codes "--rate") then names.Rate
    else if bytes_eq text (codes "--unit") then names.Unit
    else if bytes_eq text (codes "--duration") then names.Duration
    else if bytes_eq text (codes "--pre") then names.Pre
    else if bytes_eq text (codes "--max") then names.Max
    else if bytes_eq text (codes "--iteration") then names.Iteration
    else if bytes_eq text (codes "--journal") then names.Journal
    else if bytes_eq text (codes "--entries") then names.Entries
    else names.List

name_in_text : (n : OptionName) → name_in (name_text n) ≡ n
unfolding name_in
name_in_text names.Segment = refl
name_in_text names.Sequence = refl
name_in_text names.Rate = refl
name_in_text names.Unit = refl
name_in_text names.Duration = refl
name_in_text names.Pre = refl
name_in_text names.Max = refl
name_in_text names.Iteration = refl
name_in_text names.Journal = refl
name_in_text names.Entries = refl
name_in_text names.List = refl

pub name_from_text : (a b : OptionName) → name_text a ≡ name_text b → a ≡ b
name_from_text a b e = sym (name_in_text a) ∙ ap name_in e ∙ name_in_text b

-- no name has an equals sign
abbrev pub is_equals : ℕ → Bool
is_equals b = b == 61

no_equals : (n : OptionName) → list_any is_equals (name_text n) ≡ false
no_equals names.Segment = refl
no_equals names.Sequence = refl
no_equals names.Rate = refl
no_equals names.Unit = refl
no_equals names.Duration = refl
no_equals names.Pre = refl
no_equals names.Max = refl
no_equals names.Iteration = refl
no_equals names.Journal = refl
no_equals names.Entries = refl
no_equals names.List = refl

some_equals : (n : OptionName) (v : List ℕ) → list_any is_equals (name_text n ++ 61 ∷ v) ≡ true
some_equals names.Segment v = refl
some_equals names.Sequence v = refl
some_equals names.Rate v = refl
some_equals names.Unit v = refl
some_equals names.Duration v = refl
some_equals names.Pre v = refl
some_equals names.Max v = refl
some_equals names.Iteration v = refl
some_equals names.Journal v = refl
some_equals names.Entries v = refl
some_equals names.List v = refl

pub before_equals : (n : OptionName) (v : List ℕ) → before_first is_equals (name_text n ++ 61 ∷ v) ≡ name_text n
before_equals names.Segment v = refl
before_equals names.Sequence v = refl
before_equals names.Rate v = refl
before_equals names.Unit v = refl
before_equals names.Duration v = refl
before_equals names.Pre v = refl
before_equals names.Max v = refl
before_equals names.Iteration v = refl
before_equals names.Journal v = refl
before_equals names.Entries v = refl
before_equals names.List v = refl

pub after_equals : (n : OptionName) (v : List ℕ) → after_first is_equals (name_text n ++ 61 ∷ v) ≡ v
after_equals names.Segment v = refl
after_equals names.Sequence v = refl
after_equals names.Rate v = refl
after_equals names.Unit v = refl
after_equals names.Duration v = refl
after_equals names.Pre v = refl
after_equals names.Max v = refl
after_equals names.Iteration v = refl
after_equals names.Journal v = refl
after_equals names.Entries v = refl
after_equals names.List v = refl

pub alone_isn't_joined : (a b : OptionName) (value : List ℕ) → name_text a ≡ name_text b ++ 61 ∷ value → ⊥
alone_isn't_joined a b value e = let clash = sym (no_equals a) ∙ ap (list_any is_equals) e ∙ some_equals b value in cc

pub joined_once : (a b : OptionName) (v w : List ℕ) → name_text a ++ 61 ∷ v ≡ name_text b ++ 61 ∷ w → (a ≡ b) × (v ≡ w)
joined_once a b v w e = (
  name_from_text a b (sym (before_equals a v) ∙ ap (before_first is_equals) e ∙ before_equals b w),
  sym (after_equals a v) ∙ ap (after_first is_equals) e ∙ after_equals b w,
)

-- ---- what stands behind options

written_of : OptionName → List ℕ → Manner → Written
written_of n v j = record { option = record { name = n; value = v }; manner = j }

-- a flag has no value
pub no_flag_value : (k : ValueKind) (v : List ℕ) → k ≡ Flag → IsValueOf k v → ⊥
no_flag_value k v flag is = subst (λ l. IsValueOf l v) flag is

-- one option in front of words that are options is the first of them
first_from_parts : (n m : OptionName) (v w : List ℕ) (j k : Manner) (x y : List (List ℕ)) → Fits j (kind_of n) v → Fits k (kind_of m) w →
    words_by j (name_text n) v ++ x ≡ words_by k (name_text m) w ++ y → (n ≡ m) × (v ≡ w) × (j ≡ k) × (x ≡ y)
first_from_parts n m v w Joined Joined x y f g e =
    let same = joined_once n m v w cc in
    (same.0, same.1, refl, cc)
first_from_parts n m v w Joined Apart x y f g e = absurd (alone_isn't_joined m n v cc)
first_from_parts n m v w Joined Alone x y f g e = absurd (alone_isn't_joined m n v cc)
first_from_parts n m v w Apart Joined x y f g e = absurd (alone_isn't_joined n m w cc)
first_from_parts n m v w Apart Apart x y f g e = (name_from_text n m cc, cc, refl, cc)
first_from_parts n m v w Apart Alone x y f g e =
    absurd (no_flag_value (kind_of n) v (ap kind_of (name_from_text n m cc) ∙ g.0) f)
first_from_parts n m v w Alone Joined x y f g e = absurd (alone_isn't_joined n m w cc)
first_from_parts n m v w Alone Apart x y f g e =
    absurd (no_flag_value (kind_of m) w (ap kind_of (sym (name_from_text n m cc)) ∙ f.0) g)
first_from_parts n m v w Alone Alone x y f g e = (name_from_text n m cc, f.1 ∙ sym g.1, refl, cc)

some_words : (n : OptionName) (v : List ℕ) (j : Manner) (x : List (List ℕ)) → words_by j (name_text n) v ++ x ≡ [] → ⊥
some_words n v Joined x e = cc
some_words n v Apart x e = cc
some_words n v Alone x e = cc

first_written : (names : List OptionName) (w : Written) (x : List (List ℕ)) (ws : List Written) → IsOptionOf names w → AllByRecursion (IsOptionOf names) ws →
    option_words w ++ x ≡ flat_map option_words ws → (rest : List Written) × (ws ≡ w ∷ rest) × (x ≡ flat_map option_words rest)
unfolding written_of
first_written names w x [] is all e = absurd (some_words w.option.name w.option.value w.manner x e)
first_written names w x (v ∷ ws) is all e =
    let same = first_from_parts w.option.name v.option.name w.option.value v.option.value w.manner v.manner x (flat_map option_words ws) is.fits all.0.fits e in
    (ws, ap (λ (k : Written). k ∷ ws) (written_from_parts w v same.0 same.1 same.2), same.3)
  where
    written_from_parts : (g h : Written) → g.option.name ≡ h.option.name → g.option.value ≡ h.option.value → g.manner ≡ h.manner → h ≡ g
    written_from_parts g h names values manners =
        ap (λ n. written_of n h.option.value h.manner) (sym names)
        ∙ ap (λ v. written_of g.option.name v h.manner) (sym values)
        ∙ ap (written_of g.option.name g.option.value) (sym manners)

-- options in front of words that are options are the first of them
pub behind_written : (names : List OptionName) (ws all : List Written) (x : List (List ℕ)) → AllByRecursion (IsOptionOf names) ws →
    AllByRecursion (IsOptionOf names) all → flat_map option_words ws ++ x ≡ flat_map option_words all →
    (rest : List Written) × (all ≡ ws ++ rest) × (x ≡ flat_map option_words rest)
behind_written names [] all x are each e = (all, refl, e)
behind_written names (w ∷ ws) all x are each e =
    let first = first_written names w (flat_map option_words ws ++ x) all are.0 each (sym (append_assoc (option_words w) (flat_map option_words ws) x) ∙ e) in
    let rest = subst (AllByRecursion (IsOptionOf names)) first.1 each in
    let more = behind_written names ws first.0 x are.1 rest.1 first.2 in
    (more.0, first.1 ∙ ap (λ hs. w ∷ hs) more.1, more.2)

-- words that are no option more
pub no_written : (ws : List Written) → [] ≡ flat_map option_words ws → ws ≡ []
no_written [] e = refl
no_written (w ∷ ws) e = absurd (some_words w.option.name w.option.value w.manner (flat_map option_words ws) (sym e))

-- ---- what is given under a name

pub is_name_itself : (n : OptionName) → is_name n n ≡ true
is_name_itself n = (bytes_eq-Decides (name_text n) (name_text n)).1 refl

pub same_name : (n m : OptionName) → is_name n m ≡ true → n ≡ m
same_name n m is = name_from_text n m ((bytes_eq-Decides (name_text n) (name_text m)).0 is)

not_name : (n m : OptionName) → n ≢ m → is_name n m ≡ false
not_name n m other = step (is_name n m) refl
  where
    step : (b : Bool) → is_name n m ≡ b → is_name n m ≡ false
    step true is = absurd (other (same_name n m is))
    step false is = is

times-append : (n : OptionName) (gs hs : List Given) → times_given n (gs ++ hs) ≡ times_given n gs + times_given n hs
times-append n gs hs = sum_by-append (λ (g : Given). if is_name n g.name then 1 else 0) gs hs

times-cons : (n : OptionName) (g : Given) (gs : List Given) →
    times_given n (g ∷ gs) ≡ (if is_name n g.name then 1 else 0) + times_given n gs
times-cons n g gs = sum_by-cons (λ (g : Given). if is_name n g.name then 1 else 0) g gs

times-here : (n : OptionName) (g : Given) (gs : List Given) → is_name n g.name ≡ true → times_given n (g ∷ gs) ≡ 1 + times_given n gs
times-here n g gs is = times-cons n g gs ∙ ap (λ b. (if b then 1 else 0) + times_given n gs) is

times-there : (n : OptionName) (g : Given) (gs : List Given) → is_name n g.name ≡ false → times_given n (g ∷ gs) ≡ times_given n gs
times-there n g gs is =
    let none : times_given n (g ∷ gs) ≡ 0 + times_given n gs = times-cons n g gs ∙ ap (λ b. (if b then 1 else 0) + times_given n gs) is in
    omega arith

value-here : (n : OptionName) (g : Given) (gs : List Given) → is_name n g.name ≡ true → value_of n (g ∷ gs) ≡ Some g.value
value-here n g gs is = rw is refl

value-there : (n : OptionName) (g : Given) (gs : List Given) → is_name n g.name ≡ false → value_of n (g ∷ gs) ≡ value_of n gs
value-there n g gs is = rw is refl

-- a name is given no time exactly where it has no value
none_step : (n : OptionName) (g : Given) (gs : List Given) (b : Bool) → is_name n g.name ≡ b →
    (times_given n gs ≡ 0 → value_of n gs ≡ None) → times_given n (g ∷ gs) ≡ 0 → value_of n (g ∷ gs) ≡ None
none_step n g gs true is more none = let here = times-here n g gs is in absurd (omega arith)
none_step n g gs false is more none = value-there n g gs is ∙ more (sym (times-there n g gs is) ∙ none)

pub none_from_times : (n : OptionName) (gs : List Given) → times_given n gs ≡ 0 → value_of n gs ≡ None
none_from_times n [] none = refl
none_from_times n (g ∷ gs) none = none_step n g gs (is_name n g.name) refl (none_from_times n gs) none

times_step : (n : OptionName) (g : Given) (gs : List Given) (b : Bool) → is_name n g.name ≡ b →
    (value_of n gs ≡ None → times_given n gs ≡ 0) → value_of n (g ∷ gs) ≡ None → times_given n (g ∷ gs) ≡ 0
times_step n g gs true is more none = absurd (let some = sym (value-here n g gs is) ∙ none in cc)
times_step n g gs false is more none = times-there n g gs is ∙ more (sym (value-there n g gs is) ∙ none)

pub times_from_none : (n : OptionName) (gs : List Given) → value_of n gs ≡ None → times_given n gs ≡ 0
times_from_none n [] none = refl
times_from_none n (g ∷ gs) none = times_step n g gs (is_name n g.name) refl (times_from_none n gs) none

-- an option behind others that have not its name
more_step : (n : OptionName) (h : Given) (gs : List Given) (g : Given) (v : Option (List ℕ)) (b : Bool) → is_name n h.name ≡ b →
    (value_of n gs ≡ None → value_of n (gs ++ g ∷ []) ≡ v) → value_of n (h ∷ gs) ≡ None → value_of n (h ∷ gs ++ g ∷ []) ≡ v
more_step n h gs g v true is more none = absurd (let some = sym (value-here n h gs is) ∙ none in cc)
more_step n h gs g v false is more none = value-there n h (gs ++ g ∷ []) is ∙ more (sym (value-there n h gs is) ∙ none)

pub value_of_more : (gs : List Given) (g : Given) → value_of g.name gs ≡ None → value_of g.name (gs ++ g ∷ []) ≡ Some g.value
value_of_more [] g none = value-here g.name g [] (is_name_itself g.name)
value_of_more (h ∷ gs) g none = more_step g.name h gs g (Some g.value) (is_name g.name h.name) refl (value_of_more gs g) none

other_step : (n : OptionName) (h : Given) (gs : List Given) (g : Given) (b : Bool) → is_name n h.name ≡ b →
    value_of n (gs ++ g ∷ []) ≡ value_of n gs → value_of n (h ∷ gs ++ g ∷ []) ≡ value_of n (h ∷ gs)
other_step n h gs g true is more = value-here n h (gs ++ g ∷ []) is ∙ sym (value-here n h gs is)
other_step n h gs g false is more = value-there n h (gs ++ g ∷ []) is ∙ more ∙ sym (value-there n h gs is)

pub value_of_other : (n : OptionName) (gs : List Given) (g : Given) → n ≢ g.name → value_of n (gs ++ g ∷ []) ≡ value_of n gs
value_of_other n [] g other = value-there n g [] (not_name n g.name other)
value_of_other n (h ∷ gs) g other = other_step n h gs g (is_name n h.name) refl (value_of_other n gs g other)

-- where no name is given twice, the name of an option is not given before it
pub not_given_before : (gs : List Given) (g : Given) (rest : List Given) → times_given g.name (gs ++ g ∷ rest) ≤ 1 → value_of g.name gs ≡ None
not_given_before gs g rest once =
    let sum = times-append g.name gs (g ∷ rest) in
    let here = times-here g.name g rest (is_name_itself g.name) in
    none_from_times g.name gs (omega arith)

pub times_more : (gs : List Given) (g : Given) (n : OptionName) → value_of g.name gs ≡ None → times_given n gs ≤ 1 → times_given n (gs ++ g ∷ []) ≤ 1
times_more gs g n none once = step (is_name n g.name) refl (same_name n g.name)
  where
    step : (b : Bool) → is_name n g.name ≡ b → (is_name n g.name ≡ true → n ≡ g.name) → times_given n (gs ++ g ∷ []) ≤ 1
    step true is same =
        let sum = times-append n gs (g ∷ []) in
        let here = times-here n g [] is in
        let before = times_from_none n gs (subst (λ m. value_of m gs ≡ None) (sym (same is)) none) in
        omega arith
    step false is same =
        let sum = times-append n gs (g ∷ []) in
        let there = times-there n g [] is in
        omega arith

-- what is given stays, whatever is given behind it
kept_step : (n : OptionName) (h : Given) (gs : List Given) (g : Given) (v : List ℕ) (b : Bool) → is_name n h.name ≡ b →
    (value_of n gs ≡ Some v → value_of n (gs ++ g ∷ []) ≡ Some v) → value_of n (h ∷ gs) ≡ Some v → value_of n (h ∷ gs ++ g ∷ []) ≡ Some v
kept_step n h gs g v true is more some = value-here n h (gs ++ g ∷ []) is ∙ sym (value-here n h gs is) ∙ some
kept_step n h gs g v false is more some = value-there n h (gs ++ g ∷ []) is ∙ more (sym (value-there n h gs is) ∙ some)

pub value_of_kept : (n : OptionName) (gs : List Given) (g : Given) (v : List ℕ) → value_of n gs ≡ Some v → value_of n (gs ++ g ∷ []) ≡ Some v
value_of_kept n [] g v some = cc
value_of_kept n (h ∷ gs) g v some = kept_step n h gs g v (is_name n h.name) refl (value_of_kept n gs g v) some

-- the value under a name has what each option under that name has
value_step : (n : OptionName) (P : List ℕ → Type 0) (g : Given) (gs : List Given) (v : List ℕ) (b : Bool) → is_name n g.name ≡ b →
    (is_name n g.name ≡ true → P g.value) → (value_of n gs ≡ Some v → P v) → value_of n (g ∷ gs) ≡ Some v → P v
value_step n P g gs v true is here more some = subst P (let e : g.value ≡ v = let same = sym (value-here n g gs is) ∙ some in cc in e) (here is)
value_step n P g gs v false is here more some = more (sym (value-there n g gs is) ∙ some)

pub value_has : (n : OptionName) (P : List ℕ → Type 0) (Q : Given → Type 0) → ((g : Given) → is_name n g.name ≡ true → Q g → P g.value) →
    (gs : List Given) → AllByRecursion Q gs → (v : List ℕ) → value_of n gs ≡ Some v → P v
value_has n P Q gives [] all v some = absurd cc
value_has n P Q gives (g ∷ gs) all v some =
    value_step n P g gs v (is_name n g.name) refl (λ is. gives g is all.0) (value_has n P Q gives gs all.1 v) some

-- an option of another name gives none
pub value_of_none_more : (n : OptionName) (gs : List Given) (g : Given) → value_of n gs ≡ None → is_name n g.name ≡ false → value_of n (gs ++ g ∷ []) ≡ None
value_of_none_more n [] g none other = value-there n g [] other
value_of_none_more n (h ∷ gs) g none other = more_step n h gs g None (is_name n h.name) refl (λ less. value_of_none_more n gs g less other) none

-- ---- the names among which a text is looked for

pub written_at : (names : List OptionName) (text : List ℕ) (i : ℕ) (d : OptionName) → i < length names → bytes_eq text (name_text (get_or names i d)) ≡ true →
    (is_among (get_or names i d) names ≡ true) × (text ≡ name_text (get_or names i d))
written_at names text i d inside is = (
  list_any_at (is_name (get_or names i d)) names i d inside (is_name_itself (get_or names i d)),
  (bytes_eq-Decides text (name_text (get_or names i d))).0 is,
)
