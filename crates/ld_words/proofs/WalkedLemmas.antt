-- The walk of clap over options in any order.
use Rattle.std.proofs.Common.{◌≡◌, ◌∙◌, ◌≤◌, ◌+◌, ◌||◌, ℕ, Bool, true, false, cond, List, [], ◌∷◌, ◌++◌, Some, ap, ap₂, arith, refl, sym, subst, codes, map, append_assoc, append-nil}
use Rattle.std.specs.List.{AllByRecursion, count_by, flat_map, list_any}
use Rattle.std.specs.Str.{bytes_eq}
use Rattle.std.proofs.lemmas.List.{map-append}
use Rattle.std.proofs.lemmas.List.Folds.{list_any-append}
use Rattle.std.proofs.lemmas.List.Sums.{sum_by-append, sum_by-cons}
use Rattle.clap.specs.Walk.{Row, Rule, Walk, arg_by_id, arg_by_long, has_row}
use Rattle.clap.specs.Simple.{Shape, filled}
use Rattle.ld_words.specs.Options.{Alone, Apart, Fits, Given, IsOptionOf, Joined, Manner, Written, is_among, is_name, kind_of, name_text, option_words, times_given, words_by}
use Rattle.ld_words.specs.Syntax.{bare_name, option_rule}
use Rattle.ld_words.specs.Taken.{is_flag, is_none}
use Rattle.ld_words.specs.Values.{IsValueOf}
use Rattle.ld_words.specs.declared.option.OptionName.{OptionName}
use Rattle.ld_words.specs.declared.value.ValueKind.{ValueKind}
use Rattle.ld_words.specs.declared.value.ValueKind.TheVariants as kinds
use Rattle.ld_words.proofs.BareNameLemmas.{bare_names, more_than_dashes, read_alone, read_joined, same_text}
use Rattle.ld_words.proofs.DashLemmas.{no_dash}
use Rattle.ld_words.proofs.RowsLemmas.{row_of_option, row_of_word}
use Rattle.ld_words.proofs.StepLemmas.{Leads, Rests, alone, apart, flag_rule, joined, leads_on, stays, value_rule}

-- what clap makes of an option
abbrev pub built_option : OptionName → Rule
built_option name = filled (option_rule name)

-- clap finds each of these options, by its name and by its id
pub record Knows (s : Shape) (names : List OptionName) : Type 0 where
  pub by_name : (n : OptionName) → is_among n names ≡ true → arg_by_long s.rules (bare_name n) ≡ Some (built_option n)
  pub by_id : (n : OptionName) → is_among n names ≡ true → arg_by_id s.rules (bare_name n) ≡ Some (built_option n)

-- ---- one option

takes_value : (n : OptionName) → is_flag n ≡ false → built_option n ≡ value_rule (bare_name n)
takes_value n takes = rw takes refl

takes_none : (n : OptionName) → is_flag n ≡ true → built_option n ≡ flag_rule (bare_name n)
takes_none n takes = rw takes refl

-- what has a value is no flag
pub has_value : (kind : ValueKind) (value : List ℕ) → IsValueOf kind value → is_none kind ≡ false
has_value kinds.Plain value is = refl
has_value kinds.Number value is = refl
has_value kinds.Count value is = refl
has_value kinds.Span value is = refl
has_value kinds.Entries value is = refl
has_value kinds.Weights value is = refl
has_value kinds.Flag value is = absurd is

shown_value : (n : OptionName) (value : List ℕ) → is_flag n ≡ false → row_of_word (bare_name n) value ≡ row_of_option (record { name = n; value = value })
shown_value n value takes = rw takes refl

shown_flag : (n : OptionName) (value : List ℕ) → is_flag n ≡ true → row_of_word (bare_name n) (codes "true") ≡ row_of_option (record { name = n; value = value })
shown_flag n value takes = rw takes refl

no_dashes : (n : OptionName) → bytes_eq (name_text n) (45 ∷ 45 ∷ []) ≡ false
no_dashes n = ap (λ t. bytes_eq t (45 ∷ 45 ∷ [])) (sym (append-nil (name_text n))) ∙ more_than_dashes n []

-- one option leads on, however it is written
by_manner : (s : Shape) (names : List OptionName) → Knows s names → (w : Walk) (position : ℕ) (rows : List Row) (manner : Manner) (n : OptionName) (value : List ℕ) →
    Rests s w position rows → is_among n names ≡ true → Fits manner (kind_of n) value → has_row (bare_name n) rows ≡ false →
    Leads s w (words_by manner (name_text n) value) position (rows ++ row_of_option (record { name = n; value = value }) ∷ [])
by_manner s names knows w position rows Apart n value rests among fits none =
    let takes : is_flag n ≡ false = has_value (kind_of n) value fits in
    subst (λ row. Leads s w (name_text n ∷ value ∷ []) position (rows ++ row ∷ [])) (shown_value n value takes)
    (apart s w position rows (bare_name n) (name_text n) value rests none
    (knows.by_name n among ∙ ap Some (takes_value n takes)) (knows.by_id n among ∙ ap Some (takes_value n takes))
    (no_dashes n) (read_alone n) (no_dash (kind_of n) value fits))
by_manner s names knows w position rows Joined n value rests among fits none =
    let takes : is_flag n ≡ false = has_value (kind_of n) value fits in
    subst (λ row. Leads s w ((name_text n ++ 61 ∷ value) ∷ []) position (rows ++ row ∷ [])) (shown_value n value takes)
    (joined s w position rows (bare_name n) (name_text n ++ 61 ∷ value) value rests none
    (knows.by_name n among ∙ ap Some (takes_value n takes))
    (more_than_dashes n (61 ∷ value)) (read_joined n value))
by_manner s names knows w position rows Alone n value rests among fits none =
    let takes : is_flag n ≡ true = ap is_none fits.0 in
    subst (λ row. Leads s w (name_text n ∷ []) position (rows ++ row ∷ [])) (shown_flag n value takes)
    (alone s w position rows (bare_name n) (name_text n) rests none
    (knows.by_name n among ∙ ap Some (takes_none n takes)) (no_dashes n) (read_alone n))

-- ---- options that are given once

none_counted : {X : Type 0} (p : X → Bool) (xs : List X) → count_by p xs ≤ 0 → list_any p xs ≡ false
none_counted p [] few = refl
none_counted p (x ∷ xs) few = go (p x) (subst (λ n. n ≤ 0) (sum_by-cons (λ y. cond (p y) 1 0) x xs) few) (none_counted p xs)
  where
    go : (b : Bool) → cond b 1 0 + count_by p xs ≤ 0 → (count_by p xs ≤ 0 → list_any p xs ≡ false) → (b || list_any p xs) ≡ false
    go true few rest = absurd (omega arith)
    go false few rest = rest (omega arith)

-- what is counted once stands only there
once_here : {X : Type 0} (p : X → Bool) (done rest : List X) (x : X) → count_by p (done ++ x ∷ rest) ≤ 1 → p x ≡ true → list_any p done ≡ false
once_here p done rest x once here =
    let parts : count_by p (done ++ x ∷ rest) ≡ count_by p done + count_by p (x ∷ rest) = sum_by-append (λ y. cond (p y) 1 0) done (x ∷ rest) in
    let first : count_by p (x ∷ rest) ≡ 1 + count_by p rest = sum_by-cons (λ y. cond (p y) 1 0) x rest ∙ ap (λ b. cond b 1 0 + count_by p rest) here in
    none_counted p done (omega arith)

named : (n : OptionName) (given : List Given) → has_row (bare_name n) (map row_of_option given) ≡ list_any (λ g. is_name n g.name) given
named n [] = refl
named n (g ∷ gs) = ap₂ (λ a b. a || b) (sym (bare_names n g.name)) (named n gs)

is_itself : (n : OptionName) → is_name n n ≡ true
is_itself n = bare_names n n ∙ same_text (bare_name n)

-- none of these rows has the id of an option
abbrev pub LacksOptions : List Row → Type 0
LacksOptions rows = (n : OptionName) → has_row (bare_name n) rows ≡ false

-- no option has a row before it is met
not_yet : (base : List Row) → LacksOptions base → (done rest : List Given) (g : Given) → times_given g.name (done ++ g ∷ rest) ≤ 1 →
    has_row (bare_name g.name) (base ++ map row_of_option done) ≡ false
not_yet base lacks done rest g once =
    list_any-append _ base (map row_of_option done)
    ∙ ap₂ (λ a b. a || b) (lacks g.name) (named g.name done ∙ once_here (λ h. is_name g.name h.name) done rest g once (is_itself g.name))

abbrev option_of : Written → Given
option_of w = w.option

-- options lead on, one behind the other, and each adds its row
pub many : (s : Shape) (names : List OptionName) → Knows s names → (base : List Row) → LacksOptions base → (position : ℕ) (written : List Written) (done : List Given) (w : Walk) →
    Rests s w position (base ++ map row_of_option done) → AllByRecursion (IsOptionOf names) written →
    ((n : OptionName) → times_given n (done ++ map option_of written) ≤ 1) →
    Leads s w (flat_map option_words written) position (base ++ map row_of_option (done ++ map option_of written))
many s names knows base lacks position [] done w rests each once =
    stays s w position (base ++ map row_of_option (done ++ []))
    (subst (λ given. Rests s w position (base ++ map row_of_option given)) (sym (append-nil done)) rests)
many s names knows base lacks position (x ∷ xs) done w rests each once =
    let g : Given = x.option in
    let more : List Given = map option_of xs in
    let behind : (base ++ map row_of_option done) ++ row_of_option g ∷ [] ≡ base ++ map row_of_option (done ++ g ∷ []) =
    append_assoc base (map row_of_option done) (row_of_option g ∷ []) ∙ ap (λ rows. base ++ rows) (sym (map-append row_of_option done (g ∷ []))) in
    let same : (done ++ g ∷ []) ++ more ≡ done ++ g ∷ more = append_assoc done (g ∷ []) more in
    let first = by_manner s names knows w position (base ++ map row_of_option done) x.manner g.name g.value rests each.0.known each.0.fits
    (not_yet base lacks done more g (once g.name)) in
    leads_on s w (option_words x) (flat_map option_words xs) position position _ _
    (subst (λ rows. Leads s w (option_words x) position rows) behind first)
    (λ v rests. subst (λ given. Leads s v (flat_map option_words xs) position (base ++ map row_of_option given)) same
    (many s names knows base lacks position xs (done ++ g ∷ []) v rests each.1
    (λ n. subst (λ given. times_given n given ≤ 1) (sym same) (once n))))
