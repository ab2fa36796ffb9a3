-- What clap makes of each form.
use Rattle.std.proofs.Common.{◌≡◌, ◌∙◌, ◌||◌, ◌+◌, ℕ, Bool, true, false, true≢false, cond, List, [], ◌∷◌, ◌++◌, Some, ap, refl, sym, codes, map, min}
use Rattle.std.specs.List.{AllByRecursion, find, list_all}
use Rattle.std.specs.Str.{bytes_eq}
use Rattle.clap.specs.Lexer.{usize_max}
use Rattle.clap.specs.Walk.{Row, Rule, Text, Walk, arg_by_id, arg_by_index, arg_by_long, has_row, nothing_held, walk_from}
use Rattle.clap.specs.Simple.{Shape, built, is_simple}
use Rattle.clap.specs.Takes.{default_passes, is_valid}
use Rattle.ld_words.specs.Forms.{AreValues, options_of, places_of}
use Rattle.ld_words.specs.Options.{is_among}
use Rattle.ld_words.specs.Syntax.{app_of_form, bare_name, place_names}
use Rattle.ld_words.specs.declared.form.FormName.{FormName}
use Rattle.ld_words.specs.declared.form.FormName.TheVariants.{StripeWeights, StripeSegment, Plan, RehearseTest, RehearseWords, Help}
use Rattle.ld_words.specs.declared.option.OptionName.{OptionName}
use Rattle.ld_words.specs.declared.option.OptionName.TheVariants as names
use Rattle.ld_words.specs.Values.{IsValueOf}
use Rattle.ld_words.specs.declared.value.ValueKind.{ValueKind}
use Rattle.ld_words.specs.declared.value.ValueKind.TheVariants as kinds
use Rattle.ld_words.proofs.BareNameLemmas.{bare_names, one_name}
use Rattle.ld_words.proofs.DashLemmas.{no_dash}
use Rattle.ld_words.proofs.RowsLemmas.{row_of_word}
use Rattle.ld_words.proofs.StepLemmas.{Leads, Rests, leads_on, place_rule, placed, stays, waits_bare}
use Rattle.ld_words.proofs.WalkedLemmas.{Knows, LacksOptions, built_option}

abbrev pub shape_of_form : FormName → Shape
shape_of_form form = (built (app_of_form form)).top

-- ---- clap finds what the form has

found_by : (p : Rule → Bool) (n : OptionName) → ((m : OptionName) → p (built_option m) ≡ bytes_eq (bare_name m) (bare_name n)) →
    (ns : List OptionName) → is_among n ns ≡ true → find p (map built_option ns) ≡ Some (built_option n)
found_by p n tests [] among = absurd (true≢false (sym among))
found_by p n tests (m ∷ ms) among =
    go (bytes_eq (bare_name m) (bare_name n)) (tests m) (one_name m n) (ap (λ b. b || is_among n ms) (sym (bare_names n m)) ∙ among) (found_by p n tests ms)
  where
    go : (b : Bool) → p (built_option m) ≡ b → (b ≡ true → m ≡ n) → (b || is_among n ms) ≡ true → (is_among n ms ≡ true → find p (map built_option ms) ≡ Some (built_option n))
        → find p (map built_option (m ∷ ms)) ≡ Some (built_option n)
    go true passes same among more = rw passes (ap (λ k. Some (built_option k)) (same refl))
    go false passes same among more = rw passes (more among)

or_none : (b : Bool) → (b || false) ≡ b
or_none true = refl
or_none false = refl

found_by_name : (ns : List OptionName) (n : OptionName) → is_among n ns ≡ true → arg_by_long (map built_option ns) (bare_name n) ≡ Some (built_option n)
found_by_name ns n among = found_by _ n (λ m. or_none (bytes_eq (bare_name m) (bare_name n))) ns among

found_by_id : (ns : List OptionName) (n : OptionName) → is_among n ns ≡ true → arg_by_id (map built_option ns) (bare_name n) ≡ Some (built_option n)
found_by_id ns n among = found_by _ n (λ m. refl) ns among

-- no option is called like a place
abbrev pub Differs : Text → Type 0
Differs place = (n : OptionName) → bytes_eq place (bare_name n) ≡ false

pub first_differs : Differs (codes "place 1")
first_differs names.Segment = refl
first_differs names.Sequence = refl
first_differs names.Rate = refl
first_differs names.Unit = refl
first_differs names.Duration = refl
first_differs names.Pre = refl
first_differs names.Max = refl
first_differs names.Iteration = refl
first_differs names.Journal = refl
first_differs names.Entries = refl
first_differs names.List = refl

pub second_differs : Differs (codes "place 2")
second_differs names.Segment = refl
second_differs names.Sequence = refl
second_differs names.Rate = refl
second_differs names.Unit = refl
second_differs names.Duration = refl
second_differs names.Pre = refl
second_differs names.Max = refl
second_differs names.Iteration = refl
second_differs names.Journal = refl
second_differs names.Entries = refl
second_differs names.List = refl

pub third_differs : Differs (codes "place 3")
third_differs names.Segment = refl
third_differs names.Sequence = refl
third_differs names.Rate = refl
third_differs names.Unit = refl
third_differs names.Duration = refl
third_differs names.Pre = refl
third_differs names.Max = refl
third_differs names.Iteration = refl
third_differs names.Journal = refl
third_differs names.Entries = refl
third_differs names.List = refl

behind_place : (ns : List OptionName) (n : OptionName) → is_among n ns ≡ true → arg_by_id (place_rule 1 (codes "place 1") ∷ map built_option ns) (bare_name n) ≡ Some (built_option n)
behind_place ns n among =
    ap (λ b. cond b (Some (place_rule 1 (codes "place 1"))) (arg_by_id (map built_option ns) (bare_name n))) (first_differs n) ∙ found_by_id ns n among

pub knows : (form : FormName) → Knows (shape_of_form form) (options_of form)
knows StripeWeights = record { by_name = λ n among. absurd (true≢false (sym among)); by_id = λ n among. absurd (true≢false (sym among)) }
knows StripeSegment = record { by_name = found_by_name (options_of StripeSegment); by_id = behind_place (options_of StripeSegment) }
knows Plan = record { by_name = found_by_name (options_of Plan); by_id = behind_place (options_of Plan) }
knows RehearseTest = record { by_name = found_by_name (options_of RehearseTest); by_id = behind_place (options_of RehearseTest) }
knows RehearseWords = record { by_name = found_by_name (options_of RehearseWords); by_id = found_by_id (options_of RehearseWords) }
knows Help = record { by_name = λ n among. absurd (true≢false (sym among)); by_id = λ n among. absurd (true≢false (sym among)) }

-- ---- the places

-- the rows of the words at the places
abbrev pub rows_of_places : List Text → List Text → List Row
rows_of_places (name ∷ names) (word ∷ words) = row_of_word name word ∷ rows_of_places names words
rows_of_places _ _ = []

rows_lack : (names words : List Text) → AllByRecursion Differs names → LacksOptions (rows_of_places names words)
rows_lack [] words differ n = refl
rows_lack (name ∷ names) [] differ n = refl
rows_lack (name ∷ names) (word ∷ words) differ n = rw (differ.0 n) (rows_lack names words differ.1 n)

pub lacks_options : (places : List Text) → LacksOptions (rows_of_places place_names places)
lacks_options places = rows_lack place_names places (first_differs, (second_differs, (third_differs, tt)))

abbrev start : Walk
start = walk_from nothing_held

rests_at_start : (s : Shape) → Rests s start 1 []
rests_at_start s = waits_bare s start [] [] 1 refl refl

-- clap finds a place by its number and by its id
record Finds (s : Shape) (position : ℕ) (id : Text) : Type 0 where
  by_number : arg_by_index s.rules position ≡ Some (place_rule position id)
  by_id : arg_by_id s.rules id ≡ Some (place_rule position id)

at_place : (s : Shape) (w : Walk) (position : ℕ) (rows : List Row) (id value : Text) (kind : ValueKind) → Finds s position id → IsValueOf kind value → has_row id rows ≡ false →
    Rests s w position rows → Leads s w (value ∷ []) (min (position + 1) usize_max) (rows ++ row_of_word id value ∷ [])
at_place s w position rows id value kind finds is none rests = placed s w position rows id value rests none finds.by_number finds.by_id (no_dash kind value is)

-- the words at the places lead to their rows
abbrev LeadThere : Shape → List Text → Type 0
LeadThere s places = (position : ℕ) × Leads s start places position (rows_of_places place_names places)

no_place : (s : Shape) (places : List Text) → AreValues [] places → LeadThere s places
no_place s [] are = (1, stays s start 1 [] (rests_at_start s))
no_place s (a ∷ more) are = absurd are

one_place : (s : Shape) (kind : ValueKind) (places : List Text) → Finds s 1 (codes "place 1") → AreValues (kind ∷ []) places → LeadThere s places
one_place s kind [] finds are = absurd are
one_place s kind (a ∷ []) finds are = (2, at_place s start 1 [] (codes "place 1") a kind finds are.0 refl (rests_at_start s))
one_place s kind (a ∷ b ∷ more) finds are = absurd are.1

three_places : (s : Shape) (k l m : ValueKind) (places : List Text) → Finds s 1 (codes "place 1") → Finds s 2 (codes "place 2") → Finds s 3 (codes "place 3") →
    AreValues (k ∷ l ∷ m ∷ []) places → LeadThere s places
three_places s k l m [] first second third are = absurd are
three_places s k l m (a ∷ []) first second third are = absurd are.1
three_places s k l m (a ∷ b ∷ []) first second third are = absurd are.1.1
three_places s k l m (a ∷ b ∷ c ∷ d ∷ more) first second third are = absurd are.1.1.1
three_places s k l m (a ∷ b ∷ c ∷ []) first second third are = (
  4,
  leads_on s start (a ∷ []) (b ∷ c ∷ []) 2 4 _ _ (at_place s start 1 [] (codes "place 1") a k first are.0 refl (rests_at_start s))
      (λ v rests. leads_on s v (b ∷ []) (c ∷ []) 3 4 _ _ (at_place s v 2 _ (codes "place 2") b l second are.1.0 refl rests)
      (λ u rests. at_place s u 3 _ (codes "place 3") c m third are.1.1.0 refl rests)),
)

pub places_lead : (form : FormName) (places : List Text) → AreValues (places_of form) places → LeadThere (shape_of_form form) places
places_lead StripeWeights places are =
    three_places (shape_of_form StripeWeights) kinds.Weights kinds.Number kinds.Count places (record { by_number = refl; by_id = refl }) (record { by_number = refl; by_id = refl })
    (record { by_number = refl; by_id = refl }) are
places_lead StripeSegment places are = one_place (shape_of_form StripeSegment) kinds.Count places (record { by_number = refl; by_id = refl }) are
places_lead Plan places are = one_place (shape_of_form Plan) kinds.Plain places (record { by_number = refl; by_id = refl }) are
places_lead RehearseTest places are = one_place (shape_of_form RehearseTest) kinds.Plain places (record { by_number = refl; by_id = refl }) are
places_lead RehearseWords places are = no_place (shape_of_form RehearseWords) places are
places_lead Help places are = no_place (shape_of_form Help) places are

-- ---- what is asked of a command

pub simple : (form : FormName) → is_simple (app_of_form form) ≡ true
simple StripeWeights = refl
simple StripeSegment = refl
simple Plan = refl
simple RehearseTest = refl
simple RehearseWords = refl
simple Help = refl

pub no_subs : (form : FormName) → (built (app_of_form form)).subs ≡ []
no_subs StripeWeights = refl
no_subs StripeSegment = refl
no_subs Plan = refl
no_subs RehearseTest = refl
no_subs RehearseWords = refl
no_subs Help = refl

pub defaults_pass : (form : FormName) → list_all default_passes (shape_of_form form).rules ≡ true
defaults_pass StripeWeights = refl
defaults_pass StripeSegment = refl
defaults_pass Plan = refl
defaults_pass RehearseTest = refl
defaults_pass RehearseWords = refl
defaults_pass Help = refl

-- nothing is required
pub valid : (form : FormName) (rows : List Row) → is_valid (shape_of_form form) rows false ≡ true
valid StripeWeights rows = refl
valid StripeSegment rows = refl
valid Plan rows = refl
valid RehearseTest rows = refl
valid RehearseWords rows = refl
valid Help rows = refl
