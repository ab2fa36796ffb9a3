-- What clap adds for an argument that isn't used: a flag's row says that it is off.
use Rattle.std.proofs.Common.{◌≡◌, ◌∙◌, ◌⊎◌, Bool, true, false, cond, List, [], ◌∷◌, ◌++◌, Some, None, ap, refl, codes, inl, inr}
use Rattle.std.specs.List.{AllByRecursion, fold}
use Rattle.std.proofs.lemmas.List.Sums.{fold-append}
use Rattle.clap.specs.Walk.{Row, Rule, has_row, with_default}
use Rattle.clap.specs.declared.builder.value_parser.Reading.TheVariants.{AsWritten}
use Rattle.clap.specs.declared.parser.matches.ValueSource.TheVariants.{DefaultValue}
use Rattle.ld_words.specs.declared.form.FormName.{FormName}
use Rattle.ld_words.specs.declared.form.FormName.TheVariants.{StripeWeights, StripeSegment, Plan, RehearseTest, RehearseWords, Help}
use Rattle.clap.specs.Walk.{more_values}
use Rattle.ld_words.proofs.FormSyntaxLemmas.{shape_of_form}
use Rattle.ld_words.proofs.RowsLemmas.{comes_last}
use Rattle.ld_words.proofs.StepLemmas.{flag_rule, value_rule, place_rule}

-- the row of a flag that isn't given
abbrev pub off_row : Row
off_row = record { id = codes "list"; values = codes "false" ∷ []; count = None; source = Some DefaultValue; reading = AsWritten }

-- the rows stay as they are, or a flag that has none gets one that says it is off
abbrev pub Completes : List Row → List Row → Type 0
Completes rows after = (after ≡ rows) ⊎ ((has_row (codes "list") rows ≡ false) × (after ≡ rows ++ off_row ∷ []))

abbrev HasNoDefault : Rule → Type 0
HasNoDefault a = a.defaults ≡ []

no_default : (rows : List Row) (a : Rule) → HasNoDefault a → with_default rows a ≡ rows
no_default rows a none = rw none (go (has_row a.id rows))
  where
    go : (b : Bool) → cond b rows rows ≡ rows
    go true = refl
    go false = refl

no_defaults : (rules : List Rule) (rows : List Row) → AllByRecursion HasNoDefault rules → fold with_default rows rules ≡ rows
no_defaults [] rows none = refl
no_defaults (a ∷ more) rows none = ap (λ rs. fold with_default rs more) (no_default rows a none.0) ∙ no_defaults more rows none.1

flag_default : (rows : List Row) → Completes rows (with_default rows (flag_rule (codes "list")))
flag_default rows = go (has_row (codes "list") rows) refl
  where
    go : (b : Bool) → has_row (codes "list") rows ≡ b → Completes rows (with_default rows (flag_rule (codes "list")))
    go true is = inl (rw is refl)
    go false is = inr (is, rw is (comes_last (codes "list") (more_values DefaultValue (codes "false" ∷ [])) (off_row ∷ []) rows is))

plan_front : List Rule
plan_front = place_rule 1 (codes "place 1") ∷ value_rule (codes "segment") ∷ value_rule (codes "sequence") ∷ value_rule (codes "entries") ∷ []

plan_completes : (rows : List Row) → Completes rows (fold with_default rows (shape_of_form Plan).rules)
unfolding plan_front
plan_completes rows =
    let same : fold with_default rows (shape_of_form Plan).rules ≡ with_default rows (flag_rule (codes "list")) =
    fold-append with_default rows plan_front (flag_rule (codes "list") ∷ [])
    ∙ ap (λ rs. with_default rs (flag_rule (codes "list"))) (no_defaults plan_front rows (refl, (refl, (refl, (refl, tt))))) in
    rw same (flag_default rows)

-- what clap adds for each form
pub completes : (form : FormName) (rows : List Row) → Completes rows (fold with_default rows (shape_of_form form).rules)
completes StripeWeights rows = inl (no_defaults (shape_of_form StripeWeights).rules rows (refl, (refl, (refl, tt))))
completes StripeSegment rows = inl (no_defaults (shape_of_form StripeSegment).rules rows (refl, (refl, (refl, tt))))
completes Plan rows = plan_completes rows
completes RehearseTest rows = inl (no_defaults (shape_of_form RehearseTest).rules rows (refl, (refl, (refl, (refl, (refl, (refl, tt)))))))
completes RehearseWords rows = inl (no_defaults (shape_of_form RehearseWords).rules rows (refl, (refl, (refl, (refl, (refl, (refl, (refl, (refl, tt)))))))))
completes Help rows = inl refl
