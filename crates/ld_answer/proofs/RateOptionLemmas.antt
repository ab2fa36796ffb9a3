-- What options the data of a test by options is read as.
use Rattle.std.proofs.Common.{◌≡◌, ◌<◌, ◌^◌, ◌∷◌, [], ◌∙◌, refl, sym, subst, ℕ, zero, suc, List, Bool, true, false, Option, Some, None, Ok, Err}
use Rattle.std.specs.Prelude.{codes, Result, if◌then◌else◌, nat_le, nat_lt, ◌&&◌, slice_get}
use Rattle.std.specs.List.{AllZip}
use Rattle.ld_json.specs.Node.{NodeView}
use Rattle.ld_options.specs.ConstantArrivals.{AreArrivals, rates}
use Rattle.ld_options.specs.Document.{AreOptionsOf, root_of}
use Rattle.ld_options.specs.Executors.{IsExecutor, executor_kind}
use Rattle.ld_options.specs.Fields.{number, ranged}
use Rattle.ld_options.specs.Scenarios.{IsScenarioOf}
use Rattle.ld_options.specs.Times.{IsSpan, IsTime, span_text}
use Rattle.ld_options.specs.Users.{greatest, planned_users, pre_allocated, users}
use Rattle.ld_options.specs.declared.executor.Executor.{Executor}
use Rattle.ld_options.specs.declared.executor.Executor.TheVariants as executors
use Rattle.ld_options.specs.declared.fault.OptionsFault.{OptionsFault}
use Rattle.ld_options.specs.Faults.{of_field}
use Rattle.ld_options.specs.declared.options.Options.{Options}
use Rattle.ld_script.specs.Fields.{given}
use Rattle.ld_script.specs.declared.fault.ScriptFault.{ScriptFault}
use Rattle.ld_script.specs.declared.fault.ScriptFault.TheVariants as script
use Rattle.ld_script.specs.declared.range.Range.{Range}
use Rattle.ld_script.proofs.AnswerLemmas.{ok_same as same_text}
use Rattle.ld_options.specs.declared.scenario.Scenario.{Scenario}
use Rattle.ld_answer.proofs.RateData.{rate_data, scenario_data}
use Rattle.ld_answer.proofs.SpanLemmas.{begin_span, grace_span, text_span}
use Rattle.ld_answer.specs.RateOptions.{AreRateOptions, rate_scenario}
use Rattle.ld_words.specs.RateTest.{duration_text}

-- the scenario, and where it stands
abbrev pub main_node : ℕ → ℕ → ℕ → ℕ → ℕ → NodeView
main_node rate unit duration pre max = record { value = scenario_data rate unit duration pre max; path = codes "/options/scenarios/main" }

abbrev pub names : List (List ℕ)
names = codes "default" ∷ []

-- ---- numbers

chosen : (b : Bool) (n m : ℕ) (fault : ScriptFault) → of_field (if b then Ok n else Err fault) ≡ Ok m → m ≡ n
chosen true n m fault is = cc
chosen false n m fault is = cc

kept : (b : Bool) (r : Result ℕ OptionsFault) (m : ℕ) (fault : OptionsFault) → (if b then Err fault else r) ≡ Ok m → r ≡ Ok m
kept true r m fault is = cc
kept false r m fault is = is

ranged_is : (range : Range) (path : List ℕ) (n m : ℕ) → ranged range path n ≡ Ok m → m ≡ n
ranged_is range path n m is = chosen (nat_le range.least n && nat_le n range.most) n m (script.Range path) is

-- ---- texts

pub ok_same : {A : Type 0} (a b : A) → ◌≡◌ {A = Result A OptionsFault} (Ok a) (Ok b) → a ≡ b
ok_same a b is = cc

time_is : (range : Range) (default : Option (List ℕ)) (node : NodeView) (name text : List ℕ) (n k : ℕ) → given span_text default node name ≡ Ok text →
    (IsSpan text k → k ≡ n) → IsTime range default node name k → k ≡ n
time_is range default node name text n k holds once time =
    once (subst (λ t. IsSpan t k) (same_text time.text text (sym time.holds ∙ holds)) time.span)

-- ---- the script

first_is : (at : ℕ) (text : List ℕ) → slice_get names at ≡ Some text → at ≡ 0
first_is zero text found = refl
first_is (suc at) text found = cc

-- ---- the scenario

module _ (rate unit duration pre max : ℕ) (unit_small : unit < 2 ^ 64) (duration_small : duration < 2 ^ 64) where
  abbrev node : NodeView
  node = main_node rate unit duration pre max

  rate_is : (r : ℕ) → number rates None node (codes "rate") ≡ Ok r → r ≡ rate
  rate_is r is = ranged_is rates _ rate r is

  pre_is : (p : ℕ) → pre_allocated node ≡ Ok p → p ≡ pre
  pre_is p is = ranged_is planned_users _ pre p is

  max_is : (p m : ℕ) → greatest p node ≡ Ok m → m ≡ max
  max_is p m is = ranged_is users _ max m (kept (nat_lt max p) _ m _ is)

  arrivals_are : (r u d p m : ℕ) → AreArrivals node r u d p m → executors.ConstantArrivals r u d p m ≡ executors.ConstantArrivals rate unit duration pre max
  arrivals_are r u d p m are =
      let of_rate = rate_is r are.rate_is in
      let of_unit = time_is _ _ node _ (duration_text unit) unit u refl (text_span unit u unit_small) are.unit_is in
      let of_duration = time_is _ _ node _ (duration_text duration) duration d refl (text_span duration d duration_small) are.duration_is in
      let of_pre = pre_is p are.pre_is in
      let of_max = max_is p m are.max_is in
      cc

  -- an executor of the same kind, of which the fields say the numbers
  executor_is : (executor : Executor) → executor_kind executor ≡ executor_kind (executors.ConstantArrivals rate unit duration pre max) → IsExecutor node executor →
      executor ≡ executors.ConstantArrivals rate unit duration pre max
  executor_is (executors.SharedIterations v i m) kind are = absurd cc
  executor_is (executors.PerVuIterations v i m) kind are = absurd cc
  executor_is (executors.ConstantVus v d) kind are = absurd cc
  executor_is (executors.ConstantArrivals r u d p m) kind are = arrivals_are r u d p m are
  executor_is (executors.RampingArrivals s u t p m) kind are = absurd cc

  scenario_is : (s : Scenario) → IsScenarioOf names (codes "main", node) s → s ≡ rate_scenario rate unit duration pre max
  scenario_is s is =
      let begin = time_is _ _ node _ (codes "0s") 0 s.begin refl (begin_span s.begin) is.begin_is in
      let grace = time_is _ _ node _ (codes "30s") 30000000000 s.grace refl (grace_span s.grace) is.grace_is in
      let script = first_is s.script is.script_is.text is.script_is.found in
      let kind = ok_same (executor_kind s.executor) (executor_kind (executors.ConstantArrivals rate unit duration pre max)) (sym is.kind_is) in
      let executor = executor_is s.executor kind is.executor_is in
      λ i. record { name = is.name_is i; begin = begin i; grace = grace i; script = script i; executor = executor i }

  alone : (scenarios : List Scenario) → AllZip (IsScenarioOf names) ((codes "main", node) ∷ []) scenarios → scenarios ≡ rate_scenario rate unit duration pre max ∷ []
  alone [] are = absurd are
  alone (s ∷ []) are = let same = scenario_is s are.0 in cc
  alone (s ∷ t ∷ more) are = absurd are.1

pub options_are : (rate unit duration pre max : ℕ) (options : Options) → unit < 2 ^ 64 → duration < 2 ^ 64
    → AreOptionsOf (root_of (rate_data rate unit duration pre max)) options → AreRateOptions rate unit duration pre max options
options_are rate unit duration pre max options unit_small duration_small are = record {
  scenarios = alone rate unit duration pre max unit_small duration_small options.scenarios are.scenarios_are;
  scripts = are.scripts_are.names;
}
