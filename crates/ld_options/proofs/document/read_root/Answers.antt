-- What is refused first of a document; and where each part is read, nothing is.
use Rattle.std.proofs.Common.{◌≤◌, ◌∙◌, ap, inl, inr, refl, sym, subst}
use Rattle.std.specs.Prelude.{codes, map}
use Rattle.ld_json.specs.Rules.{Accepts, FirstOf}
use Rattle.ld_json.proofs.RulesLemmas.{then_accepts}
use Rattle.ld_options.specs.Document.{RefusesOptions, inside, scenarios_in, script_names}
use Rattle.ld_options.specs.Faults.{of_script}
use Rattle.ld_options.specs.Ranges.{most_scenarios}
use Rattle.ld_options.specs.Scenarios.{RefusesScenario}
use Rattle.ld_script.specs.Refusal.{RefusesScripts, members_of}
use Rattle.ld_script.specs.Scripts.{name_of}
use Rattle.ld_options.proofs.RefusalLemmas.{handed_on}
use Rattle.ld_options.proofs.ScenarioLemmas.{moved, scripts_accept, zip_length}
use Rattle.ld_options.proofs.document.read_root.Goals as goal

pub returns-in_err-scripts-clause-refused : goal.returns-in_err-scripts-clause-refused
returns-in_err-scripts-clause-refused c =
    let options = ap (λ p. p.0) c.in_ok-options.ensures.value in
    let scripts = ap (λ p. p.1) c.in_ok-options.ensures.value in
    let objects = subst (λ n. Accepts (RefusesOptions n)) options c.in_ok-node.ensures.accepted in
    let cause = c.in_err-scripts.field-0.0 in
    handed_on _ _ _ c.from_residual-in_err-scripts.ensures
    (λ other. inr (c.in_ok-options.ensures.accepted, inr (objects, inl (cause, subst (λ n. RefusesScripts n cause) scripts (c.in_err-scripts.ensures.refused (λ memory. other (ap of_script memory))), refl))))

pub returns-in_err-scenarios-clause-refused : goal.returns-in_err-scenarios-clause-refused
returns-in_err-scenarios-clause-refused c =
    let options = ap (λ p. p.0) c.in_ok-options.ensures.value in
    let scripts = ap (λ p. p.1) c.in_ok-options.ensures.value in
    let objects = subst (λ n. Accepts (RefusesOptions n)) options c.in_ok-node.ensures.accepted in
    let read = scripts_accept _ (subst (λ n. Accepts (RefusesScripts n)) scripts c.in_ok-scripts.ensures.accepted) in
    let names = c.in_ok-scripts.ensures.value.names ∙ ap (λ n. map name_of (members_of n)) scripts in
    let node = c.in_ok-node.ensures.value ∙ ap (λ n. inside n (codes "scenarios")) options in
    handed_on _ _ _ c.from_residual-in_err-scenarios.ensures
    (λ other. inr (
      c.in_ok-options.ensures.accepted,
      inr (
        objects,
        inr (
          read,
          moved (λ ns n. FirstOf (RefusesScenario ns) (members_of n) c.in_err-scenarios.field-0.0) _ (script_names c.args.root.now) _ (scenarios_in c.args.root.now) names node (c.in_err-scenarios.ensures.refused other),
        ),
      ),
    ))

pub invariant_of-result-clause-some : goal.invariant_of-result-clause-some
invariant_of-result-clause-some c =
    subst (λ n. 1 ≤ n) (sym (zip_length _ _ _ c.in_ok-scenarios.ensures.value)) c.in_ok-node.ensures.counted.at_least

pub invariant_of-result-clause-few : goal.invariant_of-result-clause-few
invariant_of-result-clause-few c =
    subst (λ n. n ≤ most_scenarios) (sym (zip_length _ _ _ c.in_ok-scenarios.ensures.value)) c.in_ok-node.ensures.counted.at_most

pub returns-clause-accepted : goal.returns-clause-accepted
returns-clause-accepted c =
    let options = ap (λ p. p.0) c.in_ok-options.ensures.value in
    let scripts = ap (λ p. p.1) c.in_ok-options.ensures.value in
    let objects = subst (λ n. Accepts (RefusesOptions n)) options c.in_ok-node.ensures.accepted in
    let read = scripts_accept _ (subst (λ n. Accepts (RefusesScripts n)) scripts c.in_ok-scripts.ensures.accepted) in
    let names = c.in_ok-scripts.ensures.value.names ∙ ap (λ n. map name_of (members_of n)) scripts in
    let node = c.in_ok-node.ensures.value ∙ ap (λ n. inside n (codes "scenarios")) options in
    then_accepts _ _ c.in_ok-options.ensures.accepted
    (then_accepts _ _ objects
    (then_accepts _ _ read
    (moved (λ ns n. Accepts (FirstOf (RefusesScenario ns) (members_of n))) _ (script_names c.args.root.now) _ (scenarios_in c.args.root.now) names node c.in_ok-scenarios.ensures.accepted)))
