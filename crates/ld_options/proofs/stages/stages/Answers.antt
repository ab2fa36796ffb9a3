-- Where each element is read and all together are short enough, nothing is refused.
use Rattle.std.proofs.Common.{◌≡◌, ◌≤◌, ◌∙◌, List, length, ap, arith, rules, subst, sym}
use Rattle.std.specs.List.{AllZip}
use Rattle.std.specs.Prelude.{Ok, sum_by}
use Rattle.ld_base.specs.declared.stage.Stage.{Stage}
use Rattle.ld_json.specs.Node.{NodeView}
use Rattle.ld_json.specs.Rules.{Accepts, FirstOf}
use Rattle.ld_json.proofs.RulesLemmas.{then_accepts}
use Rattle.ld_options.specs.Ranges.{AreStagesInRange, longest, most_stages}
use Rattle.ld_options.specs.Stages.{IsStageOf, RefusesStage, few_stages, stages_path}
use Rattle.ld_options.proofs.RefusalLemmas.{ok_accepts}
use Rattle.ld_options.proofs.ScenarioLemmas.{zip_length}
use Rattle.ld_options.proofs.StageLemmas.{elements_accept, stages_read}
use Rattle.ld_options.proofs.stages.stages.Goals as goal

pub length_of-requires : goal.length_of-requires
length_of-requires c =
    let zipped : length c.in_ok-stages.stages.items ≡ length c.deref-2.result.now = zip_length _ _ _ c.in_ok-stages.ensures.value in
    let few : length c.deref.result.now ≤ most_stages = c.in_ok-check_count.ensures.within.at_most in
    let same : length c.deref-2.result.now ≡ length c.deref.result.now =
    ap (λ (ns : List NodeView). length ns) (c.deref-2.ensures.value ∙ sym c.deref.ensures.value) in
    let lent : length c.deref-3.result.now ≡ length c.in_ok-stages.stages.items = ap (λ (ss : List Stage). length ss) c.deref-3.ensures.value in
    omega arith

pub returns-clause-within : goal.returns-clause-within
returns-clause-within c =
    let zipped : length c.in_ok-stages.stages.items ≡ length c.deref-2.result.now = zip_length _ _ _ c.in_ok-stages.ensures.value in
    let counted = c.in_ok-check_count.ensures.within in
    let most : length c.deref.result.now ≤ most_stages = counted.at_most in
    let least : 1 ≤ length c.deref.result.now = counted.at_least in
    let same : length c.deref-2.result.now ≡ length c.deref.result.now =
    ap (λ (ns : List NodeView). length ns) (c.deref-2.ensures.value ∙ sym c.deref.ensures.value) in
    let sums : c.length_of.result ≡ sum_by (λ (stage : Stage). stage.length) c.in_ok-stages.stages.items =
    c.length_of.ensures ∙ ap (sum_by (λ (stage : Stage). stage.length)) c.deref-3.ensures.value in
    let short : c.length_of.result ≤ longest = search rules in
    subst (AreStagesInRange c.args.greatest) (sym c.of.ensures)
    (record {
      count = record { at_least = omega arith; at_most = omega arith };
      targets = c.in_ok-stages.ensures.within;
      together = subst (λ n. n ≤ longest) sums short;
    })

pub returns-clause-accepted : goal.returns-clause-accepted
returns-clause-accepted c =
    let nodes = c.in_ok-nodes.nodes.items in
    let read = stages_read c.args.node.now c.in_ok-list.list nodes c.in_ok-list.ensures.0 c.in_ok-nodes.ensures.ok
    (subst (λ ns. few_stages (stages_path c.args.node.now) ns ≡ Ok ns) c.deref.ensures.value c.in_ok-check_count.ensures.answer) in
    let are : AllZip (IsStageOf c.args.greatest) nodes c.in_ok-stages.stages.items =
    subst (λ ns. AllZip (IsStageOf c.args.greatest) ns c.in_ok-stages.stages.items) c.deref-2.ensures.value c.in_ok-stages.ensures.value in
    let accepts : Accepts (FirstOf (RefusesStage c.args.greatest) nodes) =
    subst (λ ns. Accepts (FirstOf (RefusesStage c.args.greatest) ns)) c.deref-2.ensures.value c.in_ok-stages.ensures.accepted in
    let sums : c.length_of.result ≡ sum_by (λ (stage : Stage). stage.length) c.in_ok-stages.stages.items =
    c.length_of.ensures ∙ ap (sum_by (λ (stage : Stage). stage.length)) c.deref-3.ensures.value in
    let short : c.length_of.result ≤ longest = search rules in
    then_accepts _ _ (ok_accepts _ nodes read)
    (elements_accept c.args.greatest c.args.node.now nodes c.in_ok-stages.stages.items read are accepts (subst (λ n. n ≤ longest) sums short))
