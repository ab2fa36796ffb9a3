use Rattle.std.proofs.Common.{rules, ◌≡◌, []}
use Rattle.ld_script.proofs.AnswerLemmas.{handed_on}
use Rattle.ld_script.proofs.ScriptLemmas.{all_read, none_read, read_at, refused_at}
use Rattle.ld_script.proofs.members.read_each.Goals as goal

pub loop-name-init : goal.loop-name-init
loop-name-init c =
    let empty : c.new-scripts.result.items ≡ [] = search rules in
    rw (empty, c.requires) none_read

pub returns-in_err-script-clause-refused : goal.returns-in_err-script-clause-refused
returns-in_err-script-clause-refused c =
    handed_on _ _ _ c.from_residual.ensures
    (λ not_memory. refused_at c.args.members.now c.loop-name.name-index c.loop-name-item.result c.loop-name.scripts.items c.loop-name.draft.known.names c.loop-name-test.true c.loop-name-item.is c.loop-name.invariant _ (c.in_err-script.ensures.refused not_memory))

pub loop-name-preserved : goal.loop-name-preserved
loop-name-preserved c =
    rw c.in-Ok.ensures.items
    (read_at c.args.members.now c.loop-name.name-index c.loop-name-item.result c.loop-name.scripts.items c.loop-name.draft.known.names c.read_script.new.draft.known.names c.in_ok-script.script c.loop-name-test.true c.loop-name-item.is c.loop-name.invariant
    c.in_ok-script.ensures.value c.in_ok-script.ensures.names c.in_ok-script.ensures.named c.in_ok-script.ensures.accepted)

pub returns-clause-value : goal.returns-clause-value
returns-clause-value c = (all_read c.args.members.now c.loop-name.name-index c.loop-name.scripts.items c.loop-name.draft.known.names c.loop-name-test.false c.loop-name.invariant).value

pub returns-clause-accepted : goal.returns-clause-accepted
returns-clause-accepted c = (all_read c.args.members.now c.loop-name.name-index c.loop-name.scripts.items c.loop-name.draft.known.names c.loop-name-test.false c.loop-name.invariant).accepted

pub returns-clause-names : goal.returns-clause-names
returns-clause-names c = (all_read c.args.members.now c.loop-name.name-index c.loop-name.scripts.items c.loop-name.draft.known.names c.loop-name-test.false c.loop-name.invariant).names_are
