-- The first member that isn't read is refused; and where each is read, none is.
use Rattle.ld_json.proofs.RulesLemmas.{all_accept, first_at}
use Rattle.ld_options.specs.Scenarios.{RefusesScenario}
use Rattle.ld_options.proofs.RefusalLemmas.{handed_on}
use Rattle.ld_options.proofs.ScenarioLemmas.{all_read, read_at}
use Rattle.ld_options.proofs.document.scenarios.Goals as goal

pub returns-in_err-scenario-clause-refused : goal.returns-in_err-scenario-clause-refused
returns-in_err-scenario-clause-refused c =
    handed_on _ _ _ c.from_residual.ensures
    (λ other. first_at (RefusesScenario c.args.scripts.now.names) c.args.members.now c.loop-name.name-index c.loop-name-item.result c.loop-name-test.true c.loop-name-item.is c.loop-name.invariant.accepted _ (c.in_err-scenario.ensures.refused other))

pub loop-name-preserved : goal.loop-name-preserved
loop-name-preserved c =
    rw c.in-Ok.ensures.items
    (read_at c.args.scripts.now.names c.args.members.now c.loop-name.name-index c.loop-name-item.result c.loop-name.list.items c.in_ok-scenario.scenario c.loop-name-test.true c.loop-name-item.is c.loop-name.invariant
    c.in_ok-scenario.ensures.value c.in_ok-scenario.ensures.within c.in_ok-scenario.ensures.known c.in_ok-scenario.ensures.accepted)

pub returns-clause-accepted : goal.returns-clause-accepted
returns-clause-accepted c =
    all_accept (RefusesScenario c.args.scripts.now.names) c.args.members.now (all_read c.args.scripts.now.names c.args.members.now c.loop-name.name-index c.loop-name.list.items c.loop-name-test.false c.loop-name.invariant).accepted
