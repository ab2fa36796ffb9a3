use Rattle.std.proofs.Common.{◌≡◌, true, rules}
use Rattle.ld_machine.specs.Scenario.{Scenario, runs}
use Rattle.ld_ramping.specs.Shows.{Shows}
use Rattle.ld_ramping.proofs.ShownLemmas.{started_none, started_some}
use Rattle.ld_ramping.proofs.ramping_state.RampingState.to_start.Goals as goal

pub returns-then-runs-clause-some : goal.returns-then-runs-clause-some
returns-then-runs-clause-some c =
    let running : (s : Scenario) → Shows c.args.self.now s → runs s ≡ true = λ s shows. search rules in
    started_some c.args.self.now c.args.reading c.args.prefer running c.idle_user.result c.idle_user.ensures.some

pub returns-then-runs-clause-none : goal.returns-then-runs-clause-none
returns-then-runs-clause-none c =
    let running : (s : Scenario) → Shows c.args.self.now s → runs s ≡ true = λ s shows. search rules in
    started_none c.args.self.now c.args.reading c.args.prefer running c.idle_user.result c.idle_user.ensures.none
