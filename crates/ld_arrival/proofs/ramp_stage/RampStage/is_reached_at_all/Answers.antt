use Rattle.ld_arrival.proofs.RampLemmas.{reached_at_all}
use Rattle.ld_arrival.proofs.ramp_stage.RampStage.is_reached_at_all.Goals as goal

pub returns-then-self-gt0 : goal.returns-then-self-gt0
returns-then-self-gt0 c =
    let sum = c.sum.ensures in
    let lasts = c.if-self-gt0.true in
    let all = reached_at_all c.args.self.rate c.args.self.done c.args.wanted c.args.self.stage lasts in
    cc (sum, all)
