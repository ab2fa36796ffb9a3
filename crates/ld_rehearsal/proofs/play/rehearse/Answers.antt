use Rattle.ld_machine.specs.WellTimed.{WellTimed}
use Rattle.ld_rehearsal.proofs.RoundLemmas.{whole_in_time, whole_rehearsed, whole_settled}
use Rattle.ld_rehearsal.proofs.play.rehearse.Goals as goal

pub returns-clause-rehearsed : goal.returns-clause-rehearsed
returns-clause-rehearsed c =
    whole_rehearsed c.args.plan c.args.length c.in_ok-stage.stage c.run.new.self c.into_parts-plan.result.1.entries c.in_ok-stage.ensures.opened c.run.ensures.run c.run.ensures.ended c.into_parts-plan.ensures.history

pub returns-clause-settled : goal.returns-clause-settled
returns-clause-settled c =
    whole_settled c.args.plan c.args.length c.in_ok-stage.stage c.run.new.self c.into_parts-plan.result.1.entries c.in_ok-stage.ensures.opened c.run.ensures.run c.run.ensures.ended c.into_parts-plan.ensures.history

pub returns-clause-in_time : goal.returns-clause-in_time
returns-clause-in_time c =
    let timed : WellTimed c.args.plan.plan = rw (← c.in_ok-stage.ensures.opened.plan_is) c.in_ok-stage.ensures.returning.1.stage_is.timed in
    whole_in_time c.args.plan c.args.length c.in_ok-stage.stage c.run.new.self c.into_parts-plan.result.1.entries c.in_ok-stage.ensures.opened c.run.ensures.run c.run.ensures.ended
    c.into_parts-plan.ensures.history timed
