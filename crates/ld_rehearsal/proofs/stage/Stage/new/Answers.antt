use Rattle.std.proofs.Common.{false, ap, sym, ◌∙◌}
use Rattle.ld_plan.specs.PlanView.{PlanView}
use Rattle.ld_rehearsal.proofs.RoundLemmas.{opened}
use Rattle.ld_rehearsal.proofs.stage.Stage.new.Goals as goal

pub returns-clause-returning : goal.returns-clause-returning
returns-clause-returning c =
    let core = c.in_ok-core.core in
    let users = c.users-users.result in
    let view = c.users-users.ensures in
    let plan = c.in_ok-core.ensures.plan in (
      false,
      rw (c.in_ok-dues.ensures)
          (opened core users.limit c.args.length c.in_ok-core.ensures.empty (rw plan view.timed) (rw plan (rw (← view.planned, ← view.limit) view.within)) c.requires
          (view.limit ∙ ap (λ (p : PlanView). p.plan.limit) (sym plan))),
    )
