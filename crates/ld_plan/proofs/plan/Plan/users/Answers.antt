use Rattle.std.proofs.Common.{arith, sym}
use Rattle.ld_plan.specs.Plan.{plan_view}
use Rattle.ld_plan.proofs.MadeLemmas.{plan_few, plan_timed, plan_valid}
use Rattle.ld_plan.proofs.plan.Plan.users.Goals as goal

pub returns-clause-most : goal.returns-clause-most
returns-clause-most c =
    let few = plan_few (plan_view c.self.inside) c.self.invariant in
    grind arith

pub returns-clause-timed : goal.returns-clause-timed
returns-clause-timed c = rw (sym c.self.view_is) (plan_timed (plan_view c.self.inside) c.self.invariant)

pub returns-clause-valid : goal.returns-clause-valid
returns-clause-valid c = rw (sym c.self.view_is) (plan_valid (plan_view c.self.inside) c.self.invariant)
