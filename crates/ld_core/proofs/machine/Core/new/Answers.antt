use Rattle.std.proofs.Common.{subst}
use Rattle.ld_plan.specs.Plan.{IsMade}
use Rattle.ld_core.proofs.machine.Core.new.Goals as goal

pub opening-requires : goal.opening-requires
opening-requires c = record { made = subst IsMade c.plan.view_is c.plan.invariant }
