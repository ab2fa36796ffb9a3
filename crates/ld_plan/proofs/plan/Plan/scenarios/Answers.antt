use Rattle.std.proofs.Common.{arith}
use Rattle.std.proofs.lemmas.List.{length-map}
use Rattle.ld_plan.specs.PartView.{PartView}
use Rattle.ld_plan.specs.Plan.{plan_view}
use Rattle.ld_plan.proofs.MadeLemmas.{parts_few, parts_some}
use Rattle.ld_plan.proofs.plan.Plan.scenarios.Goals as goal

pub overflow_cast-result : goal.overflow_cast-result
overflow_cast-result c =
    let few = parts_few (plan_view c.self.inside) c.self.invariant in
    let long = length-map c.self.inside.parts.items (λ (v : PartView). v.part) in
    omega arith

pub returns-clause-some : goal.returns-clause-some
returns-clause-some c =
    let some = parts_some (plan_view c.self.inside) c.self.invariant in
    let long = length-map c.self.inside.parts.items (λ (v : PartView). v.part) in
    omega arith
