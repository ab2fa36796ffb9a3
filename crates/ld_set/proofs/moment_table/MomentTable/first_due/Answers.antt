use Rattle.std.specs.Prelude.{◌*◌, ◌≤◌, max}
use Rattle.std.proofs.Common.{arith, inl, inr}
use Rattle.std.proofs.lemmas.Bool.{cases_lt}
use Rattle.ld_set.proofs.MomentLemmas.{due_within}
use Rattle.ld_set.proofs.moment_table.MomentTable.first_due.Goals as goal

pub overflow_cast-result : goal.overflow_cast-result
overflow_cast-result c =
    let at = rw c.deref.ensures.value at (c.due_in-number.ensures.there c.in-Some.number c.in-Some.is) in
    let within = due_within c.self.inside.moments.items c.args.moment c.in-Some.number at.2 in
    omega (arith, c.self.invariant.small)

pub returns-in-Some-clause-within : goal.returns-in-Some-clause-within
returns-in-Some-clause-within c =
    let at = rw c.deref.ensures.value at (c.due_in-number.ensures.there c.in-Some.number c.in-Some.is) in
    let low : max c.args.from (32 * c.loop-block.block) ≤ c.in-Some.number = at.0 in
    (omega arith, rw (← c.self.view_is) (due_within c.self.inside.moments.items c.args.moment c.in-Some.number at.2))

pub returns-in-Some-clause-first : goal.returns-in-Some-clause-first
returns-in-Some-clause-first c k low high =
    let at = rw c.deref.ensures.value at (c.due_in-number.ensures.there c.in-Some.number c.in-Some.is) in
    elim (cases_lt k (32 * c.loop-block.block)) [
      | inl earlier ↦ c.loop-block.invariant k low earlier
      | inr here ↦ rw (← c.self.view_is) (at.3 k (omega arith) high)
    ]
