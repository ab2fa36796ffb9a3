use Rattle.std.proofs.Common.{true}
use Rattle.ld_set.proofs.MatchLemmas.{least_match}
use Rattle.ld_set.proofs.number_set.NumberSet.least_with.Goals as goal

pub returns : goal.returns
returns c =
    let some = rw (c.deref.ensures.value, c.deref-2.ensures.value) at c.first_match.ensures.some in
    let none = rw (c.deref.ensures.value, c.deref-2.ensures.value) at c.first_match.ensures.none in
    rw (← c.self.view_is, ← c.other.view_is) (record {
      first = least_match _ _ _ _ c.self.invariant _ _ _ _ c.other.invariant true c.first_match.result some none;
    })
