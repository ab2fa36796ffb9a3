use Rattle.std.proofs.Common.{◌+◌, ◌-◌, length}
use Rattle.ld_plan.specs.declared.stay.Stay.{Stay}
use Rattle.ld_plan.proofs.SweepLemmas.{AreOver, IsSwept}
use Rattle.ld_plan.proofs.most.most_along.Given as goal

abbrev pub invariant-loop-begun : goal.invariant-loop-begun
invariant-loop-begun l =
    record {
      over : AreOver l.begins l.ends l.begun l.ended;
      planned : IsSwept (λ (stay : Stay). stay.planned) l.begins l.ends l.begun l.ended l.users.planned l.most.planned;
      limit : IsSwept (λ (stay : Stay). stay.limit) l.begins l.ends l.begun l.ended l.users.limit l.most.limit;
    }

abbrev pub decreases-loop-begun : goal.decreases-loop-begun
decreases-loop-begun l = (length l.begins - l.begun) + (length l.ends - l.ended)
