-- Stays have the same users at each moment in any order.
use Rattle.std.proofs.Common.{subst, sym}
use Rattle.std.specs.Prelude.{◌<◌, List}
use Rattle.std.proofs.lemmas.List.Sorted.{All-permutation, IsPermutation-sym, IsPermutation-trans}
use Rattle.ld_machine.specs.Requirement.{IsGreatest}
use Rattle.ld_plan.specs.Stay.{AreCounted, HoldSometime, limit_at, planned_at}
use Rattle.ld_plan.specs.declared.stay.Stay.{Stay}
use Rattle.ld_plan.proofs.SweepLemmas.{counted_same, greatest_same}
use Rattle.ld_plan.proofs.most.most_of.Goals as goal

pub most_along-requires-clause-same : goal.most_along-requires-clause-same
most_along-requires-clause-same c =
    rw (c.deref.ensures.value, c.deref-2.ensures.value)
    (IsPermutation-trans _ c.args.stays.now _ (IsPermutation-sym c.args.stays.now _ c.in_ok-begins.ensures.same) c.in_ok-ends.ensures.same)

pub most_along-requires-clause-sometime : goal.most_along-requires-clause-sometime
most_along-requires-clause-sometime c =
    subst HoldSometime (sym c.deref.ensures.value)
    (All-permutation (λ (stay : Stay). stay.from < stay.until) c.args.stays.now _ c.in_ok-begins.ensures.same c.requires.sometime)

pub most_along-requires-clause-counted : goal.most_along-requires-clause-counted
most_along-requires-clause-counted c =
    subst AreCounted (sym c.deref.ensures.value) (counted_same c.args.stays.now _ c.in_ok-begins.ensures.same c.requires.counted)

pub returns-clause-planned : goal.returns-clause-planned
returns-clause-planned c =
    greatest_same (λ (stay : Stay). stay.planned) c.args.stays.now c.in_ok-begins.begins.items c.most_along.result.planned c.in_ok-begins.ensures.same
    (subst (λ (stays : List Stay). IsGreatest (planned_at stays) c.most_along.result.planned) c.deref.ensures.value c.most_along.ensures.planned)

pub returns-clause-limit : goal.returns-clause-limit
returns-clause-limit c =
    greatest_same (λ (stay : Stay). stay.limit) c.args.stays.now c.in_ok-begins.begins.items c.most_along.result.limit c.in_ok-begins.ensures.same
    (subst (λ (stays : List Stay). IsGreatest (limit_at stays) c.most_along.result.limit) c.deref.ensures.value c.most_along.ensures.limit)
