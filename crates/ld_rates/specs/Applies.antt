-- Which acts a state may be told of.
use Rattle.std.specs.Prelude.{◌≡◌, ◌<◌, ◌≤◌, ℕ, Option, Some, option_map, slice_get}
use Rattle.ld_base.specs.declared.act.Act.{Act}
use Rattle.ld_base.specs.declared.act.Act.TheVariants as acts
use Rattle.ld_base.specs.declared.wish.Wish.{Wish}
use Rattle.ld_base.specs.declared.wish.Wish.TheVariants as wishes
use Rattle.ld_rates.specs.RatesView.{RatesView}

-- the next open item
abbrev pub next_item : RatesView → Option ℕ
next_item state = option_map (λ pair. pair.0) (slice_get state.waiting 0)

-- An act of the scenario, or a control, may be applied: where it takes or grows a user, one more may be
-- held; where it starts, drops or counts an item late, that is the next open one; and a user that is idle
-- behind it has a number up to 1,000. Of the others each may be.
abbrev pub MayApply : RatesView → Act → Type 0
MayApply state (acts.Take n user slot) = (user ≤ 1000) × (state.held < state.max)
MayApply state (acts.Grow n user slot) = (user ≤ 1000) × (state.held < state.max)
MayApply state (acts.Start n user item until) = next_item state ≡ Some item
MayApply state (acts.Drop n item) = next_item state ≡ Some item
MayApply state (acts.Late n item) = next_item state ≡ Some item
MayApply state (acts.Return n user item outcome tally) = user ≤ 1000
MayApply state _ = Unit {0}

-- What a wish stands for may be applied; the scenario's number, and the user where the pool chooses it,
-- make no difference: here it is user 1. (Of `More` the start comes second.)
abbrev pub MayApplyWished : RatesView → Wish → Type 0
MayApplyWished state (wishes.Take slot) = MayApply state (acts.Take 0 1 slot)
MayApplyWished state (wishes.Start user item until due) = MayApply state (acts.Start 0 user item until)
MayApplyWished state (wishes.More item until due slot) = MayApply state (acts.Grow 0 1 slot) × MayApply state (acts.Start 0 1 item until)
MayApplyWished state (wishes.Drop item due) = MayApply state (acts.Drop 0 item)
MayApplyWished state (wishes.Late item due) = MayApply state (acts.Late 0 item)
MayApplyWished state _ = Unit {0}
