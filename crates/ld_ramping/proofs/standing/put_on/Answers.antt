use Rattle.std.proofs.Common.{◌≡◌, ◌<◌, List, length, find, rules, subst, sym}
use Rattle.std.specs.Prelude.{is_some}
use Rattle.std.proofs.lemmas.List.{at_drop_all}
use Rattle.ld_ramping.specs.Rising.{AreRising}
use Rattle.ld_ramping.specs.declared.slot.Slot.{Slot}
use Rattle.ld_ramping.specs.Standing.{StandingView, lies_in}
use Rattle.ld_ramping.proofs.StandingLemmas.{AreSettled, first_settled, item_rises, last_settled, step_off, step_on}
use Rattle.ld_ramping.proofs.standing.put_on.Goals.{then-is_some, else-is_some}
use Rattle.ld_ramping.proofs.standing.put_on.Goals as goal

pub loop-slot-init : goal.loop-slot-init
loop-slot-init c = (
  c.requires.limit,
  first_settled (record { begin = c.args.begin; slots = c.args.slots.now }) c.args.reading c.args.on.now.numbers c.requires.others,
)

pub current-requires : goal.current-requires
current-requires c =
    let below : c.loop-slot.slot-index < length c.args.slots.now = search rules in
    subst AreRising (sym c.as_slice.ensures) (item_rises c.args.slots.now c.requires.owned c.loop-slot.slot-index c.slot-item.result below c.slot-item.is)

pub loop-slot-preserved : goal.loop-slot-preserved
loop-slot-preserved c =
    let below : c.loop-slot.slot-index < length c.args.slots.now = search rules in
    let v : StandingView = record { begin = c.args.begin; slots = c.args.slots.now } in
    let found : is_some (find (lies_in c.args.begin c.args.reading) c.slot-item.result.intervals) ≡ c.is_some.result = search rules in
    elim c.if-is_some.branch [
      | then-is_some w ↦
          let settled = step_on v c.args.reading c.requires.owned c.loop-slot.slot-index c.slot-item.result below c.slot-item.is c.loop-slot.on.numbers (search rules) c.loop-slot.invariant.1 in
          search rules
      | else-is_some w ↦
          let settled = step_off v c.args.reading c.requires.owned c.loop-slot.slot-index c.slot-item.result below c.slot-item.is c.loop-slot.on.numbers (search rules) c.loop-slot.invariant.1 in
          search rules
    ]

pub returns : goal.returns
returns c =
    let v : StandingView = record { begin = c.args.begin; slots = c.args.slots.now } in
    record {
      owned = c.requires.owned;
      limit = c.loop-slot.invariant.0;
      each = last_settled v c.args.reading c.loop-slot.on.numbers
          (subst (AreSettled v c.args.reading c.loop-slot.on.numbers) (at_drop_all (λ (more : List Slot). more) c.args.slots.now c.loop-slot.slot-index (search rules)) c.loop-slot.invariant.1);
    }
