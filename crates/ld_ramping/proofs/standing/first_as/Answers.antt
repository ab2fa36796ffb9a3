use Rattle.std.proofs.Common.{◌≡◌, ◌<◌, List, length, find, rules, subst, sym, ◌∙◌}
use Rattle.std.specs.Prelude.{is_some}
use Rattle.std.proofs.lemmas.List.{at_drop_all}
use Rattle.ld_ramping.specs.Rising.{AreRising}
use Rattle.ld_ramping.specs.Standing.{StandingView, lies_in}
use Rattle.ld_ramping.specs.declared.slot.Slot.{Slot}
use Rattle.ld_ramping.proofs.StandingLemmas.{AreLeft, first_left, item_rises, item_stands, none_left, step_least, step_passed}
use Rattle.ld_ramping.proofs.standing.first_as.Goals.{else-contains-via-then-contains+else-is_some-on, else-contains-via-else-contains}
use Rattle.ld_ramping.proofs.standing.first_as.Goals as goal

pub loop-slot-init : goal.loop-slot-init
loop-slot-init c = first_left (record { begin = c.args.begin; slots = c.args.slots.now }) c.args.reading c.args.among.now.numbers c.args.on

pub current-requires : goal.current-requires
current-requires c =
    let below : c.loop-slot.slot-index < length c.args.slots.now = search rules in
    subst AreRising (sym c.as_slice.ensures) (item_rises c.args.slots.now c.requires c.loop-slot.slot-index c.slot-item.result below c.slot-item.is)

pub returns-then-is_some-on-clause-stands : goal.returns-then-is_some-on-clause-stands
returns-then-is_some-on-clause-stands c =
    let below : c.loop-slot.slot-index < length c.args.slots.now = search rules in
    let found : is_some (find (lies_in c.args.begin c.args.reading) c.slot-item.result.intervals) ≡ c.args.on = search rules in
    item_stands (record { begin = c.args.begin; slots = c.args.slots.now }) c.args.reading c.requires c.loop-slot.slot-index c.slot-item.result below c.slot-item.is ∙ found

pub returns-then-is_some-on-clause-least : goal.returns-then-is_some-on-clause-least
returns-then-is_some-on-clause-least c =
    let below : c.loop-slot.slot-index < length c.args.slots.now = search rules in
    step_least (record { begin = c.args.begin; slots = c.args.slots.now }) c.args.reading c.requires c.loop-slot.slot-index c.slot-item.result below c.slot-item.is
    c.args.among.now.numbers c.args.on c.loop-slot.invariant

pub loop-slot-preserved : goal.loop-slot-preserved
loop-slot-preserved c =
    let below : c.loop-slot.slot-index < length c.args.slots.now = search rules in
    step_passed (record { begin = c.args.begin; slots = c.args.slots.now }) c.args.reading c.requires c.loop-slot.slot-index c.slot-item.result below c.slot-item.is
    c.args.among.now.numbers c.args.on (elim c.else-contains.branch [
      | else-contains-via-then-contains+else-is_some-on w ↦ λ at stands. absurd (search rules)
      | else-contains-via-else-contains w ↦ λ at stands. absurd (search rules)
    ]) c.loop-slot.invariant

pub returns-clause-none : goal.returns-clause-none
returns-clause-none c =
    let v : StandingView = record { begin = c.args.begin; slots = c.args.slots.now } in
    none_left v c.args.reading c.args.among.now.numbers c.args.on
    (subst (AreLeft v c.args.reading c.args.among.now.numbers c.args.on) (at_drop_all (λ (more : List Slot). more) c.args.slots.now c.loop-slot.slot-index (search rules)) c.loop-slot.invariant)
