use Rattle.std.proofs.Common.{◌≡◌, ◌∙◌, ap, sym, map, rules}
use Rattle.ld_machine.specs.Plan.{RampingVus, owned_slots}
use Rattle.ld_machine.specs.Slots.{has_slots}
use Rattle.ld_ramping.specs.Owned.{slot_of}
use Rattle.ld_ramping.specs.Standing.{StandingView, numbers_of}
use Rattle.ld_ramping.proofs.BridgeLemmas.{numbers_kept}
use Rattle.ld_ramping.proofs.ramping_state.RampingState.new.Goals as goal

pub returns-clause-opens : goal.returns-clause-opens
returns-clause-opens c s share is =
    let stands : c.in_ok-standing.standing ≡ record { begin = c.args.part.begin; slots = c.args.part.slots } = search rules in
    let numbers : c.in_ok-owned.owned.numbers ≡ numbers_of c.args.part.slots = search rules in
    record {
      course = c.opening.ensures s is.begin is.end is.grace share;
      begin = ap (λ (v : StandingView). v.begin) stands ∙ sym is.begin;
      executor = is.executor ∙ ap (λ (v : StandingView). RampingVus c.args.part.ramp_grace (map slot_of v.slots)) (sym stands);
      seating = c.in_ok-seating.ensures.opens s share (ap has_slots is.executor)
          (ap owned_slots is.executor ∙ numbers_kept c.args.part.slots ∙ sym numbers);
    }
