use Rattle.std.proofs.Common.{◌≡◌, ◌≤◌, ◌+◌, ◌-◌, ◌/◌, ◌∙◌, ℕ, arith, ap, subst}
use Rattle.ld_arrival.specs.Ramp.{ramp_length}
use Rattle.ld_arrival.specs.RampingRate.{timetable_of}
use Rattle.ld_arrival.specs.Timetable.{IsPlanned}
use Rattle.ld_arrival.proofs.CountLemmas.{count_is, moments_rise, none_wanted}
use Rattle.ld_arrival.proofs.ramping_rate.RampingRate.count.Goals as goal

pub loop-low-init : goal.loop-low-init
loop-low-init c =
    let r = c.args.self.now in
    (omega arith, omega arith, λ k below. absurd (omega arith), none_wanted r.start_rate r.unit r.stages.items c.requires.limits)

pub loop-low-preserved-then-moment-end : goal.loop-low-preserved-then-moment-end
loop-low-preserved-then-moment-end c =
    let r = c.args.self.now in
    let middle = c.loop-low.low + (c.loop-low.high - c.loop-low.low) / 2 in
    let so_far = c.loop-low.invariant in
    let before = so_far.0 in
    let test = c.loop-low-test.true in
    let early = c.if-moment-end.true in
    let moment = c.moment.ensures in
    let end : c.length_of-end.result ≡ ramp_length r.stages.items = c.length_of-end.ensures ∙ ap ramp_length c.deref.ensures.value in (
      omega arith,
      so_far.1,
      λ k below.
          let rises = moments_rise (timetable_of r) k middle (omega arith) in
          omega (arith, rises, early, moment, end),
      so_far.3,
    )

pub loop-low-preserved : goal.loop-low-preserved
loop-low-preserved c =
    let r = c.args.self.now in
    let middle = c.loop-low.low + (c.loop-low.high - c.loop-low.low) / 2 in
    let so_far = c.loop-low.invariant in
    let before = so_far.0 in
    let within = so_far.1 in
    let test = c.loop-low-test.true in
    let late = c.if-moment-end.false in
    let moment = c.moment.ensures in
    let end : c.length_of-end.result ≡ ramp_length r.stages.items = c.length_of-end.ensures ∙ ap ramp_length c.deref.ensures.value in (
      omega arith,
      omega arith,
      so_far.2,
      λ k above planned.
          let rises = moments_rise (timetable_of r) middle k above in
          omega (arith, rises, late, moment, end, planned),
    )

pub returns : goal.returns
returns c =
    let so_far = c.loop-low.invariant in
    let before = so_far.0 in
    let past = c.loop-low-test.false in
    let at : c.loop-low.high ≡ c.loop-low.low = omega arith in
    count_is (timetable_of c.args.self.now) c.requires.limits c.loop-low.low so_far.2
    (subst (λ n. (k : ℕ) → n ≤ k → ¬ IsPlanned (timetable_of c.args.self.now) k) at so_far.3)
