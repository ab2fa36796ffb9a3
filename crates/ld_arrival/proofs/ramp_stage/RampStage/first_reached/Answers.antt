use Rattle.std.proofs.Common.{◌≡◌, ◌+◌, ◌-◌, ◌/◌, true, arith, subst}
use Rattle.ld_arrival.specs.Ramp.{is_reached}
use Rattle.ld_arrival.proofs.RampLemmas.{first_is, none_before, none_reached}
use Rattle.ld_arrival.proofs.ramp_stage.RampStage.first_reached.Goals as goal

pub returns-then-not-is_reached_at_all-clause-first : goal.returns-then-not-is_reached_at_all-clause-first
returns-then-not-is_reached_at_all-clause-first c =
    let is = c.is_reached_at_all.ensures in
    let test = c.if-not-is_reached_at_all.true in
    none_reached c.args.self.rate c.args.self.done c.args.wanted c.args.self.stage (cc (is, test))

pub loop-low-preserved : goal.loop-low-preserved
loop-low-preserved c =
    let so_far = c.loop-low.invariant in
    let before = so_far.0 in
    let within = so_far.1 in
    let test = c.loop-low-test.true in
    let is = c.is_reached.ensures in
    let fails = c.if-is_reached.false in (
      omega arith,
      within,
      so_far.2,
      none_before c.args.self.rate c.args.self.done c.args.wanted c.args.self.stage
          (c.loop-low.low + (c.loop-low.high - c.loop-low.low) / 2) (omega arith) (cc (is, fails)),
    )

pub returns-clause-first : goal.returns-clause-first
returns-clause-first c =
    let so_far = c.loop-low.invariant in
    let before = so_far.0 in
    let within = so_far.1 in
    let past = c.loop-low-test.false in
    let at : c.loop-low.high ≡ c.loop-low.low = omega arith in
    first_is c.args.self.rate c.args.self.done c.args.wanted c.args.self.stage c.loop-low.low (omega arith)
    (subst (λ t. is_reached c.args.self.rate c.args.self.done c.args.wanted c.args.self.stage t ≡ true) at so_far.2) so_far.3
