use Rattle.std.proofs.Common.{refl}
use Rattle.ld_ramping.specs.Intervals.{paired}
use Rattle.ld_ramping.specs.Turns.{turns_in}
use Rattle.ld_ramping.proofs.examples.worked_ramps.Goals as goal

pub returns : goal.returns
unfolding paired turns_in
returns c =
    record { first = refl; second = refl; third = refl; meeting = refl; jumped = refl; started = refl }
