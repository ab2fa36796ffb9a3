use Rattle.std.proofs.Common.{refl}
use Rattle.ld_ramping.specs.Intervals.{paired}
use Rattle.ld_ramping.specs.Turns.{turns_in}
use Rattle.ld_ramping.proofs.examples.worked_counts.Goals as goal

pub returns : goal.returns
unfolding paired turns_in
returns c = record {
  none = refl;
  first = refl;
  both = refl;
  second_off = refl;
  over = refl;
  meeting = refl;
  most = refl;
  most_at_first = refl;
}
