use Rattle.ld_set.proofs.MatchLemmas.{bits_with, bits_without}
use Rattle.ld_set.proofs.number_set.matching_bits.Goals as goal

pub returns-then-wanted : goal.returns-then-wanted
returns-then-wanted c i below = rw c.if-wanted.true (bits_with c.args.word c.args.other i)

pub returns-else-wanted : goal.returns-else-wanted
returns-else-wanted c i below = rw c.if-wanted.false (bits_without c.args.word c.args.other i c.ranges.other.fits below)
