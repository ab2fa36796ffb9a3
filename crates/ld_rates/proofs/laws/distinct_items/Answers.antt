use Rattle.std.proofs.Common.{rules}
use Rattle.ld_rates.proofs.DistinctLemmas.{items_distinct}
use Rattle.ld_rates.proofs.laws.distinct_items.Goals as goal

pub returns : goal.returns
returns c timetable owners position pre most = let is = items_distinct timetable owners position pre most in search rules
