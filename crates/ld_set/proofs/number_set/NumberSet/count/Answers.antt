use Rattle.ld_set.specs.Words.{has_bit}
use Rattle.ld_set.proofs.NumberLemmas.{kept_below, kept_rises}
use Rattle.ld_set.proofs.number_set.NumberSet.count.Goals as goal

pub returns-clause-rising : goal.returns-clause-rising
returns-clause-rising c = rw (← c.self.view_is) (kept_rises (has_bit c.self.inside.words.items) c.self.inside.limit 0)

pub returns-clause-below : goal.returns-clause-below
returns-clause-below c = rw (← c.self.view_is) (kept_below (has_bit c.self.inside.words.items) c.self.inside.limit)
