use Rattle.ld_machine.proofs.SamplesLemmas.{fits_tells, fits_passes}
use Rattle.ld_machine.proofs.laws.fitting_tallies.Goals as goal

pub returns : goal.returns
returns c names room tally = (fits_tells names room tally, fits_passes names room tally)
