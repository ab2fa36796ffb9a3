use Rattle.std.proofs.Common.{sym}
use Rattle.ld_rates.proofs.KeptLemmas.{count_shown}
use Rattle.ld_rates.proofs.TellLemmas.{next_shown, most_shown}
use Rattle.ld_rates.proofs.laws.shown_numbers.Goals as goal

pub returns-clause-next : goal.returns-clause-next
returns-clause-next c state s shows = next_shown state s shows

pub returns-clause-held : goal.returns-clause-held
returns-clause-held c state s shows = sym (count_shown state s shows)

pub returns-clause-most : goal.returns-clause-most
returns-clause-most c state s shows = most_shown state s shows
