use Rattle.ld_journal.proofs.ExampleLemmas.{arrival_dropped_text}
use Rattle.ld_journal.proofs.laws.arrival_dropped_text.Goals as goal

pub returns : goal.returns
returns c = arrival_dropped_text
