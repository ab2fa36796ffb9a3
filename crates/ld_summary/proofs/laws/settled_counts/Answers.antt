use Rattle.ld_summary.proofs.SettledLemmas.{all_items, all_iterations}
use Rattle.ld_summary.proofs.laws.settled_counts.Goals as goal

pub returns-clause-items : goal.returns-clause-items
returns-clause-items c = all_items

pub returns-clause-iterations : goal.returns-clause-iterations
returns-clause-iterations c = all_iterations
