use Rattle.ld_machine.proofs.CandidateLemmas.{next_of_parts, next_of_each}
use Rattle.ld_machine.proofs.together.next_candidate_of_parts.Goals as goal

pub returns-clause-parts : goal.returns-clause-parts
returns-clause-parts c = next_of_parts

pub returns-clause-each : goal.returns-clause-each
returns-clause-each c = next_of_each
