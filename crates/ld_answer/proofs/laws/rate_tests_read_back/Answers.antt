use Rattle.ld_answer.proofs.RateRefusalLemmas.{refused}
use Rattle.ld_answer.proofs.RateTextLemmas.{read_back}
use Rattle.ld_answer.proofs.laws.rate_tests_read_back.Goals as goal

pub returns-clause-options : goal.returns-clause-options
returns-clause-options c = read_back

pub returns-clause-refused : goal.returns-clause-refused
returns-clause-refused c = refused
