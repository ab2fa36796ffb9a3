use Rattle.ld_machine.proofs.FirstOfAllLemmas.{In-of}
use Rattle.ld_machine.proofs.ThreadLemmas.{out_begun, may_ask, may_still, step_own}
use Rattle.ld_machine.proofs.threads.what_threads_may_ask.Goals as goal

pub returns-clause-begun : goal.returns-clause-begun
returns-clause-begun c = out_begun

pub returns-clause-may : goal.returns-clause-may
returns-clause-may c = may_ask

pub returns-clause-kept : goal.returns-clause-kept
returns-clause-kept c = may_still

pub returns-clause-own : goal.returns-clause-own
returns-clause-own c plan state thread ask t result_of entry step at = step_own plan state thread t ask result_of (In-of step) entry (In-of at)
