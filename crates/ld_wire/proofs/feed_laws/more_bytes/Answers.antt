use Rattle.ld_wire.proofs.ShownLemmas.{told_before, told_stays}
use Rattle.ld_wire.proofs.StayLemmas.{begin_stays, fault_stays}
use Rattle.ld_wire.proofs.feed_laws.more_bytes.Goals as goal

pub returns-clause-whole : goal.returns-clause-whole
returns-clause-whole c = begin_stays

pub returns-clause-refused : goal.returns-clause-refused
returns-clause-refused c = fault_stays

pub returns-clause-head : goal.returns-clause-head
returns-clause-head c = told_stays

pub returns-clause-no_other : goal.returns-clause-no_other
returns-clause-no_other c = told_before
