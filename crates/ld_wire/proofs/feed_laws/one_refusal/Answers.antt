use Rattle.std.proofs.Common.{true, false}
use Rattle.ld_wire.proofs.ResponseLemmas.{front_of_begins, front_of_ended, front_refuses, one_fault}
use Rattle.ld_wire.proofs.ShownLemmas.{one_told}
use Rattle.ld_wire.proofs.feed_laws.one_refusal.Goals as goal

pub returns-clause-one : goal.returns-clause-one
returns-clause-one c = one_fault

pub returns-clause-begins : goal.returns-clause-begins
returns-clause-begins c for_head bytes used response fault is refuses =
    front_refuses for_head false bytes response fault (front_of_begins for_head bytes used response is) refuses

pub returns-clause-ended : goal.returns-clause-ended
returns-clause-ended c for_head bytes response fault is refuses =
    front_refuses for_head true bytes response fault (front_of_ended for_head bytes response is) refuses

pub returns-clause-head : goal.returns-clause-head
returns-clause-head c = one_told
