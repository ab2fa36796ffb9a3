use Rattle.ld_answer.proofs.stripe.read_segment.Goals as goal

pub returns-in-Some-clause-accepted : goal.returns-in-Some-clause-accepted
returns-in-Some-clause-accepted c = rw c.in-Some.is (rw c.as_slice.ensures at c.read.ensures.accepted)

pub returns-in-None-clause-accepted : goal.returns-in-None-clause-accepted
returns-in-None-clause-accepted c = rw c.in-None.is c.read-in-None.ensures.accepted
