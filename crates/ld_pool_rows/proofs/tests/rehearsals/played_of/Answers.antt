use Rattle.ld_pool_rows.proofs.tests.rehearsals.played_of.Goals as goal

pub returns : goal.returns
returns c = rw c.in_ok-played.ensures.plan c.in_ok-played.ensures.rehearsed.legal
