use Rattle.ld_options.proofs.times.time.Goals as goal

pub returns-clause-accepted : goal.returns-clause-accepted
returns-clause-accepted c = λ fault refused. c.in_ok-time.ensures.accepted refused.0 refused.1
