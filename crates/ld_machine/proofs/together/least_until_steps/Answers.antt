use Rattle.ld_machine.specs.Wait.{untils}
use Rattle.ld_machine.proofs.CandidateLemmas.{until-snoc, until-cons, flat-snoc, flat-cons}
use Rattle.ld_machine.proofs.together.least_until_steps.Goals as goal

pub returns-clause-back : goal.returns-clause-back
returns-clause-back c = until-snoc

pub returns-clause-front : goal.returns-clause-front
returns-clause-front c = until-cons

pub returns-clause-back_share : goal.returns-clause-back_share
returns-clause-back_share c t = flat-snoc t untils

pub returns-clause-front_share : goal.returns-clause-front_share
returns-clause-front_share c t = flat-cons t untils
