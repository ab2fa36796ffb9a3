use Rattle.ld_plan.proofs.NeedLemmas as lemmas
use Rattle.ld_plan.proofs.laws.requirement_owned_once.Goals as goal

pub returns-clause-need : goal.returns-clause-need
returns-clause-need c = lemmas.need_owned_once

pub returns-clause-extra : goal.returns-clause-extra
returns-clause-extra c = lemmas.extra_owned_once
