use Rattle.ld_plan.proofs.AllPlansLemmas as lemmas
use Rattle.ld_plan.proofs.laws.slots_owned_once.Goals as goal

pub returns : goal.returns
returns c = lemmas.slots_owned_once
