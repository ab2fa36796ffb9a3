use Rattle.ld_plan.proofs.RefusalLemmas as lemmas
use Rattle.ld_plan.proofs.laws.one_refusal.Goals as goal

pub returns : goal.returns
returns c = lemmas.one_refusal
