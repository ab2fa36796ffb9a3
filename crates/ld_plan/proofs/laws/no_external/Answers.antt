use Rattle.ld_plan.proofs.MadeLemmas as lemmas
use Rattle.ld_plan.proofs.laws.no_external.Goals as goal

pub returns-clause-external : goal.returns-clause-external
returns-clause-external c = lemmas.none_external

pub returns-clause-controls : goal.returns-clause-controls
returns-clause-controls c = lemmas.none_controlled
