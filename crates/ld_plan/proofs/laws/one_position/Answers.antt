use Rattle.std.proofs.Common.{◌∷◌, [], sym, subst}
use Rattle.ld_stripe.specs.Striping.{IsStripingOf}
use Rattle.ld_plan.specs.IsPlanOf.{whole_striping}
use Rattle.ld_plan.proofs.WholeLemmas.{sequence_of_one, share_of_whole, striping_of_one}
use Rattle.ld_plan.proofs.laws.one_position.Goals as goal

pub returns-clause-striping : goal.returns-clause-striping
returns-clause-striping c = sequence_of_one

pub returns-clause-rescaled : goal.returns-clause-rescaled
returns-clause-rescaled c = λ v some. subst (λ w. IsStripingOf (w ∷ []) whole_striping) (sym (share_of_whole v)) (striping_of_one v)
