use Rattle.ld_stripe.specs.Striping.{owned_indices}
use Rattle.ld_answer.proofs.IndicesLemmas.{IsLineSoFar}
use Rattle.ld_answer.proofs.indices.put_indices.Given as goal

abbrev pub invariant-loop-index : goal.invariant-loop-index
invariant-loop-index l = IsLineSoFar l.fn.text.items (owned_indices l.stripe.owners l.position l.index) l.text.items l.follows
