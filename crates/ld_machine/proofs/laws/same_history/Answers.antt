use Rattle.std.proofs.Common.{◌≡◌, subst, true}
use Rattle.ld_machine.specs.Same.{same_entries}
use Rattle.ld_machine.proofs.SameLemmas.{itself_entries, same_entries_tells}
use Rattle.ld_machine.proofs.laws.same_history.Goals as goal

pub returns : goal.returns
returns c a b = (same_entries_tells a b, λ e. subst (λ v. same_entries a v ≡ true) e (itself_entries a))
