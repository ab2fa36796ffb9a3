use Rattle.std.proofs.Common.{◌≡◌, ℕ, List, not, subst, rules}
use Rattle.ld_machine.specs.Scenario.{may_release}
use Rattle.ld_set.specs.SetView.{is_among}
use Rattle.ld_iters.proofs.SlotsLemmas.{released_done}
use Rattle.ld_iters.proofs.slot_iters.SlotIters.released.Goals as goal

pub returns-then-not-has_ended-clause-some : goal.returns-then-not-has_ended-clause-some
returns-then-not-has_ended-clause-some c s slot shows owned =
    let going : c.args.self.now.going ≡ c.self.inside.going.numbers = search rules in
    subst (λ (k : List ℕ). may_release s slot c.args.reading ≡ not (is_among k slot)) going
    (released_done c.args.self.now s shows slot c.args.reading owned (search rules) (search rules) (search rules))
