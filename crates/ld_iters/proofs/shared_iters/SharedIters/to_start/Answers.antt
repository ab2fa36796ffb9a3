use Rattle.std.proofs.Common.{rules, None, ◌∙◌, ◌≡◌}
use Rattle.ld_course.specs.Chosen.{chosen_of}
use Rattle.ld_course.proofs.FirstLemmas.{nobody_starts, none_chosen_starts}
use Rattle.ld_iters.proofs.SharedLemmas.{chosen_shown}
use Rattle.ld_iters.proofs.shared_iters.SharedIters.to_start.Goals as goal

pub returns-in_err-item-clause-none : goal.returns-in_err-item-clause-none
returns-in_err-item-clause-none c =
    rw (c.from_residual.ensures) (λ s n shows. nobody_starts n s c.args.reading (λ h at. let item = c.item_to_start.ensures s h.slot shows in search rules))

pub returns-in_err-user-clause-none : goal.returns-in_err-user-clause-none
returns-in_err-user-clause-none c =
    let none : chosen_of c.args.prefer c.args.self.now.idle ≡ None = search rules in
    rw (c.from_residual-in_err-user.ensures) (λ s n shows. none_chosen_starts n s c.args.reading c.args.prefer (chosen_shown c.args.self.now s shows c.args.prefer ∙ none))
