use Rattle.std.proofs.Common.{◌≡◌, [], rules}
use Rattle.ld_iters.specs.ItersPart.{owned_of}
use Rattle.ld_iters.proofs.SharedOpeningLemmas.{opening_shown}
use Rattle.ld_iters.proofs.shared_iters.SharedIters.new.Goals as goal

pub returns-clause-opens : goal.returns-clause-opens
returns-clause-opens c kind s share is =
    let part = c.args.part.now in
    let left : c.in_ok-left.left.numbers ≡ owned_of part = search rules in
    let idle : c.in_ok-idle.idle.numbers ≡ [] = search rules in
    rw (left, idle) (opening_shown part c.opening.result s c.opening.ensures share is kind)
