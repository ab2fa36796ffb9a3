use Rattle.std.proofs.Common.{◌≡◌, rules}
use Rattle.ld_seats.specs.Seating.{IsOpening}
use Rattle.ld_iters.specs.ItersPart.{owned_of}
use Rattle.ld_iters.specs.SlotsOpening.{IsFirstWork, first_going}
use Rattle.ld_iters.proofs.SlotsOpeningLemmas.{opening_shown}
use Rattle.ld_iters.proofs.slot_iters.SlotIters.new.Goals as goal

pub returns-clause-opens : goal.returns-clause-opens
returns-clause-opens c s share is =
    let part = c.args.part.now in
    let going : c.in_ok-going.going.numbers ≡ first_going part = search rules in
    let work : IsFirstWork part c.in_ok-work.work = search rules in
    let seated : IsOpening (owned_of part) c.in_ok-seating.seating = search rules in
    rw going (opening_shown part s share is c.opening.result c.in_ok-work.work c.in_ok-seating.seating c.requires.slots c.opening.ensures work seated)
