use Rattle.std.proofs.Common.{◌∙◌, rules}
use Rattle.ld_course.proofs.FirstLemmas.{nobody_goes}
use Rattle.ld_machine.specs.Scenario.{may_release}
use Rattle.ld_machine.proofs.ListLemmas.{Contains-from_In}
use Rattle.ld_seats.specs.Choice.{is_of}
use Rattle.ld_seats.specs.Seating.{IsSeating}
use Rattle.ld_seats.proofs.ChoiceLemmas.{chosen_as, owned_in}
use Rattle.ld_iters.proofs.slot_iters.SlotIters.to_release.Goals as goal

pub returns-in_err-which-clause-none : goal.returns-in_err-which-clause-none
returns-in_err-which-clause-none c =
    rw c.from_residual.ensures (λ s n shows. nobody_goes n s c.args.reading (λ h at. c.in_err-which.ensures.none s h.slot shows))

pub returns-in_err-user-clause-none : goal.returns-in_err-user-clause-none
returns-in_err-user-clause-none c =
    rw c.from_residual-in_err-user.ensures (λ s n shows.
    let seats : IsSeating c.self.inside.seating s = search (rules, shows.seating) in
    nobody_goes n s c.args.reading (λ h at.
    let idle = Contains-from_In h at in
    c.in_ok-which.ensures.some s h.slot shows (Contains-from_In h.slot (owned_in c.self.inside.seating s seats h idle)) ∙ c.in_err-user.ensures.none s h seats idle))

pub returns-clause-some : goal.returns-clause-some
returns-clause-some c s shows =
    let seats : IsSeating c.self.inside.seating s = search (rules, shows.seating) in
    let chosen = c.in_ok-user.ensures.some s seats in (
      _,
      chosen_as s (is_of c.in_ok-which.which) (λ k. may_release s k c.args.reading) c.args.prefer c.in_ok-user.user c.in_ok-user.field-0-1
          (λ h idle. c.in_ok-which.ensures.some s h.slot shows (Contains-from_In h.slot (owned_in c.self.inside.seating s seats h idle))) chosen,
    )
