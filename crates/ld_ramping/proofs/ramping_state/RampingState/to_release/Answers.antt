use Rattle.std.proofs.Common.{◌≡◌, ◌∙◌, true, false, subst, sym, rules}
use Rattle.ld_course.proofs.FirstLemmas.{nobody_goes}
use Rattle.ld_machine.specs.Scenario.{is_open, may_release, runs}
use Rattle.ld_machine.proofs.ListLemmas.{Contains-from_In}
use Rattle.ld_seats.proofs.ChoiceLemmas.{chosen_as}
use Rattle.ld_seats.specs.Choice.{is_of}
use Rattle.ld_seats.specs.Seating.{IsSeating}
use Rattle.ld_seats.specs.declared.which.Which.TheVariants.{Any}
use Rattle.ld_ramping.specs.Shows.{RampingView, stands_as}
use Rattle.ld_ramping.proofs.ShownLemmas.{released_all, released_none, released_off}
use Rattle.ld_ramping.proofs.ramping_state.RampingState.to_release.Goals as goal

pub returns-then-self-clause-none : goal.returns-then-self-clause-none
returns-then-self-clause-none c s n shows =
    let shut : is_open s ≡ false = search rules in
    nobody_goes n s c.args.reading (λ h at. released_none c.args.self.now s shows h.slot c.args.reading shut)

pub returns-in_err-user-clause-none : goal.returns-in_err-user-clause-none
returns-in_err-user-clause-none c =
    rw c.from_residual.ensures (λ s n shows. nobody_goes n s c.args.reading (λ h at.
    let sits : IsSeating c.self.inside.seating s = subst (λ (w : RampingView). IsSeating w.seating s) (sym c.self.view_is) shows.seating in
    let nobody = c.in_err-user.ensures.none s h sits (Contains-from_In h at) in
    absurd (cc)))

pub returns-then-not-runs-clause-some : goal.returns-then-not-runs-clause-some
returns-then-not-runs-clause-some c s shows =
    let sits : IsSeating c.self.inside.seating s = subst (λ (w : RampingView). IsSeating w.seating s) (sym c.self.view_is) shows.seating in
    let opened : is_open s ≡ true = search rules in
    let halted : runs s ≡ false = search rules in (
      c.in_ok-user.field-0-1,
      chosen_as s (is_of Any) (λ k. may_release s k c.args.reading) c.args.prefer c.in_ok-user.user c.in_ok-user.field-0-1
          (λ h idle. released_all c.args.self.now s shows h.slot c.args.reading opened halted) (c.in_ok-user.ensures.some s sits),
    )

pub returns-in_err-user-2-clause-none : goal.returns-in_err-user-2-clause-none
returns-in_err-user-2-clause-none c =
    rw c.from_residual-in_err-user-2.ensures (λ s n shows. nobody_goes n s c.args.reading (λ h at.
    let opened : is_open s ≡ true = search rules in
    let running : runs s ≡ true = search rules in
    released_off c.args.self.now s shows h.slot c.args.reading opened running ∙ c.in_err-user-2.ensures.none s h shows (Contains-from_In h at)))

pub returns-clause-some : goal.returns-clause-some
returns-clause-some c s shows =
    let opened : is_open s ≡ true = search rules in
    let running : runs s ≡ true = search rules in (
      c.in_ok-user-2.field-0-1,
      chosen_as s (stands_as false c.args.self.now c.args.reading) (λ k. may_release s k c.args.reading) c.args.prefer c.in_ok-user-2.user c.in_ok-user-2.field-0-1
          (λ h idle. released_off c.args.self.now s shows h.slot c.args.reading opened running) (c.in_ok-user-2.ensures.some s shows),
    )
