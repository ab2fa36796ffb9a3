use Rattle.std.proofs.Common.{◌∙◌, ap, subst, sym}
use Rattle.ld_machine.specs.Together.{least_above}
use Rattle.ld_ramping.specs.Shows.{RampingView, Shows}
use Rattle.ld_ramping.proofs.ShownLemmas.{own_is}
use Rattle.ld_ramping.proofs.ramping_state.RampingState.candidate.Goals as goal

pub returns : goal.returns
returns c s shown =
    let v : RampingView = record { course = c.self.inside.course; ramp_grace = c.self.inside.ramp_grace; standing = c.self.inside.standing; seating = c.self.inside.seating } in
    let shows : Shows v s = subst (λ (w : RampingView). Shows w s) (sym c.self.view_is) shown in
    c.candidate.ensures s shows.course (c.next_turn.ensures ∙ ap (least_above c.args.reading) (sym (own_is v s shows)))
