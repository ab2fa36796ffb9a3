use Rattle.std.proofs.Common.{◌≡◌, ◌∙◌, ℕ, IfNone, IfSome, [], true, subst, sym, rules}
use Rattle.std.specs.Prelude.{is_some}
use Rattle.ld_course.proofs.FirstLemmas.{nobody_free}
use Rattle.ld_machine.specs.Moves.{Users, takes}
use Rattle.ld_machine.specs.Scenario.{Scenario, first_of, runs}
use Rattle.ld_ramping.specs.Shows.{IsLeastTake, RampingView, Shows}
use Rattle.ld_ramping.proofs.ShownLemmas.{not_running_takes, took_least, took_none}
use Rattle.ld_ramping.proofs.ramping_state.RampingState.to_take.Goals.{else-free-via-then-free+else-runs, else-free-via-else-free}
use Rattle.ld_ramping.proofs.ramping_state.RampingState.to_take.Goals as goal

pub returns-then-runs-clause-least : goal.returns-then-runs-clause-least
returns-then-runs-clause-least c =
    let v : RampingView = record { course = c.self.inside.course; ramp_grace = c.self.inside.ramp_grace; standing = c.self.inside.standing; seating = c.self.inside.seating } in
    let running : (s : Scenario) → Shows v s → runs s ≡ true = λ s shows. sym (c.runs.ensures s shows.course) ∙ c.if-runs.true in
    subst (λ (w : RampingView). IfSome c.first_of.result (λ slot. (s : Scenario) → Shows w s → IsLeastTake s c.args.reading slot)) c.self.view_is
    (took_least v c.args.reading c.vacant.result.now.numbers c.vacant.ensures running c.first_of.result c.first_of.ensures.among c.first_of.ensures.stands c.first_of.ensures.least)

pub returns-then-runs-clause-none : goal.returns-then-runs-clause-none
returns-then-runs-clause-none c =
    let v : RampingView = record { course = c.self.inside.course; ramp_grace = c.self.inside.ramp_grace; standing = c.self.inside.standing; seating = c.self.inside.seating } in
    let running : (s : Scenario) → Shows v s → runs s ≡ true = λ s shows. sym (c.runs.ensures s shows.course) ∙ c.if-runs.true in
    subst
    (λ (w : RampingView). IfNone c.first_of.result ((s : Scenario) (n : ℕ) (users : Users) → Shows w s → is_some (first_of users.free) ≡ c.args.free → takes n s users c.args.reading ≡ []))
    c.self.view_is
    (took_none v c.args.reading c.vacant.result.now.numbers c.vacant.ensures running c.args.free c.first_of.result c.first_of.ensures.none)

pub returns-else-free-clause-none : goal.returns-else-free-clause-none
returns-else-free-clause-none c s n users shows free =
    elim c.else-free.branch [
      | else-free-via-then-free+else-runs w ↦ not_running_takes c.args.self.now s shows n users c.args.reading (search rules)
      | else-free-via-else-free w ↦ nobody_free n s users c.args.reading (free ∙ w.if-free.false)
    ]
