use Rattle.std.proofs.Common.{◌∙◌, ap, sym}
use Rattle.ld_machine.specs.Moment.{moment_after}
use Rattle.ld_plan.proofs.part.Part.moment.Goals as goal

pub returns-clause-due : goal.returns-clause-due
returns-clause-due c =
    rw (sym c.self.view_is)
    (λ a has is. c.saturating_add.ensures ∙ ap (moment_after c.self.inside.begin) (c.moment.ensures.due.due a has is))
