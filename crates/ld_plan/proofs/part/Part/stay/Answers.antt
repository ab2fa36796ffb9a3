use Rattle.std.proofs.Common.{refl, rules, sym}
use Rattle.ld_plan.specs.Part.{part_view}
use Rattle.ld_plan.proofs.StayLemmas.{stay_limit, stay_planned}
use Rattle.ld_plan.proofs.part.Part.stay.Goals as goal

pub returns-clause-planned : goal.returns-clause-planned
returns-clause-planned c =
    rw (sym c.self.view_is)
    (λ t. stay_planned (record { from = c.self.inside.begin; until = c.saturating_add.result; planned = c.users-users.result.planned; limit = c.max.result }) (part_view c.self.inside).part t c.users-users.ensures.steady refl c.saturating_add.ensures c.users-users.ensures.planned)

pub returns-clause-limit : goal.returns-clause-limit
returns-clause-limit c =
    rw (sym c.self.view_is)
    (λ t. stay_limit (record { from = c.self.inside.begin; until = c.saturating_add.result; planned = c.users-users.result.planned; limit = c.max.result }) (part_view c.self.inside).part t c.users-users.ensures.steady refl c.saturating_add.ensures (search rules))
