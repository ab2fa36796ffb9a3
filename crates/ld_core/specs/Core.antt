-- What holds of a core's fields.
use Rattle.std.specs.Prelude.{◌≡◌, ◌≤◌, false, []}
use Rattle.ld_machine.specs.Effect.{state_after}
use Rattle.ld_machine.specs.Room.{busy_room}
use Rattle.ld_core.specs.CoreView.{CoreView}
use Rattle.ld_core.specs.Shows.{Shows}
use Rattle.ld_plan.specs.PlanView.{PlanView}
use Rattle.ld_core.specs.declared.machine.Core.TheInside.{Inside}
use Rattle.ld_core.specs.declared.opening.OpeningParts.{OpeningParts}

abbrev pub core_view : Inside → CoreView
core_view c = record { plan = c.plan; entries = c.history.entries }

-- the parts show the state behind the history, and its samples are counted, and the room of those of the
-- iterations under way; it has room for as many entries as the plan allows
pub record IsCore (c : Inside) : Type 0 where
  pub shows : Shows c.plan.plan c.pool c.scenarios.items c.stopped (state_after c.plan.plan c.history.entries)
  pub samples : c.samples ≡ (state_after c.plan.plan c.history.entries).samples
  pub under_way : c.under_way ≡ busy_room c.plan.plan (state_after c.plan.plan c.history.entries)
  pub room : c.history.room ≡ c.plan.plan.entry_limit
  pub few : c.plan.plan.limit ≤ 1000
  pub most : c.plan.plan.entry_limit ≤ 1000000

-- these parts make a core of this plan, with an empty history
pub record IsOpening (plan : PlanView) (parts : OpeningParts) : Type 0 where
  pub empty : parts.history.entries ≡ []
  pub core : IsCore (record {
    plan = plan;
    pool = parts.pool;
    scenarios = parts.scenarios;
    stopped = false;
    samples = 0;
    under_way = 0;
    history = parts.history;
  })
