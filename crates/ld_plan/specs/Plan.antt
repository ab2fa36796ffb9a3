-- How a plan is seen, and what holds of its fields.
use Rattle.std.specs.Prelude.{◌≤◌, ℕ, List}
use Rattle.ld_num.specs.declared.fraction.Frac.{Frac}
use Rattle.ld_options.specs.Ranges.{AreInRange}
use Rattle.ld_options.specs.declared.options.Options.{Options}
use Rattle.ld_segment.specs.declared.segment.Segment.{Segment}
use Rattle.ld_plan.specs.IsPlanOf.{IsPlanOf, IsSound}
use Rattle.ld_plan.specs.PartView.{parts_of, wholes_of}
use Rattle.ld_plan.specs.PlanFault.{IsAccepted}
use Rattle.ld_plan.specs.PlanView.{PlanView}
use Rattle.ld_plan.specs.declared.owned.Owned.{Owned}
use Rattle.ld_plan.specs.declared.plan.Plan.TheInside.{Inside}

abbrev pub plan_view : Inside → PlanView
plan_view p =
    record {
      plan =
          record {
            parts = parts_of p.parts.items;
            planned = p.users.planned;
            limit = p.users.limit;
            entry_limit = p.entries;
            names = p.options.scripts.specs;
          };
      position = p.position;
      wholes = wholes_of p.parts.items;
      options = p.options;
      sequence = p.sequence;
    }

-- the plan is that of a test which isn't refused, with a number of entries within the limits
pub record IsMade (seen : PlanView) : Type 0 where
  pub segment : Segment
  pub entries : ℕ
  pub least : 10 ≤ entries
  pub most : entries ≤ 1000000
  pub sound : IsSound seen.options seen.sequence
  pub is_plan : IsPlanOf seen.options segment seen.sequence entries seen
  pub accepted : IsAccepted seen.options segment seen.sequence entries

abbrev pub IsPlan : Inside → Type 0
IsPlan p = IsMade (plan_view p)

-- this is what the segment of a sequence owns of a test: with its options and its sequence it is the plan
pub record IsOwned (options : Options) (segment : Segment) (sequence : List Frac) (entries : ℕ) (owned : Owned) : Type 0 where
  pub in_range : AreInRange options.scenarios
  pub accepted : IsAccepted options segment sequence entries
  pub is_plan : IsPlanOf options segment sequence entries (plan_view (record {
    options = options;
    sequence = sequence;
    position = owned.position;
    parts = owned.parts;
    users = owned.users;
    entries = entries;
  }))
