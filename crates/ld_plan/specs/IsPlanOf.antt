-- The plan of an instance: what one position of a sequence owns of a test.
use Rattle.std.specs.Prelude.{◌≡◌, ◌∷◌, [], ℕ, List, Some, slice_get}
use Rattle.std.specs.List.{AllZip}
use Rattle.std.specs.Option.{option_map_or}
use Rattle.ld_num.specs.declared.fraction.Frac.{Frac}
use Rattle.ld_segment.specs.Points.{IsFilled}
use Rattle.ld_segment.specs.Refusal.{ends}
use Rattle.ld_segment.specs.Segments.{IsSequence, segments_of}
use Rattle.ld_segment.specs.Weights.{HasWeights}
use Rattle.ld_segment.specs.declared.segment.Segment.{Segment}
use Rattle.ld_stripe.specs.Striping.{Striping, IsStripingOf, shares_at}
use Rattle.ld_machine.specs.Moment.{moment_after}
use Rattle.ld_machine.specs.Plan.{Part}
use Rattle.ld_script.specs.ScriptView.{ScriptView}
use Rattle.ld_options.specs.Ranges.{AreInRange}
use Rattle.ld_options.specs.declared.options.Options.{Options}
use Rattle.ld_options.specs.declared.scenario.Scenario.{Scenario}
use Rattle.ld_plan.specs.Executor.{length_of, max_of, owned_executor, timetable_of, whole_count}
use Rattle.ld_plan.specs.PartView.{PartView, parts_of, wholes_of}
use Rattle.ld_plan.specs.PlanView.{PlanView, Whole}
use Rattle.ld_machine.specs.Requirement.{IsRequirement}

-- the positions of a sequence own what the striping of its weights gives them
pub record IsSequenceStriping (sequence : List Frac) (s : Striping) : Type 0 where
  pub period : ℕ
  pub weights : List ℕ
  pub weighted : HasWeights sequence period weights
  pub striping : IsStripingOf weights s

-- the striping of a test that isn't cut: one position, which owns every index
abbrev pub whole_striping : Striping
whole_striping = record { weights = 1 ∷ []; owners = 0 ∷ [] }

-- the items of a scenario are striped by the shares that the positions have of its greatest number of users
abbrev pub IsItemStriping : Striping → Scenario → Striping → Type 0
IsItemStriping striping scenario items = IsStripingOf (shares_at striping (max_of scenario.executor)) items

-- how many samples an iteration of a script may give
abbrev pub sample_room : List ScriptView → ℕ → ℕ
sample_room scripts n = option_map_or (λ (s : ScriptView). s.room) (slice_get scripts n) 0

-- the scenario of the whole test
abbrev pub whole_of : Scenario → Whole
whole_of scenario = record { name = scenario.name; timetable = timetable_of scenario.executor }

-- the part that position j owns of it: its share of the users, its slots, and the items that go to it
abbrev pub part_of : ℕ → Striping → Striping → ℕ → Scenario → Part
part_of room striping items j scenario =
    record {
      begin = scenario.begin;
      end = moment_after scenario.begin (length_of scenario.executor);
      grace = scenario.grace;
      sample_room = room;
      whole_items = whole_count scenario.executor;
      executor = owned_executor scenario.executor items.owners striping j;
    }

-- this is what position j owns of a scenario whose iterations give so many samples at most
pub record IsPartOf (room : ℕ) (striping : Striping) (j : ℕ) (scenario : Scenario) (view : PartView) : Type 0 where
  pub items : Striping
  pub rescaled : IsItemStriping striping scenario items
  pub part_is : view.part ≡ part_of room striping items j scenario
  pub whole_is : view.whole ≡ whole_of scenario

-- these are the parts that position j owns of all scenarios
abbrev pub AreOwned : Options → Striping → ℕ → List PartView → Type 0
AreOwned options striping j views =
    AllZip
    (λ (s : Scenario). IsPartOf (sample_room options.scripts.scripts s.script) striping j s)
    options.scenarios
    views

-- these are the parts that the segment owns of all scenarios: it stands at this position of the sequence
pub record AreParts (options : Options) (segment : Segment) (sequence : List Frac) (position : ℕ) (views : List PartView) : Type 0 where
  pub stands : slice_get (segments_of sequence) position ≡ Some (ends segment)
  pub striping : Striping
  pub striped : IsSequenceStriping sequence striping
  pub owned : AreOwned options striping position views

-- the plan is the one that the segment has of the test, where a journal has so many entries
pub record IsPlanOf (options : Options) (segment : Segment) (sequence : List Frac) (entries : ℕ) (seen : PlanView) : Type 0 where
  pub views : List PartView
  pub are_parts : AreParts options segment sequence seen.position views
  pub parts : seen.plan.parts ≡ parts_of views
  pub wholes : seen.wholes ≡ wholes_of views
  pub users : IsRequirement seen.plan.parts seen.plan.planned seen.plan.limit
  pub entry_limit : seen.plan.entry_limit ≡ entries
  pub names : seen.plan.names ≡ options.scripts.specs
  pub options_are : seen.options ≡ options
  pub sequence_is : seen.sequence ≡ sequence

-- what every plan is made of: a sequence that cuts the whole test, and options whose numbers are in their ranges
pub record IsSound (options : Options) (sequence : List Frac) : Type 0 where
  pub is_sequence : IsSequence sequence
  pub filled : IsFilled sequence
  pub in_range : AreInRange options.scenarios
