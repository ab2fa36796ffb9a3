-- The plan of a part of a test, and why it has none.
use Rattle.std.specs.Prelude.{◌≡◌, ◌⊎◌, ℕ, List, Option, None}
use Rattle.ld_num.specs.declared.fraction.Frac.{Frac}
use Rattle.ld_options.specs.Document.{AreOptions, IsRefusal}
use Rattle.ld_options.specs.declared.fault.OptionsFault.{OptionsFault}
use Rattle.ld_options.specs.declared.options.Options.{Options}
use Rattle.ld_plan.specs.IsPlanOf.{IsPlanOf}
use Rattle.ld_plan.specs.PlanFault as plans
use Rattle.ld_plan.specs.PlanView.{PlanView}
use Rattle.ld_plan.specs.declared.fault.PlanFault.{PlanFault}
use Rattle.ld_segment.specs.declared.segment.Segment.{Segment as Part}
use Rattle.ld_answer.specs.Cut.{IsCut, RefusesCut}
use Rattle.ld_answer.specs.declared.refusal.Refusal.{Refusal}
use Rattle.ld_answer.specs.declared.refusal.Refusal.TheVariants.{Segment, Test, Plan}
use Rattle.ld_segment.specs.declared.fault.SegmentFault.{SegmentFault}

-- ---- of a segment of a sequence

-- the plan that the segment has of a test, under the options that its text says, where a journal has so many
-- entries
pub record IsTestPlan (test : List ℕ) (limit : ℕ) (part : Part) (points : List Frac) (seen : PlanView) : Type 0 where
  pub options : Options
  pub options_are : AreOptions test options
  pub is_plan : IsPlanOf options part points limit seen
  pub accepted : plans.IsAccepted options part points limit

-- the options that the test's text says have no plan
pub record HasNoPlan (test : List ℕ) (limit : ℕ) (part : Part) (points : List Frac) (f : PlanFault) : Type 0 where
  pub options : Options
  pub options_are : AreOptions test options
  pub refused : plans.IsRefusal options part points limit f

-- the test is refused: its text says no options, or else they have no plan
pub record RefusesTest (test : List ℕ) (limit : ℕ) (part : Part) (points : List Frac) (r : Refusal) : Type 0 where
  pub cause : ((f : OptionsFault) × (r ≡ Test f) × IsRefusal test f)
      ⊎ ((f : PlanFault) × (r ≡ Plan f) × HasNoPlan test limit part points f)

-- ---- of the part that words cut

-- the words cut no part: the segment is refused, or else the sequence
abbrev pub IsUncut : Option (List ℕ) → Option (List ℕ) → Refusal → Type 0
IsUncut segment sequence r = (f : SegmentFault) × (r ≡ Segment f) × RefusesCut segment sequence f

-- they cut one
pub record IsCuttable (segment sequence : Option (List ℕ)) : Type 0 where
  pub from : Frac
  pub to : Frac
  pub points : List Frac
  pub cut : IsCut segment sequence from to points

-- the plan of the part that they cut from a test
pub record IsCutPlan (segment sequence : Option (List ℕ)) (test : List ℕ) (limit : ℕ) (seen : PlanView) : Type 0 where
  pub part : Part
  pub points : List Frac
  pub cut : IsCut segment sequence part.from part.to points
  pub plan : IsTestPlan test limit part points seen

-- they cut a part from a test that is refused
pub record RefusesCutTest (segment sequence : Option (List ℕ)) (test : List ℕ) (limit : ℕ) (r : Refusal) : Type 0 where
  pub part : Part
  pub points : List Frac
  pub cut : IsCut segment sequence part.from part.to points
  pub refused : RefusesTest test limit part points r

-- a test that isn't cut is refused so; that the whole can't be cut never comes
pub record RefusesWhole (test : List ℕ) (limit : ℕ) (r : Refusal) : Type 0 where
  pub cause : IsUncut None None r ⊎ RefusesCutTest None None test limit r
