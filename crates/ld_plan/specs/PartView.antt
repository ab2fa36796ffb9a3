-- One scenario of a plan as it is seen.
use Rattle.std.specs.Prelude.{List, map}
use Rattle.ld_machine.specs.Plan.{Part}
use Rattle.ld_plan.specs.PlanView.{Whole}

-- the part that the instance owns, beside the scenario of the whole test
pub record PartView : Type 0 where
  pub part : Part
  pub whole : Whole

abbrev pub parts_of : List PartView → List Part
parts_of views = map (λ (v : PartView). v.part) views

abbrev pub wholes_of : List PartView → List Whole
wholes_of views = map (λ (v : PartView). v.whole) views
