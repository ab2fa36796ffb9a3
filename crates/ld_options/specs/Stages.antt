-- The stages of a ramp: a list of objects, each with a duration and a target.
use Rattle.std.specs.Prelude.{◌≡◌, ◌<◌, ◌-◌, ◌^◌, ℕ, List, None, Result, Ok, Err, codes, length, nat_le, nat_lt, sum_by, if◌then◌else◌}
use Rattle.std.specs.List.{AllZip}
use Rattle.ld_base.specs.declared.stage.Stage.{Stage}
use Rattle.ld_json.specs.Known.{allowed}
use Rattle.ld_json.specs.Node.{NodeView, listed, needed}
use Rattle.ld_json.specs.Pointer.{member_path}
use Rattle.ld_json.specs.Rules.{FirstOf, Then}
use Rattle.ld_options.specs.Faults.{Refused, and_then, of_node}
use Rattle.ld_options.specs.Fields.{number}
use Rattle.ld_options.specs.Ranges.{longest, most_stages}
use Rattle.ld_options.specs.Times.{IsTime, RefusesTime}
use Rattle.ld_options.specs.declared.fault.OptionsFault.{OptionsFault}
use Rattle.ld_options.specs.declared.fault.OptionsFault.TheVariants.{NoStages}
use Rattle.ld_options.specs.declared.fault.OptionsFault.TheVariants as faults
use Rattle.ld_script.specs.declared.range.Range.{Range}

-- where the stages of a scenario stand
abbrev pub stages_path : NodeView → List ℕ
stages_path node = member_path node.path (codes "stages")

-- a stage's duration has no range of its own
abbrev pub lengths : Range
lengths = record { least = 0; most = 2 ^ 64 - 1 }

-- the range of targets, up to the greatest one
abbrev pub targets : ℕ → Range
targets greatest = record { least = 0; most = greatest }

-- ---- one stage

-- an element of the list says this stage
pub record IsStageOf (greatest : ℕ) (node : NodeView) (stage : Stage) : Type 0 where
  pub length_is : IsTime lengths None node (codes "duration") stage.length
  pub target_is : number (targets greatest) None node (codes "target") ≡ Ok stage.target

-- an element is refused: an unknown member, its duration, or its target
abbrev pub RefusesStage : ℕ → NodeView → OptionsFault → Type 0
RefusesStage greatest node =
    Then (Refused (of_node (allowed node (codes "duration target"))))
    (Then (RefusesTime lengths None node (codes "duration"))
    (Refused (number (targets greatest) None node (codes "target"))))

-- ---- all stages

-- there are stages, and few enough
abbrev pub few_stages : List ℕ → List NodeView → Result (List NodeView) OptionsFault
few_stages path nodes =
    if nat_lt 0 (length nodes)
    then (if nat_le (length nodes) most_stages then Ok nodes else Err (faults.Range path))
    else Err (NoStages path)

-- the elements of a scenario's list of stages
abbrev pub stages_in : NodeView → Result (List NodeView) OptionsFault
stages_in node = and_then (few_stages (stages_path node)) (and_then (λ list. of_node (listed list)) (of_node (needed node (codes "stages"))))

-- the scenario has these stages
pub record AreStagesOf (greatest : ℕ) (node : NodeView) (stages : List Stage) : Type 0 where
  pub nodes : List NodeView
  pub nodes_are : stages_in node ≡ Ok nodes
  pub stages_are : AllZip (IsStageOf greatest) nodes stages

-- the stages that the elements say are together too long
pub record AreTooLong (greatest : ℕ) (path : List ℕ) (nodes : List NodeView) (fault : OptionsFault) : Type 0 where
  pub stages : List Stage
  pub stages_are : AllZip (IsStageOf greatest) nodes stages
  pub too_long : longest < sum_by (λ stage. stage.length) stages
  pub says : fault ≡ faults.Range path

-- the first of the elements that is refused, or else their length together
pub record RefusesElements (greatest : ℕ) (node : NodeView) (fault : OptionsFault) : Type 0 where
  pub nodes : List NodeView
  pub nodes_are : stages_in node ≡ Ok nodes
  pub refused : Then (FirstOf (RefusesStage greatest) nodes) (AreTooLong greatest (stages_path node) nodes) fault

-- the list of a scenario's stages is refused, or else what stands in it
abbrev pub RefusesStages : ℕ → NodeView → OptionsFault → Type 0
RefusesStages greatest node = Then (Refused (stages_in node)) (RefusesElements greatest node)
