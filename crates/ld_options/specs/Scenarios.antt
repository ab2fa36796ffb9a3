-- Scenarios, as a document says them.
use Rattle.std.specs.Prelude.{◌≡◌, ◌⊎◌, ℕ, List, Some, Ok, codes, slice_get}
use Rattle.ld_json.specs.Known.{allowed}
use Rattle.ld_json.specs.Node.{NodeView}
use Rattle.ld_json.specs.Pointer.{member_path}
use Rattle.ld_json.specs.Rules.{Then}
use Rattle.ld_options.specs.Executors.{IsExecutor, RefusesExecutor, executor_kind, fields_of, kind_of}
use Rattle.ld_options.specs.Faults.{Refused, of_node}
use Rattle.ld_options.specs.Fields.{given}
use Rattle.ld_options.specs.Times.{IsTime, RefusesTime, spans}
use Rattle.ld_options.specs.declared.fault.OptionsFault.{OptionsFault}
use Rattle.ld_options.specs.declared.fault.OptionsFault.TheVariants as faults
use Rattle.ld_options.specs.declared.kind.Kind.{Kind}
use Rattle.ld_options.specs.declared.scenario.Scenario.{Scenario}
use Rattle.ld_script.specs.Name.{IsName, Lacks}
use Rattle.ld_script.specs.Refusal.{Member}
use Rattle.serde_json.specs.Find.{as_str}

-- the number of the script that a scenario names, `default` where it names none
pub record IsScript (names : List (List ℕ)) (node : NodeView) (at : ℕ) : Type 0 where
  pub text : List ℕ
  pub holds : given as_str (Some (codes "default")) node (codes "exec") ≡ Ok text
  pub found : slice_get names at ≡ Some text

-- no script has this name
pub record IsLost (names : List (List ℕ)) (path text : List ℕ) (fault : OptionsFault) : Type 0 where
  pub lacks : Lacks names text
  pub says : fault ≡ faults.ScriptUnknown path

-- the name of a script is refused, or else that no script has it
pub record RefusesScript (names : List (List ℕ)) (node : NodeView) (fault : OptionsFault) : Type 0 where
  pub refused :
      Refused (given as_str (Some (codes "default")) node (codes "exec")) fault
      ⊎ ((text : List ℕ)
      × (given as_str (Some (codes "default")) node (codes "exec") ≡ Ok text)
      × IsLost names (member_path node.path (codes "exec")) text fault)

-- the scenario that a member of `scenarios` says, where the scripts have these names
pub record IsScenarioOf (names : List (List ℕ)) (member : Member) (s : Scenario) : Type 0 where
  pub name_is : s.name ≡ member.0
  pub kind_is : kind_of member.1 ≡ Ok (executor_kind s.executor)
  pub begin_is : IsTime spans (Some (codes "0s")) member.1 (codes "startTime") s.begin
  pub grace_is : IsTime spans (Some (codes "30s")) member.1 (codes "gracefulStop") s.grace
  pub script_is : IsScript names member.1 s.script
  pub executor_is : IsExecutor member.1 s.executor

-- a member whose name is none is refused at its path
abbrev pub HasBadName : Member → OptionsFault → Type 0
HasBadName member fault = (IsName member.0 → ⊥) × (fault ≡ faults.BadName member.1.path)

-- the first field of a scenario that is refused, behind members that are unknown
abbrev pub RefusesFields : List (List ℕ) → Kind → NodeView → OptionsFault → Type 0
RefusesFields names kind node =
    Then (Refused (of_node (allowed node (fields_of kind))))
    (Then (RefusesTime spans (Some (codes "0s")) node (codes "startTime"))
    (Then (RefusesTime spans (Some (codes "30s")) node (codes "gracefulStop"))
    (Then (RefusesScript names node)
    (RefusesExecutor kind node))))

-- the fields that the named executor has
pub record RefusesKnown (names : List (List ℕ)) (node : NodeView) (fault : OptionsFault) : Type 0 where
  pub kind : Kind
  pub kind_is : kind_of node ≡ Ok kind
  pub refused : RefusesFields names kind node fault

-- A member of `scenarios` is refused: its name, then its executor, then its fields. A value that is
-- no object names no executor, and is refused at its own path.
abbrev pub RefusesScenario : List (List ℕ) → Member → OptionsFault → Type 0
RefusesScenario names member = Then (HasBadName member) (Then (Refused (kind_of member.1)) (RefusesKnown names member.1))
