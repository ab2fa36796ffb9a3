-- Documents of tests: the options that one means, or what is refused of it first.
use Rattle.std.specs.Prelude.{◌≡◌, ◌≢◌, ◌⊎◌, ℕ, List, [], Result, codes, length, map}
use Rattle.std.specs.List.{AllZip}
use Rattle.ld_json.specs.Document.{IsDocument}
use Rattle.ld_json.specs.Known.{allowed}
use Rattle.ld_json.specs.Node.{NodeView, needed, paired}
use Rattle.ld_json.specs.Pointer.{member_path}
use Rattle.ld_json.specs.Rules.{Accepts, FirstOf, Then}
use Rattle.ld_options.specs.Faults.{Refused, and_then, of_node}
pub use Rattle.ld_options.specs.Faults.{OfScripts}
use Rattle.ld_options.specs.Fields.{ranged}
use Rattle.ld_options.specs.Ranges.{AreInRange, most_scenarios}
use Rattle.ld_options.specs.Scenarios.{IsScenarioOf, RefusesScenario}
use Rattle.ld_options.specs.declared.fault.OptionsFault.{OptionsFault}
use Rattle.ld_options.specs.declared.fault.OptionsFault.TheVariants.{Memory, NotJson}
use Rattle.ld_options.specs.declared.options.Options.{Options}
use Rattle.ld_script.specs.declared.range.Range.{Range}
pub use Rattle.ld_script.specs.Members.{inside}
use Rattle.ld_script.specs.Refusal.{Member, RefusesScripts, members_of}
use Rattle.ld_script.specs.Scripts.{AreScriptsOf, name_of}
use Rattle.ld_script.specs.ScriptsView.{AreOrdered, most_scripts}
use Rattle.serde_json.specs.Data.{Data}

-- the whole document
abbrev pub root_of : Data → NodeView
root_of d = record { value = d; path = [] }

abbrev pub options_in : NodeView → NodeView
options_in root = inside root (codes "options")

abbrev pub scripts_in : NodeView → NodeView
scripts_in root = inside root (codes "scripts")

abbrev pub scenarios_in : NodeView → NodeView
scenarios_in root = inside (options_in root) (codes "scenarios")

abbrev pub script_names : NodeView → List (List ℕ)
script_names root = map name_of (members_of (scripts_in root))

-- the members of the object that the member of this name must be
abbrev pub object_of : NodeView → List ℕ → Result (List Member) OptionsFault
object_of node name = and_then (λ member. of_node (paired member)) (of_node (needed node name))

-- the number of them, in its range
abbrev pub counted : Range → NodeView → List ℕ → Result ℕ OptionsFault
counted range node name = and_then (λ members. ranged range (member_path node.path name) (length members)) (object_of node name)

-- how many scripts there may be, and how many scenarios
abbrev pub script_counts : Range
script_counts = record { least = 0; most = most_scripts }

abbrev pub scenario_counts : Range
scenario_counts = record { least = 1; most = most_scenarios }

-- the options that a document says
pub record AreOptionsOf (root : NodeView) (options : Options) : Type 0 where
  pub ordered : AreOrdered (script_names root)
  pub scripts_are : AreScriptsOf (scripts_in root) options.scripts
  pub scenarios_are : AllZip (IsScenarioOf (script_names root)) (members_of (scenarios_in root)) options.scenarios

-- what stands in `options` is refused: an unknown member, or else the object of scenarios
abbrev pub RefusesOptions : NodeView → OptionsFault → Type 0
RefusesOptions options =
    Then (Refused (of_node (allowed options (codes "scenarios")))) (Refused (counted scenario_counts options (codes "scenarios")))

-- The document is refused: the root, then what stands in `options`, then the first script that is
-- refused, and then the first scenario, each in byte order of names.
abbrev pub RefusesRoot : NodeView → OptionsFault → Type 0
RefusesRoot root =
    Then (Refused (of_node (allowed root (codes "options scripts"))))
    (Then (Refused (object_of root (codes "options")))
    (Refused (counted script_counts root (codes "scripts"))))

abbrev pub RefusesDocument : NodeView → OptionsFault → Type 0
RefusesDocument root =
    Then (RefusesRoot root)
    (Then (RefusesOptions (options_in root))
    (Then (OfScripts (RefusesScripts (scripts_in root)))
    (FirstOf (RefusesScenario (script_names root)) (members_of (scenarios_in root)))))

-- the bytes are a document of which nothing is refused, and these are its options
pub record AreOptions (bytes : List ℕ) (options : Options) : Type 0 where
  pub held : Data
  pub document : IsDocument bytes held
  pub options_are : AreOptionsOf (root_of held) options
  pub in_range : AreInRange options.scenarios
  pub accepted : Accepts (RefusesDocument (root_of held))

-- the bytes are refused: as no document, or else what they say; want of memory is no refusal of theirs
pub record IsRefusal (bytes : List ℕ) (fault : OptionsFault) : Type 0 where
  pub not_memory : fault ≢ Memory
  pub refused :
      (((d : Data) → IsDocument bytes d → ⊥) × (fault ≡ NotJson))
      ⊎ ((d : Data) × IsDocument bytes d × RefusesDocument (root_of d) fault)
