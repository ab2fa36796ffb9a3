-- When the scripts of a document are refused.
use Rattle.std.specs.Prelude.{◌≡◌, ◌≢◌, ◌<◌, ◌≤◌, ◌⊎◌, ℕ, List, Some, None, Ok, Err, Result, codes, length}
use Rattle.ld_json.specs.Known.{allowed}
use Rattle.ld_json.specs.Node.{NodeView, listed, needed, paired}
use Rattle.ld_json.specs.Pointer.{member_path}
use Rattle.ld_json.specs.Rules.{Then}
use Rattle.ld_json.specs.declared.fault.JsonFault.{JsonFault}
use Rattle.ld_json.specs.declared.fault.JsonFault.TheVariants as json
use Rattle.ld_script.specs.Along.{FirstAlong, after}
use Rattle.ld_script.specs.Fault.{Refused, and_then, of_node}
use Rattle.ld_script.specs.Fields.{number, text_given}
pub use Rattle.ld_script.specs.Members.{Member, elements_of, members_of}
use Rattle.ld_script.specs.Name.{IsCounterName, IsName, Lacks}
use Rattle.ld_script.specs.Names.{NamesView, most_names, no_names}
use Rattle.ld_script.specs.ScriptsView.{most_scripts}
use Rattle.ld_script.specs.Step.{Known, Placed, additions, all_laid, counter_in, counter_name, group_in, kind_of, known_after, most_groups, most_steps}
use Rattle.ld_script.specs.Times.{RefusesTime, spans}
use Rattle.ld_script.specs.declared.fault.ScriptFault.{ScriptFault}
use Rattle.ld_script.specs.declared.fault.ScriptFault.TheVariants.{BadName, Range, WrongKind}
use Rattle.ld_script.specs.declared.kind.Kind.{Kind}
use Rattle.ld_script.specs.declared.kind.Kind.TheVariants as kinds

-- ---- a step

-- a step that stands behind the last that a script may have is refused at its path
abbrev pub IsBehind : ℕ → NodeView → ScriptFault → Type 0
IsBehind count node fault = (most_steps ≤ count) × (fault ≡ Range node.path)

-- a step has one member, of a known name
abbrev pub HasOtherCount : NodeView → ScriptFault → Type 0
HasOtherCount node fault = (length (members_of node) ≢ 1) × (fault ≡ Range node.path)

abbrev pub RefusesForm : NodeView → ScriptFault → Type 0
RefusesForm node = Then (Refused (of_node (allowed node (codes "sleep count group")))) (HasOtherCount node)

-- a counter may have this name, which has room where it is new
pub record MayCount (names : NamesView) (text : List ℕ) : Type 0 where
  pub name : IsCounterName text
  pub room : Lacks names.texts text → length names.texts < most_names

-- a name that no counter may have is refused at its path
pub record MayNotCount (names : NamesView) (path text : List ℕ) (fault : ScriptFault) : Type 0 where
  pub barred : MayCount names text → ⊥
  pub says : fault ≡ Range path

-- the name of a counter is refused: it is no text, or else no name that the counter may have
pub record RefusesCounterName (names : NamesView) (counter : NodeView) (fault : ScriptFault) : Type 0 where
  pub refused :
      Refused (counter_name counter) fault
      ⊎ ((text : List ℕ)
      × (counter_name counter ≡ Ok text)
      × MayNotCount names (member_path counter.path (codes "name")) text fault)

-- what a step adds to a counter is refused: its object, its name, or else the number
abbrev pub RefusesCounter : NamesView → NodeView → ScriptFault → Type 0
RefusesCounter names counter =
    Then (Refused (of_node (allowed counter (codes "name add"))))
    (Then (RefusesCounterName names counter)
    (Refused (number additions (Some 1) counter (codes "add"))))

-- a group for which there is no room is refused at its step's path
abbrev pub IsTooDeep : ℕ → NodeView → ScriptFault → Type 0
IsTooDeep room node fault = (room ≡ 0) × (fault ≡ Range node.path)

-- the list of a group's steps
abbrev pub steps_given : NodeView → Result (List NodeView) ScriptFault
steps_given group = and_then (λ list. of_node (listed list)) (of_node (needed group (codes "steps")))

-- a group is refused: it stands too deep, or else its object, its name or its list; the steps in it come behind it
abbrev pub RefusesGroup : ℕ → NodeView → ScriptFault → Type 0
RefusesGroup room node =
    Then (IsTooDeep room node)
    (Then (Refused (of_node (needed node (codes "group"))))
    (Then (Refused (of_node (allowed (group_in node) (codes "name steps"))))
    (Then (Refused (text_given (group_in node) (codes "name")))
    (Refused (steps_given (group_in node))))))

-- a step of this kind is refused, where these names were used before it
abbrev pub RefusesKind : Kind → NamesView → ℕ → NodeView → ScriptFault → Type 0
RefusesKind kinds.Sleep names room node = RefusesTime spans None node (codes "sleep")
RefusesKind kinds.Count names room node =
    Then (Refused (of_node (needed node (codes "count")))) (RefusesCounter names (counter_in node))
RefusesKind kinds.Group names room node = RefusesGroup room node

-- a step is refused: there are too many before it, or else its form, or else what it says
abbrev pub RefusesStep : Known → Placed → ScriptFault → Type 0
RefusesStep known step =
    Then (IsBehind known.count step.node)
    (Then (RefusesForm step.node)
    (RefusesKind (kind_of step.node) known.names step.room step.node))

-- ---- a script

-- a value that can't be taken apart, since it is of another kind, is refused at its path
abbrev pub IsOfOtherKind : {A : Type 0} → (NodeView → Result A JsonFault) → NodeView → ScriptFault → Type 0
IsOfOtherKind parts node fault = (parts node ≡ Err (json.WrongKind node.path)) × (fault ≡ WrongKind node.path)

-- an object of more members than these is refused at its path
abbrev pub HasMoreMembers : ℕ → NodeView → ScriptFault → Type 0
HasMoreMembers most node fault = (most < length (members_of node)) × (fault ≡ Range node.path)

-- a member whose name is none is refused at its path
abbrev pub HasBadName : Member → ScriptFault → Type 0
HasBadName member fault = (IsName member.0 → ⊥) × (fault ≡ BadName member.1.path)

-- the steps of a script, in order, with groups and the steps in them
abbrev pub steps_of : NodeView → List Placed
steps_of node = all_laid most_groups (elements_of node)

-- what is known before the first step of a script
abbrev pub before_script : NamesView → Known
before_script names = record { count = 0; names = names }

-- the value of a script is refused: it is no list, or else the first of its steps that is refused
abbrev pub RefusesSteps : NamesView → NodeView → ScriptFault → Type 0
RefusesSteps names node =
    Then (IsOfOtherKind listed node) (FirstAlong RefusesStep known_after (before_script names) (steps_of node))

-- a script is refused: its name, or else its value
abbrev pub RefusesScript : NamesView → Member → ScriptFault → Type 0
RefusesScript names member = Then (HasBadName member) (RefusesSteps names member.1)

-- ---- all scripts

-- the names behind a script
abbrev pub names_after : NamesView → Member → NamesView
names_after names member = (after known_after (before_script names) (steps_of member.1)).names

-- the object of scripts is refused: it is none, or else it has too many members
abbrev pub RefusesTable : NodeView → ScriptFault → Type 0
RefusesTable node = Then (IsOfOtherKind paired node) (HasMoreMembers most_scripts node)

-- the scripts are refused: their object, or else the first of them that is refused
abbrev pub RefusesScripts : NodeView → ScriptFault → Type 0
RefusesScripts node = Then (RefusesTable node) (FirstAlong RefusesScript names_after no_names (members_of node))
