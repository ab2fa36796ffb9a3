-- The steps of a script, as its list of nodes says them.
use Rattle.std.specs.Prelude.{◌≡◌, ◌+◌, ℕ, zero, suc, Bool, true, false, List, [], ◌∷◌, Option, Some, None, Ok, Result, bytes_eq, codes, flat_map, if◌then◌else◌, length, slice_get}
use Rattle.std.specs.List.{AllZip, filter}
use Rattle.std.specs.Result.{result_ok}
use Rattle.ld_json.specs.Node.{NodeView}
use Rattle.ld_base.specs.declared.metric.NameSpec.{NameSpec}
use Rattle.ld_script.specs.Fields.{number, text_given}
use Rattle.ld_script.specs.Members.{Member, elements_of, inside, members_of}
use Rattle.ld_script.specs.Names.{NamesView, noted}
use Rattle.ld_script.specs.Times.{IsTime, spans}
use Rattle.ld_script.specs.declared.fault.ScriptFault.{ScriptFault}
use Rattle.ld_script.specs.declared.kind.Kind.{Kind}
use Rattle.ld_script.specs.declared.kind.Kind.TheVariants as kinds
use Rattle.ld_script.specs.declared.range.Range.{Range}
use Rattle.ld_script.specs.declared.step.Step.{Step}
use Rattle.ld_script.specs.declared.step.Step.TheVariants.{Sleep, Count}

-- the most steps of a script, with groups and the steps in them, and the most groups that stand in one another
abbrev pub most_steps : ℕ
most_steps = 200

abbrev pub most_groups : ℕ
most_groups = 8

-- the range of what a step adds to a counter
abbrev pub additions : Range
additions = record { least = 0; most = 1000000 }

-- the kind of the step that the member of this name says
abbrev pub kind_named : List ℕ → Kind
kind_named name =
    if bytes_eq name (codes "sleep") then kinds.Sleep
    else if bytes_eq name (codes "count") then kinds.Count
    else kinds.Group

-- the name of the first member
abbrev pub first_name : List Member → List ℕ
first_name [] = []
first_name (member ∷ members) = member.0

-- the kind of a step, which is the name of its one member
abbrev pub kind_of : NodeView → Kind
kind_of node = kind_named (first_name (members_of node))

-- the object of a counter, and that of a group
abbrev pub counter_in : NodeView → NodeView
counter_in node = inside node (codes "count")

abbrev pub group_in : NodeView → NodeView
group_in node = inside node (codes "group")

-- ---- steps laid flat

-- the steps that stand in a step of this kind: in a group those of its list
abbrev pub steps_in : Kind → NodeView → List NodeView
steps_in kinds.Group node = elements_of (inside (group_in node) (codes "steps"))
steps_in kinds.Sleep node = []
steps_in kinds.Count node = []

-- a step, and how many groups may still stand in one another where it stands
pub record Placed : Type 0 where
  pub room : ℕ
  pub node : NodeView

-- a step with the steps in it behind it, and those in these behind each of them; none behind one for which there is no room
abbrev pub laid : ℕ → NodeView → List Placed
laid zero node = record { room = 0; node = node } ∷ []
laid (suc room) node = record { room = suc room; node = node } ∷ flat_map (laid room) (steps_in (kind_of node) node)

-- the steps behind a step that stand in it
abbrev pub laid_in : ℕ → NodeView → List Placed
laid_in zero node = []
laid_in (suc room) node = flat_map (laid room) (steps_in (kind_of node) node)

-- the steps of a list in order, with groups and the steps in them
abbrev pub all_laid : ℕ → List NodeView → List Placed
all_laid room nodes = flat_map (laid room) nodes

-- ---- what is known before a step

-- how many steps came before in its script, and the names that all steps before it use
pub record Known : Type 0 where
  pub count : ℕ
  pub names : NamesView

-- what the samples of a counter's name are
abbrev pub counter_spec : NameSpec
counter_spec = record { counter = true; checks = 0 }

-- the name that a counter has
abbrev pub counter_name : NodeView → Result (List ℕ) ScriptFault
counter_name counter = text_given counter (codes "name")

-- the name that a step of this kind uses, if it uses one
abbrev pub used : Kind → NodeView → Option (List ℕ)
used kinds.Count node = result_ok (counter_name (counter_in node))
used kinds.Sleep node = None
used kinds.Group node = None

-- the names behind the use of a counter's name, or of none
abbrev pub with_used : NamesView → Option (List ℕ) → NamesView
with_used names None = names
with_used names (Some text) = noted names text counter_spec

-- what is known behind a step
abbrev pub known_after : Known → Placed → Known
known_after known step =
    record { count = known.count + 1; names = with_used known.names (used (kind_of step.node) step.node) }

-- ---- what steps say

-- a number is that of the counter's name
pub record IsNumberOf (texts : List (List ℕ)) (counter : NodeView) (name : ℕ) : Type 0 where
  pub text : List ℕ
  pub holds : counter_name counter ≡ Ok text
  pub found : slice_get texts name ≡ Some text

-- so much is added to the counter of this number
pub record IsCounted (texts : List (List ℕ)) (counter : NodeView) (name add : ℕ) : Type 0 where
  pub name_is : IsNumberOf texts counter name
  pub add_is : number additions (Some 1) counter (codes "add") ≡ Ok add

-- the step of a script that a step of this kind says, where these are the names; a group says none
abbrev pub IsStep : Kind → List (List ℕ) → NodeView → Step → Type 0
IsStep kinds.Sleep texts node (Sleep length) = IsTime spans None node (codes "sleep") length
IsStep kinds.Count texts node (Count name add) = IsCounted texts (counter_in node) name add
IsStep kinds.Sleep texts node (Count name add) = ⊥
IsStep kinds.Count texts node (Sleep length) = ⊥
IsStep kinds.Group texts node step = ⊥

abbrev pub IsStepOf : List (List ℕ) → Placed → Step → Type 0
IsStepOf texts placed step = IsStep (kind_of placed.node) texts placed.node step

-- whether a step is no group
abbrev pub is_plain_kind : Kind → Bool
is_plain_kind kinds.Group = false
is_plain_kind kinds.Sleep = true
is_plain_kind kinds.Count = true

abbrev pub is_plain : Placed → Bool
is_plain placed = is_plain_kind (kind_of placed.node)

-- the steps that nodes say, laid flat: those of all nodes but groups, in order
abbrev pub AreStepsOf : List (List ℕ) → List Placed → List Step → Type 0
AreStepsOf texts nodes steps = AllZip (IsStepOf texts) (filter is_plain nodes) steps

-- whether a step gives a sample
abbrev pub gives_sample : Step → Bool
gives_sample (Sleep length) = false
gives_sample (Count name add) = true

-- how many samples steps give
abbrev pub sample_count : List Step → ℕ
sample_count steps = length (filter gives_sample steps)
