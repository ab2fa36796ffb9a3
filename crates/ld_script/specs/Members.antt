-- The parts of a node: members of objects, and elements of lists.
use Rattle.std.specs.Prelude.{ℕ, List, [], unwrap_or}
use Rattle.std.specs.Result.{result_unwrap_or}
use Rattle.ld_json.specs.Node.{NodeView, listed, paired}
use Rattle.ld_json.specs.Pointer.{member_path}
use Rattle.serde_json.specs.Data.{null}
use Rattle.serde_json.specs.Find.{get}

-- a member of an object, as its name and its value
abbrev pub Member : Type 0
Member = List ℕ × NodeView

-- the name of a member
abbrev pub name_of : Member → List ℕ
name_of member = member.0

-- the members of an object in order; none where the value is of another kind
abbrev pub members_of : NodeView → List Member
members_of node = result_unwrap_or (paired node) []

-- the elements of a list in order; none where the value is of another kind
abbrev pub elements_of : NodeView → List NodeView
elements_of node = result_unwrap_or (listed node) []

-- the member of this name, or null where there is none
abbrev pub inside : NodeView → List ℕ → NodeView
inside node name = record { value = unwrap_or (get name node.value) null; path = member_path node.path name }
