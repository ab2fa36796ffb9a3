-- The fields of an object: what a member is, or what stands for it where it isn't there.
use Rattle.std.specs.Prelude.{◌&&◌, ℕ, List, Option, Some, None, Result, Ok, Err, nat_le, ok_or, if◌then◌else◌}
use Rattle.ld_json.specs.Node.{NodeView, as_whole, needed, of_kind, wanted}
use Rattle.ld_json.specs.Pointer.{member_path}
use Rattle.ld_script.specs.Fault.{and_then, of_node}
use Rattle.ld_script.specs.declared.fault.ScriptFault.{ScriptFault}
use Rattle.ld_script.specs.declared.fault.ScriptFault.TheVariants as faults
use Rattle.ld_script.specs.declared.range.Range.{Range}
use Rattle.serde_json.specs.Data.{Data}
use Rattle.serde_json.specs.Find.{as_str}

-- what a member of this kind holds, or the default where there is no member
abbrev pub held : {A : Type 0} → (Data → Option A) → Option A → List ℕ → Option NodeView → Result A ScriptFault
held kind default path None = ok_or default (faults.Missing path)
held kind default path (Some member) = ok_or (kind member.value) (faults.WrongKind member.path)

-- what the field of this name holds; without a default the member is needed
abbrev pub given : {A : Type 0} → (Data → Option A) → Option A → NodeView → List ℕ → Result A ScriptFault
given kind default node name = and_then (held kind default (member_path node.path name)) (of_node (wanted node name))

-- the text that the member of this name must be
abbrev pub text_given : NodeView → List ℕ → Result (List ℕ) ScriptFault
text_given node name = and_then (λ member. of_node (of_kind as_str member)) (of_node (needed node name))

-- a number that is in its range
abbrev pub ranged : Range → List ℕ → ℕ → Result ℕ ScriptFault
ranged range path n = if nat_le range.least n && nat_le n range.most then Ok n else Err (faults.Range path)

-- the whole number of a field, in its range
abbrev pub number : Range → Option ℕ → NodeView → List ℕ → Result ℕ ScriptFault
number range default node name = and_then (ranged range (member_path node.path name)) (given as_whole default node name)
