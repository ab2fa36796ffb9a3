-- Names that an object may have, as a text of names between spaces.
use Rattle.std.specs.Prelude.{◌==◌, List, Bool, not, Option, Some, None, Result, Ok, Err, ℕ, option_map, bytes_eq, find, ⊤}
use Rattle.std.specs.List.{list_any, slice_split}
use Rattle.std.specs.Result.{result_flatten}
use Rattle.ld_json.specs.Node.{NodeView, of_kind, names_of}
use Rattle.ld_json.specs.Pointer.{member_path}
use Rattle.ld_json.specs.declared.fault.JsonFault.{JsonFault}
use Rattle.ld_json.specs.declared.fault.JsonFault.TheVariants.{Unknown}
use Rattle.serde_json.specs.Data.{Members}
use Rattle.serde_json.specs.Find.{as_object}

-- the pieces of a text between its spaces
abbrev pub pieces : List ℕ → List (List ℕ)
pieces text = slice_split (λ b. b == 32) text

-- the name is one of these
abbrev pub is_one_of : List (List ℕ) → List ℕ → Bool
is_one_of known name = list_any (λ piece. bytes_eq piece name) known

-- the first member's name that is none of these
abbrev pub first_unknown : List (List ℕ) → Members → Option (List ℕ)
first_unknown known ms = find (λ name. not (is_one_of known name)) (names_of ms)

-- the fault of a member of this name, if there is one
abbrev pub refused : List ℕ → Option (List ℕ) → Result ⊤ JsonFault
refused path None = Ok tt
refused path (Some name) = Err (Unknown (member_path path name))

-- whether an object has members of these names alone
abbrev pub allowed : NodeView → List ℕ → Result ⊤ JsonFault
allowed node names = result_flatten (of_kind (λ d. option_map (λ ms. refused node.path (first_unknown (pieces names) ms)) (as_object d)) node)
