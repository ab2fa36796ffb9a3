-- What a value of a document holds, and what the calls of a node answer, want of memory aside.
use Rattle.std.specs.Prelude.{◌≡◌, ℕ, ◌+◌, List, [], ◌∷◌, Option, Some, Result, Ok, Err, IfOk, IfErr, ok_or, option_map, option_and_then, refl}
use Rattle.std.specs.Coded.{Coded, code_by, coded×, coded_ℕ, coded_list}
use Rattle.std.specs.Cmp.Lexicographic.{slice_cmp}
use Rattle.std.specs.List.Sorted.{IsStrictlySortedBy}
use Rattle.std.specs.Ordering.{nat_cmp}
use Rattle.std.specs.Result.{result_and}
use Rattle.ld_json.specs.Codes.{coded_data}
use Rattle.ld_json.specs.Pointer.{member_path, item_path}
use Rattle.ld_json.specs.declared.fault.JsonFault.{JsonFault}
use Rattle.ld_json.specs.declared.fault.JsonFault.TheVariants.{Memory, Missing, WrongKind}
use Rattle.serde_json.specs.Data.{Data, Items, no_items, item, Members, no_members, member}
use Rattle.serde_json.specs.Find.{get, as_object, as_array, as_number, as_u64}

-- a value, and where it stands
pub record NodeView : Type 0 where
  pub value : Data
  pub path : List ℕ

-- a node is stored as the pair of its fields
abbrev pub coded_node : Coded NodeView
coded_node =
    code_by (Data × List ℕ) (coded× coded_data (coded_list coded_ℕ)) (λ n. (n.value, n.path)) (λ p. record { value = p.0; path = p.1 }) (λ _. refl)

-- the result is the answer, unless memory is missing
abbrev pub Answers : {A : Type 0} → Result A JsonFault → Result A JsonFault → Type 0
Answers result answer = IfOk result (λ x. answer ≡ Ok x) × IfErr result (λ fault. (fault ≡ Memory → ⊥) → answer ≡ Err fault)

-- what a value of this kind holds; it is an error at the value's path where it is of another kind
abbrev pub of_kind : {A : Type 0} → (Data → Option A) → NodeView → Result A JsonFault
of_kind kind node = ok_or (kind node.value) (WrongKind node.path)

-- a whole number
abbrev pub as_whole : Data → Option ℕ
as_whole d = option_and_then as_u64 (as_number d)

-- the member of this name, if there is one
abbrev pub member_of : NodeView → List ℕ → Option NodeView
member_of node name = option_map (λ d. record { value = d; path = member_path node.path name }) (get name node.value)

-- the member of an object that may be there
abbrev pub wanted : NodeView → List ℕ → Result (Option NodeView) JsonFault
wanted node name = result_and (of_kind as_object node) (Ok (member_of node name))

-- the member of an object that must be there
abbrev pub needed : NodeView → List ℕ → Result NodeView JsonFault
needed node name = result_and (of_kind as_object node) (ok_or (member_of node name) (Missing (member_path node.path name)))

-- the elements of the list at this path, each with its own, from this index on
abbrev pub elements : List ℕ → ℕ → Items → List NodeView
elements path index no_items = []
elements path index (item d ds) = record { value = d; path = item_path path index } ∷ elements path (index + 1) ds

-- the elements of a list
abbrev pub listed : NodeView → Result (List NodeView) JsonFault
listed node = of_kind (λ d. option_map (elements node.path 0) (as_array d)) node

-- the members of the object at this path, each as its name and its value
abbrev pub named : List ℕ → Members → List (List ℕ × NodeView)
named path no_members = []
named path (member name d ms) = (name, record { value = d; path = member_path path name }) ∷ named path ms

-- the members of an object
abbrev pub paired : NodeView → Result (List (List ℕ × NodeView)) JsonFault
paired node = of_kind (λ d. option_map (named node.path) (as_object d)) node

-- the names of members
abbrev pub names_of : Members → List (List ℕ)
names_of no_members = []
names_of (member name d ms) = name ∷ names_of ms

-- the members stand in byte order of their names
abbrev pub Ascend : Members → Type 0
Ascend ms = IsStrictlySortedBy (slice_cmp nat_cmp) (names_of ms)

-- the members of an object stand in byte order of their names
abbrev pub HasOrder : Data → Type 0
HasOrder d = (ms : Members) → as_object d ≡ Some ms → Ascend ms
