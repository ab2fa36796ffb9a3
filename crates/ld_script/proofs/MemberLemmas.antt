-- Members of objects, and what a group's object is.
use Rattle.std.proofs.Common.{◌≡◌, ◌∙◌, ◌-◌, ℕ, zero, suc, List, [], ap, sym, subst, inl, inr, arith, refl}
use Rattle.std.specs.Prelude.{Option, Some, None, Result, Ok, Err, codes, ok_or, option_map, unwrap_or, ⊤}
use Rattle.std.specs.Result.{result_and, result_unwrap_or}
use Rattle.ld_json.specs.Known.{allowed}
use Rattle.ld_json.specs.Node.{NodeView, listed, needed, of_kind}
use Rattle.ld_json.specs.Pointer.{member_path}
use Rattle.ld_json.specs.Rules.{Accepts}
use Rattle.ld_json.specs.declared.fault.JsonFault.{JsonFault}
use Rattle.ld_json.specs.declared.fault.JsonFault.TheVariants.{Missing}
use Rattle.ld_json.proofs.RulesLemmas.{then_accepts}
use Rattle.serde_json.specs.Data.{Data, Members, null}
use Rattle.serde_json.specs.Find.{as_object, get}
use Rattle.ld_script.specs.Fault.{Refused, of_node}
use Rattle.ld_script.specs.Fields.{text_given}
use Rattle.ld_script.specs.Members.{elements_of, inside}
use Rattle.ld_script.specs.Refusal.{IsTooDeep, RefusesGroup, steps_given}
use Rattle.ld_script.specs.Step.{all_laid, kind_of, laid_in, steps_in}
use Rattle.ld_script.specs.declared.fault.ScriptFault.{ScriptFault}
use Rattle.ld_script.specs.declared.kind.Kind.TheVariants as kinds
use Rattle.ld_script.proofs.AnswerLemmas.{node_accepts, ok_accepts, ok_isnt_err, ok_same}

-- the member that an object must have
is_inside : (object : Result Members JsonFault) (value : Option Data) (path : List ℕ) (fault : JsonFault) (member : NodeView)
    → result_and object (ok_or (option_map (λ d. record { value = d; path = path }) value) fault) ≡ Ok member → member ≡ record { value = unwrap_or value null; path = path }
is_inside (Ok ms) (Some d) path fault member is = sym (ok_same _ _ is)
is_inside (Ok ms) None path fault member is = absurd (ok_isnt_err member fault (sym is))
is_inside (Err e) value path fault member is = absurd (ok_isnt_err member e (sym is))

pub needed_inside : (node : NodeView) (name : List ℕ) (member : NodeView) → needed node name ≡ Ok member → member ≡ inside node name
needed_inside node name member is =
    is_inside (of_kind as_object node) (get name node.value) (member_path node.path name) (Missing (member_path node.path name)) member is

-- what is known of a group's object as far as its name
pub record IsGroup (room : ℕ) (node group : NodeView) : Type 0 where
  pub deep : room ≡ 0 → ⊥
  pub kind : kind_of node ≡ kinds.Group
  pub object : needed node (codes "group") ≡ Ok group
  pub known : (u : ⊤) × (allowed group (codes "name steps") ≡ Ok u)

not_deep : (room : ℕ) (node : NodeView) → (room ≡ 0 → ⊥) → Accepts (IsTooDeep room node)
not_deep room node deep fault refused = deep refused.0

-- the name of a group is refused
pub name_refused : (room : ℕ) (node group : NodeView) → IsGroup room node group → (fault : ScriptFault) → Refused (text_given group (codes "name")) fault → RefusesGroup room node fault
name_refused room node group is fault refused =
    let same = needed_inside node (codes "group") group is.object in
    inr (
      not_deep room node is.deep,
      inr (
        node_accepts _ group is.object,
        inr (
          subst (λ g. Accepts (Refused (of_node (allowed g (codes "name steps"))))) same (node_accepts _ is.known.0 is.known.1),
          inl (subst (λ g. Refused (text_given g (codes "name")) fault) same refused),
        ),
      ),
    )

-- and so is its list, or none of it is refused
steps_are : (group list : NodeView) (nodes : List NodeView) → needed group (codes "steps") ≡ Ok list → listed list ≡ Ok nodes → steps_given group ≡ Ok nodes
steps_are group list nodes there are = rw (there, are) refl

pub group_accepts : (room : ℕ) (node group list : NodeView) (nodes : List NodeView) → IsGroup room node group → Accepts (Refused (text_given group (codes "name"))) → needed group (codes "steps") ≡ Ok list
    → listed list ≡ Ok nodes → Accepts (RefusesGroup room node)
group_accepts room node group list nodes is name there are =
    let same = needed_inside node (codes "group") group is.object in
    then_accepts _ _ (not_deep room node is.deep)
    (then_accepts _ _ (node_accepts _ group is.object)
    (then_accepts _ _ (subst (λ g. Accepts (Refused (of_node (allowed g (codes "name steps"))))) same (node_accepts _ is.known.0 is.known.1))
    (then_accepts _ _ (subst (λ g. Accepts (Refused (text_given g (codes "name")))) same name)
    (subst (λ g. Accepts (Refused (steps_given g))) same (ok_accepts _ nodes (steps_are group list nodes there are))))))

-- the steps behind a group that stand in it
laid_behind : (room : ℕ) (node : NodeView) (nodes : List NodeView) → (room ≡ 0 → ⊥) → steps_in (kind_of node) node ≡ nodes → laid_in room node ≡ all_laid (room - 1) nodes
laid_behind zero node nodes deep are = absurd (deep refl)
laid_behind (suc room) node nodes deep are =
    let less : suc room - 1 ≡ room = omega arith in
    rw (less, are) refl

pub group_laid : (room : ℕ) (node group list : NodeView) (nodes : List NodeView) → IsGroup room node group → needed group (codes "steps") ≡ Ok list → listed list ≡ Ok nodes
    → laid_in room node ≡ all_laid (room - 1) nodes
group_laid room node group list nodes is there are =
    let same = needed_inside node (codes "group") group is.object in
    let inner = needed_inside group (codes "steps") list there ∙ ap (λ g. inside g (codes "steps")) same in
    laid_behind room node nodes is.deep
    (ap (λ k. steps_in k node) is.kind ∙ ap elements_of (sym inner) ∙ ap (λ r. result_unwrap_or r []) are)
