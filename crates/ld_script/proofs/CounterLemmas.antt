-- What a step adds to a counter is refused for the first part of its object, or read.
use Rattle.std.proofs.Common.{◌≡◌, ◌∙◌, ◌++◌, ◌∷◌, [], ℕ, Some, ap, sym, subst, inl, inr}
use Rattle.std.specs.Prelude.{Ok, codes, ⊤}
use Rattle.std.specs.Result.{result_ok}
use Rattle.ld_json.specs.Known.{allowed}
use Rattle.ld_json.specs.Node.{NodeView, needed}
use Rattle.ld_json.specs.Rules.{Accepts}
use Rattle.ld_json.proofs.RulesLemmas.{then_accepts}
use Rattle.ld_script.specs.Draft.{DraftView, HasNamed, HasReadOne}
use Rattle.ld_script.specs.Fault.{Refused, of_node}
use Rattle.ld_script.specs.Fields.{number}
use Rattle.ld_script.specs.Names.{NamesView}
use Rattle.ld_script.specs.Refusal.{RefusesCounter, RefusesCounterName, RefusesKind}
use Rattle.ld_script.specs.Step.{IsCounted, IsNumberOf, additions, counter_name, with_used}
use Rattle.ld_script.specs.declared.fault.ScriptFault.{ScriptFault}
use Rattle.ld_script.specs.declared.kind.Kind.TheVariants as kinds
use Rattle.ld_script.specs.declared.step.Step.TheVariants.{Count}
use Rattle.ld_script.proofs.AnswerLemmas.{node_accepts, ok_accepts}
use Rattle.ld_script.proofs.MemberLemmas.{needed_inside}

-- the object has known members alone
abbrev IsKnown : NodeView → Type 0
IsKnown counter = (u : ⊤) × (allowed counter (codes "name add") ≡ Ok u)

known_accepts : (counter : NodeView) → IsKnown counter → Accepts (Refused (of_node (allowed counter (codes "name add"))))
known_accepts counter is = node_accepts _ is.0 is.1

pub name_refused : (node counter : NodeView) (names : NamesView) → needed node (codes "count") ≡ Ok counter → IsKnown counter → (fault : ScriptFault) → RefusesCounterName names counter fault
    → RefusesKind kinds.Count names 0 node fault
name_refused node counter names there known fault refused =
    inr (
      node_accepts _ counter there,
      subst (λ c. RefusesCounter names c fault) (needed_inside node (codes "count") counter there) (inr (known_accepts counter known, inl refused)),
    )

pub add_refused : (node counter : NodeView) (names : NamesView) → needed node (codes "count") ≡ Ok counter → IsKnown counter → Accepts (RefusesCounterName names counter) → (fault : ScriptFault)
    → Refused (number additions (Some 1) counter (codes "add")) fault → RefusesKind kinds.Count names 0 node fault
add_refused node counter names there known name fault refused =
    inr (
      node_accepts _ counter there,
      subst (λ c. RefusesCounter names c fault) (needed_inside node (codes "count") counter there) (inr (known_accepts counter known, inr (name, refused))),
    )

-- the same drafts, in which a step was put behind the others
pub counter_read : (node counter : NodeView) (old mid new : DraftView) (name add : ℕ) → needed node (codes "count") ≡ Ok counter → IsKnown counter
    → Accepts (RefusesCounterName old.known.names counter) → IsNumberOf mid.known.names.texts counter name → HasNamed old mid counter → number additions (Some 1) counter (codes "add") ≡ Ok add
    → new ≡ record { steps = mid.steps ++ Count name add ∷ []; known = mid.known } → HasReadOne kinds.Count old new node
counter_read node counter old mid new name add there known accepts number_is named add_is pushed =
    let same = needed_inside node (codes "count") counter there in
    let known_is = ap (λ (d : DraftView). d.known) pushed in
    record {
      accepted =
          then_accepts _ _ (node_accepts _ counter there)
          (subst (λ c. Accepts (RefusesCounter old.known.names c)) same
          (then_accepts _ _ (known_accepts counter known) (then_accepts _ _ accepts (ok_accepts _ add add_is))));
      count = ap (λ (d : DraftView). d.known.count) pushed ∙ named.count;
      names =
          ap (λ (d : DraftView). d.known.names) pushed
          ∙ named.names
          ∙ ap (λ c. with_used old.known.names (result_ok (counter_name c))) same;
      step = Count name add;
      steps = ap (λ (d : DraftView). d.steps) pushed ∙ ap (λ steps. steps ++ Count name add ∷ []) named.steps;
      said =
          subst (λ c. IsCounted new.known.names.texts c name add) same
          (record {
            name_is = subst (λ (d : DraftView). IsNumberOf d.known.names.texts counter name) (sym pushed) number_is;
            add_is = add_is;
          });
    }
