-- Steps are read one behind the other, and those in a group behind it.
use Rattle.std.proofs.Common.{rules, ◌≡◌, ◌-◌, ◌∙◌, ap, sym, subst, inl, inr}
use Rattle.std.proofs.lemmas.Result.{IfOk-weaker}
use Rattle.indexmap.proofs.SearchLemmas.{on_ok_of}
use Rattle.ld_json.specs.Rules.{Then}
use Rattle.ld_script.specs.Along.{FirstAlong}
use Rattle.ld_script.specs.Draft.{DraftView, HasRead, HasReadOne}
use Rattle.ld_script.specs.Refusal.{RefusesGroup, RefusesKind, RefusesStep}
use Rattle.ld_script.specs.Step.{all_laid, kind_of, known_after, laid, laid_in}
use Rattle.ld_script.specs.declared.kind.Kind.TheVariants as kinds
use Rattle.ld_script.proofs.AnswerLemmas.{handed_on, refused_weaker}
use Rattle.ld_script.proofs.DraftLemmas.{form_refused, group_read, group_refused, one_read, read_at, refused_at, step_refused}
use Rattle.ld_script.proofs.MemberLemmas.{IsGroup, group_accepts, group_laid, name_refused}
use Rattle.ld_script.proofs.reading.+laid.Goals as goal

pub read_group-returns-in_err-check_name-clause-refused : goal.read_group-returns-in_err-check_name-clause-refused
read_group-returns-in_err-check_name-clause-refused t c =
    let deep : c.args.room ≡ 0 → ⊥ = search rules in
    let is : IsGroup c.args.room c.args.node.now c.in_ok-group.group =
    record { deep = deep; kind = c.requires; object = c.in_ok-group.ensures.0; known = (c.in_ok-only.field-0, c.in_ok-only.ensures.answer.0) } in
    handed_on _ _ _ c.from_residual-in_err-check_name.ensures
    (λ other. inl (name_refused c.args.room c.args.node.now c.in_ok-group.group is _ (c.in_err-check_name.ensures.refused other)))

pub read_group-returns-clause-accepted : goal.read_group-returns-clause-accepted
read_group-returns-clause-accepted t c =
    let deep : c.args.room ≡ 0 → ⊥ = search rules in
    let is : IsGroup c.args.room c.args.node.now c.in_ok-group.group =
    record { deep = deep; kind = c.requires; object = c.in_ok-group.ensures.0; known = (c.in_ok-only.field-0, c.in_ok-only.ensures.answer.0) } in
    let list = c.in_ok-list.ensures.0 in
    let nodes = c.in_ok-nodes.ensures.ok in
    let accepts = group_accepts c.args.room c.args.node.now c.in_ok-group.group c.in_ok-list.list c.in_ok-nodes.nodes.items is c.in_ok-check_name.ensures.accepted list nodes in
    IfOk-weaker _ _ _ (λ u read. accepts) c.read_steps.ensures.read

pub read_group-returns-clause-read : goal.read_group-returns-clause-read
read_group-returns-clause-read t c =
    let deep : c.args.room ≡ 0 → ⊥ = search rules in
    let is : IsGroup c.args.room c.args.node.now c.in_ok-group.group =
    record { deep = deep; kind = c.requires; object = c.in_ok-group.ensures.0; known = (c.in_ok-only.field-0, c.in_ok-only.ensures.answer.0) } in
    let list = c.in_ok-list.ensures.0 in
    let nodes = c.in_ok-nodes.ensures.ok in
    let laid_same = group_laid c.args.room c.args.node.now c.in_ok-group.group c.in_ok-list.list c.in_ok-nodes.nodes.items is list nodes in
    IfOk-weaker _ _ _
    (λ u read. subst (HasRead c.args.draft.now c.read_steps.new.draft) (ap (all_laid (c.args.room - 1)) c.deref.ensures.value ∙ sym laid_same) read)
    c.read_steps.ensures.read

pub read_group-returns-clause-refused : goal.read_group-returns-clause-refused
read_group-returns-clause-refused t c =
    let deep : c.args.room ≡ 0 → ⊥ = search rules in
    let is : IsGroup c.args.room c.args.node.now c.in_ok-group.group =
    record { deep = deep; kind = c.requires; object = c.in_ok-group.ensures.0; known = (c.in_ok-only.field-0, c.in_ok-only.ensures.answer.0) } in
    let list = c.in_ok-list.ensures.0 in
    let nodes = c.in_ok-nodes.ensures.ok in
    let accepts = group_accepts c.args.room c.args.node.now c.in_ok-group.group c.in_ok-list.list c.in_ok-nodes.nodes.items is c.in_ok-check_name.ensures.accepted list nodes in
    let laid_same = group_laid c.args.room c.args.node.now c.in_ok-group.group c.in_ok-list.list c.in_ok-nodes.nodes.items is list nodes in
    refused_weaker _ (λ f. FirstAlong RefusesStep known_after c.args.draft.now.known (all_laid (c.args.room - 1) c.deref.result.now) f) (λ f. Then (RefusesGroup c.args.room c.args.node.now) (FirstAlong RefusesStep known_after c.args.draft.now.known (laid_in c.args.room c.args.node.now)) f)
    (λ f refused. inr (
      accepts,
      subst (λ nodes. FirstAlong RefusesStep known_after c.args.draft.now.known nodes f) (ap (all_laid (c.args.room - 1)) c.deref.ensures.value ∙ sym laid_same) refused,
    ))
    c.read_steps.ensures.refused

pub read_step-returns-in_err-of-clause-refused : goal.read_step-returns-in_err-of-clause-refused
read_step-returns-in_err-of-clause-refused t c =
    handed_on _ _ _ c.from_residual-in_err-of.ensures
    (λ other. form_refused c.args.room c.args.node.now c.args.draft.now c.in_ok-count.ensures.accepted _ (c.in_err-of.ensures.refused other))

pub read_step-returns-in-Sleep-clause-read : goal.read_step-returns-in-Sleep-clause-read
read_step-returns-in-Sleep-clause-read t c =
    let kind : kind_of c.args.node.now ≡ kinds.Sleep = sym c.in_ok-of.ensures.value ∙ c.in-Sleep.is in
    IfOk-weaker _ _ _
    (λ u read. one_read c.args.room c.args.node.now c.args.draft.now c.count.new.self c.read_sleep.new.draft c.in_ok-count.ensures.counted c.in_ok-count.ensures.accepted c.in_ok-of.ensures.accepted
    (subst (λ k. HasReadOne k c.count.new.self c.read_sleep.new.draft c.args.node.now) (sym kind) read))
    c.read_sleep.ensures.read

pub read_step-returns-in-Sleep-clause-refused : goal.read_step-returns-in-Sleep-clause-refused
read_step-returns-in-Sleep-clause-refused t c =
    let kind : kind_of c.args.node.now ≡ kinds.Sleep = sym c.in_ok-of.ensures.value ∙ c.in-Sleep.is in
    let names = ap (λ (d : DraftView). d.known.names) c.in_ok-count.ensures.counted in
    refused_weaker _ (λ f. RefusesKind kinds.Sleep c.count.new.self.known.names 0 c.args.node.now f) (λ f. FirstAlong RefusesStep known_after c.args.draft.now.known (laid c.args.room c.args.node.now) f)
    (λ f refused. step_refused c.args.room c.args.node.now c.args.draft.now c.in_ok-count.ensures.accepted c.in_ok-of.ensures.accepted f
    (subst (λ k. RefusesKind k c.args.draft.now.known.names c.args.room c.args.node.now f) (sym kind)
    (subst (λ ns. RefusesKind kinds.Sleep ns 0 c.args.node.now f) names refused)))
    c.read_sleep.ensures.refused

pub read_step-returns-in-Count-clause-read : goal.read_step-returns-in-Count-clause-read
read_step-returns-in-Count-clause-read t c =
    let kind : kind_of c.args.node.now ≡ kinds.Count = sym c.in_ok-of.ensures.value ∙ c.in-Count.is in
    IfOk-weaker _ _ _
    (λ u read. one_read c.args.room c.args.node.now c.args.draft.now c.count.new.self c.read_count.new.draft c.in_ok-count.ensures.counted c.in_ok-count.ensures.accepted c.in_ok-of.ensures.accepted
    (subst (λ k. HasReadOne k c.count.new.self c.read_count.new.draft c.args.node.now) (sym kind) read))
    c.read_count.ensures.read

pub read_step-returns-in-Count-clause-refused : goal.read_step-returns-in-Count-clause-refused
read_step-returns-in-Count-clause-refused t c =
    let kind : kind_of c.args.node.now ≡ kinds.Count = sym c.in_ok-of.ensures.value ∙ c.in-Count.is in
    let names = ap (λ (d : DraftView). d.known.names) c.in_ok-count.ensures.counted in
    refused_weaker _ (λ f. RefusesKind kinds.Count c.count.new.self.known.names 0 c.args.node.now f) (λ f. FirstAlong RefusesStep known_after c.args.draft.now.known (laid c.args.room c.args.node.now) f)
    (λ f refused. step_refused c.args.room c.args.node.now c.args.draft.now c.in_ok-count.ensures.accepted c.in_ok-of.ensures.accepted f
    (subst (λ k. RefusesKind k c.args.draft.now.known.names c.args.room c.args.node.now f) (sym kind)
    (subst (λ ns. RefusesKind kinds.Count ns 0 c.args.node.now f) names refused)))
    c.read_count.ensures.refused

pub read_step-returns-in-Group-clause-read : goal.read_step-returns-in-Group-clause-read
read_step-returns-in-Group-clause-read t c =
    let kind : kind_of c.args.node.now ≡ kinds.Group = sym c.in_ok-of.ensures.value ∙ c.in-Group.is in
    on_ok_of _ _ _ _
    (λ u accepted read. group_read c.args.room c.args.node.now c.args.draft.now c.count.new.self c.read_group.new.draft c.in_ok-count.ensures.counted c.in_ok-count.ensures.accepted c.in_ok-of.ensures.accepted kind
    accepted read)
    c.read_group.ensures.accepted c.read_group.ensures.read

pub read_step-returns-in-Group-clause-refused : goal.read_step-returns-in-Group-clause-refused
read_step-returns-in-Group-clause-refused t c =
    let kind : kind_of c.args.node.now ≡ kinds.Group = sym c.in_ok-of.ensures.value ∙ c.in-Group.is in
    refused_weaker _ (λ f. Then (RefusesGroup c.args.room c.args.node.now) (FirstAlong RefusesStep known_after c.count.new.self.known (laid_in c.args.room c.args.node.now)) f) (λ f. FirstAlong RefusesStep known_after c.args.draft.now.known (laid c.args.room c.args.node.now) f)
    (λ f refused. group_refused c.args.room c.args.node.now c.args.draft.now c.count.new.self c.in_ok-count.ensures.counted c.in_ok-count.ensures.accepted c.in_ok-of.ensures.accepted kind f refused)
    c.read_group.ensures.refused

pub read_steps-returns-in_err-read_step-clause-refused : goal.read_steps-returns-in_err-read_step-clause-refused
read_steps-returns-in_err-read_step-clause-refused t c =
    handed_on _ _ _ c.from_residual.ensures
    (λ other. refused_at c.args.room c.args.nodes.now c.loop-node.node-index c.node-item.result c.args.draft.now c.loop-node.draft c.loop-node-test.true c.node-item.is c.loop-node.invariant _
    (c.in_err-read_step.ensures.refused other))

pub read_steps-loop-node-preserved : goal.read_steps-loop-node-preserved
read_steps-loop-node-preserved t c =
    read_at c.args.room c.args.nodes.now c.loop-node.node-index c.node-item.result c.args.draft.now c.loop-node.draft c.read_step.new.draft c.loop-node-test.true c.node-item.is c.loop-node.invariant
    c.in_ok-read_step.ensures.read
