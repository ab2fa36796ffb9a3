-- Stages that are read one behind the other.
use Rattle.std.proofs.Common.{◌≡◌, ◌<◌, ◌≤◌, ◌+◌, ◌∙◌, ℕ, List, [], ◌∷◌, ◌++◌, All, length, take, get_or, ap, ap₂, arith, refl, sym, subst}
use Rattle.std.specs.List.{AllByRecursion, AllZip}
use Rattle.std.proofs.lemmas.List.{take_all, take_more}
use Rattle.std.proofs.lemmas.List.Elements.{All-push}
use Rattle.std.specs.Prelude.{Ok, codes, sum_by}
use Rattle.ld_script.proofs.OneScriptsLemmas.{one_time}
use Rattle.ld_base.specs.declared.stage.Stage.{Stage}
use Rattle.ld_json.specs.Node.{NodeView, listed, needed}
use Rattle.ld_json.specs.Rules.{Accepts, FirstOf, Then}
use Rattle.ld_json.proofs.RulesLemmas.{accepts_snoc, then_accepts}
use Rattle.ld_options.specs.Ranges.{longest}
use Rattle.ld_options.specs.Stages.{AreStagesOf, AreTooLong, IsStageOf, RefusesElements, RefusesStage, few_stages, stages_in, stages_path}
use Rattle.ld_options.specs.Faults.{and_then, of_node}
use Rattle.ld_options.proofs.RefusalLemmas.{ok_same}
use Rattle.ld_options.proofs.ScenarioLemmas.{zip_push}
use Rattle.ld_options.specs.declared.fault.OptionsFault.{OptionsFault}

-- what is known of the elements that were read so far
pub record StagesSoFar (greatest : ℕ) (done : List NodeView) (list : List Stage) : Type 0 where
  pub value : AllZip (IsStageOf greatest) done list
  pub within : All (λ (stage : Stage). stage.target ≤ greatest) list
  pub accepted : AllByRecursion (λ node. Accepts (RefusesStage greatest node)) done

-- one more element is read, which stands at this place
pub stage_at : (greatest : ℕ) (nodes : List NodeView) (i : ℕ) (node : NodeView) (list : List Stage) (s : Stage) →
    i < length nodes → node ≡ get_or nodes i node → StagesSoFar greatest (take i nodes) list →
    IsStageOf greatest node s → s.target ≤ greatest → Accepts (RefusesStage greatest node) →
    StagesSoFar greatest (take (i + 1) nodes) (list ++ s ∷ [])
stage_at greatest nodes i node list s inside is so_far value within accepted =
    subst (λ ns. StagesSoFar greatest ns (list ++ s ∷ []))
    (sym (take_more nodes i node inside ∙ ap (λ n. take i nodes ++ n ∷ []) (sym is)))
    (record {
      value = zip_push (IsStageOf greatest) (take i nodes) list node s so_far.value value;
      within = All-push (λ (t : Stage). t.target ≤ greatest) list s so_far.within within;
      accepted = accepts_snoc (RefusesStage greatest) (take i nodes) node so_far.accepted accepted;
    })

-- all elements are read
pub all_stages : (greatest : ℕ) (nodes : List NodeView) (i : ℕ) (list : List Stage) → length nodes ≤ i →
    StagesSoFar greatest (take i nodes) list → StagesSoFar greatest nodes list
all_stages greatest nodes i list past so_far = subst (λ ns. StagesSoFar greatest ns list) (take_all i nodes past) so_far

-- an element says one stage, and elements say one list of them
one_stage : (greatest : ℕ) (node : NodeView) (s t : Stage) → IsStageOf greatest node s → IsStageOf greatest node t → s ≡ t
one_stage greatest node s t left right =
    let lasts : s.length ≡ t.length = one_time _ _ node _ s.length t.length left.length_is right.length_is in
    let goes : s.target ≡ t.target = ok_same s.target t.target (sym left.target_is ∙ right.target_is) in
    λ i. record { target = goes i; length = lasts i }

pub one_list_of_stages : (greatest : ℕ) (nodes : List NodeView) (list other : List Stage) → AllZip (IsStageOf greatest) nodes list →
    AllZip (IsStageOf greatest) nodes other → list ≡ other
one_list_of_stages greatest [] [] [] left right = refl
one_list_of_stages greatest [] [] (y ∷ ys) left right = absurd right
one_list_of_stages greatest [] (x ∷ xs) other left right = absurd left
one_list_of_stages greatest (n ∷ ns) [] other left right = absurd left
one_list_of_stages greatest (n ∷ ns) (x ∷ xs) [] left right = absurd right
one_list_of_stages greatest (n ∷ ns) (x ∷ xs) (y ∷ ys) left right =
    ap₂ (λ z zs. z ∷ zs) (one_stage greatest n x y left.0 right.0) (one_list_of_stages greatest ns xs ys left.1 right.1)

-- a scenario has one list of stages
pub one_ramp : (greatest : ℕ) (node : NodeView) (list other : List Stage) → AreStagesOf greatest node list → AreStagesOf greatest node other → list ≡ other
one_ramp greatest node list other left right =
    let same : left.nodes ≡ right.nodes = ok_same left.nodes right.nodes (sym left.nodes_are ∙ right.nodes_are) in
    one_list_of_stages greatest right.nodes list other (subst (λ ns. AllZip (IsStageOf greatest) ns list) same left.stages_are) right.stages_are

-- the elements that are lent are those of the scenario's list
pub stages_read : (node list : NodeView) (nodes : List NodeView) → needed node (codes "stages") ≡ Ok list → listed list ≡ Ok nodes →
    few_stages (stages_path node) nodes ≡ Ok nodes → stages_in node ≡ Ok nodes
stages_read node list nodes needs lists few =
    ap (λ r. and_then (few_stages (stages_path node)) (and_then (λ l. of_node (listed l)) (of_node r))) needs
    ∙ ap (λ r. and_then (few_stages (stages_path node)) (of_node r)) lists
    ∙ few

-- elements that are read, and are together short enough, aren't refused
length_accepts : (greatest : ℕ) (path : List ℕ) (nodes : List NodeView) (stages : List Stage) → AllZip (IsStageOf greatest) nodes stages →
    sum_by (λ (stage : Stage). stage.length) stages ≤ longest → Accepts (AreTooLong greatest path nodes)
length_accepts greatest path nodes stages are short fault r =
    let same : r.stages ≡ stages = one_list_of_stages greatest nodes r.stages stages r.stages_are are in
    let sums : sum_by (λ (stage : Stage). stage.length) r.stages ≡ sum_by (λ (stage : Stage). stage.length) stages =
    ap (sum_by (λ (stage : Stage). stage.length)) same in
    let long : longest < sum_by (λ (stage : Stage). stage.length) r.stages = r.too_long in
    absurd (omega arith)

pub elements_accept : (greatest : ℕ) (node : NodeView) (nodes : List NodeView) (stages : List Stage) → stages_in node ≡ Ok nodes →
    AllZip (IsStageOf greatest) nodes stages → Accepts (FirstOf (RefusesStage greatest) nodes) →
    sum_by (λ (stage : Stage). stage.length) stages ≤ longest → Accepts (RefusesElements greatest node)
elements_accept greatest node nodes stages is are accepts short fault r =
    let same : r.nodes ≡ nodes = ok_same r.nodes nodes (sym r.nodes_are ∙ is) in
    then_accepts (FirstOf (RefusesStage greatest) nodes) (AreTooLong greatest (stages_path node) nodes) accepts
    (length_accepts greatest (stages_path node) nodes stages are short) fault
    (subst (λ ns. Then (FirstOf (RefusesStage greatest) ns) (AreTooLong greatest (stages_path node) ns) fault) same r.refused)
