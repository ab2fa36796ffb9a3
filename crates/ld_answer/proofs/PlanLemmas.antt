-- The plan of a part of a test, and what is refused of it.
use Rattle.std.proofs.Common.{◌≡◌, ℕ, List, refl, subst}
use mathlib.Core.HLevel.{is_prop→PathP}
use Rattle.std.proofs.Props.{props}
use Rattle.std.specs.Prelude.{Option}
use Rattle.ld_num.specs.declared.fraction.Frac.{Frac}
use Rattle.ld_options.specs.Document.{IsRefusal}
use Rattle.ld_options.specs.declared.fault.OptionsFault.TheVariants as options
use Rattle.ld_options.proofs.OneLemmas.{one_options}
use Rattle.ld_plan.specs.IsPlanOf.{IsPlanOf, IsSound}
use Rattle.ld_plan.specs.PlanFault as plans
use Rattle.ld_plan.specs.PlanView.{PlanView}
use Rattle.ld_plan.specs.declared.fault.PlanFault.{PlanFault}
use Rattle.ld_plan.proofs.PlanLemmas.{one_plan}
use Rattle.ld_plan.proofs.RefusalLemmas as laws
use Rattle.ld_segment.specs.Points.{IsAtMostOne, IsBelow}
use Rattle.ld_segment.specs.declared.segment.Segment.{Segment}
use Rattle.ld_answer.specs.Cut.{IsCut}
use Rattle.ld_answer.specs.Planned.{HasNoPlan, IsCutPlan}
use Rattle.ld_answer.proofs.CutLemmas.{cut_once}

same_segment : (s t : Segment) → s.from ≡ t.from → s.to ≡ t.to → s ≡ t
same_segment s t from to = λ i. record {
  from = from i;
  to = to i;
  rises = is_prop→PathP (λ j. IsBelow (from j) (to j)) (λ j. hlevel props) s.rises t.rises i;
  within = is_prop→PathP (λ j. IsAtMostOne (to j)) (λ j. hlevel props) s.within t.within i;
}

-- a part that has a plan has one
pub plan_not_refused : (segment sequence : Option (List ℕ)) (test : List ℕ) (limit : ℕ) (seen : PlanView) (f : PlanFault) →
    IsCutPlan segment sequence test limit seen →
    (part : Segment) (points : List Frac) → IsCut segment sequence part.from part.to points → HasNoPlan test limit part points f → ⊥
plan_not_refused words_segment words_sequence test limit seen f has part points is_cut refused =
    let options = one_options test has.plan.options refused.options has.plan.options_are refused.options_are in
    let cut = cut_once words_segment words_sequence _ _ _ _ has.points points has.cut is_cut in
    let segment = same_segment has.part part cut.from_same cut.to_same in
    let accepted =
    subst (λ o. plans.IsAccepted o part points limit) options
    (subst (λ s. plans.IsAccepted has.plan.options s points limit) segment
    (subst (λ ps. plans.IsAccepted has.plan.options has.part ps limit) cut.points_same has.plan.accepted)) in
    let sound : IsSound refused.options points = record {
      is_sequence = is_cut.sequence_is;
      filled = is_cut.whole;
      in_range = refused.options_are.in_range;
    } in
    laws.accepted_not_refused refused.options part points limit sound f accepted refused.refused

-- want of memory is no refusal of a test
pub memory_not_refused : (test : List ℕ) → IsRefusal test options.Memory → ⊥
memory_not_refused test refused = refused.not_memory refl

-- a part has one plan
pub one_plan_cut : (segment sequence : Option (List ℕ)) (test : List ℕ) (limit : ℕ) (a b : PlanView) →
    IsCutPlan segment sequence test limit a → IsCutPlan segment sequence test limit b → a ≡ b
one_plan_cut words_segment words_sequence test limit a b has other =
    let options = one_options test has.plan.options other.plan.options has.plan.options_are other.plan.options_are in
    let cut = cut_once words_segment words_sequence _ _ _ _ has.points other.points has.cut other.cut in
    let segment = same_segment has.part other.part cut.from_same cut.to_same in
    let is =
    subst (λ o. IsPlanOf o other.part other.points limit a) options
    (subst (λ s. IsPlanOf has.plan.options s other.points limit a) segment
    (subst (λ ps. IsPlanOf has.plan.options has.part ps limit a) cut.points_same has.plan.is_plan)) in
    let sound : IsSound other.plan.options other.points = record {
      is_sequence = other.cut.sequence_is;
      filled = other.cut.whole;
      in_range = other.plan.options_are.in_range;
    } in
    one_plan other.plan.options other.part other.points limit sound a b is other.plan.is_plan
