-- A segment of a test has one plan, and of a test with one scenario it has one part.
use Rattle.std.proofs.Common.{◌≡◌, ◌∙◌, ℕ, List, ap, sym, subst}
use Rattle.ld_num.specs.declared.fraction.Frac.{Frac}
use Rattle.ld_segment.specs.declared.segment.Segment.{Segment}
use Rattle.ld_machine.specs.Plan.{Part, Plan}
use Rattle.ld_options.specs.declared.options.Options.{Options}
use Rattle.ld_plan.specs.IsPlanOf.{IsPlanOf, IsSound}
use Rattle.ld_plan.specs.PartView.{parts_of, wholes_of}
use Rattle.ld_plan.specs.PlanView.{PlanView}
use Rattle.ld_machine.specs.Requirement.{IsRequirement}
use Rattle.ld_plan.proofs.PartLemmas.{one_parts, one_place}
use Rattle.ld_machine.proofs.ValidPlanLemmas.{one_greatest}

-- plans of one machine's plan are one
same_plan : (a b : Plan) → a.parts ≡ b.parts → a.planned ≡ b.planned → a.limit ≡ b.limit → a.entry_limit ≡ b.entry_limit → a.names ≡ b.names → a ≡ b
same_plan a b parts planned limit entries names = λ i. record {
  parts = parts i;
  planned = planned i;
  limit = limit i;
  entry_limit = entries i;
  names = names i;
}

same_view : (a b : PlanView) → a.plan ≡ b.plan → a.position ≡ b.position → a.wholes ≡ b.wholes → a.options ≡ b.options → a.sequence ≡ b.sequence → a ≡ b
same_view a b plan position wholes options sequence = λ i. record {
  plan = plan i;
  position = position i;
  wholes = wholes i;
  options = options i;
  sequence = sequence i;
}

pub one_plan : (options : Options) (segment : Segment) (sequence : List Frac) (entries : ℕ) → IsSound options sequence → (a b : PlanView) →
    IsPlanOf options segment sequence entries a → IsPlanOf options segment sequence entries b → a ≡ b
one_plan options segment sequence entries sound a b of_a of_b =
    let position = one_place options segment sequence a.position b.position of_a.views of_b.views sound of_a.are_parts of_b.are_parts in
    let views = one_parts options segment sequence a.position b.position of_a.views of_b.views sound of_a.are_parts of_b.are_parts in
    let parts : a.plan.parts ≡ b.plan.parts = of_a.parts ∙ ap parts_of views ∙ sym of_b.parts in
    let needs = subst (λ (ps : List Part). IsRequirement ps a.plan.planned a.plan.limit) parts of_a.users in
    let planned = one_greatest _ _ _ needs.planned_is of_b.users.planned_is in
    let limit = one_greatest _ _ _ needs.limit_is of_b.users.limit_is in
    same_view a b
    (same_plan a.plan b.plan parts planned limit (of_a.entry_limit ∙ sym of_b.entry_limit) (of_a.names ∙ sym of_b.names))
    position (of_a.wholes ∙ ap wholes_of views ∙ sym of_b.wholes) (of_a.options_are ∙ sym of_b.options_are) (of_a.sequence_is ∙ sym of_b.sequence_is)
