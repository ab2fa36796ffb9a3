-- The parts of the whole test are few, and have few users.
use Rattle.std.proofs.Common.{◌∙◌, arith, ap, subst, sym}
use Rattle.std.specs.Prelude.{All, List, length}
use Rattle.ld_options.proofs.ScenarioLemmas.{zip_length}
use Rattle.ld_options.proofs.SizeLemmas.{few_scenarios}
use Rattle.ld_plan.specs.PartView.{PartView}
use Rattle.ld_plan.specs.Stay.{HasFewUsers}
use Rattle.ld_plan.proofs.StayLemmas.{few_parts}
use Rattle.ld_plan.proofs.owned.few_users.Goals as goal

pub users_of-requires-clause-few : goal.users_of-requires-clause-few
users_of-requires-clause-few c =
    let long = ap length c.deref.ensures.value ∙ zip_length _ _ _ c.in_ok-parts.ensures.owned in
    let few = few_scenarios c.args.options.now in
    omega arith

pub users_of-requires-clause-users : goal.users_of-requires-clause-users
users_of-requires-clause-users c =
    let options = c.args.options.now in
    let parts = c.in_ok-parts in
    subst (λ (views : List PartView). All (λ (view : PartView). HasFewUsers view.part) views) (sym c.deref.ensures.value)
    (few_parts options c.in_ok-whole.whole 0 options.scenarios parts.parts.items parts.ensures.in_range parts.ensures.owned)
