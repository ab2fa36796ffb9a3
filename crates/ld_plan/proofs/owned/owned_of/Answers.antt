use Rattle.std.proofs.Common.{◌∙◌, arith, ap, refl, subst, sym}
use Rattle.std.specs.Prelude.{All, List, length}
use Rattle.ld_machine.specs.Requirement.{IsRequirement}
use Rattle.ld_options.proofs.ScenarioLemmas.{zip_length}
use Rattle.ld_options.proofs.SizeLemmas.{few_scenarios}
use Rattle.ld_plan.specs.IsPlanOf.{AreParts}
use Rattle.ld_plan.specs.PartView.{PartView, parts_of}
use Rattle.ld_plan.specs.PlanFault.{needed_entries}
use Rattle.ld_plan.specs.Stay.{HasFewUsers}
use Rattle.ld_plan.proofs.StayLemmas.{few_parts}
use Rattle.ld_plan.proofs.owned.owned_of.Goals as goal

pub needed_entries-needed-requires : goal.needed_entries-needed-requires
needed_entries-needed-requires c =
    let long = ap length c.deref.ensures.value ∙ zip_length _ _ _ c.in_ok-parts.ensures.owned in
    let few = few_scenarios c.args.options.now in
    omega arith

pub users_of-requires-clause-few : goal.users_of-requires-clause-few
users_of-requires-clause-few c =
    let long = ap length c.deref-2.ensures.value ∙ zip_length _ _ _ c.in_ok-parts.ensures.owned in
    let few = few_scenarios c.args.options.now in
    omega arith

pub users_of-requires-clause-users : goal.users_of-requires-clause-users
users_of-requires-clause-users c =
    let options = c.args.options.now in
    let parts = c.in_ok-parts in
    subst (λ (views : List PartView). All (λ (view : PartView). HasFewUsers view.part) views) (sym c.deref-2.ensures.value)
    (few_parts options c.in_ok-positions.positions c.in-Some.position options.scenarios parts.parts.items parts.ensures.in_range parts.ensures.owned)

pub returns-clause-owned : goal.returns-clause-owned
returns-clause-owned c =
    let options = c.args.options.now in
    let striping = c.in_ok-positions.positions in
    let j = c.in-Some.position in
    let views = c.in_ok-parts.parts.items in
    let ranges = c.in_ok-parts.ensures.in_range in
    let owned = c.in_ok-parts.ensures.owned in
    let users = c.in_ok-users.users in
    let requirement = subst (λ (vs : List PartView). IsRequirement (parts_of vs) users.planned users.limit) c.deref-2.ensures.value c.in_ok-users.ensures.users in
    let needed = c.needed_entries-needed.ensures ∙ ap (λ (vs : List PartView). needed_entries (parts_of vs)) c.deref.ensures.value in
    let room = c.if-needed-entries.false in
    let are_parts : AreParts options c.args.segment.now c.args.sequence.now j views = record {
      stands = c.in-Some.ensures;
      striping = striping;
      striped = c.in_ok-positions.ensures.striping;
      owned = owned;
    } in
    record {
      in_range = ranges;
      accepted = record {
        short = c.in_ok-positions.ensures.short;
        few = c.in_ok-parts.ensures.few;
        users = c.in_ok-few_users.ensures.few;
        needed = c.needed_entries-needed.result;
        is_needed = record { position = j; views = views; are_parts = are_parts; number = needed };
        room = omega arith;
      };
      is_plan = record {
        views = views;
        are_parts = are_parts;
        parts = refl;
        wholes = refl;
        users = requirement;
        entry_limit = refl;
        names = refl;
        options_are = refl;
        sequence_is = refl;
      };
    }
