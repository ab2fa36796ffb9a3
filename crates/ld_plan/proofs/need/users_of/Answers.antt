-- At each moment the stays of the parts have the users that the parts need.
use Rattle.std.proofs.Common.{subst}
use Rattle.std.specs.Prelude.{IfOk, List}
use Rattle.ld_machine.specs.Requirement.{IsGreatest}
use Rattle.ld_plan.specs.PartView.{parts_of}
use Rattle.ld_plan.specs.Stay.{limit_at, planned_at}
use Rattle.ld_plan.specs.declared.stay.Stay.{Stay}
use Rattle.ld_plan.proofs.StayLemmas.{requirement_of_stays}
use Rattle.ld_plan.proofs.need.users_of.Goals as goal

pub returns-clause-users : goal.returns-clause-users
returns-clause-users c =
    let most = c.most_of.result in
    let value = c.deref.ensures.value in
    requirement_of_stays (parts_of c.args.parts.now) c.in_ok-stays.stays.items most c.in_ok-stays.ensures.stays
    (subst (λ (stays : List Stay). IfOk most (λ users. IsGreatest (planned_at stays) users.planned)) value c.most_of.ensures.planned)
    (subst (λ (stays : List Stay). IfOk most (λ users. IsGreatest (limit_at stays) users.limit)) value c.most_of.ensures.limit)
