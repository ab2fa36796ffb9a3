-- What is owned is the part's executor, whose users fit and whose items are distinct.
use Rattle.std.proofs.Common.{◌≡◌, IsTrue, subst, sym}
use Rattle.std.proofs.lemmas.Result.{IfOk-weaker}
use Rattle.ld_machine.specs.Plan.{Executor, owned_items}
use Rattle.ld_machine.specs.Settled.{is_distinct}
use Rattle.ld_machine.specs.Told.{users_fit}
use Rattle.ld_plan.specs.OwnedPart.{executor_of}
use Rattle.ld_plan.specs.declared.owned_part.OwnedPart.{OwnedPart}
use Rattle.ld_plan.proofs.MadeLemmas.{part_distinct, part_fits}
use Rattle.ld_plan.proofs.plan.Plan.owned_part.Goals as goal

pub returns-clause-users : goal.returns-clause-users
returns-clause-users c =
    let part = c.part.result.now.part in
    let fits = part_fits c.args.self.now c.part.ensures.made c.args.scenario part c.part.ensures.part in
    IfOk-weaker c.owned_part.result (λ (owned : OwnedPart). executor_of owned ≡ part.executor)
    (λ (owned : OwnedPart). IsTrue (users_fit (executor_of owned)))
    (λ owned is. subst (λ (e : Executor). IsTrue (users_fit e)) (sym is) fits) c.owned_part.ensures.owned

pub returns-clause-distinct : goal.returns-clause-distinct
returns-clause-distinct c =
    let part = c.part.result.now.part in
    let distinct = part_distinct c.args.self.now c.part.ensures.made c.args.scenario part c.part.ensures.part in
    IfOk-weaker c.owned_part.result (λ (owned : OwnedPart). executor_of owned ≡ part.executor)
    (λ (owned : OwnedPart). IsTrue (is_distinct (owned_items (executor_of owned))))
    (λ owned is. subst (λ (e : Executor). IsTrue (is_distinct (owned_items e))) (sym is) distinct) c.owned_part.ensures.owned
