use Rattle.std.proofs.Common.{◌∙◌, [], ap, ap₂, arith, replicate, ℕ}
use Rattle.ld_base.specs.History.{HistoryView}
use Rattle.ld_pool.specs.declared.user.User.TheVariants as users
use Rattle.ld_core.proofs.OpeningLemmas.{opened}
use Rattle.ld_core.proofs.opening.opening.Goals as goal

pub returns-clause-opens : goal.returns-clause-opens
returns-clause-opens c =
    let plan = c.args.plan.now in
    let planned = c.users-users.ensures.planned in
    let limit = c.users-users.ensures.limit in
    let history = c.in_ok-history.ensures ∙ ap (λ (n : ℕ). record { entries = []; room = n }) c.entries.ensures.entries in
    record {
      empty = ap (λ (h : HistoryView). h.entries) history;
      core =
          opened plan c.in_ok-pool.pool c.in_ok-scenarios.scenarios c.in_ok-history.history c.requires.made
          (omega (arith, c.users-users.ensures.within, planned, limit)) (omega (arith, c.users-users.ensures.most, limit)) (omega (arith, c.entries.ensures.most, c.entries.ensures.entries))
          c.in_ok-scenarios.ensures.show
          (c.in_ok-pool.ensures ∙ ap₂ (λ (n m : ℕ). record { users = replicate n users.Free; limit = m }) planned limit)
          history;
    }
