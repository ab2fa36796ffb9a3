use Rattle.std.specs.Prelude.{◌≡◌, ◌<◌, ◌-◌, ℕ, Some}
use Rattle.std.proofs.Common.{arith, get_or, rules}
use Rattle.ld_rehearsal.specs.Dues.{EndsLater}
use Rattle.ld_rehearsal.proofs.DueLemmas.{ends_later, plays_at, told_none}
use Rattle.ld_rehearsal.proofs.due.Dues.first_due.Goals as goal

pub returns-in_err-index-clause-none : goal.returns-in_err-index-clause-none
returns-in_err-index-clause-none c =
    let later : (user : ℕ) → c.args.last < user → EndsLater c.self.inside.users.items c.args.moment user =
    λ user above. ends_later _ _ c.self.invariant c.args.moment user (omega arith) (c.in_err-index.ensures.none (user - 1) (omega arith)) in
    rw (← c.self.view_is) (told_none _ _ later)

pub returns-clause-plays : goal.returns-clause-plays
returns-clause-plays c =
    let found = c.index.result.now in
    let at : get_or c.self.inside.users.items c.in_ok-index.index found ≡ found = search (rules, c.index.ensures) in
    let is : found ≡ Some c.in_ok-due.due = search (rules, c.branch-due.ensures, c.in_ok-due.is) in
    rw (← c.self.view_is) (plays_at _ _ c.self.invariant _ _ _ c.in_ok-index.ensures.within.1 at is)

pub returns-clause-first : goal.returns-clause-first
returns-clause-first c user above below =
    rw (← c.self.view_is)
    (ends_later _ _ c.self.invariant c.args.moment user (omega arith) (c.in_ok-index.ensures.first (user - 1) (omega arith) (omega arith)))
