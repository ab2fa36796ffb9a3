use Rattle.std.specs.Prelude.{◌+◌}
use Rattle.std.proofs.Common.{arith}
use Rattle.ld_rehearsal.proofs.ReturnLemmas.{fewer_left, next_returned, nobody_due}
use Rattle.ld_rehearsal.proofs.stage.Stage.return_all.Goals as goal

pub return_due-requires-clause-returning : goal.return_due-requires-clause-returning
return_due-requires-clause-returning c =
    next_returned c.loop-user.self c.loop-user.last c.in-Some.user c.in-Some.ensures.behind c.in-Some.ensures.first c.loop-user.invariant.1

pub loop-user-smaller : goal.loop-user-smaller
loop-user-smaller c =
    let found = c.in-Some.ensures in
    let may = next_returned c.loop-user.self c.loop-user.last c.in-Some.user found.behind found.first c.loop-user.invariant.1 in
    fewer_left c.loop-user.self c.return_due.new.self c.loop-user.last c.in-Some.user c.in-Some.due may
    (record { is = found.plays; now = found.ends }) c.return_due.ensures.same found.behind

pub returns-clause-acting : goal.returns-clause-acting
returns-clause-acting c =
    nobody_due c.loop-user.self (c.loop-user.last + 1) (λ user above. c.in_default.ensures.none user (omega arith)) c.loop-user.invariant.1
