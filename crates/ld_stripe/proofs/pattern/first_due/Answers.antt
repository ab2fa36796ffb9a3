use Rattle.std.proofs.Common.{arith, subst}
use Rattle.ld_stripe.proofs.FirstDueLemmas.{Leads, leads_all, leads_takes, leads_keeps}
use Rattle.ld_stripe.proofs.DueLemmas.{some_due, due_from_counts, counts_from_due}
use Rattle.ld_stripe.proofs.pattern.first_due.Goals as goal
use Rattle.ld_stripe.proofs.pattern.first_due.Goals.{then-most-weight+then-given-position, else-most-weight, else-most-weight-via-then-most-weight+else-given-position, else-most-weight-via-else-most-weight}

pub loop-position-preserved : goal.loop-position-preserved
loop-position-preserved c =
    let led = c.loop-position.invariant in
    let here = c.loop-position-test.true in
    elim c.if-most-weight.branch [
      | then-most-weight+then-given-position w ↦
          let heavier = w.if-most-weight.true in
          let due = due_from_counts _ _ _ _ _ c.requires.given c.requires.period here (omega arith) w.if-given-position.true in
          rw (w.owner-is, w.most-is) (leads_takes _ _ _ _ _ led heavier due)
      | else-most-weight w ↦
          rw (w.owner-is, w.most-is) (leads_keeps _ _ _ _ _ led (λ heavier due.
          let behind = counts_from_due _ _ _ _ _ c.requires.given c.requires.period here due in
          elim w.else-most-weight.branch [
            | else-most-weight-via-then-most-weight+else-given-position v ↦ omega arith
            | else-most-weight-via-else-most-weight v ↦ omega arith
          ]))
    ]

pub returns : goal.returns
returns c =
    let found = some_due _ _ c.requires.follows (omega arith) in
    let passed = c.loop-position-test.false in
    leads_all _ _ _ _ found.0 (subst (λ n. Leads c.args.weights.now c.args.owners.now n c.loop-position.most c.loop-position.owner) (omega arith) c.loop-position.invariant) found.1
