use Rattle.std.proofs.Common.{◌≡◌, ◌<◌, length, arith}
use Rattle.std.proofs.lemmas.Bool.Decides.{nat_tests}
use Rattle.ld_num.specs.Duration.{IsTerm}
use Rattle.ld_num.specs.Tally.{first_term}
use Rattle.ld_num.proofs.DurationLemmas.{adds_first, first_is_term, is_number_of, none_of_empty, not_number, not_terms, reached_more, term_of}
use Rattle.ld_num.proofs.duration.tally_of_terms.Goals as goal
use Rattle.ld_num.proofs.duration.tally_of_terms.Goals.{then-not-is_number-via-then-not-is_number, then-not-is_number-via-else-not-is_number+then-is_empty-2}

pub returns-then-is_empty : goal.returns-then-is_empty
returns-then-is_empty c =
    let empty : length c.args.text.now ≡ 0 = grind (arith, nat_tests) in
    none_of_empty c.args.text.now empty

pub returns-then-not-is_number : goal.returns-then-not-is_number
returns-then-not-is_number c =
    let some : 0 < length c.loop-rest.rest.now = grind (arith, nat_tests) in
    not_terms c.args.text.now c.loop-rest.rest.now c.loop-rest.tally some
    (λ (is : IsTerm (first_term c.loop-rest.rest.now)). elim c.then-not-is_number.branch [
      | then-not-is_number-via-then-not-is_number w ↦
          not_number c.is_number.result c.first_term.result.0.now (first_term c.loop-rest.rest.now).number w.if-not-is_number.true c.is_number.ensures c.first_term.ensures.number is.number
      | then-not-is_number-via-else-not-is_number+then-is_empty-2 w ↦
          let some_unit = is.some in
          absurd (grind (arith, nat_tests))
    ]) c.loop-rest.invariant

pub loop-rest-preserved : goal.loop-rest-preserved
unfolding term_of
loop-rest-preserved c =
    let some : 0 < length c.loop-rest.rest.now = grind (arith, nat_tests) in
    let some_unit : 0 < length c.first_term.result.1.now = grind (arith, nat_tests) in
    rw c.first_term.ensures.behind
    (reached_more c.args.text.now c.loop-rest.rest.now c.loop-rest.tally c.with-tally.result some
    (first_is_term c.loop-rest.rest.now
    (is_number_of c.is_number.result c.first_term.result.0.now (first_term c.loop-rest.rest.now).number c.if-not-is_number.false c.is_number.ensures c.first_term.ensures.number)
    (rw c.first_term.ensures.unit at some_unit))
    (adds_first c.first_term.result.0.now c.first_term.result.1.now (first_term c.loop-rest.rest.now) c.loop-rest.tally c.with-tally.result
    c.first_term.ensures.number c.first_term.ensures.unit c.with-tally.ensures)
    c.loop-rest.invariant)
