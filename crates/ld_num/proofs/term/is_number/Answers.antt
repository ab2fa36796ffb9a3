use Rattle.std.proofs.Common.{◌<◌, ◌+◌, length, arith}
use Rattle.std.proofs.lemmas.Bool.Decides.{nat_tests}
use Rattle.ld_num.proofs.DurationLemmas.{number_test}
use Rattle.ld_num.proofs.term.is_number.Goals as goal
use Rattle.ld_num.proofs.term.is_number.Goals.{else-is_empty-via-then-is_empty+else-is_empty-2, else-is_empty-via-else-is_empty}

pub returns : goal.returns
returns c =
    let some : 0 < length c.around_point.result.0.now + length c.around_point.result.1.now =
    elim c.else-is_empty.branch [
      | else-is_empty-via-then-is_empty+else-is_empty-2 w ↦ grind (arith, nat_tests)
      | else-is_empty-via-else-is_empty w ↦ grind (arith, nat_tests)
    ] in
    number_test c.args.text.now c.around_point.result.0.now c.around_point.result.1.now c.are_digits.result
    c.around_point.ensures.whole c.around_point.ensures.part some c.are_digits.ensures
