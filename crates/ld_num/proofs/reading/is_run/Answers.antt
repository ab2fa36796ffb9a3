use Rattle.std.proofs.Common.{◌<◌, length, arith}
use Rattle.std.proofs.lemmas.Bool.Decides.{nat_tests}
use Rattle.ld_num.proofs.DigitLemmas.{numeral_test}
use Rattle.ld_num.proofs.reading.is_run.Goals as goal

pub returns-then-not-is_empty : goal.returns-then-not-is_empty
returns-then-not-is_empty c =
    let test = c.if-not-is_empty in
    let some : 0 < length c.args.text.now = grind (arith, nat_tests) in
    numeral_test c.args.text.now c.all_digits.result some c.all_digits.ensures
