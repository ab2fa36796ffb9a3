use Rattle.std.proofs.Common.{◌<◌, length, arith}
use Rattle.std.proofs.lemmas.Bool.Decides.{nat_tests}
use Rattle.ld_num.proofs.DurationLemmas.{accepted_duration}
use Rattle.ld_num.proofs.duration.read_duration.Goals as goal

pub returns-clause-accepted : goal.returns-clause-accepted
returns-clause-accepted c =
    let some : 0 < length c.args.text.now = grind (arith, nat_tests) in
    let is = c.in-Some.ensures in
    accepted_duration c.args.text.now is.0 c.answer.result some is.1 (c.answer.ensures is.0 is.2)
