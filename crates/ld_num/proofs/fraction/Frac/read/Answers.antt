use Rattle.std.proofs.Common.{◌<◌, length, arith}
use Rattle.std.proofs.lemmas.Bool.Decides.{nat_tests}
use Rattle.ld_num.proofs.ReadingLemmas.{value_read, accepted, refused, some_from_length}
use Rattle.ld_num.proofs.fraction.Frac.read.Goals as goal

pub returns-clause-value : goal.returns-clause-value
returns-clause-value c = value_read c.args.text.now c.read_text.result c.read_text.ensures

pub returns-clause-accepted : goal.returns-clause-accepted
returns-clause-accepted c =
    let test = c.if-is_empty in
    let some : 0 < length c.args.text.now = grind (arith, nat_tests) in
    accepted c.args.text.now c.read_text.result (some_from_length c.args.text.now some) c.read_text.ensures

pub returns-clause-refused : goal.returns-clause-refused
returns-clause-refused c =
    let test = c.if-is_empty in
    let some : 0 < length c.args.text.now = grind (arith, nat_tests) in
    refused c.args.text.now c.read_text.result (some_from_length c.args.text.now some) c.read_text.ensures
