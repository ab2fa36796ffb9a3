use Rattle.std.proofs.Common.{rules, arith}
use Rattle.ld_wire.proofs.StandingLemmas.{data_ends}
use Rattle.ld_wire.proofs.data.take_data.Goals as goal

pub returns-then-rest-eq0-clause-ok : goal.returns-then-rest-eq0-clause-ok
returns-then-rest-eq0-clause-ok c held text is =
    let some = c.requires in
    let least = c.min-used.ensures in
    let none = c.if-rest-eq0.true in
    data_ends c.args.left c.min-used.result held c.args.body.now.items c.extend_from_slice.new.self.items text c.args.piece.now
    (omega arith) (omega arith) c.requires (search rules) is
