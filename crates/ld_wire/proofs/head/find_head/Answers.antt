use Rattle.std.proofs.Common.{ap, length, Err}
use Rattle.httparse.specs.declared.Error.{Error}
use Rattle.ld_wire.proofs.FoundLemmas.{bad_head, long_head, partial_of}
use Rattle.ld_wire.proofs.head.find_head.Goals as goal

pub returns-in-Ok-Partial-2-clause-refused : goal.returns-in-Ok-Partial-2-clause-refused
returns-in-Ok-Partial-2-clause-refused c =
    let found = c.in-Ok-Partial.ensures in
    let none = partial_of Error c.in-Ok-Partial.field-0 c.in-Ok-Partial.field-0-is found.partial in
    let more = partial_of Error c.in-Ok-Partial.field-0 c.in-Ok-Partial.field-0-is found.unfinished in
    long_head c.args.bytes.now c.requires.short c.if-bytes-lt-HEAD_LIMIT.false none more

pub returns-in-Err-clause-refused : goal.returns-in-Err-clause-refused
returns-in-Err-clause-refused c =
    let found = c.in-Err.ensures in
    bad_head c.args.bytes.now (length c.args.room.now) c.in-Err.field-0 c.requires.many c.requires.short found.invalid
    (λ is. found.too_many (ap Err is))
