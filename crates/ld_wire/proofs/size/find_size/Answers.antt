use Rattle.std.proofs.Common.{refl}
use Rattle.httparse.specs.declared.InvalidChunkSize.{InvalidChunkSize}
use Rattle.ld_wire.proofs.FoundLemmas.{bad_size, long_size, partial_of}
use Rattle.ld_wire.proofs.size.find_size.Goals as goal

pub returns-in-Ok-Partial-2-clause-refused : goal.returns-in-Ok-Partial-2-clause-refused
returns-in-Ok-Partial-2-clause-refused c =
    let none = partial_of InvalidChunkSize c.in-Ok-Partial.field-0 c.in-Ok-Partial.field-0-is c.in-Ok-Partial.ensures.partial in
    (refl, long_size c.args.bytes.now c.requires c.if-bytes-lt-SIZE_LINE_LIMIT.false none)

pub returns-in-Err-clause-refused : goal.returns-in-Err-clause-refused
returns-in-Err-clause-refused c = (refl, bad_size c.args.bytes.now c.requires c.in-Err.ensures.invalid)
