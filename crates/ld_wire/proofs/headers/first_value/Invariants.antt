use Rattle.std.proofs.Common.{◌≡◌, map, drop}
use Rattle.httparse.specs.Spans.{header_bytes}
use Rattle.ld_wire.specs.Head.{first_value}
use Rattle.ld_wire.proofs.headers.first_value.Given as goal

-- the first is still to come
abbrev pub invariant-loop-span : goal.invariant-loop-span
invariant-loop-span l =
    first_value l.name (map (header_bytes l.bytes) (drop l.span-index l.spans))
    ≡ first_value l.name (map (header_bytes l.bytes) l.spans)
