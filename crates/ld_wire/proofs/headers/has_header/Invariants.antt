use Rattle.std.proofs.Common.{◌≡◌, map, drop}
use Rattle.std.specs.List.{list_any}
use Rattle.httparse.specs.Spans.{header_bytes}
use Rattle.ld_wire.specs.Head.{is_named}
use Rattle.ld_wire.proofs.headers.has_header.Given as goal

-- where there is one, it is still to come
abbrev pub invariant-loop-span : goal.invariant-loop-span
invariant-loop-span l =
    list_any (is_named l.name) (map (header_bytes l.bytes) (drop l.span-index l.spans))
    ≡ list_any (is_named l.name) (map (header_bytes l.bytes) l.spans)
