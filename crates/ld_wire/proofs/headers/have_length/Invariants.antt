use Rattle.std.proofs.Common.{◌≡◌, map, drop}
use Rattle.std.specs.List.{list_all}
use Rattle.httparse.specs.Spans.{header_bytes}
use Rattle.ld_wire.specs.Head.{has_length}
use Rattle.ld_wire.proofs.headers.have_length.Given as goal

-- where there is one of another length, it is still to come
abbrev pub invariant-loop-span : goal.invariant-loop-span
invariant-loop-span l =
    list_all (has_length l.number) (map (header_bytes l.bytes) (drop l.span-index l.spans))
    ≡ list_all (has_length l.number) (map (header_bytes l.bytes) l.spans)
