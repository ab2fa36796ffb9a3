use Rattle.std.proofs.Common.{◌≡◌, ◌++◌, Bor, map, take}
use Rattle.std.specs.List.{concat}
use Rattle.ld_wire.specs.Order.{Header}
use Rattle.ld_wire.specs.Request.{ended_header}
use Rattle.ld_wire.proofs.request.put_headers.Given as goal

abbrev pub invariant-loop-header : goal.invariant-loop-header
invariant-loop-header l =
    l.into.items ≡ l.fn.into.items ++ concat (map (λ (header : Bor Header). ended_header header.now) (take l.header-index l.headers))
