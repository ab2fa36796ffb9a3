use Rattle.std.proofs.Common.{◌∙◌, ◌++◌, Bor, ap₂, map, refl, take}
use Rattle.std.specs.List.{concat}
use Rattle.std.proofs.lemmas.Option.{slice_get_read}
use Rattle.ld_line.proofs.LineLemmas.{one_added}
use Rattle.ld_wire.specs.Order.{Header}
use Rattle.ld_wire.specs.Request.{ended_header}
use Rattle.ld_wire.proofs.AppendLemmas.{grows_behind, on_err}
use Rattle.ld_wire.proofs.request.put_headers.Goals as goal

pub loop-header-preserved : goal.loop-header-preserved
loop-header-preserved c =
    let at = slice_get_read c.args.headers.now _ c.loop-header.header-index c.header-item.result refl c.loop-header-test.true c.header-item.is in
    one_added (λ (header : Bor Header). ended_header header.now) c.args.into.now.items c.loop-header.into.items c.put_header.new.into.items c.args.headers.now
    c.loop-header.header-index c.header-item.result at c.loop-header.invariant
    (c.in_ok-put_header.ensures.ok
    ∙ ap₂ (λ name value. c.loop-header.into.items ++ ended_header (name, value)) c.as_slice.ensures c.as_slice-in-loop-header.ensures)

pub returns-in_err-put_header-clause-err : goal.returns-in_err-put_header-clause-err
returns-in_err-put_header-clause-err c =
    on_err _
    (grows_behind c.args.into.now.items c.loop-header.into.items c.put_header.new.into.items
    (concat (map (λ (header : Bor Header). ended_header header.now) (take c.loop-header.header-index c.args.headers.now)))
    c.loop-header.invariant c.in_err-put_header.ensures.err)
