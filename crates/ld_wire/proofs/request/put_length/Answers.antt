use Rattle.std.proofs.Common.{◌∙◌, ◌++◌, ap, length, sym}
use Rattle.std.specs.Prelude.{codes, decimal}
use Rattle.ld_wire.specs.Request.{ended_header}
use Rattle.ld_wire.proofs.AppendLemmas.{length_line}
use Rattle.ld_wire.proofs.request.put_length.Goals as goal

pub returns-in_ok-put_header-clause-ok : goal.returns-in_ok-put_header-clause-ok
returns-in_ok-put_header-clause-ok c =
    let digits = c.as_bytes.ensures.value ∙ c.format-length.ensures.text ∙ ap (λ bytes. decimal (length bytes)) c.content.ensures in
    c.in_ok-put_header.ensures.ok
    ∙ ap (λ value. c.args.into.now.items ++ ended_header (codes "Content-Length", value)) digits
    ∙ ap (λ text. c.args.into.now.items ++ text) (sym (length_line c.args.spec.now (sym c.tells_length.ensures ∙ c.if-tells_length.true)))
