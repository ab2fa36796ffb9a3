use Rattle.std.proofs.Common.{◌∙◌, ◌++◌, List, ap, map}
use Rattle.std.specs.List.{concat}
use Rattle.std.proofs.lemmas.Result.{on_ok_weaker}
use Rattle.ld_wire.specs.Request.{ended_header}
use Rattle.ld_wire.proofs.OrderLemmas.{Lent, lent_lines}
use Rattle.ld_wire.proofs.request.put_own_headers.Goals as goal

pub returns-clause-ok : goal.returns-clause-ok
returns-clause-ok c =
    let before = c.args.into.now.items in
    let lent = ap (λ (hs : List Lent). before ++ concat (map (λ (h : Lent). ended_header h.now) hs)) c.deref.ensures.value in
    let lines = lent_lines ended_header c.in_ok-sent.sent.items ∙ ap (map ended_header) c.in_ok-sent.ensures.order in
    on_ok_weaker c.put_headers.result (λ is. is ∙ lent ∙ ap (λ ls. before ++ concat ls) lines) c.put_headers.ensures.ok
