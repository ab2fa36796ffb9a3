use Rattle.std.proofs.Common.{◌∙◌, ◌∷◌, [], ◌++◌, ap, map, sym}
use Rattle.std.specs.List.{concat}
use Rattle.std.specs.Prelude.{codes}
use Rattle.std.proofs.lemmas.List.{append-nil, map-append}
use Rattle.ld_line.proofs.LineLemmas.{line_added, lines_added}
use Rattle.ld_wire.specs.Order.{in_order}
use Rattle.ld_wire.specs.Request.{ended, ended_header, length_headers, request_line}
use Rattle.ld_wire.proofs.request.put_head.Goals as goal

pub returns-clause-ok : goal.returns-clause-ok
returns-clause-ok c =
    let before = c.args.into.now.items in
    let spec = c.args.spec.now in
    let line = ended (request_line spec) in
    let host = ended_header (codes "Host", spec.authority) in
    let closes = ended_header (codes "Connection", codes "close") in
    let own = map ended_header (in_order spec.headers) in
    let told = map ended_header (length_headers spec) in
    let one = c.put_request_line.new.into.items in
    let two = c.put_header.new.into.items in
    let three = c.put_header-2.new.into.items in
    let four = c.put_own_headers.new.into.items in
    let five = c.put_length.new.into.items in
    let first = line_added before before one [] line (sym (append-nil before)) c.in_ok-put_request_line.ensures.ok in
    let named = c.in_ok-put_header.ensures.ok ∙ ap (λ value. one ++ ended_header (codes "Host", value)) c.as_slice.ensures in
    let second = line_added before one two (line ∷ []) host first named in
    let third = line_added before two three (line ∷ host ∷ []) closes second c.in_ok-put_header-2.ensures.ok in
    let listed = c.in_ok-put_own_headers.ensures.ok ∙ ap (λ hs. three ++ concat (map ended_header (in_order hs))) c.as_slice-2.ensures in
    let fourth = lines_added before three four (line ∷ host ∷ closes ∷ []) own third listed in
    let fifth = lines_added before four five (line ∷ host ∷ closes ∷ own) told fourth c.in_ok-put_length.ensures.ok in
    let lines = (line ∷ host ∷ closes ∷ own) ++ told in
    line_added before five c.extend_from_slice.new.self.items lines (ended []) fifth c.in_ok-extend_from_slice.ensures.items
    ∙ ap (λ ls. before ++ concat (line ∷ host ∷ closes ∷ (ls ++ ended [] ∷ [])))
    (sym (map-append ended_header (in_order spec.headers) (length_headers spec)))
