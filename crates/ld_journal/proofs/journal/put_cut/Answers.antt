use Rattle.std.proofs.Common.{◌∷◌, [], sym}
use Rattle.std.specs.Prelude.{codes, decimal}
use Rattle.std.proofs.lemmas.List.{append-nil}
use Rattle.std.proofs.lemmas.Result.{on_ok_weaker}
use Rattle.ld_line.specs.Line.{line}
use Rattle.ld_line.proofs.LineLemmas.{line_added}
use Rattle.ld_journal.proofs.journal.put_cut.Goals as goal

pub returns-clause-ok : goal.returns-clause-ok
returns-clause-ok c =
    let before = c.args.into.now.items in
    let header = c.args.header.now in
    let segment = line (codes "segment" ∷ header.segment ∷ []) in
    let sequence = line (codes "sequence" ∷ header.sequence ∷ []) in
    let first = line_added before before c.put_line.new.into.items [] segment (sym (append-nil before)) (rw c.as_slice-segment.ensures at c.in_ok-put_line.ensures.ok) in
    let second = line_added before c.put_line.new.into.items c.put_line-2.new.into.items (segment ∷ []) sequence first (rw c.as_slice-sequence.ensures at c.in_ok-put_line-2.ensures.ok) in
    on_ok_weaker c.put_line-3.result
    (line_added before c.put_line-2.new.into.items c.put_line-3.new.into.items (segment ∷ sequence ∷ []) (line (codes "entries" ∷ decimal header.entries ∷ [])) second)
    c.put_line-3.ensures.ok
