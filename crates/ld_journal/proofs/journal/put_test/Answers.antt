use Rattle.std.proofs.Common.{◌∷◌, [], ◌++◌, sym, length}
use Rattle.std.specs.Prelude.{codes, decimal}
use Rattle.std.proofs.lemmas.List.{append-nil}
use Rattle.std.proofs.lemmas.Result.{on_ok_weaker}
use Rattle.ld_line.specs.Line.{line}
use Rattle.ld_line.proofs.LineLemmas.{line_added}
use Rattle.ld_journal.proofs.journal.put_test.Goals as goal

pub returns-clause-ok : goal.returns-clause-ok
returns-clause-ok c =
    let before = c.args.into.now.items in
    let version = line (codes "ldjournal" ∷ codes "1" ∷ []) in
    let size = line (codes "test" ∷ decimal (length c.args.test.now) ∷ []) in
    let first = line_added before before c.put_line.new.into.items [] version (sym (append-nil before)) c.in_ok-put_line.ensures.ok in
    let second = line_added before c.put_line.new.into.items c.put_line-2.new.into.items (version ∷ []) size first c.in_ok-put_line-2.ensures.ok in
    on_ok_weaker c.put_line-3.result
    (line_added before c.put_line-2.new.into.items c.put_line-3.new.into.items (version ∷ size ∷ []) (c.args.test.now ++ 10 ∷ []) second)
    c.put_line-3.ensures.ok
