use Rattle.std.proofs.Common.{◌++◌}
use Rattle.std.specs.List.{flat_map}
use Rattle.std.proofs.lemmas.Result.{on_ok_weaker}
use Rattle.ld_journal.specs.Journal.{end_line, entry_lines, header_lines}
use Rattle.ld_line.proofs.LineLemmas.{line_added, lines_added}
use Rattle.ld_journal.proofs.journal.put_journal.Goals as goal

pub returns-clause-ok : goal.returns-clause-ok
returns-clause-ok c =
    let before = c.args.into.now.items in
    let head = header_lines c.args.header.now in
    let body = flat_map entry_lines c.args.entries.now in
    let so_far = lines_added before c.put_header.new.into.items c.put_entries.new.into.items head body c.in_ok-put_header.ensures.ok c.in_ok-put_entries.ensures.ok in
    on_ok_weaker c.put_line.result
    (line_added before c.put_entries.new.into.items c.put_line.new.into.items (head ++ body) (end_line c.args.entries.now) so_far)
    c.put_line.ensures.ok
