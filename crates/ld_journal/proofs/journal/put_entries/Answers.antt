use Rattle.std.proofs.Common.{refl}
use Rattle.std.proofs.lemmas.Option.{slice_get_read}
use Rattle.ld_journal.specs.Journal.{entry_lines}
use Rattle.ld_line.proofs.LineLemmas.{element_added}
use Rattle.ld_journal.proofs.journal.put_entries.Goals as goal

pub loop-entry-preserved : goal.loop-entry-preserved
loop-entry-preserved c =
    let at = slice_get_read c.args.entries.now _ c.loop-entry.entry-index c.entry-item.result refl c.loop-entry-test.true c.entry-item.is in
    element_added entry_lines c.args.into.now.items c.loop-entry.into.items c.put_entry.new.into.items c.args.entries.now c.loop-entry.entry-index
    c.entry-item.result at c.loop-entry.invariant c.in_ok-put_entry.ensures.ok
