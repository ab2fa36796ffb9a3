use Rattle.std.proofs.Common.{◌∙◌, sym}
use Rattle.ld_journal.specs.Journal.{sample_line}
use Rattle.ld_line.proofs.LineLemmas.{one_added}
use Rattle.ld_journal.proofs.entry.put_samples.Goals as goal

pub loop-at-preserved : goal.loop-at-preserved
loop-at-preserved c =
    let at = sym c.get.ensures ∙ c.unwrap.ensures in
    one_added sample_line c.args.into.now.items c.loop-at.into.items c.put_sample.new.into.items c.args.tally.now.samples c.loop-at.at
    c.unwrap.result at c.loop-at.invariant c.in_ok-put_sample.ensures.ok
