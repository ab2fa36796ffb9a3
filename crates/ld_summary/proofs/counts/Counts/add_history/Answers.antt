use Rattle.std.proofs.Common.{◌∙◌, ap, sym}
use Rattle.std.specs.Option.{option_copied}
use Rattle.ld_summary.proofs.ActLemmas.{entry_added}
use Rattle.ld_summary.proofs.counts.Counts.add_history.Goals as goal

pub loop-at-preserved : goal.loop-at-preserved
loop-at-preserved c =
    let at = sym c.get.ensures ∙ ap option_copied c.unwrap.ensures in
    entry_added c.args.scenario c.args.self.now c.loop-at.self c.add.new.self c.args.history.now.entries c.loop-at.at c.unwrap.result.now at
    c.loop-at.invariant c.add.ensures
