use Rattle.std.proofs.Common.{◌∙◌}
use Rattle.ld_answer.specs.Rehearsal.{header_of}
use Rattle.ld_answer.proofs.RehearsalLemmas.{journal_written}
use Rattle.ld_answer.proofs.rehearsal.journal_bytes.Goals as goal

pub returns : goal.returns
returns c =
    journal_written c.in_ok-header.header (header_of c.args.test.now c.args.plan.now) c.deref.result.now c.args.history.entries c.new-bytes.result.items _ c.of.result
    c.in_ok-header.ensures (c.deref.ensures.value ∙ c.into_entries-entries.ensures) c.new-bytes.ensures.items c.in_ok-write.ensures.ok c.of.ensures
