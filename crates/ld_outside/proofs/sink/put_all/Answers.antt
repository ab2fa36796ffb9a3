use Rattle.ld_outside.proofs.SinkLemmas.{put_more}
use Rattle.ld_outside.proofs.sink.put_all.Goals as goal

pub loop-done-preserved : goal.loop-done-preserved
loop-done-preserved g c = put_more _ _ _ _ _ _ _ c.loop-done.invariant c.split_at.ensures.back c.in_ok-done.ensures
