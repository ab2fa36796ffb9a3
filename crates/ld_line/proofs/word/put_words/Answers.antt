use Rattle.ld_line.proofs.WordLemmas.{text_step}
use Rattle.ld_line.proofs.word.put_words.Goals as goal

pub loop-place-preserved : goal.loop-place-preserved
loop-place-preserved c =
    text_step c.args.into.now.items c.loop-place.into.items c.put_next.new.into.items c.args.words.now c.loop-place.place _
    c.loop-place-test.true c.loop-place.invariant c.in_ok-put_next.ensures.ok
