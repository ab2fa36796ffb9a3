use Rattle.ld_words.proofs.RateTestLemmas.{pieces}
use Rattle.ld_words.proofs.rate_test.put_rate_test.Goals as goal

pub returns-clause-ok : goal.returns-clause-ok
returns-clause-ok c =
    pieces _ _ _ _ _ _ _ _ _ _ _ _ _ _ _ _ _ _ _ _
    c.in_ok-extend_from_slice.ensures.items
    c.in_ok-put_count.ensures.ok
    c.in_ok-put_duration.ensures.ok
    c.in_ok-put_duration-2.ensures.ok
    c.in_ok-put_count-2.ensures.ok
    c.in_ok-put_count-3.ensures.ok
    c.in_ok-extend_from_slice-2.ensures.items
