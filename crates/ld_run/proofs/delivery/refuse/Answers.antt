use Rattle.std.proofs.Common.{inr}
use Rattle.ld_run.proofs.SayingLemmas.{said_memory}
use Rattle.ld_run.proofs.delivery.refuse.Goals as goal

pub returns-in-Err : goal.returns-in-Err
returns-in-Err g c =
    let said = said_memory _ _ _ _ c.say-in-Err.ensures in
    record {
      said = inr (said.0, inr said.1);
      count = c.say-in-Err.ensures.count;
    }
