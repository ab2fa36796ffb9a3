use Rattle.ld_run.proofs.RunLemmas.{answer_run, refusal_run}
use Rattle.ld_run.proofs.desk.desk_command.Goals as goal

pub returns-in-Ok : goal.returns-in-Ok
returns-in-Ok g c = answer_run _ _ _ _ _ _ _ _ _ _ c.in-Ok.ensures.0 c.deliver.ensures

pub returns-in-Err : goal.returns-in-Err
returns-in-Err g c = refusal_run _ _ _ _ _ _ _ _ c.in-Err.ensures c.refuse.ensures

pub deliver-requires : goal.deliver-requires
deliver-requires g c = c.in-Ok.ensures.1
