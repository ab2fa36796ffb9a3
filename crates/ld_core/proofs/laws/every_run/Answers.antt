use Rattle.ld_machine.specs.State.{opening}
use Rattle.ld_machine.proofs.HolderLemmas.{opening_holds, steps_hold}
use Rattle.ld_machine.proofs.SettlesLemmas.{is_settled_where_closed}
use Rattle.ld_machine.proofs.StopLemmas.{steps_wind_down}
use Rattle.ld_machine.proofs.TurnLemmas.{steps_alternate}
use Rattle.ld_core.proofs.RunLemmas.{every_run_legal}
use Rattle.ld_core.proofs.laws.every_run.Goals as goal

pub returns-clause-legal : goal.returns-clause-legal
returns-clause-legal c = every_run_legal

pub returns-clause-alone : goal.returns-clause-alone
returns-clause-alone c plan asks history leave = steps_alternate plan history (opening plan) (every_run_legal plan asks history leave) (opening_holds plan)

pub returns-clause-held_once : goal.returns-clause-held_once
returns-clause-held_once c plan asks history user leave = (steps_hold plan history (opening plan) (every_run_legal plan asks history leave) (opening_holds plan)).once user

pub returns-clause-settled : goal.returns-clause-settled
returns-clause-settled c plan asks history leave unstopped closed =
    is_settled_where_closed plan history (every_run_legal plan asks history leave) unstopped closed

pub returns-clause-winds_down : goal.returns-clause-winds_down
returns-clause-winds_down c plan asks history leave = steps_wind_down plan history (opening plan) (every_run_legal plan asks history leave)
