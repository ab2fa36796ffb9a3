-- What an act of a scenario, or a control, does to one share.
use Rattle.std.specs.Prelude.{ℕ, true, Option, None, Some}
use Rattle.ld_base.specs.declared.act.Act.{Act}
use Rattle.ld_base.specs.declared.act.Act.TheVariants.{Take, Grow, Start, Drop, Late, Return, Release, Stop, Close, Control}
use Rattle.ld_base.specs.declared.command.Command.{Command}
use Rattle.ld_base.specs.declared.command.Command.TheVariants as commands
use Rattle.ld_machine.specs.Plan.{Part}
use Rattle.ld_machine.specs.State.{Halted, Idle, Busy, Share}
use Rattle.ld_machine.specs.Commands.{stop_commanded_share}
use Rattle.ld_machine.specs.Effect.{hold, put_condition, let_go, end_item}

-- the scenario that an act is of; a control is of none
abbrev pub scenario_of_act : Act → Option ℕ
scenario_of_act (Take n _ _) = Some n
scenario_of_act (Grow n _ _) = Some n
scenario_of_act (Start n _ _ _) = Some n
scenario_of_act (Drop n _) = Some n
scenario_of_act (Late n _) = Some n
scenario_of_act (Return n _ _ _ _) = Some n
scenario_of_act (Release n _) = Some n
scenario_of_act (Stop n) = Some n
scenario_of_act (Close n) = Some n
scenario_of_act (Control _) = None

-- the share behind a command at the reading t: only a stop reaches it
abbrev pub share_after_command : ℕ → Command → Share → Share
share_after_command t commands.Stop share = stop_commanded_share t share
share_after_command t _ share = share

-- the share of a scenario with this part, behind an act of the scenario or a control, of a thread at
-- the reading t
abbrev pub share_after : Part → ℕ → ℕ → Act → Share → Share
share_after part thread t (Take n user slot) share = hold user slot share
share_after part thread t (Grow n user slot) share = hold user slot share
share_after part thread t (Start n user item until) share = end_item part item (put_condition user (Busy thread item until) share)
share_after part thread t (Drop n item) share = end_item part item share
share_after part thread t (Late n item) share = end_item part item share
share_after part thread t (Return n user item outcome tally) share = put_condition user Idle share
share_after part thread t (Release n user) share = let_go user share
share_after part thread t (Stop n) share = record share { level = Halted }
share_after part thread t (Close n) share = record share { closed = true }
share_after part thread t (Control command) share = share_after_command t command share
