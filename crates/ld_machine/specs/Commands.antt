-- Control commands: which are denied, and what the others do.
use Rattle.std.specs.Prelude.{ℕ, Bool, true, not, ◌||◌, nat_lt, map, if◌then◌else◌}
use Rattle.ld_base.specs.declared.command.Command.{Command}
use Rattle.ld_base.specs.declared.command.Command.TheVariants.{Pause, Stop, Vus, VusMax}
use Rattle.ld_machine.specs.Plan.{Plan}
use Rattle.ld_machine.specs.State.{StartsNothing, Share, State, opening_controls}
use Rattle.ld_machine.specs.Wait.{is_external_open}

-- the greatest `vus-max` that may be commanded: the option `maxVUs` of the externally controlled scenario
abbrev pub option_max_vus : Plan → ℕ
option_max_vus plan = (opening_controls plan.parts).vus_max

-- the command is denied: a stop where one was commanded before; another command where no externally
-- controlled scenario is open, or where its number is out of range
abbrev pub is_denied : Plan → State → Command → Bool
is_denied plan state Stop = state.stop_commanded
is_denied plan state (Pause _) = not (is_external_open plan state)
is_denied plan state (Vus n) = not (is_external_open plan state) || nat_lt state.controls.vus_max n
is_denied plan state (VusMax n) = not (is_external_open plan state) || nat_lt n state.controls.vus || nat_lt (option_max_vus plan) n

-- a share behind a commanded stop: an open one starts nothing more, and keeps the reading
abbrev pub stop_commanded_share : ℕ → Share → Share
stop_commanded_share t share = if share.closed then share else record share { level = StartsNothing t }

-- the state behind a command at the reading t, its entry aside
abbrev pub after_command : State → Command → ℕ → State
after_command state Stop t = record state { stop_commanded = true; shares = map (stop_commanded_share t) state.shares }
after_command state (Pause b) t = record state { controls = record state.controls { paused = b } }
after_command state (Vus n) t = record state { controls = record state.controls { vus = n } }
after_command state (VusMax n) t = record state { controls = record state.controls { vus_max = n } }
