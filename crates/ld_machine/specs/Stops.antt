-- What a history may hold behind a commanded stop.
use Rattle.std.specs.Prelude.{Bool, true, false, List, [], ◌∷◌, IsTrue, if◌then◌else◌}
use Rattle.std.specs.List.{list_all}
use Rattle.ld_base.specs.declared.act.Act.{Act}
use Rattle.ld_base.specs.declared.act.Act.TheVariants.{Return, Release, Stop, Close, Control}
use Rattle.ld_base.specs.declared.command.Command.{Command}
use Rattle.ld_base.specs.declared.command.Command.TheVariants as commands
use Rattle.ld_base.specs.declared.entry.Entry.{Entry}

abbrev pub is_stop_command : Command → Bool
is_stop_command commands.Stop = true
is_stop_command _ = false

-- the act is a command to stop
abbrev pub commands_stop : Act → Bool
commands_stop (Control command) = is_stop_command command
commands_stop _ = false

-- the act may stand behind a commanded stop: it takes, starts, drops and counts late nothing, and is no
-- second command to stop
abbrev pub is_winding_down : Act → Bool
is_winding_down (Return _ _ _ _ _) = true
is_winding_down (Release _ _) = true
is_winding_down (Stop _) = true
is_winding_down (Close _) = true
is_winding_down (Control commands.Stop) = false
is_winding_down (Control _) = true
is_winding_down _ = false

abbrev pub all_winding_down : List Entry → Bool
all_winding_down history = list_all (λ (entry : Entry). is_winding_down entry.act) history

-- behind a commanded stop all acts are such
abbrev pub winds_down : List Entry → Bool
winds_down [] = true
winds_down (entry ∷ rest) = if commands_stop entry.act then all_winding_down rest else winds_down rest

abbrev pub WindsDown : List Entry → Type 0
WindsDown history = IsTrue (winds_down history)
