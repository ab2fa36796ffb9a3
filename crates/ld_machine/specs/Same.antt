-- When two entries are the same, as a test that computes.
use Rattle.std.specs.Prelude.{Bool, true, false, not, ◌&&◌, ◌==◌, List, [], ◌∷◌}
use Rattle.ld_base.specs.Tally.{TallyView}
use Rattle.ld_base.specs.declared.act.Act.{Act}
use Rattle.ld_base.specs.declared.act.Act.TheVariants.{Take, Grow, Start, Drop, Late, Return, Release, Stop, Close, Control}
use Rattle.ld_base.specs.declared.act.Outcome.{Outcome}
use Rattle.ld_base.specs.declared.act.Outcome.TheVariants.{Done, Interrupted}
use Rattle.ld_base.specs.declared.command.Command.{Command}
use Rattle.ld_base.specs.declared.command.Command.TheVariants as commands
use Rattle.ld_base.specs.declared.entry.Entry.{Entry}
use Rattle.ld_base.specs.declared.sample.Sample.{Sample}

abbrev pub same_bool : Bool → Bool → Bool
same_bool true b = b
same_bool false b = not b

abbrev pub same_outcome : Outcome → Outcome → Bool
same_outcome Done Done = true
same_outcome Interrupted Interrupted = true
same_outcome _ _ = false

abbrev pub same_command : Command → Command → Bool
same_command (commands.Pause a) (commands.Pause b) = same_bool a b
same_command commands.Stop commands.Stop = true
same_command (commands.Vus a) (commands.Vus b) = a == b
same_command (commands.VusMax a) (commands.VusMax b) = a == b
same_command _ _ = false

abbrev pub same_sample : Sample → Sample → Bool
same_sample a b =
    (a.name == b.name) && (a.status == b.status) && (a.span == b.span) && (a.sent == b.sent) && (a.received == b.received)
    && same_bool a.failed b.failed && (a.check_bits == b.check_bits)

abbrev pub same_samples : List Sample → List Sample → Bool
same_samples [] [] = true
same_samples (a ∷ rest_a) (b ∷ rest_b) = same_sample a b && same_samples rest_a rest_b
same_samples _ _ = false

abbrev pub same_tally : TallyView → TallyView → Bool
same_tally a b = same_samples a.samples b.samples && (a.room == b.room)

abbrev pub same_act : Act → Act → Bool
same_act (Take n user slot) (Take n' user' slot') = (n == n') && (user == user') && (slot == slot')
same_act (Grow n user slot) (Grow n' user' slot') = (n == n') && (user == user') && (slot == slot')
same_act (Start n user item until) (Start n' user' item' until') =
    (n == n') && (user == user') && (item == item') && (until == until')
same_act (Drop n item) (Drop n' item') = (n == n') && (item == item')
same_act (Late n item) (Late n' item') = (n == n') && (item == item')
same_act (Return n user item outcome tally) (Return n' user' item' outcome' tally') =
    (n == n') && (user == user') && (item == item') && same_outcome outcome outcome' && same_tally tally tally'
same_act (Release n user) (Release n' user') = (n == n') && (user == user')
same_act (Stop n) (Stop n') = n == n'
same_act (Close n) (Close n') = n == n'
same_act (Control command) (Control command') = same_command command command'
same_act _ _ = false

abbrev pub same_entry : Entry → Entry → Bool
same_entry a b = (a.turn == b.turn) && (a.thread == b.thread) && same_act a.act b.act && (a.reading == b.reading)

abbrev pub same_entries : List Entry → List Entry → Bool
same_entries [] [] = true
same_entries (a ∷ rest_a) (b ∷ rest_b) = same_entry a b && same_entries rest_a rest_b
same_entries _ _ = false
