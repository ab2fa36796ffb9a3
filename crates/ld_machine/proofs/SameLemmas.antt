-- What the tests for the same entries tell.
use Rattle.std.proofs.Common.{◌≡◌, ℕ, Bool, true, false, ◌==◌, List, [], ◌∷◌, arith, refl, sym, ap}
use Rattle.std.proofs.lemmas.Grind.{common_steps}
use Rattle.ld_base.specs.Tally.{TallyView}
use Rattle.ld_base.specs.declared.act.Act.{Act}
use Rattle.ld_base.specs.declared.act.Act.TheVariants.{Take, Grow, Start, Drop, Late, Return, Release, Stop, Close, Control}
use Rattle.ld_base.specs.declared.act.Outcome.{Outcome}
use Rattle.ld_base.specs.declared.act.Outcome.TheVariants.{Done, Interrupted}
use Rattle.ld_base.specs.declared.command.Command.{Command}
use Rattle.ld_base.specs.declared.command.Command.TheVariants as commands
use Rattle.ld_base.specs.declared.entry.Entry.{Entry}
use Rattle.ld_base.specs.declared.sample.Sample.{Sample}
use Rattle.ld_machine.specs.Same.{same_bool, same_outcome, same_command, same_sample, same_samples, same_tally, same_act, same_entry, same_entries}

-- ---- a thing is the same as itself

itself_number : (a : ℕ) → (a == a) ≡ true
itself_number a = grind (arith, common_steps)

itself_bool : (a : Bool) → same_bool a a ≡ true
itself_bool true = refl
itself_bool false = refl

itself_outcome : (a : Outcome) → same_outcome a a ≡ true
itself_outcome Done = refl
itself_outcome Interrupted = refl

itself_command : (a : Command) → same_command a a ≡ true
itself_command (commands.Pause a) = itself_bool a
itself_command commands.Stop = refl
itself_command (commands.Vus a) = itself_number a
itself_command (commands.VusMax a) = itself_number a

itself_sample : (a : Sample) → same_sample a a ≡ true
itself_sample a = simp (itself_number, itself_bool) refl

itself_samples : (a : List Sample) → same_samples a a ≡ true
itself_samples [] = refl
itself_samples (a ∷ rest) = rw (itself_sample a, itself_samples rest) refl

itself_tally : (a : TallyView) → same_tally a a ≡ true
itself_tally a = simp (itself_number, itself_samples) refl

itself_act : (a : Act) → same_act a a ≡ true
itself_act (Take n user slot) = simp itself_number refl
itself_act (Grow n user slot) = simp itself_number refl
itself_act (Start n user item until) = simp itself_number refl
itself_act (Drop n item) = simp itself_number refl
itself_act (Late n item) = simp itself_number refl
itself_act (Return n user item outcome tally) = simp (itself_number, itself_outcome, itself_samples) refl
itself_act (Release n user) = simp itself_number refl
itself_act (Stop n) = simp itself_number refl
itself_act (Close n) = simp itself_number refl
itself_act (Control command) = itself_command command

pub itself_entry : (a : Entry) → same_entry a a ≡ true
itself_entry a = simp (itself_number, itself_act) refl

pub itself_entries : (a : List Entry) → same_entries a a ≡ true
itself_entries [] = refl
itself_entries (a ∷ rest) = rw (itself_entry a, itself_entries rest) refl

-- ---- what passes the test is the same

same_bool_tells : (a b : Bool) → same_bool a b ≡ true → a ≡ b
same_bool_tells true b h = sym h
same_bool_tells false true h = absurd (cc)
same_bool_tells false false h = refl

same_outcome_tells : (a b : Outcome) → same_outcome a b ≡ true → a ≡ b
same_outcome_tells Done Done h = refl
same_outcome_tells Done Interrupted h = absurd (cc)
same_outcome_tells Interrupted Done h = absurd (cc)
same_outcome_tells Interrupted Interrupted h = refl

same_sample_tells : (a b : Sample) → same_sample a b ≡ true → a ≡ b
same_sample_tells a b h = grind (arith, common_steps, same_bool_tells)

same_samples_tells : (a b : List Sample) → same_samples a b ≡ true → a ≡ b
same_samples_tells [] [] h = refl
same_samples_tells [] (b ∷ more) h = absurd (cc)
same_samples_tells (a ∷ rest) [] h = absurd (cc)
same_samples_tells (a ∷ rest) (b ∷ more) h = grind (arith, common_steps, same_sample_tells a b, same_samples_tells rest more)

same_tally_tells : (a b : TallyView) → same_tally a b ≡ true → a ≡ b
same_tally_tells a b h = grind (arith, common_steps, same_samples_tells a.samples b.samples)

same_command_tells : (a b : Command) → same_command a b ≡ true → a ≡ b
same_command_tells (commands.Pause a) (commands.Pause b) h = ap commands.Pause (same_bool_tells a b h)
same_command_tells (commands.Pause a) b h = absurd (cc)
same_command_tells commands.Stop commands.Stop h = refl
same_command_tells commands.Stop b h = absurd (cc)
same_command_tells (commands.Vus a) (commands.Vus b) h = grind (arith, common_steps)
same_command_tells (commands.Vus a) b h = absurd (cc)
same_command_tells (commands.VusMax a) (commands.VusMax b) h = grind (arith, common_steps)
same_command_tells (commands.VusMax a) b h = absurd (cc)

same_act_tells : (a b : Act) → same_act a b ≡ true → a ≡ b
same_act_tells (Take n user slot) (Take n' user' slot') h = grind (arith, common_steps)
same_act_tells (Take n user slot) b h = absurd (cc)
same_act_tells (Grow n user slot) (Grow n' user' slot') h = grind (arith, common_steps)
same_act_tells (Grow n user slot) b h = absurd (cc)
same_act_tells (Start n user item until) (Start n' user' item' until') h = grind (arith, common_steps)
same_act_tells (Start n user item until) b h = absurd (cc)
same_act_tells (Drop n item) (Drop n' item') h = grind (arith, common_steps)
same_act_tells (Drop n item) b h = absurd (cc)
same_act_tells (Late n item) (Late n' item') h = grind (arith, common_steps)
same_act_tells (Late n item) b h = absurd (cc)
same_act_tells (Return n user item outcome tally) (Return n' user' item' outcome' tally') h = grind (arith, common_steps, same_outcome_tells outcome outcome', same_samples_tells tally.samples tally'.samples)
same_act_tells (Return n user item outcome tally) b h = absurd (cc)
same_act_tells (Release n user) (Release n' user') h = grind (arith, common_steps)
same_act_tells (Release n user) b h = absurd (cc)
same_act_tells (Stop n) (Stop n') h = grind (arith, common_steps)
same_act_tells (Stop n) b h = absurd (cc)
same_act_tells (Close n) (Close n') h = grind (arith, common_steps)
same_act_tells (Close n) b h = absurd (cc)
same_act_tells (Control command) (Control command') h = ap Control (same_command_tells command command' h)
same_act_tells (Control command) b h = absurd (cc)

pub same_entry_tells : (a b : Entry) → same_entry a b ≡ true → a ≡ b
same_entry_tells a b h = grind (arith, common_steps, same_act_tells a.act b.act)

pub same_entries_tells : (a b : List Entry) → same_entries a b ≡ true → a ≡ b
same_entries_tells [] [] h = refl
same_entries_tells [] (b ∷ more) h = absurd (cc)
same_entries_tells (a ∷ rest) [] h = absurd (cc)
same_entries_tells (a ∷ rest) (b ∷ more) h = grind (arith, common_steps, same_entry_tells a b, same_entries_tells rest more)
