-- The text of a journal, version 1, line by line.
use Rattle.std.specs.Prelude.{Bool, true, false, ℕ, List, [], ◌∷◌, ◌++◌, codes, decimal, length, map}
use Rattle.std.specs.List.{concat, flat_map}
use Rattle.ld_base.specs.declared.act.Act.{Act}
use Rattle.ld_base.specs.declared.act.Act.TheVariants.{Take, Grow, Start, Drop, Late, Return, Release, Stop, Close, Control}
use Rattle.ld_base.specs.declared.act.Outcome.{Outcome}
use Rattle.ld_base.specs.declared.act.Outcome.TheVariants.{Done, Interrupted}
use Rattle.ld_base.specs.declared.command.Command.{Command}
use Rattle.ld_base.specs.declared.command.Command.TheVariants as commands
use Rattle.ld_base.specs.declared.entry.Entry.{Entry}
use Rattle.ld_base.specs.declared.sample.Sample.{Sample}
use Rattle.ld_line.specs.Line.{line, line_feed}
use Rattle.ld_journal.specs.declared.header.Header.{Header}

-- ---- words

abbrev pub flag_word : Bool → List ℕ
flag_word true = codes "1"
flag_word false = codes "0"

abbrev pub outcome_word : Outcome → List ℕ
outcome_word Done = codes "done"
outcome_word Interrupted = codes "interrupted"

abbrev pub command_words : Command → List (List ℕ)
command_words (commands.Pause paused) = codes "pause" ∷ flag_word paused ∷ []
command_words commands.Stop = codes "stop" ∷ []
command_words (commands.Vus users) = codes "vus" ∷ decimal users ∷ []
command_words (commands.VusMax users) = codes "vus-max" ∷ decimal users ∷ []

-- the words of an act. Those of a Return end with the number of its samples.
abbrev pub act_words : Act → List (List ℕ)
act_words (Take scenario user slot) = codes "take" ∷ decimal scenario ∷ decimal user ∷ decimal slot ∷ []
act_words (Grow scenario user slot) = codes "grow" ∷ decimal scenario ∷ decimal user ∷ decimal slot ∷ []
act_words (Start scenario user item until) =
    codes "start" ∷ decimal scenario ∷ decimal user ∷ decimal item ∷ decimal until ∷ []
act_words (Drop scenario item) = codes "drop" ∷ decimal scenario ∷ decimal item ∷ []
act_words (Late scenario item) = codes "late" ∷ decimal scenario ∷ decimal item ∷ []
act_words (Return scenario user item outcome tally) =
    codes "return" ∷ decimal scenario ∷ decimal user ∷ decimal item ∷ outcome_word outcome ∷ decimal (length tally.samples) ∷ []
act_words (Release scenario user) = codes "release" ∷ decimal scenario ∷ decimal user ∷ []
act_words (Stop scenario) = codes "stop" ∷ decimal scenario ∷ []
act_words (Close scenario) = codes "close" ∷ decimal scenario ∷ []
act_words (Control command) = codes "control" ∷ command_words command

-- ---- lines

-- the line of a sample
abbrev pub sample_line : Sample → List ℕ
sample_line sample =
    line
    (codes "s"
    ∷ decimal sample.name
    ∷ decimal sample.status
    ∷ decimal sample.span
    ∷ decimal sample.sent
    ∷ decimal sample.received
    ∷ flag_word sample.failed
    ∷ decimal sample.check_bits
    ∷ [])

-- the samples that an act brings
abbrev pub samples_of : Act → List Sample
samples_of (Return _ _ _ _ tally) = tally.samples
samples_of _ = []

-- the line of an entry: its turn, its thread, its reading and its act
abbrev pub entry_line : Entry → List ℕ
entry_line entry = line (decimal entry.turn ∷ decimal entry.thread ∷ decimal entry.reading ∷ act_words entry.act)

-- the lines of an entry: its own, and one for each of its samples
abbrev pub entry_lines : Entry → List (List ℕ)
entry_lines entry = entry_line entry ∷ map sample_line (samples_of entry.act)

-- the first lines: the journal's version, the test's length, and the test as it is
abbrev pub test_lines : List ℕ → List (List ℕ)
test_lines test =
    line (codes "ldjournal" ∷ codes "1" ∷ [])
    ∷ line (codes "test" ∷ decimal (length test) ∷ [])
    ∷ (test ++ line_feed ∷ [])
    ∷ []

-- the next lines: how the test is cut, and the limit on entries and samples
abbrev pub cut_lines : Header → List (List ℕ)
cut_lines header =
    line (codes "segment" ∷ header.segment ∷ [])
    ∷ line (codes "sequence" ∷ header.sequence ∷ [])
    ∷ line (codes "entries" ∷ decimal header.entries ∷ [])
    ∷ []

-- the lines of a header
abbrev pub header_lines : Header → List (List ℕ)
header_lines header = test_lines header.test ++ cut_lines header

-- the last line, with the number of entries
abbrev pub end_line : List Entry → List ℕ
end_line entries = line (codes "end" ∷ decimal (length entries) ∷ [])

-- the lines of a journal
abbrev pub journal_lines : Header → List Entry → List (List ℕ)
journal_lines header entries = header_lines header ++ flat_map entry_lines entries ++ end_line entries ∷ []

-- the text of a journal
abbrev pub journal_text : Header → List Entry → List ℕ
journal_text header entries = concat (journal_lines header entries)
