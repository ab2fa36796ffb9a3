-- A worked example: the journal of two arrivals of which the second is dropped.
use Rattle.std.specs.Prelude.{ℕ, List, [], ◌∷◌, ◌++◌, codes}
use Rattle.ld_base.specs.Tally.{TallyView}
use Rattle.ld_base.specs.declared.act.Act.{Act}
use Rattle.ld_base.specs.declared.act.Act.TheVariants.{Take, Start, Drop, Return, Release, Close}
use Rattle.ld_base.specs.declared.act.Outcome.TheVariants.{Done}
use Rattle.ld_base.specs.declared.entry.Entry.{Entry}
use Rattle.ld_journal.specs.declared.header.Header.{Header}

-- the header of a run that plays the whole of a test
abbrev pub whole_header : List ℕ → Header
whole_header bytes = record { test = bytes; segment = codes "0:1"; sequence = codes "0,1"; entries = 1000000 }

-- an entry of thread 0
abbrev pub entry : ℕ → ℕ → Act → Entry
entry at moment done = record { turn = at; thread = 0; act = done; reading = moment }

-- a tally without samples and without room
abbrev pub no_samples : TallyView
no_samples = record { samples = []; room = 0 }

abbrev pub arrival_dropped : List Entry
arrival_dropped =
    entry 1 0 (Take 0 1 0)
    ∷ entry 2 0 (Start 0 1 0 31000000000)
    ∷ entry 3 500000000 (Drop 0 1)
    ∷ entry 4 1000000000 (Return 0 1 0 Done no_samples)
    ∷ entry 5 1000000000 (Release 0 1)
    ∷ entry 6 1000000000 (Close 0)
    ∷ []

-- the text in front of a test of 188 bytes, and behind it
abbrev pub front : List ℕ
front = codes "ldjournal 1\ntest 188\n"

abbrev pub back : List ℕ
back =
    codes "\nsegment 0:1\nsequence 0,1\nentries 1000000\n"
    ++ codes "1 0 0 take 0 1 0\n"
    ++ codes "2 0 0 start 0 1 0 31000000000\n"
    ++ codes "3 0 500000000 drop 0 1\n"
    ++ codes "4 0 1000000000 return 0 1 0 done 0\n"
    ++ codes "5 0 1000000000 release 0 1\n"
    ++ codes "6 0 1000000000 close 0\n"
    ++ codes "end 6\n"
