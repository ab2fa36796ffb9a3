-- Worked examples: plans of one scenario, and histories under them, written as their journals' lines.
use Rattle.std.specs.Prelude.{ℕ, ◌+◌, ◌-◌, ◌==◌, not, List, [], ◌∷◌, map, filter, swap, if◌then◌else◌}
use Rattle.ld_base.specs.Tally.{TallyView}
use Rattle.ld_base.specs.declared.act.Act.{Act}
use Rattle.ld_base.specs.declared.act.Act.TheVariants.{Take, Grow, Start, Drop, Return, Release, Close}
use Rattle.ld_base.specs.declared.act.Outcome.TheVariants.{Done, Interrupted}
use Rattle.ld_base.specs.declared.entry.Entry.{Entry}
use Rattle.ld_machine.specs.Plan.{Arrival, Executor, SharedIterations, PerVuIterations, ConstantVus, ArrivalRate, Plan}

-- a line of a journal: its turn, its thread, its reading and its act
abbrev pub line : ℕ → ℕ → ℕ → Act → Entry
line at by t what = record { turn = at; thread = by; act = what; reading = t }

-- a tally without samples and without room
abbrev pub no_samples : TallyView
no_samples = record { samples = []; room = 0 }

-- the plan of one scenario from 0 on, whose script makes no samples
abbrev pub plan_of : ℕ → ℕ → ℕ → Executor → ℕ → ℕ → Plan
plan_of end_moment grace_span items_of_whole how users most =
    record {
      parts =
          record { begin = 0; end = end_moment; grace = grace_span; sample_room = 0; whole_items = items_of_whole; executor = how }
          ∷ [];
      planned = users;
      limit = most;
      entry_limit = 1000000;
      names = [];
    }

-- ---- `constant-arrival-rate`: two arrivals in one second, and one user allocated

abbrev pub two_arrivals : List Arrival
two_arrivals = record { item = 0; moment = 0 } ∷ record { item = 1; moment = 500000000 } ∷ []

-- with so many users at most
abbrev pub arrival_plan : ℕ → Plan
arrival_plan most = plan_of 1000000000 30000000000 2 (ArrivalRate 1 most two_arrivals) 1 most

-- with one user at most the second arrival is dropped
abbrev pub arrival_dropped : List Entry
arrival_dropped =
    line 1 0 0 (Take 0 1 0)
    ∷ line 2 0 0 (Start 0 1 0 31000000000)
    ∷ line 3 0 500000000 (Drop 0 1)
    ∷ line 4 0 1000000000 (Return 0 1 0 Done no_samples)
    ∷ line 5 0 1000000000 (Release 0 1)
    ∷ line 6 0 1000000000 (Close 0)
    ∷ []

-- with two users at most a user is grown for it
abbrev pub arrival_grown : List Entry
arrival_grown =
    line 1 0 0 (Take 0 1 0)
    ∷ line 2 0 0 (Start 0 1 0 31000000000)
    ∷ line 3 0 500000000 (Grow 0 2 1)
    ∷ line 4 0 500000000 (Start 0 2 1 31000000000)
    ∷ line 5 0 1000000000 (Return 0 1 0 Done no_samples)
    ∷ line 6 0 1000000000 (Release 0 1)
    ∷ line 7 0 1500000000 (Return 0 2 1 Done no_samples)
    ∷ line 8 0 1500000000 (Release 0 2)
    ∷ line 9 0 1500000000 (Close 0)
    ∷ []

-- ---- `per-vu-iterations`: one user, three iterations, three seconds

abbrev pub per_vu_plan : Plan
per_vu_plan =
    plan_of 3000000000 30000000000 3
    (PerVuIterations (0 ∷ []) (record { item = 0; slot = 0 } ∷ record { item = 1; slot = 0 } ∷ record { item = 2; slot = 0 } ∷ []))
    1 1

-- with iterations of two seconds the third is dropped
abbrev pub per_vu_dropped : List Entry
per_vu_dropped =
    line 1 0 0 (Take 0 1 0)
    ∷ line 2 0 0 (Start 0 1 0 33000000000)
    ∷ line 3 0 2000000000 (Return 0 1 0 Done no_samples)
    ∷ line 4 0 2000000000 (Start 0 1 1 33000000000)
    ∷ line 5 0 3000000000 (Drop 0 2)
    ∷ line 6 0 4000000000 (Return 0 1 1 Done no_samples)
    ∷ line 7 0 4000000000 (Release 0 1)
    ∷ line 8 0 4000000000 (Close 0)
    ∷ []

-- ---- `constant-vus`: one user for one second, with a grace of half a second

abbrev pub constant_plan : Plan
constant_plan = plan_of 1000000000 500000000 0 (ConstantVus (0 ∷ [])) 1 1

-- an iteration of a second and a half is done in time
abbrev pub constant_done : List Entry
constant_done =
    line 1 0 0 (Take 0 1 0)
    ∷ line 2 0 0 (Start 0 1 0 1500000000)
    ∷ line 3 0 1500000000 (Return 0 1 0 Done no_samples)
    ∷ line 4 0 1500000000 (Release 0 1)
    ∷ line 5 0 1500000000 (Close 0)
    ∷ []

-- a longer one is interrupted
abbrev pub constant_interrupted : List Entry
constant_interrupted =
    line 1 0 0 (Take 0 1 0)
    ∷ line 2 0 0 (Start 0 1 0 1500000000)
    ∷ line 3 0 1500000000 (Return 0 1 0 Interrupted no_samples)
    ∷ line 4 0 1500000000 (Release 0 1)
    ∷ line 5 0 1500000000 (Close 0)
    ∷ []

-- ---- `shared-iterations`: five iterations that two users share, ten minutes at most

abbrev pub shared_plan : Plan
shared_plan = plan_of 600000000000 30000000000 5 (SharedIterations 2 (0 ∷ 1 ∷ 2 ∷ 3 ∷ 4 ∷ [])) 2 2

-- with iterations of one second
abbrev pub shared_done : List Entry
shared_done =
    line 1 0 0 (Take 0 1 0)
    ∷ line 2 0 0 (Take 0 2 1)
    ∷ line 3 0 0 (Start 0 1 0 630000000000)
    ∷ line 4 0 0 (Start 0 2 1 630000000000)
    ∷ line 5 0 1000000000 (Return 0 1 0 Done no_samples)
    ∷ line 6 0 1000000000 (Return 0 2 1 Done no_samples)
    ∷ line 7 0 1000000000 (Start 0 1 2 630000000000)
    ∷ line 8 0 1000000000 (Start 0 2 3 630000000000)
    ∷ line 9 0 2000000000 (Return 0 1 2 Done no_samples)
    ∷ line 10 0 2000000000 (Return 0 2 3 Done no_samples)
    ∷ line 11 0 2000000000 (Start 0 1 4 630000000000)
    ∷ line 12 0 2000000000 (Release 0 2)
    ∷ line 13 0 3000000000 (Return 0 1 4 Done no_samples)
    ∷ line 14 0 3000000000 (Release 0 1)
    ∷ line 15 0 3000000000 (Close 0)
    ∷ []

-- ---- changes of a history

-- the lines with their turns counted anew, from one on
abbrev pub renumbered : ℕ → List Entry → List Entry
renumbered at [] = []
renumbered at (entry ∷ rest) = record entry { turn = at } ∷ renumbered (at + 1) rest

-- the lines with that of one turn changed
abbrev pub with_line : Entry → List Entry → List Entry
with_line changed lines = map (λ (entry : Entry). if entry.turn == changed.turn then changed else entry) lines

-- the lines without that of one turn
abbrev pub without_line : ℕ → List Entry → List Entry
without_line gone lines = renumbered 1 (filter (λ (entry : Entry). not (entry.turn == gone)) lines)

-- the lines with that of one turn put before the one in front of it
abbrev pub moved_up : ℕ → List Entry → List Entry
moved_up moved lines = renumbered 1 (swap lines (moved - 2) (moved - 1))
