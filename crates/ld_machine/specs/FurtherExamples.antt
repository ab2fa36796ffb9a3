-- Further worked examples: ramping users, two scenarios, late arrivals, a full journal, and control.
use Rattle.std.specs.Prelude.{ℕ, true, false, List, [], ◌∷◌}
use Rattle.ld_base.specs.Tally.{TallyView}
use Rattle.ld_base.specs.declared.act.Act.TheVariants.{Take, Start, Late, Return, Release, Stop, Close, Control}
use Rattle.ld_base.specs.declared.act.Outcome.TheVariants.{Done, Interrupted}
use Rattle.ld_base.specs.declared.command.Command.TheVariants as commands
use Rattle.ld_base.specs.declared.entry.Entry.{Entry}
use Rattle.ld_machine.specs.Plan.{RampingSlot, ConstantVus, RampingVus, ExternallyControlled, Part, Plan}
use Rattle.ld_machine.specs.Examples.{line, no_samples, plan_of}

-- ---- `ramping-vus`: from 0 to 2 users in ten seconds, and back to 0 in ten seconds

abbrev pub ramping_slots : List RampingSlot
ramping_slots =
    record { slot = 0; intervals = record { on = 5000000000; off = 20000000000 } ∷ [] }
    ∷ record { slot = 1; intervals = record { on = 10000000000; off = 15000000000 } ∷ [] }
    ∷ []

-- with thirty seconds of grace, for the ramp too
abbrev pub ramping_plan : Plan
ramping_plan = plan_of 20000000000 30000000000 0 (RampingVus 30000000000 ramping_slots) 2 2

-- with iterations of ten seconds: the first user starts again while its slot is on, and the second is
-- released as soon as it is idle
abbrev pub ramping_done : List Entry
ramping_done =
    line 1 0 5000000000 (Take 0 1 0)
    ∷ line 2 0 5000000000 (Start 0 1 0 50000000000)
    ∷ line 3 0 10000000000 (Take 0 2 1)
    ∷ line 4 0 10000000000 (Start 0 2 1 45000000000)
    ∷ line 5 0 15000000000 (Return 0 1 0 Done no_samples)
    ∷ line 6 0 15000000000 (Start 0 1 0 50000000000)
    ∷ line 7 0 20000000000 (Return 0 2 1 Done no_samples)
    ∷ line 8 0 20000000000 (Release 0 2)
    ∷ line 9 0 25000000000 (Return 0 1 0 Done no_samples)
    ∷ line 10 0 25000000000 (Release 0 1)
    ∷ line 11 0 25000000000 (Close 0)
    ∷ []

-- ---- two scenarios of `constant-vus`, of which the second uses the users of the first again

abbrev pub constant_part : ℕ → ℕ → ℕ → Part
constant_part from to grace_span =
    record { begin = from; end = to; grace = grace_span; sample_room = 0; whole_items = 0; executor = ConstantVus (0 ∷ 1 ∷ []) }

-- the first is over, with its grace, when the second begins
abbrev pub two_plan : Plan
two_plan =
    record {
      parts = constant_part 0 10000000000 5000000000 ∷ constant_part 15000000000 16000000000 30000000000 ∷ [];
      planned = 2;
      limit = 2;
      entry_limit = 1000000;
      names = [];
    }

-- with iterations of eight seconds: the last two of the first scenario are interrupted
abbrev pub two_done : List Entry
two_done =
    line 1 0 0 (Take 0 1 0)
    ∷ line 2 0 0 (Take 0 2 1)
    ∷ line 3 0 0 (Start 0 1 0 15000000000)
    ∷ line 4 0 0 (Start 0 2 1 15000000000)
    ∷ line 5 0 8000000000 (Return 0 1 0 Done no_samples)
    ∷ line 6 0 8000000000 (Return 0 2 1 Done no_samples)
    ∷ line 7 0 8000000000 (Start 0 1 0 15000000000)
    ∷ line 8 0 8000000000 (Start 0 2 1 15000000000)
    ∷ line 9 0 15000000000 (Return 0 1 0 Interrupted no_samples)
    ∷ line 10 0 15000000000 (Return 0 2 1 Interrupted no_samples)
    ∷ line 11 0 15000000000 (Release 0 1)
    ∷ line 12 0 15000000000 (Release 0 2)
    ∷ line 13 0 15000000000 (Take 1 1 0)
    ∷ line 14 0 15000000000 (Take 1 2 1)
    ∷ line 15 0 15000000000 (Start 1 1 0 46000000000)
    ∷ line 16 0 15000000000 (Start 1 2 1 46000000000)
    ∷ line 17 0 15000000000 (Close 0)
    ∷ line 18 0 23000000000 (Return 1 1 0 Done no_samples)
    ∷ line 19 0 23000000000 (Return 1 2 1 Done no_samples)
    ∷ line 20 0 23000000000 (Release 1 1)
    ∷ line 21 0 23000000000 (Release 1 2)
    ∷ line 22 0 23000000000 (Close 1)
    ∷ []

-- ---- late arrivals: of the plan with two arrivals, where the first thread comes behind the end

abbrev pub arrivals_late : List Entry
arrivals_late = line 1 0 2000000000 (Late 0 0) ∷ line 2 1 2000000000 (Late 0 1) ∷ line 3 0 2000000000 (Close 0) ∷ []

-- ---- a full journal: `constant-vus`, one user, ten seconds, in a journal of ten entries

abbrev pub full_plan : Plan
full_plan = record (plan_of 10000000000 30000000000 0 (ConstantVus (0 ∷ [])) 1 1) { entry_limit = 10 }

-- with iterations of one second: nine entries, and a fifth iteration with its Return has no place
abbrev pub full_lines : List Entry
full_lines =
    line 1 0 0 (Take 0 1 0)
    ∷ line 2 0 0 (Start 0 1 0 40000000000)
    ∷ line 3 0 1000000000 (Return 0 1 0 Done no_samples)
    ∷ line 4 0 1000000000 (Start 0 1 0 40000000000)
    ∷ line 5 0 2000000000 (Return 0 1 0 Done no_samples)
    ∷ line 6 0 2000000000 (Start 0 1 0 40000000000)
    ∷ line 7 0 3000000000 (Return 0 1 0 Done no_samples)
    ∷ line 8 0 3000000000 (Start 0 1 0 40000000000)
    ∷ line 9 0 4000000000 (Return 0 1 0 Done no_samples)
    ∷ []

-- ---- `externally-controlled`: one user of at most three, ten seconds

abbrev pub controlled_plan : Plan
controlled_plan = plan_of 10000000000 0 0 (ExternallyControlled 1 3 (0 ∷ 1 ∷ 2 ∷ [])) 3 3

-- thread 1 commands a second user, and then a stop, behind which both iterations are cut off
abbrev pub controlled_stopped : List Entry
controlled_stopped =
    line 1 0 0 (Take 0 1 0)
    ∷ line 2 0 0 (Start 0 1 0 10000000000)
    ∷ line 3 1 1000000000 (Control (commands.Vus 2))
    ∷ line 4 0 1000000000 (Take 0 2 1)
    ∷ line 5 0 1000000000 (Start 0 2 1 10000000000)
    ∷ line 6 1 2000000000 (Control commands.Stop)
    ∷ line 7 0 2000000000 (Stop 0)
    ∷ line 8 0 2000000000 (Return 0 1 0 Interrupted no_samples)
    ∷ line 9 0 2000000000 (Release 0 1)
    ∷ line 10 0 2000000000 (Return 0 2 1 Interrupted no_samples)
    ∷ line 11 0 2000000000 (Release 0 2)
    ∷ line 12 0 2000000000 (Close 0)
    ∷ []

-- ---- samples: `constant-vus`, two users, a script of six samples, in a journal of ten entries and ten
-- samples; the test has a name with one check, and a counter

abbrev pub sampling_plan : Plan
sampling_plan =
    record {
      parts = record { begin = 0; end = 1000000000; grace = 0; sample_room = 6; whole_items = 0; executor = ConstantVus (0 ∷ 1 ∷ []) } ∷ [];
      planned = 2;
      limit = 2;
      entry_limit = 10;
      names = record { counter = false; checks = 1 } ∷ record { counter = true; checks = 0 } ∷ [];
    }

-- the first of two users has started
abbrev pub sampling_lines : List Entry
sampling_lines = line 1 0 0 (Take 0 1 0) ∷ line 2 0 0 (Take 0 2 1) ∷ line 3 0 0 (Start 0 1 0 1000000000) ∷ []

-- a tally of one sample of a name, with a status and check bits
abbrev pub one_sample : ℕ → ℕ → ℕ → TallyView
one_sample of_name with_status with_bits =
    record {
      samples = record { name = of_name; status = with_status; span = 0; sent = 7; received = 0; failed = false; check_bits = with_bits } ∷ [];
      room = 6;
    }
