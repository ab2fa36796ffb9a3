-- The course of a scenario of the machine.
use Rattle.std.specs.Prelude.{◌≡◌, ◌++◌, ℕ, List, option_map, option_to_list}
use Rattle.ld_base.specs.declared.act.Act.{Act}
use Rattle.ld_course.specs.declared.course.Course.{Course}
use Rattle.ld_course.specs.declared.level.Level.{Level}
use Rattle.ld_course.specs.declared.level.Level.TheVariants.{Runs, StartsNothing, Halted}
use Rattle.ld_machine.specs.Plan.{due_moment}
use Rattle.ld_machine.specs.Scenario.{Scenario, least_open_arrival}
use Rattle.ld_machine.specs.ShareEffect.{share_after}
use Rattle.ld_machine.specs.State as machine
use Rattle.ld_machine.specs.Wait.{ramping_moments}

-- a level of the machine
abbrev pub level_of : machine.Level → Level
level_of machine.Runs = Runs
level_of (machine.StartsNothing commanded) = StartsNothing commanded
level_of machine.Halted = Halted

-- the course that a scenario has
abbrev pub course_of : Scenario → Course
course_of s =
    record {
      begin = s.part.begin;
      end = s.part.end;
      grace = s.part.grace;
      level = level_of s.share.level;
      closed = s.share.closed;
    }

-- it is the course of each scenario with these moments that is at its opening
abbrev pub IsOpening : ℕ → ℕ → ℕ → Course → Type 0
IsOpening begin end grace course =
    (s : Scenario) → s.part.begin ≡ begin → s.part.end ≡ end → s.part.grace ≡ grace → s.share ≡ machine.opening_share → course ≡ course_of s

-- whichever scenario has the old course: the new one is that of what the act, by any thread, makes of it
abbrev pub Follows : Course → Course → Act → ℕ → Type 0
Follows old new act reading =
    (s : Scenario) (thread : ℕ) → old ≡ course_of s → new ≡ course_of (record s { share = share_after s.part thread reading act s.share })

-- the moments that a running scenario has of its executor: that of its least open arrival, and those of its slots
abbrev pub own_moments : Scenario → List ℕ
own_moments s =
    option_to_list (option_map (due_moment s.part) (least_open_arrival s)) ++ ramping_moments s.part.executor s.part
