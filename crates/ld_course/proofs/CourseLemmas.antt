-- Each course is that of a scenario.
use Rattle.std.proofs.Common.{◌≡◌, ◌∙◌, ℕ, Bool, nat_le, [], ap, refl, sym}
use Rattle.ld_course.specs.Course.{course_of}
use Rattle.ld_course.specs.declared.course.Course.{Course}
use Rattle.ld_course.specs.declared.level.Level.{Level}
use Rattle.ld_course.specs.declared.level.Level.TheVariants as levels
use Rattle.ld_machine.specs.Moment.{moment_after}
use Rattle.ld_machine.specs.Plan.{ConstantVus, hard_moment}
use Rattle.ld_machine.specs.State as machine
use Rattle.ld_machine.specs.Scenario.{Scenario, has_ended}

-- a scenario of constant users, of which it owns none, with this course
abbrev with_course : ℕ → ℕ → ℕ → machine.Level → Bool → Scenario
with_course begin end grace level closed =
    record {
      part = record { begin = begin; end = end; grace = grace; sample_room = 0; whole_items = 0; executor = ConstantVus [] };
      share = record { level = level; closed = closed; held = []; ended = [] };
      controls = record { paused = closed; vus = 0; vus_max = 0 };
    }

-- some scenario has the course
abbrev pub IsOfScenario : Course → Type 0
IsOfScenario course = (s : Scenario) × (course ≡ course_of s)

by_level : (begin end grace : ℕ) (level : Level) (closed : Bool) →
    IsOfScenario (record { begin = begin; end = end; grace = grace; level = level; closed = closed })
by_level begin end grace levels.Runs closed = (with_course begin end grace machine.Runs closed, refl)
by_level begin end grace (levels.StartsNothing commanded) closed = (with_course begin end grace (machine.StartsNothing commanded) closed, refl)
by_level begin end grace levels.Halted closed = (with_course begin end grace machine.Halted closed, refl)

pub of_scenario : (course : Course) → IsOfScenario course
of_scenario course = by_level course.begin course.end course.grace course.level course.closed

-- so what a call of a course says of each scenario with this course, it says of the course
pub ended_is : (course : Course) (reading : ℕ) (ended : Bool) → ((s : Scenario) → course ≡ course_of s → ended ≡ has_ended s reading) →
    ended ≡ nat_le course.end reading
ended_is course reading ended says =
    let (s, is) = of_scenario course in
    says s is ∙ ap (λ (c : Course). nat_le c.end reading) (sym is)

pub hard_moment_is : (course : Course) (moment : ℕ) → ((s : Scenario) → course ≡ course_of s → moment ≡ hard_moment s.part) →
    moment ≡ moment_after course.end course.grace
hard_moment_is course moment says =
    let (s, is) = of_scenario course in
    says s is ∙ ap (λ (c : Course). moment_after c.end c.grace) (sym is)
