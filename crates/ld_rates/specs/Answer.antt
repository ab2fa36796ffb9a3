-- How a due arrival is answered.
use Rattle.std.specs.Prelude.{ℕ, nat_le, nat_lt, Option, None, Some, if◌then◌else◌}
use Rattle.ld_base.specs.declared.wish.Wish.{Wish}
use Rattle.ld_base.specs.declared.wish.Wish.TheVariants.{Start, More, Drop, Late}
use Rattle.ld_machine.specs.Moment.{moment_after}
use Rattle.ld_rates.specs.RatesView.{RatesView}

-- the moment at which an arrival is due, from the run's start
abbrev pub due_of : RatesView → ℕ × ℕ → ℕ
due_of state pair = moment_after state.course.begin pair.1

-- until when an iteration may last
abbrev pub until_moment : RatesView → ℕ
until_moment state = moment_after state.course.end state.course.grace

-- before the end: it starts on the idle user, if there is one; else on one more user, if one may be held;
-- else it is dropped
abbrev pub answer_before_end : RatesView → ℕ × ℕ → Option ℕ → Wish
answer_before_end state pair (Some user) = Start user pair.0 (until_moment state) (due_of state pair)
answer_before_end state pair None =
    if nat_lt state.held state.max
    then More pair.0 (until_moment state) (due_of state pair) state.held
    else Drop pair.0 (due_of state pair)

-- at the end, or behind it, the arrival is late
abbrev pub answer_of : RatesView → ℕ × ℕ → Option ℕ → ℕ → Wish
answer_of state pair idle reading =
    if nat_le state.course.end reading then Late pair.0 (due_of state pair) else answer_before_end state pair idle
