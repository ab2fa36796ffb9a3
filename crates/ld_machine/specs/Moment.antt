-- Moments: nanoseconds from the run's start, which stop at the last one.
use Rattle.std.specs.Prelude.{ℕ, ◌+◌, ◌-◌, ◌^◌, min}

-- the last moment
abbrev pub last_moment : ℕ
last_moment = 2 ^ 64 - 1

-- the moment that stands so far behind another, or else the last moment
abbrev pub moment_after : ℕ → ℕ → ℕ
moment_after moment span = min (moment + span) last_moment
