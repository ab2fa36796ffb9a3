-- How many ramping users are on at a moment, in nanoseconds from the scenario's begin.
use Rattle.std.specs.Prelude.{ℕ, Bool, List, ◌&&◌, count_by, fold, map, max, nat_le, nat_lt}
use Rattle.std.specs.List.{list_any, range_with_len}
use Rattle.ld_base.specs.declared.stage.Stage.{Stage}
use Rattle.ld_ramping.specs.declared.interval.Interval.{Interval}
use Rattle.ld_ramping.specs.Intervals.{intervals_of}

-- whether a moment lies in an interval
abbrev pub has_moment : (moment : ℕ) → Interval → Bool
has_moment moment interval = nat_le interval.on moment && nat_lt moment interval.off

-- whether a user is on at a moment: the moment lies in one of its intervals
abbrev pub is_on : (user start : ℕ) → List Stage → (moment : ℕ) → Bool
is_on user start stages moment = list_any (has_moment moment) (intervals_of user start stages)

-- the greatest number of users: the greatest of the number at the begin and the stages' targets
abbrev pub ramp_users : ℕ → List Stage → ℕ
ramp_users start stages = fold max start (map (λ stage. stage.target) stages)

-- how many of the users, which are counted from 1, are on at a moment
abbrev pub active : (start : ℕ) → List Stage → (moment : ℕ) → ℕ
active start stages moment =
    count_by (λ user. is_on user start stages moment) (range_with_len 1 (ramp_users start stages))
