-- The intervals in which a ramping user is on.
use Rattle.std.specs.Prelude.{ℕ, List, [], ◌∷◌, filter, nat_lt}
use Rattle.ld_base.specs.declared.stage.Stage.{Stage}
use Rattle.ld_ramping.specs.declared.interval.Interval.{Interval}
use Rattle.ld_ramping.specs.Turns.{turns}

-- the longest that all stages may take together: thirty days, in nanoseconds
abbrev pub longest : ℕ
longest = 2592000000000000

-- turns in pairs: each one on with the one off behind it
unfoldable pub paired : List ℕ → List Interval
paired [] = []
paired (_ ∷ []) = []
paired (on ∷ off ∷ later) = record { on = on; off = off } ∷ paired later

-- the intervals between turns that aren't empty
abbrev pub spans : List ℕ → List Interval
spans moments = filter (λ interval. nat_lt interval.on interval.off) (paired moments)

-- the intervals of a user, where so many users are on from the scenario's begin
abbrev pub intervals_of : (user start : ℕ) → List Stage → List Interval
intervals_of user start stages = spans (turns user start stages)
