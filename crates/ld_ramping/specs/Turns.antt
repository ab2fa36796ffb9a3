-- Turns: the moments at which the stages of a ramp turn a user on or off, in nanoseconds from the scenario's begin.
-- Users are counted from 1, and so many users of a ramp are those up to that number.
use Rattle.std.specs.Prelude.{ℕ, ◌+◌, ◌-◌, ◌*◌, ◌/◌, ◌++◌, ◌&&◌, List, [], ◌∷◌, Option, Some, None, nat_le, nat_lt, if◌then◌else◌}
use Rattle.ld_base.specs.declared.stage.Stage.{Stage}

-- when a stage, which begins at `begin` with so many users, turns a user on or off, if it does: on the way up to its
-- target each user is on as long before the stage's end as the users above it take, and on the way down each is off
-- as long before the end as the users below it take; all shares are rounded down
abbrev pub turn_in : (user begin users : ℕ) → Stage → Option ℕ
turn_in user begin users stage =
    if nat_lt users user && nat_le user stage.target
    then Some (begin + stage.length - stage.length * (stage.target - user) / (stage.target - users))
    else if nat_lt stage.target user && nat_le user users
    then Some (begin + stage.length - stage.length * (user - 1 - stage.target) / (users - stage.target))
    else None

-- a turn as a list
abbrev pub listed : Option ℕ → List ℕ
listed None = []
listed (Some moment) = moment ∷ []

-- a turn at a moment, where a user is among so many
abbrev pub turn_among : (user users moment : ℕ) → Option ℕ
turn_among user users moment = if nat_le user users then Some moment else None

-- a user's turns in stages, of which the first begins at `begin` with so many users, and at the end of the last one,
-- where all go off
unfoldable pub turns_in : (user begin users : ℕ) → List Stage → List ℕ
turns_in user begin users [] = listed (turn_among user users begin)
turns_in user begin users (stage ∷ later) =
    listed (turn_in user begin users stage) ++ turns_in user (begin + stage.length) stage.target later

-- all turns of a user, by turns on and off, where so many users are on from the scenario's begin
abbrev pub turns : (user start : ℕ) → List Stage → List ℕ
turns user start stages = listed (turn_among user start 0) ++ turns_in user 0 start stages
