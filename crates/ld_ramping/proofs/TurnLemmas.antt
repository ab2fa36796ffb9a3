-- What a stage does to a user: it turns it on or off within the stage, or leaves it on or off.
use Rattle.std.proofs.Common.{◌<◌, ◌≤◌, ◌+◌, ◌-◌, ◌*◌, ◌/◌, ℕ, Option, Some, None, arith, subst}
use Rattle.std.proofs.Common.{mul_comm, le_trans, mul-le-mul_left, ⊎_elim}
use Rattle.std.proofs.Math.Nat.{mul-div-le, div-le_of_le-mul}
use Rattle.std.proofs.lemmas.Bool.{cases_lt, le-leb, le-ltb, lt-leb, lt-ltb}
use Rattle.std.proofs.lemmas.Nat.{le-div}
use Rattle.ld_base.specs.declared.stage.Stage.{Stage}
use Rattle.ld_ramping.specs.Turns.{turn_among, turn_in}

-- a share of a length, rounded down
pub share : (length part whole : ℕ) → ℕ
share length part whole = length * part / whole

pub share-within : (length part whole : ℕ) → part ≤ whole → share length part whole ≤ length
unfolding share
share-within length part whole le =
    div-le_of_le-mul whole (subst (λ n. length * part ≤ n) (mul_comm length whole) (mul-le-mul_left length le))

-- a greater part is a greater share
pub share-le : (length less more whole : ℕ) → 0 < whole → less ≤ more → share length less whole ≤ share length more whole
unfolding share
share-le length less more whole some le =
    let down : length * less / whole * whole ≤ length * less =
    subst (λ n. n ≤ length * less) (mul_comm whole (length * less / whole)) (mul-div-le (length * less) whole) in
    le-div (length * less / whole) (length * more) whole some (le_trans down (mul-le-mul_left length le))

-- when the stage turns the user on, and off
pub turn_on : (user begin users : ℕ) → Stage → ℕ
turn_on user begin users stage = begin + stage.length - share stage.length (stage.target - user) (stage.target - users)

pub turn_off : (user begin users : ℕ) → Stage → ℕ
turn_off user begin users stage = begin + stage.length - share stage.length (user - 1 - stage.target) (users - stage.target)

-- what the stage does, and the turn that it makes for that
pub data Turned (user begin users : ℕ) (stage : Stage) : Option ℕ → Type 0 where
  up : users < user → user ≤ stage.target → Turned user begin users stage (Some (turn_on user begin users stage))
  down : stage.target < user → user ≤ users → Turned user begin users stage (Some (turn_off user begin users stage))
  stays : user ≤ users → user ≤ stage.target → Turned user begin users stage None
  lacks : users < user → stage.target < user → Turned user begin users stage None

pub turn_case : (user begin users : ℕ) (stage : Stage) → Turned user begin users stage (turn_in user begin users stage)
unfolding turn_on turn_off share
turn_case user begin users stage =
    let over = cases_lt stage.target user in
    ⊎_elim
    (λ (out : users < user). ⊎_elim
    (λ (above : stage.target < user).
    simp (lt-ltb users user out, lt-ltb stage.target user above, lt-leb user stage.target above, lt-leb user users out) (lacks out above))
    (λ (below : user ≤ stage.target).
    simp (lt-ltb users user out, le-leb user stage.target below) (up out below))
    over)
    (λ (among : user ≤ users). ⊎_elim
    (λ (above : stage.target < user).
    simp (le-ltb users user among, lt-ltb stage.target user above, le-leb user users among) (down above among))
    (λ (below : user ≤ stage.target).
    simp (le-ltb users user among, le-ltb stage.target user below) (stays among below))
    over)
    (cases_lt users user)

-- turns lie within their stage
pub turn_on-within : (user begin users : ℕ) (stage : Stage) → users < user → user ≤ stage.target →
    (begin ≤ turn_on user begin users stage) × (turn_on user begin users stage ≤ begin + stage.length)
unfolding turn_on
turn_on-within user begin users stage out below =
    let within = share-within stage.length (stage.target - user) (stage.target - users) (omega arith) in omega arith

pub turn_off-within : (user begin users : ℕ) (stage : Stage) → stage.target < user → user ≤ users →
    (begin ≤ turn_off user begin users stage) × (turn_off user begin users stage ≤ begin + stage.length)
unfolding turn_off
turn_off-within user begin users stage above among =
    let within = share-within stage.length (user - 1 - stage.target) (users - stage.target) (omega arith) in omega arith

-- the lower user of two is turned on first, and off last
pub turn_on-le : (user other begin users : ℕ) (stage : Stage) → users < user → user ≤ other → other ≤ stage.target →
    turn_on user begin users stage ≤ turn_on other begin users stage
unfolding turn_on
turn_on-le user other begin users stage out le below =
    let less = share-le stage.length (stage.target - other) (stage.target - user) (stage.target - users) (omega arith) (omega arith) in
    omega arith

pub turn_off-le : (user other begin users : ℕ) (stage : Stage) → stage.target < user → user ≤ other → other ≤ users →
    turn_off other begin users stage ≤ turn_off user begin users stage
unfolding turn_off
turn_off-le user other begin users stage above le among =
    let less = share-le stage.length (user - 1 - stage.target) (other - 1 - stage.target) (users - stage.target) (omega arith) (omega arith) in
    omega arith

-- since when a user is on, if it is among so many
pub data Since (user users begin : ℕ) : Option ℕ → Type 0 where
  was_on : (on : ℕ) → user ≤ users → on ≤ begin → Since user users begin (Some on)
  was_off : users < user → Since user users begin None

pub among_case : (user users moment : ℕ) → Since user users moment (turn_among user users moment)
among_case user users moment = ⊎_elim
    (λ (out : users < user). simp (lt-leb user users out) (was_off out))
    (λ (among : user ≤ users). simp (le-leb user users among) (was_on moment among (omega arith)))
    (cases_lt users user)
