-- A pool of users, and what its fields keep true.
use Rattle.std.specs.Prelude.{◌≡◌, ◌+◌, ◌≤◌, ℕ, List, Option, length}
use Rattle.ld_base.specs.Reserved.{IsReserved}
use Rattle.ld_pool.specs.Users.{busy_count, free_numbers, until_at}
use Rattle.ld_pool.specs.declared.user.User.{User}
use Rattle.ld_set.specs.Moments.{moment_at}
use Rattle.ld_set.specs.SetView.{SetView}

-- a pool as contracts see it: the users that were made, in order of their numbers from 1, and how
-- many there may be
pub record PoolView : Type 0 where
  pub users : List User
  pub limit : ℕ

-- the table has the `until` of each user by its number, and room for each number up to the limit
pub record HasUntils (users : List User) (limit : ℕ) (untils : List (Option ℕ)) : Type 0 where
  pub room : length untils ≡ limit + 1
  pub each : (number : ℕ) → moment_at untils number ≡ until_at users number

-- the users keep to the limit, for which there is memory; the set holds the numbers of the free ones, and has room for
-- each number up to the limit; the table has the `until`s of the busy ones; and so many are busy
pub record IsKept (users : List User) (free : SetView) (untils : List (Option ℕ)) (busy limit capacity : ℕ) : Type 0 where
  pub room : IsReserved (length users) limit capacity
  pub few : limit ≤ 1000
  pub below : free.limit ≡ limit + 1
  pub listed : free.numbers ≡ free_numbers users
  pub timed : HasUntils users limit untils
  pub playing : busy ≡ busy_count users
