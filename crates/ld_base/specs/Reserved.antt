-- memory that is reserved for a list
use Rattle.std.specs.Prelude.{ℕ, ◌<◌, ◌≤◌, ◌^◌}

-- a list of this length keeps to its room, for which there is memory, and whose number is a u32
pub record IsReserved (len room capacity : ℕ) : Type 0 where
  pub within : len ≤ room
  pub reserved : room ≤ capacity
  pub counted : room < 2 ^ 32
