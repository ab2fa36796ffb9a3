-- A table of moments by number, and the least moment of each block of numbers.
use Rattle.std.specs.Prelude.{◌≡◌, ◌+◌, ◌*◌, ◌^◌, ◌<◌, ◌≤◌, ℕ, Bool, true, false, List, Option, None, Some, if◌then◌else◌, length, min, nat_le, nat_lt, slice_index_or}
use Rattle.std.specs.Int.{div_ceil}
use Rattle.std.specs.Option.{option_map_or}

-- the moment of a number, or None where it has none, as behind the last number
abbrev pub moment_at : List (Option ℕ) → ℕ → Option ℕ
moment_at moments number = slice_index_or moments number None

-- whether there is a moment, and it is at most this one
abbrev pub comes_by : ℕ → Option ℕ → Bool
comes_by moment least = option_map_or (λ m. nat_le m moment) least false

-- whether there are two moments, and the first is at most the second
abbrev pub is_by : Option ℕ → Option ℕ → Bool
is_by moment None = false
is_by moment (Some least) = comes_by least moment

-- whether the number has a moment that is at most this one
abbrev pub is_due : List (Option ℕ) → ℕ → ℕ → Bool
is_due moments moment number = comes_by moment (moment_at moments number)

-- whether the moment is above the reading; each is where there is no reading
abbrev pub is_above : Option ℕ → ℕ → Bool
is_above None moment = true
is_above (Some reading) moment = nat_lt reading moment

-- the moment, if there is one above the reading
abbrev pub kept_above : Option ℕ → Option ℕ → Option ℕ
kept_above reading None = None
kept_above reading (Some moment) = if is_above reading moment then Some moment else None

-- the lesser of two moments, or the one that there is
abbrev pub lesser_of : Option ℕ → Option ℕ → Option ℕ
lesser_of None other = other
lesser_of (Some a) None = Some a
lesser_of (Some a) (Some b) = Some (min a b)

-- the least moment above the reading of the numbers from `from` on and below `to`, or None where they have none: a
-- number has it, and whatever moment above the reading another has, it is at most that one
pub record IsLeastAmong (moments : List (Option ℕ)) (reading : Option ℕ) (from to : ℕ) (least : Option ℕ) : Type 0 where
  pub there : (m : ℕ) → least ≡ Some m → (k : ℕ) × (from ≤ k) × (k < to) × (moment_at moments k ≡ Some m) × (is_above reading m ≡ true)
  pub each : (k m : ℕ) → from ≤ k → k < to → moment_at moments k ≡ Some m → is_above reading m ≡ true → (l : ℕ) × (least ≡ Some l) × (l ≤ m)

-- the first due number from `from` on and below `to`, or None where none of them is due
pub record IsFirstDue (moments : List (Option ℕ)) (moment from to : ℕ) (first : Option ℕ) : Type 0 where
  pub there : (n : ℕ) → first ≡ Some n → (from ≤ n) × (n < to) × (is_due moments moment n ≡ true) × ((k : ℕ) → from ≤ k → k < n → is_due moments moment k ≡ false)
  pub none : first ≡ None → (k : ℕ) → from ≤ k → k < to → is_due moments moment k ≡ false

-- there is a least moment for each block of 32 numbers, and the count of the numbers is a u32
pub record IsKept (moments leasts : List (Option ℕ)) : Type 0 where
  pub small : length moments < 2 ^ 32
  pub room : length leasts ≡ div_ceil (length moments) 32
  pub each : (block : ℕ) → IsLeastAmong moments None (32 * block) (32 * block + 32) (moment_at leasts block)
