-- The slots of ramping users at a reading. Readings and moments are in nanoseconds from the run's start.
use Rattle.std.specs.Prelude.{◌≡◌, ◌<◌, ◌≤◌, ◌==◌, ◌&&◌, ℕ, Bool, List, [], ◌∷◌, Option, Some, find, flat_map, is_some, map, nat_le, nat_lt, slice_get}
use Rattle.std.specs.Option.{option_map_or}
use Rattle.ld_machine.specs.Moment.{moment_after}
use Rattle.ld_set.specs.SetView.{SetView, is_among}
use Rattle.ld_ramping.specs.Owned.{AreOwned}
use Rattle.ld_ramping.specs.declared.interval.Interval.{Interval}
use Rattle.ld_ramping.specs.declared.slot.Slot.{Slot}

-- the owned slots, and their scenario's begin
pub record StandingView : Type 0 where
  pub begin : ℕ
  pub slots : List Slot

-- the numbers of slots
abbrev pub numbers_of : List Slot → List ℕ
numbers_of slots = map (λ (slot : Slot). slot.number) slots

-- the reading lies in the interval, of a scenario with this begin
abbrev pub lies_in : (begin reading : ℕ) → Interval → Bool
lies_in begin reading interval = nat_le (moment_after begin interval.on) reading && nat_lt reading (moment_after begin interval.off)

-- the intervals of the slot of a number
abbrev pub intervals_at : List Slot → ℕ → List Interval
intervals_at slots number = option_map_or (λ (slot : Slot). slot.intervals) (find (λ (slot : Slot). slot.number == number) slots) []

-- the interval of a slot that the reading lies in
abbrev pub interval_on : StandingView → (slot reading : ℕ) → Option Interval
interval_on standing slot reading = find (lies_in standing.begin reading) (intervals_at standing.slots slot)

-- the slot is on: the reading lies in one of its intervals
abbrev pub stands_on : StandingView → (slot reading : ℕ) → Bool
stands_on standing slot reading = is_some (interval_on standing slot reading)

-- the moments at which an interval begins and ends, those of a slot's intervals, and those of all slots
abbrev pub interval_turns : ℕ → Interval → List ℕ
interval_turns begin interval = moment_after begin interval.on ∷ moment_after begin interval.off ∷ []

abbrev pub slot_turns : ℕ → List Interval → List ℕ
slot_turns begin intervals = flat_map (interval_turns begin) intervals

abbrev pub all_turns : StandingView → List ℕ
all_turns standing = flat_map (λ (slot : Slot). slot_turns standing.begin slot.intervals) standing.slots

-- so many of the intervals are over at the reading, and the one behind them isn't
pub record IsPlace (begin reading : ℕ) (intervals : List Interval) (place : ℕ) : Type 0 where
  pub over : (k : ℕ) (interval : Interval) → k < place → slice_get intervals k ≡ Some interval → moment_after begin interval.off ≤ reading
  pub next : (interval : Interval) → slice_get intervals place ≡ Some interval → reading < moment_after begin interval.off

-- the slots are an instance's, and the numbers of those that are on at the reading are in the set
pub record IsSnapshot (standing : StandingView) (reading : ℕ) (on : SetView) : Type 0 where
  pub owned : AreOwned standing.slots
  pub limit : on.limit ≡ 1000
  pub each : (slot : ℕ) → is_among on.numbers slot ≡ stands_on standing slot reading
