-- The slots that an instance owns of ramping users, and how the pool's machine has them.
use Rattle.std.specs.Prelude.{◌<◌, List, All, map}
use Rattle.std.specs.List.Sorted.{IsStrictlyIncreasing}
use Rattle.ld_machine.specs.Plan as machine
use Rattle.ld_ramping.specs.Rising.{AreRising}
use Rattle.ld_ramping.specs.declared.interval.Interval.{Interval}
use Rattle.ld_ramping.specs.declared.slot.Slot.{Slot}

-- their numbers rise and are few enough, and the intervals of each rise
pub record AreOwned (slots : List Slot) : Type 0 where
  pub numbers : IsStrictlyIncreasing (map (λ (slot : Slot). slot.number) slots)
  pub few : All (λ (slot : Slot). slot.number < 1000) slots
  pub rising : All (λ (slot : Slot). AreRising slot.intervals) slots

-- an interval and a slot, as the machine has them
abbrev pub interval_of : Interval → machine.Interval
interval_of interval = record { on = interval.on; off = interval.off }

abbrev pub slot_of : Slot → machine.RampingSlot
slot_of slot = record { slot = slot.number; intervals = map interval_of slot.intervals }
