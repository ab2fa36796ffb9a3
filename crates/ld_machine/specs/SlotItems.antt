-- The iterations of slots, where each slot has the same number of them.
use Rattle.std.specs.Prelude.{ℕ, ◌*◌, ◌+◌, List, map, flat_map}
use Rattle.std.specs.List.{range_with_len}
use Rattle.ld_machine.specs.Plan.{SlotItem}

-- the iterations of one slot, n of them, numbered in a row over the whole test: slot 0 has the first n
abbrev pub items_of_slot : ℕ → ℕ → List SlotItem
items_of_slot n slot = map (λ i. record { item = slot * n + i; slot = slot }) (range_with_len 0 n)

-- those of some slots, in order
abbrev pub items_of_slots : ℕ → List ℕ → List SlotItem
items_of_slots n slots = flat_map (items_of_slot n) slots
