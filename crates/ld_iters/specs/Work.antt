-- What slots have left to start.
use Rattle.std.specs.Prelude.{◌≡◌, ◌<◌, ◌*◌, ◌+◌, ◌==◌, ℕ, Bool, false, List, Option, None, Some, slice_get, slice_set}
use Rattle.std.specs.Option.{option_and_then}
use Rattle.ld_iters.specs.declared.work.Work.{Work}
use Rattle.ld_iters.specs.declared.work.Work.TheVariants.{Counted, Endless}

-- the item that a slot starts next: its next one, or the slot's number where there is no end
abbrev pub next_item : Work → ℕ → Option ℕ
next_item (Counted items) slot = slice_get items.next slot
next_item Endless slot = Some slot

-- the next item of the first of these slots, where each slot has a number of items
abbrev pub least_left : Work → List ℕ → Option ℕ
least_left (Counted items) going = option_and_then (λ slot. slice_get items.next slot) (slice_get going 0)
least_left Endless going = None

-- The slot's next item is passed over: behind it comes the one above, and `last` says that there is none. Nothing is said
-- of a slot that has no next item.
abbrev pub IsPassed : ℕ → Work → Work → Bool → Type 0
IsPassed slot (Counted items) new last =
    (item : ℕ) → slice_get items.next slot ≡ Some item → item < slot * items.each + items.each →
    (new ≡ Counted (record items { next = slice_set items.next slot (item + 1) })) × (last ≡ (item + 1 == slot * items.each + items.each))
IsPassed slot Endless new last = (new ≡ Endless) × (last ≡ false)
