use Rattle.std.proofs.Common.{◌≡◌, ◌<◌, ◌*◌, ℕ, Some, length, slice_get}
use Rattle.ld_iters.proofs.next_items.NextItems.new.Given as goal

abbrev pub invariant-loop-slot : goal.invariant-loop-slot
invariant-loop-slot l = (length l.next.items ≡ l.slot) × ((k : ℕ) → k < l.slot → slice_get l.next.items k ≡ Some (k * l.each))
