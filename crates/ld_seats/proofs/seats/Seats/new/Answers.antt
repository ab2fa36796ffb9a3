use Rattle.std.proofs.Common.{◌≡◌, ℕ, replicate}
use Rattle.std.proofs.lemmas.List.{length-replicate}
use Rattle.ld_seats.proofs.seats.Seats.new.Goals as goal

pub invariant_of-result : goal.invariant_of-result
invariant_of-result c =
    let slots : c.in_ok-slots.slots.items ≡ replicate 1001 0 = c.in_ok-slots.ensures.items_if_clones_equal (λ y same. same) in
    let users : c.in_ok-users.users.items ≡ replicate 1000 0 = c.in_ok-users.ensures.items_if_clones_equal (λ y same. same) in
    rw (slots, users) (length-replicate {A = ℕ} 1001 0, length-replicate {A = ℕ} 1000 0)
