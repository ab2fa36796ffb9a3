-- What a position owns of users with slots: a case for each kind of work.
use Rattle.std.proofs.Common.{◌≡◌, ℕ, List, length, refl, subst, sym}
use Rattle.ld_stripe.specs.Striping.{Striping, owned_indices, shares_at}
use Rattle.ld_machine.specs.Requirement.{most_owned_users, owned_users}
use Rattle.ld_plan.specs.OwnedItems.{IsOwnedOf, ItemsView, view_of_items}
use Rattle.ld_plan.specs.OwnedSlots.{slot_executor, slot_item_count, slot_users}
use Rattle.ld_plan.specs.Stay.{IsSteady}
use Rattle.ld_plan.specs.declared.owned_slots.Work.{Work}
use Rattle.ld_plan.specs.declared.owned_slots.Work.TheVariants.{Counted, Endless}
use Rattle.ld_plan.proofs.StripingLemmas.{striping_of}

-- there is a user for each slot
pub slots_planned : (work : Work) (slots : List ℕ) → owned_users (slot_executor work slots) ≡ length slots
slots_planned (Counted iterations) slots = refl
slots_planned Endless slots = refl

pub slots_limit : (work : Work) (slots : List ℕ) → most_owned_users (slot_executor work slots) ≡ length slots
slots_limit (Counted iterations) slots = refl
slots_limit Endless slots = refl

-- and it is planned all along
pub slots_steady : (work : Work) (slots : List ℕ) → IsSteady (slot_executor work slots)
slots_steady (Counted iterations) slots = λ part t. refl
slots_steady Endless slots = λ part t. refl

-- what is seen of it
abbrev view_of : Work → ℕ → List ℕ → ItemsView
view_of work users slots = record { executor = slot_executor work slots; whole_items = slot_item_count work users }

-- the slots go by the striping of the positions itself
owned_of_positions : (work : Work) (users time : ℕ) (positions : Striping) (j : ℕ) →
    IsOwnedOf positions j (slot_users work users time) (view_of_items (view_of work users (owned_indices positions.owners j users)))
owned_of_positions (Counted iterations) users time positions j =
    let items = striping_of (shares_at positions users) in
    record { items = items.0; rescaled = items.1; owned_is = refl }
owned_of_positions Endless users time positions j =
    let items = striping_of (shares_at positions users) in
    record { items = items.0; rescaled = items.1; owned_is = refl }

pub owned_of_copy : (work : Work) (users time : ℕ) (positions copy : Striping) (j : ℕ) → copy ≡ positions →
    IsOwnedOf positions j (slot_users work users time) (view_of_items (view_of work users (owned_indices copy.owners j users)))
owned_of_copy work users time positions copy j same =
    subst (λ (s : Striping). IsOwnedOf positions j (slot_users work users time) (view_of_items (view_of work users (owned_indices s.owners j users))))
    (sym same) (owned_of_positions work users time positions j)
