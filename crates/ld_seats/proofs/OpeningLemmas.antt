-- The seating at a scenario's opening.
use Rattle.std.proofs.Common.{Contains, ◌≡◌, ◌<◌, ℕ, List, [], arith, refl, sym, subst}
use Rattle.std.specs.List.{range_with_len}
use Rattle.std.specs.List.Sorted.{IsStrictlyIncreasing}
use Rattle.ld_course.proofs.HeldLemmas.{opening_order}
use Rattle.ld_machine.specs.State as machine
use Rattle.ld_machine.proofs.FirstOfAllLemmas.{In-of}
use Rattle.ld_machine.proofs.FreeLemmas.{range_in}
use Rattle.ld_machine.proofs.ListLemmas.{In-filter, nothing_in}
use Rattle.ld_set.specs.Words.{has_bit, numbers_of}
use Rattle.ld_set.proofs.NumberLemmas.{kept_rises}
use Rattle.ld_seats.specs.Seating.{IsOpening, SeatingView}
use Rattle.ld_seats.specs.Seats.{SeatsView}
use Rattle.ld_seats.proofs.NumbersLemmas.{all_pass}

-- the numbers of a set rise, and are below its limit
pub numbers_rise : (words : List ℕ) (limit : ℕ) (numbers : List ℕ) → numbers ≡ numbers_of words limit → IsStrictlyIncreasing numbers
numbers_rise words limit numbers is = subst IsStrictlyIncreasing (sym is) (kept_rises (has_bit words) limit 0)

pub numbers_below : (words : List ℕ) (limit : ℕ) (numbers : List ℕ) → numbers ≡ numbers_of words limit → (slot : ℕ) → Contains numbers slot → slot < limit
numbers_below words limit numbers is slot contains =
    let at = In-of (subst (λ (k : List ℕ). Contains k slot) is contains) in
    let within = range_in slot 0 limit (In-filter (has_bit words) slot (range_with_len 0 limit) at).0 in
    omega arith

-- nobody is held, and each owned slot is vacant
abbrev opening_seating : ℕ → List ℕ → SeatsView → SeatingView
opening_seating slots owned seats = record { slots = slots; vacant = owned; idle = []; seats = seats; held = 0 }

pub opening_is : (slots : ℕ) (owned : List ℕ) (seats : SeatsView) → IsStrictlyIncreasing owned → ((slot : ℕ) → Contains owned slot → slot < slots) →
    IsOpening owned (opening_seating slots owned seats)
opening_is slots owned seats rises below s share has mine =
    record {
      slotted = has;
      vacant = rw (share, mine) (sym (all_pass owned));
      idle = λ k. rw share refl;
      seats = λ h contains. absurd (nothing_in (In-of (subst (λ (x : machine.Share). Contains x.held h) share contains)));
      held = rw share refl;
      rising = subst IsStrictlyIncreasing (sym mine) rises;
      few = λ slot contains. below slot (subst (λ (k : List ℕ). Contains k slot) mine contains);
      order = opening_order s share;
    }
