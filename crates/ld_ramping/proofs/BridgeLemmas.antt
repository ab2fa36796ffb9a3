-- What the machine says of ramping users, said by their slots.
use Rattle.std.proofs.Common.{◌≡◌, ◌∙◌, ◌==◌, ℕ, Bool, true, false, cond, List, [], ◌∷◌, Option, None, Some, find, flat_map, map, refl, sym, ap}
use Rattle.std.specs.Prelude.{is_some, option_map}
use Rattle.std.specs.Option.{option_map_or}
use Rattle.ld_machine.specs.Moment.{moment_after}
use Rattle.ld_machine.specs.Plan as machine
use Rattle.ld_machine.specs.Scenario.{interval_at, is_within}
use Rattle.ld_machine.specs.Wait.{interval_moments}
use Rattle.ld_ramping.specs.Owned.{interval_of, slot_of}
use Rattle.ld_ramping.specs.Standing.{StandingView, all_turns, interval_on, intervals_at, lies_in, numbers_of, slot_turns}
use Rattle.ld_ramping.specs.declared.interval.Interval.{Interval}
use Rattle.ld_ramping.specs.declared.slot.Slot.{Slot}

pub numbers_kept : (slots : List Slot) → map (λ (r : machine.RampingSlot). r.slot) (map slot_of slots) ≡ numbers_of slots
numbers_kept [] = refl
numbers_kept (x ∷ rest) = ap (λ (more : List ℕ). x.number ∷ more) (numbers_kept rest)

module _ (part : machine.Part) (t : ℕ) where
  found_within : (xs : List Interval) → find (is_within part t) (map interval_of xs) ≡ option_map interval_of (find (lies_in part.begin t) xs)
  found_within [] = refl
  found_within (x ∷ rest) =
      let P : Bool → Type 0 = λ b. cond b (Some (interval_of x)) (find (is_within part t) (map interval_of rest))
      ≡ option_map interval_of (cond b (Some x) (find (lies_in part.begin t) rest)) in
      let by : P (lies_in part.begin t x) = elim (lies_in part.begin t x) as P [ true ↦ refl | false ↦ found_within rest ] in
      by

  found_at : (slots : List Slot) (slot : ℕ) → interval_at part (map slot_of slots) slot t ≡ option_map interval_of (find (lies_in part.begin t) (intervals_at slots slot))
  found_at [] slot = refl
  found_at (x ∷ rest) slot =
      let P : Bool → Type 0 = λ b. cond b (find (is_within part t) (map interval_of x.intervals)) (interval_at part (map slot_of rest) slot t)
      ≡ option_map interval_of (find (lies_in part.begin t) (option_map_or (λ (s : Slot). s.intervals) (cond b (Some x) (find (λ (s : Slot). s.number == slot) rest)) [])) in
      let by : P (x.number == slot) = elim (x.number == slot) as P [ true ↦ found_within x.intervals | false ↦ found_at rest slot ] in
      by

  pub interval_is : (v : StandingView) (slot : ℕ) → v.begin ≡ part.begin → interval_at part (map slot_of v.slots) slot t ≡ option_map interval_of (interval_on v slot t)
  interval_is v slot begins = found_at v.slots slot ∙ ap (λ (b : ℕ). option_map interval_of (find (lies_in b t) (intervals_at v.slots slot))) (sym begins)

still_some : {A B : Type 0} (f : A → B) (o : Option A) → is_some (option_map f o) ≡ is_some o
still_some f None = refl
still_some f (Some x) = refl

pub on_is : (part : machine.Part) (t : ℕ) (v : StandingView) (slot : ℕ) → v.begin ≡ part.begin →
    is_some (interval_at part (map slot_of v.slots) slot t) ≡ is_some (interval_on v slot t)
on_is part t v slot begins = ap is_some (interval_is part t v slot begins) ∙ still_some interval_of (interval_on v slot t)

slot_moments : (part : machine.Part) (xs : List Interval) → flat_map (interval_moments part) (map interval_of xs) ≡ slot_turns part.begin xs
slot_moments part [] = refl
slot_moments part (x ∷ rest) =
    ap (λ (more : List ℕ). moment_after part.begin x.on ∷ moment_after part.begin x.off ∷ more) (slot_moments part rest)

all_moments : (part : machine.Part) (slots : List Slot) →
    flat_map (λ (r : machine.RampingSlot). flat_map (interval_moments part) r.intervals) (map slot_of slots)
    ≡ flat_map (λ (s : Slot). slot_turns part.begin s.intervals) slots
all_moments part [] = refl
all_moments part (x ∷ rest) = rw (slot_moments part x.intervals, all_moments part rest) refl

pub turns_are : (part : machine.Part) (v : StandingView) → v.begin ≡ part.begin →
    flat_map (λ (r : machine.RampingSlot). flat_map (interval_moments part) r.intervals) (map slot_of v.slots) ≡ all_turns v
turns_are part v begins = all_moments part v.slots ∙ ap (λ (b : ℕ). flat_map (λ (s : Slot). slot_turns b s.intervals) v.slots) (sym begins)
