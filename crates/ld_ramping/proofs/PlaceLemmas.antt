-- What the place of a reading among intervals that rise says.
use Rattle.std.proofs.Common.{Contains, ◌≡◌, ◌∙◌, ◌<◌, ◌≤◌, ◌&&◌, ℕ, zero, suc, Bool, true, false, cond, List, [], ◌∷◌, length, Option, None, Some, find, nat_le, nat_lt, slice_get, if◌then◌else◌, arith, refl, sym, ap, subst, inl, inr, ◌⊎◌}
use Rattle.std.proofs.Math.Decide.{dec_lt}
use Rattle.std.proofs.lemmas.Bool.{le-ltb, lt-leb, lt-ltb}
use Rattle.ld_machine.specs.Moment.{moment_after}
use Rattle.ld_machine.specs.Together.{least_above, lesser}
use Rattle.ld_machine.proofs.CandidateLemmas.{above_is, above_none, flat-cons}
use Rattle.ld_machine.proofs.FirstOfAllLemmas.{In-of}
use Rattle.ld_machine.proofs.ListLemmas.{In, here, there, In-flat_map, in_two, Contains-from_In}
use Rattle.ld_ramping.specs.Rising.{AreRising}
use Rattle.ld_ramping.specs.Standing.{IsPlace, interval_turns, lies_in, slot_turns}
use Rattle.ld_ramping.specs.declared.interval.Interval.{Interval}

-- a later span leads to a later moment
pub after_climbs : (begin early late : ℕ) → early ≤ late → moment_after begin early ≤ moment_after begin late
after_climbs begin early late le = omega arith

-- ---- intervals that rise

pub later_rise : (x : Interval) (xs : List Interval) → AreRising (x ∷ xs) → AreRising xs
later_rise x xs rising =
    record {
      some = λ k d within. rising.some (suc k) d (omega arith);
      order = λ i j d less within. rising.order (suc i) (suc j) d (omega arith) (omega arith);
    }

head_some : (x : Interval) (xs : List Interval) → AreRising (x ∷ xs) → x.on < x.off
head_some x xs rising = rising.some 0 x (omega arith)

in_some : (i : Interval) (xs : List Interval) → AreRising xs → Contains xs i → i.on < i.off
in_some i xs rising at = subst (λ (z : Interval). z.on < z.off) at.2 (rising.some at.0 i at.1)

head_before : (x : Interval) (xs : List Interval) → AreRising (x ∷ xs) → (i : Interval) → Contains xs i → x.off ≤ i.on
head_before x xs rising i at =
    let within : at.0 < length xs = at.1 in
    subst (λ (z : Interval). x.off ≤ z.on) at.2 (rising.order 0 (suc at.0) i (omega arith) (omega arith))

later_place : (begin reading : ℕ) (x : Interval) (xs : List Interval) (place : ℕ) → IsPlace begin reading (x ∷ xs) (suc place) → IsPlace begin reading xs place
later_place begin reading x xs place is =
    record {
      over = λ k i less at. is.over (suc k) i (omega arith) at;
      next = λ i at. is.next i at;
    }

module _ (begin reading : ℕ) where
  -- ---- the interval that the reading lies in

  abbrev lies : Interval → Bool
  lies = lies_in begin reading

  none_yet : (xs : List Interval) → ((i : Interval) → In i xs → reading < moment_after begin i.on) → find lies xs ≡ None
  none_yet [] above = refl
  none_yet (x ∷ xs) above =
      rw (lt-leb (moment_after begin x.on) reading (above x here)) (none_yet xs (λ i at. above i (there at)))

  -- the interval at the place, if the reading lies in it
  abbrev pub lying : Option Interval → Option Interval
  lying None = None
  lying (Some interval) = if nat_le (moment_after begin interval.on) reading then Some interval else None

  and_true : (b : Bool) → (b && true) ≡ b
  and_true true = refl
  and_true false = refl

  and_false : (b : Bool) → (b && false) ≡ false
  and_false true = refl
  and_false false = refl

  pub found_lying : (xs : List Interval) (place : ℕ) → AreRising xs → IsPlace begin reading xs place → find lies xs ≡ lying (slice_get xs place)
  found_lying [] place rising is = refl
  found_lying (x ∷ xs) (suc place) rising is =
      let over : moment_after begin x.off ≤ reading = is.over 0 x (omega arith) refl in
      rw (le-ltb reading (moment_after begin x.off) over) (rw (and_false (nat_le (moment_after begin x.on) reading))
      (found_lying xs place (later_rise x xs rising) (later_place begin reading x xs place is)))
  found_lying (x ∷ xs) zero rising is =
      let running : reading < moment_after begin x.off = is.next x refl in
      let later : find lies xs ≡ None = none_yet xs (λ i at.
      let climbs = after_climbs begin x.off i.on (head_before x xs rising i (Contains-from_In i at)) in omega arith) in
      let P : Bool → Type 0 = λ b. cond (b && true) (Some x) None ≡ (if b then Some x else None) in
      let both : P (nat_le (moment_after begin x.on) reading) = elim (nat_le (moment_after begin x.on) reading) as P [ true ↦ refl | false ↦ refl ] in
      rw (lt-ltb reading (moment_after begin x.off) running, later) both

  -- ---- the next turn

  -- the moment at which the interval at the place begins, or ends
  abbrev pub turning : Option Interval → Option ℕ
  turning None = None
  turning (Some interval) =
      if nat_lt reading (moment_after begin interval.on) then Some (moment_after begin interval.on) else Some (moment_after begin interval.off)

  abbrev chosen : Interval → Bool → Option ℕ
  chosen interval above = if above then Some (moment_after begin interval.on) else Some (moment_after begin interval.off)

  later_turns : (x : Interval) (xs : List Interval) → AreRising (x ∷ xs) → (y : ℕ) → In y (slot_turns begin xs) → moment_after begin x.off ≤ y
  later_turns x xs rising y at =
      let found = In-flat_map (interval_turns begin) y xs at in
      let i = found.0 in
      let behind = after_climbs begin x.off i.on (head_before x xs rising i (Contains-from_In i found.1)) in
      let some = in_some i xs (later_rise x xs rising) (Contains-from_In i found.1) in
      let climbs = after_climbs begin i.on i.off (omega arith) in
      elim (in_two y (moment_after begin i.on) (moment_after begin i.off) found.2) [
        | inl same ↦ omega arith
        | inr same ↦ omega arith
      ]

  turn_of : (x : Interval) (xs : List Interval) (y : ℕ) → In y (slot_turns begin (x ∷ xs)) →
      (moment_after begin x.on ≡ y) ⊎ ((moment_after begin x.off ≡ y) ⊎ In y (slot_turns begin xs))
  turn_of x xs y here = inl refl
  turn_of x xs y (there here) = inr (inl refl)
  turn_of x xs y (there (there more)) = inr (inr more)

  pub next_turning : (xs : List Interval) (place : ℕ) → AreRising xs → IsPlace begin reading xs place →
      least_above reading (slot_turns begin xs) ≡ turning (slice_get xs place)
  next_turning [] place rising is = refl
  next_turning (x ∷ xs) (suc place) rising is =
      let over : moment_after begin x.off ≤ reading = is.over 0 x (omega arith) refl in
      let some = head_some x xs rising in
      let climbs = after_climbs begin x.on x.off (omega arith) in
      let none : least_above reading (interval_turns begin x) ≡ None =
      above_none reading (interval_turns begin x) (λ y at.
      elim (in_two y (moment_after begin x.on) (moment_after begin x.off) (In-of at)) [
        | inl same ↦ omega arith
        | inr same ↦ omega arith
      ]) in
      flat-cons reading (interval_turns begin) x xs
      ∙ ap (λ (o : Option ℕ). lesser o (least_above reading (slot_turns begin xs))) none
      ∙ next_turning xs place (later_rise x xs rising) (later_place begin reading x xs place is)
  next_turning (x ∷ xs) zero rising is =
      let running : reading < moment_after begin x.off = is.next x refl in
      let some = head_some x xs rising in
      let climbs = after_climbs begin x.on x.off (omega arith) in
      elim (dec_lt reading (moment_after begin x.on)) [
        | yes above ↦
            let least = above_is reading (slot_turns begin (x ∷ xs)) (moment_after begin x.on) (
              Contains-from_In (moment_after begin x.on) (here {xs = moment_after begin x.off ∷ slot_turns begin xs}),
              above,
              λ y at after. elim (turn_of x xs y (In-of at)) [
                | inl same ↦ omega arith
                | inr (inl same) ↦ omega arith
                | inr (inr more) ↦ let far = later_turns x xs rising y more in omega arith
              ],
            ) in
            least ∙ sym (ap (chosen x) (lt-ltb reading (moment_after begin x.on) above))
        | no notabove ↦
            let least = above_is reading (slot_turns begin (x ∷ xs)) (moment_after begin x.off) (
              Contains-from_In (moment_after begin x.off) {xs = slot_turns begin (x ∷ xs)} (there here),
              running,
              λ y at after. elim (turn_of x xs y (In-of at)) [
                | inl same ↦ absurd (omega arith)
                | inr (inl same) ↦ omega arith
                | inr (inr more) ↦ let far = later_turns x xs rising y more in omega arith
              ],
            ) in
            let by : moment_after begin x.on ≤ reading = omega arith in
            least ∙ sym (ap (chosen x) (le-ltb reading (moment_after begin x.on) by))
      ]
