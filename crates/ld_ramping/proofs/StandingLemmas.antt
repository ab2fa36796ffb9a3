-- The slots of an instance, by their numbers, one after another.
use Rattle.std.proofs.Common.{Contains, ◌≡◌, ◌∙◌, ◌<◌, ◌≤◌, ◌+◌, ◌==◌, ◌&&◌, ◌⊎◌, ℕ, zero, suc, Bool, true, false, not, List, [], ◌∷◌, drop, flat_map, length, slice_index_or, Option, None, Some, find, filter, slice_get, arith, refl, sym, ap, subst, inl, inr, IfNone, IfSome, rules}
use Rattle.std.specs.Prelude.{is_some}
use Rattle.std.specs.List.Sorted.{IsStrictlyIncreasing}
use Rattle.std.proofs.lemmas.Bool.{cases_eq, ne_eqb}
use Rattle.std.proofs.lemmas.List.Kept.{IsStrictlyIncreasing-filter}
use Rattle.std.proofs.lemmas.List.{at_drop_more}
use Rattle.ld_machine.specs.Together.{least_above, lesser}
use Rattle.ld_machine.proofs.CandidateLemmas.{flat-cons, lesser_along}
use Rattle.ld_machine.proofs.FirstOfAllLemmas.{In-of, false_unless}
use Rattle.ld_machine.proofs.ListLemmas.{In, here, there, nothing_in, number_itself, map-In, filter-In, both_true, Contains-from_In}
use Rattle.ld_machine.proofs.ValidPlanLemmas.{head_below, tail_rises}
use Rattle.ld_seats.proofs.NumbersLemmas.{among_in, among_with, among_without, first_passes, none_passes}
use Rattle.ld_set.specs.SetView.{is_among, with_number, without_number}
use Rattle.ld_ramping.specs.Owned.{AreOwned}
use Rattle.ld_ramping.specs.Rising.{AreRising}
use Rattle.ld_ramping.specs.Standing.{StandingView, intervals_at, lies_in, numbers_of, slot_turns, stands_on}
use Rattle.ld_ramping.specs.declared.interval.Interval.{Interval}
use Rattle.ld_ramping.specs.declared.slot.Slot.{Slot}

-- ---- the intervals of a number

pub own_intervals : (slots : List Slot) → IsStrictlyIncreasing (numbers_of slots) → (slot : Slot) → In slot slots → intervals_at slots slot.number ≡ slot.intervals
own_intervals [] rises slot at = absurd (nothing_in at)
own_intervals (x ∷ rest) rises _ here = rw (number_itself x.number) refl
own_intervals (x ∷ rest) rises slot (there more) =
    let far : x.number < slot.number = head_below x.number slot.number (numbers_of rest) rises (Contains-from_In slot.number (map-In (λ (s : Slot). s.number) slot more)) in
    rw (ne_eqb x.number slot.number (λ e. omega arith)) (own_intervals rest (tail_rises x.number (numbers_of rest) rises) slot more)

none_at : (slots : List Slot) (k : ℕ) → (In k (numbers_of slots) → ⊥) → intervals_at slots k ≡ []
none_at [] k none = refl
none_at (x ∷ rest) k none =
    rw (ne_eqb x.number k (λ e. none (subst (λ n. In n (numbers_of (x ∷ rest))) e here))) (none_at rest k (λ at. none (there at)))

in_slots : (slots : List Slot) (k : ℕ) → In k (numbers_of slots) ⊎ (In k (numbers_of slots) → ⊥)
in_slots [] k = inr (λ at. nothing_in at)
in_slots (x ∷ rest) k =
    elim (cases_eq x.number k) [
      | inl same ↦ inl (subst (λ n. In n (numbers_of (x ∷ rest))) same here)
      | inr other ↦ elim (in_slots rest k) [
        | inl at ↦ inl (there at)
        | inr none ↦ inr (λ at. none (behind at other))
      ]
    ]
  where
    behind : {n : ℕ} {ns : List ℕ} → In k (n ∷ ns) → (n ≡ k → ⊥) → In k ns
    behind here apart = absurd (apart refl)
    behind (there more) apart = more

module _ (v : StandingView) (reading : ℕ) where
  off_elsewhere : (k : ℕ) → (In k (numbers_of v.slots) → ⊥) → stands_on v k reading ≡ false
  off_elsewhere k none = ap (λ (more : List Interval). is_some (find (lies_in v.begin reading) more)) (none_at v.slots k none)

  -- a slot that is on is owned
  pub on_owned : (k : ℕ) → stands_on v k reading ≡ true → Contains (numbers_of v.slots) k
  on_owned k on =
      elim (in_slots v.slots k) [
        | inl at ↦ Contains-from_In k at
        | inr none ↦ absurd (let off = off_elsewhere k none in cc)
      ]

  -- a slot is on by its own intervals
  pub stands_own : AreOwned v.slots → (slot : Slot) → Contains v.slots slot → stands_on v slot.number reading ≡ is_some (find (lies_in v.begin reading) slot.intervals)
  stands_own owned slot at = ap (λ (more : List Interval). is_some (find (lies_in v.begin reading) more)) (own_intervals v.slots owned.numbers slot (In-of at))

  -- ---- a set of those that are on: it holds what it should of each number that is not one of these slots'

  pub AreSettled : List ℕ → List Slot → Type 0
  AreSettled numbers rest = (k : ℕ) → In k (numbers_of rest) ⊎ (is_among numbers k ≡ stands_on v k reading)

  pub first_settled : (numbers : List ℕ) → ((k : ℕ) → is_among numbers k ≡ true → Contains (numbers_of v.slots) k) → AreSettled numbers v.slots
  unfolding AreSettled
  first_settled numbers others k =
      elim (in_slots v.slots k) [
        | inl at ↦ inl at
        | inr none ↦ inr (false_unless (is_among numbers k) (λ among. none (In-of (others k among))) ∙ sym (off_elsewhere k none))
      ]

  pub last_settled : (numbers : List ℕ) → AreSettled numbers [] → (k : ℕ) → is_among numbers k ≡ stands_on v k reading
  unfolding AreSettled
  last_settled numbers settled k = elim (settled k) [ inl at ↦ absurd (nothing_in at) | inr same ↦ same ]

  pub settled_on : (slot : Slot) (rest : List Slot) (numbers : List ℕ) → stands_on v slot.number reading ≡ true → AreSettled numbers (slot ∷ rest) →
      AreSettled (with_number slot.number numbers) rest
  unfolding AreSettled
  settled_on slot rest numbers on settled k =
      elim (cases_eq slot.number k) [
        | inl same ↦
            let it : (slot.number == k) ≡ true = rw same (number_itself k) in
            let here_on : stands_on v k reading ≡ true = subst (λ n. stands_on v n reading ≡ true) same on in
            inr (among_with slot.number k numbers ∙ rw it (sym here_on))
        | inr other ↦ elim (settled k) [
          | inl at ↦ inl (behind at other)
          | inr kept ↦ inr (among_with slot.number k numbers ∙ rw (ne_eqb slot.number k other) kept)
        ]
      ]
    where
      behind : {n : ℕ} {ns : List ℕ} → In k (n ∷ ns) → (n ≡ k → ⊥) → In k ns
      behind here apart = absurd (apart refl)
      behind (there more) apart = more

  pub settled_off : (slot : Slot) (rest : List Slot) (numbers : List ℕ) → stands_on v slot.number reading ≡ false → AreSettled numbers (slot ∷ rest) →
      AreSettled (without_number slot.number numbers) rest
  unfolding AreSettled
  settled_off slot rest numbers off settled k =
      elim (cases_eq slot.number k) [
        | inl same ↦
            let it : (k == slot.number) ≡ true = rw same (number_itself k) in
            let here_off : stands_on v k reading ≡ false = subst (λ n. stands_on v n reading ≡ false) same off in
            inr (among_without slot.number k numbers ∙ rw it (none (is_among numbers k) ∙ sym here_off))
        | inr other ↦ elim (settled k) [
          | inl at ↦ inl (behind at other)
          | inr kept ↦ inr (among_without slot.number k numbers ∙ rw (ne_eqb k slot.number (λ e. other (sym e))) (all (is_among numbers k) ∙ kept))
        ]
      ]
    where
      none : (b : Bool) → (b && false) ≡ false
      none true = refl
      none false = refl

      all : (b : Bool) → (b && true) ≡ b
      all true = refl
      all false = refl

      behind : {n : ℕ} {ns : List ℕ} → In k (n ∷ ns) → (n ≡ k → ⊥) → In k ns
      behind here apart = absurd (apart refl)
      behind (there more) apart = more

  -- ---- those of a set that are on, or are off: each is the number of one of these slots

  pub AreLeft : List ℕ → Bool → List Slot → Type 0
  AreLeft among on rest = (k : ℕ) → Contains (numbers_of v.slots) k → is_among among k ≡ true → stands_on v k reading ≡ on → In k (numbers_of rest)

  pub first_left : (among : List ℕ) (on : Bool) → AreLeft among on v.slots
  unfolding AreLeft
  first_left among on k owned at stands = In-of owned

  pub none_left : (among : List ℕ) (on : Bool) → AreLeft among on [] → (k : ℕ) → Contains (numbers_of v.slots) k → is_among among k ≡ true →
      stands_on v k reading ≡ on → ⊥
  unfolding AreLeft
  none_left among on left k owned at stands = nothing_in (left k owned at stands)

  -- a slot that isn't in the set, or stands otherwise, is passed over
  pub passed_left : (slot : Slot) (rest : List Slot) (among : List ℕ) (on : Bool) → (is_among among slot.number ≡ true → stands_on v slot.number reading ≡ on → ⊥) →
      AreLeft among on (slot ∷ rest) → AreLeft among on rest
  unfolding AreLeft
  passed_left slot rest among on fails left k owned at stands = behind (left k owned at stands)
    where
      behind : In k (slot.number ∷ numbers_of rest) → In k (numbers_of rest)
      behind more =
          let P : In k (slot.number ∷ numbers_of rest) → Type 0 = λ _. In k (numbers_of rest) in
          elim (cases_eq slot.number k) [
            | inl same ↦ absurd (fails (subst (λ n. is_among among n ≡ true) (sym same) at) (subst (λ n. stands_on v n reading ≡ on) (sym same) stands))
            | inr other ↦ later more other
          ]
        where
          later : {n : ℕ} {ns : List ℕ} → In k (n ∷ ns) → (n ≡ k → ⊥) → In k ns
          later here apart = absurd (apart refl)
          later (there more) apart = more

  pub least_left : (slot : Slot) (rest : List Slot) (among : List ℕ) (on : Bool) → IsStrictlyIncreasing (numbers_of (slot ∷ rest)) →
      AreLeft among on (slot ∷ rest) → (k : ℕ) → Contains (numbers_of v.slots) k → is_among among k ≡ true → stands_on v k reading ≡ on → slot.number ≤ k
  unfolding AreLeft
  least_left slot rest among on rises left k owned at stands =
      elim (first_or_later (left k owned at stands)) [
        | inl same ↦ omega arith
        | inr more ↦ let far = head_below slot.number k (numbers_of rest) rises (Contains-from_In k more) in omega arith
      ]
    where
      first_or_later : {n : ℕ} {ns : List ℕ} → In k (n ∷ ns) → (n ≡ k) ⊎ In k ns
      first_or_later here = inl refl
      first_or_later (there more) = inr more

drop_rises : (i : ℕ) (slots : List Slot) → IsStrictlyIncreasing (numbers_of slots) → IsStrictlyIncreasing (numbers_of (drop i slots))
drop_rises zero slots rises = rises
drop_rises (suc i) [] rises = rises
drop_rises (suc i) (x ∷ rest) rises = drop_rises i rest (tail_rises x.number (numbers_of rest) rises)

-- ---- a slot that is looked at, at its place

pub item_rises : (slots : List Slot) → AreOwned slots → (i : ℕ) (x : Slot) → i < length slots → x ≡ slice_index_or slots i x → AreRising x.intervals
item_rises slots owned i x below is = subst (λ (s : Slot). AreRising s.intervals) (sym is) (owned.rising i x below)

pub item_number : (slots : List Slot) → AreOwned slots → (i : ℕ) (x : Slot) → i < length slots → x ≡ slice_index_or slots i x → x.number < 1000
item_number slots owned i x below is = subst (λ (s : Slot). s.number < 1000) (sym is) (owned.few i x below)

pub item_first : (slots : List Slot) (i : ℕ) (x : Slot) → i < length slots → x ≡ slice_index_or slots i x → drop i slots ≡ x ∷ drop (i + 1) slots
item_first slots i x below is = at_drop_more (λ (more : List Slot). more) slots i x below ∙ ap (λ (s : Slot). s ∷ drop (i + 1) slots) (sym is)

module _ (v : StandingView) (reading : ℕ) (owned : AreOwned v.slots) (i : ℕ) (x : Slot) (below : i < length v.slots) (is : x ≡ slice_index_or v.slots i x) where
  abbrev now_on : Bool
  now_on = is_some (find (lies_in v.begin reading) x.intervals)

  pub item_stands : stands_on v x.number reading ≡ is_some (find (lies_in v.begin reading) x.intervals)
  item_stands = stands_own v reading owned x (i, below, sym is)

  pub step_on : (numbers : List ℕ) → is_some (find (lies_in v.begin reading) x.intervals) ≡ true → AreSettled v reading numbers (drop i v.slots) →
      AreSettled v reading (with_number x.number numbers) (drop (i + 1) v.slots)
  step_on numbers on settled =
      settled_on v reading x (drop (i + 1) v.slots) numbers (item_stands ∙ on) (subst (AreSettled v reading numbers) (item_first v.slots i x below is) settled)

  pub step_off : (numbers : List ℕ) → is_some (find (lies_in v.begin reading) x.intervals) ≡ false → AreSettled v reading numbers (drop i v.slots) →
      AreSettled v reading (without_number x.number numbers) (drop (i + 1) v.slots)
  step_off numbers off settled =
      settled_off v reading x (drop (i + 1) v.slots) numbers (item_stands ∙ off) (subst (AreSettled v reading numbers) (item_first v.slots i x below is) settled)

  pub step_passed : (among : List ℕ) (on : Bool) → (is_among among x.number ≡ true → is_some (find (lies_in v.begin reading) x.intervals) ≡ on → ⊥) →
      AreLeft v reading among on (drop i v.slots) → AreLeft v reading among on (drop (i + 1) v.slots)
  step_passed among on fails left =
      passed_left v reading x (drop (i + 1) v.slots) among on (λ at stands. fails at (sym item_stands ∙ stands))
      (subst (AreLeft v reading among on) (item_first v.slots i x below is) left)

  pub step_least : (among : List ℕ) (on : Bool) → AreLeft v reading among on (drop i v.slots) →
      (k : ℕ) → Contains (numbers_of v.slots) k → is_among among k ≡ true → stands_on v k reading ≡ on → x.number ≤ k
  step_least among on left =
      least_left v reading x (drop (i + 1) v.slots) among on
      (subst (λ (more : List Slot). IsStrictlyIncreasing (numbers_of more)) (item_first v.slots i x below is) (drop_rises i v.slots owned.numbers))
      (subst (AreLeft v reading among on) (item_first v.slots i x below is) left)

pub turn_step : (begin reading : ℕ) (slots : List Slot) (i : ℕ) (x : Slot) → i < length slots → x ≡ slice_index_or slots i x → (least turn whole : Option ℕ) →
    turn ≡ least_above reading (slot_turns begin x.intervals) →
    lesser least (least_above reading (flat_map (λ (s : Slot). slot_turns begin s.intervals) (drop i slots))) ≡ whole →
    lesser (lesser least turn) (least_above reading (flat_map (λ (s : Slot). slot_turns begin s.intervals) (drop (i + 1) slots))) ≡ whole
turn_step begin reading slots i x below is least turn whole turns so =
    let f : Slot → List ℕ = λ s. slot_turns begin s.intervals in
    let rest = least_above reading (flat_map f (drop (i + 1) slots)) in
    lesser_along least turn rest
    ∙ ap (lesser least) (ap (λ (o : Option ℕ). lesser o rest) turns
    ∙ sym (flat-cons reading f x (drop (i + 1) slots))
    ∙ ap (λ (more : List Slot). least_above reading (flat_map f more)) (sym (item_first slots i x below is)))
    ∙ so

-- ---- the first of some numbers that stand so

-- the first of rising numbers is one of them, and at most each of them
first_least : (numbers : List ℕ) (k : ℕ) → IsStrictlyIncreasing numbers → slice_get numbers 0 ≡ Some k → (j : ℕ) → In j numbers → k ≤ j
first_least [] k rises first j at = absurd (cc)
first_least (x ∷ rest) k rises first j at =
    let same : x ≡ k = cc in
    elim (first_or_later at) [
      | inl e ↦ omega arith
      | inr more ↦ let far = head_below x j rest rises (Contains-from_In j more) in omega arith
    ]
  where
    first_or_later : {n : ℕ} {ns : List ℕ} → In j (n ∷ ns) → (n ≡ j) ⊎ In j ns
    first_or_later here = inl refl
    first_or_later (there more) = inr more

module _ (v : StandingView) (reading : ℕ) (on : Bool) (among : List ℕ) (p : ℕ → Bool) (to : (k : ℕ) → p k ≡ true → stands_on v k reading ≡ on) (back : (k : ℕ) → stands_on v k reading ≡ on → p k ≡ true) where
  pub some_among : (result : Option ℕ) → result ≡ slice_get (filter p among) 0 → IfSome result (λ slot. is_among among slot ≡ true)
  some_among None e = search rules
  some_among (Some slot) e = (both_true (is_among among slot) (p slot) (first_passes p among slot (sym e))).0

  pub some_stands : (result : Option ℕ) → result ≡ slice_get (filter p among) 0 → IfSome result (λ slot. stands_on v slot reading ≡ on)
  some_stands None e = search rules
  some_stands (Some slot) e = to slot (both_true (is_among among slot) (p slot) (first_passes p among slot (sym e))).1

  pub some_least : (result : Option ℕ) → result ≡ slice_get (filter p among) 0 →
      IfSome result (λ slot. IsStrictlyIncreasing among → (k : ℕ) → Contains (numbers_of v.slots) k → is_among among k ≡ true → stands_on v k reading ≡ on → slot ≤ k)
  some_least None e = search rules
  some_least (Some slot) e = λ rises k owned at stands.
      first_least (filter p among) slot (IsStrictlyIncreasing-filter p among rises) (sym e) k (filter-In p k (among_in k among at) (back k stands))

  pub none_stands : (result : Option ℕ) → result ≡ slice_get (filter p among) 0 →
      IfNone result ((k : ℕ) → Contains (numbers_of v.slots) k → is_among among k ≡ true → stands_on v k reading ≡ on → ⊥)
  none_stands None e = λ k owned at stands.
      let fails = none_passes p among (sym e) k in
      let passes : (is_among among k && p k) ≡ true = rw (at, back k stands) refl in
      absurd (cc)
  none_stands (Some slot) e = search rules

-- the snapshot, seen from outside
pub seen_on : (v w : StandingView) (r t : ℕ) (numbers : List ℕ) → v ≡ w → r ≡ t → ((k : ℕ) → is_among numbers k ≡ stands_on v k r) → (k : ℕ) →
    is_among numbers k ≡ stands_on w k t
seen_on v w r t numbers same at each k = each k ∙ ap (λ (z : StandingView). stands_on z k r) same ∙ ap (λ (n : ℕ). stands_on w k n) at

pub not_back : (a : Bool) → a ≡ false → not a ≡ true
not_back a e = ap not e

pub not_to : (a : Bool) → not a ≡ true → a ≡ false
not_to true e = absurd (cc)
not_to false e = refl
