-- The items of slots that have as many each, and which of them is open first.
use Rattle.std.proofs.Common.{◌≡◌, ◌≢◌, ◌≤◌, ◌<◌, ◌+◌, ◌-◌, ◌*◌, ◌==◌, ◌&&◌, ◌∙◌, ℕ, zero, suc, Bool, true, false, cond, nat_le, nat_lt, List, [], ◌∷◌, Option, None, Some, find, map, filter, slice_get, arith, refl, sym, ap, inl, inr}
use Rattle.std.specs.Prelude.{option_map}
use Rattle.std.specs.List.{range_with_len}
use Rattle.std.specs.List.Sorted.{IsStrictlyIncreasing}
use Rattle.std.specs.Option.{option_and_then, option_or}
use Rattle.std.proofs.Math.Nat.{mul-le-mul_right}
use Rattle.std.proofs.lemmas.Bool.{cases_eq, cases_lt, lt-ltb, le-ltb, le-leb, ne_eqb}
use Rattle.std.proofs.lemmas.Grind.{common_steps}
use Rattle.std.proofs.lemmas.List.{map-append}
use Rattle.std.proofs.lemmas.List.Folds.{find-append}
use Rattle.ld_machine.specs.Plan.{SlotItem}
use Rattle.ld_machine.specs.Scenario.{Scenario, first_of, is_open_item, slot_open_item, where_holds}
use Rattle.ld_machine.specs.SlotItems.{items_of_slot, items_of_slots}
use Rattle.ld_machine.proofs.ListLemmas.{In, here, there, nothing_in, number_itself, Contains-from_In}
use Rattle.ld_machine.proofs.ValidPlanLemmas.{head_below, tail_rises}
use Rattle.ld_iters.specs.SlotsShows.{IsRest}

-- ---- what is found first

pub first_found : {A : Type 0} (p : A → Bool) (xs : List A) → first_of (filter p xs) ≡ find p xs
first_found p [] = refl
first_found p (x ∷ xs) =
    let P : Bool → Type 0 = λ b. first_of (cond b (x ∷ filter p xs) (filter p xs)) ≡ cond b (Some x) (find p xs) in
    elim (p x) as P [ true ↦ refl | false ↦ first_found p xs ]

found_mapped : {A B : Type 0} (p : B → Bool) (f : A → B) (xs : List A) → find p (map f xs) ≡ option_map f (find (λ x. p (f x)) xs)
found_mapped p f [] = refl
found_mapped p f (x ∷ xs) =
    let P : Bool → Type 0 = λ b. cond b (Some (f x)) (find p (map f xs)) ≡ option_map f (cond b (Some x) (find (λ y. p (f y)) xs)) in
    elim (p (f x)) as P [ true ↦ refl | false ↦ found_mapped p f xs ]

none_found : {A B : Type 0} (p : B → Bool) (f : A → B) (xs : List A) → ((x : A) → p (f x) ≡ false) → find p (map f xs) ≡ None
none_found p f [] none = refl
none_found p f (x ∷ xs) none = rw (none x) (none_found p f xs none)

-- of the numbers of a range, of which those from m on pass, m is found first
found_from : {B : Type 0} (p : B → Bool) (f : ℕ → B) (m n a : ℕ) → a ≤ m → m ≤ a + n →
    ((k : ℕ) → a ≤ k → k < a + n → p (f k) ≡ nat_le m k) → find p (map f (range_with_len a n)) ≡ where_holds (nat_lt m (a + n)) (Some (f m))
found_from p f m zero a least most from = rw (le-ltb m (a + zero) (omega arith)) refl
found_from {B} p f m (suc n) a least most from =
    elim (cases_eq a m) [
      | inl same ↦
          let passes : p (f a) ≡ true = from a (omega arith) (omega arith) ∙ le-leb m a (omega arith) in
          rw (passes, lt-ltb m (a + suc n) (omega arith)) (ap (λ k. Some (f k)) same)
      | inr other ↦
          let fails : p (f a) ≡ false = from a (omega arith) (omega arith) ∙ not_yet (omega arith) in
          let along : a + 1 + n ≡ a + suc n = omega arith in
          let later = found_from p f m n (a + 1) (omega arith) (omega arith) (λ k low below. from k (omega arith) (omega arith)) in
          rw fails (later ∙ ap (λ end. where_holds (nat_lt m end) (Some (f m))) along)
    ]
  where
    not_yet : a < m → nat_le m a ≡ false
    not_yet far = grind (arith, common_steps)

-- ---- the items of slots

-- items of two slots are apart
pub items_apart : (n a b k : ℕ) → a ≢ b → a * n ≤ k → k < a * n + n → b * n ≤ k → k < b * n + n → ⊥
items_apart n a b k other low_a high_a low_b high_b =
    elim (cases_lt a b) [
      | inl less ↦ let far : suc a * n ≤ b * n = mul-le-mul_right n less in omega arith
      | inr more ↦ let far : suc b * n ≤ a * n = mul-le-mul_right n (strictly a b more other) in omega arith
    ]
  where
    strictly : (a b : ℕ) → b ≤ a → a ≢ b → b < a
    strictly a b most differs = omega arith

module _ (s : Scenario) (n : ℕ) where
  abbrev item_at : ℕ → ℕ → SlotItem
  item_at slot i = record { item = slot * n + i; slot = slot }

  abbrev passes : ℕ → SlotItem → Bool
  passes slot i = (i.slot == slot) && is_open_item s i.item

  -- of a slot's items the first that passes is its next one, where those pass that are open
  own_found : (p : SlotItem → Bool) (slot next : ℕ) → ((i : ℕ) → p (item_at slot i) ≡ is_open_item s (slot * n + i)) → IsRest s n slot next →
      option_map (λ (i : SlotItem). i.item) (find p (items_of_slot n slot)) ≡ where_holds (nat_lt next (slot * n + n)) (Some next)
  own_found p slot next same rest =
      let first = rest.least in
      let last = rest.most in
      let m : ℕ = next - slot * n in
      let at : slot * n + m ≡ next = omega arith in
      let found = found_from p (item_at slot) m n 0 (omega arith) (omega arith)
      (λ k low below. same k ∙ rest.rest (slot * n + k) (omega arith) (omega arith) ∙ same_order k) in
      ap (option_map (λ (i : SlotItem). i.item)) found
      ∙ mapped (nat_lt m (0 + n)) (item_at slot m)
      ∙ ap (λ item. where_holds (nat_lt m (0 + n)) (Some item)) at
      ∙ ap (λ b. where_holds b (Some next)) same_end
    where
      same_order : (k : ℕ) → nat_le next (slot * n + k) ≡ nat_le (next - slot * n) k
      same_order k = let first = rest.least in let last = rest.most in grind (arith, common_steps)

      same_end : nat_lt (next - slot * n) (0 + n) ≡ nat_lt next (slot * n + n)
      same_end = let first = rest.least in let last = rest.most in grind (arith, common_steps)

      mapped : (b : Bool) (i : SlotItem) → option_map (λ (x : SlotItem). x.item) (where_holds b (Some i)) ≡ where_holds b (Some i.item)
      mapped true i = refl
      mapped false i = refl

  own_item : (slot next : ℕ) → IsRest s n slot next →
      option_map (λ (i : SlotItem). i.item) (find (passes slot) (items_of_slot n slot)) ≡ where_holds (nat_lt next (slot * n + n)) (Some next)
  own_item slot next rest = own_found (passes slot) slot next (λ i. rw (number_itself slot) refl) rest

  other_items : (slot x : ℕ) → x ≢ slot → find (passes slot) (items_of_slot n x) ≡ None
  other_items slot x other = none_found (passes slot) (item_at x) (range_with_len 0 n) (λ i. rw (ne_eqb x slot other) refl)

  others_items : (slot : ℕ) (slots : List ℕ) → ((x : ℕ) → In x slots → x ≢ slot) → find (passes slot) (items_of_slots n slots) ≡ None
  others_items slot [] apart = refl
  others_items slot (x ∷ rest) apart =
      find-append (passes slot) (items_of_slot n x) (items_of_slots n rest)
      ∙ ap (λ o. option_or o (find (passes slot) (items_of_slots n rest))) (other_items slot x (apart x here))
      ∙ others_items slot rest (λ y at. apart y (there at))

  -- the first open item of one of the slots
  pub slot_next : (slot next : ℕ) (slots : List ℕ) → IsStrictlyIncreasing slots → In slot slots → IsRest s n slot next →
      slot_open_item s (items_of_slots n slots) slot ≡ where_holds (nat_lt next (slot * n + n)) (Some next)
  slot_next slot next [] rises at rest = absurd (nothing_in at)
  slot_next slot next (x ∷ more) rises at rest =
      let item = option_map (λ (i : SlotItem). i.item) in
      let joined : slot_open_item s (items_of_slots n (x ∷ more)) slot ≡ item (option_or (find (passes slot) (items_of_slot n x)) (find (passes slot) (items_of_slots n more))) =
      ap item (find-append (passes slot) (items_of_slot n x) (items_of_slots n more)) in
      elim (cases_eq x slot) [
        | inl same ↦
            let above : (y : ℕ) → In y more → y ≢ slot = λ y there_is. let far = head_below x y more rises (Contains-from_In y there_is) in λ e. omega arith in
            joined
            ∙ ap (λ o. item (option_or (find (passes slot) (items_of_slot n x)) o)) (others_items slot more above)
            ∙ ap item (alone (find (passes slot) (items_of_slot n x)))
            ∙ ap (λ y. item (find (passes slot) (items_of_slot n y))) same
            ∙ own_item slot next rest
        | inr other ↦
            joined
            ∙ ap (λ o. item (option_or o (find (passes slot) (items_of_slots n more)))) (other_items slot x other)
            ∙ slot_next slot next more (tail_rises x more rises) (behind at other) rest
      ]
    where
      alone : {A : Type 0} (o : Option A) → option_or o None ≡ o
      alone None = refl
      alone (Some a) = refl

      behind : {y : ℕ} {ys : List ℕ} → In slot (y ∷ ys) → (y ≡ slot → ⊥) → In slot ys
      behind here apart = absurd (apart refl)
      behind (there later) apart = later

  -- a slot goes on where its next item isn't behind its last one
  abbrev pub GoesOn : (ℕ → Option ℕ) → (ℕ → Bool) → ℕ → Type 0
  GoesOn next_of goes slot = (next : ℕ) × (next_of slot ≡ Some next) × IsRest s n slot next × (goes slot ≡ nat_lt next (slot * n + n))

  -- the first open item of a slot, by its number
  own_number : (slot next : ℕ) → IsRest s n slot next →
      find (is_open_item s) (map (λ (i : SlotItem). i.item) (items_of_slot n slot)) ≡ where_holds (nat_lt next (slot * n + n)) (Some next)
  own_number slot next rest =
      found_mapped (is_open_item s) (λ (i : SlotItem). i.item) (items_of_slot n slot) ∙ own_found (λ (i : SlotItem). is_open_item s i.item) slot next (λ i. refl) rest

  -- the first open item of all is the next one of the first slot that goes on
  pub first_number : (next_of : ℕ → Option ℕ) (goes : ℕ → Bool) (slots : List ℕ) → ((slot : ℕ) → In slot slots → GoesOn next_of goes slot) →
      find (is_open_item s) (map (λ (i : SlotItem). i.item) (items_of_slots n slots)) ≡ option_and_then next_of (slice_get (filter goes slots) 0)
  first_number next_of goes [] each = refl
  first_number next_of goes (x ∷ more) each =
      let number : SlotItem → ℕ = λ (i : SlotItem). i.item in
      let opened : ℕ → Bool = is_open_item s in
      let others : Option ℕ = find opened (map number (items_of_slots n more)) in
      let on = each x here in
      let next : ℕ = on.0 in
      let P : Bool → Type 0 = λ b. option_or (where_holds b (Some next)) others ≡ option_and_then next_of (slice_get (cond b (x ∷ filter goes more) (filter goes more)) 0) in
      let by : P (nat_lt next (x * n + n)) = elim (nat_lt next (x * n + n)) as P [
        | true ↦ sym on.1
        | false ↦ first_number next_of goes more (λ slot at. each slot (there at))
      ] in
      ap (find opened) (map-append number (items_of_slot n x) (items_of_slots n more))
      ∙ find-append opened (map number (items_of_slot n x)) (map number (items_of_slots n more))
      ∙ ap (λ o. option_or o others) (own_number x next on.2)
      ∙ by
      ∙ ap (λ b. option_and_then next_of (slice_get (cond b (x ∷ filter goes more) (filter goes more)) 0)) (sym on.3)
