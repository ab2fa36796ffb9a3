-- No slot is held twice.
use Rattle.std.proofs.Common.{◌≡◌, ◌≤◌, ◌+◌, ◌==◌, if◌then◌else◌, ℕ, zero, suc, Bool, true, false, not, cond, ◌&&◌, nat_lt, List, [], ◌∷◌, ◌++◌, Option, None, Some, find, map, filter, arith, refl, sym, ap, ◌∙◌, subst, inl, inr, slice_get}
use Rattle.std.specs.Option.{option_map_or}
use Rattle.std.specs.List.{list_any}
use Rattle.std.proofs.lemmas.Grind.{common_steps}
use Rattle.ld_base.specs.declared.act.Act.{Act}
use Rattle.ld_base.specs.declared.act.Act.TheVariants.{Take, Grow, Start, Drop, Late, Return, Release, Stop, Close, Control}
use Rattle.ld_base.specs.declared.command.Command.TheVariants as commands
use Rattle.ld_base.specs.declared.entry.Entry.{Entry}
use Rattle.ld_machine.specs.Plan.{Arrival, Executor, SharedIterations, PerVuIterations, ConstantVus, RampingVus, ArrivalRate, ExternallyControlled, Part, Plan, owned_items, hard_moment}
use Rattle.ld_machine.specs.State.{StartsNothing, Halted, Condition, Idle, Busy, HeldUser, Share, State, opening_share}
use Rattle.ld_machine.specs.Scenario.{Scenario, runs, is_live, is_held_slot, is_slot_on, slot_has_open_item, is_open_item, least_open_arrival, executor_arrivals, executor_may_take, until_of}
use Rattle.ld_machine.specs.Moves.{CountLate, StartOn, GrowAndStart, TakeAndStart, DropArrival, Move, users_of, scenarios}
use Rattle.ld_machine.specs.Acts.{acts_of}
use Rattle.ld_machine.specs.Commands.{stop_commanded_share}
use Rattle.ld_machine.specs.Effect.{with_user, if_user, hold, put_condition, let_go, change_at, change_share, end_item, end_item_of, after_entry, after_entries}
use Rattle.ld_machine.specs.History.{adds_one, adds_two, are_steps}
use Rattle.ld_machine.specs.OnTime.{is_asked_act}
use Rattle.ld_machine.specs.Slots.{has_slots, times_slot}
use Rattle.ld_machine.proofs.ListLemmas.{In, here, both_true, some_true, In-one, in_two}
use Rattle.ld_machine.proofs.SourceLemmas.{Source, by_stop, by_release, by_take, by_arrival, by_start, by_drop, by_close, source_of}
use Rattle.ld_machine.proofs.StepLemmas.{Wrote, first_enabled, one_wrote, pair_wrote}
use Rattle.ld_machine.proofs.DropLemmas.{due_tells}
use Rattle.ld_machine.proofs.ItemLemmas.{stands_share}
use Rattle.ld_machine.proofs.HolderLemmas.{hit, or_parts}
use Rattle.ld_machine.proofs.TurnLemmas.{in_share, acts_written, pair_of}

-- ---- what changes of shares do to a slot

pub slot-with_user : (slot : ℕ) (h : HeldUser) (held : List HeldUser) → times_slot slot (with_user h held) ≡ hit h.slot slot + times_slot slot held
slot-with_user slot h [] = refl
slot-with_user slot h (g ∷ rest) =
    let P : Bool → Type 0 = λ b. times_slot slot (cond b (h ∷ g ∷ rest) (g ∷ with_user h rest)) ≡ hit h.slot slot + (hit g.slot slot + times_slot slot rest) in
    elim (nat_lt h.user g.user) as P [
      | true ↦ refl
      | false ↦ let later = slot-with_user slot h rest in rw later (omega arith)
    ]

pub slot-if_user : (slot one : ℕ) (condition : Condition) (held : List HeldUser) → times_slot slot (map (if_user one condition) held) ≡ times_slot slot held
slot-if_user slot one condition [] = refl
slot-if_user slot one condition (h ∷ rest) =
    let P : Bool → Type 0 = λ b. (if (cond b (record h { condition = condition }) h).slot == slot then 1 else 0) + times_slot slot (map (if_user one condition) rest) ≡ hit h.slot slot + times_slot slot rest in
    elim (h.user == one) as P [
      | true ↦ ap (λ n. hit h.slot slot + n) (slot-if_user slot one condition rest)
      | false ↦ ap (λ n. hit h.slot slot + n) (slot-if_user slot one condition rest)
    ]

pub slot-filter : (slot : ℕ) (p : HeldUser → Bool) (held : List HeldUser) → times_slot slot (filter p held) ≤ times_slot slot held
slot-filter slot p [] = omega arith
slot-filter slot p (h ∷ rest) =
    let later = slot-filter slot p rest in
    let P : Bool → Type 0 = λ b. times_slot slot (cond b (h ∷ filter p rest) (filter p rest)) ≤ hit h.slot slot + times_slot slot rest in
    elim (p h) as P [ true ↦ omega arith | false ↦ omega arith ]

-- a change of one share that raises a count by so much at most
pub in_share-most : (count : List HeldUser → ℕ) (more k n : ℕ) (change : Share → Share) (shares : List Share) →
    ((share : Share) → count (change share).held ≤ count share.held + more) → in_share count n (change_at k change shares) ≤ in_share count n shares + more
in_share-most count more k n change [] bound = omega arith
in_share-most count more zero zero change (share ∷ rest) bound = bound share
in_share-most count more zero (suc n) change (share ∷ rest) bound = omega arith
in_share-most count more (suc k) zero change (share ∷ rest) bound = omega arith
in_share-most count more (suc k) (suc n) change (share ∷ rest) bound = in_share-most count more k n change rest bound

-- a change of another share leaves a count
pub in_share-other : (count : List HeldUser → ℕ) (k n : ℕ) (change : Share → Share) (shares : List Share) → (k ≡ n → ⊥) →
    in_share count n (change_at k change shares) ≡ in_share count n shares
in_share-other count k n change [] apart = refl
in_share-other count zero zero change (share ∷ rest) apart = absurd (apart refl)
in_share-other count zero (suc n) change (share ∷ rest) apart = refl
in_share-other count (suc k) zero change (share ∷ rest) apart = refl
in_share-other count (suc k) (suc n) change (share ∷ rest) apart = in_share-other count k n change rest (λ e. apart (ap suc e))

pub in_share-stopped : (count : List HeldUser → ℕ) (t n : ℕ) (shares : List Share) → in_share count n (map (stop_commanded_share t) shares) ≤ in_share count n shares
in_share-stopped count t n [] = omega arith
in_share-stopped count t zero (share ∷ rest) =
    let P : Bool → Type 0 = λ b. count (cond b share (record share { level = StartsNothing t })).held ≤ count share.held in
    elim share.closed as P [ true ↦ omega arith | false ↦ omega arith ]
in_share-stopped count t (suc n) (share ∷ rest) = in_share-stopped count t n rest

held-ended : (count : List HeldUser → ℕ) (item : ℕ) (part : Part) (share : Share) → count (end_item part item share).held ≤ count share.held + 0
held-ended count item part share =
    let P : Bool → Type 0 = λ b. count (cond b (record share { ended = share.ended ++ item ∷ [] }) share).held ≤ count share.held + 0 in
    elim (list_any (λ k. k == item) (owned_items part.executor)) as P [ true ↦ omega arith | false ↦ omega arith ]

pub in_share-ended : (count : List HeldUser → ℕ) (plan : Plan) (n k item : ℕ) (state : State) → in_share count n (end_item_of plan k item state).shares ≤ in_share count n state.shares
in_share-ended count plan n k item state =
    let P : Option Part → Type 0 = λ o. in_share count n (option_map_or (λ part. change_share state k (end_item part item)) o state).shares ≤ in_share count n state.shares in
    elim (slice_get plan.parts k) as P [
      | None ↦ omega arith
      | Some part ↦ let bound = in_share-most count 0 k n (end_item part item) state.shares (held-ended count item part) in omega arith
    ]

-- the count of a share that there is
pub in_share-at : (count : List HeldUser → ℕ) (n : ℕ) (share : Share) (shares : List Share) → slice_get shares n ≡ Some share → in_share count n shares ≡ count share.held
in_share-at count n share [] at = absurd (cc)
in_share-at count zero share (x ∷ rest) at = let same : x ≡ share = cc in ap (λ (z : Share). count z.held) same
in_share-at count (suc n) share (x ∷ rest) at = in_share-at count n share rest at

-- ---- a slot that a user takes is free

last_fails : (a b : Bool) → (a && not b) ≡ true → b ≡ false
last_fails true false h = refl
last_fails true true h = absurd (cc)
last_fails false b h = absurd (cc)

slot_free : (executor : Executor) (s : Scenario) (slot t : ℕ) → has_slots executor ≡ true → executor_may_take executor s slot t ≡ true → is_held_slot s slot ≡ false
slot_free (PerVuIterations slots items) s slot t some h =
    last_fails (is_live s t) (is_held_slot s slot) (both_true (is_live s t && not (is_held_slot s slot)) (slot_has_open_item s items slot) h).0
slot_free (ConstantVus _) s slot t some h = last_fails (is_live s t) (is_held_slot s slot) h
slot_free (RampingVus ramp_grace slots) s slot t some h = last_fails (runs s && is_slot_on s slots slot t) (is_held_slot s slot) h
slot_free (ExternallyControlled _ _ _) s slot t some h = last_fails (is_live s t && nat_lt slot s.controls.vus) (is_held_slot s slot) h
slot_free (SharedIterations _ _) s slot t some h = absurd (cc)
slot_free (ArrivalRate _ _ _) s slot t some h = absurd (cc)

none_slot : (slot : ℕ) (held : List HeldUser) → list_any (λ (h : HeldUser). h.slot == slot) held ≡ false → times_slot slot held ≡ 0
none_slot slot [] h = refl
none_slot slot (g ∷ rest) h =
    let parts = or_parts (g.slot == slot) (list_any (λ (h : HeldUser). h.slot == slot) rest) h in
    let later = none_slot slot rest parts.1 in
    rw (parts.0, later) (omega arith)

-- an executor with arrivals has no slots of its own
pub arrivals_no_slots : (executor : Executor) (p : Arrival → Bool) (a : Arrival) → find p (executor_arrivals executor) ≡ Some a → has_slots executor ≡ true → ⊥
arrivals_no_slots (ArrivalRate _ _ _) p a h some = cc
arrivals_no_slots (SharedIterations _ _) p a h some = cc
arrivals_no_slots (PerVuIterations _ _) p a h some = cc
arrivals_no_slots (ConstantVus _) p a h some = cc
arrivals_no_slots (RampingVus _ _) p a h some = cc
arrivals_no_slots (ExternallyControlled _ _ _) p a h some = cc

pub some_same : {A : Type 0} {x y : A} → Some x ≡ Some y → x ≡ y
some_same e = cc

-- the slot that an act takes or grows a user for in scenario n is held by nobody
abbrev pub TakesFree : ℕ → State → Act → Type 0
TakesFree n state (Take k _ slot) = k ≡ n → in_share (times_slot slot) n state.shares ≡ 0
TakesFree n state (Grow k _ slot) = k ≡ n → in_share (times_slot slot) n state.shares ≡ 0
TakesFree n state _ = Unit {0}

-- ---- one scenario with slots

module _ (plan : Plan) (part : Part) (n : ℕ) (part_is : slice_get plan.parts n ≡ Some part) (some : has_slots part.executor ≡ true) where
  -- a scenario of this number has slots
  pub scenario_slots : (state : State) (k : ℕ) (s : Scenario) → slice_get (scenarios plan state) k ≡ Some s → k ≡ n → has_slots s.part.executor ≡ true
  scenario_slots state k s stands same =
      let of_it = stands_share state.controls plan.parts state.shares k s stands in
      let at_n : slice_get plan.parts n ≡ Some s.part = subst (λ m. slice_get plan.parts m ≡ Some s.part) same of_it.0 in
      let it : part ≡ s.part = some_same (sym part_is ∙ at_n) in
      subst (λ (p : Part). has_slots p.executor ≡ true) it some

  arrival_elsewhere : (state : State) (k : ℕ) (s : Scenario) (t : ℕ) (a : Arrival) (slot : ℕ) → slice_get (scenarios plan state) k ≡ Some s →
      least_open_arrival s ≡ Some a → k ≡ n → in_share (times_slot slot) n state.shares ≡ 0
  arrival_elsewhere state k s t a slot stands found same = absurd (arrivals_no_slots s.part.executor (λ (x : Arrival). is_open_item s x.item) a found (scenario_slots state k s stands same))

  take_free : (state : State) (k : ℕ) (s : Scenario) (t slot : ℕ) → slice_get (scenarios plan state) k ≡ Some s → executor_may_take s.part.executor s slot t ≡ true →
      k ≡ n → in_share (times_slot slot) n state.shares ≡ 0
  take_free state k s t slot stands may same =
      let free = slot_free s.part.executor s slot t (scenario_slots state k s stands same) may in
      let of_it = stands_share state.controls plan.parts state.shares k s stands in
      let at_n : slice_get state.shares n ≡ Some s.share = subst (λ m. slice_get state.shares m ≡ Some s.share) same of_it.1 in
      in_share-at (times_slot slot) n s.share state.shares at_n ∙ none_slot slot s.share.held free

  -- each act of an enabled move takes a free slot only
  move_free : (state : State) (k : ℕ) (s : Scenario) (t : ℕ) (move : Move) → slice_get (scenarios plan state) k ≡ Some s →
      Source (users_of plan state) k s t move → (act : Act) → In act (acts_of move) → TakesFree n state act
  move_free state k s t move stands (by_stop e) act at = subst (TakesFree n state) (In-one act (Stop k) at) tt
  move_free state k s t move stands (by_release u idle e) act at = subst (TakesFree n state) (In-one act (Release k u.user) at) tt
  move_free state k s t move stands (by_take user slot free slots e) act at =
      subst (TakesFree n state) (In-one act (Take k user slot) at) (take_free state k s t slot stands e)
  move_free state k s t move stands (by_start u item idle e) act at = subst (TakesFree n state) (In-one act (Start k u.user item (until_of s u.slot t)) at) tt
  move_free state k s t move stands (by_drop item e) act at = subst (TakesFree n state) (In-one act (Drop k item) at) tt
  move_free state k s t move stands (by_close e) act at = subst (TakesFree n state) (In-one act (Close k) at) tt
  move_free state k s t move stands (by_arrival a CountLate due e) act at = subst (TakesFree n state) (In-one act (Late k a.item) at) tt
  move_free state k s t move stands (by_arrival a DropArrival due e) act at = subst (TakesFree n state) (In-one act (Drop k a.item) at) tt
  move_free state k s t move stands (by_arrival a (StartOn user) due e) act at =
      subst (TakesFree n state) (In-one act (Start k user a.item (hard_moment s.part)) at) tt
  move_free state k s t move stands (by_arrival a (GrowAndStart user slot) due e) act at =
      elim (in_two act (Grow k user slot) (Start k user a.item (hard_moment s.part)) at) [
        | inl grown ↦ subst (TakesFree n state) grown (arrival_elsewhere state k s t a slot stands (due_tells s t a due).0)
        | inr started ↦ subst (TakesFree n state) started tt
      ]
  move_free state k s t move stands (by_arrival a (TakeAndStart user slot) due e) act at =
      elim (in_two act (Take k user slot) (Start k user a.item (hard_moment s.part)) at) [
        | inl taken ↦ subst (TakesFree n state) taken (arrival_elsewhere state k s t a slot stands (due_tells s t a due).0)
        | inr started ↦ subst (TakesFree n state) started tt
      ]

  wrote_free : (state : State) (thread t : ℕ) (entries : List Entry) → Wrote plan state thread t entries →
      (act : Act) → In act (map (λ (e : Entry). e.act) entries) → TakesFree n state act
  wrote_free state thread t entries w act at =
      let where_it = first_enabled plan state t w.move w.first in
      move_free state where_it.number where_it.scenario t w.move where_it.stands
      (source_of (users_of plan state) where_it.number where_it.scenario t w.move where_it.enabled) act
      (subst (λ acts. In act acts) (sym (acts_written plan state thread t entries w)) at)

  unasked_free : (state : State) (act : Act) → is_asked_act act ≡ false → TakesFree n state act
  unasked_free state (Take k user slot) h = absurd (cc)
  unasked_free state (Grow k user slot) h = absurd (cc)
  unasked_free state _ h = tt

  one_free : (state : State) (one : Entry) → adds_one plan state one ≡ true → TakesFree n state one.act
  one_free state one h =
      let P : Bool → Type 0 = λ b. is_asked_act one.act ≡ b → TakesFree n state one.act in
      let free : P (is_asked_act one.act) = elim (is_asked_act one.act) as P [
        | true ↦ λ asked. wrote_free state one.thread one.reading (one ∷ []) (one_wrote plan state one asked h) one.act here
        | false ↦ λ unasked. unasked_free state one.act unasked
      ] in free refl

  -- each slot of the scenario is held once at most
  abbrev pub SlotsOnce : State → Type 0
  SlotsOnce state = (slot : ℕ) → in_share (times_slot slot) n state.shares ≤ 1

  hold_once : (state : State) (k user taken : ℕ) → SlotsOnce state → (k ≡ n → in_share (times_slot taken) n state.shares ≡ 0) →
      (slot : ℕ) → in_share (times_slot slot) n (change_at k (hold user taken) state.shares) ≤ 1
  hold_once state k user taken once free slot =
      let P : Bool → Type 0 = λ b. (k == n) ≡ b → in_share (times_slot slot) n (change_at k (hold user taken) state.shares) ≤ 1 in
      let bound : P (k == n) = elim (k == n) as P [
        | true ↦ λ e.
            let same : k ≡ n = grind (arith, common_steps) in
            let most = in_share-most (times_slot slot) (hit taken slot) k n (hold user taken) state.shares
            (λ share. let e2 = slot-with_user slot (record { user = user; slot = taken; condition = Idle }) share.held in omega arith) in
            let Q : Bool → Type 0 = λ b. (taken == slot) ≡ b → in_share (times_slot slot) n state.shares + cond b 1 0 ≤ 1 in
            let few : Q (taken == slot) = elim (taken == slot) as Q [
              | true ↦ λ is_it.
                  let same_slot : taken ≡ slot = grind (arith, common_steps) in
                  let none : in_share (times_slot slot) n state.shares ≡ 0 = subst (λ z. in_share (times_slot z) n state.shares ≡ 0) same_slot (free same) in
                  omega arith
              | false ↦ λ is_not. let now = once slot in omega arith
            ] in
            let so = few refl in omega arith
        | false ↦ λ e.
            let kept = in_share-other (times_slot slot) k n (hold user taken) state.shares (λ same. numbers_apart k n e same) in
            let now = once slot in omega arith
      ] in bound refl
    where
      numbers_apart : (a b : ℕ) → (a == b) ≡ false → a ≡ b → ⊥
      numbers_apart a b e same = grind (arith, common_steps)

  entry_once : (state : State) (at thread t : ℕ) (act : Act) → SlotsOnce state → TakesFree n state act →
      SlotsOnce (after_entry plan state (record { turn = at; thread = thread; act = act; reading = t }))
  entry_once state at thread t (Take k user taken) once free slot = hold_once state k user taken once free slot
  entry_once state at thread t (Grow k user taken) once free slot = hold_once state k user taken once free slot
  entry_once state at thread t (Start k user item until) once free slot =
      let first = in_share-most (times_slot slot) 0 k n (put_condition user (Busy thread item until)) state.shares
      (λ share. let e = slot-if_user slot user (Busy thread item until) share.held in omega arith) in
      let second = in_share-ended (times_slot slot) plan n k item (change_share state k (put_condition user (Busy thread item until))) in
      let now = once slot in omega arith
  entry_once state at thread t (Drop k item) once free slot =
      let bound = in_share-ended (times_slot slot) plan n k item state in let now = once slot in omega arith
  entry_once state at thread t (Late k item) once free slot =
      let bound = in_share-ended (times_slot slot) plan n k item state in let now = once slot in omega arith
  entry_once state at thread t (Return k user item outcome tally) once free slot =
      let bound = in_share-most (times_slot slot) 0 k n (put_condition user Idle) state.shares
      (λ share. let e = slot-if_user slot user Idle share.held in omega arith) in
      let now = once slot in omega arith
  entry_once state at thread t (Release k user) once free slot =
      let bound = in_share-most (times_slot slot) 0 k n (let_go user) state.shares
      (λ share. let e = slot-filter slot (λ (h : HeldUser). not (h.user == user)) share.held in omega arith) in
      let now = once slot in omega arith
  entry_once state at thread t (Stop k) once free slot =
      let change : Share → Share = λ share. record share { level = Halted } in
      let bound = in_share-most (times_slot slot) 0 k n change state.shares (λ share. omega arith) in
      let now = once slot in omega arith
  entry_once state at thread t (Close k) once free slot =
      let change : Share → Share = λ share. record share { closed = true } in
      let bound = in_share-most (times_slot slot) 0 k n change state.shares (λ share. omega arith) in
      let now = once slot in omega arith
  entry_once state at thread t (Control commands.Stop) once free slot =
      let bound = in_share-stopped (times_slot slot) t n state.shares in let now = once slot in omega arith
  entry_once state at thread t (Control (commands.Pause b)) once free slot = once slot
  entry_once state at thread t (Control (commands.Vus v)) once free slot = once slot
  entry_once state at thread t (Control (commands.VusMax v)) once free slot = once slot

  one_once : (state : State) (one : Entry) → SlotsOnce state → adds_one plan state one ≡ true → SlotsOnce (after_entry plan state one)
  one_once state one once h = entry_once state one.turn one.thread one.reading one.act once (one_free state one h)

  two_once : (state : State) (one two : Entry) → SlotsOnce state → adds_two plan state one two ≡ true → SlotsOnce (after_entry plan (after_entry plan state one) two)
  two_once state one two once h =
      let first = entry_once state one.turn one.thread one.reading one.act once
      (wrote_free state one.thread one.reading (one ∷ two ∷ []) (pair_wrote plan state one two h) one.act here) in
      let p = pair_of plan state one two h in
      entry_once (after_entry plan state one) two.turn two.thread two.reading two.act first (subst (TakesFree n (after_entry plan state one)) p.starts tt)

  -- ---- whole histories

  pub steps_slots_once : (history : List Entry) (state : State) → are_steps plan state history ≡ true → SlotsOnce state → SlotsOnce (after_entries plan state history)
  steps_slots_once [] state h once = once
  steps_slots_once (one ∷ []) state h once = one_once state one once h
  steps_slots_once (one ∷ two ∷ rest) state h once =
      elim (some_true (adds_one plan state one && are_steps plan (after_entry plan state one) (two ∷ rest)) _ h) [
        | inl first ↦
            let both = both_true (adds_one plan state one) _ first in
            steps_slots_once (two ∷ rest) (after_entry plan state one) both.1 (one_once state one once both.0)
        | inr second ↦
            let both = both_true (adds_two plan state one two) _ second in
            steps_slots_once rest (after_entry plan (after_entry plan state one) two) both.1 (two_once state one two once both.0)
      ]

-- at the opening no slot is held
pub opening_slots : (slot n : ℕ) (parts : List Part) → in_share (times_slot slot) n (map (λ (part : Part). opening_share) parts) ≡ 0
opening_slots slot n [] = refl
opening_slots slot zero (part ∷ parts) = refl
opening_slots slot (suc n) (part ∷ parts) = opening_slots slot n parts
