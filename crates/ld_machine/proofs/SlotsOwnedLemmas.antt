-- A user that a scenario with slots holds has a slot that the instance owns.
use Rattle.std.proofs.Common.{◌≡◌, ◌≤◌, ◌==◌, ℕ, Bool, true, false, not, cond, ◌&&◌, List, [], ◌∷◌, Some, map, arith, refl, sym, ◌∙◌, subst, inl, inr, slice_get}
use Rattle.std.proofs.lemmas.Bool.{true≢false}
use Rattle.std.proofs.lemmas.Grind.{common_steps}
use Rattle.ld_base.specs.declared.act.Act.{Act}
use Rattle.ld_base.specs.declared.act.Act.TheVariants.{Take, Grow, Start, Drop, Late, Return, Release, Stop, Close, Control}
use Rattle.ld_base.specs.declared.command.Command.TheVariants as commands
use Rattle.ld_base.specs.declared.entry.Entry.{Entry}
use Rattle.ld_machine.specs.Plan.{Arrival, Executor, SharedIterations, PerVuIterations, ConstantVus, RampingVus, ArrivalRate, ExternallyControlled, Part, Plan, owned_slots, hard_moment}
use Rattle.ld_machine.specs.State.{Halted, Idle, Busy, HeldUser, Share, State, opening}
use Rattle.ld_machine.specs.Scenario.{Scenario, slots_to_take, is_open_item, due_arrival, until_of}
use Rattle.ld_machine.specs.Moves.{CountLate, StartOn, GrowAndStart, TakeAndStart, DropArrival, Move, users_of, scenarios}
use Rattle.ld_machine.specs.Acts.{acts_of}
use Rattle.ld_machine.specs.Effect.{hold, put_condition, let_go, change_at, change_share, after_entry, after_entries}
use Rattle.ld_machine.specs.History.{adds_one, adds_two, are_steps}
use Rattle.ld_machine.specs.OnTime.{is_asked_act}
use Rattle.ld_machine.specs.Slots.{has_slots, times_slot}
use Rattle.ld_machine.proofs.ListLemmas.{In, here, there, In-one, in_two, any-from_In, number_itself, both_true, some_true}
use Rattle.ld_machine.proofs.SourceLemmas.{Source, by_stop, by_release, by_take, by_arrival, by_start, by_drop, by_close, source_of}
use Rattle.ld_machine.proofs.StepLemmas.{Wrote, first_enabled, one_wrote, pair_wrote}
use Rattle.ld_machine.proofs.DropLemmas.{due_tells}
use Rattle.ld_machine.proofs.ItemLemmas.{has, stands_share}
use Rattle.ld_machine.proofs.HolderLemmas.{hit}
use Rattle.ld_machine.proofs.TurnLemmas.{in_share, acts_written, pair_of}
use Rattle.ld_machine.proofs.SlotLemmas.{slot-with_user, slot-if_user, slot-filter, in_share-most, in_share-other, in_share-stopped, in_share-ended, in_share-at, arrivals_no_slots, scenario_slots, opening_slots, some_same}

-- a slot that is none of some slots isn't the one of them
hit_none : (slots : List ℕ) (taken slot : ℕ) → In taken slots → has slots slot ≡ false → hit taken slot ≡ 0
hit_none slots taken slot owned strange =
    let P : Bool → Type 0 = λ b. (taken == slot) ≡ b → ◌≡◌ {A = ℕ} (cond b 1 0) 0 in
    let none : P (taken == slot) = elim (taken == slot) as P [
      | true ↦ λ e. absurd (true≢false (sym (any-from_In (λ k. k == slot) taken owned e) ∙ strange))
      | false ↦ λ e. refl
    ] in none refl

-- a held user's slot is held
slot_there : (h : HeldUser) {held : List HeldUser} → In h held → 1 ≤ times_slot h.slot held
slot_there h here = rw (number_itself h.slot) (omega arith)
slot_there h (there more) = let later = slot_there h more in omega arith

-- the slots that a user could take of an executor with slots are the owned ones
owned_to_take : (executor : Executor) (s : Scenario) → has_slots executor ≡ true → slots_to_take executor s ≡ owned_slots executor
owned_to_take (PerVuIterations slots items) s some = refl
owned_to_take (ConstantVus slots) s some = refl
owned_to_take (RampingVus ramp_grace slots) s some = refl
owned_to_take (ExternallyControlled vus max_vus slots) s some = refl
owned_to_take (SharedIterations users items) s some = absurd (cc)
owned_to_take (ArrivalRate pre_allocated max_vus arrivals) s some = absurd (cc)

-- the slot that an act takes or grows a user for in scenario n is one of these
abbrev TakesOwned : List ℕ → ℕ → Act → Type 0
TakesOwned slots n (Take k _ slot) = k ≡ n → In slot slots
TakesOwned slots n (Grow k _ slot) = k ≡ n → In slot slots
TakesOwned slots n _ = Unit {0}

-- ---- one scenario with slots

module _ (plan : Plan) (part : Part) (n : ℕ) (part_is : slice_get plan.parts n ≡ Some part) (some : has_slots part.executor ≡ true) where
  -- the slots that the instance owns of the scenario
  abbrev owned : List ℕ
  owned = owned_slots part.executor

  arrival_apart : (state : State) (k : ℕ) (s : Scenario) (t : ℕ) (a : Arrival) (slot : ℕ) → slice_get (scenarios plan state) k ≡ Some s →
      due_arrival s t ≡ Some a → k ≡ n → In slot owned
  arrival_apart state k s t a slot stands due same =
      absurd (arrivals_no_slots s.part.executor (λ (x : Arrival). is_open_item s x.item) a (due_tells s t a due).0
      (scenario_slots plan part n part_is some state k s stands same))

  take_owned : (state : State) (k : ℕ) (s : Scenario) (slot : ℕ) → slice_get (scenarios plan state) k ≡ Some s →
      In slot (slots_to_take s.part.executor s) → k ≡ n → In slot owned
  take_owned state k s slot stands at same =
      let of_it = stands_share state.controls plan.parts state.shares k s stands in
      let at_n : slice_get plan.parts n ≡ Some s.part = subst (λ m. slice_get plan.parts m ≡ Some s.part) same of_it.0 in
      let it : s.part ≡ part = some_same (sym at_n ∙ part_is) in
      let among : In slot (owned_slots s.part.executor) =
      subst (λ slots. In slot slots) (owned_to_take s.part.executor s (scenario_slots plan part n part_is some state k s stands same)) at in
      subst (λ (p : Part). In slot (owned_slots p.executor)) it among

  -- each act of an enabled move takes an owned slot only
  move_owned : (state : State) (k : ℕ) (s : Scenario) (t : ℕ) (move : Move) → slice_get (scenarios plan state) k ≡ Some s →
      Source (users_of plan state) k s t move → (act : Act) → In act (acts_of move) → TakesOwned owned n act
  move_owned state k s t move stands (by_stop e) act at = subst (TakesOwned owned n) (In-one act (Stop k) at) tt
  move_owned state k s t move stands (by_release u idle e) act at = subst (TakesOwned owned n) (In-one act (Release k u.user) at) tt
  move_owned state k s t move stands (by_take user slot free slots e) act at =
      subst (TakesOwned owned n) (In-one act (Take k user slot) at) (take_owned state k s slot stands slots)
  move_owned state k s t move stands (by_start u item idle e) act at =
      subst (TakesOwned owned n) (In-one act (Start k u.user item (until_of s u.slot t)) at) tt
  move_owned state k s t move stands (by_drop item e) act at = subst (TakesOwned owned n) (In-one act (Drop k item) at) tt
  move_owned state k s t move stands (by_close e) act at = subst (TakesOwned owned n) (In-one act (Close k) at) tt
  move_owned state k s t move stands (by_arrival a CountLate due e) act at = subst (TakesOwned owned n) (In-one act (Late k a.item) at) tt
  move_owned state k s t move stands (by_arrival a DropArrival due e) act at = subst (TakesOwned owned n) (In-one act (Drop k a.item) at) tt
  move_owned state k s t move stands (by_arrival a (StartOn user) due e) act at =
      subst (TakesOwned owned n) (In-one act (Start k user a.item (hard_moment s.part)) at) tt
  move_owned state k s t move stands (by_arrival a (GrowAndStart user slot) due e) act at =
      elim (in_two act (Grow k user slot) (Start k user a.item (hard_moment s.part)) at) [
        | inl grown ↦ subst (TakesOwned owned n) grown (arrival_apart state k s t a slot stands due)
        | inr started ↦ subst (TakesOwned owned n) started tt
      ]
  move_owned state k s t move stands (by_arrival a (TakeAndStart user slot) due e) act at =
      elim (in_two act (Take k user slot) (Start k user a.item (hard_moment s.part)) at) [
        | inl taken ↦ subst (TakesOwned owned n) taken (arrival_apart state k s t a slot stands due)
        | inr started ↦ subst (TakesOwned owned n) started tt
      ]

  wrote_owned : (state : State) (thread t : ℕ) (entries : List Entry) → Wrote plan state thread t entries →
      (act : Act) → In act (map (λ (e : Entry). e.act) entries) → TakesOwned owned n act
  wrote_owned state thread t entries w act at =
      let where_it = first_enabled plan state t w.move w.first in
      move_owned state where_it.number where_it.scenario t w.move where_it.stands
      (source_of (users_of plan state) where_it.number where_it.scenario t w.move where_it.enabled) act
      (subst (λ acts. In act acts) (sym (acts_written plan state thread t entries w)) at)

  unasked_owned : (act : Act) → is_asked_act act ≡ false → TakesOwned owned n act
  unasked_owned (Take k user slot) h = absurd (cc)
  unasked_owned (Grow k user slot) h = absurd (cc)
  unasked_owned _ h = tt

  one_owned : (state : State) (one : Entry) → adds_one plan state one ≡ true → TakesOwned owned n one.act
  one_owned state one h =
      let P : Bool → Type 0 = λ b. is_asked_act one.act ≡ b → TakesOwned owned n one.act in
      let takes : P (is_asked_act one.act) = elim (is_asked_act one.act) as P [
        | true ↦ λ asked. wrote_owned state one.thread one.reading (one ∷ []) (one_wrote plan state one asked h) one.act here
        | false ↦ λ unasked. unasked_owned one.act unasked
      ] in takes refl

  -- no slot is held but owned ones
  abbrev SlotsOwned : State → Type 0
  SlotsOwned state = (slot : ℕ) → has owned slot ≡ false → in_share (times_slot slot) n state.shares ≡ 0

  hold_owned : (state : State) (k user taken : ℕ) → SlotsOwned state → (k ≡ n → In taken owned) →
      (slot : ℕ) → has owned slot ≡ false → in_share (times_slot slot) n (change_at k (hold user taken) state.shares) ≡ 0
  hold_owned state k user taken kept takes slot strange =
      let now = kept slot strange in
      let P : Bool → Type 0 = λ b. (k == n) ≡ b → in_share (times_slot slot) n (change_at k (hold user taken) state.shares) ≡ 0 in
      let none : P (k == n) = elim (k == n) as P [
        | true ↦ λ e.
            let same : k ≡ n = grind (arith, common_steps) in
            let apart = hit_none owned taken slot (takes same) strange in
            let most = in_share-most (times_slot slot) (hit taken slot) k n (hold user taken) state.shares
            (λ share. let e2 = slot-with_user slot (record { user = user; slot = taken; condition = Idle }) share.held in omega arith) in
            omega arith
        | false ↦ λ e. in_share-other (times_slot slot) k n (hold user taken) state.shares (λ same. numbers_apart k n e same) ∙ now
      ] in none refl
    where
      numbers_apart : (a b : ℕ) → (a == b) ≡ false → a ≡ b → ⊥
      numbers_apart a b e same = grind (arith, common_steps)

  entry_owned : (state : State) (at thread t : ℕ) (act : Act) → SlotsOwned state → TakesOwned owned n act →
      SlotsOwned (after_entry plan state (record { turn = at; thread = thread; act = act; reading = t }))
  entry_owned state at thread t (Take k user taken) kept takes slot strange = hold_owned state k user taken kept takes slot strange
  entry_owned state at thread t (Grow k user taken) kept takes slot strange = hold_owned state k user taken kept takes slot strange
  entry_owned state at thread t (Start k user item until) kept takes slot strange =
      let first = in_share-most (times_slot slot) 0 k n (put_condition user (Busy thread item until)) state.shares
      (λ share. let e = slot-if_user slot user (Busy thread item until) share.held in omega arith) in
      let second = in_share-ended (times_slot slot) plan n k item (change_share state k (put_condition user (Busy thread item until))) in
      let now = kept slot strange in omega arith
  entry_owned state at thread t (Drop k item) kept takes slot strange =
      let bound = in_share-ended (times_slot slot) plan n k item state in let now = kept slot strange in omega arith
  entry_owned state at thread t (Late k item) kept takes slot strange =
      let bound = in_share-ended (times_slot slot) plan n k item state in let now = kept slot strange in omega arith
  entry_owned state at thread t (Return k user item outcome tally) kept takes slot strange =
      let bound = in_share-most (times_slot slot) 0 k n (put_condition user Idle) state.shares
      (λ share. let e = slot-if_user slot user Idle share.held in omega arith) in
      let now = kept slot strange in omega arith
  entry_owned state at thread t (Release k user) kept takes slot strange =
      let bound = in_share-most (times_slot slot) 0 k n (let_go user) state.shares
      (λ share. let e = slot-filter slot (λ (h : HeldUser). not (h.user == user)) share.held in omega arith) in
      let now = kept slot strange in omega arith
  entry_owned state at thread t (Stop k) kept takes slot strange =
      let change : Share → Share = λ share. record share { level = Halted } in
      let bound = in_share-most (times_slot slot) 0 k n change state.shares (λ share. omega arith) in
      let now = kept slot strange in omega arith
  entry_owned state at thread t (Close k) kept takes slot strange =
      let change : Share → Share = λ share. record share { closed = true } in
      let bound = in_share-most (times_slot slot) 0 k n change state.shares (λ share. omega arith) in
      let now = kept slot strange in omega arith
  entry_owned state at thread t (Control commands.Stop) kept takes slot strange =
      let bound = in_share-stopped (times_slot slot) t n state.shares in let now = kept slot strange in omega arith
  entry_owned state at thread t (Control (commands.Pause b)) kept takes slot strange = kept slot strange
  entry_owned state at thread t (Control (commands.Vus v)) kept takes slot strange = kept slot strange
  entry_owned state at thread t (Control (commands.VusMax v)) kept takes slot strange = kept slot strange

  one_kept : (state : State) (one : Entry) → SlotsOwned state → adds_one plan state one ≡ true → SlotsOwned (after_entry plan state one)
  one_kept state one kept h = entry_owned state one.turn one.thread one.reading one.act kept (one_owned state one h)

  two_kept : (state : State) (one two : Entry) → SlotsOwned state → adds_two plan state one two ≡ true →
      SlotsOwned (after_entry plan (after_entry plan state one) two)
  two_kept state one two kept h =
      let first = entry_owned state one.turn one.thread one.reading one.act kept
      (wrote_owned state one.thread one.reading (one ∷ two ∷ []) (pair_wrote plan state one two h) one.act here) in
      let p = pair_of plan state one two h in
      entry_owned (after_entry plan state one) two.turn two.thread two.reading two.act first (subst (TakesOwned owned n) p.starts tt)

  -- ---- whole histories

  steps_owned : (history : List Entry) (state : State) → are_steps plan state history ≡ true → SlotsOwned state →
      SlotsOwned (after_entries plan state history)
  steps_owned [] state h kept = kept
  steps_owned (one ∷ []) state h kept = one_kept state one kept h
  steps_owned (one ∷ two ∷ rest) state h kept =
      elim (some_true (adds_one plan state one && are_steps plan (after_entry plan state one) (two ∷ rest)) _ h) [
        | inl first ↦
            let both = both_true (adds_one plan state one) _ first in
            steps_owned (two ∷ rest) (after_entry plan state one) both.1 (one_kept state one kept both.0)
        | inr second ↦
            let both = both_true (adds_two plan state one two) _ second in
            steps_owned rest (after_entry plan (after_entry plan state one) two) both.1 (two_kept state one two kept both.0)
      ]

  -- a user that the scenario holds behind a legal history has an owned slot
  pub held_owned : (history : List Entry) (share : Share) (h : HeldUser) → are_steps plan (opening plan) history ≡ true →
      slice_get (after_entries plan (opening plan) history).shares n ≡ Some share → In h share.held → has owned h.slot ≡ true
  held_owned history share h legal stands at =
      let P : Bool → Type 0 = λ b. has owned h.slot ≡ b → has owned h.slot ≡ true in
      let kept : P (has owned h.slot) = elim (has owned h.slot) as P [
        | true ↦ λ e. e
        | false ↦ λ e.
            let none = steps_owned history (opening plan) legal (λ slot strange. opening_slots slot n plan.parts) h.slot e in
            let count = in_share-at (times_slot h.slot) n share (after_entries plan (opening plan) history).shares stands in
            let some_time = slot_there h at in
            absurd (omega arith)
      ] in kept refl
