-- The seating of a scenario behind an act is that of what the act makes of the scenario.
use Rattle.std.proofs.Common.{◌≡◌, ◌≤◌, ◌<◌, ◌+◌, ◌-◌, ◌==◌, ◌&&◌, ◌||◌, ◌∙◌, ℕ, Bool, true, false, cond, not, List, length, Some, filter, map, slice_get, arith, refl, sym, ap, subst, inl, inr, rules}
use Rattle.std.specs.List.{list_any}
use Rattle.std.specs.List.Sorted.{IsStrictlyIncreasing}
use Rattle.std.proofs.lemmas.Bool.{eqb-true, ne_eqb, true≢false}
use Rattle.std.proofs.lemmas.List.{length-map}
use Rattle.std.proofs.lemmas.List.Elements.{filter_agree}
use Rattle.ld_base.specs.Tally.{TallyView}
use Rattle.ld_base.specs.declared.act.Act.{Act}
use Rattle.ld_base.specs.declared.act.Act.TheVariants as acts
use Rattle.ld_base.specs.declared.act.Outcome.{Outcome}
use Rattle.ld_base.specs.declared.command.Command.{Command}
use Rattle.ld_base.specs.declared.command.Command.TheVariants as commands
use Rattle.ld_machine.specs.Commands.{stop_commanded_share}
use Rattle.ld_machine.specs.Effect.{with_user, if_user, hold, put_condition, let_go, end_item}
use Rattle.ld_machine.specs.Plan.{Executor, SharedIterations, PerVuIterations, ConstantVus, RampingVus, ArrivalRate, ExternallyControlled, owned_slots}
use Rattle.ld_machine.specs.Scenario.{Scenario, is_held_slot}
use Rattle.ld_machine.specs.ShareEffect.{share_after}
use Rattle.ld_machine.specs.Slots.{has_slots}
use Rattle.ld_machine.specs.State as machine
use Rattle.ld_machine.specs.Together.{holds}
use Rattle.ld_machine.specs.Told.{IsHeldInOrder, IsNewcomer, MayBeTold, executor_has_place}
use Rattle.ld_machine.proofs.BusyLemmas.{held_end_item, held_stop}
use Rattle.ld_machine.proofs.FirstOfAllLemmas.{In-of}
use Rattle.ld_machine.proofs.ListLemmas.{In, In-filter, In-map, both_true, number_itself, any-from_In, map-In, Contains-from_In}
use Rattle.ld_machine.proofs.ToldLemmas.{told_in_order}
use Rattle.ld_course.proofs.IdleLemmas.{numbers_of, count_with, count_without}
use Rattle.ld_set.specs.SetView.{is_among, with_number, without_number}
use Rattle.ld_seats.specs.Changes.{busied, rested, seated, vacated}
use Rattle.ld_seats.specs.Seating.{IsSeated, IsSeating, SeatingView, is_idle_slot}
use Rattle.ld_seats.specs.Seats.{IsSeat}
use Rattle.ld_seats.proofs.HeldSlotsLemmas.{IsAlone, has_number, has_slot, idle_slot_busy, idle_slot_put, idle_slot_with, idle_slot_without, newcomer, slot_put, slot_with, slot_without, with_in}
use Rattle.ld_seats.proofs.NumbersLemmas.{among_in, among_with, among_without, few_rising, kept_less, kept_more, put_elsewhere, same_test}

-- ---- tests

is_number : (a b : ℕ) → a ≡ b → (a == b) ≡ true
is_number a b e = rw e (number_itself b)

-- a newcomer's slot is an owned one, and nobody has it
owned_place : (slot : ℕ) (slots : List ℕ) (held : Bool) → (list_any (λ k. k == slot) slots && not held) ≡ true → In slot slots × (held ≡ false)
owned_place slot slots held place =
    let both = both_true (list_any (λ k. k == slot) slots) (not held) place in (among_in slot slots both.0, unheld held both.1)
  where
    unheld : (b : Bool) → not b ≡ true → b ≡ false
    unheld false h = refl
    unheld true h = absurd (cc)

place_is : (e : Executor) (s : Scenario) (slot : ℕ) → has_slots e ≡ true → executor_has_place e s slot ≡ true →
    In slot (owned_slots e) × (is_held_slot s slot ≡ false)
place_is (PerVuIterations slots items) s slot has place = owned_place slot slots (is_held_slot s slot) place
place_is (ConstantVus slots) s slot has place = owned_place slot slots (is_held_slot s slot) place
place_is (RampingVus ramp_grace slots) s slot has place = owned_place slot (owned_slots (RampingVus ramp_grace slots)) (is_held_slot s slot) place
place_is (ExternallyControlled vus max_vus slots) s slot has place = owned_place slot slots (is_held_slot s slot) place
place_is (SharedIterations _ _) s slot has place = absurd (cc)
place_is (ArrivalRate _ _ _) s slot has place = absurd (cc)

-- ---- the same users

-- where the same users are held, the seating is the same
pub held_same : (v : SeatingView) (s : Scenario) (a b : machine.Share) → b.held ≡ a.held → IsSeating v (record s { share = a }) → IsSeating v (record s { share = b })
held_same v s a b e sits =
    let other : IsSeating v (record s { share = record b { held = a.held } }) = record {
      slotted = sits.slotted;
      vacant = sits.vacant;
      idle = sits.idle;
      seats = λ h contains. let its = sits.seats h contains in record { some = its.some; few = its.few; owned = its.owned; seat = its.seat };
      held = sits.held;
      rising = sits.rising;
      few = sits.few;
      order = sits.order;
    } in
    subst (λ (k : List machine.HeldUser). IsSeating v (record s { share = record b { held = k } })) (sym e) other

module _ (v : SeatingView) (s : Scenario) (sits : IsSeating v s) where
  abbrev held : List machine.HeldUser
  held = s.share.held

  abbrev owned : List ℕ
  owned = owned_slots s.part.executor

  seat_of : (g : machine.HeldUser) → In g held → IsSeated v.seats s g
  seat_of g at = sits.seats g (Contains-from_In g at)

  -- of the held users the one on a seat has its number and its slot, and no other has either
  alone : (h : machine.HeldUser) → In h held → IsAlone h.user h.slot held
  alone h at g there_is =
      let its = (seat_of h at).seat in
      let other = (seat_of g there_is).seat in
      same_test (g.user == h.user) (g.slot == h.slot)
      (λ e.
      let same : g.user ≡ h.user = eqb-true g.user h.user e in
      let slots : Some g.slot ≡ Some h.slot = sym other.slot_is ∙ ap (slice_get v.seats.slot_of) same ∙ its.slot_is in
      is_number g.slot h.slot (cc))
      (λ e.
      let same : g.slot ≡ h.slot = eqb-true g.slot h.slot e in
      let users : Some g.user ≡ Some h.user = sym other.user_is ∙ ap (slice_get v.seats.user_of) same ∙ its.user_is in
      is_number g.user h.user (cc))

  -- whoever is held has its number and its slot among those of held users
  strange : (g : machine.HeldUser) → In g held → (user : ℕ) → (g.user == user) ≡ true → holds user s.share ≡ false → ⊥
  strange g at user same none = true≢false (sym (any-from_In (λ (h : machine.HeldUser). h.user == user) g at same) ∙ none)

  elsewhere : (g : machine.HeldUser) → In g held → (slot : ℕ) → (g.slot == slot) ≡ true → is_held_slot s slot ≡ false → ⊥
  elsewhere g at slot same none = true≢false (sym (any-from_In (λ (h : machine.HeldUser). h.slot == slot) g at same) ∙ none)

  few_held : length held ≤ 1000
  few_held =
      let long = length-map held (λ (h : machine.HeldUser). h.user) in
      let most = few_rising 1000 (numbers_of held) sits.order (λ k at.
      let found = In-map (λ (h : machine.HeldUser). h.user) k held at in
      let its = seat_of found.0 found.1 in
      subst (λ j. (1 ≤ j) × (j ≤ 1000)) found.2 (its.some, its.few)) in
      omega (arith, long, most)

  few_kept : v.held ≤ 1000
  few_kept = let most = few_held in let same = sits.held in omega arith

  -- ---- one user more

  taken : (user slot : ℕ) → IsNewcomer s user slot → IsHeldInOrder (record s { share = hold user slot s.share }) → IsSeat (seated user slot v).seats user slot →
      IsSeating (seated user slot v) (record s { share = hold user slot s.share })
  taken user slot comes order seat =
      let after : Scenario = record s { share = hold user slot s.share } in
      let place = place_is s.part.executor s slot sits.slotted (search (rules, comes.place)) in
      let h = newcomer user slot in
      record {
        slotted = sits.slotted;
        vacant =
            ap (without_number slot) sits.vacant
            ∙ kept_less (λ k. not (has_slot k held)) (λ k. not (has_slot k (with_user h held))) slot owned
            (rw (slot_with user slot slot held, number_itself slot) refl)
            (λ k at other. rw (slot_with user slot k held, ne_eqb slot k (λ e. other (sym e))) refl);
        idle = λ k. among_with slot k v.idle ∙ ap (λ b. (slot == k) || b) (sits.idle k) ∙ sym (idle_slot_with user slot k held);
        seats = λ g contains. elim (with_in h g held (In-of contains)) [
          | inl same ↦ subst (λ (x : machine.HeldUser). IsSeated (seated user slot v).seats after x) same
              (record { some = comes.some; few = comes.few; owned = Contains-from_In slot place.0; seat = seat })
          | inr old ↦
              let its = seat_of g old in
              record {
                some = its.some;
                few = its.few;
                owned = its.owned;
                seat = record {
                  slot_is = put_elsewhere v.seats.slot_of user g.user slot (λ e. strange g old user (is_number g.user user e) comes.fresh) ∙ its.seat.slot_is;
                  user_is = put_elsewhere v.seats.user_of slot g.slot user (λ e. elsewhere g old slot (is_number g.slot slot e) place.1) ∙ its.seat.user_is;
                };
              }
        ];
        held = ap (λ n. n + 1) sits.held ∙ sym (count_with h held);
        rising = sits.rising;
        few = sits.few;
        order = order;
      }

  newcomer_fits : (user slot : ℕ) → IsNewcomer s user slot → (user ≤ 1000) × (slot < v.slots) × (v.held ≤ 1000)
  newcomer_fits user slot comes =
      let place = place_is s.part.executor s slot sits.slotted (search (rules, comes.place)) in
      (comes.few, sits.few slot (Contains-from_In slot place.0), few_kept)

  take_seats : (new : SeatingView) (user slot : ℕ) →
      (user ≤ 1000 → slot < v.slots → v.held ≤ 1000 → (new ≡ seated user slot v) × IsSeat new.seats user slot) →
      IsNewcomer s user slot → IsHeldInOrder (record s { share = hold user slot s.share }) → IsSeating new (record s { share = hold user slot s.share })
  take_seats new user slot how comes order =
      let fits = newcomer_fits user slot comes in
      let is = how fits.0 fits.1 fits.2 in
      subst (λ (w : SeatingView). IsSeating w (record s { share = hold user slot s.share })) (sym is.0)
      (taken user slot comes order (subst (λ (w : SeatingView). IsSeat w.seats user slot) is.0 is.1))

  -- ---- a user under another condition

  put_seats : (user : ℕ) (condition : machine.Condition) (g : machine.HeldUser) → In g (map (if_user user condition) held) →
      IsSeated v.seats (record s { share = put_condition user condition s.share }) g
  put_seats user condition g at =
      let after : Scenario = record s { share = put_condition user condition s.share } in
      let found = In-map (if_user user condition) g held at in
      let f = found.0 in
      let P : Bool → Type 0 = λ b. IsSeated v.seats after (cond b (record f { condition = condition }) f) in
      let its = seat_of f found.1 in
      let by : P (f.user == user) = elim (f.user == user) as P [
        | true ↦ record { some = its.some; few = its.few; owned = its.owned; seat = its.seat }
        | false ↦ record { some = its.some; few = its.few; owned = its.owned; seat = its.seat }
      ] in
      subst (λ (x : machine.HeldUser). IsSeated v.seats after x) found.2 by

  -- another condition of a user changes only who is idle
  put_seated : (user : ℕ) (condition : machine.Condition) (idle : List ℕ) →
      ((slot : ℕ) → is_among idle slot ≡ is_idle_slot (record s { share = put_condition user condition s.share }) slot) →
      IsHeldInOrder (record s { share = put_condition user condition s.share }) →
      IsSeating (record v { idle = idle }) (record s { share = put_condition user condition s.share })
  put_seated user condition idle who order =
      record {
        slotted = sits.slotted;
        vacant =
            sits.vacant
            ∙ filter_agree (λ k. not (has_slot k held)) (λ k. not (has_slot k (map (if_user user condition) held)))
            (λ k. ap not (sym (slot_put user 0 condition k held))) owned;
        idle = who;
        seats = λ g contains. put_seats user condition g (In-of contains);
        held = sits.held ∙ sym (length-map held (if_user user condition));
        rising = sits.rising;
        few = sits.few;
        order = order;
      }

  -- what is kept of a held user's slot
  own_slot : (h : machine.HeldUser) → In h held → (user : ℕ) → h.user ≡ user →
      (slice_get v.seats.slot_of user ≡ Some h.slot) × (h.slot < v.slots) × IsAlone user h.slot held
  own_slot h at user same = (
    ap (slice_get v.seats.slot_of) (sym same) ∙ (seat_of h at).seat.slot_is,
    sits.few h.slot (seat_of h at).owned,
    subst (λ k. IsAlone k h.slot held) same (alone h at),
  )

  start_seats : (new : SeatingView) (user thread item until : ℕ) → ((slot : ℕ) → slice_get v.seats.slot_of user ≡ Some slot → new ≡ busied slot v) →
      (h : machine.HeldUser) → In h held → h.user ≡ user →
      IsHeldInOrder (record s { share = put_condition user (machine.Busy thread item until) s.share }) →
      IsSeating new (record s { share = put_condition user (machine.Busy thread item until) s.share })
  start_seats new user thread item until how h at same order =
      let condition : machine.Condition = machine.Busy thread item until in
      let own = own_slot h at user same in
      subst (λ (w : SeatingView). IsSeating w (record s { share = put_condition user condition s.share })) (sym (how h.slot own.0))
      (put_seated user condition (without_number h.slot v.idle)
      (λ k.
      among_without h.slot k v.idle
      ∙ ap (λ b. b && not (k == h.slot)) (sits.idle k)
      ∙ sym (idle_slot_busy user h.slot thread item until k held own.2))
      order)

  return_seats : (new : SeatingView) (user : ℕ) →
      ((slot : ℕ) → slice_get v.seats.slot_of user ≡ Some slot → slot < v.slots → new ≡ rested slot v) →
      (h : machine.HeldUser) → In h held → h.user ≡ user → IsHeldInOrder (record s { share = put_condition user machine.Idle s.share }) →
      IsSeating new (record s { share = put_condition user machine.Idle s.share })
  return_seats new user how h at same order =
      let own = own_slot h at user same in
      let there : has_number user held ≡ true = any-from_In (λ (g : machine.HeldUser). g.user == user) h at (is_number h.user user same) in
      subst (λ (w : SeatingView). IsSeating w (record s { share = put_condition user machine.Idle s.share })) (sym (how h.slot own.0 own.1))
      (put_seated user machine.Idle (with_number h.slot v.idle)
      (λ k.
      among_with h.slot k v.idle
      ∙ ap (λ b. (h.slot == k) || b) (sits.idle k)
      ∙ ap (λ b. (b && (h.slot == k)) || is_idle_slot s k) (sym there)
      ∙ sym (idle_slot_put user h.slot k held own.2))
      order)

  -- ---- one user less

  release_seats : (new : SeatingView) (user : ℕ) →
      ((slot : ℕ) → slice_get v.seats.slot_of user ≡ Some slot → slot < v.slots → new ≡ vacated slot v) →
      (h : machine.HeldUser) → In h held → h.user ≡ user → IsHeldInOrder (record s { share = let_go user s.share }) →
      IsSeating new (record s { share = let_go user s.share })
  release_seats new user how h at same order =
      let others = filter (λ (g : machine.HeldUser). not (g.user == user)) held in
      let own = own_slot h at user same in
      let one = own.2 in
      let slot_in : In h.slot owned = In-of (seat_of h at).owned in
      let number_in : In user (numbers_of held) = subst (λ k. In k (numbers_of held)) same (map-In (λ (g : machine.HeldUser). g.user) h at) in
      subst (λ (w : SeatingView). IsSeating w (record s { share = let_go user s.share })) (sym (how h.slot own.0 own.1))
      (record {
        slotted = sits.slotted;
        vacant =
            ap (with_number h.slot) sits.vacant
            ∙ kept_more (λ k. not (has_slot k held)) (λ k. not (has_slot k others)) h.slot owned sits.rising slot_in
            (rw (slot_without user h.slot h.slot held one, number_itself h.slot) (gone (has_slot h.slot held)))
            (λ k there_is other. rw (slot_without user h.slot k held one, ne_eqb k h.slot other) (stays (has_slot k held)));
        idle = λ k.
            among_without h.slot k v.idle
            ∙ ap (λ b. b && not (k == h.slot)) (sits.idle k)
            ∙ sym (idle_slot_without user h.slot k held one);
        seats = λ g contains.
            let kept = In-filter (λ (f : machine.HeldUser). not (f.user == user)) g held (In-of contains) in
            let its = seat_of g kept.0 in record { some = its.some; few = its.few; owned = its.owned; seat = its.seat };
        held = ap (λ n. n - 1) sits.held ∙ sym (count_without user held sits.order number_in);
        rising = sits.rising;
        few = sits.few;
        order = order;
      })
    where
      gone : (b : Bool) → not (b && false) ≡ true
      gone true = refl
      gone false = refl

      stays : (b : Bool) → not (b && true) ≡ not b
      stays true = refl
      stays false = refl

-- ---- one act

module _ (v new : SeatingView) (s : Scenario) (thread t : ℕ) (sits : IsSeating v s) where
  -- the new seating is that of what the act makes of the scenario, where it may be told of the act
  abbrev pub FollowsAct : Act → Type 0
  FollowsAct act = MayBeTold s act → IsSeating new (record s { share = share_after s.part thread t act s.share })

  by_act : (act one : Act) → act ≡ one → FollowsAct one → FollowsAct act
  by_act act one is follows = subst FollowsAct (sym is) follows

  in_order : (one : Act) → MayBeTold s one → IsHeldInOrder (record s { share = share_after s.part thread t one s.share })
  in_order one told = told_in_order s thread t one sits.order told

  pub took : (act : Act) (n user slot : ℕ) → act ≡ acts.Take n user slot →
      (user ≤ 1000 → slot < v.slots → v.held ≤ 1000 → (new ≡ seated user slot v) × IsSeat new.seats user slot) → FollowsAct act
  took act n user slot is how =
      let one = acts.Take n user slot in by_act act one is (λ told. take_seats v s sits new user slot how told (in_order one told))

  pub grew : (act : Act) (n user slot : ℕ) → act ≡ acts.Grow n user slot →
      (user ≤ 1000 → slot < v.slots → v.held ≤ 1000 → (new ≡ seated user slot v) × IsSeat new.seats user slot) → FollowsAct act
  grew act n user slot is how =
      let one = acts.Grow n user slot in by_act act one is (λ told. take_seats v s sits new user slot how told (in_order one told))

  pub started : (act : Act) (n user item until : ℕ) → act ≡ acts.Start n user item until →
      ((slot : ℕ) → slice_get v.seats.slot_of user ≡ Some slot → new ≡ busied slot v) → FollowsAct act
  started act n user item until is how =
      let one = acts.Start n user item until in
      by_act act one is (λ told.
      let put = put_condition user (machine.Busy thread item until) s.share in
      let same = held_end_item s.part item put in
      let order = subst (λ (k : List machine.HeldUser). IsStrictlyIncreasing (numbers_of k)) same (in_order one told) in
      held_same new s put (end_item s.part item put) same
      (start_seats v s sits new user thread item until how told.0 (In-filter machine.is_idle told.0 s.share.held (In-of told.1)).0 told.2 order))

  pub returned : (act : Act) (n user item : ℕ) (outcome : Outcome) (tally : TallyView) → act ≡ acts.Return n user item outcome tally →
      ((slot : ℕ) → slice_get v.seats.slot_of user ≡ Some slot → slot < v.slots → new ≡ rested slot v) → FollowsAct act
  returned act n user item outcome tally is how =
      let one = acts.Return n user item outcome tally in
      by_act act one is (λ told. return_seats v s sits new user how told.0 (In-of told.1) told.2 (in_order one told))

  pub released : (act : Act) (n user : ℕ) → act ≡ acts.Release n user →
      ((slot : ℕ) → slice_get v.seats.slot_of user ≡ Some slot → slot < v.slots → new ≡ vacated slot v) → FollowsAct act
  released act n user is how =
      let one = acts.Release n user in
      by_act act one is (λ told.
      release_seats v s sits new user how told.0 (In-filter machine.is_idle told.0 s.share.held (In-of told.1)).0 told.2 (in_order one told))

-- acts that bring, move and release nobody
module _ (v : SeatingView) (s : Scenario) (thread t : ℕ) (sits : IsSeating v s) where
  pub dropped : (act : Act) (n item : ℕ) → act ≡ acts.Drop n item → FollowsAct v v s thread t sits act
  dropped act n item is =
      by_act v v s thread t sits act (acts.Drop n item) is
      (λ told. held_same v s s.share (end_item s.part item s.share) (held_end_item s.part item s.share) sits)

  pub counted_late : (act : Act) (n item : ℕ) → act ≡ acts.Late n item → FollowsAct v v s thread t sits act
  counted_late act n item is =
      by_act v v s thread t sits act (acts.Late n item) is
      (λ told. held_same v s s.share (end_item s.part item s.share) (held_end_item s.part item s.share) sits)

  pub stopped : (act : Act) (n : ℕ) → act ≡ acts.Stop n → FollowsAct v v s thread t sits act
  stopped act n is = by_act v v s thread t sits act (acts.Stop n) is (λ told. held_same v s s.share (record s.share { level = machine.Halted }) refl sits)

  pub closed : (act : Act) (n : ℕ) → act ≡ acts.Close n → FollowsAct v v s thread t sits act
  closed act n is = by_act v v s thread t sits act (acts.Close n) is (λ told. held_same v s s.share (record s.share { closed = true }) refl sits)

  pub controlled : (act : Act) (command : Command) → act ≡ acts.Control command → FollowsAct v v s thread t sits act
  controlled act command is = by_act v v s thread t sits act (acts.Control command) is (λ told. by command)
    where
      by : (one : Command) → IsSeating v (record s { share = share_after s.part thread t (acts.Control one) s.share })
      by commands.Stop = held_same v s s.share (stop_commanded_share t s.share) (held_stop t s.share) sits
      by (commands.Pause paused) = sits
      by (commands.Vus vus) = sits
      by (commands.VusMax most) = sits
