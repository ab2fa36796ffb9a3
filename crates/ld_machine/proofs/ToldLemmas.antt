-- What a scenario may be told of: the acts that its enabled moves write, behind which held users stay in order.
use Rattle.std.proofs.Common.{Contains, ◌≡◌, ◌≤◌, ◌<◌, ◌+◌, ◌==◌, ◌&&◌, ◌∙◌, ◌⊎◌, ℕ, zero, suc, Bool, true, false, cond, not, nat_lt, nat_le, is_some, List, [], ◌∷◌, ◌++◌, Option, None, Some, find, map, filter, arith, refl, sym, ap, subst, inl, inr, slice_index}
use Rattle.std.specs.List.{list_any}
use Rattle.std.specs.List.Sorted.{IsStrictlyIncreasing}
use Rattle.std.proofs.lemmas.Bool.{ltb-true, ltb-false, leb-true, lt-ltb, eqb-false, cases_lt, or_parts, and_from}
use Rattle.std.proofs.lemmas.List.Kept.{IsStrictlyIncreasing-filter}
use Rattle.ld_base.specs.declared.act.Act.{Act}
use Rattle.ld_base.specs.declared.act.Act.TheVariants.{Take, Grow, Start, Drop, Late, Return, Release, Stop, Close, Control}
use Rattle.ld_base.specs.declared.command.Command.TheVariants as commands
use Rattle.ld_machine.specs.Plan.{Arrival, Executor, SharedIterations, PerVuIterations, ConstantVus, RampingVus, ArrivalRate, ExternallyControlled, Part, owned_items, owned_slots, hard_moment}
use Rattle.ld_machine.specs.State.{StartsNothing, Condition, Idle, Busy, HeldUser, Share, is_idle, idle_users, held_count}
use Rattle.ld_machine.specs.Scenario.{Scenario, first_of, runs, is_live, has_ended, is_open_item, least_open_item, slot_open_item, has_open_item, slot_has_open_item, is_held_slot, is_slot_on, slots_to_take, executor_may_take, may_hold_more, executor_max_vus, executor_arrivals, due_arrival, executor_item_to_start, executor_item_to_drop, until_of}
use Rattle.ld_machine.specs.Moves.{Answer, CountLate, StartOn, GrowAndStart, TakeAndStart, DropArrival, Move, TakeUser, AnswerArrival, Users, moves_of}
use Rattle.ld_machine.specs.Acts.{acts_of}
use Rattle.ld_machine.specs.Commands.{stop_commanded_share}
use Rattle.ld_machine.specs.Effect.{with_user, if_user, hold, put_condition, end_item}
use Rattle.ld_machine.specs.ShareEffect.{share_after}
use Rattle.ld_machine.specs.Told.{MayBeTold, IsHeldInOrder, users_fit, executor_has_place, executor_next_item, newcomer_of}
use Rattle.ld_machine.proofs.ListLemmas.{In, here, there, nothing_in, filter-In, Contains-from_In, any-from_In, both_true, number_itself, In-one}
use Rattle.ld_machine.proofs.SourceLemmas.{Source, by_stop, by_release, by_take, by_arrival, by_start, by_drop, by_close, source_of, grow_answer, taken_answer, on_answer}
use Rattle.ld_machine.proofs.DropLemmas.{due_tells}
use Rattle.ld_machine.proofs.ItemLemmas.{where_tells}
use Rattle.ld_machine.proofs.FirstOfAllLemmas.{In-of}
use Rattle.ld_machine.proofs.ValidPlanLemmas.{head_below, tail_rises}
use Rattle.ld_machine.proofs.BusyLemmas.{held_end_item, held_stop}
use Rattle.ld_machine.proofs.BusyStepLemmas.{with_there}

-- ---- the item that an act ends

-- the first of some arrivals that passes has the first item that passes
first_item : (p : ℕ → Bool) (a : Arrival) (arrivals : List Arrival) → find (λ (x : Arrival). p x.item) arrivals ≡ Some a →
    first_of (filter p (map (λ (x : Arrival). x.item) arrivals)) ≡ Some a.item
first_item p a [] h = absurd (cc)
first_item p a (x ∷ rest) h =
    let P : Bool → Type 0 = λ b. cond b (Some x) (find (λ (y : Arrival). p y.item) rest) ≡ Some a →
    first_of (cond b (x.item ∷ filter p (map (λ (y : Arrival). y.item) rest)) (filter p (map (λ (y : Arrival). y.item) rest))) ≡ Some a.item in
    let by : P (p x.item) = elim (p x.item) as P [
      | true ↦ λ e. let same : x ≡ a = cc in ap (λ (y : Arrival). Some y.item) same
      | false ↦ λ e. first_item p a rest e
    ] in by h

-- the least open arrival has the least open item, and any idle user would start it
arrival_item : (executor : Executor) (s : Scenario) (a : Arrival) → find (λ (x : Arrival). is_open_item s x.item) (executor_arrivals executor) ≡ Some a →
    first_of (filter (is_open_item s) (owned_items executor)) ≡ Some a.item
arrival_item (ArrivalRate pre_allocated max_vus arrivals) s a h = first_item (is_open_item s) a arrivals h
arrival_item (SharedIterations _ _) s a h = absurd (cc)
arrival_item (PerVuIterations _ _) s a h = absurd (cc)
arrival_item (ConstantVus _) s a h = absurd (cc)
arrival_item (RampingVus _ _) s a h = absurd (cc)
arrival_item (ExternallyControlled _ _ _) s a h = absurd (cc)

arrival_next : (executor : Executor) (s : Scenario) (a : Arrival) (slot : ℕ) →
    find (λ (x : Arrival). is_open_item s x.item) (executor_arrivals executor) ≡ Some a → least_open_item s ≡ Some a.item →
    executor_next_item executor s slot ≡ Some a.item
arrival_next (ArrivalRate pre_allocated max_vus arrivals) s a slot h least = least
arrival_next (SharedIterations _ _) s a slot h least = absurd (cc)
arrival_next (PerVuIterations _ _) s a slot h least = absurd (cc)
arrival_next (ConstantVus _) s a slot h least = absurd (cc)
arrival_next (RampingVus _ _) s a slot h least = absurd (cc)
arrival_next (ExternallyControlled _ _ _) s a slot h least = absurd (cc)

module _ (s : Scenario) (t : ℕ) (a : Arrival) (due : due_arrival s t ≡ Some a) where
  due_item : least_open_item s ≡ Some a.item
  due_item = arrival_item s.part.executor s a (due_tells s t a due).0

  due_next : (slot : ℕ) → executor_next_item s.part.executor s slot ≡ Some a.item
  due_next slot = arrival_next s.part.executor s a slot (due_tells s t a due).0 due_item

-- an item that may start on a slot is the next one there, and one that may be dropped is the least open one
start_next : (executor : Executor) (s : Scenario) (slot t item : ℕ) → executor_item_to_start executor s slot t ≡ Some item →
    executor_next_item executor s slot ≡ Some item
start_next (SharedIterations users items) s slot t item h = where_tells (is_live s t) (least_open_item s) item h
start_next (PerVuIterations slots items) s slot t item h = where_tells (is_live s t) (slot_open_item s items slot) item h
start_next (ConstantVus slots) s slot t item h = where_tells (is_live s t) (Some slot) item h
start_next (RampingVus ramp_grace slots) s slot t item h = where_tells (runs s && is_slot_on s slots slot t) (Some slot) item h
start_next (ArrivalRate _ _ _) s slot t item h = absurd (cc)
start_next (ExternallyControlled vus max_vus slots) s slot t item h =
    where_tells (is_live s t && not s.controls.paused && nat_lt slot s.controls.vus) (Some slot) item h

drop_least : (executor : Executor) (s : Scenario) (t item : ℕ) → executor_item_to_drop executor s t ≡ Some item → least_open_item s ≡ Some item
drop_least (SharedIterations _ _) s t item h = where_tells (runs s && has_ended s t) (least_open_item s) item h
drop_least (PerVuIterations _ _) s t item h = where_tells (runs s && has_ended s t) (least_open_item s) item h
drop_least (ConstantVus _) s t item h = absurd (cc)
drop_least (RampingVus _ _) s t item h = absurd (cc)
drop_least (ArrivalRate _ _ _) s t item h = absurd (cc)
drop_least (ExternallyControlled _ _ _) s t item h = absurd (cc)

-- ---- a place for one user more

-- a slot of these is one of them, and the second of two tests holds
is_among : (slot : ℕ) (slots : List ℕ) → In slot slots → list_any (λ k. k == slot) slots ≡ true
is_among slot slots at = any-from_In (λ k. k == slot) slot at (number_itself slot)

owned_free : (slot : ℕ) (slots : List ℕ) (a b : Bool) → In slot slots → (a && not b) ≡ true → (list_any (λ k. k == slot) slots && not b) ≡ true
owned_free slot slots a b at h = and_from _ _ (is_among slot slots at) (both_true a (not b) h).1

below_more : (k few most : ℕ) → nat_lt k few ≡ true → nat_le few most ≡ true → nat_lt k most ≡ true
below_more k few most below fits =
    let one = ltb-true k few below in
    let two = leb-true few most fits in
    lt-ltb k most (omega arith)

-- where a user may take a slot there is a place on it
take_place : (executor : Executor) (s : Scenario) (slot t : ℕ) → users_fit executor ≡ true → In slot (slots_to_take executor s) →
    executor_may_take executor s slot t ≡ true → executor_has_place executor s slot ≡ true
take_place (SharedIterations users items) s slot t fits at h =
    (both_true (is_live s t) _ (both_true (is_live s t && nat_lt (held_count s.share) users) (has_open_item s) h).0).1
take_place (PerVuIterations slots items) s slot t fits at h =
    owned_free slot slots (is_live s t) (is_held_slot s slot) at (both_true (is_live s t && not (is_held_slot s slot)) (slot_has_open_item s items slot) h).0
take_place (ConstantVus slots) s slot t fits at h = owned_free slot slots (is_live s t) (is_held_slot s slot) at h
take_place (RampingVus ramp_grace slots) s slot t fits at h =
    owned_free slot (owned_slots (RampingVus ramp_grace slots)) (runs s && is_slot_on s slots slot t) (is_held_slot s slot) at h
take_place (ArrivalRate pre_allocated max_vus arrivals) s slot t fits at h = below_more (held_count s.share) pre_allocated max_vus (both_true (is_live s t) _ h).1 fits
take_place (ExternallyControlled vus max_vus slots) s slot t fits at h =
    owned_free slot slots (is_live s t && nat_lt slot s.controls.vus) (is_held_slot s slot) at h

-- where an arrival scenario may hold more there is a place
arrival_place : (executor : Executor) (s : Scenario) (a : Arrival) (slot : ℕ) →
    find (λ (x : Arrival). is_open_item s x.item) (executor_arrivals executor) ≡ Some a →
    nat_lt (held_count s.share) (executor_max_vus executor) ≡ true → executor_has_place executor s slot ≡ true
arrival_place (ArrivalRate pre_allocated max_vus arrivals) s a slot h more = more
arrival_place (SharedIterations _ _) s a slot h more = absurd (cc)
arrival_place (PerVuIterations _ _) s a slot h more = absurd (cc)
arrival_place (ConstantVus _) s a slot h more = absurd (cc)
arrival_place (RampingVus _ _) s a slot h more = absurd (cc)
arrival_place (ExternallyControlled _ _ _) s a slot h more = absurd (cc)

-- ---- the first act of an enabled move

-- the act that is written first
heads : {A : Type 0} {x y : A} {xs ys : List A} → x ∷ xs ≡ y ∷ ys → x ≡ y
heads e = cc

told_by : (s : Scenario) (one act : Act) (xs ys : List Act) → one ∷ xs ≡ act ∷ ys → MayBeTold s one → MayBeTold s act
told_by s one act xs ys e told = subst (λ (a : Act). MayBeTold s a) (heads e) told

-- an act that brings a user isn't one that brings none
brings : (one act : Act) (xs ys : List Act) (user : ℕ) → newcomer_of one ≡ Some user → one ∷ xs ≡ act ∷ ys → newcomer_of act ≡ None → ⊥
brings one act xs ys user some e none =
    let same = heads e in
    let both : newcomer_of act ≡ Some user = subst (λ (a : Act). newcomer_of a ≡ Some user) same some in
    absurd (cc)

-- the slot on which an answer to an arrival brings a user
abbrev comes_on : Answer → Option ℕ
comes_on (GrowAndStart user slot) = Some slot
comes_on (TakeAndStart user slot) = Some slot
comes_on _ = None

module _ (users : Users) (n : ℕ) (s : Scenario) (t : ℕ) where
  move_told : (move : Move) → Source users n s t move → (act : Act) (rest : List Act) → acts_of move ≡ act ∷ rest → newcomer_of act ≡ None → MayBeTold s act
  move_told move (by_stop may) act rest e old = told_by s (Stop n) act [] rest e tt
  move_told move (by_release h idle may) act rest e old = told_by s (Release n h.user) act [] rest e (h, Contains-from_In h idle, refl)
  move_told move (by_take user slot free slots may) act rest e old = absurd (brings (Take n user slot) act [] rest user refl e old)
  move_told move (by_start h item idle may) act rest e old =
      told_by s (Start n h.user item (until_of s h.slot t)) act [] rest e (h, Contains-from_In h idle, refl, start_next s.part.executor s h.slot t item may)
  move_told move (by_drop item may) act rest e old = told_by s (Drop n item) act [] rest e (drop_least s.part.executor s t item may)
  move_told move (by_close may) act rest e old = told_by s (Close n) act [] rest e tt
  move_told move (by_arrival a CountLate due at) act rest e old = told_by s (Late n a.item) act [] rest e (due_item s t a due)
  move_told move (by_arrival a DropArrival due at) act rest e old = told_by s (Drop n a.item) act [] rest e (due_item s t a due)
  move_told move (by_arrival a (StartOn user) due at) act rest e old =
      let on = on_answer users n s t user at in
      told_by s (Start n user a.item (hard_moment s.part)) act [] rest e (on.0, Contains-from_In on.0 on.1, on.2, due_next s t a due on.0.slot)
  move_told move (by_arrival a (GrowAndStart user slot) due at) act rest e old =
      absurd (brings (Grow n user slot) act (Start n user a.item (hard_moment s.part) ∷ []) rest user refl e old)
  move_told move (by_arrival a (TakeAndStart user slot) due at) act rest e old =
      absurd (brings (Take n user slot) act (Start n user a.item (hard_moment s.part) ∷ []) rest user refl e old)

pub first_told : (n t : ℕ) (users : Users) (s : Scenario) (move : Move) (act : Act) (rest : List Act) →
    Contains (moves_of users n s t) move → acts_of move ≡ act ∷ rest → newcomer_of act ≡ None → MayBeTold s act
first_told n t users s move act rest at e old = move_told users n s t move (source_of users n s t move (In-of at)) act rest e old

-- ---- a place for a user that comes

module _ (users : Users) (n : ℕ) (s : Scenario) (t : ℕ) where
  place_to_take : (move : Move) → Source users n s t move → (user slot : ℕ) → users_fit s.part.executor ≡ true →
      TakeUser n user slot ≡ move → executor_has_place s.part.executor s slot ≡ true
  place_to_take move (by_take user' slot' free slots may) user slot fits e =
      let same : slot' ≡ slot = cc in
      subst (λ k. executor_has_place s.part.executor s k ≡ true) same (take_place s.part.executor s slot' t fits slots may)
  place_to_take move (by_stop may) user slot fits e = absurd (cc)
  place_to_take move (by_release h idle may) user slot fits e = absurd (cc)
  place_to_take move (by_start h item idle may) user slot fits e = absurd (cc)
  place_to_take move (by_drop item may) user slot fits e = absurd (cc)
  place_to_take move (by_close may) user slot fits e = absurd (cc)
  place_to_take move (by_arrival a answer due at) user slot fits e = absurd (cc)

  -- what an arrival scenario answers a due arrival with on a user that comes
  place_to_answer : (move : Move) → Source users n s t move → (due item until slot : ℕ) (answer : Answer) → comes_on answer ≡ Some slot →
      AnswerArrival n due item until answer ≡ move → executor_has_place s.part.executor s slot ≡ true
  place_to_answer move (by_arrival a CountLate due' at) due item until slot answer on e = absurd (cc)
  place_to_answer move (by_arrival a DropArrival due' at) due item until slot answer on e = absurd (cc)
  place_to_answer move (by_arrival a (StartOn user) due' at) due item until slot answer on e = absurd (cc)
  place_to_answer move (by_arrival a (GrowAndStart user slot') due' at) due item until slot answer on e =
      let same : slot' ≡ slot = cc in
      let more = (both_true (may_hold_more s) (nat_lt users.made users.limit) (grow_answer users n s t user slot' at).1).0 in
      subst (λ k. executor_has_place s.part.executor s k ≡ true) same (arrival_place s.part.executor s a slot' (due_tells s t a due').0 more)
  place_to_answer move (by_arrival a (TakeAndStart user slot') due' at) due item until slot answer on e =
      let same : slot' ≡ slot = cc in
      let more = (both_true (may_hold_more s) (is_some (first_of users.free)) (taken_answer users n s t user slot' at).1).0 in
      subst (λ k. executor_has_place s.part.executor s k ≡ true) same (arrival_place s.part.executor s a slot' (due_tells s t a due').0 more)
  place_to_answer move (by_stop may) due item until slot answer on e = absurd (cc)
  place_to_answer move (by_release h idle may) due item until slot answer on e = absurd (cc)
  place_to_answer move (by_take user slot' free slots may) due item until slot answer on e = absurd (cc)
  place_to_answer move (by_start h item' idle may) due item until slot answer on e = absurd (cc)
  place_to_answer move (by_drop item' may) due item until slot answer on e = absurd (cc)
  place_to_answer move (by_close may) due item until slot answer on e = absurd (cc)

pub taken_place : (n t user slot : ℕ) (users : Users) (s : Scenario) → users_fit s.part.executor ≡ true →
    Contains (moves_of users n s t) (TakeUser n user slot) → executor_has_place s.part.executor s slot ≡ true
taken_place n t user slot users s fits at =
    place_to_take users n s t (TakeUser n user slot) (source_of users n s t (TakeUser n user slot) (In-of at)) user slot fits refl

pub grown_place : (n t due item until user slot : ℕ) (users : Users) (s : Scenario) →
    Contains (moves_of users n s t) (AnswerArrival n due item until (GrowAndStart user slot)) → executor_has_place s.part.executor s slot ≡ true
grown_place n t due item until user slot users s at =
    let move = AnswerArrival n due item until (GrowAndStart user slot) in
    place_to_answer users n s t move (source_of users n s t move (In-of at)) due item until slot (GrowAndStart user slot) refl refl

pub taken_for_place : (n t due item until user slot : ℕ) (users : Users) (s : Scenario) →
    Contains (moves_of users n s t) (AnswerArrival n due item until (TakeAndStart user slot)) → executor_has_place s.part.executor s slot ≡ true
taken_for_place n t due item until user slot users s at =
    let move = AnswerArrival n due item until (TakeAndStart user slot) in
    place_to_answer users n s t move (source_of users n s t move (In-of at)) due item until slot (TakeAndStart user slot) refl refl

-- ---- the second act

-- the second of two acts
seconds : {A : Type 0} {x y a b : A} {xs : List A} → x ∷ y ∷ xs ≡ a ∷ b ∷ [] → (x ≡ a) × (y ≡ b)
seconds e = (cc, cc)

-- a user that was taken or grown for an arrival is idle, and would start its item
starter_behind : (s : Scenario) (t n user slot until : ℕ) (a : Arrival) → due_arrival s t ≡ Some a →
    MayBeTold (record s { share = hold user slot s.share }) (Start n user a.item until)
starter_behind s t n user slot until a due =
    let h : HeldUser = record { user = user; slot = slot; condition = Idle } in
    let after : Scenario = record s { share = hold user slot s.share } in
    let idle : In h (idle_users after.share) = filter-In is_idle h (with_there h s.share.held) refl in
    (h, Contains-from_In h idle, refl, arrival_next s.part.executor after a slot (due_tells s t a due).0 (due_item s t a due))

module _ (users : Users) (n t thread reading : ℕ) (s : Scenario) where
  -- the scenario behind an act
  abbrev behind : Act → Scenario
  behind act = record s { share = share_after s.part thread reading act s.share }

  second_by : (one two act next : Act) (xs : List Act) → one ∷ two ∷ xs ≡ act ∷ next ∷ [] → MayBeTold (behind one) two → MayBeTold (behind act) next
  second_by one two act next xs e told =
      let same = seconds e in
      subst (λ (b : Act). MayBeTold (behind act) b) same.1 (subst (λ (b : Act). MayBeTold (behind b) two) same.0 told)

  move_second : (move : Move) → Source users n s t move → (act next : Act) → acts_of move ≡ act ∷ next ∷ [] → MayBeTold (behind act) next
  move_second move (by_stop may) act next e = absurd (cc)
  move_second move (by_release h idle may) act next e = absurd (cc)
  move_second move (by_take user slot free slots may) act next e = absurd (cc)
  move_second move (by_start h item idle may) act next e = absurd (cc)
  move_second move (by_drop item may) act next e = absurd (cc)
  move_second move (by_close may) act next e = absurd (cc)
  move_second move (by_arrival a CountLate due at) act next e = absurd (cc)
  move_second move (by_arrival a DropArrival due at) act next e = absurd (cc)
  move_second move (by_arrival a (StartOn user) due at) act next e = absurd (cc)
  move_second move (by_arrival a (GrowAndStart user slot) due at) act next e =
      second_by (Grow n user slot) (Start n user a.item (hard_moment s.part)) act next [] e
      (starter_behind s t n user slot (hard_moment s.part) a due)
  move_second move (by_arrival a (TakeAndStart user slot) due at) act next e =
      second_by (Take n user slot) (Start n user a.item (hard_moment s.part)) act next [] e
      (starter_behind s t n user slot (hard_moment s.part) a due)

pub second_told : (n t thread reading : ℕ) (users : Users) (s : Scenario) (move : Move) (act next : Act) →
    Contains (moves_of users n s t) move → acts_of move ≡ act ∷ next ∷ [] →
    MayBeTold (record s { share = share_after s.part thread reading act s.share }) next
second_told n t thread reading users s move act next at e =
    move_second users n t thread reading s move (source_of users n s t move (In-of at)) act next e

-- ---- held users in order

-- a held user's number
abbrev number : HeldUser → ℕ
number h = h.user

-- numbers that rise, behind one that is below them
rises_cons : (x : ℕ) (xs : List ℕ) → ((y : ℕ) → In y xs → x < y) → IsStrictlyIncreasing xs → IsStrictlyIncreasing (x ∷ xs)
rises_cons x [] above rises k below = absurd (omega arith)
rises_cons x (y ∷ ys) above rises zero below = above y here
rises_cons x (y ∷ ys) above rises (suc k) below =
    let next : suc (k + 1) ≡ suc k + 1 = omega arith in
    subst (λ j. slice_index (x ∷ y ∷ ys) (suc k) < slice_index (x ∷ y ∷ ys) j) next (rises k (omega arith))

-- a held user among these and one more is that one, or one of these
with_in : (h : HeldUser) (held : List HeldUser) (y : ℕ) → In y (map number (with_user h held)) → (h.user ≡ y) ⊎ In y (map number held)
with_in h [] y at = inl (In-one y h.user at)
with_in h (g ∷ rest) y at =
    let P : Bool → Type 0 = λ b. In y (map number (cond b (h ∷ g ∷ rest) (g ∷ with_user h rest))) → (h.user ≡ y) ⊎ In y (map number (g ∷ rest)) in
    let by : P (nat_lt h.user g.user) = elim (nat_lt h.user g.user) as P [
      | true ↦ λ now. front_of h.user (map number (g ∷ rest)) now
      | false ↦ λ later. behind_of g.user h.user (map number rest) (map number (with_user h rest)) (with_in h rest y) later
    ] in by at
  where
    front_of : (x : ℕ) (xs : List ℕ) → In y (x ∷ xs) → (x ≡ y) ⊎ In y xs
    front_of x xs here = inl refl
    front_of x xs (there more) = inr more

    behind_of : (x z : ℕ) (xs ys : List ℕ) → (In y ys → (z ≡ y) ⊎ In y xs) → In y (x ∷ ys) → (z ≡ y) ⊎ In y (x ∷ xs)
    behind_of x z xs ys told here = inr here
    behind_of x z xs ys told (there more) = elim (told more) [ inl same ↦ inl same | inr old ↦ inr (there old) ]

with_rises : (h : HeldUser) (held : List HeldUser) → IsStrictlyIncreasing (map number held) → list_any (λ (g : HeldUser). g.user == h.user) held ≡ false →
    IsStrictlyIncreasing (map number (with_user h held))
with_rises h [] rises fresh = rises_cons h.user [] (λ y at. absurd (nothing_in at)) rises
with_rises h (g ∷ rest) rises fresh =
    let parts = or_parts (g.user == h.user) (list_any (λ (f : HeldUser). f.user == h.user) rest) fresh in
    let behind : (y : ℕ) → In y (map number rest) → g.user < y = λ y at. head_below g.user y (map number rest) rises (Contains-from_In y at) in
    let P : Bool → Type 0 = λ b. nat_lt h.user g.user ≡ b → IsStrictlyIncreasing (map number (cond b (h ∷ g ∷ rest) (g ∷ with_user h rest))) in
    let by : P (nat_lt h.user g.user) = elim (nat_lt h.user g.user) as P [
      | true ↦ λ e.
          let below = ltb-true h.user g.user e in
          rises_cons h.user (g.user ∷ map number rest) (above_all h.user g.user (map number rest) below behind) rises
      | false ↦ λ e.
          let most = ltb-false h.user g.user e in
          let apart = eqb-false g.user h.user parts.0 in
          let below : g.user < h.user = strictly g.user h.user most apart in
          rises_cons g.user (map number (with_user h rest))
          (λ y at. elim (with_in h rest y at) [ inl same ↦ subst (λ z. g.user < z) same below | inr old ↦ behind y old ])
          (with_rises h rest (tail_rises g.user (map number rest) rises) parts.1)
    ] in by refl
  where
    above_all : (x z : ℕ) (xs : List ℕ) → x < z → ((y : ℕ) → In y xs → z < y) → (y : ℕ) → In y (z ∷ xs) → x < y
    above_all x z xs below more y here = below
    above_all x z xs below more y (there at) = let far = more y at in omega arith

    strictly : (a b : ℕ) → a ≤ b → (a ≡ b → ⊥) → a < b
    strictly a b most apart = elim (cases_lt a b) [ inl below ↦ below | inr past ↦ absurd (apart (omega arith)) ]

-- under another condition a user keeps its number
pub numbers_put : (user : ℕ) (condition : Condition) (held : List HeldUser) → map number (map (if_user user condition) held) ≡ map number held
numbers_put user condition [] = refl
numbers_put user condition (h ∷ rest) =
    let P : Bool → Type 0 = λ b. (cond b (record h { condition = condition }) h).user ∷ map number (map (if_user user condition) rest) ≡ h.user ∷ map number rest in
    let later = numbers_put user condition rest in
    elim (h.user == user) as P [ true ↦ ap (λ (ks : List ℕ). h.user ∷ ks) later | false ↦ ap (λ (ks : List ℕ). h.user ∷ ks) later ]

-- the numbers of all but one user
pub numbers_without : (user : ℕ) (held : List HeldUser) →
    map number (filter (λ (h : HeldUser). not (h.user == user)) held) ≡ filter (λ k. not (k == user)) (map number held)
numbers_without user [] = refl
numbers_without user (h ∷ rest) =
    let later = numbers_without user rest in
    let P : Bool → Type 0 = λ b. map number (cond b (h ∷ filter (λ (g : HeldUser). not (g.user == user)) rest) (filter (λ (g : HeldUser). not (g.user == user)) rest))
    ≡ cond b (h.user ∷ filter (λ k. not (k == user)) (map number rest)) (filter (λ k. not (k == user)) (map number rest)) in
    elim (not (h.user == user)) as P [ true ↦ ap (λ (ks : List ℕ). h.user ∷ ks) later | false ↦ later ]

-- users of the same numbers are in order where the others are
abbrev Rise : List HeldUser → Type 0
Rise held = IsStrictlyIncreasing (map number held)

pub told_in_order : (s : Scenario) (thread t : ℕ) (act : Act) → IsHeldInOrder s → MayBeTold s act →
    IsHeldInOrder (record s { share = share_after s.part thread t act s.share })
told_in_order s thread t (Take n user slot) order told = with_rises (record { user = user; slot = slot; condition = Idle }) s.share.held order told.fresh
told_in_order s thread t (Grow n user slot) order told = with_rises (record { user = user; slot = slot; condition = Idle }) s.share.held order told.fresh
told_in_order s thread t (Start n user item until) order told =
    let put = put_condition user (Busy thread item until) s.share in
    let same : map number (end_item s.part item put).held ≡ map number s.share.held =
    ap (λ (held : List HeldUser). map number held) (held_end_item s.part item put) ∙ numbers_put user (Busy thread item until) s.share.held in
    subst IsStrictlyIncreasing (sym same) order
told_in_order s thread t (Drop n item) order told = subst Rise (sym (held_end_item s.part item s.share)) order
told_in_order s thread t (Late n item) order told = subst Rise (sym (held_end_item s.part item s.share)) order
told_in_order s thread t (Return n user item outcome tally) order told = subst IsStrictlyIncreasing (sym (numbers_put user Idle s.share.held)) order
told_in_order s thread t (Release n user) order told =
    subst IsStrictlyIncreasing (sym (numbers_without user s.share.held)) (IsStrictlyIncreasing-filter (λ k. not (k == user)) (map number s.share.held) order)
told_in_order s thread t (Stop n) order told = order
told_in_order s thread t (Close n) order told = order
told_in_order s thread t (Control commands.Stop) order told = subst Rise (sym (held_stop t s.share)) order
told_in_order s thread t (Control (commands.Pause b)) order told = order
told_in_order s thread t (Control (commands.Vus v)) order told = order
told_in_order s thread t (Control (commands.VusMax v)) order told = order
