-- No item is started, dropped or counted late twice.
use Rattle.std.proofs.Common.{◌≡◌, ◌+◌, ◌==◌, if◌then◌else◌, ℕ, zero, suc, Bool, true, false, not, cond, ◌&&◌, ◌||◌, List, [], ◌∷◌, ◌++◌, Option, None, Some, find, map, filter_map, arith, refl, sym, ap, ◌∙◌, subst, inl, inr, slice_get}
use Rattle.std.specs.Prelude.{option_map}
use Rattle.std.specs.Option.{option_map_or}
use Rattle.std.specs.List.{list_any, list_all, cons_option}
use Rattle.std.proofs.lemmas.Grind.{common_steps}
use Rattle.ld_base.specs.declared.act.Act.{Act}
use Rattle.ld_base.specs.declared.act.Act.TheVariants.{Take, Grow, Start, Drop, Late, Return, Release, Stop, Close, Control}
use Rattle.ld_base.specs.declared.command.Command.TheVariants as commands
use Rattle.ld_base.specs.declared.entry.Entry.{Entry}
use Rattle.ld_machine.specs.Plan.{SlotItem, Arrival, Executor, SharedIterations, PerVuIterations, ConstantVus, RampingVus, ArrivalRate, ExternallyControlled, Part, Plan, owned_items}
use Rattle.ld_machine.specs.State.{StartsNothing, Busy, Share, Controls, State}
use Rattle.ld_machine.specs.Scenario.{Scenario, first_of, where_holds, runs, is_live, has_ended, is_open_item, open_items, least_open_item, slot_open_item, executor_arrivals, executor_item_to_start, executor_item_to_drop}
use Rattle.ld_machine.specs.Moves.{CountLate, StartOn, GrowAndStart, TakeAndStart, DropArrival, Move, StopScenario, ReleaseUser, TakeUser, AnswerArrival, StartIteration, DropIteration, CloseScenario, Users, users_of, scenarios_with, scenarios}
use Rattle.ld_machine.specs.Acts.{acts_of}
use Rattle.ld_machine.specs.Commands.{stop_commanded_share}
use Rattle.ld_machine.specs.Effect.{hold, put_condition, change_at, change_share, end_item, end_item_of, after_entry}
use Rattle.ld_machine.specs.History.{adds_one, adds_two, are_steps}
use Rattle.ld_machine.specs.OnTime.{is_asked_act}
use Rattle.ld_machine.specs.Settled.{item_of, items_in, has_items, is_distinct}
use Rattle.ld_machine.proofs.ListLemmas.{In, here, there, In-filter, any-from_In, both_true, some_true, some_not_none, in_two, number_itself, In-one}
use Rattle.ld_machine.proofs.SourceLemmas.{Source, by_stop, by_release, by_take, by_arrival, by_start, by_drop, by_close, source_of}
use Rattle.ld_machine.proofs.DropLemmas.{due_tells, acts_back}
use Rattle.ld_machine.proofs.StepLemmas.{Wrote, first_enabled, one_wrote, pair_wrote}

-- the list has the number
abbrev pub has : List ℕ → ℕ → Bool
has numbers k = list_any (λ n. n == k) numbers

-- ---- an item that a scenario with items may end is open and owned

pub record Fresh (s : Scenario) (item : ℕ) : Type 0 where
  pub opened : is_open_item s item ≡ true
  pub owned : In item (owned_items s.part.executor)

first_in : (x : ℕ) (xs : List ℕ) → first_of xs ≡ Some x → In x xs
first_in x [] h = absurd (cc)
first_in x (y ∷ ys) h = let same : y ≡ x = cc in subst (λ z. In z (y ∷ ys)) same here

pub least_fresh : (s : Scenario) (item : ℕ) → least_open_item s ≡ Some item → Fresh s item
least_fresh s item h =
    let kept = In-filter (is_open_item s) item (owned_items s.part.executor) (first_in item (open_items s) h) in
    record { opened = kept.1; owned = kept.0 }

pub where_tells : {A : Type 0} (test : Bool) (o : Option A) (x : A) → where_holds test o ≡ Some x → o ≡ Some x
where_tells true o x h = h
where_tells false o x h = absurd (cc)

slot_found : (s : Scenario) (slot item : ℕ) (items : List SlotItem) →
    option_map (λ (i : SlotItem). i.item) (find (λ (i : SlotItem). (i.slot == slot) && is_open_item s i.item) items) ≡ Some item →
    (is_open_item s item ≡ true) × In item (map (λ (i : SlotItem). i.item) items)
slot_found s slot item [] h = absurd (cc)
slot_found s slot item (i ∷ rest) h =
    let P : Bool → Type 0 = λ b. ((i.slot == slot) && is_open_item s i.item) ≡ b →
    option_map (λ (i : SlotItem). i.item) (cond b (Some i) (find (λ (i : SlotItem). (i.slot == slot) && is_open_item s i.item) rest)) ≡ Some item →
    (is_open_item s item ≡ true) × In item (map (λ (i : SlotItem). i.item) (i ∷ rest)) in
    let found : P ((i.slot == slot) && is_open_item s i.item) = elim ((i.slot == slot) && is_open_item s i.item) as P [
      | true ↦ λ passes e.
          let same : i.item ≡ item = cc in
          let opened : is_open_item s i.item ≡ true = grind (arith, common_steps) in
          (subst (λ z. is_open_item s z ≡ true) same opened, subst (λ z. In z (map (λ (i : SlotItem). i.item) (i ∷ rest))) same here)
      | false ↦ λ fails e. let later = slot_found s slot item rest e in (later.0, there later.1)
    ] in found refl h

start_fresh : (executor : Executor) (s : Scenario) (slot t item : ℕ) → s.part.executor ≡ executor → has_items executor ≡ true →
    executor_item_to_start executor s slot t ≡ Some item → Fresh s item
start_fresh (SharedIterations users items) s slot t item is_it some h = least_fresh s item (where_tells (is_live s t) (least_open_item s) item h)
start_fresh (PerVuIterations slots items) s slot t item is_it some h =
    let found = slot_found s slot item items (where_tells (is_live s t) (slot_open_item s items slot) item h) in
    record { opened = found.0; owned = subst (λ e. In item (owned_items e)) (sym is_it) found.1 }
start_fresh (ConstantVus _) s slot t item is_it some h = absurd (cc)
start_fresh (RampingVus _ _) s slot t item is_it some h = absurd (cc)
start_fresh (ArrivalRate _ _ _) s slot t item is_it some h = absurd (cc)
start_fresh (ExternallyControlled _ _ _) s slot t item is_it some h = absurd (cc)

drop_fresh : (executor : Executor) (s : Scenario) (t item : ℕ) → executor_item_to_drop executor s t ≡ Some item → Fresh s item
drop_fresh (SharedIterations _ _) s t item h = least_fresh s item (where_tells (runs s && has_ended s t) (least_open_item s) item h)
drop_fresh (PerVuIterations _ _) s t item h = least_fresh s item (where_tells (runs s && has_ended s t) (least_open_item s) item h)
drop_fresh (ConstantVus _) s t item h = absurd (cc)
drop_fresh (RampingVus _ _) s t item h = absurd (cc)
drop_fresh (ArrivalRate _ _ _) s t item h = absurd (cc)
drop_fresh (ExternallyControlled _ _ _) s t item h = absurd (cc)

arrival_found : (s : Scenario) (a : Arrival) (arrivals : List Arrival) → find (λ (x : Arrival). is_open_item s x.item) arrivals ≡ Some a →
    (is_open_item s a.item ≡ true) × In a.item (map (λ (x : Arrival). x.item) arrivals)
arrival_found s a [] h = absurd (cc)
arrival_found s a (x ∷ rest) h =
    let P : Bool → Type 0 = λ b. is_open_item s x.item ≡ b → cond b (Some x) (find (λ (y : Arrival). is_open_item s y.item) rest) ≡ Some a →
    (is_open_item s a.item ≡ true) × In a.item (map (λ (y : Arrival). y.item) (x ∷ rest)) in
    let found : P (is_open_item s x.item) = elim (is_open_item s x.item) as P [
      | true ↦ λ passes e.
          let same : x ≡ a = cc in
          (subst (λ (z : Arrival). is_open_item s z.item ≡ true) same passes, subst (λ (z : Arrival). In z.item (map (λ (y : Arrival). y.item) (x ∷ rest))) same here)
      | false ↦ λ fails e. let later = arrival_found s a rest e in (later.0, there later.1)
    ] in found refl h

arrival_fresh : (executor : Executor) (s : Scenario) (a : Arrival) → s.part.executor ≡ executor →
    find (λ (x : Arrival). is_open_item s x.item) (executor_arrivals executor) ≡ Some a → Fresh s a.item
arrival_fresh (ArrivalRate pre_allocated max_vus arrivals) s a is_it h =
    let found = arrival_found s a arrivals h in
    record { opened = found.0; owned = subst (λ e. In a.item (owned_items e)) (sym is_it) found.1 }
arrival_fresh (SharedIterations _ _) s a is_it h = absurd (cc)
arrival_fresh (PerVuIterations _ _) s a is_it h = absurd (cc)
arrival_fresh (ConstantVus _) s a is_it h = absurd (cc)
arrival_fresh (RampingVus _ _) s a is_it h = absurd (cc)
arrival_fresh (ExternallyControlled _ _ _) s a is_it h = absurd (cc)

-- the items of scenario n that acts end, in order
abbrev pub items_of : ℕ → List Act → List ℕ
items_of n acts = filter_map (item_of n) acts

-- a number of a choice by another
chosen : (k n item i : ℕ) → (if k == n then Some item else None) ≡ Some i → (k ≡ n) × (item ≡ i)
chosen k n item i h =
    let P : Bool → Type 0 = λ b. (k == n) ≡ b → cond b (Some item) None ≡ Some i → (k ≡ n) × (item ≡ i) in
    let told : P (k == n) = elim (k == n) as P [
      | true ↦ λ e same. (grind (arith, common_steps), cc)
      | false ↦ λ e same. absurd (cc)
    ] in told refl h

-- an act without an item has none
no_item : {B : Type 0} (n i : ℕ) (one act : Act) → one ≡ act → item_of n one ≡ None → item_of n act ≡ Some i → B
no_item n i one act same none h = absurd (some_not_none (sym h ∙ sym (ap (item_of n) same) ∙ none))

-- what an act with a fresh item ends
fresh_one : (s : Scenario) (k n item i : ℕ) (one act : Act) → one ≡ act → item_of n one ≡ (if k == n then Some item else None) →
    (has_items s.part.executor ≡ true → Fresh s item) → item_of n act ≡ Some i → (k ≡ n) × (has_items s.part.executor ≡ true → Fresh s i)
fresh_one s k n item i one act same is_it fresh h =
    let told = chosen k n item i (sym is_it ∙ ap (item_of n) same ∙ h) in
    (told.0, λ some. subst (λ z. Fresh s z) told.1 (fresh some))

-- an item that an act of an enabled move ends is of that move's scenario, and fresh there
pub act_fresh : (users : Users) (k : ℕ) (s : Scenario) (t : ℕ) (move : Move) → Source users k s t move →
    (n i : ℕ) (act : Act) → In act (acts_of move) → item_of n act ≡ Some i → (k ≡ n) × (has_items s.part.executor ≡ true → Fresh s i)
act_fresh users k s t move (by_stop e) n i act at h = no_item n i _ act (In-one act _ at) refl h
act_fresh users k s t move (by_release u idle e) n i act at h = no_item n i _ act (In-one act _ at) refl h
act_fresh users k s t move (by_take user slot free slots e) n i act at h = no_item n i _ act (In-one act _ at) refl h
act_fresh users k s t move (by_close e) n i act at h = no_item n i _ act (In-one act _ at) refl h
act_fresh users k s t move (by_start u item idle e) n i act at h =
    fresh_one s k n item i _ act (In-one act _ at) refl (λ some. start_fresh s.part.executor s u.slot t item refl some e) h
act_fresh users k s t move (by_drop item e) n i act at h =
    fresh_one s k n item i _ act (In-one act _ at) refl (λ some. drop_fresh s.part.executor s t item e) h
act_fresh users k s t move (by_arrival a (StartOn user) due e) n i act at h =
    fresh_one s k n a.item i _ act (In-one act _ at) refl (λ some. arrival_fresh s.part.executor s a refl (due_tells s t a due).0) h
act_fresh users k s t move (by_arrival a CountLate due e) n i act at h =
    fresh_one s k n a.item i _ act (In-one act _ at) refl (λ some. arrival_fresh s.part.executor s a refl (due_tells s t a due).0) h
act_fresh users k s t move (by_arrival a DropArrival due e) n i act at h =
    fresh_one s k n a.item i _ act (In-one act _ at) refl (λ some. arrival_fresh s.part.executor s a refl (due_tells s t a due).0) h
act_fresh users k s t move (by_arrival a (GrowAndStart user slot) due e) n i act at h =
    elim (in_two act _ _ at) [
      | inl grown ↦ no_item n i _ act grown refl h
      | inr started ↦ fresh_one s k n a.item i _ act started refl (λ some. arrival_fresh s.part.executor s a refl (due_tells s t a due).0) h
    ]
act_fresh users k s t move (by_arrival a (TakeAndStart user slot) due e) n i act at h =
    elim (in_two act _ _ at) [
      | inl taken ↦ no_item n i _ act taken refl h
      | inr started ↦ fresh_one s k n a.item i _ act started refl (λ some. arrival_fresh s.part.executor s a refl (due_tells s t a due).0) h
    ]

-- ---- the ended items of the state

-- the items of the n-th of some shares that have ended
abbrev pub ended_in : List Share → ℕ → List ℕ
ended_in [] n = []
ended_in (share ∷ rest) zero = share.ended
ended_in (share ∷ rest) (suc n) = ended_in rest n

-- a scenario that stands has the share and the part of its number
pub stands_share : (controls : Controls) (parts : List Part) (shares : List Share) (n : ℕ) (s : Scenario) →
    slice_get (scenarios_with controls parts shares) n ≡ Some s → (slice_get parts n ≡ Some s.part) × (slice_get shares n ≡ Some s.share) × (ended_in shares n ≡ s.share.ended)
stands_share controls [] shares n s h = absurd (cc)
stands_share controls (part ∷ parts) [] n s h = absurd (cc)
stands_share controls (part ∷ parts) (share ∷ shares) zero s h =
    let same_part : part ≡ s.part = grind (arith, common_steps) in
    let same_share : share ≡ s.share = grind (arith, common_steps) in
    (ap Some same_part, ap Some same_share, ap (λ (x : Share). x.ended) same_share)
stands_share controls (part ∷ parts) (share ∷ shares) (suc n) s h = stands_share controls parts shares n s h

-- a change of shares that ends nothing anew and opens nothing again
abbrev Keeps : (Share → Share) → Type 0
Keeps change = (share : Share) (x : ℕ) → has share.ended x ≡ true → has (change share).ended x ≡ true

pub has_more : (x : ℕ) (xs ys : List ℕ) → has xs x ≡ true → has (xs ++ ys) x ≡ true
has_more x [] ys h = absurd (cc)
has_more x (y ∷ xs) ys h =
    elim (some_true (y == x) (has xs x) h) [
      | inl now ↦ rw now refl
      | inr later ↦ rw (has_more x xs ys later) (or_true (y == x))
    ]
  where
    or_true : (a : Bool) → (a || true) ≡ true
    or_true true = refl
    or_true false = refl

has_last : (x : ℕ) (xs : List ℕ) → has (xs ++ x ∷ []) x ≡ true
has_last x [] = grind (arith, common_steps)
has_last x (y ∷ xs) = rw (has_last x xs) (or_true (y == x))
  where
    or_true : (a : Bool) → (a || true) ≡ true
    or_true true = refl
    or_true false = refl

keeps_end : (part : Part) (item : ℕ) → Keeps (end_item part item)
keeps_end part item share x h =
    let P : Bool → Type 0 = λ b. has (cond b (record share { ended = share.ended ++ item ∷ [] }) share).ended x ≡ true in
    elim (list_any (λ k. k == item) (owned_items part.executor)) as P [ true ↦ has_more x share.ended (item ∷ []) h | false ↦ h ]

change_keeps : (change : Share → Share) → Keeps change → (k n x : ℕ) (shares : List Share) → has (ended_in shares n) x ≡ true → has (ended_in (change_at k change shares) n) x ≡ true
change_keeps change keeps k n x [] h = h
change_keeps change keeps zero zero x (share ∷ rest) h = keeps share x h
change_keeps change keeps zero (suc n) x (share ∷ rest) h = h
change_keeps change keeps (suc k) zero x (share ∷ rest) h = h
change_keeps change keeps (suc k) (suc n) x (share ∷ rest) h = change_keeps change keeps k n x rest h

stop_keeps : (t n x : ℕ) (shares : List Share) → has (ended_in shares n) x ≡ true → has (ended_in (map (stop_commanded_share t) shares) n) x ≡ true
stop_keeps t n x [] h = h
stop_keeps t zero x (share ∷ rest) h =
    let P : Bool → Type 0 = λ b. has (cond b share (record share { level = StartsNothing t })).ended x ≡ true in
    elim share.closed as P [ true ↦ h | false ↦ h ]
stop_keeps t (suc n) x (share ∷ rest) h = stop_keeps t n x rest h

end_item_keeps : (plan : Plan) (k item n x : ℕ) (state : State) → has (ended_in state.shares n) x ≡ true → has (ended_in (end_item_of plan k item state).shares n) x ≡ true
end_item_keeps plan k item n x state h =
    let P : Option Part → Type 0 = λ o. has (ended_in (option_map_or (λ part. change_share state k (end_item part item)) o state).shares n) x ≡ true in
    elim (slice_get plan.parts k) as P [
      | None ↦ h
      | Some part ↦ change_keeps (end_item part item) (keeps_end part item) k n x state.shares h
    ]

-- what has ended stays so
pub ended_stays : (plan : Plan) (state : State) (at thread t : ℕ) (act : Act) (n x : ℕ) → has (ended_in state.shares n) x ≡ true →
    has (ended_in (after_entry plan state (record { turn = at; thread = thread; act = act; reading = t })).shares n) x ≡ true
ended_stays plan state at thread t (Take k user slot) n x h = change_keeps _ (λ share y e. e) k n x state.shares h
ended_stays plan state at thread t (Grow k user slot) n x h = change_keeps _ (λ share y e. e) k n x state.shares h
ended_stays plan state at thread t (Start k user item until) n x h =
    end_item_keeps plan k item n x (change_share state k (put_condition user (Busy thread item until))) (change_keeps (put_condition user (Busy thread item until)) (λ share y e. e) k n x state.shares h)
ended_stays plan state at thread t (Drop k item) n x h = end_item_keeps plan k item n x state h
ended_stays plan state at thread t (Late k item) n x h = end_item_keeps plan k item n x state h
ended_stays plan state at thread t (Return k user item outcome tally) n x h = change_keeps _ (λ share y e. e) k n x state.shares h
ended_stays plan state at thread t (Release k user) n x h = change_keeps _ (λ share y e. e) k n x state.shares h
ended_stays plan state at thread t (Stop k) n x h = change_keeps _ (λ share y e. e) k n x state.shares h
ended_stays plan state at thread t (Close k) n x h = change_keeps _ (λ share y e. e) k n x state.shares h
ended_stays plan state at thread t (Control commands.Stop) n x h = stop_keeps t n x state.shares h
ended_stays plan state at thread t (Control (commands.Pause b)) n x h = h
ended_stays plan state at thread t (Control (commands.Vus v)) n x h = h
ended_stays plan state at thread t (Control (commands.VusMax v)) n x h = h

-- there is a share of number n
abbrev pub is_there : List Share → ℕ → Bool
is_there [] n = false
is_there (share ∷ rest) zero = true
is_there (share ∷ rest) (suc n) = is_there rest n

pub there_changed : (k n : ℕ) (change : Share → Share) (shares : List Share) → is_there (change_at k change shares) n ≡ is_there shares n
there_changed k n change [] = refl
there_changed zero zero change (share ∷ rest) = refl
there_changed zero (suc n) change (share ∷ rest) = refl
there_changed (suc k) zero change (share ∷ rest) = refl
there_changed (suc k) (suc n) change (share ∷ rest) = there_changed k n change rest

end_ends : (part : Part) (item n : ℕ) (shares : List Share) → is_there shares n ≡ true → has (owned_items part.executor) item ≡ true →
    has (ended_in (change_at n (end_item part item) shares) n) item ≡ true
end_ends part item n [] h owned = absurd (cc)
end_ends part item zero (share ∷ rest) h owned = rw owned (has_last item share.ended)
end_ends part item (suc n) (share ∷ rest) h owned = end_ends part item n rest h owned

end_item_ends : (plan : Plan) (part : Part) (n item : ℕ) (state : State) → slice_get plan.parts n ≡ Some part → is_there state.shares n ≡ true →
    has (owned_items part.executor) item ≡ true → has (ended_in (end_item_of plan n item state).shares n) item ≡ true
end_item_ends plan part n item state stands h owned = rw stands (end_ends part item n state.shares h owned)

-- ---- one entry

-- an owned item has ended behind the entry that ends it
pub ended_now : (plan : Plan) (part : Part) (state : State) (at thread t : ℕ) (act : Act) (n i : ℕ) → slice_get plan.parts n ≡ Some part →
    is_there state.shares n ≡ true → has (owned_items part.executor) i ≡ true → item_of n act ≡ Some i →
    has (ended_in (after_entry plan state (record { turn = at; thread = thread; act = act; reading = t })).shares n) i ≡ true
ended_now plan part state at thread t (Start k user item until) n i stands h owned is_it =
    let told = chosen k n item i is_it in
    let started = change_share state k (put_condition user (Busy thread item until)) in
    let still : is_there started.shares n ≡ true = there_changed k n (put_condition user (Busy thread item until)) state.shares ∙ h in
    rw (told.0, told.1) (end_item_ends plan part n i (change_share state n (put_condition user (Busy thread i until))) stands
    (there_changed n n (put_condition user (Busy thread i until)) state.shares ∙ h) owned)
ended_now plan part state at thread t (Drop k item) n i stands h owned is_it =
    let told = chosen k n item i is_it in rw (told.0, told.1) (end_item_ends plan part n i state stands h owned)
ended_now plan part state at thread t (Late k item) n i stands h owned is_it =
    let told = chosen k n item i is_it in rw (told.0, told.1) (end_item_ends plan part n i state stands h owned)
ended_now plan part state at thread t (Take k user slot) n i stands h owned is_it = absurd (cc)
ended_now plan part state at thread t (Grow k user slot) n i stands h owned is_it = absurd (cc)
ended_now plan part state at thread t (Return k user item outcome tally) n i stands h owned is_it = absurd (cc)
ended_now plan part state at thread t (Release k user) n i stands h owned is_it = absurd (cc)
ended_now plan part state at thread t (Stop k) n i stands h owned is_it = absurd (cc)
ended_now plan part state at thread t (Close k) n i stands h owned is_it = absurd (cc)
ended_now plan part state at thread t (Control command) n i stands h owned is_it = absurd (cc)

-- an item that a first act ends hasn't ended before, is owned, and its scenario stands
pub record New (plan : Plan) (state : State) (n i : ℕ) : Type 0 where
  pub share : is_there state.shares n ≡ true
  pub unended : has (ended_in state.shares n) i ≡ false
  pub owned : (part : Part) → slice_get plan.parts n ≡ Some part → has (owned_items part.executor) i ≡ true

there_from : (shares : List Share) (n : ℕ) (share : Share) → slice_get shares n ≡ Some share → is_there shares n ≡ true
there_from [] n share h = absurd (cc)
there_from (x ∷ rest) zero share h = refl
there_from (x ∷ rest) (suc n) share h = there_from rest n share h

pub wrote_new : (plan : Plan) (part : Part) (state : State) (thread t : ℕ) (entries : List Entry) → Wrote plan state thread t entries →
    (n i : ℕ) (act : Act) → slice_get plan.parts n ≡ Some part → has_items part.executor ≡ true → In act (map (λ (e : Entry). e.act) entries) →
    item_of n act ≡ Some i → New plan state n i
wrote_new plan part state thread t entries w n i act stands some at h =
    let where_it = first_enabled plan state t w.move w.first in
    let acts : acts_of w.move ≡ map (λ (e : Entry). e.act) entries =
    sym (acts_back (state.entries + 1) thread t (acts_of w.move)) ∙ ap (λ es. map (λ (e : Entry). e.act) es) w.wrote in
    let told = act_fresh (users_of plan state) where_it.number where_it.scenario t w.move
    (source_of (users_of plan state) where_it.number where_it.scenario t w.move where_it.enabled) n i act (subst (λ as_. In act as_) (sym acts) at) h in
    let stands_at : slice_get (scenarios plan state) n ≡ Some where_it.scenario =
    subst (λ k. slice_get (scenarios plan state) k ≡ Some where_it.scenario) told.0 where_it.stands in
    let of_it = stands_share state.controls plan.parts state.shares n where_it.scenario stands_at in
    let same_part : Some part ≡ Some where_it.scenario.part = sym stands ∙ of_it.0 in
    let its_part : part ≡ where_it.scenario.part = some_same same_part in
    let fresh = told.1 (subst (λ (p : Part). has_items p.executor ≡ true) its_part some) in
    record {
      share = there_from state.shares n where_it.scenario.share of_it.1;
      unended = subst (λ ended. has ended i ≡ false) (sym of_it.2) (not_true (has where_it.scenario.share.ended i) fresh.opened);
      owned = λ other other_stands.
          let same : other ≡ where_it.scenario.part = some_same (sym other_stands ∙ of_it.0) in
          subst (λ (p : Part). has (owned_items p.executor) i ≡ true) (sym same)
          (any-from_In (λ k. k == i) i fresh.owned (number_itself i));
    }
  where
    some_same : {A : Type 0} {a b : A} → Some a ≡ Some b → a ≡ b
    some_same e = cc

    not_true : (b : Bool) → not b ≡ true → b ≡ false
    not_true false h = refl
    not_true true h = absurd (cc)

-- ---- lists of items

-- none of the items has ended
abbrev unended : List ℕ → List ℕ → Bool
unended ended items = list_all (λ i. not (has ended i)) items

false_not_true : {B : Type 0} → false ≡ true → B
false_not_true e = absurd (cc)

not_has : (E : List ℕ) (i : ℕ) → not (has E i) ≡ true → has E i ≡ true → ⊥
not_has E i h k = let e : not true ≡ true = subst (λ b. not b ≡ true) k h in cc

-- what hasn't ended later hasn't ended before
unended_before : (E later : List ℕ) (items : List ℕ) → ((x : ℕ) → has E x ≡ true → has later x ≡ true) → unended later items ≡ true → unended E items ≡ true
unended_before E later [] keeps h = refl
unended_before E later (i ∷ items) keeps h =
    let both = both_true (not (has later i)) _ h in
    let P : Bool → Type 0 = λ b. has E i ≡ b → not (has E i) ≡ true in
    let now : P (has E i) = elim (has E i) as P [ false ↦ λ e. rw e refl | true ↦ λ e. absurd (not_has later i both.0 (keeps i e)) ] in
    rw (now refl, unended_before E later items keeps both.1) refl

-- an item that has ended is none of those that haven't
not_among : (E : List ℕ) (i : ℕ) (items : List ℕ) → has E i ≡ true → unended E items ≡ true → list_any (λ k. k == i) items ≡ false
not_among E i [] ended h = refl
not_among E i (x ∷ items) ended h =
    let both = both_true (not (has E x)) _ h in
    let P : Bool → Type 0 = λ b. (x == i) ≡ b → (x == i) ≡ false in
    let differs : P (x == i) = elim (x == i) as P [
      | false ↦ λ e. e
      | true ↦ λ e. let same : x ≡ i = grind (arith, common_steps) in absurd (not_has E x both.0 (subst (λ z. has E z ≡ true) (sym same) ended))
    ] in
    rw (differs refl, not_among E i items ended both.1) refl

-- an entry's item, if any, before those of the entries behind it
front_once : (E later : List ℕ) (o : Option ℕ) (items : List ℕ) → ((i : ℕ) → o ≡ Some i → (has E i ≡ false) × (has later i ≡ true)) →
    ((x : ℕ) → has E x ≡ true → has later x ≡ true) → unended later items ≡ true → is_distinct items ≡ true →
    (unended E (cons_option o items) ≡ true) × (is_distinct (cons_option o items) ≡ true)
front_once E later None items new keeps h distinct = (unended_before E later items keeps h, distinct)
front_once E later (Some i) items new keeps h distinct =
    let it = new i refl in
    (rw (it.0, unended_before E later items keeps h) refl, rw (not_among later i items it.1 h, distinct) refl)

-- a user is taken or grown
abbrev is_gain : Act → Bool
is_gain (Take _ _ _) = true
is_gain (Grow _ _ _) = true
is_gain _ = false

-- the first of two acts of a step takes or grows a user
first_gains : (move : Move) (a b : Act) → acts_of move ≡ a ∷ b ∷ [] → is_gain a ≡ true
first_gains (AnswerArrival k due item until (GrowAndStart user slot)) a b e = let same : Grow k user slot ≡ a = cc in subst (λ z. is_gain z ≡ true) same refl
first_gains (AnswerArrival k due item until (TakeAndStart user slot)) a b e = let same : Take k user slot ≡ a = cc in subst (λ z. is_gain z ≡ true) same refl
first_gains (AnswerArrival k due item until CountLate) a b e = absurd (cc)
first_gains (AnswerArrival k due item until (StartOn user)) a b e = absurd (cc)
first_gains (AnswerArrival k due item until DropArrival) a b e = absurd (cc)
first_gains (StopScenario k) a b e = absurd (cc)
first_gains (ReleaseUser k user) a b e = absurd (cc)
first_gains (TakeUser k user slot) a b e = absurd (cc)
first_gains (StartIteration k user item until) a b e = absurd (cc)
first_gains (DropIteration k item) a b e = absurd (cc)
first_gains (CloseScenario k) a b e = absurd (cc)

pub gain_no_item : (n : ℕ) (act : Act) → is_gain act ≡ true → item_of n act ≡ None
gain_no_item n (Take k user slot) h = refl
gain_no_item n (Grow k user slot) h = refl
gain_no_item n _ h = absurd (cc)

pub unasked_no_item : (n : ℕ) (act : Act) → is_asked_act act ≡ false → item_of n act ≡ None
unasked_no_item n (Return k user item outcome tally) h = refl
unasked_no_item n (Control command) h = refl
unasked_no_item n _ h = absurd (cc)

there_after : (plan : Plan) (state : State) (at thread t : ℕ) (act : Act) (n : ℕ) → is_gain act ≡ true → is_there state.shares n ≡ true →
    is_there (after_entry plan state (record { turn = at; thread = thread; act = act; reading = t })).shares n ≡ true
there_after plan state at thread t (Take k user slot) n gain h = there_changed k n (hold user slot) state.shares ∙ h
there_after plan state at thread t (Grow k user slot) n gain h = there_changed k n (hold user slot) state.shares ∙ h
there_after plan state at thread t _ n gain h = absurd (cc)

-- ---- whole histories

module _ (plan : Plan) (part : Part) (n : ℕ) (stands : slice_get plan.parts n ≡ Some part) (some : has_items part.executor ≡ true) where
  one_new : (state : State) (one : Entry) → adds_one plan state one ≡ true → (i : ℕ) → item_of n one.act ≡ Some i →
      (has (ended_in state.shares n) i ≡ false) × (has (ended_in (after_entry plan state one).shares n) i ≡ true)
  one_new state one h i is_it =
      let P : Bool → Type 0 = λ b. is_asked_act one.act ≡ b → New plan state n i in
      let fresh : P (is_asked_act one.act) = elim (is_asked_act one.act) as P [
        | true ↦ λ asked. wrote_new plan part state one.thread one.reading (one ∷ []) (one_wrote plan state one asked h) n i one.act stands some here is_it
        | false ↦ λ unasked. absurd (some_not_none (sym is_it ∙ unasked_no_item n one.act unasked))
      ] in
      let new = fresh refl in
      (new.unended, ended_now plan part state one.turn one.thread one.reading one.act n i stands new.share (new.owned part stands) is_it)

  pub pair_gains : (state : State) (one two : Entry) → adds_two plan state one two ≡ true → is_gain one.act ≡ true
  pair_gains state one two h =
      let w = pair_wrote plan state one two h in
      let acts : acts_of w.move ≡ one.act ∷ two.act ∷ [] =
      sym (acts_back (state.entries + 1) one.thread one.reading (acts_of w.move)) ∙ ap (λ es. map (λ (e : Entry). e.act) es) w.wrote in
      first_gains w.move one.act two.act acts

  two_new : (state : State) (one two : Entry) → adds_two plan state one two ≡ true → (i : ℕ) → item_of n two.act ≡ Some i →
      (has (ended_in state.shares n) i ≡ false) × (has (ended_in (after_entry plan (after_entry plan state one) two).shares n) i ≡ true)
  two_new state one two h i is_it =
      let w = pair_wrote plan state one two h in
      let new = wrote_new plan part state one.thread one.reading (one ∷ two ∷ []) w n i two.act stands some (there here) is_it in
      let gains = pair_gains state one two h in
      let share = there_after plan state one.turn one.thread one.reading one.act n gains new.share in
      (new.unended, ended_now plan part (after_entry plan state one) two.turn two.thread two.reading two.act n i stands share (new.owned part stands) is_it)

  pub steps_once : (history : List Entry) (state : State) → are_steps plan state history ≡ true →
      (unended (ended_in state.shares n) (items_in n history) ≡ true) × (is_distinct (items_in n history) ≡ true)
  steps_once [] state h = (refl, refl)
  steps_once (one ∷ []) state h =
      front_once (ended_in state.shares n) (ended_in (after_entry plan state one).shares n) (item_of n one.act) [] (one_new state one h)
      (ended_stays plan state one.turn one.thread one.reading one.act n) refl refl
  steps_once (one ∷ two ∷ rest) state h =
      elim (some_true (adds_one plan state one && are_steps plan (after_entry plan state one) (two ∷ rest)) _ h) [
        | inl first ↦
            let both = both_true (adds_one plan state one) _ first in
            let later = steps_once (two ∷ rest) (after_entry plan state one) both.1 in
            front_once (ended_in state.shares n) (ended_in (after_entry plan state one).shares n) (item_of n one.act) (items_in n (two ∷ rest)) (one_new state one both.0)
            (ended_stays plan state one.turn one.thread one.reading one.act n) later.0 later.1
        | inr second ↦
            let both = both_true (adds_two plan state one two) _ second in
            let later = steps_once rest (after_entry plan (after_entry plan state one) two) both.1 in
            let behind = front_once (ended_in state.shares n) (ended_in (after_entry plan (after_entry plan state one) two).shares n) (item_of n two.act) (items_in n rest)
            (two_new state one two both.0)
            (λ x e. ended_stays plan (after_entry plan state one) two.turn two.thread two.reading two.act n x (ended_stays plan state one.turn one.thread one.reading one.act n x e))
            later.0 later.1 in
            let none = gain_no_item n one.act (pair_gains state one two both.0) in
            (rw none behind.0, rw none behind.1)
      ]
