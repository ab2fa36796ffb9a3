-- The first acts are those of some scenario that no act of any scenario is before.
use Rattle.std.proofs.Common.{Contains, ◌≡◌, ◌+◌, ◌∙◌, ℕ, zero, suc, Bool, true, false, not, List, [], ◌∷◌, Option, None, Some, map, filter, filter_map, flat_map, arith, refl, sym, ap, subst, slice_get}
use Rattle.std.specs.Prelude.{option_map, option_to_list}
use Rattle.std.specs.Option.{option_map_or}
use Rattle.std.specs.List.{list_all, enumerate_from}
use Rattle.std.proofs.lemmas.Bool.{true≢false}
use Rattle.std.proofs.lemmas.Grind.{common_steps}
use Rattle.ld_base.specs.declared.reply.Reply.TheVariants.{Wait, Over}
use Rattle.ld_machine.specs.Plan.{Plan}
use Rattle.ld_machine.specs.State.{HeldUser, Share, State, idle_users, all_closed}
use Rattle.ld_machine.specs.Scenario.{Scenario, is_open, runs, may_release, may_take, slots_to_take, due_arrival}
use Rattle.ld_machine.specs.Moves.{Move, Users, users_of, ReleaseUser, TakeUser, DropIteration, stops, releases, takes, answers_to, arrivals, start_on, starts, drops, closes, moves_of, scenarios, enabled}
use Rattle.ld_machine.specs.Order.{is_before, place_of, first_moves}
use Rattle.ld_machine.specs.Wait.{wait_moment}
use Rattle.ld_machine.specs.Step.{answered, move_result, open_results, act_results}
use Rattle.ld_machine.specs.Together.{IsActOf, NoneBefore, NoneActs}
use Rattle.ld_machine.proofs.ListLemmas.{In, here, there, nothing_in, In-filter, filter-In, In-from_any, any-from_In, map-In, In-from_Contains, Contains-from_In, In-flat_map, In-enumerate, all_at}
use Rattle.ld_machine.proofs.OrderLemmas.{before_itself, before_along, one_place, is_beaten}
use Rattle.ld_machine.proofs.StopLemmas.{no_take, no_start, no_drop}
use Rattle.ld_machine.proofs.WaitLemmas.{flat_map-In}
use Rattle.ld_machine.proofs.ItemLemmas.{stands_share}

-- ---- places

-- a test that would be true only against a fact is false
pub false_unless : (b : Bool) → (b ≡ true → ⊥) → b ≡ false
false_unless false h = refl
false_unless true h = absurd (h refl)

pub is_not : (b : Bool) → not b ≡ true → b ≡ false
is_not false h = refl
is_not true h = absurd (cc)

-- of places of acts, not to be before goes on from one to the next
pub not_before_along : (a b c : Move) → is_before (place_of a) (place_of b) ≡ false → is_before (place_of b) (place_of c) ≡ false →
    is_before (place_of a) (place_of c) ≡ false
not_before_along a b c ab bc = false_unless (is_before (place_of a) (place_of c)) (λ ac.
    let P : Bool → Type 0 = λ v. is_before (place_of b) (place_of a) ≡ v → ⊥ in
    let never : P (is_before (place_of b) (place_of a)) = elim (is_before (place_of b) (place_of a)) as P [
      | true ↦ λ ba. true≢false (sym (before_along (place_of b) (place_of a) (place_of c) ba ac) ∙ bc)
      | false ↦ λ ba. let same = one_place a b ab ba in true≢false (sym (subst (λ p. is_before p (place_of c) ≡ true) same ac) ∙ bc)
    ] in never refl)

-- of two places, one before the other, the second isn't before the first
pub before_once : (a b : List ℕ) → is_before a b ≡ true → is_before b a ≡ false
before_once a b ab = false_unless (is_before b a) (λ ba. true≢false (sym (before_along a b a ab ba) ∙ before_itself a))

-- ---- acts of scenarios

pub In-of : {A : Type 0} {x : A} {xs : List A} → Contains xs x → In x xs
In-of {A} {x} {xs} h = In-from_Contains x xs h.0 h.1 h.2

pub enumerate-In : {A : Type 0} (k n : ℕ) (x : A) (xs : List A) → slice_get xs n ≡ Some x → In (k + n, x) (enumerate_from k xs)
enumerate-In k n x [] h = absurd (cc)
enumerate-In k zero x (y ∷ ys) h =
    let same : y ≡ x = cc in
    let place : k ≡ k + zero = omega arith in
    subst (λ j. In (j, x) (enumerate_from k (y ∷ ys))) place (subst (λ z. In (k, z) (enumerate_from k (y ∷ ys))) same here)
enumerate-In k (suc n) x (y ∷ ys) h =
    let later = enumerate-In (k + 1) n x ys h in
    let place : (k + 1) + n ≡ k + suc n = omega arith in
    there (subst (λ j. In (j, x) (enumerate_from (k + 1) ys)) place later)

module _ (plan : Plan) (state : State) (t : ℕ) where
  -- an act of a scenario is enabled, and an enabled act is one of some scenario
  pub act_enabled : (n : ℕ) (m : Move) → IsActOf plan state t n m → In m (enabled plan state t)
  act_enabled n m h =
      let place : 0 + n ≡ n = omega arith in
      flat_map-In (λ (p : ℕ × Scenario). moves_of (users_of plan state) p.0 p.1 t) (n, h.0) m
      (subst (λ k. In (k, h.0) (enumerate_from 0 (scenarios plan state))) place (enumerate-In 0 n h.0 (scenarios plan state) h.1)) (In-of h.2)

  pub enabled_act : (m : Move) → In m (enabled plan state t) → (n : ℕ) × IsActOf plan state t n m
  enabled_act m h =
      let found = In-flat_map (λ (p : ℕ × Scenario). moves_of (users_of plan state) p.0 p.1 t) m (enumerate_from 0 (scenarios plan state)) h in
      let at = In-enumerate 0 found.0 (scenarios plan state) found.1 in
      let place : at.1.0 ≡ found.0.0 = let e : found.0.0 ≡ 0 + at.1.0 = at.1.1 in omega arith in
      (found.0.0, (found.0.1, subst (λ n. slice_get (scenarios plan state) n ≡ Some found.0.1) place at.1.2, Contains-from_In m found.2))

  -- an act that no act of any scenario is before is a first one
  pub is_first : (n : ℕ) (m : Move) → IsActOf plan state t n m → NoneBefore plan state t m → In m (first_moves plan state t)
  is_first n m h unbeaten =
      let none : is_beaten (enabled plan state t) m ≡ false = false_unless (is_beaten (enabled plan state t) m) (λ beaten.
      let other = In-from_any (λ other. is_before (place_of other) (place_of m)) (enabled plan state t) beaten in
      let act = enabled_act other.0 other.1 in
      true≢false (sym other.2 ∙ unbeaten act.0 other.0 act.1)) in
      filter-In (λ x. not (is_beaten (enabled plan state t) x)) m (act_enabled n m h) (rw none refl)

  -- and the other way round
  pub first_is : (m : Move) → In m (first_moves plan state t) → ((n : ℕ) × IsActOf plan state t n m) × NoneBefore plan state t m
  first_is m h =
      let kept = In-filter (λ x. not (is_beaten (enabled plan state t) x)) m (enabled plan state t) h in (
        enabled_act m kept.0,
        λ k other act. false_unless (is_before (place_of other) (place_of m)) (λ before.
            let beaten = any-from_In (λ x. is_before (place_of x) (place_of m)) other (act_enabled k other act) before in
            let not_beaten : not (is_beaten (enabled plan state t) m) ≡ true = kept.1 in
            grind (arith, common_steps)),
      )

  -- where each act of a scenario has an act no later, which the chosen one isn't behind, that is a first one
  pub first_by_each : (n : ℕ) (m : Move) → IsActOf plan state t n m →
      ((k : ℕ) (other : Move) → IsActOf plan state t k other →
      (f : Move) × (is_before (place_of other) (place_of f) ≡ false) × (is_before (place_of f) (place_of m) ≡ false)) →
      In m (first_moves plan state t)
  first_by_each n m h each = is_first n m h (λ k other act. let f = each k other act in not_before_along other f.0 m f.1 f.2)

  -- ---- where nothing is enabled

  pub nothing_enabled : NoneActs plan state t → enabled plan state t ≡ []
  nothing_enabled none = empty (enabled plan state t) (λ m h.
      let act = enabled_act m h in
      nothing_in (subst (λ ms. In m ms) (none act.0 act.1.0 act.1.1) (In-of act.1.2)))
    where
      empty : (ms : List Move) → ((m : Move) → In m ms → ⊥) → ms ≡ []
      empty [] h = refl
      empty (m ∷ ms) h = absurd (h m here)

  pub nothing_first : NoneActs plan state t → first_moves plan state t ≡ []
  nothing_first none = rw (nothing_enabled none) refl

-- ---- a closed scenario performs nothing

filter_none : {A : Type 0} (p : A → Bool) (xs : List A) → ((x : A) → p x ≡ false) → filter p xs ≡ []
filter_none p [] h = refl
filter_none p (x ∷ xs) h = rw (h x, filter_none p xs h) refl

filter_map_none : {A B : Type 0} (f : A → Option B) (xs : List A) → ((x : A) → f x ≡ None) → filter_map f xs ≡ []
filter_map_none f [] h = refl
filter_map_none f (x ∷ xs) h = rw (h x, filter_map_none f xs h) refl

pub closed_moves : (users : Users) (n : ℕ) (s : Scenario) (t : ℕ) → s.share.closed ≡ true → moves_of users n s t ≡ []
closed_moves users n s t closed =
    let shut : is_open s ≡ false = rw closed refl in
    let stopped : runs s ≡ false = rw shut refl in
    let stop : stops n s t ≡ [] = rw shut refl in
    let release : releases n s t ≡ [] =
    ap (λ us. map (λ (h : HeldUser). ReleaseUser n h.user) us) (filter_none (λ (h : HeldUser). may_release s h.slot t) (idle_users s.share) (λ h. rw shut refl)) in
    let take : takes n s users t ≡ [] =
    ap (λ slots. flat_map (λ slot. map (λ user. TakeUser n user slot) users.free) slots) (filter_none (λ slot. may_take s slot t) (slots_to_take s.part.executor s) (λ slot. no_take s.part.executor s slot t stopped)) in
    let due : due_arrival s t ≡ None = rw stopped refl in
    let arrival : arrivals n s users t ≡ [] = ap (λ o. option_map_or (answers_to n s users t) o []) due in
    let start : starts n s t ≡ [] = filter_map_none (start_on n s t) (idle_users s.share) (λ h. rw (no_start s.part.executor s h.slot t stopped) refl) in
    let drop : drops n s t ≡ [] = ap (λ o. option_to_list (option_map (λ item. DropIteration n item) o)) (no_drop s.part.executor s t stopped) in
    let close : closes n s t ≡ [] = rw shut refl in
    rw (stop, release, take, arrival, start, drop, close) refl

share-In : (share : Share) (n : ℕ) (shares : List Share) → slice_get shares n ≡ Some share → In share shares
share-In share n [] h = absurd (cc)
share-In share zero (x ∷ xs) h = let same : x ≡ share = cc in subst (λ z. In z (x ∷ xs)) same here
share-In share (suc n) (x ∷ xs) h = there (share-In share n xs h)

pub all_from : (shares : List Share) → ((n : ℕ) (share : Share) → slice_get shares n ≡ Some share → share.closed ≡ true) → list_all (λ (share : Share). share.closed) shares ≡ true
all_from [] each = refl
all_from (x ∷ xs) each = rw (each zero x refl, all_from xs (λ n share at. each (suc n) share at)) refl

-- all scenarios are closed exactly where each is
pub each_closed : (state : State) → all_closed state ≡ true → (n : ℕ) (share : Share) → slice_get state.shares n ≡ Some share → share.closed ≡ true
each_closed state h n share at = all_at (λ (share : Share). share.closed) share (share-In share n state.shares at) h

-- and not where one isn't
pub not_closed : (state : State) (n : ℕ) (share : Share) → slice_get state.shares n ≡ Some share → share.closed ≡ false → all_closed state ≡ false
not_closed state n share at opened = false_unless (all_closed state) (λ shut. true≢false (sym (each_closed state shut n share at) ∙ opened))

module _ (plan : Plan) (state : State) (t : ℕ) where
  -- where a scenario may perform an act, not all are closed
  pub act_open : (n : ℕ) (m : Move) → IsActOf plan state t n m → all_closed state ≡ false
  act_open n m h = false_unless (all_closed state) (λ shut.
      let share = (stands_share state.controls plan.parts state.shares n h.0 h.1).1 in
      let none = closed_moves (users_of plan state) n h.0 t (each_closed state shut n h.0.share share) in
      nothing_in (subst (λ ms. In m ms) none (In-of h.2)))

  pub closed_over : (thread : ℕ) → all_closed state ≡ true → act_results plan state thread t ≡ answered state Over ∷ []
  closed_over thread h = rw h refl

  pub none_waits : (thread : ℕ) → NoneActs plan state t → all_closed state ≡ false → act_results plan state thread t ≡ answered state (Wait (wait_moment plan state t)) ∷ []
  none_waits thread none some_open = rw (some_open, nothing_first plan state t none) refl

  pub performed_in : (thread : ℕ) (m : Move) (ms : List Move) → In m ms → In (move_result plan state thread t m) (open_results plan state thread t ms)
  performed_in thread m [] h = absurd (nothing_in h)
  performed_in thread m (x ∷ xs) h = map-In (move_result plan state thread t) m h

  pub first_performed : (thread : ℕ) (m : Move) → In m (first_moves plan state t) → In (move_result plan state thread t m) (act_results plan state thread t)
  first_performed thread m h =
      let act = (first_is plan state t m h).0 in
      rw (act_open act.0 m act.1) (performed_in thread m (first_moves plan state t) h)
