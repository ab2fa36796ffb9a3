-- The moment to wait for, and who is free, by what a core's parts tell.
use Rattle.std.proofs.Common.{◌≡◌, ◌<◌, ◌≤◌, ◌+◌, ◌&&◌, ◌==◌, nat_lt, ℕ, zero, suc, Bool, true, false, not, cond, List, [], ◌∷◌, Option, None, Some, filter, flat_map, map, length, slice_get, arith, refl, ap, sym, subst, ◌∙◌}
use Rattle.std.specs.Prelude.{filter_map, is_some, unwrap_or}
use Rattle.std.specs.List.{range_with_len, cons_option}
use Rattle.std.proofs.lemmas.Grind.{common_steps}
use Rattle.std.proofs.lemmas.List.Sums.{sum_by-cons}
use Rattle.ld_machine.specs.Holders.{holder_of}
use Rattle.ld_machine.specs.Moment.{moment_after}
use Rattle.ld_machine.specs.Moves.{scenarios}
use Rattle.ld_machine.specs.Plan.{Plan, is_external}
use Rattle.ld_machine.specs.Scenario.{Scenario, first_of, is_open}
use Rattle.ld_machine.specs.State.{Condition, Idle, Busy, HeldUser, Share, State, free_users, is_held}
use Rattle.ld_machine.specs.Together.{IsLeastAbove, least_above, least_moment, least_until_in, lesser}
use Rattle.ld_machine.specs.Wait.{busy_until, is_external_open, least_of, next_candidate, short_wait, untils, wait_moment}
use Rattle.ld_machine.proofs.CandidateLemmas.{above_is, above_none, above_tells, none_above, next_of_parts}
use Rattle.ld_machine.proofs.FirstOfAllLemmas.{In-of, false_unless}
use Rattle.ld_machine.proofs.ListLemmas.{In, here, there, Contains-from_In, In-filter_map, In-flat_map, In-from_any, In-map, map-In, nothing_in, both_true}
use Rattle.ld_machine.proofs.WaitLemmas.{flat_map-In}
use Rattle.ld_machine.proofs.WhoHoldsLemmas.{holder_in_share, no_holder}
use Rattle.ld_pool.specs.Pool.{PoolView}
use Rattle.ld_pool.specs.Users as pools
use Rattle.ld_pool.specs.declared.user.User.{User}
use Rattle.ld_executor.specs.declared.executor_state.ExecutorState.{ExecutorState}
use Rattle.ld_executor.proofs.ShownLemmas.{shown_inside}
use Rattle.ld_core.specs.Core.{IsCore, core_view}
use Rattle.ld_core.specs.CoreView.{CoreView, plan_of, state_of}
use Rattle.ld_core.specs.Shows.{Shows, condition_user, user_held, user_of}
use Rattle.ld_core.specs.declared.machine.Core.TheInside.{Inside}
use Rattle.ld_core.proofs.ShownLemmas.{Finds, finds_in, kept_there}

-- ---- who is free

-- the pool says that a user is free where it has no holder
free_or_held : (o : Option (ℕ × HeldUser)) → pools.is_free (user_held o) ≡ not (is_some o)
free_or_held None = refl
free_or_held (Some p) = not_free p.0 p.1.condition
  where
    not_free : (n : ℕ) (condition : Condition) → pools.is_free (condition_user n condition) ≡ false
    not_free n Idle = refl
    not_free n (Busy thread item until) = refl

-- a user has a holder where some share holds it
held_some : (state : State) (user : ℕ) → is_some (holder_of state user) ≡ is_held state user
held_some state user =
    let P : Option (ℕ × HeldUser) → Type 0 = λ o. holder_of state user ≡ o → is_some o ≡ is_held state user in
    let either : P (holder_of state user) = elim (holder_of state user) as P [
      | None ↦ λ e. sym ((no_holder state user).0 e)
      | Some p ↦ λ e. sym (true_unless (is_held state user) (λ none. let empty = (no_holder state user).1 none in absurd (cc)))
    ] in either refl
  where
    true_unless : (b : Bool) → (b ≡ false → ⊥) → b ≡ true
    true_unless true never = refl
    true_unless false never = absurd (never refl)

free_as : (state : State) (user : ℕ) → pools.is_free (user_of state user) ≡ not (is_held state user)
free_as state user = free_or_held (holder_of state user) ∙ ap not (held_some state user)

abbrev counts : User → ℕ
counts u = cond (pools.is_free u) 1 0

free_counted : (state : State) (xs : List ℕ) → length (filter (λ user. not (is_held state user)) xs) ≡ pools.free_count (map (user_of state) xs)
free_counted state [] = refl
free_counted state (x ∷ xs) =
    let later = free_counted state xs in
    let split : pools.free_count (map (user_of state) (x ∷ xs)) ≡ counts (user_of state x) + pools.free_count (map (user_of state) xs) = sum_by-cons counts (user_of state x) (map (user_of state) xs) in
    let P : Bool → Type 0 = λ b. pools.is_free (user_of state x) ≡ b →
    length (cond b (x ∷ filter (λ user. not (is_held state user)) xs) (filter (λ user. not (is_held state user)) xs)) ≡ counts (user_of state x) + pools.free_count (map (user_of state) xs) in
    let each : P (not (is_held state x)) = elim (not (is_held state x)) as P [ true ↦ λ e. rw e (omega arith) | false ↦ λ e. rw e (omega arith) ] in
    each (free_as state x) ∙ sym split

some_counted : (xs : List ℕ) → is_some (first_of xs) ≡ nat_lt 0 (length xs)
some_counted [] = refl
some_counted (x ∷ xs) = grind (arith, common_steps)

-- whether a user is free, by the pool's count
pub free_shown : {plan : Plan} {pool : PoolView} {kept : List ExecutorState} {stopped : Bool} {state : State} → Shows plan pool kept stopped state →
    is_some (first_of (free_users state)) ≡ nat_lt 0 (pools.free_count pool.users)
free_shown {plan} {pool} {kept} {stopped} {state} shows =
    some_counted (free_users state) ∙ ap (λ (k : ℕ). nat_lt 0 k) (free_counted state (range_with_len 1 state.made) ∙ ap pools.free_count (sym shows.users))

-- ---- until when iterations may last

user_until : (n : ℕ) (condition : Condition) → pools.until_of (condition_user n condition) ≡ busy_until condition
user_until n Idle = refl
user_until n (Busy thread item until) = refl

holder_until : (o : Option (ℕ × HeldUser)) (m : ℕ) → pools.until_of (user_held o) ≡ Some m → (p : ℕ × HeldUser) × (o ≡ Some p) × (busy_until p.1.condition ≡ Some m)
holder_until None m is = absurd (cc)
holder_until (Some p) m is = (p, refl, sym (user_until p.0 p.1.condition) ∙ is)

filter_map-In : {A B : Type 0} (f : A → Option B) (x : A) (y : B) {xs : List A} → In x xs → f x ≡ Some y → In y (filter_map f xs)
filter_map-In f x y here is = rw is here
filter_map-In {A} {B} f x y (there {y = z} {xs = zs} more) is =
    let later = filter_map-In f x y more is in
    let P : Option B → Type 0 = λ o. In y (cons_option o (filter_map f zs)) in
    elim (f z) as P [ None ↦ later | Some w ↦ there later ]

share_there : (shares : List Share) (share : Share) → In share shares → (n : ℕ) × (slice_get shares n ≡ Some share)
share_there [] share at = absurd (nothing_in at)
share_there (x ∷ rest) share here = (0, refl)
share_there (x ∷ rest) share (there more) = let later = share_there rest share more in (suc later.0, later.1)

there_share : (shares : List Share) (n : ℕ) (share : Share) → slice_get shares n ≡ Some share → In share shares
there_share [] n share at = absurd (cc)
there_share (x ∷ rest) zero share at = let same : x ≡ share = cc in subst (λ (y : Share). In y (x ∷ rest)) same here
there_share (x ∷ rest) (suc n) share at = there (there_share rest n share at)

in_range : (a n k : ℕ) → a ≤ k → k < a + n → In k (range_with_len a n)
in_range a zero k above below = absurd (omega arith)
in_range a (suc n) k above below =
    let P : Bool → Type 0 = λ b. (a == k) ≡ b → In k (a ∷ range_with_len (a + 1) n) in
    let from : P (a == k) = elim (a == k) as P [
      | true ↦ λ e. subst (λ (x : ℕ). In x (a ∷ range_with_len (a + 1) n)) (grind (arith, common_steps)) here
      | false ↦ λ e. there (in_range (a + 1) n k (past a k above e) (omega arith))
    ] in from refl
  where
    past : (a k : ℕ) → a ≤ k → (a == k) ≡ false → a + 1 ≤ k
    past a k above e = grind (arith, common_steps)

-- the least of moments that are among each other's is one
least_same : (t : ℕ) (xs ys : List ℕ) → ((m : ℕ) → In m xs → In m ys) → ((m : ℕ) → In m ys → In m xs) → least_above t xs ≡ least_above t ys
least_same t xs ys to from =
    let P : Option ℕ → Type 0 = λ o. least_above t xs ≡ o → o ≡ least_above t ys in
    let either : P (least_above t xs) = elim (least_above t xs) as P [
      | None ↦ λ e. sym (above_none t ys (λ m at. none_above t xs e m (Contains-from_In m (from m (In-of at)))))
      | Some least ↦ λ e.
          let is : IsLeastAbove t xs least = above_tells t xs least e in
          sym (above_is t ys least (Contains-from_In least (to least (In-of is.0)), is.1, λ x at above. is.2 x (Contains-from_In x (from x (In-of at))) above))
    ] in either refl

module _ {plan : Plan} {pool : PoolView} {kept : List ExecutorState} {stopped : Bool} {state : State} (shows : Shows plan pool kept stopped state) where
  pool_until : (m : ℕ) → In m (pools.untils_of pool.users) → In m (flat_map untils state.shares)
  pool_until m at =
      let there_is : In m (filter_map pools.until_of (map (user_of state) (range_with_len 1 state.made))) = subst (λ (l : List User). In m (filter_map pools.until_of l)) shows.users at in
      let found = In-filter_map pools.until_of m (map (user_of state) (range_with_len 1 state.made)) there_is in
      let user = In-map (user_of state) found.0 (range_with_len 1 state.made) found.1 in
      let until : pools.until_of (user_held (holder_of state user.0)) ≡ Some m = ap pools.until_of user.2 ∙ found.2 in
      let holder = holder_until (holder_of state user.0) m until in
      let held = (holder_in_share state user.0 holder.0.0 holder.0.1 shows.well).0 holder.1 in
      flat_map-In untils held.0 m (there_share state.shares holder.0.0 held.0 held.1) (filter_map-In (λ (h : HeldUser). busy_until h.condition) holder.0.1 m (In-of held.2) holder.2)

  state_until : (m : ℕ) → In m (flat_map untils state.shares) → In m (pools.untils_of pool.users)
  state_until m at =
      let of_share = In-flat_map untils m state.shares at in
      let share : Share = of_share.0 in
      let number = share_there state.shares share of_share.1 in
      let found = In-filter_map (λ (h : HeldUser). busy_until h.condition) m share.held of_share.2 in
      let h : HeldUser = found.0 in
      let f : Finds state number.0 h.user h.condition = finds_in shows number.0 share h h.user h.condition number.1 found.1 refl refl in
      let until : pools.until_of (user_of state h.user) ≡ Some m =
      ap (λ (o : Option (ℕ × HeldUser)). pools.until_of (user_held o)) f.holder ∙ ap (λ (c : Condition). pools.until_of (condition_user number.0 c)) f.is ∙ user_until number.0 h.condition ∙ found.2 in
      let some = f.some in
      let within = f.within in
      subst (λ (l : List User). In m (filter_map pools.until_of l)) (sym shows.users)
      (filter_map-In pools.until_of (user_of state h.user) m (map-In (user_of state) h.user (in_range 1 state.made h.user some (omega arith))) until)

  pub untils_told : (t : ℕ) → least_above t (pools.untils_of pool.users) ≡ least_until_in t state.shares
  untils_told t = least_same t (pools.untils_of pool.users) (flat_map untils state.shares) pool_until state_until

  -- ---- the moment to wait for

  scenario_number : (list : List Scenario) (s : Scenario) → In s list → (n : ℕ) × (slice_get list n ≡ Some s)
  scenario_number [] s at = absurd (nothing_in at)
  scenario_number (x ∷ rest) s here = (0, refl)
  scenario_number (x ∷ rest) s (there more) = let later = scenario_number rest s more in (suc later.0, later.1)

  -- no scenario is externally controlled
  pub none_external : is_external_open plan state ≡ false
  none_external = false_unless (is_external_open plan state) (λ some.
      let found = In-from_any (λ (s : Scenario). is_open s && is_external s.part.executor) (scenarios plan state) some in
      let external = (both_true (is_open found.0) (is_external found.0.part.executor) found.2).1 in
      let number = scenario_number (scenarios plan state) found.0 found.1 in
      let k = kept_there shows number.0 found.0 number.1 in
      let inside = shown_inside k.0 found.0 k.2 in
      absurd (cc))

  pub wait_shown : (t : ℕ) (candidate until : Option ℕ) → candidate ≡ least_moment t (scenarios plan state) → until ≡ least_of (filter (nat_lt t) (pools.untils_of pool.users)) →
      wait_moment plan state t ≡ unwrap_or (lesser candidate until) (moment_after t short_wait)
  wait_shown t candidate until of_scenarios of_pool =
      let told = untils_told t in
      let same : next_candidate plan state t ≡ lesser candidate until = next_of_parts plan state t ∙ rw (of_scenarios, of_pool, told) refl in
      rw (none_external, same) refl

pub wait_in_core : (c : Inside) → IsCore c → (now : CoreView) → core_view c ≡ now → (t : ℕ) (candidate until : Option ℕ) →
    candidate ≡ least_moment t (scenarios (plan_of now) (state_of now)) → until ≡ least_of (filter (nat_lt t) (pools.untils_of c.pool.users)) →
    (moment : ℕ) → moment ≡ unwrap_or (lesser candidate until) (moment_after t short_wait) → moment ≡ wait_moment (plan_of now) (state_of now) t
wait_in_core c is now view t candidate until of_scenarios of_pool moment sum =
    let P : CoreView → Type 0 = λ v. candidate ≡ least_moment t (scenarios (plan_of v) (state_of v)) → moment ≡ wait_moment (plan_of v) (state_of v) t in
    let inside : P (core_view c) = λ told. sum ∙ sym (wait_shown is.shows t candidate until told of_pool) in
    subst P view inside of_scenarios
