-- What the parts of a core tell of the state that they show.
use Rattle.std.proofs.Common.{◌≡◌, ◌≢◌, ◌<◌, ◌≤◌, ◌+◌, ◌==◌, ℕ, zero, suc, Bool, true, false, List, [], ◌∷◌, Option, None, Some, map, length, set, slice_get, Contains, arith, refl, sym, ap, subst, ◌∙◌}
use Rattle.std.specs.Prelude.{IsSomeAnd}
use Rattle.std.specs.List.{range_with_len}
use Rattle.std.proofs.lemmas.List.FromFn.{length-map-range_with_len}
use Rattle.std.proofs.lemmas.Option.{slice_get_within}
use Rattle.ld_machine.specs.Holders.{holder_of}
use Rattle.ld_machine.specs.Moves.{scenarios}
use Rattle.ld_machine.specs.Plan.{Plan}
use Rattle.ld_machine.specs.Scenario.{Scenario}
use Rattle.ld_machine.specs.State.{Condition, Idle, Busy, HeldUser, Share, State, idle_users, is_busy, is_held, is_idle, is_idle_condition}
use Rattle.ld_machine.specs.Together.{HoldsOnce, holds}
use Rattle.ld_machine.proofs.FreeLemmas.{among_held}
use Rattle.ld_machine.proofs.FreeStepLemmas.{share_held}
use Rattle.ld_machine.proofs.ItemLemmas.{stands_share}
use Rattle.ld_machine.proofs.ListLemmas.{In, Contains-from_In, In-filter, In-from_Contains, any-from_In, number_itself}
use Rattle.ld_machine.proofs.ScenarioListLemmas.{length-with}
use Rattle.ld_machine.proofs.WhoHoldsLemmas.{holder_in_share, no_holder}
use Rattle.ld_pool.specs.Pool.{PoolView}
use Rattle.ld_pool.specs.Users as pools
use Rattle.ld_pool.specs.declared.user.User.{User}
use Rattle.ld_pool.specs.declared.user.User.TheVariants as users
use Rattle.ld_pool.proofs.UserLemmas.{user_at_place}
use Rattle.ld_executor.specs.declared.executor_state.ExecutorState.{ExecutorState}
use Rattle.ld_executor.specs.Shows as executors
use Rattle.ld_core.specs.Shows.{Shows, condition_user, user_held, user_of}
use Rattle.ld_core.proofs.RangeLemmas.{at_range}

-- ---- lists

pub there_below : {A : Type 0} (xs : List A) (n : ℕ) → n < length xs → (x : A) × (slice_get xs n ≡ Some x)
there_below [] n below = absurd (omega arith)
there_below (x ∷ xs) zero below = (x, refl)
there_below (x ∷ xs) (suc n) below = there_below xs n (omega arith)

pub set_itself : {A : Type 0} (xs : List A) (n : ℕ) (x y : A) → slice_get (set xs n x) n ≡ Some y → x ≡ y
set_itself [] n x y e = absurd (cc)
set_itself (z ∷ xs) zero x y e = cc
set_itself (z ∷ xs) (suc n) x y e = set_itself xs n x y e

pub set_others : {A : Type 0} (xs : List A) (n m : ℕ) (x : A) → m ≢ n → slice_get (set xs n x) m ≡ slice_get xs m
set_others [] n m x other = refl
set_others (z ∷ xs) zero zero x other = absurd (other refl)
set_others (z ∷ xs) zero (suc m) x other = refl
set_others (z ∷ xs) (suc n) zero x other = refl
set_others (z ∷ xs) (suc n) (suc m) x other = set_others xs n m x (λ e. other (ap suc e))

pub some_of : {A : Type 0} (o : Option A) (x : A) (P : A → Type 0) → o ≡ Some x → IsSomeAnd o P → P x
some_of o x P is holds = subst (λ (q : Option _). IsSomeAnd q P) is holds

pub of_some : {A : Type 0} (o : Option A) (x : A) (P : A → Type 0) → o ≡ Some x → P x → IsSomeAnd o P
of_some o x P is holds = subst (λ (q : Option _). IsSomeAnd q P) (sym is) holds

-- what holds of some element holds of one
pub some_there : {A : Type 0} (o : Option A) (P : A → Type 0) → IsSomeAnd o P → (x : A) × (o ≡ Some x) × P x
some_there None P holds = absurd holds
some_there (Some x) P holds = (x, refl, holds)

-- ---- users

pub idle_condition : (condition : Condition) → is_idle_condition condition ≡ true → condition ≡ Idle
idle_condition Idle h = refl
idle_condition (Busy thread item until) h = absurd (cc)

-- a user of whom the pool says that it is free has no holder
free_holder : (o : Option (ℕ × HeldUser)) → user_held o ≡ users.Free → o ≡ None
free_holder None is = refl
free_holder (Some p) is = absurd (never p.0 p.1.condition is)
  where
    never : (n : ℕ) (condition : Condition) → condition_user n condition ≡ users.Free → ⊥
    never n Idle e = cc
    never n (Busy thread item until) e = cc

-- scenario n holds this user, that was made, under this condition
pub record Finds (state : State) (n user : ℕ) (condition : Condition) : Type 0 where
  pub share : Share
  pub stands : slice_get state.shares n ≡ Some share
  pub h : HeldUser
  pub at : In h share.held
  pub number : h.user ≡ user
  pub is : h.condition ≡ condition
  pub holder : holder_of state user ≡ Some (n, h)
  pub some : 1 ≤ user
  pub within : user ≤ state.made

module _ {plan : Plan} {pool : PoolView} {kept : List ExecutorState} {stopped : Bool} {state : State} (shows : Shows plan pool kept stopped state) where
  pub scenarios_long : length (scenarios plan state) ≡ length plan.parts
  scenarios_long = length-with state.controls plan.parts state.shares shows.count

  pub kept_long : length kept ≡ length plan.parts
  kept_long = shows.scenarios.count ∙ scenarios_long

  pub scenario_below : (n : ℕ) (s : Scenario) → slice_get (scenarios plan state) n ≡ Some s → n < length plan.parts
  scenario_below n s stands =
      let within = slice_get_within (scenarios plan state) n s stands in
      let long = scenarios_long in
      omega arith

  pub scenario_there : (n : ℕ) → n < length plan.parts → (s : Scenario) × (slice_get (scenarios plan state) n ≡ Some s)
  scenario_there n below = let long = scenarios_long in there_below (scenarios plan state) n (omega arith)

  pub kept_there : (n : ℕ) (s : Scenario) → slice_get (scenarios plan state) n ≡ Some s → (k : ExecutorState) × (slice_get kept n ≡ Some k) × executors.Shows k s
  kept_there n s stands =
      let within = slice_get_within (scenarios plan state) n s stands in
      let long = shows.scenarios.count in
      let k = there_below kept n (omega arith) in
      (k.0, k.1, shows.scenarios.each n k.0 s k.1 stands)

  pub shown_there : (n : ℕ) (k : ExecutorState) → slice_get kept n ≡ Some k → (s : Scenario) × (slice_get (scenarios plan state) n ≡ Some s) × executors.Shows k s
  shown_there n k at =
      let within = slice_get_within kept n k at in
      let long = shows.scenarios.count in
      let s = there_below (scenarios plan state) n (omega arith) in
      (s.0, s.1, shows.scenarios.each n k s.0 at s.1)

  pub part_there : (n : ℕ) (s : Scenario) → slice_get (scenarios plan state) n ≡ Some s →
      (slice_get plan.parts n ≡ Some s.part) × (slice_get state.shares n ≡ Some s.share)
  part_there n s stands = let both = stands_share state.controls plan.parts state.shares n s stands in (both.0, both.1)

  -- ---- users

  pub users_long : length pool.users ≡ state.made
  users_long = ap length shows.users ∙ length-map-range_with_len (user_of state) 1 state.made

  pub user_said : (user : ℕ) → 1 ≤ user → user ≤ state.made → pools.user_at pool.users user ≡ Some (user_of state user)
  user_said zero some within = absurd (omega arith)
  user_said (suc k) some within =
      let e : k + 1 ≡ suc k = omega arith in
      let got = at_range (user_of state) state.made k (omega arith) in
      subst (λ (l : List User). slice_get l k ≡ Some (user_of state (suc k))) (sym shows.users)
      (subst (λ (n : ℕ). slice_get (map (user_of state) (range_with_len 1 state.made)) k ≡ Some (user_of state n)) e got)

  pub finds_in : (n : ℕ) (share : Share) (h : HeldUser) (user : ℕ) (condition : Condition) → slice_get state.shares n ≡ Some share → In h share.held → h.user ≡ user →
      h.condition ≡ condition → Finds state n user condition
  finds_in n share h user condition stands at number is =
      let passes : (h.user == user) ≡ true = rw number (number_itself user) in
      let held = share_held state n user share stands (any-from_In (λ (x : HeldUser). x.user == user) h at passes) in
      let made = (shows.well user).1 held in
      record {
        share = share;
        stands = stands;
        h = h;
        at = at;
        number = number;
        is = is;
        holder = (holder_in_share state user n h shows.well).1 (share, stands, Contains-from_In h at, number);
        some = made.0;
        within = made.1;
      }

  pub idle_found : (n user : ℕ) (s : Scenario) → slice_get (scenarios plan state) n ≡ Some s → ((h : HeldUser) × Contains (idle_users s.share) h × (h.user ≡ user)) →
      Finds state n user Idle
  idle_found n user s stands idle =
      let h : HeldUser = idle.0 in
      let at = In-filter is_idle h s.share.held (In-from_Contains h (idle_users s.share) idle.1.0 idle.1.1 idle.1.2) in
      finds_in n s.share h user Idle (part_there n s stands).1 at.0 idle.2 (idle_condition h.condition at.1)

  pub user_found : (n user : ℕ) (condition : Condition) → Finds state n user condition → pools.user_at pool.users user ≡ Some (condition_user n condition)
  user_found n user condition f =
      user_said user f.some f.within ∙ ap (λ (o : Option (ℕ × HeldUser)). Some (user_held o)) f.holder ∙ ap (λ (c : Condition). Some (condition_user n c)) f.is

  found_once : (n user : ℕ) (condition : Condition) (f : Finds state n user condition) (passes : HeldUser → Bool) → passes f.h ≡ true → HoldsOnce passes f.share user
  found_once n user condition f passes is =
      let few = among_held user n f.share state.shares f.stands in
      let once = (shows.well user).0 in
      (omega arith, (f.h, Contains-from_In f.h f.at, f.number, is))

  pub idle_once : (n user : ℕ) (f : Finds state n user Idle) → HoldsOnce is_idle f.share user
  idle_once n user f = found_once n user Idle f is_idle (ap is_idle_condition f.is)

  pub busy_once : (n user thread item until : ℕ) (f : Finds state n user (Busy thread item until)) → HoldsOnce is_busy f.share user
  busy_once n user thread item until f = found_once n user (Busy thread item until) f is_busy (rw f.is refl)

  -- a user that the pool says is free was made, and nobody holds it
  pub free_said : (user : ℕ) → pools.user_at pool.users user ≡ Some users.Free → (1 ≤ user) × (user ≤ state.made) × (is_held state user ≡ false)
  free_said user said =
      let place = user_at_place pool.users user users.Free said in
      let long = users_long in
      let some : 1 ≤ user = omega arith in
      let within : user ≤ state.made = omega (arith, place.1, long) in
      let same : Some (user_of state user) ≡ Some users.Free = sym (user_said user some within) ∙ said in
      let none = free_holder (holder_of state user) (let e : user_of state user ≡ users.Free = cc in e) in
      (some, within, (no_holder state user).0 none)
