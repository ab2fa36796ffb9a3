-- What a core's scenarios would do next, by what is kept of them.
use Rattle.std.proofs.Common.{◌≡◌, ◌≢◌, ◌<◌, ◌≤◌, ◌+◌, nat_lt, ℕ, zero, suc, Bool, true, false, List, [], ◌∷◌, ◌++◌, filter, take, Option, None, Some, length, slice_get, slice_index_or, arith, refl, sym, subst, ap, ◌∙◌}
use Rattle.std.specs.Prelude.{IfNone, IfSome, is_some}
use Rattle.std.proofs.lemmas.Option.{slice_get_read}
use Rattle.ld_base.specs.declared.wish.Wish.{Wish}
use Rattle.ld_base.specs.declared.wish.Wish.TheVariants.{Nothing}
use Rattle.ld_machine.specs.Moves.{scenarios}
use Rattle.ld_machine.specs.Scenario.{Scenario, first_of, may_stop}
use Rattle.ld_machine.specs.State.{free_users}
use Rattle.ld_machine.specs.Together.{NoneActs, least_moment, lesser}
use Rattle.ld_machine.specs.Wait.{least_of, scenario_moments}
use Rattle.ld_machine.specs.Wishes.{WishesFirst, has_arrivals}
use Rattle.ld_machine.proofs.CandidateLemmas.{flat-snoc}
use Rattle.ld_pool.specs.Users as pools
use Rattle.ld_executor.specs.declared.executor_state.ExecutorState.{ExecutorState}
use Rattle.ld_executor.specs.Shows as executors
use Rattle.ld_core.specs.Core.{IsCore, core_view}
use Rattle.ld_core.specs.CoreView.{CoreView, plan_of, state_of}
use Rattle.ld_core.specs.Firsts.{ComesFirst, NoneNext, TellsNext}
use Rattle.ld_core.specs.declared.first.First.{First}
use Rattle.ld_core.specs.declared.first.Next.TheVariants.{Halt, Wished}
use Rattle.ld_core.specs.declared.machine.Core.TheInside.{Inside}
use Rattle.ld_core.proofs.NextLemmas.{Looked, found_first, found_none, tells_halt, tells_none, tells_wished}
use Rattle.ld_core.proofs.WaitLemmas.{free_shown}
use Rattle.ld_core.proofs.ShownLemmas.{kept_long, scenarios_long, shown_there}

pub inside_of_plan : (c : Inside) → IsCore c → (now : CoreView) → core_view c ≡ now → (n : ℕ) → n < length (plan_of now).parts → n < length c.scenarios.items
inside_of_plan c is now view n below =
    let long = kept_long is.shows in
    let within : n < length c.plan.plan.parts = subst (λ (v : CoreView). n < length (plan_of v).parts) (sym view) below in
    omega arith

pub index_of_plan : (c : Inside) → IsCore c → (now : CoreView) → core_view c ≡ now → (n : ℕ) → n < length (plan_of now).parts → n < c.scenarios.len
index_of_plan c is now view n below =
    let within = inside_of_plan c is now view n below in
    let long = c.scenarios.ok.0 in
    omega arith

-- the kept state that is read at a number
pub kept_read : (xs : List ExecutorState) (n : ℕ) (k : ExecutorState) → n < length xs → k ≡ slice_index_or xs n k → slice_get xs n ≡ Some k
kept_read xs n k below is = slice_get_read xs (length xs) n k refl below is

module _ (c : Inside) (is : IsCore c) (now : CoreView) (view : core_view c ≡ now) (t n : ℕ) (k : ExecutorState) (at : slice_get c.scenarios.items n ≡ Some k) where
  pub halt_told : ((s : Scenario) → executors.Shows k s → true ≡ may_stop s t) → TellsNext now t n Halt
  halt_told may =
      let found = shown_there is.shows n k at in
      subst (λ (v : CoreView). TellsNext v t n Halt) view (tells_halt (core_view c) t n found.0 k found.1 found.2 (sym (may found.0 found.2)))

  pub wish_told : (free arrivals : Bool) (wish : Wish) → ((s : Scenario) → executors.Shows k s → false ≡ may_stop s t) → free ≡ is_some (first_of (free_users (state_of now))) →
      ((s : Scenario) → executors.Shows k s → WishesFirst s t free 0 wish) → ((s : Scenario) → executors.Shows k s → arrivals ≡ has_arrivals s.part.executor) → wish ≢ Nothing →
      TellsNext now t n (Wished wish arrivals)
  wish_told free arrivals wish may some wishes kind acts =
      let found = shown_there is.shows n k at in
      let P : CoreView → Type 0 = λ v. free ≡ is_some (first_of (free_users (state_of v))) → TellsNext v t n (Wished wish arrivals) in
      let inside : P (core_view c) = λ e.
      tells_wished (core_view c) t n found.0 k found.1 found.2 free arrivals wish (sym (may found.0 found.2)) (sym e) (wishes found.0 found.2) (kind found.0 found.2) acts in
      subst P view inside some

  pub none_told : (free : Bool) → ((s : Scenario) → executors.Shows k s → false ≡ may_stop s t) → free ≡ is_some (first_of (free_users (state_of now))) →
      ((s : Scenario) → executors.Shows k s → WishesFirst s t free 0 Nothing) → NoneNext now t n
  none_told free may some wishes =
      let found = shown_there is.shows n k at in
      let P : CoreView → Type 0 = λ v. free ≡ is_some (first_of (free_users (state_of v))) → NoneNext v t n in
      let inside : P (core_view c) = λ e.
      tells_none (core_view c) t n found.0 k found.1 found.2 free (sym (may found.0 found.2)) (sym e) (wishes found.0 found.2) in
      subst P view inside some

-- there are as many scenarios as parts
all_looked : (c : Inside) (is : IsCore c) (now : CoreView) → core_view c ≡ now → length (scenarios (plan_of now) (state_of now)) ≡ length (plan_of now).parts
all_looked c is now view = subst (λ (v : CoreView). length (scenarios (plan_of v) (state_of v)) ≡ length (plan_of v).parts) view (scenarios_long is.shows)

-- behind the loop over the scenarios
module _ (c : Inside) (is : IsCore c) (now : CoreView) (view : core_view c ≡ now) (t k : ℕ) (all : length c.plan.plan.parts ≤ k) where
  long_enough : length (scenarios (plan_of now) (state_of now)) ≤ k
  long_enough =
      let long = all_looked c is now view in
      let parts : length c.plan.plan.parts ≡ length (plan_of now).parts = ap (λ (v : CoreView). length (plan_of v).parts) view in
      omega arith

  pub first_returned : (found : Option First) → Looked now t k found → IfSome found (λ first. ComesFirst now t first)
  first_returned None looked = tt
  first_returned (Some first) looked = found_first now t k first long_enough looked

  pub none_returned : (found : Option First) → Looked now t k found → IfNone found (NoneActs (plan_of now) (state_of now) t)
  none_returned None looked = found_none now t k long_enough looked
  none_returned (Some first) looked = tt

-- ---- the least moment, one scenario more at a time

take_next : {A : Type 0} (xs : List A) (i : ℕ) (x : A) → slice_get xs i ≡ Some x → take (suc i) xs ≡ take i xs ++ x ∷ []
take_next [] i x at = absurd (cc)
take_next (y ∷ xs) zero x at = let same : y ≡ x = cc in ap (λ z. z ∷ []) same
take_next (y ∷ xs) (suc i) x at = ap (λ rest. y ∷ rest) (take_next xs i x at)

take_whole : {A : Type 0} (xs : List A) (i : ℕ) → length xs ≤ i → take i xs ≡ xs
take_whole [] zero all = refl
take_whole [] (suc i) all = refl
take_whole (x ∷ xs) zero all = absurd (omega arith)
take_whole (x ∷ xs) (suc i) all = ap (λ rest. x ∷ rest) (take_whole xs i (omega arith))

module _ (c : Inside) (is : IsCore c) (now : CoreView) (view : core_view c ≡ now) (t i : ℕ) where
  pub candidate_step : (k : ExecutorState) (least candidate next : Option ℕ) → slice_get c.scenarios.items i ≡ Some k → least ≡ least_moment t (take i (scenarios (plan_of now) (state_of now))) →
      ((s : Scenario) → executors.Shows k s → candidate ≡ least_of (filter (nat_lt t) (scenario_moments s))) → next ≡ lesser least candidate →
      next ≡ least_moment t (take (i + 1) (scenarios (plan_of now) (state_of now)))
  candidate_step k least candidate next at so_far of_one is_next =
      let P : CoreView → Type 0 = λ v. least ≡ least_moment t (take i (scenarios (plan_of v) (state_of v))) → next ≡ least_moment t (take (i + 1) (scenarios (plan_of v) (state_of v))) in
      let inside : P (core_view c) = λ front.
      let list : List Scenario = scenarios (plan_of (core_view c)) (state_of (core_view c)) in
      let s = shown_there is.shows i k at in
      let more : take (i + 1) list ≡ take i list ++ s.0 ∷ [] = ap (λ (m : ℕ). take m list) (let e : i + 1 ≡ suc i = omega arith in e) ∙ take_next list i s.0 s.1 in
      is_next ∙ ap (λ (o : Option ℕ). lesser o candidate) front ∙ ap (λ (o : Option ℕ). lesser (least_moment t (take i list)) o) (of_one s.0 s.2)
      ∙ sym (flat-snoc t scenario_moments (take i list) s.0) ∙ ap (λ (l : List Scenario). least_moment t l) (sym more) in
      subst P view inside so_far

  pub candidate_whole : (least : Option ℕ) → length c.scenarios.items ≤ i → least ≡ least_moment t (take i (scenarios (plan_of now) (state_of now))) →
      least ≡ least_moment t (scenarios (plan_of now) (state_of now))
  candidate_whole least all so_far =
      let long = all_looked c is now view in
      let kept = kept_long is.shows in
      let parts : length c.plan.plan.parts ≡ length (plan_of now).parts = ap (λ (v : CoreView). length (plan_of v).parts) view in
      so_far ∙ ap (λ (l : List Scenario). least_moment t l) (take_whole (scenarios (plan_of now) (state_of now)) i (omega arith))

-- whether a user is free
pub free_told : (c : Inside) → IsCore c → (now : CoreView) → core_view c ≡ now → (free : Bool) → free ≡ nat_lt 0 (pools.free_count c.pool.users) →
    free ≡ is_some (first_of (free_users (state_of now)))
free_told c is now view free counted = counted ∙ sym (free_shown is.shows) ∙ ap (λ (v : CoreView). is_some (first_of (free_users (state_of v)))) view
