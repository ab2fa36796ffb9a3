-- The parts of a new core show the opening.
use Rattle.std.proofs.Common.{Vec, Global, ◌≡◌, ◌≤◌, ◌+◌, ◌*◌, ◌==◌, ℕ, zero, suc, false, List, [], ◌∷◌, ◌++◌, Some, map, replicate, length, slice_get, refl, sym, ap, ap₂, ◌∙◌, subst, arith}
use Rattle.std.specs.Prelude.{sum_by}
use Rattle.std.specs.List.{flat_map, list_any, range_with_len}
use Rattle.std.proofs.lemmas.Grind.{common_steps}
use Rattle.std.proofs.lemmas.List.Sums.{sum_by-cons}
use Rattle.ld_base.specs.History.{HistoryView}
use Rattle.ld_machine.specs.Effect.{state_after}
use Rattle.ld_machine.specs.Moves.{scenarios_with}
use Rattle.ld_machine.specs.Plan.{Part, Plan}
use Rattle.ld_machine.specs.Room.{busy_room}
use Rattle.ld_machine.specs.Scenario.{Scenario}
use Rattle.ld_machine.specs.State.{Controls, HeldUser, Share, State, busy_count, busy_users, opening, opening_share}
use Rattle.ld_machine.proofs.ItemLemmas.{stands_share}
use Rattle.ld_machine.proofs.ScenarioListLemmas.{length-opening, length-with}
use Rattle.ld_machine.proofs.WellHeldLemmas.{opening_well}
use Rattle.ld_machine.proofs.WhoHoldsLemmas.{no_holder}
use Rattle.ld_plan.specs.Plan.{IsMade}
use Rattle.ld_plan.specs.PlanView.{PlanView}
use Rattle.ld_plan.proofs.MadeLemmas.{none_controlled}
use Rattle.ld_pool.specs.Pool.{PoolView}
use Rattle.ld_pool.specs.Users as pools
use Rattle.ld_pool.specs.declared.user.User.{User}
use Rattle.ld_pool.specs.declared.user.User.TheVariants as users
use Rattle.ld_executor.specs.Shows as executors
use Rattle.ld_executor.specs.declared.executor_state.ExecutorState.{ExecutorState}
use Rattle.ld_core.specs.Core.{IsCore}
use Rattle.ld_core.specs.Shows.{ShowOpenings, Shows, user_held, user_of}

-- ---- nobody is held

unheld_opening : (user : ℕ) (parts : List Part) → list_any (λ (share : Share). list_any (λ (h : HeldUser). h.user == user) share.held) (map (λ (part : Part). opening_share) parts) ≡ false
unheld_opening user [] = refl
unheld_opening user (part ∷ parts) = unheld_opening user parts

free_opening : (plan : Plan) (user : ℕ) → user_of (opening plan) user ≡ users.Free
free_opening plan user = ap user_held ((no_holder (opening plan) user).1 (unheld_opening user plan.parts))

all_free : (plan : Plan) (a n : ℕ) → replicate n users.Free ≡ map (user_of (opening plan)) (range_with_len a n)
all_free plan a zero = refl
all_free plan a (suc n) = ap₂ (λ (u : User) (more : List User). u ∷ more) (sym (free_opening plan a)) (all_free plan (a + 1) n)

none_busy : (n : ℕ) → pools.busy_count (replicate n users.Free) ≡ 0
none_busy zero = refl
none_busy (suc n) = none_busy n

busy_opening : (parts : List Part) → length (flat_map busy_users (map (λ (part : Part). opening_share) parts)) ≡ 0
busy_opening [] = refl
busy_opening (part ∷ parts) = busy_opening parts

no_times : (room more : ℕ) → more ≡ 0 → 0 * room + more ≡ 0
no_times room more none = let nothing : 0 * room ≡ 0 = omega arith in omega arith

room_opening : (controls : Controls) (parts : List Part) →
    sum_by (λ (s : Scenario). length (busy_users s.share) * s.part.sample_room) (scenarios_with controls parts (map (λ (part : Part). opening_share) parts)) ≡ 0
room_opening controls [] = refl
room_opening controls (part ∷ parts) =
    sum_by-cons (λ (s : Scenario). length (busy_users s.share) * s.part.sample_room) (record { part = part; share = opening_share; controls = controls })
    (scenarios_with controls parts (map (λ (part : Part). opening_share) parts))
    ∙ no_times part.sample_room _ (room_opening controls parts)

opened_at : (parts : List Part) (n : ℕ) (share : Share) → slice_get (map (λ (part : Part). opening_share) parts) n ≡ Some share → share ≡ opening_share
opened_at [] n share at = absurd (cc)
opened_at (part ∷ parts) zero share at = cc
opened_at (part ∷ parts) (suc n) share at = opened_at parts n share at

-- ---- the core

pub opened : (plan : PlanView) (pool : PoolView) (kept : Vec ExecutorState Global) (history : HistoryView) → IsMade plan →
    plan.plan.planned ≤ plan.plan.limit → plan.plan.limit ≤ 1000 → plan.plan.entry_limit ≤ 1000000 → ShowOpenings plan.plan kept.items →
    pool ≡ record { users = replicate plan.plan.planned users.Free; limit = plan.plan.limit } → history ≡ record { entries = []; room = plan.plan.entry_limit } →
    IsCore (record { plan = plan; pool = pool; scenarios = kept; stopped = false; samples = 0; under_way = 0; history = history })
opened plan pool kept history made within few most opens pool_is history_is =
    let state : State = opening plan.plan in
    let state_is : state_after plan.plan history.entries ≡ state = ap (λ (h : HistoryView). state_after plan.plan h.entries) history_is in
    let count : length plan.plan.parts ≡ length state.shares = sym (length-opening plan.plan.parts) in
    let none : busy_count state ≡ 0 = busy_opening plan.plan.parts in
    let nothing : busy_room plan.plan state ≡ 0 = room_opening state.controls plan.plan.parts in
    let shows : Shows plan.plan pool kept.items false state = record {
      count = count;
      scenarios = record {
        count = opens.count ∙ sym (length-with state.controls plan.plan.parts state.shares count);
        each = λ n k s at stands.
            let there = stands_share state.controls plan.plan.parts state.shares n s stands in
            let share_is : s.share ≡ opening_share = opened_at plan.plan.parts n s.share there.1 in
            subst (λ (x : Share). executors.Shows k (record s { share = x })) (sym share_is) (opens.each n k at s.part s.controls there.0);
      };
      well = opening_well plan.plan;
      made = within;
      limit = ap (λ (p : PoolView). p.limit) pool_is;
      users = ap (λ (p : PoolView). p.users) pool_is ∙ all_free plan.plan 1 plan.plan.planned;
      busy = ap (λ (p : PoolView). pools.busy_count p.users) pool_is ∙ none_busy plan.plan.planned ∙ sym none;
      stop = refl;
      controls = none_controlled plan made;
      room = omega arith;
      sample_room = omega arith;
    } in
    record {
      shows = subst (λ (s : State). Shows plan.plan pool kept.items false s) (sym state_is) shows;
      samples = sym (ap (λ (s : State). s.samples) state_is);
      under_way = sym (ap (busy_room plan.plan) state_is ∙ nothing);
      room = ap (λ (h : HistoryView). h.room) history_is;
      few = few;
      most = most;
    }

-- ---- one scenario after another

last_case : (xs : List ExecutorState) (n : ℕ) (x y : ExecutorState) → slice_get (xs ++ x ∷ []) n ≡ Some y → (A : Type 0) → (slice_get xs n ≡ Some y → A) → (n ≡ length xs → x ≡ y → A) → A
last_case [] zero x y at A front back = back refl (cc)
last_case [] (suc n) x y at A front back = absurd (cc)
last_case (z ∷ xs) zero x y at A front back = front at
last_case (z ∷ xs) (suc n) x y at A front back = last_case xs n x y at A front (λ e. back (ap suc e))

-- the scenarios of the numbers below k were made
pub record OpenedTo (plan : Plan) (kept : List ExecutorState) (k : ℕ) : Type 0 where
  pub count : length kept ≡ k
  pub each : (n : ℕ) (state : ExecutorState) → slice_get kept n ≡ Some state → executors.ShowsOpening plan n state

pub opened_next : (plan : Plan) (kept : List ExecutorState) (k : ℕ) (one : ExecutorState) → OpenedTo plan kept k → executors.ShowsOpening plan k one → OpenedTo plan (kept ++ one ∷ []) (k + 1)
opened_next plan kept k one so_far opens =
    record {
      count = longer kept one ∙ ap (λ (m : ℕ). m + 1) so_far.count;
      each = λ n state at. last_case kept n one state at (executors.ShowsOpening plan n state) (so_far.each n state)
          (λ there same. subst (λ (v : ExecutorState). executors.ShowsOpening plan n v) same (subst (λ (m : ℕ). executors.ShowsOpening plan m one) (sym (there ∙ so_far.count)) opens));
    }
  where
    longer : (xs : List ExecutorState) (x : ExecutorState) → length (xs ++ x ∷ []) ≡ length xs + 1
    longer xs x = grind (arith, common_steps)
