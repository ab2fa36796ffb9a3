-- Many scenarios put together: what the first act of all and the next candidate are made of.
use Rattle.std.specs.Prelude.{◌≡◌, ◌<◌, ◌≤◌, ◌++◌, ◌==◌, ℕ, Bool, true, false, nat_lt, List, [], filter, filter_map, flat_map, min, Option, None, Some, Contains, slice_get}
use Rattle.std.specs.List.{list_any}
use Rattle.ld_machine.specs.Plan.{Plan}
use Rattle.ld_machine.specs.State.{HeldUser, Share, State, is_held, times_among, times_held}
use Rattle.ld_machine.specs.Scenario.{Scenario}
use Rattle.ld_machine.specs.Moves.{StartOn, GrowAndStart, TakeAndStart, Move, ReleaseUser, TakeUser, AnswerArrival, StartIteration, users_of, moves_of, scenarios}
use Rattle.ld_machine.specs.Order.{is_before, place_of, first_among}
use Rattle.ld_machine.specs.Wait.{busy_until, scenario_moments, untils, least_of}

-- the act is one that scenario number n may perform at t
abbrev pub IsActOf : Plan → State → ℕ → ℕ → Move → Type 0
IsActOf plan state t n m =
    (s : Scenario) × (slice_get (scenarios plan state) n ≡ Some s) × Contains (moves_of (users_of plan state) n s t) m

-- no scenario may perform an act at t that is before this one
abbrev pub NoneBefore : Plan → State → ℕ → Move → Type 0
NoneBefore plan state t m = (k : ℕ) (other : Move) → IsActOf plan state t k other → is_before (place_of other) (place_of m) ≡ false

-- no scenario may perform an act at t
abbrev pub NoneActs : Plan → State → ℕ → Type 0
NoneActs plan state t = (n : ℕ) (s : Scenario) → slice_get (scenarios plan state) n ≡ Some s → moves_of (users_of plan state) n s t ≡ []

-- the act is a first one of those that scenario number n may perform at t
abbrev pub IsFirstActOf : Plan → State → ℕ → ℕ → Move → Type 0
IsFirstActOf plan state t n m =
    (s : Scenario) × (slice_get (scenarios plan state) n ≡ Some s) × Contains (first_among (moves_of (users_of plan state) n s t)) m

-- the act is one of a scenario of a number below k, and none that these may perform is before it
abbrev pub IsFirstBelow : Plan → State → ℕ → ℕ → Move → Type 0
IsFirstBelow plan state t k m =
    ((n : ℕ) × (n < k) × IsActOf plan state t n m)
    × ((n : ℕ) (other : Move) → n < k → IsActOf plan state t n other → is_before (place_of other) (place_of m) ≡ false)

-- no scenario of a number below k may perform an act at t
abbrev pub NoneActsBelow : Plan → State → ℕ → ℕ → Type 0
NoneActsBelow plan state t k =
    (n : ℕ) (s : Scenario) → n < k → slice_get (scenarios plan state) n ≡ Some s → moves_of (users_of plan state) n s t ≡ []

-- the lesser of two moments; one that isn't there is later than all
abbrev pub lesser : Option ℕ → Option ℕ → Option ℕ
lesser None other = other
lesser (Some a) None = Some a
lesser (Some a) (Some b) = Some (min a b)

-- the least of some moments above t
abbrev pub least_above : ℕ → List ℕ → Option ℕ
least_above t moments = least_of (filter (nat_lt t) moments)

-- the least moment above t of some scenarios, and the least of these and of their users' `until`s
abbrev pub least_moment : ℕ → List Scenario → Option ℕ
least_moment t scenarios = least_above t (flat_map scenario_moments scenarios)

abbrev pub least_with_untils : ℕ → List Scenario → Option ℕ
least_with_untils t scenarios = least_above t (flat_map (λ (s : Scenario). scenario_moments s ++ untils s.share) scenarios)

-- the least `until` above t of some held users, of whom the idle ones have none, and of all that
-- some shares hold
abbrev pub least_until : ℕ → List HeldUser → Option ℕ
least_until t held = least_above t (filter_map (λ (h : HeldUser). busy_until h.condition) held)

abbrev pub least_until_in : ℕ → List Share → Option ℕ
least_until_in t shares = least_above t (flat_map untils shares)

-- of some moments m is one, and at most each of them
abbrev pub IsLeast : List ℕ → ℕ → Type 0
IsLeast moments m = Contains moments m × ((x : ℕ) → Contains moments x → m ≤ x)

-- of some moments m is one above t, and at most each of them that is above t
abbrev pub IsLeastAbove : ℕ → List ℕ → ℕ → Type 0
IsLeastAbove t moments m = Contains moments m × (t < m) × ((x : ℕ) → Contains moments x → t < x → m ≤ x)

-- the share holds the user once, and it passes the test
abbrev pub HoldsOnce : (HeldUser → Bool) → Share → ℕ → Type 0
HoldsOnce passes share user =
    (times_among user share.held ≤ 1) × ((h : HeldUser) × Contains share.held h × (h.user ≡ user) × (passes h ≡ true))

-- the share holds the user
abbrev pub holds : ℕ → Share → Bool
holds user share = list_any (λ (h : HeldUser). h.user == user) share.held

-- no user is held twice, and whoever is held was made, numbered from 1
abbrev pub WellHeld : State → Type 0
WellHeld state =
    (user : ℕ) → (times_held user state.shares ≤ 1) × (is_held state user ≡ true → (1 ≤ user) × (user ≤ state.made))

-- the idle user that an act is on: one that is released, or that starts
abbrev pub idle_user_of : Move → Option ℕ
idle_user_of (ReleaseUser _ user) = Some user
idle_user_of (StartIteration _ user _ _) = Some user
idle_user_of (AnswerArrival _ _ _ _ (StartOn user)) = Some user
idle_user_of _ = None

-- the free user that an act takes
abbrev pub free_user_of : Move → Option ℕ
free_user_of (TakeUser _ user _) = Some user
free_user_of (AnswerArrival _ _ _ _ (TakeAndStart user _)) = Some user
free_user_of _ = None

-- the user that an act releases
abbrev pub released_user_of : Move → Option ℕ
released_user_of (ReleaseUser _ user) = Some user
released_user_of _ = None

-- the user that an act makes
abbrev pub grown_user_of : Move → Option ℕ
grown_user_of (AnswerArrival _ _ _ _ (GrowAndStart user _)) = Some user
grown_user_of _ = None
