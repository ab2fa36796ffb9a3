-- Valid plans: the open item that comes first is the least.
use Rattle.std.proofs.Common.{Contains, ◌≡◌, ◌≤◌, ◌<◌, ◌+◌, ◌==◌, ◌&&◌, ℕ, zero, suc, Bool, true, false, cond, List, [], ◌∷◌, Option, None, Some, map, filter, find, option_map, get_or, slice_index, arith, refl, ap, subst}
use Rattle.std.specs.List.{list_any}
use Rattle.std.specs.List.Sorted.{IsStrictlyIncreasing}
use Rattle.std.proofs.lemmas.Grind.{common_steps}
use Rattle.std.proofs.lemmas.List.Kept.{AllPairs-from_increasing, IsStrictlyIncreasing-filter}
use Rattle.ld_machine.specs.Plan.{Arrival, Executor, SharedIterations, PerVuIterations, ConstantVus, RampingVus, ArrivalRate, ExternallyControlled, Part, SlotItem, owned_items}
use Rattle.ld_machine.specs.Scenario.{Scenario, first_of, is_open_item, open_items, least_open_item, slot_open_item, executor_arrivals, least_open_arrival}
use Rattle.ld_machine.specs.Settled.{is_distinct}
use Rattle.ld_machine.specs.Requirement.{IsGreatest, IsRequirement, extra, need}
use Rattle.ld_machine.specs.ValidPlan.{IsValidPart, slot_open_items}
use Rattle.ld_machine.specs.Together.{IsLeast}
use Rattle.ld_machine.proofs.ListLemmas.{In, here, there, In-map, map-In, In-filter, filter-In, found_in, In-from_Contains, Contains-from_In}

-- ---- lists of rising numbers

head_at_most : (x y : ℕ) (xs : List ℕ) → IsStrictlyIncreasing (x ∷ xs) → Contains (x ∷ xs) y → x ≤ y
head_at_most x y xs rises (zero, below, at) = let same : x ≡ y = at in omega arith
head_at_most x y xs rises (suc k, below, at) =
    let apart : x < get_or xs k y = AllPairs-from_increasing (x ∷ xs) rises zero (suc k) y (omega arith) below in
    let same : get_or xs k y ≡ y = at in
    omega arith

-- the first of rising numbers is below the others, which rise
pub head_below : (x y : ℕ) (xs : List ℕ) → IsStrictlyIncreasing (x ∷ xs) → Contains xs y → x < y
head_below x y xs rises (k, below, at) =
    let apart : x < get_or xs k y = AllPairs-from_increasing (x ∷ xs) rises zero (suc k) y (omega arith) (omega arith) in
    let same : get_or xs k y ≡ y = at in
    omega arith

pub tail_rises : (x : ℕ) (xs : List ℕ) → IsStrictlyIncreasing (x ∷ xs) → IsStrictlyIncreasing xs
tail_rises x xs rises = λ k below.
    let next : suc k + 1 ≡ suc (k + 1) = omega arith in
    subst (λ j. slice_index (x ∷ xs) (suc k) < slice_index (x ∷ xs) j) next (rises (suc k) (omega arith))

none_again : (x : ℕ) (xs : List ℕ) → ((y : ℕ) → In y xs → x < y) → list_any (λ k. k == x) xs ≡ false
none_again x [] above = refl
none_again x (y ∷ rest) above =
    let apart : x < y = above y here in
    let other : (y == x) ≡ false = grind (arith, common_steps) in
    let later = none_again x rest (λ z at. above z (there at)) in
    rw (other, later) refl

-- no number comes twice among rising ones
pub rising_distinct : (xs : List ℕ) → IsStrictlyIncreasing xs → is_distinct xs ≡ true
rising_distinct [] rises = refl
rising_distinct (x ∷ xs) rises =
    let later = rising_distinct xs (tail_rises x xs rises) in
    let again = none_again x xs (λ y at. head_below x y xs rises (Contains-from_In y at)) in
    rw (again, later) refl

-- the first of rising numbers is the least of them
first_is_least : (xs : List ℕ) (m : ℕ) → IsStrictlyIncreasing xs → first_of xs ≡ Some m → IsLeast xs m
first_is_least [] m rises first = absurd (cc)
first_is_least (x ∷ xs) m rises first =
    let same : x ≡ m = cc in
    subst (λ k. IsLeast (x ∷ xs) k) same (Contains-from_In x (here {xs = xs}), λ y at. head_at_most x y xs rises at)

-- what passes a test that the first element fails is one of the others
later_in : {A : Type 0} (p : A → Bool) (y z : A) (rest : List A) → p y ≡ true → p z ≡ false → In y (z ∷ rest) → In y rest
later_in p y z rest passes fails here = absurd (cc)
later_in p y z rest passes fails (there more) = more

-- of records with rising numbers the first that passes a test has the least number of those that pass
found_at_most : {A : Type 0} (number : A → ℕ) (passes : A → Bool) (some : List A) (x y : A) → IsStrictlyIncreasing (map number some) →
    find passes some ≡ Some x → In y some → passes y ≡ true → number x ≤ number y
found_at_most number passes [] x y rises found at is = absurd (cc)
found_at_most {A} number passes (z ∷ rest) x y rises found at is =
    let P : Bool → Type 0 = λ b. passes z ≡ b → cond b (Some z) (find passes rest) ≡ Some x → number x ≤ number y in
    let at_most : P (passes z) = elim (passes z) as P [
      | true ↦ λ e first.
          let same : z ≡ x = cc in
          subst (λ w. number w ≤ number y) same
          (head_at_most (number z) (number y) (map number rest) rises (Contains-from_In (number y) (map-In number y at)))
      | false ↦ λ e first. found_at_most number passes rest x y (tail_rises (number z) (map number rest) rises) first (later_in passes y z rest is e at) is
    ] in at_most refl found

found_is_least : {A : Type 0} (number : A → ℕ) (passes : A → Bool) (some : List A) (x : A) → IsStrictlyIncreasing (map number some) →
    find passes some ≡ Some x → IsLeast (map number (filter passes some)) (number x)
found_is_least {A} number passes some x rises found =
    let there_x = found_in passes x some found in (
      Contains-from_In (number x) (map-In number x (filter-In passes x there_x.0 there_x.1)),
      λ n at.
          let of_one = In-map number n (filter passes some) (In-from_Contains n (map number (filter passes some)) at.0 at.1 at.2) in
          let kept = In-filter passes of_one.0 some of_one.1 in
          subst (λ k. number x ≤ k) of_one.2 (found_at_most number passes some x of_one.0 rises found kept.0 kept.1),
    )

-- ---- what is open

pub least_item : (s : Scenario) (item : ℕ) → IsValidPart s.part → least_open_item s ≡ Some item → IsLeast (open_items s) item
least_item s item valid first =
    first_is_least (open_items s) item (IsStrictlyIncreasing-filter (is_open_item s) (owned_items s.part.executor) valid.items) first

-- the items of arrivals that are open, as the test of one finds them
open_arrivals : (s : Scenario) (arrivals : List Arrival) →
    map (λ (a : Arrival). a.item) (filter (λ (a : Arrival). is_open_item s a.item) arrivals) ≡ filter (is_open_item s) (map (λ (a : Arrival). a.item) arrivals)
open_arrivals s [] = refl
open_arrivals s (a ∷ rest) =
    let P : Bool → Type 0 = λ b.
    map (λ (x : Arrival). x.item) (cond b (a ∷ filter (λ (x : Arrival). is_open_item s x.item) rest) (filter (λ (x : Arrival). is_open_item s x.item) rest))
    ≡ cond b (a.item ∷ filter (is_open_item s) (map (λ (x : Arrival). x.item) rest)) (filter (is_open_item s) (map (λ (x : Arrival). x.item) rest))
    in
    let more = open_arrivals s rest in
    elim (is_open_item s a.item) as P [ true ↦ ap (λ items. a.item ∷ items) more | false ↦ more ]

pub least_arrival : (s : Scenario) (a : Arrival) → IsValidPart s.part → least_open_arrival s ≡ Some a → IsLeast (open_items s) a.item
least_arrival s a valid first = by_executor s.part.executor valid.items first
  where
    by_executor : (executor : Executor) → IsStrictlyIncreasing (owned_items executor) →
        find (λ (x : Arrival). is_open_item s x.item) (executor_arrivals executor) ≡ Some a → IsLeast (filter (is_open_item s) (owned_items executor)) a.item
    by_executor (ArrivalRate pre most arrivals) rises found =
        subst (λ items. IsLeast items a.item) (open_arrivals s arrivals)
        (found_is_least (λ (x : Arrival). x.item) (λ (x : Arrival). is_open_item s x.item) arrivals a rises found)
    by_executor (SharedIterations users items) rises found = absurd (cc)
    by_executor (PerVuIterations slots items) rises found = absurd (cc)
    by_executor (ConstantVus slots) rises found = absurd (cc)
    by_executor (RampingVus grace slots) rises found = absurd (cc)
    by_executor (ExternallyControlled vus most slots) rises found = absurd (cc)

pub least_of_slot : (s : Scenario) (slots : List ℕ) (items : List SlotItem) (slot item : ℕ) → IsValidPart s.part →
    s.part.executor ≡ PerVuIterations slots items → slot_open_item s items slot ≡ Some item → IsLeast (slot_open_items s items slot) item
least_of_slot s slots items slot item valid is found =
    let rises : IsStrictlyIncreasing (map (λ (i : SlotItem). i.item) items) = subst (λ e. IsStrictlyIncreasing (owned_items e)) is valid.items in
    let passes : SlotItem → Bool = λ (i : SlotItem). (i.slot == slot) && is_open_item s i.item in
    let P : Option SlotItem → Type 0 = λ o. find passes items ≡ o → option_map (λ (i : SlotItem). i.item) o ≡ Some item → IsLeast (slot_open_items s items slot) item in
    let least : P (find passes items) = elim (find passes items) as P [
      | None ↦ λ e at. absurd (cc)
      | Some i ↦ λ e at.
          let same : i.item ≡ item = cc in
          subst (λ k. IsLeast (slot_open_items s items slot) k) same (found_is_least (λ (x : SlotItem). x.item) passes items i rises e)
    ] in least refl found

-- ---- how many users

-- parts need one number of users
pub one_greatest : (users : ℕ → ℕ) (a b : ℕ) → IsGreatest users a → IsGreatest users b → a ≡ b
one_greatest users a b is_a is_b =
    let reached_a = is_a.reached in
    let reached_b = is_b.reached in
    let below_a = is_b.at_most is_a.moment in
    let below_b = is_a.at_most is_b.moment in
    omega arith

pub planned_within : (parts : List Part) (planned limit : ℕ) → IsRequirement parts planned limit → planned ≤ limit
planned_within parts planned limit is =
    let t = is.planned_is.moment in
    let reached = is.planned_is.reached in
    let most : need parts t + extra parts t ≤ limit = is.limit_is.at_most t in
    omega arith
