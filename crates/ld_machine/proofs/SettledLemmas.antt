-- What a settled history says of each item and each Start.
use Rattle.std.proofs.Common.{◌≡◌, ◌+◌, ◌∷◌, [], ℕ, zero, suc, Bool, true, false, List, arith, subst}
use Rattle.std.specs.Prelude.{◌==◌, ◌||◌, not, Some, Contains, IsTrue, count_by, slice_get}
use Rattle.std.specs.List.{enumerate_from, list_all}
use Rattle.std.proofs.lemmas.Bool.{and_parts, eqb-true}
use Rattle.std.proofs.lemmas.List.Elements.{All-contains}
use Rattle.std.proofs.lemmas.List.Sums.{AllPass-from_list_all}
use Rattle.ld_base.specs.declared.entry.Entry.{Entry}
use Rattle.ld_machine.specs.Effect.{state_after}
use Rattle.ld_machine.specs.Plan.{Part, Plan, owned_items}
use Rattle.ld_machine.specs.State.{all_closed}
use Rattle.ld_machine.specs.Settled.{IsSettled, all_returned, has_items, has_each_once, items_ended, items_in, nobody_held}

-- the parts of a settled history
record SettledParts (plan : Plan) (history : List Entry) : Type 0 where
  items : list_all (λ (n, part). items_ended history n part) (enumerate_from 0 plan.parts) ≡ true
  returned : all_returned history ≡ true

settled_parts : (plan : Plan) (history : List Entry) → IsSettled plan history → SettledParts plan history
settled_parts plan history settled =
    let front = and_parts _ (nobody_held (state_after plan history)) settled in
    let middle = and_parts _ (all_returned history) front.0 in
    let first = and_parts (all_closed (state_after plan history)) _ middle.0 in
    record { items = first.1; returned = middle.1 }

pub settled_returned : (plan : Plan) (history : List Entry) → IsSettled plan history → IsTrue (all_returned history)
settled_returned plan history settled = (settled_parts plan history settled).returned

-- what passes for each numbered part passes for part n
passes_at : (test : ℕ → Part → Bool) (parts : List Part) (from n : ℕ) (part : Part) →
    list_all (λ (k, p). test k p) (enumerate_from from parts) ≡ true → slice_get parts n ≡ Some part →
    test (from + n) part ≡ true
passes_at test [] from n part all is = cc
passes_at test (p ∷ ps) from zero part all is =
    let head = (and_parts (test from p) _ all).0 in
    let same : p ≡ part = cc in
    subst (λ q. test (from + 0) q ≡ true) same (subst (λ k. test k p ≡ true) (let e : from ≡ from + 0 = omega arith in e) head)
passes_at test (p ∷ ps) from (suc n) part all is =
    let rest = passes_at test ps (from + 1) n part (and_parts (test from p) _ all).1 is in
    subst (λ k. test k part ≡ true) (let e : from + 1 + n ≡ from + suc n = omega arith in e) rest

-- a fact that holds where another does
holds_where : (b c : Bool) → b ≡ true → (not b || c) ≡ true → c ≡ true
holds_where true c is holds = holds
holds_where false c is holds = cc

-- each owned item of a scenario with items stands in a settled history once, and no other
pub settled_each : (plan : Plan) (history : List Entry) (n : ℕ) (part : Part) → IsSettled plan history →
    slice_get plan.parts n ≡ Some part → IsTrue (has_items part.executor) → has_each_once (owned_items part.executor) (items_in n history) ≡ true
settled_each plan history n part settled is items =
    let ended : items_ended history n part ≡ true =
    subst (λ k. items_ended history k part ≡ true) (let e : 0 + n ≡ n = omega arith in e)
    (passes_at (items_ended history) plan.parts 0 n part (settled_parts plan history settled).items is) in
    holds_where (has_items part.executor) _ items ended

pub settled_item : (plan : Plan) (history : List Entry) (n : ℕ) (part : Part) (item : ℕ) → IsSettled plan history →
    slice_get plan.parts n ≡ Some part → IsTrue (has_items part.executor) → Contains (owned_items part.executor) item →
    count_by (λ k. k == item) (items_in n history) ≡ 1
settled_item plan history n part item settled is items owned =
    let once = settled_each plan history n part settled is items in
    let each = (and_parts (list_all (λ k. count_by (λ i. i == k) (items_in n history) == 1) (owned_items part.executor)) _ once).0 in
    let passes = AllPass-from_list_all (λ k. count_by (λ i. i == k) (items_in n history) == 1) (owned_items part.executor) each in
    eqb-true _ 1 (All-contains (λ k. (count_by (λ i. i == k) (items_in n history) == 1) ≡ true) (owned_items part.executor) item passes owned)
