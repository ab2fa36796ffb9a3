-- Which items are open where one more has ended.
use Rattle.std.proofs.Common.{◌≡◌, ◌==◌, ◌&&◌, ◌||◌, ℕ, Bool, true, false, cond, not, List, [], ◌∷◌, ◌++◌, Some, filter, refl, arith}
use Rattle.std.specs.List.{list_any}
use Rattle.std.proofs.lemmas.Grind.{common_steps}
use Rattle.std.proofs.lemmas.List.Folds.{list_any-append}
use Rattle.ld_machine.specs.Plan.{owned_items}
use Rattle.ld_machine.specs.Scenario.{Scenario, least_open_item, open_items}
use Rattle.ld_machine.specs.Effect.{end_item}
use Rattle.ld_machine.proofs.ItemLemmas.{least_fresh}
use Rattle.ld_machine.proofs.ListLemmas.{any-from_In, number_itself}
use Rattle.ld_set.specs.SetView.{without_number}

-- a number isn't among the ended ones where it wasn't before, and isn't the one that ended
pub item_ended : (ended : List ℕ) (item k : ℕ) →
    not (list_any (λ x. x == k) (ended ++ item ∷ [])) ≡ (not (list_any (λ x. x == k) ended) && not (item == k))
item_ended ended item k =
    let P : Bool → Bool → Type 0 = λ b c. not (b || (c || false)) ≡ (not b && not c) in
    let at : P (list_any (λ x. x == k) ended) (item == k) = grind (arith, common_steps) in
    rw (list_any-append (λ x. x == k) ended (item ∷ [])) at

-- those that are still open are the others
open_without : (ended : List ℕ) (item : ℕ) (items : List ℕ) →
    filter (λ k. not (list_any (λ x. x == k) (ended ++ item ∷ []))) items ≡ without_number item (filter (λ k. not (list_any (λ x. x == k) ended)) items)
open_without ended item [] = refl
open_without ended item (k ∷ rest) =
    let later = open_without ended item rest in
    let opens = list_any (λ x. x == k) ended in
    let left = filter (λ j. not (list_any (λ x. x == j) ended)) rest in
    let P : Bool → Bool → Type 0 = λ b c. cond (b && not c) (k ∷ without_number item left) (without_number item left) ≡ without_number item (cond b (k ∷ left) left) in
    let same : (item == k) ≡ (k == item) = grind (arith, common_steps) in
    let by : (b : Bool) → P b (item == k) = λ b. elim b as (λ c. P c (item == k)) [ true ↦ rw same refl | false ↦ refl ] in
    rw (item_ended ended item k, later) (by (not opens))

-- behind the end of the least open item the others are open
pub least_ended : (s : Scenario) (item : ℕ) → least_open_item s ≡ Some item →
    open_items (record s { share = end_item s.part item s.share }) ≡ without_number item (open_items s)
least_ended s item least =
    let fresh = least_fresh s item least in
    let owned : list_any (λ k. k == item) (owned_items s.part.executor) ≡ true = any-from_In (λ k. k == item) item fresh.owned (number_itself item) in
    rw owned (open_without s.share.ended item (owned_items s.part.executor))
