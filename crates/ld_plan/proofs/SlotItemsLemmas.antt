-- The items of some slots, each of which has n of them, are the numbers whose n-th part is one of the slots.
use Rattle.std.proofs.Common.{◌≡◌, ◌≤◌, ◌+◌, ◌*◌, ◌/◌, ◌==◌, ◌∙◌, ℕ, zero, suc, Bool, true, false, List, [], ◌∷◌, ◌++◌, cond, length, length-append, map, filter, arith, ap, ap₂, refl, sym, subst, zero-mul}
use Rattle.std.specs.List.{range_with_len}
use Rattle.std.proofs.lemmas.List.{map-append}
use Rattle.std.proofs.lemmas.List.Concat.{flat_map-cons}
use Rattle.std.proofs.lemmas.List.Elements.{filter-append}
use Rattle.std.proofs.lemmas.List.FromFn.{length-range_with_len}
use Rattle.std.proofs.lemmas.Nat.{div-mul-add}
use Rattle.std.proofs.Math.Nat.{suc-mul}
use Rattle.ld_machine.specs.Plan.{SlotItem}
use Rattle.ld_machine.specs.SlotItems.{items_of_slot, items_of_slots}

-- numbers in a row, in two parts
range_parts : (a m n : ℕ) → range_with_len a (m + n) ≡ range_with_len a m ++ range_with_len (a + m) n
range_parts a zero n =
    let start : a ≡ a + 0 = omega arith in
    let none : 0 + n ≡ n = omega arith in
    ap₂ (λ x k. range_with_len x k) start none
range_parts a (suc m) n =
    let long : suc m + n ≡ suc (m + n) = omega arith in
    let start : a + 1 + m ≡ a + suc m = omega arith in
    ap (range_with_len a) long
    ∙ ap (λ ks. a ∷ ks) (range_parts (a + 1) m n ∙ ap (λ k. range_with_len (a + 1) m ++ range_with_len k n) start)

-- the items of one slot are numbers in a row
row : (c b slot n : ℕ) →
    map (λ (i : SlotItem). i.item) (map (λ i. record { item = c + i; slot = slot }) (range_with_len b n)) ≡ range_with_len (c + b) n
row c b slot zero = refl
row c b slot (suc n) =
    let next : c + (b + 1) ≡ c + b + 1 = omega arith in
    ap (λ ks. (c + b) ∷ ks) (row c (b + 1) slot n ∙ ap (λ k. range_with_len k n) next)

of_slot : (n slot : ℕ) → map (λ (i : SlotItem). i.item) (items_of_slot n slot) ≡ range_with_len (slot * n) n
of_slot n slot =
    let start : slot * n + 0 ≡ slot * n = omega arith in
    row (slot * n) 0 slot n ∙ ap (λ k. range_with_len k n) start

-- all of a list, or nothing
same : (b : Bool) (xs : List ℕ) → xs ≡ cond b xs xs
same true xs = refl
same false xs = refl

one_more : (b : Bool) (x : ℕ) (xs : List ℕ) → cond b (x ∷ cond b xs []) (cond b xs []) ≡ cond b (x ∷ xs) []
one_more true x xs = refl
one_more false x xs = refl

-- of numbers whose n-th part is a, a test of that part keeps all or nothing
of_one_slot : (p : ℕ → Bool) (n a k m : ℕ) → k + m ≤ n →
    filter (λ x. p (x / n)) (range_with_len (a * n + k) m) ≡ cond (p a) (range_with_len (a * n + k) m) []
of_one_slot p n a k zero within = same (p a) []
of_one_slot p n a k (suc m) within =
    let x = a * n + k in
    let test = λ (y : ℕ). p (y / n) in
    let next : a * n + (k + 1) ≡ a * n + k + 1 = omega arith in
    let rest : filter test (range_with_len (x + 1) m) ≡ cond (p a) (range_with_len (x + 1) m) [] =
    subst (λ y. filter test (range_with_len y m) ≡ cond (p a) (range_with_len y m) []) next (of_one_slot p n a (k + 1) m (omega arith)) in
    let part : x / n ≡ a = div-mul-add a n k (omega arith) in
    ap (λ b. cond b (x ∷ filter test (range_with_len (x + 1) m)) (filter test (range_with_len (x + 1) m))) (ap p part)
    ∙ ap (λ ks. cond (p a) (x ∷ ks) ks) rest
    ∙ one_more (p a) x (range_with_len (x + 1) m)

-- those of one slot more, where it passes
with_slot : (b : Bool) (n a : ℕ) (slots : List ℕ) →
    map (λ (i : SlotItem). i.item) (items_of_slots n (cond b (a ∷ slots) slots))
    ≡ cond b (range_with_len (a * n) n) [] ++ map (λ (i : SlotItem). i.item) (items_of_slots n slots)
with_slot true n a slots =
    let item = λ (i : SlotItem). i.item in
    ap (map item) (flat_map-cons (items_of_slot n) a slots)
    ∙ map-append item (items_of_slot n a) (items_of_slots n slots)
    ∙ ap (λ xs. xs ++ map item (items_of_slots n slots)) (of_slot n a)
with_slot false n a slots = refl

-- those of the slots from a on that pass
items_of_slots_from : (p : ℕ → Bool) (n a v : ℕ) →
    map (λ (i : SlotItem). i.item) (items_of_slots n (filter p (range_with_len a v)))
    ≡ filter (λ x. p (x / n)) (range_with_len (a * n) (v * n))
items_of_slots_from p n a zero = ap (λ k. filter (λ x. p (x / n)) (range_with_len (a * n) k)) (sym (zero-mul n))
items_of_slots_from p n a (suc v) =
    let item = λ (i : SlotItem). i.item in
    let test = λ (x : ℕ). p (x / n) in
    let own = range_with_len (a * n) n in
    let behind = filter p (range_with_len (a + 1) v) in
    let start : a * n + 0 ≡ a * n = omega arith in
    let next : (a + 1) * n ≡ a * n + n = grind arith in
    let long : n + v * n ≡ suc v * n = grind arith in
    let rest : map item (items_of_slots n behind) ≡ filter test (range_with_len (a * n + n) (v * n)) =
    items_of_slots_from p n (a + 1) v ∙ ap (λ k. filter test (range_with_len k (v * n))) next in
    let first : filter test own ≡ cond (p a) own [] =
    subst (λ x. filter test (range_with_len x n) ≡ cond (p a) (range_with_len x n) []) start (of_one_slot p n a 0 n (omega arith)) in
    with_slot (p a) n a behind
    ∙ ap₂ (λ xs ys. xs ++ ys) (sym first) rest
    ∙ sym (filter-append test own (range_with_len (a * n + n) (v * n)))
    ∙ ap (filter test) (sym (range_parts (a * n) n (v * n)) ∙ ap (range_with_len (a * n)) long)

-- those of the first v slots that are j's
pub items_of_owned_slots : (owner : ℕ → ℕ) (j n v : ℕ) →
    map (λ (i : SlotItem). i.item) (items_of_slots n (filter (λ x. owner x == j) (range_with_len 0 v)))
    ≡ filter (λ x. owner (x / n) == j) (range_with_len 0 (v * n))
items_of_owned_slots owner j n v =
    items_of_slots_from (λ x. owner x == j) n 0 v
    ∙ ap (λ k. filter (λ x. owner (x / n) == j) (range_with_len k (v * n))) (zero-mul n)

-- so many slots have n times as many items
pub items_of_slots_length : (n : ℕ) (slots : List ℕ) → length (map (λ (i : SlotItem). i.item) (items_of_slots n slots)) ≡ length slots * n
items_of_slots_length n [] = sym (zero-mul n)
items_of_slots_length n (slot ∷ slots) =
    let rest = items_of_slots_length n slots in
    let both = ap length (with_slot true n slot slots) ∙ length-append (range_with_len (slot * n) n) (map (λ (i : SlotItem). i.item) (items_of_slots n slots)) in
    let own = length-range_with_len (slot * n) n in
    let more : suc (length slots) * n ≡ length slots * n + n = suc-mul (length slots) n in
    omega arith
