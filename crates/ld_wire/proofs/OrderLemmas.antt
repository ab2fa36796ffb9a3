-- The order in which headers are sent: there is one, and a stable sort by names makes it.
use Rattle.std.proofs.Common.{◌≡◌, ◌<◌, ◌≤◌, ◌∙◌, ◌∷◌, [], ℕ, suc, Bool, true, false, cond, List, Bor, length, get_or, map, filter, is_lt, nat_cmp, arith, ap, refl, sym, subst, inl, inr}
use Rattle.std.proofs.lemmas.Bool.{cases_Bool, cond-false, cond-true}
use Rattle.std.proofs.lemmas.Cmp.{nat_list_cmp_total}
use Rattle.std.proofs.lemmas.List.Sorted.{IsPermutation-cons, IsPermutation-middle, IsPermutation-refl, IsPermutation-trans, ranks_by, sorted_far}
use Rattle.std.proofs.lemmas.Map.Text.{is_eq-slice_cmp}
use Rattle.std.proofs.lemmas.Slice.Eq.{bytes_eq-Decides}
use Rattle.std.specs.Cmp.{IsStrictWeakOrder}
use Rattle.std.specs.Cmp.Lexicographic.{slice_cmp}
use Rattle.std.specs.List.{AllByRecursion}
use Rattle.std.specs.List.Sorted.{IsPermutation, IsSortedBy, IsStableBy, ties}
use Rattle.std.specs.Ordering.{is_eq, ordering_reverse}
use Rattle.std.specs.Prelude.{◌&&◌, not, bytes_eq}
use Rattle.std.specs.declared.cmp.Ordering.{Ordering}
use Rattle.std.specs.declared.cmp.Ordering.TheVariants.{Less, Equal, Greater}
use Rattle.ld_wire.specs.Order.{AreInOrder, Header, NamesRise, in_order, is_below, is_named, placed}

-- ---- names

-- byte order
names_order : IsStrictWeakOrder is_below
names_order = ranks_by nat_list_cmp_total (λ (name : List ℕ). name)

reversed : (r : Ordering) → is_eq (ordering_reverse r) ≡ (not (is_lt (ordering_reverse r)) && not (is_lt r))
reversed Less = refl
reversed Equal = refl
reversed Greater = refl

-- names are equal where neither is below the other
equal_ties : (name other : List ℕ) → bytes_eq name other ≡ ties is_below name other
equal_ties name other =
    let turned = nat_list_cmp_total.antisymm name other in
    sym (is_eq-slice_cmp name other)
    ∙ ap is_eq turned
    ∙ reversed (slice_cmp nat_cmp other name)
    ∙ ap (λ r. not (is_lt r) && not (is_below other name)) (sym turned)

named : (name : List ℕ) (h : Header) → is_named name h ≡ true → name ≡ h.0
named name h is = (bytes_eq-Decides name h.0).0 is

itself_named : (h : Header) → is_named h.0 h ≡ true
itself_named h = (bytes_eq-Decides h.0 h.0).1 refl

not_below_itself : (name other : List ℕ) → is_below name other ≡ true → name ≡ other → ⊥
not_below_itself name other below same =
    let alone : is_below other other ≡ true = subst (λ n. is_below n other ≡ true) same below in
    let back : is_below other other ≡ false = names_order.one_way other other alone in cc

-- ---- what is kept of a list

kept : (p : Header → Bool) (h : Header) (hs : List Header) → p h ≡ true → filter p (h ∷ hs) ≡ h ∷ filter p hs
kept p h hs is = cond-true _ _ _ is

dropped : (p : Header → Bool) (h : Header) (hs : List Header) → p h ≡ false → filter p (h ∷ hs) ≡ filter p hs
dropped p h hs is = cond-false _ _ _ is

-- ---- one header more

abbrev NotBelow : Header → Header → Type 0
NotBelow h g = is_below g.0 h.0 ≡ false

placed_front : (h first : Header) (hs : List Header) → is_below first.0 h.0 ≡ false → placed h (first ∷ hs) ≡ h ∷ first ∷ hs
placed_front h first hs is = cond-false _ _ _ is

placed_behind : (h first : Header) (hs : List Header) → is_below first.0 h.0 ≡ true → placed h (first ∷ hs) ≡ first ∷ placed h hs
placed_behind h first hs is = cond-true _ _ _ is

each_placed : (g h : Header) (hs : List Header) → NotBelow g h → AllByRecursion (NotBelow g) hs → AllByRecursion (NotBelow g) (placed h hs)
each_placed g h [] one each = (one, tt)
each_placed g h (first ∷ hs) one each =
    elim (cases_Bool (is_below first.0 h.0)) [
      | inl below ↦ subst (AllByRecursion (NotBelow g)) (sym (placed_behind h first hs below)) (each.0, each_placed g h hs one each.1)
      | inr other ↦ subst (AllByRecursion (NotBelow g)) (sym (placed_front h first hs other)) (one, each)
    ]

each_lower : (h first : Header) (hs : List Header) → NotBelow h first → AllByRecursion (NotBelow first) hs → AllByRecursion (NotBelow h) hs
each_lower h first [] one each = tt
each_lower h first (g ∷ hs) one each = (names_order.chain g.0 first.0 h.0 each.0 one, each_lower h first hs one each.1)

placed_rise : (h : Header) (hs : List Header) → NamesRise hs → NamesRise (placed h hs)
placed_rise h [] rise = (tt, tt)
placed_rise h (first ∷ hs) rise =
    elim (cases_Bool (is_below first.0 h.0)) [
      | inl below ↦
          subst NamesRise (sym (placed_behind h first hs below))
          (each_placed first h hs (names_order.one_way first.0 h.0 below) rise.0, placed_rise h hs rise.1)
      | inr other ↦
          subst NamesRise (sym (placed_front h first hs other)) ((other, each_lower h first hs other rise.0), rise)
    ]

placed_all : (h : Header) (hs : List Header) → IsPermutation (h ∷ hs) (placed h hs)
placed_all h [] = IsPermutation-refl (h ∷ [])
placed_all h (first ∷ hs) =
    elim (cases_Bool (is_below first.0 h.0)) [
      | inl below ↦
          subst (IsPermutation (h ∷ first ∷ hs)) (sym (placed_behind h first hs below))
          (IsPermutation-trans _ _ _ (IsPermutation-middle (h ∷ []) first hs) (IsPermutation-cons first _ _ (placed_all h hs)))
      | inr other ↦ subst (IsPermutation (h ∷ first ∷ hs)) (sym (placed_front h first hs other)) (IsPermutation-refl (h ∷ first ∷ hs))
    ]

placed_alike : (name : List ℕ) (h : Header) (hs : List Header) → filter (is_named name) (placed h hs) ≡ filter (is_named name) (h ∷ hs)
placed_alike name h [] = refl
placed_alike name h (first ∷ hs) =
    let p : Header → Bool = is_named name in
    elim (cases_Bool (is_below first.0 h.0)) [
      | inr other ↦ ap (filter p) (placed_front h first hs other)
      | inl below ↦
          ap (filter p) (placed_behind h first hs below)
          ∙ elim (cases_Bool (p first)) [
            | inr without ↦
                dropped p first (placed h hs) without ∙ placed_alike name h hs
                ∙ ap (λ l. cond (p h) (h ∷ l) l) (sym (dropped p first hs without))
            | inl with ↦
                elim (cases_Bool (p h)) [
                  | inl both ↦ absurd (not_below_itself first.0 h.0 below (sym (named name first with) ∙ named name h both))
                  | inr only ↦
                      kept p first (placed h hs) with ∙ ap (λ l. first ∷ l) (placed_alike name h hs ∙ dropped p h hs only)
                      ∙ sym (dropped p h (first ∷ hs) only ∙ kept p first hs with)
                ]
          ]
    ]

-- ---- all headers

rises : (hs : List Header) → NamesRise (in_order hs)
rises [] = tt
rises (h ∷ hs) = placed_rise h (in_order hs) (rises hs)

pub has_all : (hs : List Header) → IsPermutation hs (in_order hs)
has_all [] = IsPermutation-refl []
has_all (h ∷ hs) = IsPermutation-trans _ _ _ (IsPermutation-cons h _ _ (has_all hs)) (placed_all h (in_order hs))

keeps_alike : (name : List ℕ) (hs : List Header) → filter (is_named name) (in_order hs) ≡ filter (is_named name) hs
keeps_alike name [] = refl
keeps_alike name (h ∷ hs) =
    placed_alike name h (in_order hs) ∙ ap (λ l. cond (is_named name h) (h ∷ l) l) (keeps_alike name hs)

pub order_is : (listed : List Header) → AreInOrder listed (in_order listed)
order_is listed = record { all = has_all listed; names = rises listed; alike = λ name. keeps_alike name listed }

-- ---- there is one order

-- a name that occurs behind a header isn't below its name
found_above : (h : Header) (name : List ℕ) (hs : List Header) (w : Header) (ws : List Header) → AllByRecursion (NotBelow h) hs →
    filter (is_named name) hs ≡ w ∷ ws → is_below name h.0 ≡ false
found_above h name [] w ws each found = cc
found_above h name (g ∷ hs) w ws each found =
    elim (cases_Bool (is_named name g)) [
      | inl with ↦ subst (λ n. is_below n h.0 ≡ false) (sym (named name g with)) each.0
      | inr without ↦ found_above h name hs w ws each.1 (sym (dropped (is_named name) g hs without) ∙ found)
    ]

-- a name that occurs in a list isn't below that of the first
found_in : (h : Header) (name : List ℕ) (hs : List Header) (w : Header) (ws : List Header) → NamesRise (h ∷ hs) →
    filter (is_named name) (h ∷ hs) ≡ w ∷ ws → is_below name h.0 ≡ false
found_in h name hs w ws rise found =
    elim (cases_Bool (is_named name h)) [
      | inl with ↦
          elim (cases_Bool (is_below name h.0)) [
            | inl below ↦ absurd (not_below_itself name h.0 below (named name h with))
            | inr other ↦ other
          ]
      | inr without ↦ found_above h name hs w ws rise.0 (sym (dropped (is_named name) h hs without) ∙ found)
    ]

same_first : (g h : Header) (gs hs : List Header) → NamesRise (g ∷ gs) → NamesRise (h ∷ hs) →
    ((name : List ℕ) → filter (is_named name) (g ∷ gs) ≡ filter (is_named name) (h ∷ hs)) → is_named g.0 h ≡ true
same_first g h gs hs left right same =
    let at_g = kept (is_named g.0) g gs (itself_named g) in
    let at_h = kept (is_named h.0) h hs (itself_named h) in
    let up = found_in h g.0 hs g (filter (is_named g.0) gs) right (sym (same g.0) ∙ at_g) in
    let down = found_in g h.0 gs h (filter (is_named h.0) hs) left (same h.0 ∙ at_h) in
    equal_ties g.0 h.0 ∙ ap (λ b. not b && not (is_below h.0 g.0)) up ∙ ap (λ b. not false && not b) down

one_order : (gs hs : List Header) → NamesRise gs → NamesRise hs → ((name : List ℕ) → filter (is_named name) gs ≡ filter (is_named name) hs) → gs ≡ hs
one_order [] [] left right same = refl
one_order [] (h ∷ hs) left right same =
    let clash = same h.0 ∙ kept (is_named h.0) h hs (itself_named h) in cc
one_order (g ∷ gs) [] left right same =
    let clash = sym (same g.0) ∙ kept (is_named g.0) g gs (itself_named g) in cc
one_order (g ∷ gs) (h ∷ hs) left right same =
    let first = same_first g h gs hs left right same in
    let heads = sym (kept (is_named g.0) g gs (itself_named g)) ∙ same g.0 ∙ kept (is_named g.0) h hs first in
    let head : g ≡ h = cc in
    let tails : (name : List ℕ) → filter (is_named name) gs ≡ filter (is_named name) hs =
    λ name. elim (cases_Bool (is_named name g)) [
      | inl with ↦
          let both = sym (kept (is_named name) g gs with) ∙ same name ∙ kept (is_named name) h hs (ap (is_named name) (sym head) ∙ with) in cc
      | inr without ↦
          sym (dropped (is_named name) g gs without) ∙ same name ∙ dropped (is_named name) h hs (ap (is_named name) (sym head) ∙ without)
    ] in
    ap (λ w. w ∷ gs) head ∙ ap (λ l. h ∷ l) (one_order gs hs left.1 right.1 tails)

pub order_one : (listed sent : List Header) → AreInOrder listed sent → sent ≡ in_order listed
order_one listed sent are =
    one_order sent (in_order listed) are.names (rises listed) (λ name. are.alike name ∙ sym (keeps_alike name listed))

-- ---- a stable sort of references

abbrev pub Lent : Type 0
Lent = Bor Header

-- one that is lent has a name below that of another
abbrev pub lent_below : Lent → Lent → Bool
lent_below x y = is_below x.now.0 y.now.0

pub lent_order : IsStrictWeakOrder lent_below
lent_order = ranks_by nat_list_cmp_total (λ (x : Lent). x.now.0)

abbrev pub lent_now : Lent → Header
lent_now x = x.now

each_far : (x : Lent) (xs : List Lent) → ((k : ℕ) → k < length xs → lent_below (get_or xs k x) x ≡ false) →
    AllByRecursion (NotBelow x.now) (map lent_now xs)
each_far x [] far = tt
each_far x (y ∷ xs) far = (far 0 (omega arith), each_far x xs (λ k below. far (suc k) (omega arith)))

sorted_rise : (xs : List Lent) → ((i j : ℕ) (d : Lent) → i ≤ j → j < length xs → lent_below (get_or xs j d) (get_or xs i d) ≡ false) →
    NamesRise (map lent_now xs)
sorted_rise [] far = tt
sorted_rise (x ∷ xs) far = (
  each_far x xs (λ k below. far 0 (suc k) x (omega arith) (omega arith)),
  sorted_rise xs (λ i j d le below. far (suc i) (suc j) d (omega arith) (omega arith)),
)

-- what is kept of what is lent
lent_kept : (name : List ℕ) (x : Lent) → x.now.0 ≡ name → (xs : List Lent) →
    map lent_now (filter (ties lent_below x) xs) ≡ filter (is_named name) (map lent_now xs)
lent_kept name x is [] = refl
lent_kept name x is (y ∷ xs) =
    let same : ties lent_below x y ≡ is_named name y.now = ap (λ n. ties is_below n y.now.0) is ∙ sym (equal_ties name y.now.0) in
    elim (cases_Bool (is_named name y.now)) [
      | inl with ↦
          ap (map lent_now) (cond-true _ _ _ (same ∙ with)) ∙ ap (λ l. y.now ∷ l) (lent_kept name x is xs)
          ∙ sym (kept (is_named name) y.now (map lent_now xs) with)
      | inr without ↦
          ap (map lent_now) (cond-false _ _ _ (same ∙ without)) ∙ lent_kept name x is xs
          ∙ sym (dropped (is_named name) y.now (map lent_now xs) without)
    ]

-- an element of that name
abbrev of_name : List ℕ → Lent
of_name name = record { ref_ptr = (0, 0); now = (name, []) }

pub order_sorted : (xs ys : List Lent) → IsSortedBy lent_below ys → IsStableBy lent_below xs ys → map lent_now ys ≡ in_order (map lent_now xs)
order_sorted xs ys sorted stable =
    one_order (map lent_now ys) (in_order (map lent_now xs)) (sorted_rise ys (sorted_far lent_below lent_order ys sorted)) (rises (map lent_now xs))
    (λ name.
    let x = of_name name in
    sym (lent_kept name x refl ys) ∙ ap (map lent_now) (stable x) ∙ lent_kept name x refl xs ∙ sym (keeps_alike name (map lent_now xs)))

-- the lines of what is lent
pub lent_lines : (f : Header → List ℕ) (xs : List Lent) → map (λ (x : Lent). f x.now) xs ≡ map f (map lent_now xs)
lent_lines f [] = refl
lent_lines f (x ∷ xs) = ap (λ ls. f x.now ∷ ls) (lent_lines f xs)
