-- What slots have left to start, and what is left behind an item that ends.
use Rattle.std.proofs.Common.{◌≡◌, ◌≢◌, ◌≤◌, ◌<◌, ◌+◌, ◌-◌, ◌*◌, ◌==◌, ◌&&◌, ◌||◌, ◌∙◌, if◌then◌else◌, ℕ, zero, suc, Bool, true, false, cond, not, nat_le, nat_lt, List, [], ◌∷◌, ◌++◌, Option, None, Some, find, map, filter, slice_get, slice_set, arith, refl, sym, ap, subst, inl, inr}
use Rattle.std.specs.Prelude.{option_map, is_some}
use Rattle.std.specs.List.{list_any, range_with_len}
use Rattle.std.specs.List.Sorted.{IsStrictlyIncreasing}
use Rattle.std.specs.Option.{option_and_then}
use Rattle.std.proofs.lemmas.Bool.{cases_eq, ne_eqb}
use Rattle.std.proofs.lemmas.Grind.{common_steps}
use Rattle.std.proofs.lemmas.List.Folds.{list_any-append}
use Rattle.ld_machine.specs.Plan.{Executor, SharedIterations, PerVuIterations, ConstantVus, RampingVus, ArrivalRate, ExternallyControlled, Part, SlotItem, owned_items, owned_slots}
use Rattle.ld_machine.specs.Scenario.{Scenario, first_of, is_open_item, slot_open_item, slot_has_open_item, where_holds}
use Rattle.ld_machine.specs.SlotItems.{items_of_slot, items_of_slots}
use Rattle.ld_machine.specs.State.{Share}
use Rattle.ld_machine.specs.Effect.{end_item}
use Rattle.ld_machine.specs.Told.{executor_next_item}
use Rattle.ld_machine.proofs.ListLemmas.{In, here, there, number_itself, any-from_In, map-In, In-filter, Contains-from_In}
use Rattle.ld_machine.proofs.WaitLemmas.{flat_map-In}
use Rattle.ld_seats.proofs.NumbersLemmas.{put_elsewhere}
use Rattle.ld_iters.specs.SlotsShows.{IsRest, IsWork, executor_goes_on}
use Rattle.ld_iters.specs.Work.{IsPassed, least_left, next_item}
use Rattle.ld_iters.specs.declared.work.Work.{Work}
use Rattle.ld_iters.specs.declared.work.Work.TheVariants.{Counted, Endless}
use Rattle.ld_iters.proofs.SlotItemsLemmas.{first_found, first_number, items_apart, slot_next}

-- ---- a list with one element changed

pub put_here : (xs : List ℕ) (i v x : ℕ) → slice_get xs i ≡ Some x → slice_get (slice_set xs i v) i ≡ Some v
put_here [] i v x e = absurd (cc)
put_here (y ∷ ys) zero v x e = refl
put_here (y ∷ ys) (suc i) v x e = put_here ys i v x e

-- ---- the open items of a slot behind an item that ends

-- the items that have ended, where this one ends if it is one of the executor's
abbrev pub ended_with : Executor → ℕ → List ℕ → List ℕ
ended_with e item ended = if list_any (λ k. k == item) (owned_items e) then ended ++ item ∷ [] else ended

pub end_is : (part : Part) (item : ℕ) (share : Share) → end_item part item share ≡ record share { ended = ended_with part.executor item share.ended }
end_is part item share =
    let P : Bool → Type 0 = λ b. ◌≡◌ {A = Share} (cond b (record share { ended = share.ended ++ item ∷ [] }) share)
    (record share { ended = cond b (share.ended ++ item ∷ []) share.ended }) in
    elim (list_any (λ k. k == item) (owned_items part.executor)) as P [ true ↦ refl | false ↦ refl ]

module _ (s after : Scenario) (n : ℕ) where
  -- the same items are open
  rest_same : after.share.ended ≡ s.share.ended → (slot next : ℕ) → IsRest s n slot next → IsRest after n slot next
  rest_same same slot next rest =
      record {
        least = rest.least;
        most = rest.most;
        rest = λ item low below. ap (λ ended. not (list_any (λ k. k == item) ended)) same ∙ rest.rest item low below;
      }

  module _ (item : ℕ) (ended : after.share.ended ≡ s.share.ended ++ item ∷ []) where
    open_behind : (k : ℕ) → is_open_item after k ≡ (is_open_item s k && not (item == k))
    open_behind k =
        ap (λ all. not (list_any (λ j. j == k) all)) ended
        ∙ ap not (list_any-append (λ j. j == k) s.share.ended (item ∷ []))
        ∙ both (list_any (λ j. j == k) s.share.ended) (item == k)
      where
        both : (a b : Bool) → not (a || (b || false)) ≡ (not a && not b)
        both true b = refl
        both false true = refl
        both false false = refl

    rest_own : (slot : ℕ) → IsRest s n slot item → item < slot * n + n → IsRest after n slot (item + 1)
    rest_own slot rest more =
        let first = rest.least in
        record {
          least = omega arith;
          most = omega arith;
          rest = λ k low below. open_behind k ∙ ap (λ b. b && not (item == k)) (rest.rest k low below) ∙ above k;
        }
      where
        above : (k : ℕ) → (nat_le item k && not (item == k)) ≡ nat_le (item + 1) k
        above k = grind (arith, common_steps)

    rest_other : (slot x next : ℕ) → IsRest s n slot item → item < slot * n + n → x ≢ slot → IsRest s n x next → IsRest after n x next
    rest_other slot x next own more other rest =
        record {
          least = rest.least;
          most = rest.most;
          rest = λ k low below.
              let apart : (item == k) ≡ false = ne_eqb item k (λ e. items_apart n x slot k other low below (subst (λ j. slot * n ≤ j) e own.least) (subst (λ j. j < slot * n + n) e more)) in
              open_behind k ∙ ap (λ b. is_open_item s k && not b) apart ∙ all (is_open_item s k) ∙ rest.rest k low below;
        }
      where
        all : (b : Bool) → (b && not false) ≡ b
        all true = refl
        all false = refl

-- ---- which slots go on

some_where : (b : Bool) (x : ℕ) → is_some (where_holds b (Some x)) ≡ b
some_where true x = refl
some_where false x = refl

pub goes_is : (s : Scenario) (n : ℕ) (slots : List ℕ) (items : List SlotItem) → items ≡ items_of_slots n slots → IsStrictlyIncreasing slots →
    (slot next : ℕ) → In slot slots → IsRest s n slot next → slot_has_open_item s items slot ≡ nat_lt next (slot * n + n)
goes_is s n slots items same rises slot next at rest =
    ap (λ all. is_some (slot_open_item s all slot)) same ∙ ap is_some (slot_next s n slot next slots rises at rest) ∙ some_where (nat_lt next (slot * n + n)) next

-- the item that a slot starts next is its next one, and within its items
next_is : (s : Scenario) (n : ℕ) (slots : List ℕ) (items : List SlotItem) → items ≡ items_of_slots n slots → IsStrictlyIncreasing slots →
    (slot next item : ℕ) → In slot slots → IsRest s n slot next → slot_open_item s items slot ≡ Some item → (next ≡ item) × (next < slot * n + n)
next_is s n slots items same rises slot next item at rest some =
    let P : Bool → Type 0 = λ b. nat_lt next (slot * n + n) ≡ b → where_holds b (Some next) ≡ Some item → (next ≡ item) × (next < slot * n + n) in
    let by : P (nat_lt next (slot * n + n)) = elim (nat_lt next (slot * n + n)) as P [
      | true ↦ λ e is. (cc, grind (arith, common_steps))
      | false ↦ λ e is. absurd (cc)
    ] in by refl (sym (slot_next s n slot next slots rises at rest) ∙ ap (λ all. slot_open_item s all slot) (sym same) ∙ some)

in_range : (k n a : ℕ) → a ≤ k → k < a + n → In k (range_with_len a n)
in_range k zero a low below = absurd (omega arith)
in_range k (suc n) a low below =
    elim (cases_eq a k) [
      | inl same ↦ subst (λ j. In k (j ∷ range_with_len (a + 1) n)) (sym same) here
      | inr other ↦ there (in_range k n (a + 1) (omega arith) (omega arith))
    ]

-- an item of a slot is among the items of its slots
item_owned : (n slot item : ℕ) (slots : List ℕ) → In slot slots → slot * n ≤ item → item < slot * n + n →
    list_any (λ k. k == item) (map (λ (i : SlotItem). i.item) (items_of_slots n slots)) ≡ true
item_owned n slot item slots at low below =
    let i : ℕ = item - slot * n in
    let one : SlotItem = record { item = slot * n + i; slot = slot } in
    let among = flat_map-In (items_of_slot n) slot one at (map-In (λ k. record { item = slot * n + k; slot = slot }) i (in_range i n 0 (omega arith) (omega arith))) in
    let is : slot * n + i ≡ item = omega arith in
    any-from_In (λ k. k == item) (slot * n + i) (map-In (λ (x : SlotItem). x.item) one among) (rw is (number_itself item))

-- ---- the work behind an item that is passed over

pub record Passed (e : Executor) (s after : Scenario) (new : Work) (slot : ℕ) (last : Bool) : Type 0 where
  pub work : IsWork e after new
  pub others : (x : ℕ) → In x (owned_slots e) → x ≢ slot → executor_goes_on e after x ≡ executor_goes_on e s x
  pub own : executor_goes_on e after slot ≡ not last

pub passed : (e : Executor) (s after : Scenario) (old new : Work) (slot item : ℕ) (last : Bool) → IsStrictlyIncreasing (owned_slots e) →
    In slot (owned_slots e) → IsWork e s old → executor_next_item e s slot ≡ Some item → IsPassed slot old new last →
    after.share.ended ≡ ended_with e item s.share.ended → Passed e s after new slot last
passed (PerVuIterations slots items) s after (Counted left) new slot item last rises at work next is ended =
    let n = left.each in
    let own = work.1 slot (Contains-from_In slot at) in
    let found = next_is s n slots items work.0 rises slot own.0 item at own.2 next in
    let rest : IsRest s n slot item = subst (IsRest s n slot) found.0 own.2 in
    let more : item < slot * n + n = omega (arith, found.0, found.1) in
    let owned : list_any (λ k. k == item) (map (λ (i : SlotItem). i.item) items) ≡ true =
    ap (λ all. list_any (λ k. k == item) (map (λ (i : SlotItem). i.item) all)) work.0 ∙ item_owned n slot item slots at rest.least more in
    let behind : after.share.ended ≡ s.share.ended ++ item ∷ [] = ended ∙ ap (λ b. cond b (s.share.ended ++ item ∷ []) s.share.ended) owned in
    let here : slice_get left.next slot ≡ Some item = own.1 ∙ ap Some found.0 in
    let new_is = is item here more in
    let later = rest_own s after n item behind slot rest more in
    record {
      work = subst (λ w. IsWork (PerVuIterations slots items) after w) (sym new_is.0) (
        work.0,
        λ x contains.
            elim (cases_eq x slot) [
              | inl same ↦
                  subst (λ j. (next : ℕ) × (slice_get (slice_set left.next slot (item + 1)) j ≡ Some next) × IsRest after n j next) (sym same)
                  (item + 1, put_here left.next slot (item + 1) item here, later)
              | inr other ↦
                  let its = work.1 x contains in
                  (its.0, put_elsewhere left.next slot x (item + 1) other ∙ its.1, rest_other s after n item behind slot x its.0 rest more other its.2)
            ],
      );
      others = λ x there_is other.
          let its = work.1 x (Contains-from_In x there_is) in
          goes_is after n slots items work.0 rises x its.0 there_is (rest_other s after n item behind slot x its.0 rest more other its.2)
          ∙ sym (goes_is s n slots items work.0 rises x its.0 there_is its.2);
      own = goes_is after n slots items work.0 rises slot (item + 1) at later ∙ ends n more ∙ ap not (sym new_is.1);
    }
  where
    ends : (n : ℕ) → item < slot * n + n → nat_lt (item + 1) (slot * n + n) ≡ not (item + 1 == slot * n + n)
    ends n more = grind (arith, common_steps)
passed (ConstantVus slots) s after Endless new slot item last rises at work next is ended =
    record {
      work = subst (λ w. IsWork (ConstantVus slots) after w) (sym is.0) tt;
      others = λ x there_is other. refl;
      own = ap not (sym is.1);
    }
passed (PerVuIterations _ _) s after Endless new slot item last rises at work next is ended = elim work [ ]
passed (ConstantVus _) s after (Counted _) new slot item last rises at work next is ended = elim work [ ]
passed (SharedIterations _ _) s after old new slot item last rises at work next is ended = elim work [ ]
passed (RampingVus _ _) s after old new slot item last rises at work next is ended = elim work [ ]
passed (ArrivalRate _ _ _) s after old new slot item last rises at work next is ended = elim work [ ]
passed (ExternallyControlled _ _ _) s after old new slot item last rises at work next is ended = elim work [ ]

-- ---- the same work

-- where the same items have ended, the work is the same, and the same slots go on
pub work_same : (e : Executor) (s after : Scenario) (w : Work) → after.share.ended ≡ s.share.ended → IsWork e s w → IsWork e after w
work_same (PerVuIterations slots items) s after (Counted left) same work =
    (work.0, λ x at. let its = work.1 x at in (its.0, its.1, rest_same s after left.each same x its.0 its.2))
work_same (ConstantVus slots) s after Endless same work = tt
work_same (PerVuIterations _ _) s after Endless same work = elim work [ ]
work_same (ConstantVus _) s after (Counted _) same work = elim work [ ]
work_same (SharedIterations _ _) s after w same work = elim work [ ]
work_same (RampingVus _ _) s after w same work = elim work [ ]
work_same (ArrivalRate _ _ _) s after w same work = elim work [ ]
work_same (ExternallyControlled _ _ _) s after w same work = elim work [ ]

pub goes_same : (e : Executor) (s after : Scenario) → after.share.ended ≡ s.share.ended → (slot : ℕ) →
    executor_goes_on e after slot ≡ executor_goes_on e s slot
goes_same (PerVuIterations slots items) s after same slot =
    ap (λ ended. is_some (option_map (λ (i : SlotItem). i.item) (find (λ (i : SlotItem). (i.slot == slot) && not (list_any (λ k. k == i.item) ended)) items))) same
goes_same (ConstantVus _) s after same slot = refl
goes_same (SharedIterations _ _) s after same slot = refl
goes_same (RampingVus _ _) s after same slot = refl
goes_same (ArrivalRate _ _ _) s after same slot = refl
goes_same (ExternallyControlled _ _ _) s after same slot = refl

-- ---- the least open item

pub least_is : (e : Executor) (s : Scenario) (w : Work) → IsStrictlyIncreasing (owned_slots e) → IsWork e s w →
    first_of (filter (is_open_item s) (owned_items e)) ≡ least_left w (filter (executor_goes_on e s) (owned_slots e))
least_is (PerVuIterations slots items) s (Counted left) rises work =
    let n = left.each in
    let goes : ℕ → Bool = slot_has_open_item s items in
    first_found (is_open_item s) (map (λ (i : SlotItem). i.item) items)
    ∙ ap (λ all. find (is_open_item s) (map (λ (i : SlotItem). i.item) all)) work.0
    ∙ first_number s n (λ slot. slice_get left.next slot) goes slots (λ slot at.
    let its = work.1 slot (Contains-from_In slot at) in (its.0, its.1, its.2, goes_is s n slots items work.0 rises slot its.0 at its.2))
least_is (ConstantVus slots) s Endless rises work = refl
least_is (PerVuIterations _ _) s Endless rises work = elim work [ ]
least_is (ConstantVus _) s (Counted _) rises work = elim work [ ]
least_is (SharedIterations _ _) s w rises work = elim work [ ]
least_is (RampingVus _ _) s w rises work = elim work [ ]
least_is (ArrivalRate _ _ _) s w rises work = elim work [ ]
least_is (ExternallyControlled _ _ _) s w rises work = elim work [ ]

-- the item that a slot starts next, where it goes on
pub next_goes : (e : Executor) (s : Scenario) (w : Work) (slot : ℕ) → IsStrictlyIncreasing (owned_slots e) → In slot (owned_slots e) → IsWork e s w →
    executor_goes_on e s slot ≡ true → executor_next_item e s slot ≡ next_item w slot
next_goes (PerVuIterations slots items) s (Counted left) slot rises at work goes =
    let n = left.each in
    let its = work.1 slot (Contains-from_In slot at) in
    let more : nat_lt its.0 (slot * n + n) ≡ true = sym (goes_is s n slots items work.0 rises slot its.0 at its.2) ∙ goes in
    ap (λ all. slot_open_item s all slot) work.0 ∙ slot_next s n slot its.0 slots rises at its.2
    ∙ ap (λ b. where_holds b (Some its.0)) more ∙ sym its.1
next_goes (ConstantVus slots) s Endless slot rises at work goes = refl
next_goes (PerVuIterations _ _) s Endless slot rises at work goes = elim work [ ]
next_goes (ConstantVus _) s (Counted _) slot rises at work goes = elim work [ ]
next_goes (SharedIterations _ _) s w slot rises at work goes = elim work [ ]
next_goes (RampingVus _ _) s w slot rises at work goes = elim work [ ]
next_goes (ArrivalRate _ _ _) s w slot rises at work goes = elim work [ ]
next_goes (ExternallyControlled _ _ _) s w slot rises at work goes = elim work [ ]

-- a slot that would start an item goes on
pub next_goes_on : (e : Executor) (s : Scenario) (w : Work) (slot item : ℕ) → IsWork e s w → executor_next_item e s slot ≡ Some item →
    executor_goes_on e s slot ≡ true
next_goes_on (PerVuIterations slots items) s w slot item work next = ap is_some next
next_goes_on (ConstantVus slots) s w slot item work next = refl
next_goes_on (SharedIterations _ _) s w slot item work next = elim work [ ]
next_goes_on (RampingVus _ _) s w slot item work next = elim work [ ]
next_goes_on (ArrivalRate _ _ _) s w slot item work next = elim work [ ]
next_goes_on (ExternallyControlled _ _ _) s w slot item work next = elim work [ ]

-- the least open item is the next one of the first slot that goes on
pub least_next : (e : Executor) (s : Scenario) (w : Work) (item : ℕ) → IsStrictlyIncreasing (owned_slots e) → IsWork e s w →
    first_of (filter (is_open_item s) (owned_items e)) ≡ Some item →
    (slot : ℕ) × (slice_get (filter (executor_goes_on e s) (owned_slots e)) 0 ≡ Some slot) × In slot (owned_slots e) × (executor_next_item e s slot ≡ Some item)
least_next e s w item rises work first =
    from w (slice_get (filter (executor_goes_on e s) (owned_slots e)) 0) work refl (sym (least_is e s w rises work) ∙ first)
  where
    first_in : {A : Type 0} (x : A) (xs : List A) → slice_get xs 0 ≡ Some x → In x xs
    first_in x [] is = absurd (cc)
    first_in {A} x (y ∷ ys) is = let same : y ≡ x = cc in subst (λ (z : A). In z (y ∷ ys)) same here

    from : (w : Work) (o : Option ℕ) → IsWork e s w → slice_get (filter (executor_goes_on e s) (owned_slots e)) 0 ≡ o → least_left w (filter (executor_goes_on e s) (owned_slots e)) ≡ Some item →
        (slot : ℕ) × (slice_get (filter (executor_goes_on e s) (owned_slots e)) 0 ≡ Some slot) × In slot (owned_slots e) × (executor_next_item e s slot ≡ Some item)
    from Endless o is front is_item = absurd (cc)
    from (Counted left) None is front is_item = absurd (let none = ap (option_and_then (λ slot. slice_get left.next slot)) front in cc)
    from (Counted left) (Some slot) is front is_item =
        let at = In-filter (executor_goes_on e s) slot (owned_slots e) (first_in slot (filter (executor_goes_on e s) (owned_slots e)) front) in
        (slot, front, at.0, next_goes e s (Counted left) slot rises at.0 is at.1 ∙ sym (ap (option_and_then (λ k. slice_get left.next k)) front) ∙ is_item)
