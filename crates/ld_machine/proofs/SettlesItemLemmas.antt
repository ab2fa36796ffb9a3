-- What has ended was started, dropped or counted late; of a scenario with items only owned ones were.
use Rattle.std.proofs.Common.{◌≡◌, ◌+◌, ◌==◌, if◌then◌else◌, ℕ, zero, suc, Bool, true, false, not, cond, ◌&&◌, ◌||◌, List, [], ◌∷◌, ◌++◌, ◌⊎◌, inl, inr, Option, None, Some, map, arith, refl, sym, ap, ◌∙◌, subst, slice_get}
use Rattle.std.proofs.lemmas.Bool.{true≢false, not-true, or_right}
use Rattle.std.proofs.lemmas.Grind.{common_steps}
use Rattle.std.proofs.lemmas.List.Sums.{sum_by-cons}
use Rattle.std.specs.Prelude.{count_by}
use Rattle.std.specs.List.{list_all, list_any, cons_option, enumerate_from}
use Rattle.std.specs.Option.{option_map_or}
use Rattle.ld_base.specs.declared.act.Act.{Act}
use Rattle.ld_base.specs.declared.act.Act.TheVariants.{Take, Grow, Start, Drop, Late, Return, Release, Stop, Close, Control}
use Rattle.ld_base.specs.declared.command.Command.TheVariants as commands
use Rattle.ld_base.specs.declared.entry.Entry.{Entry}
use Rattle.ld_machine.specs.Plan.{Part, Plan, owned_items}
use Rattle.ld_machine.specs.State.{StartsNothing, Busy, Share, State, opening, opening_share}
use Rattle.ld_machine.specs.Commands.{stop_commanded_share}
use Rattle.ld_machine.specs.Effect.{put_condition, change_at, change_share, end_item, end_item_of, after_entry, after_entries}
use Rattle.ld_machine.specs.History.{adds_one, adds_two, are_steps}
use Rattle.ld_machine.specs.OnTime.{is_asked_act}
use Rattle.ld_machine.specs.Settled.{item_of, items_in, has_items, is_distinct, has_each_once, items_ended}
use Rattle.ld_machine.proofs.ListLemmas.{In, here, there, In-enumerate, both_true, some_true, some_not_none, number_itself}
use Rattle.ld_machine.proofs.StepLemmas.{one_wrote, pair_wrote}
use Rattle.ld_machine.proofs.ItemLemmas.{has, ended_in, wrote_new, unasked_no_item, gain_no_item, pair_gains, steps_once}

-- ---- what has ended was ended by an act

-- behind a change of one share that ends no other item an item had ended before, or it is the one
changed_ended : (item : ℕ) (change : Share → Share) (k n x : ℕ) (shares : List Share) →
    ((share : Share) → has (change share).ended x ≡ true → (has share.ended x ≡ true) ⊎ (item ≡ x)) →
    has (ended_in (change_at k change shares) n) x ≡ true → (has (ended_in shares n) x ≡ true) ⊎ ((k ≡ n) × (item ≡ x))
changed_ended item change k n x [] from h = inl h
changed_ended item change zero zero x (share ∷ rest) from h =
    elim (from share h) [ inl before ↦ inl before | inr it ↦ inr (refl, it) ]
changed_ended item change zero (suc n) x (share ∷ rest) from h = inl h
changed_ended item change (suc k) zero x (share ∷ rest) from h = inl h
changed_ended item change (suc k) (suc n) x (share ∷ rest) from h =
    elim (changed_ended item change k n x rest from h) [ inl before ↦ inl before | inr it ↦ inr (ap suc it.0, it.1) ]

-- a change of one share that ends nothing
pub same_ended : (change : Share → Share) (k n : ℕ) (shares : List Share) → ((share : Share) → (change share).ended ≡ share.ended) →
    ended_in (change_at k change shares) n ≡ ended_in shares n
same_ended change k n [] same = refl
same_ended change zero zero (share ∷ rest) same = same share
same_ended change zero (suc n) (share ∷ rest) same = refl
same_ended change (suc k) zero (share ∷ rest) same = refl
same_ended change (suc k) (suc n) (share ∷ rest) same = same_ended change k n rest same

pub stop_ended : (t n : ℕ) (shares : List Share) → ended_in (map (stop_commanded_share t) shares) n ≡ ended_in shares n
stop_ended t n [] = refl
stop_ended t zero (share ∷ rest) =
    let P : Bool → Type 0 = λ b. (cond b share (record share { level = StartsNothing t })).ended ≡ share.ended in
    elim share.closed as P [ true ↦ refl | false ↦ refl ]
stop_ended t (suc n) (share ∷ rest) = stop_ended t n rest

has_behind : (x item : ℕ) (xs : List ℕ) → has (xs ++ item ∷ []) x ≡ true → (has xs x ≡ true) ⊎ (item ≡ x)
has_behind x item [] h =
    elim (some_true (item == x) false h) [ inl it ↦ inr (grind (arith, common_steps)) | inr none ↦ absurd cc ]
has_behind x item (y ∷ xs) h =
    elim (some_true (y == x) (has (xs ++ item ∷ []) x) h) [
      | inl now ↦ inl (rw now refl)
      | inr later ↦ elim (has_behind x item xs later) [
        | inl before ↦ inl (or_right (y == x) (has xs x) before)
        | inr it ↦ inr it
      ]
    ]

end_item_ended : (part : Part) (item x : ℕ) (share : Share) → has (end_item part item share).ended x ≡ true → (has share.ended x ≡ true) ⊎ (item ≡ x)
end_item_ended part item x share h =
    let P : Bool → Type 0 = λ b. has (cond b (record share { ended = share.ended ++ item ∷ [] }) share).ended x ≡ true → (has share.ended x ≡ true) ⊎ (item ≡ x) in
    let from : P (list_any (λ k. k == item) (owned_items part.executor)) = elim (list_any (λ k. k == item) (owned_items part.executor)) as P [
      | true ↦ λ at. has_behind x item share.ended at
      | false ↦ λ at. inl at
    ] in from h

-- an item had ended before, or an act ended it
abbrev EndedBy : List Share → ℕ → ℕ → Option ℕ → Type 0
EndedBy shares n x item = (has (ended_in shares n) x ≡ true) ⊎ (item ≡ Some x)

ended_by_end : (plan : Plan) (k item n x : ℕ) (state : State) → has (ended_in (end_item_of plan k item state).shares n) x ≡ true →
    EndedBy state.shares n x (if k == n then Some item else None)
ended_by_end plan k item n x state h =
    let P : Option Part → Type 0 = λ o. has (ended_in (option_map_or (λ part. change_share state k (end_item part item)) o state).shares n) x ≡ true →
    EndedBy state.shares n x (if k == n then Some item else None) in
    let by : P (slice_get plan.parts k) = elim (slice_get plan.parts k) as P [
      | None ↦ λ at. inl at
      | Some part ↦ λ at. elim (changed_ended item (end_item part item) k n x state.shares (λ share. end_item_ended part item x share) at) [
        | inl before ↦ inl before
        | inr it ↦ inr (rw (it.0, it.1, number_itself n) refl)
      ]
    ] in by h

ended_before : (before now : List ℕ) (n x : ℕ) (shares : List Share) (item : Option ℕ) → ended_in shares n ≡ before → now ≡ before → has now x ≡ true →
    EndedBy shares n x item
ended_before before now n x shares item was same h = inl (subst (λ ended. has ended x ≡ true) (same ∙ sym was) h)

ended_by_act : (plan : Plan) (state : State) (at thread t : ℕ) (act : Act) (n x : ℕ) →
    has (ended_in (after_entry plan state (record { turn = at; thread = thread; act = act; reading = t })).shares n) x ≡ true →
    EndedBy state.shares n x (item_of n act)
ended_by_act plan state at thread t (Take k user slot) n x h = ended_before _ _ n x state.shares None refl (same_ended _ k n state.shares (λ share. refl)) h
ended_by_act plan state at thread t (Grow k user slot) n x h = ended_before _ _ n x state.shares None refl (same_ended _ k n state.shares (λ share. refl)) h
ended_by_act plan state at thread t (Start k user item until) n x h =
    let started = change_share state k (put_condition user (Busy thread item until)) in
    let same = same_ended (put_condition user (Busy thread item until)) k n state.shares (λ share. refl) in
    elim (ended_by_end plan k item n x started h) [
      | inl before ↦ inl (subst (λ ended. has ended x ≡ true) same before)
      | inr it ↦ inr it
    ]
ended_by_act plan state at thread t (Drop k item) n x h = ended_by_end plan k item n x state h
ended_by_act plan state at thread t (Late k item) n x h = ended_by_end plan k item n x state h
ended_by_act plan state at thread t (Return k user item outcome tally) n x h = ended_before _ _ n x state.shares None refl (same_ended _ k n state.shares (λ share. refl)) h
ended_by_act plan state at thread t (Release k user) n x h = ended_before _ _ n x state.shares None refl (same_ended _ k n state.shares (λ share. refl)) h
ended_by_act plan state at thread t (Stop k) n x h = ended_before _ _ n x state.shares None refl (same_ended _ k n state.shares (λ share. refl)) h
ended_by_act plan state at thread t (Close k) n x h = ended_before _ _ n x state.shares None refl (same_ended _ k n state.shares (λ share. refl)) h
ended_by_act plan state at thread t (Control commands.Stop) n x h = ended_before _ _ n x state.shares None refl (stop_ended t n state.shares) h
ended_by_act plan state at thread t (Control (commands.Pause b)) n x h = inl h
ended_by_act plan state at thread t (Control (commands.Vus v)) n x h = inl h
ended_by_act plan state at thread t (Control (commands.VusMax v)) n x h = inl h

-- an item among those of an entry and of the entries behind it
has_first : (x : ℕ) (o : Option ℕ) (items : List ℕ) → o ≡ Some x → has (cons_option o items) x ≡ true
has_first x o items it = rw (it, number_itself x) refl

has_later : (x : ℕ) (o : Option ℕ) (items : List ℕ) → has items x ≡ true → has (cons_option o items) x ≡ true
has_later x None items h = h
has_later x (Some y) items h = or_right (y == x) (has items x) h

-- what has ended behind entries had ended before them, or stands in them
ended_stands : (plan : Plan) (n x : ℕ) (history : List Entry) (state : State) → has (ended_in (after_entries plan state history).shares n) x ≡ true →
    (has (ended_in state.shares n) x ≡ true) ⊎ (has (items_in n history) x ≡ true)
ended_stands plan n x [] state h = inl h
ended_stands plan n x (one ∷ rest) state h =
    elim (ended_stands plan n x rest (after_entry plan state one) h) [
      | inl behind ↦ elim (ended_by_act plan state one.turn one.thread one.reading one.act n x behind) [
        | inl before ↦ inl before
        | inr it ↦ inr (has_first x (item_of n one.act) (items_in n rest) it)
      ]
      | inr later ↦ inr (has_later x (item_of n one.act) (items_in n rest) later)
    ]

pub opening_ended : (n : ℕ) (parts : List Part) → ended_in (map (λ (part : Part). opening_share) parts) n ≡ []
opening_ended n [] = refl
opening_ended zero (part ∷ parts) = refl
opening_ended (suc n) (part ∷ parts) = opening_ended n parts

-- what has ended behind a history stands in it
history_stands : (plan : Plan) (n x : ℕ) (history : List Entry) → has (ended_in (after_entries plan (opening plan) history).shares n) x ≡ true →
    has (items_in n history) x ≡ true
history_stands plan n x history h =
    elim (ended_stands plan n x history (opening plan) h) [
      | inl before ↦ absurd (true≢false (sym before ∙ ap (λ ended. has ended x) (opening_ended n plan.parts)))
      | inr it ↦ it
    ]

-- ---- an item that stands in a list without repetition stands in it once

pub count_none : (x : ℕ) (items : List ℕ) → has items x ≡ false → count_by (λ item. item == x) items ≡ 0
count_none x [] h = refl
count_none x (y ∷ items) h = sum_by-cons (λ item. cond (item == x) 1 0) y items ∙ step (y == x) refl h (count_none x items)
  where
    step : (b : Bool) → (y == x) ≡ b → (b || has items x) ≡ false → (has items x ≡ false → count_by (λ item. item == x) items ≡ 0) →
        cond (y == x) 1 0 + count_by (λ item. item == x) items ≡ 0
    step true e at later = absurd cc
    step false e at later = let rest = later at in rw e (omega arith)

count_once : (x : ℕ) (items : List ℕ) → is_distinct items ≡ true → has items x ≡ true → count_by (λ item. item == x) items ≡ 1
count_once x [] distinct h = absurd cc
count_once x (y ∷ items) distinct h =
    let parts = both_true (not (has items y)) (is_distinct items) distinct in
    sum_by-cons (λ item. cond (item == x) 1 0) y items ∙ step (y == x) refl h (not-true (has items y) parts.0) (count_once x items parts.1)
  where
    step : (b : Bool) → (y == x) ≡ b → (b || has items x) ≡ true → has items y ≡ false →
        (has items x ≡ true → count_by (λ item. item == x) items ≡ 1) → cond (y == x) 1 0 + count_by (λ item. item == x) items ≡ 1
    step true e at alone later =
        let same : y ≡ x = grind (arith, common_steps) in
        let none : has items x ≡ false = subst (λ z. has items z ≡ false) same alone in
        let rest = count_none x items none in
        rw e (omega arith)
    step false e at alone later = let rest = later at in rw e (omega arith)

-- ---- of a scenario with items only owned ones stand in a history

module _ (plan : Plan) (part : Part) (n : ℕ) (stands : slice_get plan.parts n ≡ Some part) (some : has_items part.executor ≡ true) where
  one_owned : (state : State) (one : Entry) → adds_one plan state one ≡ true → (i : ℕ) → item_of n one.act ≡ Some i → has (owned_items part.executor) i ≡ true
  one_owned state one h i is_it =
      let P : Bool → Type 0 = λ b. is_asked_act one.act ≡ b → has (owned_items part.executor) i ≡ true in
      let owned : P (is_asked_act one.act) = elim (is_asked_act one.act) as P [
        | true ↦ λ asked.
            (wrote_new plan part state one.thread one.reading (one ∷ []) (one_wrote plan state one asked h) n i one.act stands some here is_it).owned part stands
        | false ↦ λ unasked. absurd (some_not_none (sym is_it ∙ unasked_no_item n one.act unasked))
      ] in owned refl

  two_owned : (state : State) (one two : Entry) → adds_two plan state one two ≡ true → (i : ℕ) → item_of n two.act ≡ Some i → has (owned_items part.executor) i ≡ true
  two_owned state one two h i is_it =
      (wrote_new plan part state one.thread one.reading (one ∷ two ∷ []) (pair_wrote plan state one two h) n i two.act stands some (there here) is_it).owned part stands

  abbrev all_owned : List ℕ → Bool
  all_owned items = list_all (λ item. has (owned_items part.executor) item) items

  front_owned : (o : Option ℕ) (items : List ℕ) → ((i : ℕ) → o ≡ Some i → has (owned_items part.executor) i ≡ true) → all_owned items ≡ true →
      all_owned (cons_option o items) ≡ true
  front_owned None items owned later = later
  front_owned (Some i) items owned later = rw (owned i refl) later

  pub steps_owned : (history : List Entry) (state : State) → are_steps plan state history ≡ true → all_owned (items_in n history) ≡ true
  steps_owned [] state h = refl
  steps_owned (one ∷ []) state h = front_owned (item_of n one.act) [] (one_owned state one h) refl
  steps_owned (one ∷ two ∷ rest) state h =
      elim (some_true (adds_one plan state one && are_steps plan (after_entry plan state one) (two ∷ rest)) _ h) [
        | inl first ↦
            let both = both_true (adds_one plan state one) _ first in
            front_owned (item_of n one.act) (items_in n (two ∷ rest)) (one_owned state one both.0) (steps_owned (two ∷ rest) (after_entry plan state one) both.1)
        | inr second ↦
            let both = both_true (adds_two plan state one two) _ second in
            let later = steps_owned rest (after_entry plan (after_entry plan state one) two) both.1 in
            let none = gain_no_item n one.act (pair_gains plan part n stands some state one two both.0) in
            rw none (front_owned (item_of n two.act) (items_in n rest) (two_owned state one two both.0) later)
      ]

-- ---- each owned item once, and no other, where all of them have ended

all_from : {A : Type 0} (p : A → Bool) (xs : List A) → ((x : A) → In x xs → p x ≡ true) → list_all p xs ≡ true
all_from p [] each = refl
all_from p (x ∷ xs) each = rw (each x here) (all_from p xs (λ y at. each y (there at)))

module _ (plan : Plan) (history : List Entry) (legal : are_steps plan (opening plan) history ≡ true)
    (all_ended : (n : ℕ) (part : Part) (item : ℕ) → slice_get plan.parts n ≡ Some part → In item (owned_items part.executor) →
    has (ended_in (after_entries plan (opening plan) history).shares n) item ≡ true) where
  each_once : (n : ℕ) (part : Part) → slice_get plan.parts n ≡ Some part → has_items part.executor ≡ true →
      has_each_once (owned_items part.executor) (items_in n history) ≡ true
  each_once n part stands some =
      let distinct = (steps_once plan part n stands some history (opening plan) legal).1 in
      let once : (k : ℕ) → In k (owned_items part.executor) → (count_by (λ item. item == k) (items_in n history) == 1) ≡ true = λ k owned.
      let ended = all_ended n part k stands owned in
      rw (count_once k (items_in n history) distinct (history_stands plan n k history ended)) refl in
      rw (all_from (λ k. count_by (λ item. item == k) (items_in n history) == 1) (owned_items part.executor) once)
      (steps_owned plan part n stands some history (opening plan) legal)

  part_ended : (n : ℕ) (part : Part) → slice_get plan.parts n ≡ Some part → items_ended history n part ≡ true
  part_ended n part stands =
      let P : Bool → Type 0 = λ b. has_items part.executor ≡ b → (not b || has_each_once (owned_items part.executor) (items_in n history)) ≡ true in
      let ended : P (has_items part.executor) = elim (has_items part.executor) as P [ true ↦ λ e. each_once n part stands e | false ↦ λ e. refl ] in
      ended refl

  pub parts_ended : list_all (λ (n, part). items_ended history n part) (enumerate_from 0 plan.parts) ≡ true
  parts_ended = all_from (λ (p : ℕ × Part). items_ended history p.0 p.1) (enumerate_from 0 plan.parts)
      (λ p at.
      let found = (In-enumerate 0 p plan.parts at).1 in
      let place : found.0 ≡ p.0 = let e : p.0 ≡ 0 + found.0 = found.1 in omega arith in
      part_ended p.0 p.1 (subst (λ k. slice_get plan.parts k ≡ Some p.1) place found.2))
