-- While no stop was commanded each share runs, and a closed one holds nobody and has no open item.
use Rattle.std.proofs.Common.{◌≡◌, ◌==◌, ℕ, zero, suc, Bool, true, false, not, cond, ◌&&◌, ◌||◌, List, [], ◌∷◌, ◌++◌, Option, None, Some, length, map, filter, arith, refl, sym, ap, ◌∙◌, subst, inl, inr, slice_get}
use Rattle.std.proofs.lemmas.Bool.{true≢false, not-true, not-false, or_right}
use Rattle.std.proofs.lemmas.Grind.{common_steps}
use Rattle.std.proofs.lemmas.Option.{same_Some}
use Rattle.std.specs.Prelude.{is_some}
use Rattle.std.specs.List.{list_all, list_any}
use Rattle.std.specs.Option.{option_map_or}
use Rattle.ld_base.specs.declared.act.Act.{Act}
use Rattle.ld_base.specs.declared.act.Act.TheVariants.{Take, Grow, Start, Drop, Late, Return, Release, Stop, Close, Control}
use Rattle.ld_base.specs.declared.command.Command.TheVariants as commands
use Rattle.ld_base.specs.declared.entry.Entry.{Entry}
use Rattle.ld_machine.specs.Plan.{Arrival, Part, Plan, owned_items, hard_moment}
use Rattle.ld_machine.specs.State.{Level, Runs, StartsNothing, Halted, Condition, Idle, Busy, HeldUser, Share, State, opening, opening_share, times_held}
use Rattle.ld_machine.specs.Scenario.{Scenario, first_of, is_open, level_runs, runs, is_open_item, open_items, has_open_item, holds_nobody, level_may_stop, may_take, may_close, executor_may_close, due_arrival, until_of}
use Rattle.ld_machine.specs.Moves.{CountLate, StartOn, GrowAndStart, TakeAndStart, DropArrival, Move, users_of, scenarios}
use Rattle.ld_machine.specs.Acts.{acts_of}
use Rattle.ld_machine.specs.Effect.{if_user, hold, put_condition, let_go, change_at, change_share, end_item, end_item_of, after_entry, after_entries}
use Rattle.ld_machine.specs.History.{adds_one, adds_two, are_steps}
use Rattle.ld_machine.specs.OnTime.{is_asked_act}
use Rattle.ld_machine.specs.Stops.{commands_stop}
use Rattle.ld_machine.proofs.ListLemmas.{In, here, nothing_in, filter-In, both_true, some_true, some_not_none, in_two, In-one}
use Rattle.ld_machine.proofs.SourceLemmas.{Source, by_stop, by_release, by_take, by_arrival, by_start, by_drop, by_close, source_of}
use Rattle.ld_machine.proofs.StepLemmas.{Wrote, first_enabled, one_wrote, pair_wrote}
use Rattle.ld_machine.proofs.StopLemmas.{no_take}
use Rattle.ld_machine.proofs.ItemLemmas.{has, has_more, ended_in, stands_share}
use Rattle.ld_machine.proofs.TurnLemmas.{pair_of, acts_written}

-- a share of a part while no stop was commanded: it runs, and where it is closed, it holds nobody and
-- each owned item has ended
pub record Running (part : Part) (share : Share) : Type 0 where
  pub level : level_runs share.level ≡ true
  pub nobody : share.closed ≡ true → share.held ≡ []
  pub ended : share.closed ≡ true → (item : ℕ) → In item (owned_items part.executor) → has share.ended item ≡ true

-- each part has such a share
abbrev pub AllRunning : List Part → List Share → Type 0
AllRunning [] [] = Unit {0}
AllRunning [] (share ∷ shares) = ⊥
AllRunning (part ∷ parts) [] = ⊥
AllRunning (part ∷ parts) (share ∷ shares) = Running part share × AllRunning parts shares

opening_running : (parts : List Part) → AllRunning parts (map (λ (part : Part). opening_share) parts)
opening_running [] = tt
opening_running (part ∷ parts) =
    (record { level = refl; nobody = λ closed. absurd cc; ended = λ closed. absurd cc }, opening_running parts)

-- the share of a part
running_at : (parts : List Part) (shares : List Share) (n : ℕ) (part : Part) (share : Share) → AllRunning parts shares → slice_get parts n ≡ Some part →
    slice_get shares n ≡ Some share → Running part share
running_at [] shares n part share all is at = absurd cc
running_at (p ∷ parts) [] n part share all is at = absurd cc
running_at (p ∷ parts) (s ∷ shares) zero part share all is at =
    let same_part : p ≡ part = cc in
    let same_share : s ≡ share = cc in
    subst (λ (x : Share). Running part x) same_share (subst (λ (x : Part). Running x s) same_part all.0)
running_at (p ∷ parts) (s ∷ shares) (suc n) part share all is at = running_at parts shares n part share all.1 is at

-- ---- changes of one share

change_running : (n : ℕ) (change : Share → Share) (parts : List Part) (shares : List Share) →
    ((part : Part) (share : Share) → slice_get parts n ≡ Some part → slice_get shares n ≡ Some share → Running part share → Running part (change share)) →
    AllRunning parts shares → AllRunning parts (change_at n change shares)
change_running n change [] [] keeps all = all
change_running n change [] (share ∷ shares) keeps all = absurd all
change_running n change (part ∷ parts) [] keeps all = absurd all
change_running zero change (part ∷ parts) (share ∷ shares) keeps all = (keeps part share refl refl all.0, all.1)
change_running (suc n) change (part ∷ parts) (share ∷ shares) keeps all = (all.0, change_running n change parts shares keeps all.1)

hold_running : (user slot : ℕ) (part : Part) (share : Share) → share.closed ≡ false → Running part share → Running part (hold user slot share)
hold_running user slot part share opened r = record {
  level = r.level;
  nobody = λ closed. absurd (true≢false (sym closed ∙ opened));
  ended = r.ended;
}

put_running : (user : ℕ) (condition : Condition) (part : Part) (share : Share) → Running part share → Running part (put_condition user condition share)
put_running user condition part share r = record {
  level = r.level;
  nobody = λ closed. ap (λ held. map (if_user user condition) held) (r.nobody closed);
  ended = r.ended;
}

let_go_running : (user : ℕ) (part : Part) (share : Share) → Running part share → Running part (let_go user share)
let_go_running user part share r = record {
  level = r.level;
  nobody = λ closed. ap (λ held. filter (λ (h : HeldUser). not (h.user == user)) held) (r.nobody closed);
  ended = r.ended;
}

end_running : (owner : Part) (item : ℕ) (part : Part) (share : Share) → Running part share → Running part (end_item owner item share)
end_running owner item part share r =
    let P : Bool → Type 0 = λ b. Running part (cond b (record share { ended = share.ended ++ item ∷ [] }) share) in
    elim (list_any (λ k. k == item) (owned_items owner.executor)) as P [
      | true ↦ record {
        level = r.level;
        nobody = r.nobody;
        ended = λ closed i at. has_more i share.ended (item ∷ []) (r.ended closed i at);
      }
      | false ↦ r
    ]

end_of_running : (plan : Plan) (n item : ℕ) (state : State) → AllRunning plan.parts state.shares → AllRunning plan.parts (end_item_of plan n item state).shares
end_of_running plan n item state all =
    let P : Option Part → Type 0 = λ o. AllRunning plan.parts (option_map_or (λ part. change_share state n (end_item part item)) o state).shares in
    elim (slice_get plan.parts n) as P [
      | None ↦ all
      | Some owner ↦ change_running n (end_item owner item) plan.parts state.shares (λ part share is at r. end_running owner item part share r) all
    ]

-- ---- what an act needs

-- the share isn't closed
abbrev pub IsOpenAt : State → ℕ → Type 0
IsOpenAt state n = (share : Share) → slice_get state.shares n ≡ Some share → share.closed ≡ false

-- the share holds nobody, and each owned item of its part has ended
abbrev IsOverAt : Plan → State → ℕ → Type 0
IsOverAt plan state n =
    (part : Part) (share : Share) → slice_get plan.parts n ≡ Some part → slice_get state.shares n ≡ Some share →
    (share.held ≡ []) × ((item : ℕ) → In item (owned_items part.executor) → has share.ended item ≡ true)

-- only an open scenario takes or grows users, one that is over closes, and none is stopped
abbrev pub Needs : Plan → State → Act → Type 0
Needs plan state (Take n _ _) = IsOpenAt state n
Needs plan state (Grow n _ _) = IsOpenAt state n
Needs plan state (Close n) = IsOverAt plan state n
Needs plan state (Stop n) = ⊥
Needs plan state (Control commands.Stop) = ⊥
Needs plan state _ = Unit {0}

act_running : (plan : Plan) (state : State) (at thread t : ℕ) (act : Act) → AllRunning plan.parts state.shares → Needs plan state act →
    AllRunning plan.parts (after_entry plan state (record { turn = at; thread = thread; act = act; reading = t })).shares
act_running plan state at thread t (Take n user slot) all needs =
    change_running n (hold user slot) plan.parts state.shares (λ part share is stands r. hold_running user slot part share (needs share stands) r) all
act_running plan state at thread t (Grow n user slot) all needs =
    change_running n (hold user slot) plan.parts state.shares (λ part share is stands r. hold_running user slot part share (needs share stands) r) all
act_running plan state at thread t (Start n user item until) all needs =
    end_of_running plan n item (change_share state n (put_condition user (Busy thread item until)))
    (change_running n (put_condition user (Busy thread item until)) plan.parts state.shares (λ part share is stands r. put_running user (Busy thread item until) part share r) all)
act_running plan state at thread t (Drop n item) all needs = end_of_running plan n item state all
act_running plan state at thread t (Late n item) all needs = end_of_running plan n item state all
act_running plan state at thread t (Return n user item outcome tally) all needs =
    change_running n (put_condition user Idle) plan.parts state.shares (λ part share is stands r. put_running user Idle part share r) all
act_running plan state at thread t (Release n user) all needs =
    change_running n (let_go user) plan.parts state.shares (λ part share is stands r. let_go_running user part share r) all
act_running plan state at thread t (Stop n) all needs = absurd needs
act_running plan state at thread t (Close n) all needs =
    change_running n (λ (share : Share). record share { closed = true }) plan.parts state.shares
    (λ part share is stands r. let over = needs part share is stands in record { level = r.level; nobody = λ closed. over.0; ended = λ closed. over.1 }) all
act_running plan state at thread t (Control commands.Stop) all needs = absurd needs
act_running plan state at thread t (Control (commands.Pause b)) all needs = all
act_running plan state at thread t (Control (commands.Vus v)) all needs = all
act_running plan state at thread t (Control (commands.VusMax v)) all needs = all

-- ---- what a scenario's cells say

pub take_runs : (s : Scenario) (slot t : ℕ) → may_take s slot t ≡ true → runs s ≡ true
take_runs s slot t h =
    let P : Bool → Type 0 = λ b. runs s ≡ b → runs s ≡ true in
    let tested : P (runs s) = elim (runs s) as P [
      | true ↦ λ e. e
      | false ↦ λ e. absurd (true≢false (sym h ∙ no_take s.part.executor s slot t e))
    ] in tested refl

pub due_runs : (s : Scenario) (t : ℕ) (a : Arrival) → due_arrival s t ≡ Some a → runs s ≡ true
due_runs s t a h =
    let P : Bool → Type 0 = λ b. runs s ≡ b → runs s ≡ true in
    let tested : P (runs s) = elim (runs s) as P [
      | true ↦ λ e. e
      | false ↦ λ e. let none : due_arrival s t ≡ None = rw e refl in absurd (some_not_none (sym h ∙ none))
    ] in tested refl

no_stop : (level : Level) (grace t : ℕ) → level_runs level ≡ true → level_may_stop level grace t ≡ true → ⊥
no_stop Runs grace t run h = cc
no_stop (StartsNothing commanded) grace t run h = cc
no_stop Halted grace t run h = cc

-- where no item is open, each owned one has ended
pub none_open : (s : Scenario) (item : ℕ) → has_open_item s ≡ false → In item (owned_items s.part.executor) → has s.share.ended item ≡ true
none_open s item none at =
    let P : Bool → Type 0 = λ b. is_open_item s item ≡ b → has s.share.ended item ≡ true in
    let tested : P (is_open_item s item) = elim (is_open_item s item) as P [
      | true ↦ λ e. absurd (no_first (open_items s) none (filter-In (is_open_item s) item at e))
      | false ↦ λ e. not-false (has s.share.ended item) e
    ] in tested refl
  where
    no_first : (xs : List ℕ) → is_some (first_of xs) ≡ false → In item xs → ⊥
    no_first [] none there_is = nothing_in there_is
    no_first (x ∷ xs) none there_is = cc

-- a scenario that runs and may close has no open item
close_none_open : (s : Scenario) (t : ℕ) → runs s ≡ true →
    (not (runs s) || (not (has_open_item s) && executor_may_close s.part.executor s t)) ≡ true → has_open_item s ≡ false
close_none_open s t run h =
    elim (some_true (not (runs s)) _ h) [
      | inl stopped ↦ absurd (true≢false (sym run ∙ not-true (runs s) stopped))
      | inr none ↦ not-true (has_open_item s) (both_true (not (has_open_item s)) _ none).0
    ]

pub no_length : (held : List HeldUser) → (length held == 0) ≡ true → held ≡ []
no_length [] h = refl
no_length (x ∷ rest) h = let long : suc (length rest) ≡ 0 = grind (arith, common_steps) in absurd (omega arith)

module _ (plan : Plan) (state : State) (k : ℕ) (s : Scenario) (stands : slice_get (scenarios plan state) k ≡ Some s) where
  pub its_share : (share : Share) → slice_get state.shares k ≡ Some share → share ≡ s.share
  its_share share at = same_Some _ _ (sym at ∙ (stands_share state.controls plan.parts state.shares k s stands).1)

  its_part : (part : Part) → slice_get plan.parts k ≡ Some part → part ≡ s.part
  its_part part is = same_Some _ _ (sym is ∙ (stands_share state.controls plan.parts state.shares k s stands).0)

  pub open_at : runs s ≡ true → IsOpenAt state k
  open_at run share at =
      subst (λ (x : Share). x.closed ≡ false) (sym (its_share share at)) (not-true s.share.closed (both_true (is_open s) (level_runs s.share.level) run).0)

module _ (plan : Plan) (state : State) (k : ℕ) (s : Scenario) (stands : slice_get (scenarios plan state) k ≡ Some s) (all : AllRunning plan.parts state.shares) where
  its_running : Running s.part s.share
  its_running =
      let of_it = stands_share state.controls plan.parts state.shares k s stands in
      running_at plan.parts state.shares k s.part s.share all of_it.0 of_it.1

  over_at : (t : ℕ) → may_close s t ≡ true → IsOverAt plan state k
  over_at t h part share is at =
      let parts = both_true (is_open s && holds_nobody s) _ h in
      let front = both_true (is_open s) (holds_nobody s) parts.0 in
      let run : runs s ≡ true = rw (front.0, its_running.level) refl in
      let none = close_none_open s t run parts.1 in (
        subst (λ (x : Share). x.held ≡ []) (sym (its_share plan state k s stands share at)) (no_length s.share.held front.1),
        λ item owned.
            subst (λ (x : Share). has x.ended item ≡ true) (sym (its_share plan state k s stands share at))
            (none_open s item none (subst (λ (x : Part). In item (owned_items x.executor)) (its_part plan state k s stands part is) owned)),
      )

  needs_by : (one act : Act) → one ≡ act → Needs plan state one → Needs plan state act
  needs_by one act same needs = subst (Needs plan state) same needs

  -- each act of an enabled move has what it needs
  move_needs : (t : ℕ) (move : Move) → Source (users_of plan state) k s t move → (act : Act) → In act (acts_of move) → Needs plan state act
  move_needs t move (by_stop e) act at = absurd (no_stop s.share.level s.part.grace t its_running.level (both_true (is_open s) _ e).1)
  move_needs t move (by_release u idle e) act at = needs_by (Release k u.user) act (In-one act _ at) tt
  move_needs t move (by_take user slot free slots e) act at = needs_by (Take k user slot) act (In-one act _ at) (open_at plan state k s stands (take_runs s slot t e))
  move_needs t move (by_start u item idle e) act at = needs_by (Start k u.user item (until_of s u.slot t)) act (In-one act _ at) tt
  move_needs t move (by_drop item e) act at = needs_by (Drop k item) act (In-one act _ at) tt
  move_needs t move (by_close e) act at = needs_by (Close k) act (In-one act _ at) (over_at t e)
  move_needs t move (by_arrival a CountLate due e) act at = needs_by (Late k a.item) act (In-one act _ at) tt
  move_needs t move (by_arrival a DropArrival due e) act at = needs_by (Drop k a.item) act (In-one act _ at) tt
  move_needs t move (by_arrival a (StartOn user) due e) act at = needs_by (Start k user a.item (hard_moment s.part)) act (In-one act _ at) tt
  move_needs t move (by_arrival a (GrowAndStart user slot) due e) act at =
      elim (in_two act _ _ at) [
        | inl grown ↦ needs_by (Grow k user slot) act grown (open_at plan state k s stands (due_runs s t a due))
        | inr started ↦ needs_by (Start k user a.item (hard_moment s.part)) act started tt
      ]
  move_needs t move (by_arrival a (TakeAndStart user slot) due e) act at =
      elim (in_two act _ _ at) [
        | inl taken ↦ needs_by (Take k user slot) act taken (open_at plan state k s stands (due_runs s t a due))
        | inr started ↦ needs_by (Start k user a.item (hard_moment s.part)) act started tt
      ]

-- ---- one step

wrote_needs : (plan : Plan) (state : State) (thread t : ℕ) (entries : List Entry) → AllRunning plan.parts state.shares → Wrote plan state thread t entries →
    (act : Act) → In act (map (λ (e : Entry). e.act) entries) → Needs plan state act
wrote_needs plan state thread t entries all w act at =
    let where_it = first_enabled plan state t w.move w.first in
    move_needs plan state where_it.number where_it.scenario where_it.stands all t w.move
    (source_of (users_of plan state) where_it.number where_it.scenario t w.move where_it.enabled) act
    (subst (λ those. In act those) (sym (acts_written plan state thread t entries w)) at)

unasked_needs : (plan : Plan) (state : State) (act : Act) → is_asked_act act ≡ false → commands_stop act ≡ false → Needs plan state act
unasked_needs plan state (Return n user item outcome tally) unasked unstopped = tt
unasked_needs plan state (Control commands.Stop) unasked unstopped = absurd cc
unasked_needs plan state (Control (commands.Pause b)) unasked unstopped = tt
unasked_needs plan state (Control (commands.Vus v)) unasked unstopped = tt
unasked_needs plan state (Control (commands.VusMax v)) unasked unstopped = tt
unasked_needs plan state _ unasked unstopped = absurd cc

one_running : (plan : Plan) (state : State) (one : Entry) → AllRunning plan.parts state.shares → adds_one plan state one ≡ true →
    commands_stop one.act ≡ false → AllRunning plan.parts (after_entry plan state one).shares
one_running plan state one all h unstopped =
    let P : Bool → Type 0 = λ b. is_asked_act one.act ≡ b → Needs plan state one.act in
    let needs : P (is_asked_act one.act) = elim (is_asked_act one.act) as P [
      | true ↦ λ asked. wrote_needs plan state one.thread one.reading (one ∷ []) all (one_wrote plan state one asked h) one.act here
      | false ↦ λ unasked. unasked_needs plan state one.act unasked unstopped
    ] in act_running plan state one.turn one.thread one.reading one.act all (needs refl)

two_running : (plan : Plan) (state : State) (one two : Entry) → AllRunning plan.parts state.shares → adds_two plan state one two ≡ true →
    AllRunning plan.parts (after_entry plan (after_entry plan state one) two).shares
two_running plan state one two all h =
    let needs = wrote_needs plan state one.thread one.reading (one ∷ two ∷ []) all (pair_wrote plan state one two h) one.act here in
    let first = act_running plan state one.turn one.thread one.reading one.act all needs in
    let p = pair_of plan state one two h in
    act_running plan (after_entry plan state one) two.turn two.thread two.reading two.act first
    (subst (Needs plan (after_entry plan state one)) p.starts tt)

-- ---- whole histories

-- a commanded stop stays so
pub end_of_stop : (plan : Plan) (n item : ℕ) (state : State) → (end_item_of plan n item state).stop_commanded ≡ state.stop_commanded
end_of_stop plan n item state =
    let P : Option Part → Type 0 = λ o. (option_map_or (λ part. change_share state n (end_item part item)) o state).stop_commanded ≡ state.stop_commanded in
    elim (slice_get plan.parts n) as P [ None ↦ refl | Some part ↦ refl ]

stop_stays : (plan : Plan) (state : State) (at thread t : ℕ) (act : Act) → (commands_stop act || state.stop_commanded) ≡ true →
    (after_entry plan state (record { turn = at; thread = thread; act = act; reading = t })).stop_commanded ≡ true
stop_stays plan state at thread t (Take n user slot) h = h
stop_stays plan state at thread t (Grow n user slot) h = h
stop_stays plan state at thread t (Start n user item until) h = end_of_stop plan n item (change_share state n (put_condition user (Busy thread item until))) ∙ h
stop_stays plan state at thread t (Drop n item) h = end_of_stop plan n item state ∙ h
stop_stays plan state at thread t (Late n item) h = end_of_stop plan n item state ∙ h
stop_stays plan state at thread t (Return n user item outcome tally) h = h
stop_stays plan state at thread t (Release n user) h = h
stop_stays plan state at thread t (Stop n) h = h
stop_stays plan state at thread t (Close n) h = h
stop_stays plan state at thread t (Control commands.Stop) h = refl
stop_stays plan state at thread t (Control (commands.Pause b)) h = h
stop_stays plan state at thread t (Control (commands.Vus v)) h = h
stop_stays plan state at thread t (Control (commands.VusMax v)) h = h

stop_to_end : (plan : Plan) (history : List Entry) (state : State) → state.stop_commanded ≡ true → (after_entries plan state history).stop_commanded ≡ true
stop_to_end plan [] state h = h
stop_to_end plan (one ∷ rest) state h =
    stop_to_end plan rest (after_entry plan state one)
    (stop_stays plan state one.turn one.thread one.reading one.act (or_right (commands_stop one.act) state.stop_commanded h))

-- where no stop was commanded at the end, the entry is no command to stop
no_command : (plan : Plan) (state : State) (one : Entry) (rest : List Entry) →
    (after_entries plan (after_entry plan state one) rest).stop_commanded ≡ false → commands_stop one.act ≡ false
no_command plan state one rest h =
    let P : Bool → Type 0 = λ b. commands_stop one.act ≡ b → commands_stop one.act ≡ false in
    let tested : P (commands_stop one.act) = elim (commands_stop one.act) as P [
      | false ↦ λ e. e
      | true ↦ λ e.
          let now = stop_stays plan state one.turn one.thread one.reading one.act (rw e refl) in
          absurd (true≢false (sym (stop_to_end plan rest (after_entry plan state one) now) ∙ h))
    ] in tested refl

steps_running : (plan : Plan) (history : List Entry) (state : State) → are_steps plan state history ≡ true → AllRunning plan.parts state.shares →
    (after_entries plan state history).stop_commanded ≡ false → AllRunning plan.parts (after_entries plan state history).shares
steps_running plan [] state h all unstopped = all
steps_running plan (one ∷ []) state h all unstopped = one_running plan state one all h (no_command plan state one [] unstopped)
steps_running plan (one ∷ two ∷ rest) state h all unstopped =
    elim (some_true (adds_one plan state one && are_steps plan (after_entry plan state one) (two ∷ rest)) _ h) [
      | inl first ↦
          let both = both_true (adds_one plan state one) _ first in
          steps_running plan (two ∷ rest) (after_entry plan state one) both.1
          (one_running plan state one all both.0 (no_command plan state one (two ∷ rest) unstopped)) unstopped
      | inr second ↦
          let both = both_true (adds_two plan state one two) _ second in
          steps_running plan rest (after_entry plan (after_entry plan state one) two) both.1 (two_running plan state one two all both.0) unstopped
    ]

-- behind a legal history without a commanded stop the shares are so
pub history_running : (plan : Plan) (history : List Entry) → are_steps plan (opening plan) history ≡ true →
    (after_entries plan (opening plan) history).stop_commanded ≡ false → AllRunning plan.parts (after_entries plan (opening plan) history).shares
history_running plan history h unstopped = steps_running plan history (opening plan) h (opening_running plan.parts) unstopped

-- ---- where all are closed

-- nobody is held
pub nobody_there : (parts : List Part) (shares : List Share) → AllRunning parts shares → list_all (λ (share : Share). share.closed) shares ≡ true →
    list_all (λ (share : Share). length share.held == 0) shares ≡ true
nobody_there [] [] all closed = refl
nobody_there [] (share ∷ shares) all closed = absurd all
nobody_there (part ∷ parts) [] all closed = absurd all
nobody_there (part ∷ parts) (share ∷ shares) all closed =
    let both = both_true share.closed _ closed in
    rw (all.0.nobody both.0) (nobody_there parts shares all.1 both.1)

pub nobody_times : (user : ℕ) (parts : List Part) (shares : List Share) → AllRunning parts shares → list_all (λ (share : Share). share.closed) shares ≡ true →
    times_held user shares ≡ 0
nobody_times user [] [] all closed = refl
nobody_times user [] (share ∷ shares) all closed = absurd all
nobody_times user (part ∷ parts) [] all closed = absurd all
nobody_times user (part ∷ parts) (share ∷ shares) all closed =
    let both = both_true share.closed _ closed in
    let later = nobody_times user parts shares all.1 both.1 in
    rw (all.0.nobody both.0) (omega arith)

-- each owned item has ended
pub owned_ended : (parts : List Part) (shares : List Share) (n : ℕ) (part : Part) (item : ℕ) → AllRunning parts shares →
    list_all (λ (share : Share). share.closed) shares ≡ true → slice_get parts n ≡ Some part → In item (owned_items part.executor) →
    has (ended_in shares n) item ≡ true
owned_ended [] shares n part item all closed is owned = absurd cc
owned_ended (p ∷ parts) [] n part item all closed is owned = absurd all
owned_ended (p ∷ parts) (share ∷ shares) zero part item all closed is owned =
    let both = both_true share.closed _ closed in
    let same : p ≡ part = cc in
    all.0.ended both.0 item (subst (λ (x : Part). In item (owned_items x.executor)) (sym same) owned)
owned_ended (p ∷ parts) (share ∷ shares) (suc n) part item all closed is owned =
    owned_ended parts shares n part item all.1 (both_true share.closed _ closed).1 is owned
