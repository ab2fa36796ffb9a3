-- A legal history is settled exactly where every scenario is closed and has no open item.
use Rattle.std.proofs.Common.{◌≡◌, ◌+◌, ◌==◌, ◌<◌, ◌⊎◌, ℕ, zero, suc, Bool, true, false, not, cond, ◌&&◌, List, [], ◌∷◌, Option, None, Some, ◌++◌, length, map, filter, find, arith, refl, sym, ap, ◌∙◌, subst, inl, inr, slice_get}
use Rattle.std.specs.Prelude.{◌↔◌, count_by, is_some}
use Rattle.std.specs.List.{list_all, list_any, cons_option, enumerate_from}
use Rattle.std.specs.Option.{option_map_or}
use Rattle.std.proofs.lemmas.Bool.{true≢false, not-true, not-false}
use Rattle.std.proofs.lemmas.Option.{slice_get_within}
use Rattle.ld_base.specs.declared.act.Act.{Act}
use Rattle.ld_base.specs.declared.act.Act.TheVariants.{Take, Grow, Start, Drop, Late, Return, Release, Stop, Close, Control}
use Rattle.ld_base.specs.declared.command.Command.TheVariants as commands
use Rattle.ld_base.specs.declared.entry.Entry.{Entry}
use Rattle.ld_machine.specs.Plan.{Executor, SharedIterations, PerVuIterations, ConstantVus, RampingVus, ArrivalRate, ExternallyControlled, Part, Plan, owned_items, hard_moment}
use Rattle.ld_machine.specs.State.{StartsNothing, Halted, Idle, Busy, HeldUser, Share, State, Controls, opening, opening_share, all_closed, times_held}
use Rattle.ld_machine.specs.Scenario.{Scenario, is_open, least_open_item, has_open_item, holds_nobody, until_of}
use Rattle.ld_machine.specs.Moves.{CountLate, StartOn, GrowAndStart, TakeAndStart, DropArrival, Move, users_of, scenarios_with, scenarios}
use Rattle.ld_machine.specs.Acts.{acts_of}
use Rattle.ld_machine.specs.Commands.{stop_commanded_share}
use Rattle.ld_machine.specs.Effect.{if_user, hold, put_condition, let_go, change_at, change_share, end_item, end_item_of, after_entry, after_entries, state_after}
use Rattle.ld_machine.specs.History.{adds_one, adds_two, are_steps, IsLegal}
use Rattle.ld_machine.specs.OnTime.{is_asked_act}
use Rattle.ld_machine.specs.Settled.{item_of, items_in, has_items, all_returned, nobody_held, IsSettled, is_unsettled, unsettled}
use Rattle.ld_machine.proofs.ListLemmas.{In, here, there, nothing_in, both_true, some_true, some_not_none, number_itself, any-from_In, in_two, In-one, In-enumerate, Contains-from_In}
use Rattle.ld_machine.proofs.SourceLemmas.{Source, by_stop, by_release, by_take, by_arrival, by_start, by_drop, by_close, source_of}
use Rattle.ld_machine.proofs.StepLemmas.{Wrote, first_enabled, one_wrote, pair_wrote}
use Rattle.ld_machine.proofs.ItemLemmas.{has, least_fresh, ended_in, ended_now, ended_stays, is_there, stands_share}
use Rattle.ld_machine.proofs.HolderLemmas.{opening_holds, or_parts}
use Rattle.ld_machine.proofs.TurnLemmas.{pair_of, acts_written}
use Rattle.ld_machine.proofs.FirstOfAllLemmas.{enumerate-In}
use Rattle.ld_machine.proofs.BusyLemmas.{same_number, held_end_item, held_stop}
use Rattle.ld_machine.proofs.ScenarioListLemmas.{stands_with, length-entries, length-opening}
use Rattle.ld_machine.proofs.SettledLemmas.{settled_item}
use Rattle.ld_machine.proofs.SettlesShareLemmas.{IsOpenAt, take_runs, due_runs, none_open, no_length, its_share, open_at}
use Rattle.ld_machine.proofs.SettlesItemLemmas.{count_none, parts_ended}
use Rattle.ld_machine.proofs.SettlesReturnLemmas.{steps_returned}

-- ---- a closed scenario holds nobody

-- each closed share holds nobody
abbrev Quiet : List Share → Type 0
Quiet shares = (k : ℕ) (share : Share) → slice_get shares k ≡ Some share → share.closed ≡ true → share.held ≡ []

opening_quiet : (parts : List Part) → Quiet (map (λ (part : Part). opening_share) parts)
opening_quiet [] k share at closed = absurd (cc)
opening_quiet (part ∷ parts) zero share at closed = let same : opening_share ≡ share = cc in ap (λ (x : Share). x.held) (sym same)
opening_quiet (part ∷ parts) (suc k) share at closed = opening_quiet parts k share at closed

change_quiet : (n : ℕ) (change : Share → Share) (shares : List Share) →
    ((share : Share) → slice_get shares n ≡ Some share → (share.closed ≡ true → share.held ≡ []) →
    (change share).closed ≡ true → (change share).held ≡ []) →
    Quiet shares → Quiet (change_at n change shares)
change_quiet n change [] keeps quiet k share at closed = absurd (cc)
change_quiet zero change (x ∷ rest) keeps quiet zero share at closed =
    let same : change x ≡ share = cc in
    sym (ap (λ (z : Share). z.held) same) ∙ keeps x refl (quiet zero x refl) (ap (λ (z : Share). z.closed) same ∙ closed)
change_quiet zero change (x ∷ rest) keeps quiet (suc k) share at closed = quiet (suc k) share at closed
change_quiet (suc n) change (x ∷ rest) keeps quiet zero share at closed = quiet zero share at closed
change_quiet (suc n) change (x ∷ rest) keeps quiet (suc k) share at closed =
    change_quiet n change rest keeps (λ j z e. quiet (suc j) z e) k share at closed

end_closed : (part : Part) (item : ℕ) (share : Share) → (end_item part item share).closed ≡ share.closed
end_closed part item share =
    let P : Bool → Type 0 = λ b. (cond b (record share { ended = share.ended ++ item ∷ [] }) share).closed ≡ share.closed in
    elim (list_any (λ k. k == item) (owned_items part.executor)) as P [ true ↦ refl | false ↦ refl ]

end_quiet : (plan : Plan) (n item : ℕ) (state : State) → Quiet state.shares → Quiet (end_item_of plan n item state).shares
end_quiet plan n item state quiet =
    let P : Option Part → Type 0 = λ o. Quiet (option_map_or (λ part. change_share state n (end_item part item)) o state).shares in
    elim (slice_get plan.parts n) as P [
      | None ↦ quiet
      | Some part ↦ change_quiet n (end_item part item) state.shares
          (λ share at q closed. held_end_item part item share ∙ q (sym (end_closed part item share) ∙ closed)) quiet
    ]

stop_closed : (t : ℕ) (share : Share) → (stop_commanded_share t share).closed ≡ share.closed
stop_closed t share =
    let P : Bool → Type 0 = λ b. (cond b share (record share { level = StartsNothing t })).closed ≡ share.closed in
    elim share.closed as P [ true ↦ refl | false ↦ refl ]

stop_quiet : (t : ℕ) (shares : List Share) → Quiet shares → Quiet (map (stop_commanded_share t) shares)
stop_quiet t [] quiet k share at closed = absurd (cc)
stop_quiet t (x ∷ rest) quiet zero share at closed =
    let same : stop_commanded_share t x ≡ share = cc in
    sym (ap (λ (z : Share). z.held) same) ∙ held_stop t x
    ∙ quiet zero x refl (sym (stop_closed t x) ∙ ap (λ (z : Share). z.closed) same ∙ closed)
stop_quiet t (x ∷ rest) quiet (suc k) share at closed = stop_quiet t rest (λ j z e. quiet (suc j) z e) k share at closed

-- only an open scenario takes or grows users, and one that holds nobody closes
abbrev NeedsQuiet : State → Act → Type 0
NeedsQuiet state (Take n _ _) = IsOpenAt state n
NeedsQuiet state (Grow n _ _) = IsOpenAt state n
NeedsQuiet state (Close n) = (share : Share) → slice_get state.shares n ≡ Some share → share.held ≡ []
NeedsQuiet state _ = Unit {0}

opened_holds : {B : Type 0} (share : Share) → share.closed ≡ false → share.closed ≡ true → B
opened_holds share opened closed = absurd (true≢false (sym closed ∙ opened))

act_quiet : (plan : Plan) (state : State) (at thread t : ℕ) (act : Act) → Quiet state.shares → NeedsQuiet state act →
    Quiet (after_entry plan state (record { turn = at; thread = thread; act = act; reading = t })).shares
act_quiet plan state at thread t (Take n user slot) quiet needs =
    change_quiet n (hold user slot) state.shares (λ share stands q closed. opened_holds share (needs share stands) closed) quiet
act_quiet plan state at thread t (Grow n user slot) quiet needs =
    change_quiet n (hold user slot) state.shares (λ share stands q closed. opened_holds share (needs share stands) closed) quiet
act_quiet plan state at thread t (Start n user item until) quiet needs =
    end_quiet plan n item (change_share state n (put_condition user (Busy thread item until)))
    (change_quiet n (put_condition user (Busy thread item until)) state.shares
    (λ share stands q closed. ap (λ held. map (if_user user (Busy thread item until)) held) (q closed)) quiet)
act_quiet plan state at thread t (Drop n item) quiet needs = end_quiet plan n item state quiet
act_quiet plan state at thread t (Late n item) quiet needs = end_quiet plan n item state quiet
act_quiet plan state at thread t (Return n user item outcome tally) quiet needs =
    change_quiet n (put_condition user Idle) state.shares (λ share stands q closed. ap (λ held. map (if_user user Idle) held) (q closed)) quiet
act_quiet plan state at thread t (Release n user) quiet needs =
    change_quiet n (let_go user) state.shares
    (λ share stands q closed. ap (λ held. filter (λ (h : HeldUser). not (h.user == user)) held) (q closed)) quiet
act_quiet plan state at thread t (Stop n) quiet needs =
    change_quiet n (λ (share : Share). record share { level = Halted }) state.shares (λ share stands q closed. q closed) quiet
act_quiet plan state at thread t (Close n) quiet needs =
    change_quiet n (λ (share : Share). record share { closed = true }) state.shares (λ share stands q closed. needs share stands) quiet
act_quiet plan state at thread t (Control commands.Stop) quiet needs = stop_quiet t state.shares quiet
act_quiet plan state at thread t (Control (commands.Pause b)) quiet needs = quiet
act_quiet plan state at thread t (Control (commands.Vus v)) quiet needs = quiet
act_quiet plan state at thread t (Control (commands.VusMax v)) quiet needs = quiet

needs_by : (state : State) (one act : Act) → one ≡ act → NeedsQuiet state one → NeedsQuiet state act
needs_by state one act same needs = subst (NeedsQuiet state) same needs

-- each act of an enabled move has what it needs
move_needs : (plan : Plan) (state : State) (k : ℕ) (s : Scenario) → slice_get (scenarios plan state) k ≡ Some s → (t : ℕ) (move : Move) →
    Source (users_of plan state) k s t move → (act : Act) → In act (acts_of move) → NeedsQuiet state act
move_needs plan state k s stands t move (by_stop e) act at = needs_by state (Stop k) act (In-one act _ at) tt
move_needs plan state k s stands t move (by_release u idle e) act at = needs_by state (Release k u.user) act (In-one act _ at) tt
move_needs plan state k s stands t move (by_take user slot free slots e) act at =
    needs_by state (Take k user slot) act (In-one act _ at) (open_at plan state k s stands (take_runs s slot t e))
move_needs plan state k s stands t move (by_start u item idle e) act at =
    needs_by state (Start k u.user item (until_of s u.slot t)) act (In-one act _ at) tt
move_needs plan state k s stands t move (by_drop item e) act at = needs_by state (Drop k item) act (In-one act _ at) tt
move_needs plan state k s stands t move (by_close e) act at =
    let front = both_true (is_open s && holds_nobody s) _ e in
    let nobody = (both_true (is_open s) (holds_nobody s) front.0).1 in
    needs_by state (Close k) act (In-one act _ at)
    (λ share is. subst (λ (x : Share). x.held ≡ []) (sym (its_share plan state k s stands share is)) (no_length s.share.held nobody))
move_needs plan state k s stands t move (by_arrival a CountLate due e) act at = needs_by state (Late k a.item) act (In-one act _ at) tt
move_needs plan state k s stands t move (by_arrival a DropArrival due e) act at = needs_by state (Drop k a.item) act (In-one act _ at) tt
move_needs plan state k s stands t move (by_arrival a (StartOn user) due e) act at =
    needs_by state (Start k user a.item (hard_moment s.part)) act (In-one act _ at) tt
move_needs plan state k s stands t move (by_arrival a (GrowAndStart user slot) due e) act at =
    elim (in_two act _ _ at) [
      | inl grown ↦ needs_by state (Grow k user slot) act grown (open_at plan state k s stands (due_runs s t a due))
      | inr started ↦ needs_by state (Start k user a.item (hard_moment s.part)) act started tt
    ]
move_needs plan state k s stands t move (by_arrival a (TakeAndStart user slot) due e) act at =
    elim (in_two act _ _ at) [
      | inl taken ↦ needs_by state (Take k user slot) act taken (open_at plan state k s stands (due_runs s t a due))
      | inr started ↦ needs_by state (Start k user a.item (hard_moment s.part)) act started tt
    ]

wrote_needs : (plan : Plan) (state : State) (thread t : ℕ) (entries : List Entry) → Wrote plan state thread t entries →
    (act : Act) → In act (map (λ (e : Entry). e.act) entries) → NeedsQuiet state act
wrote_needs plan state thread t entries w act at =
    let where_it = first_enabled plan state t w.move w.first in
    move_needs plan state where_it.number where_it.scenario where_it.stands t w.move
    (source_of (users_of plan state) where_it.number where_it.scenario t w.move where_it.enabled) act
    (subst (λ those. In act those) (sym (acts_written plan state thread t entries w)) at)

unasked_needs : (state : State) (act : Act) → is_asked_act act ≡ false → NeedsQuiet state act
unasked_needs state (Return n user item outcome tally) unasked = tt
unasked_needs state (Control command) unasked = tt
unasked_needs state _ unasked = absurd (cc)

one_quiet : (plan : Plan) (state : State) (one : Entry) → Quiet state.shares → adds_one plan state one ≡ true →
    Quiet (after_entry plan state one).shares
one_quiet plan state one quiet h =
    let P : Bool → Type 0 = λ b. is_asked_act one.act ≡ b → NeedsQuiet state one.act in
    let needs : P (is_asked_act one.act) = elim (is_asked_act one.act) as P [
      | true ↦ λ asked. wrote_needs plan state one.thread one.reading (one ∷ []) (one_wrote plan state one asked h) one.act here
      | false ↦ λ unasked. unasked_needs state one.act unasked
    ] in act_quiet plan state one.turn one.thread one.reading one.act quiet (needs refl)

two_quiet : (plan : Plan) (state : State) (one two : Entry) → Quiet state.shares → adds_two plan state one two ≡ true →
    Quiet (after_entry plan (after_entry plan state one) two).shares
two_quiet plan state one two quiet h =
    let needs = wrote_needs plan state one.thread one.reading (one ∷ two ∷ []) (pair_wrote plan state one two h) one.act here in
    let first = act_quiet plan state one.turn one.thread one.reading one.act quiet needs in
    let p = pair_of plan state one two h in
    act_quiet plan (after_entry plan state one) two.turn two.thread two.reading two.act first
    (subst (NeedsQuiet (after_entry plan state one)) p.starts tt)

steps_quiet : (plan : Plan) (history : List Entry) (state : State) → are_steps plan state history ≡ true → Quiet state.shares →
    Quiet (after_entries plan state history).shares
steps_quiet plan [] state h quiet = quiet
steps_quiet plan (one ∷ []) state h quiet = one_quiet plan state one quiet h
steps_quiet plan (one ∷ two ∷ rest) state h quiet =
    elim (some_true (adds_one plan state one && are_steps plan (after_entry plan state one) (two ∷ rest)) _ h) [
      | inl first ↦
          let both = both_true (adds_one plan state one) _ first in
          steps_quiet plan (two ∷ rest) (after_entry plan state one) both.1 (one_quiet plan state one quiet both.0)
      | inr second ↦
          let both = both_true (adds_two plan state one two) _ second in
          steps_quiet plan rest (after_entry plan (after_entry plan state one) two) both.1 (two_quiet plan state one two quiet both.0)
    ]

-- where all are closed, nobody is held
nobody_quiet : (shares : List Share) → Quiet shares → list_all (λ (share : Share). share.closed) shares ≡ true →
    list_all (λ (share : Share). length share.held == 0) shares ≡ true
nobody_quiet [] quiet closed = refl
nobody_quiet (share ∷ shares) quiet closed =
    let both = both_true share.closed _ closed in
    rw (quiet zero share refl both.0) (nobody_quiet shares (λ j z e. quiet (suc j) z e) both.1)

times_quiet : (user : ℕ) (shares : List Share) → Quiet shares → list_all (λ (share : Share). share.closed) shares ≡ true → times_held user shares ≡ 0
times_quiet user [] quiet closed = refl
times_quiet user (share ∷ shares) quiet closed =
    let both = both_true share.closed _ closed in
    let later = times_quiet user shares (λ j z e. quiet (suc j) z e) both.1 in
    rw (quiet zero share refl both.0) (omega arith)

-- ---- nothing unsettled is found exactly where no scenario is unsettled

-- a search finds nothing exactly where nothing passes
find_nothing : {A : Type 0} (p : A → Bool) (xs : List A) → ((x : A) → In x xs → p x ≡ false) → find p xs ≡ None
find_nothing p [] fails = refl
find_nothing p (x ∷ xs) fails = rw (fails x here) (find_nothing p xs (λ y at. fails y (there at)))

nothing_found : {A : Type 0} (p : A → Bool) (x : A) {xs : List A} → In x xs → find p xs ≡ None → p x ≡ false
nothing_found {A} p x (here {xs = xs}) h =
    let P : Bool → Type 0 = λ b. p x ≡ b → cond b (Some x) (find p xs) ≡ None → p x ≡ false in
    let fails : P (p x) = elim (p x) as P [ true ↦ λ e at. absurd (some_not_none at) | false ↦ λ e at. e ] in
    fails refl h
nothing_found {A} p x (there {y = y} {xs = xs} more) h =
    let P : Bool → Type 0 = λ b. cond b (Some y) (find p xs) ≡ None → p x ≡ false in
    let fails : P (p y) = elim (p y) as P [ true ↦ λ at. absurd (some_not_none at) | false ↦ λ at. nothing_found p x more at ] in
    fails h

-- no scenario is unsettled
abbrev NoneUnsettled : Plan → State → Type 0
NoneUnsettled plan state = (n : ℕ) (s : Scenario) → slice_get (scenarios plan state) n ≡ Some s → is_unsettled s ≡ false

module _ (plan : Plan) (state : State) where
  abbrev is_such : ℕ × Scenario → Bool
  is_such p = is_unsettled p.1

  abbrev told_of : ℕ × Scenario → Option (ℕ × ℕ)
  told_of p = Some (p.0, option_map_or (λ item. item) (least_open_item p.1) p.1.part.whole_items)

  nothing_unsettled : find is_such (enumerate_from 0 (scenarios plan state)) ≡ None → NoneUnsettled plan state
  nothing_unsettled none n s stands =
      nothing_found is_such (0 + n, s) (enumerate-In 0 n s (scenarios plan state) stands) none

  unsettled_none : unsettled plan state ≡ None → NoneUnsettled plan state
  unsettled_none h =
      let P : Option (ℕ × Scenario) → Type 0 = λ o. find is_such (enumerate_from 0 (scenarios plan state)) ≡ o →
      option_map_or told_of o None ≡ None → NoneUnsettled plan state in
      let none : P (find is_such (enumerate_from 0 (scenarios plan state))) = elim (find is_such (enumerate_from 0 (scenarios plan state))) as P [
        | None ↦ λ e at. nothing_unsettled e
        | Some p ↦ λ e at. absurd (some_not_none at)
      ] in none refl h

  none_unsettled : NoneUnsettled plan state → unsettled plan state ≡ None
  none_unsettled none =
      let found : find is_such (enumerate_from 0 (scenarios plan state)) ≡ None =
      find_nothing is_such (enumerate_from 0 (scenarios plan state)) (λ p at.
      let place = (In-enumerate 0 p (scenarios plan state) at).1 in
      none place.0 p.1 place.2) in
      rw found refl

-- ---- where no scenario is unsettled

-- a share of each part
pub its_share_there : (parts : List Part) (shares : List Share) (n : ℕ) (part : Part) → length shares ≡ length parts → slice_get parts n ≡ Some part →
    (share : Share) × (slice_get shares n ≡ Some share)
its_share_there [] shares n part same at = absurd (cc)
its_share_there (p ∷ parts) [] n part same at = absurd (omega arith)
its_share_there (p ∷ parts) (share ∷ shares) zero part same at = (share, refl)
its_share_there (p ∷ parts) (share ∷ shares) (suc n) part same at = its_share_there parts shares n part (omega arith) at

-- as many shares as parts
pub shares_there : (plan : Plan) (history : List Entry) → length (state_after plan history).shares ≡ length plan.parts
shares_there plan history = length-entries plan history (opening plan) ∙ length-opening plan.parts

settled_parts : (s : Scenario) → is_unsettled s ≡ false → (s.share.closed ≡ true) × (has_open_item s ≡ false)
settled_parts s settled =
    let both = or_parts (is_open s) (has_open_item s) settled in
    (not-false s.share.closed both.0, both.1)

closed_with : (controls : Controls) (parts : List Part) (shares : List Share) → length shares ≡ length parts →
    ((n : ℕ) (s : Scenario) → slice_get (scenarios_with controls parts shares) n ≡ Some s → is_unsettled s ≡ false) →
    list_all (λ (share : Share). share.closed) shares ≡ true
closed_with controls [] [] same none = refl
closed_with controls [] (share ∷ shares) same none = absurd (omega arith)
closed_with controls (part ∷ parts) [] same none = absurd (omega arith)
closed_with controls (part ∷ parts) (share ∷ shares) same none =
    let now = (settled_parts (record { part = part; share = share; controls = controls }) (none zero _ refl)).0 in
    rw now (closed_with controls parts shares (omega arith) (λ n s stands. none (suc n) s stands))

module _ (plan : Plan) (state : State) (same : length state.shares ≡ length plan.parts) (none : NoneUnsettled plan state) where
  closed_where_none : all_closed state ≡ true
  closed_where_none = closed_with state.controls plan.parts state.shares same none

  ended_where_none : (n : ℕ) (part : Part) (item : ℕ) → slice_get plan.parts n ≡ Some part → In item (owned_items part.executor) →
      has (ended_in state.shares n) item ≡ true
  ended_where_none n part item is owned =
      let there_is = its_share_there plan.parts state.shares n part same is in
      let s : Scenario = record { part = part; share = there_is.0; controls = state.controls } in
      let stands = stands_with state.controls plan.parts state.shares n part there_is.0 is there_is.1 in
      let its_ended = (stands_share state.controls plan.parts state.shares n s stands).2 in
      subst (λ ended. has ended item ≡ true) (sym its_ended) (none_open s item (settled_parts s (none n s stands)).1 owned)

settled_where_none : (plan : Plan) (history : List Entry) → IsLegal plan history → NoneUnsettled plan (state_after plan history) →
    IsSettled plan history
settled_where_none plan history legal none =
    let state = state_after plan history in
    let same = shares_there plan history in
    let closed = closed_where_none plan state same none in
    let quiet = steps_quiet plan history (opening plan) legal (opening_quiet plan.parts) in
    let nobody : nobody_held state ≡ true = nobody_quiet state.shares quiet closed in
    let returned : all_returned history ≡ true =
    steps_returned plan history (opening plan) legal (opening_holds plan) (λ user. times_quiet user state.shares quiet closed) in
    let ended = parts_ended plan history legal (ended_where_none plan state same none) in
    rw (closed, ended, returned, nobody) refl

-- ---- where a history is settled

-- a share stands at each place
pub there_below : (shares : List Share) (k : ℕ) → k < length shares → is_there shares k ≡ true
there_below [] k below = absurd (omega arith)
there_below (share ∷ rest) zero below = refl
there_below (share ∷ rest) (suc k) below = there_below rest k (omega arith)

-- what an entry of a scenario with items ends has ended behind the history
module _ (plan : Plan) (part : Part) (n item : ℕ) (stands : slice_get plan.parts n ≡ Some part)
    (owned : has (owned_items part.executor) item ≡ true) where
  ended_on : (history : List Entry) (state : State) → has (ended_in state.shares n) item ≡ true →
      has (ended_in (after_entries plan state history).shares n) item ≡ true
  ended_on [] state h = h
  ended_on (one ∷ rest) state h = ended_on rest (after_entry plan state one) (ended_stays plan state one.turn one.thread one.reading one.act n item h)

  among_first : (o : Option ℕ) (items : List ℕ) → has (cons_option o items) item ≡ true → (o ≡ Some item) ⊎ (has items item ≡ true)
  among_first None items h = inr h
  among_first (Some i) items h =
      elim (some_true (i == item) (has items item) h) [ inl it ↦ inl (ap Some (same_number i item it)) | inr later ↦ inr later ]

  ended_behind : (history : List Entry) (state : State) → n < length state.shares → has (items_in n history) item ≡ true →
      has (ended_in (after_entries plan state history).shares n) item ≡ true
  ended_behind [] state below h = absurd (cc)
  ended_behind (one ∷ rest) state below h =
      elim (among_first (item_of n one.act) (items_in n rest) h) [
        | inl it ↦
            ended_on rest (after_entry plan state one)
            (ended_now plan part state one.turn one.thread one.reading one.act n item stands (there_below state.shares n below) owned it)
        | inr later ↦
            let same = length-entries plan (one ∷ []) state in
            ended_behind rest (after_entry plan state one) (omega arith) later
      ]

-- an executor with an owned item has items
owned_has_items : (executor : Executor) (item : ℕ) → In item (owned_items executor) → has_items executor ≡ true
owned_has_items (SharedIterations users items) item at = refl
owned_has_items (PerVuIterations slots items) item at = refl
owned_has_items (ArrivalRate pre_allocated max_vus arrivals) item at = refl
owned_has_items (ConstantVus slots) item at = absurd (nothing_in at)
owned_has_items (RampingVus ramp_grace slots) item at = absurd (nothing_in at)
owned_has_items (ExternallyControlled vus max_vus slots) item at = absurd (nothing_in at)

-- an element at a place passes a test that all pass
pub passes_place : {A : Type 0} (p : A → Bool) (xs : List A) (n : ℕ) (x : A) → list_all p xs ≡ true → slice_get xs n ≡ Some x → p x ≡ true
passes_place p [] n x all at = absurd (cc)
passes_place p (y ∷ ys) zero x all at = let same : y ≡ x = cc in subst (λ z. p z ≡ true) same (both_true (p y) _ all).0
passes_place p (y ∷ ys) (suc n) x all at = passes_place p ys n x (both_true (p y) _ all).1 at

-- an owned item of a settled history stands in it
stands_once : (item : ℕ) (items : List ℕ) → count_by (λ k. k == item) items ≡ 1 → has items item ≡ true
stands_once item items once =
    let P : Bool → Type 0 = λ b. has items item ≡ b → has items item ≡ true in
    let stands : P (has items item) = elim (has items item) as P [
      | true ↦ λ e. e
      | false ↦ λ e. let none = count_none item items e in absurd (omega arith)
    ] in stands refl

module _ (plan : Plan) (history : List Entry) (settled : IsSettled plan history) where
  all_closed_there : all_closed (state_after plan history) ≡ true
  all_closed_there =
      let front = both_true _ (nobody_held (state_after plan history)) settled in
      let middle = both_true _ (all_returned history) front.0 in
      (both_true (all_closed (state_after plan history)) _ middle.0).0

  no_open : (n : ℕ) (s : Scenario) (item : ℕ) → slice_get (scenarios plan (state_after plan history)) n ≡ Some s → least_open_item s ≡ Some item → ⊥
  no_open n s item stands least =
      let fresh = least_fresh s item least in
      let of_it = stands_share (state_after plan history).controls plan.parts (state_after plan history).shares n s stands in
      let once = settled_item plan history n s.part item settled of_it.0
      (owned_has_items s.part.executor item fresh.owned) (Contains-from_In item fresh.owned) in
      let owned = any-from_In (λ k. k == item) item fresh.owned (number_itself item) in
      let below = slice_get_within plan.parts n s.part of_it.0 in
      let same = length-opening plan.parts in
      let ended = ended_behind plan s.part n item of_it.0 owned history (opening plan) (omega arith) (stands_once item (items_in n history) once) in
      true≢false (sym (subst (λ those. has those item ≡ true) of_it.2 ended) ∙ not-true (has s.share.ended item) fresh.opened)

  none_where_settled : NoneUnsettled plan (state_after plan history)
  none_where_settled n s stands =
      let of_it = stands_share (state_after plan history).controls plan.parts (state_after plan history).shares n s stands in
      let closed = passes_place (λ (x : Share). x.closed) (state_after plan history).shares n s.share all_closed_there of_it.1 in
      let P : Option ℕ → Type 0 = λ o. least_open_item s ≡ o → is_some o ≡ false in
      let none : P (least_open_item s) = elim (least_open_item s) as P [ None ↦ λ e. refl | Some item ↦ λ e. absurd (no_open n s item stands e) ] in
      rw closed (none refl)

-- a legal history is settled exactly where nothing is unsettled behind it
pub unsettled_tells : (plan : Plan) (history : List Entry) → IsLegal plan history →
    (unsettled plan (state_after plan history) ≡ None) ↔ IsSettled plan history
unsettled_tells plan history legal = (
  λ none. settled_where_none plan history legal (unsettled_none plan (state_after plan history) none),
  λ settled. none_unsettled plan (state_after plan history) (none_where_settled plan history settled),
)
