-- Where nothing is enabled at the end of all moments, an open scenario holds a user that plays.
use Rattle.std.proofs.Common.{Contains, ◌≡◌, ◌<◌, ◌≤◌, ℕ, suc, Bool, true, false, cond, ◌&&◌, nat_le, List, [], ◌∷◌, ◌++◌, ◌⊎◌, inl, inr, Option, None, Some, find, map, filter, flat_map, arith, refl, sym, subst, slice_get}
use Rattle.std.proofs.lemmas.Grind.{common_steps}
use Rattle.std.specs.Prelude.{is_some, option_map, option_to_list}
use Rattle.std.specs.List.{list_all}
use Rattle.std.specs.Option.{option_map_or}
use Rattle.ld_base.specs.declared.entry.Entry.{Entry}
use Rattle.ld_machine.specs.Moment.{last_moment}
use Rattle.ld_machine.specs.Plan.{Interval, RampingSlot, Arrival, Executor, SharedIterations, PerVuIterations, ConstantVus, RampingVus, ArrivalRate, ExternallyControlled, Part, Plan, off_moment, due_moment, hard_moment, owned_items}
use Rattle.ld_machine.specs.State.{Condition, Idle, Busy, HeldUser, Share, is_idle, is_busy, idle_users, all_closed}
use Rattle.ld_machine.specs.Scenario.{Scenario, first_of, is_open, level_runs, runs, has_begun, has_ended, is_open_item, least_open_item, has_open_item, interval_at, is_slot_on, executor_may_release, may_release, executor_item_to_drop, item_to_drop, holds_nobody, executor_may_close, may_close, executor_arrivals, least_open_arrival, is_due, due_arrival}
use Rattle.ld_machine.specs.Moves.{CountLate, Move, ReleaseUser, AnswerArrival, DropIteration, CloseScenario, Users, users_of, answers, stops, releases, takes, answers_to, arrivals, starts, drops, closes, moves_of, enabled}
use Rattle.ld_machine.specs.Effect.{state_after}
use Rattle.ld_machine.specs.History.{IsLegal}
use Rattle.ld_machine.specs.WellTimed.{executor_intervals, IsWellTimed, WellTimed}
use Rattle.ld_machine.proofs.ListLemmas.{In, here, nothing_in, filter-In, map-In, found_in, Contains-from_In}
use Rattle.ld_machine.proofs.WaitLemmas.{In-left, In-right}
use Rattle.ld_machine.proofs.FirstOfAllLemmas.{act_enabled}
use Rattle.ld_machine.proofs.ScenarioListLemmas.{stands_with}
use Rattle.ld_machine.proofs.SettlesShareLemmas.{Running, AllRunning, history_running}
use Rattle.ld_machine.proofs.StartsLastLemmas.{interval_found, timed_at}

no_later : (m t : ℕ) → m ≤ t → nat_le m t ≡ true
no_later m t h = grind (arith, common_steps)

-- ---- an open item of a list

-- where some item of arrivals is open, there is a least open arrival
first_arrival : (p : ℕ → Bool) (item : ℕ) (arrivals : List Arrival) → first_of (filter p (map (λ (a : Arrival). a.item) arrivals)) ≡ Some item →
    (a : Arrival) × (find (λ (x : Arrival). p x.item) arrivals ≡ Some a)
first_arrival p item [] h = absurd (cc)
first_arrival p item (x ∷ rest) h =
    let P : Bool → Type 0 = λ b. first_of (cond b (x.item ∷ filter p (map (λ (a : Arrival). a.item) rest)) (filter p (map (λ (a : Arrival). a.item) rest))) ≡ Some item →
    (a : Arrival) × (cond b (Some x) (find (λ (y : Arrival). p y.item) rest) ≡ Some a) in
    let found : P (p x.item) = elim (p x.item) as P [
      | true ↦ λ e. (x, refl)
      | false ↦ λ e. first_arrival p item rest e
    ] in found h

-- ---- a scenario that runs, behind its end, where none of its acts is enabled

module _ (users : Users) (n : ℕ) (s : Scenario) (t : ℕ) (timed : IsWellTimed s.part) (behind : s.part.end ≤ t)
    (opened : is_open s ≡ true) (level : level_runs s.share.level ≡ true) (nothing : (m : Move) → In m (moves_of users n s t) → ⊥) where
  ended : has_ended s t ≡ true
  ended = no_later s.part.end t behind

  begun : has_begun s t ≡ true
  begun = let begins : s.part.begin ≤ s.part.end = timed.begins in no_later s.part.begin t (omega arith)

  run : runs s ≡ true
  run = rw (opened, level) refl

  -- ---- which acts would be enabled

  no_close : may_close s t ≡ true → ⊥
  no_close may =
      nothing (CloseScenario n)
      (In-right (CloseScenario n) (stops n s t ++ releases n s t ++ takes n s users t ++ arrivals n s users t ++ starts n s t ++ drops n s t)
      (subst (λ b. In (CloseScenario n) (cond b (CloseScenario n ∷ []) [])) (sym may) here))

  no_drop : (item : ℕ) → item_to_drop s t ≡ Some item → ⊥
  no_drop item is =
      nothing (DropIteration n item)
      (In-left (DropIteration n item) (closes n s t)
      (In-right (DropIteration n item) (stops n s t ++ releases n s t ++ takes n s users t ++ arrivals n s users t ++ starts n s t)
      (subst (λ o. In (DropIteration n item) (option_to_list (option_map (λ i. DropIteration n i) o))) (sym is) here)))

  no_arrival : (a : Arrival) → due_arrival s t ≡ Some a → ⊥
  no_arrival a is =
      let move = AnswerArrival n (due_moment s.part a) a.item (hard_moment s.part) CountLate in
      let late : In CountLate (answers s users t) = rw ended here in
      nothing move
      (In-left move (closes n s t)
      (In-left move (drops n s t)
      (In-left move (starts n s t)
      (In-right move (stops n s t ++ releases n s t ++ takes n s users t)
      (subst (λ o. In move (option_map_or (answers_to n s users t) o [])) (sym is)
      (map-In (λ answer. AnswerArrival n (due_moment s.part a) a.item (hard_moment s.part) answer) CountLate late))))))

  no_release : (h : HeldUser) → In h (idle_users s.share) → may_release s h.slot t ≡ true → ⊥
  no_release h idle may =
      let move = ReleaseUser n h.user in
      nothing move
      (In-left move (closes n s t)
      (In-left move (drops n s t)
      (In-left move (starts n s t)
      (In-left move (arrivals n s users t)
      (In-left move (takes n s users t)
      (In-right move (stops n s t)
      (map-In (λ (u : HeldUser). ReleaseUser n u.user) h (filter-In (λ (u : HeldUser). may_release s u.slot t) h idle may))))))))

  -- ---- behind the end each idle user is released

  slot_is_off : (slots : List RampingSlot) (slot : ℕ) →
      ((i : Interval) → In i (flat_map (λ (r : RampingSlot). r.intervals) slots) → off_moment s.part i ≤ s.part.end) → is_slot_on s slots slot t ≡ false
  slot_is_off slots slot off =
      let P : Option Interval → Type 0 = λ o. interval_at s.part slots slot t ≡ o → is_some o ≡ false in
      let tested : P (interval_at s.part slots slot t) = elim (interval_at s.part slots slot t) as P [
        | None ↦ λ e. refl
        | Some i ↦ λ e.
            let found = interval_found s.part slots slot t i e in
            let before : t < off_moment s.part i = found.1 in
            let within : off_moment s.part i ≤ s.part.end = off i found.0 in
            absurd (omega arith)
      ] in tested refl

  ended_releases : (executor : Executor) (slot : ℕ) → ((i : Interval) → In i (executor_intervals executor) → off_moment s.part i ≤ s.part.end) →
      executor_may_release executor s slot t ≡ true
  ended_releases (SharedIterations _ _) slot off = rw ended refl
  ended_releases (PerVuIterations _ _) slot off = rw ended refl
  ended_releases (ConstantVus _) slot off = ended
  ended_releases (RampingVus _ slots) slot off = rw (slot_is_off slots slot off) refl
  ended_releases (ArrivalRate _ _ _) slot off = ended
  ended_releases (ExternallyControlled _ _ _) slot off = rw ended refl

  releases_idle : (slot : ℕ) → may_release s slot t ≡ true
  releases_idle slot = rw (opened, level, ended_releases s.part.executor slot (λ i at. timed.off i (Contains-from_In i at))) refl

  -- ---- and no item is open

  is_answered : (a : Arrival) → least_open_arrival s ≡ Some a → due_arrival s t ≡ Some a
  is_answered a least =
      let at = (found_in (λ (x : Arrival). is_open_item s x.item) a (executor_arrivals s.part.executor) least).0 in
      let before : due_moment s.part a < s.part.end = timed.due a (Contains-from_In a at) in
      let due : is_due s t a ≡ true = no_later (due_moment s.part a) t (omega arith) in
      rw (run, least, due) refl

  -- an open item may be dropped, or it is that of an open arrival
  open_item_ends : (executor : Executor) (item : ℕ) → first_of (filter (is_open_item s) (owned_items executor)) ≡ Some item → least_open_item s ≡ Some item →
      (executor_item_to_drop executor s t ≡ Some item) ⊎ ((a : Arrival) × (find (λ (x : Arrival). is_open_item s x.item) (executor_arrivals executor) ≡ Some a))
  open_item_ends (SharedIterations _ _) item first least = inl (rw (run, ended) least)
  open_item_ends (PerVuIterations _ _) item first least = inl (rw (run, ended) least)
  open_item_ends (ConstantVus _) item first least = absurd (cc)
  open_item_ends (RampingVus _ _) item first least = absurd (cc)
  open_item_ends (ArrivalRate _ _ arrivals) item first least = inr (first_arrival (is_open_item s) item arrivals first)
  open_item_ends (ExternallyControlled _ _ _) item first least = absurd (cc)

  no_open_item : has_open_item s ≡ false
  no_open_item =
      let P : Option ℕ → Type 0 = λ o. least_open_item s ≡ o → is_some o ≡ false in
      let tested : P (least_open_item s) = elim (least_open_item s) as P [
        | None ↦ λ e. refl
        | Some item ↦ λ e. elim (open_item_ends s.part.executor item e e) [
          | inl dropped ↦ absurd (no_drop item dropped)
          | inr due ↦ absurd (no_arrival due.0 (is_answered due.0 due.1))
        ]
      ] in tested refl

  -- ---- so somebody is held and busy

  ended_closes : (executor : Executor) → executor_may_close executor s t ≡ true
  ended_closes (SharedIterations _ _) = begun
  ended_closes (PerVuIterations _ _) = begun
  ended_closes (ConstantVus _) = ended
  ended_closes (RampingVus _ _) = ended
  ended_closes (ArrivalRate _ _ _) = ended
  ended_closes (ExternallyControlled _ _ _) = ended

  closes_empty : s.share.held ≡ [] → may_close s t ≡ true
  closes_empty none =
      let nobody : holds_nobody s ≡ true = rw none refl in
      rw (opened, nobody, level, no_open_item, ended_closes s.part.executor) refl

  not_idle : (h : HeldUser) → In h s.share.held → is_busy h ≡ true
  not_idle h at =
      let P : Condition → Type 0 = λ c. h.condition ≡ c → is_busy h ≡ true in
      let tested : P h.condition = elim h.condition as P [
        | Idle ↦ λ e. let idle : is_idle h ≡ true = rw e refl in absurd (no_release h (filter-In is_idle h at idle) (releases_idle h.slot))
        | Busy thread item until ↦ λ e. rw e refl
      ] in tested refl

  someone_busy : (held : List HeldUser) → s.share.held ≡ held → (h : HeldUser) × In h s.share.held × (is_busy h ≡ true)
  someone_busy [] none = absurd (no_close (closes_empty none))
  someone_busy (h ∷ rest) is = let at : In h s.share.held = subst (λ users. In h users) (sym is) here in (h, at, not_idle h at)

-- ---- an open scenario of a state

-- a scenario whose share isn't closed, and runs
record OpenAt (parts : List Part) (shares : List Share) : Type 0 where
  number : ℕ
  part : Part
  share : Share
  part_is : slice_get parts number ≡ Some part
  stands : slice_get shares number ≡ Some share
  opened : share.closed ≡ false
  running : Running part share

some_open : (parts : List Part) (shares : List Share) → AllRunning parts shares → list_all (λ (share : Share). share.closed) shares ≡ false → OpenAt parts shares
some_open [] [] all closed = absurd (cc)
some_open [] (share ∷ shares) all closed = absurd all
some_open (part ∷ parts) [] all closed = absurd all
some_open (part ∷ parts) (share ∷ shares) all closed =
    let P : Bool → Type 0 = λ b. share.closed ≡ b → (b && list_all (λ (x : Share). x.closed) shares) ≡ false → OpenAt (part ∷ parts) (share ∷ shares) in
    let found : P share.closed = elim share.closed as P [
      | false ↦ λ e rest. record { number = 0; part = part; share = share; part_is = refl; stands = refl; opened = e; running = all.0 }
      | true ↦ λ e rest.
          let later = some_open parts shares all.1 rest in
          record {
            number = suc later.number;
            part = later.part;
            share = later.share;
            part_is = later.part_is;
            stands = later.stands;
            opened = later.opened;
            running = later.running;
          }
    ] in found refl closed

pub plays_at_the_end : (plan : Plan) (history : List Entry) (t : ℕ) → WellTimed plan → IsLegal plan history →
    (state_after plan history).stop_commanded ≡ false → all_closed (state_after plan history) ≡ false → last_moment ≤ t →
    enabled plan (state_after plan history) t ≡ [] →
    (n : ℕ) × (share : Share) × (h : HeldUser) × (slice_get (state_after plan history).shares n ≡ Some share) × Contains share.held h × (is_busy h ≡ true)
plays_at_the_end plan history t timed legal unstopped open_ones late none =
    let state = state_after plan history in
    let it = some_open plan.parts state.shares (history_running plan history legal unstopped) open_ones in
    let s : Scenario = record { part = it.part; share = it.share; controls = state.controls } in
    let stands = stands_with state.controls plan.parts state.shares it.number it.part it.share it.part_is it.stands in
    let its_time = timed_at plan it.number it.part timed it.part_is in
    let ends : it.part.end ≤ last_moment = its_time.ends in
    let opened : is_open s ≡ true = rw it.opened refl in
    let found = someone_busy (users_of plan state) it.number s t its_time (omega arith) opened it.running.level
    (λ m at. nothing_in (subst (λ ms. In m ms) none (act_enabled plan state t it.number m (s, stands, Contains-from_In m at))))
    it.share.held refl in
    (it.number, it.share, found.0, it.stands, Contains-from_In found.0 found.1, found.2)
