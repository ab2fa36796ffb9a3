-- Up to the moment to wait for, the clock enables nothing.
use Rattle.std.proofs.Common.{◌≡◌, ◌<◌, ◌≤◌, ℕ, Bool, true, false, not, cond, ◌&&◌, ◌||◌, nat_le, nat_lt, List, [], ◌∷◌, ◌++◌, Option, None, Some, min, map, filter, filter_map, flat_map, find, arith, refl, sym, ap, ◌∙◌, subst}
use Rattle.std.specs.Prelude.{option_map, option_to_list, unwrap_or}
use Rattle.std.specs.Option.{option_map_or}
use Rattle.std.specs.List.{enumerate_from}
use Rattle.std.proofs.Math.Decide.{dec_lt}
use Rattle.std.proofs.lemmas.Grind.{common_steps}
use Rattle.ld_base.specs.declared.reply.Reply.{Reply}
use Rattle.ld_base.specs.declared.reply.Reply.TheVariants.{Wait, Over, Full}
use Rattle.ld_base.specs.declared.reply.Room.{Room}
use Rattle.ld_base.specs.declared.reply.Room.TheVariants.{Entries, Samples}
use Rattle.ld_machine.specs.Moment.{moment_after}
use Rattle.ld_machine.specs.Plan.{Interval, RampingSlot, Arrival, Executor, SharedIterations, PerVuIterations, ConstantVus, RampingVus, ArrivalRate, ExternallyControlled, Part, Plan, on_moment, off_moment, due_moment}
use Rattle.ld_machine.specs.State.{Level, Runs, StartsNothing, Halted, HeldUser, State, idle_users, all_closed}
use Rattle.ld_machine.specs.Scenario.{Scenario, is_open, level_runs, runs, has_begun, has_ended, is_live, is_within, interval_at, where_holds, executor_may_take, may_take, slots_to_take, executor_may_release, may_release, executor_item_to_start, executor_until, executor_item_to_drop, item_to_drop, level_may_stop, may_stop, executor_may_close, may_close, least_open_arrival, due_arrival, is_due}
use Rattle.ld_machine.specs.Moves.{Answer, CountLate, StartOn, GrowAndStart, TakeAndStart, DropArrival, Move, StopScenario, ReleaseUser, TakeUser, AnswerArrival, StartIteration, DropIteration, CloseScenario, Users, users_of, answers, stops, releases, takes, arrivals, answers_to, starts, start_on, drops, closes, moves_of, scenarios, enabled}
use Rattle.ld_machine.specs.Order.{first_moves}
use Rattle.ld_machine.specs.Acts.{acts_of, added_entries, made_busy, scenario_of}
use Rattle.ld_machine.specs.Replies.{answer_reply, reply_to}
use Rattle.ld_machine.specs.Room.{entries_with, samples_with, entries_refusal, samples_refusal, or_else, room_refusal}
use Rattle.ld_machine.specs.Step.{Result, answered, performed, move_result, open_results, act_results}
use Rattle.ld_machine.specs.Wait.{interval_moments, ramping_moments, level_moments, scenario_moments, untils, candidates, least_of, next_candidate, short_wait, is_external_open, wait_moment}
use Rattle.ld_machine.specs.Wishes.{later_moves}
use Rattle.ld_machine.specs.Rehearsal.{NothingEnabled}
use Rattle.ld_machine.proofs.ListLemmas.{In, here, there, filter-In, In-enumerate, In-map, some_not_none, In-one, both_true}
use Rattle.ld_machine.proofs.OrderLemmas.{none_first}
use Rattle.ld_machine.proofs.StopLemmas.{no_take, no_start, no_drop}

-- the moments from t on to x pass none of these
abbrev pub Agree : List ℕ → ℕ → ℕ → Type 0
Agree moments t x = (c : ℕ) → In c moments → nat_le c t ≡ nat_le c x

-- ---- lists

pub In-left : {A : Type 0} (y : A) {xs : List A} (ys : List A) → In y xs → In y (xs ++ ys)
In-left y ys here = here
In-left y ys (there more) = there (In-left y ys more)

pub In-right : {A : Type 0} (y : A) (xs : List A) {ys : List A} → In y ys → In y (xs ++ ys)
In-right y [] h = h
In-right y (x ∷ xs) h = there (In-right y xs h)

pub flat_map-In : {A B : Type 0} (f : A → List B) (x : A) (y : B) {xs : List A} → In x xs → In y (f x) → In y (flat_map f xs)
flat_map-In f x y (here {xs = xs}) h = In-left y (flat_map f xs) h
flat_map-In f x y (there {y = z} {xs = xs} more) h = In-right y (f z) (flat_map-In f x y more h)

flat_map_same : {A B : Type 0} (f g : A → List B) (xs : List A) → ((x : A) → In x xs → f x ≡ g x) → flat_map f xs ≡ flat_map g xs
flat_map_same f g [] same = refl
flat_map_same f g (x ∷ xs) same = rw (same x here, flat_map_same f g xs (λ y at. same y (there at))) refl

filter_same : {A : Type 0} (p q : A → Bool) (xs : List A) → ((x : A) → p x ≡ q x) → filter p xs ≡ filter q xs
filter_same p q [] same = refl
filter_same p q (x ∷ xs) same = rw (same x, filter_same p q xs same) refl

filter_map_same : {A B : Type 0} (f g : A → Option B) (xs : List A) → ((x : A) → f x ≡ g x) → filter_map f xs ≡ filter_map g xs
filter_map_same f g [] same = refl
filter_map_same f g (x ∷ xs) same = rw (same x, filter_map_same f g xs same) refl

-- ---- the cells of a scenario that runs

below_same : (c t x : ℕ) → nat_le c t ≡ nat_le c x → nat_lt t c ≡ nat_lt x c
below_same c t x h = grind (arith, common_steps)

module _ (s : Scenario) (t x : ℕ) (running : runs s ≡ true) (agree : Agree (level_moments Runs s) t x) where
  begun_same : has_begun s t ≡ has_begun s x
  begun_same = agree s.part.begin here

  ended_same : has_ended s t ≡ has_ended s x
  ended_same = agree s.part.end (there here)

  live_same : is_live s t ≡ is_live s x
  live_same = rw (begun_same, ended_same) refl

within_same : (part : Part) (t x : ℕ) (i : Interval) → Agree (interval_moments part i) t x → is_within part t i ≡ is_within part x i
within_same part t x i agree =
    rw (agree (on_moment part i) here, below_same (off_moment part i) t x (agree (off_moment part i) (there here))) refl

find_within_same : (part : Part) (t x : ℕ) (intervals : List Interval) → Agree (flat_map (interval_moments part) intervals) t x →
    find (is_within part t) intervals ≡ find (is_within part x) intervals
find_within_same part t x [] agree = refl
find_within_same part t x (i ∷ rest) agree =
    let first = within_same part t x i (λ c at. agree c (In-left c (flat_map (interval_moments part) rest) at)) in
    let others = find_within_same part t x rest (λ c at. agree c (In-right c (interval_moments part i) at)) in
    rw (first, others) refl

interval_same : (part : Part) (slots : List RampingSlot) (slot t x : ℕ) →
    Agree (flat_map (λ (r : RampingSlot). flat_map (interval_moments part) r.intervals) slots) t x →
    interval_at part slots slot t ≡ interval_at part slots slot x
interval_same part [] slot t x agree = refl
interval_same part (r ∷ rest) slot t x agree =
    let first = find_within_same part t x r.intervals (λ c at. agree c (In-left c (flat_map (λ (q : RampingSlot). flat_map (interval_moments part) q.intervals) rest) at)) in
    let others = interval_same part rest slot t x (λ c at. agree c (In-right c (flat_map (interval_moments part) r.intervals) at)) in
    rw (first, others) refl

-- the executor's tests agree where the scenario's moments do
module _ (s : Scenario) (t x : ℕ) (live : is_live s t ≡ is_live s x) (begun : has_begun s t ≡ has_begun s x) (ended : has_ended s t ≡ has_ended s x) where
  take_same : (executor : Executor) (slot : ℕ) → Agree (ramping_moments executor s.part) t x → executor_may_take executor s slot t ≡ executor_may_take executor s slot x
  take_same (SharedIterations _ _) slot agree = rw live refl
  take_same (PerVuIterations _ _) slot agree = rw live refl
  take_same (ConstantVus _) slot agree = rw live refl
  take_same (RampingVus _ slots) slot agree = rw (interval_same s.part slots slot t x agree) refl
  take_same (ArrivalRate _ _ _) slot agree = rw live refl
  take_same (ExternallyControlled _ _ _) slot agree = rw live refl

  release_same : (executor : Executor) (slot : ℕ) → Agree (ramping_moments executor s.part) t x → executor_may_release executor s slot t ≡ executor_may_release executor s slot x
  release_same (SharedIterations _ _) slot agree = rw ended refl
  release_same (PerVuIterations _ _) slot agree = rw ended refl
  release_same (ConstantVus _) slot agree = ended
  release_same (RampingVus _ slots) slot agree = rw (interval_same s.part slots slot t x agree) refl
  release_same (ArrivalRate _ _ _) slot agree = ended
  release_same (ExternallyControlled _ _ _) slot agree = rw ended refl

  start_same : (executor : Executor) (slot : ℕ) → Agree (ramping_moments executor s.part) t x → executor_item_to_start executor s slot t ≡ executor_item_to_start executor s slot x
  start_same (SharedIterations _ _) slot agree = rw live refl
  start_same (PerVuIterations _ _) slot agree = rw live refl
  start_same (ConstantVus _) slot agree = rw live refl
  start_same (RampingVus _ slots) slot agree = rw (interval_same s.part slots slot t x agree) refl
  start_same (ArrivalRate _ _ _) slot agree = refl
  start_same (ExternallyControlled _ _ _) slot agree = rw live refl

  until_same : (executor : Executor) (slot : ℕ) → Agree (ramping_moments executor s.part) t x → executor_until executor s slot t ≡ executor_until executor s slot x
  until_same (SharedIterations _ _) slot agree = refl
  until_same (PerVuIterations _ _) slot agree = refl
  until_same (ConstantVus _) slot agree = refl
  until_same (RampingVus _ slots) slot agree = rw (interval_same s.part slots slot t x agree) refl
  until_same (ArrivalRate _ _ _) slot agree = refl
  until_same (ExternallyControlled _ _ _) slot agree = refl

  drop_same : (executor : Executor) → executor_item_to_drop executor s t ≡ executor_item_to_drop executor s x
  drop_same (SharedIterations _ _) = rw ended refl
  drop_same (PerVuIterations _ _) = rw ended refl
  drop_same (ConstantVus _) = refl
  drop_same (RampingVus _ _) = refl
  drop_same (ArrivalRate _ _ _) = refl
  drop_same (ExternallyControlled _ _ _) = refl

  close_same : (executor : Executor) → executor_may_close executor s t ≡ executor_may_close executor s x
  close_same (SharedIterations _ _) = begun
  close_same (PerVuIterations _ _) = begun
  close_same (ConstantVus _) = ended
  close_same (RampingVus _ _) = ended
  close_same (ArrivalRate _ _ _) = ended
  close_same (ExternallyControlled _ _ _) = ended

  answers_same : (users : Users) → answers s users t ≡ answers s users x
  answers_same users = rw ended refl

-- ---- what one scenario may do

level_is : (level : Level) → level_runs level ≡ true → level ≡ Runs
level_is Runs h = refl
level_is (StartsNothing q) h = absurd (cc)
level_is Halted h = absurd (cc)

-- the moments of a scenario that runs
running_moments : (s : Scenario) (t x : ℕ) → runs s ≡ true → Agree (scenario_moments s) t x → Agree (level_moments Runs s) t x
running_moments s t x running agree =
    let parts = both_true (is_open s) (level_runs s.share.level) running in
    let opened : Agree (level_moments s.share.level s) t x =
    subst (λ b. Agree (cond b (level_moments s.share.level s) []) t x) parts.0 agree in
    subst (λ level. Agree (level_moments level s) t x) (level_is s.share.level parts.1) opened

stop_same_in : (s : Scenario) (t x : ℕ) (opened : Bool) (level : Level) → Agree (cond opened (level_moments level s) []) t x →
    (opened && level_may_stop level s.part.grace t) ≡ (opened && level_may_stop level s.part.grace x)
stop_same_in s t x false level agree = refl
stop_same_in s t x true Runs agree = refl
stop_same_in s t x true (StartsNothing q) agree = agree (moment_after q s.part.grace) here
stop_same_in s t x true Halted agree = refl

due_same_in : (s : Scenario) (t x : ℕ) (running : Bool) (least : Option Arrival) → Agree (option_to_list (option_map (due_moment s.part) least)) t x →
    find (is_due s t) (option_map_or (λ (a : Arrival). a ∷ []) (where_holds running least) [])
    ≡ find (is_due s x) (option_map_or (λ (a : Arrival). a ∷ []) (where_holds running least) [])
due_same_in s t x false least agree = refl
due_same_in s t x true None agree = refl
due_same_in s t x true (Some a) agree = rw (agree (due_moment s.part a) here) refl

answers_to_same : (n : ℕ) (s : Scenario) (users : Users) (t x : ℕ) (due : Option Arrival) → answers s users t ≡ answers s users x →
    option_map_or (answers_to n s users t) due [] ≡ option_map_or (answers_to n s users x) due []
answers_to_same n s users t x None same = refl
answers_to_same n s users t x (Some a) same = rw same refl

-- at both moments a scenario may do the same
record SameCells (users : Users) (n : ℕ) (s : Scenario) (t x : ℕ) : Type 0 where
  stop : may_stop s t ≡ may_stop s x
  release : (slot : ℕ) → may_release s slot t ≡ may_release s slot x
  take : (slot : ℕ) → may_take s slot t ≡ may_take s slot x
  arrival : arrivals n s users t ≡ arrivals n s users x
  start : (h : HeldUser) → start_on n s t h ≡ start_on n s x h
  drop : item_to_drop s t ≡ item_to_drop s x
  close : may_close s t ≡ may_close s x

same_running : (users : Users) (n : ℕ) (s : Scenario) (t x : ℕ) → runs s ≡ true → Agree (scenario_moments s) t x → SameCells users n s t x
same_running users n s t x running agree =
    let moments = running_moments s t x running agree in
    let live = live_same s t x running moments in
    let begun = begun_same s t x running moments in
    let ended = ended_same s t x running moments in
    let ramps : Agree (ramping_moments s.part.executor s.part) t x =
    λ c at. moments c (In-right c (s.part.begin ∷ s.part.end ∷ option_to_list (option_map (due_moment s.part) (least_open_arrival s))) at) in
    let dues : Agree (option_to_list (option_map (due_moment s.part) (least_open_arrival s))) t x =
    λ c at. moments c (there (there (In-left c (ramping_moments s.part.executor s.part) at))) in
    record {
      stop = stop_same_in s t x (is_open s) s.share.level agree;
      release = λ slot. ap (λ b. is_open s && (not (runs s) || b)) (release_same s t x live begun ended s.part.executor slot ramps);
      take = λ slot. take_same s t x live begun ended s.part.executor slot ramps;
      arrival =
          answers_to_same n s users t x (due_arrival s t) (answers_same s t x live begun ended users)
          ∙ ap (λ o. option_map_or (answers_to n s users x) o []) (due_same_in s t x (runs s) (least_open_arrival s) dues);
      start = λ h. rw (start_same s t x live begun ended s.part.executor h.slot ramps, until_same s t x live begun ended s.part.executor h.slot ramps) refl;
      drop = drop_same s t x live begun ended s.part.executor;
      close = rw (close_same s t x live begun ended s.part.executor) refl;
    }

same_stopped : (users : Users) (n : ℕ) (s : Scenario) (t x : ℕ) → runs s ≡ false → Agree (scenario_moments s) t x → SameCells users n s t x
same_stopped users n s t x stopped agree =
    let no_due : (at : ℕ) → due_arrival s at ≡ None = λ at. rw stopped refl in
    let no_arrival : (at : ℕ) → arrivals n s users at ≡ [] = λ at. ap (λ o. option_map_or (answers_to n s users at) o []) (no_due at) in
    record {
      stop = stop_same_in s t x (is_open s) s.share.level agree;
      release = λ slot. rw stopped refl;
      take = λ slot. no_take s.part.executor s slot t stopped ∙ sym (no_take s.part.executor s slot x stopped);
      arrival = no_arrival t ∙ sym (no_arrival x);
      start = λ h. rw (no_start s.part.executor s h.slot t stopped, no_start s.part.executor s h.slot x stopped) refl;
      drop = no_drop s.part.executor s t stopped ∙ sym (no_drop s.part.executor s x stopped);
      close = rw stopped refl;
    }

same_cells : (users : Users) (n : ℕ) (s : Scenario) (t x : ℕ) → Agree (scenario_moments s) t x → SameCells users n s t x
same_cells users n s t x agree =
    let P : Bool → Type 0 = λ b. runs s ≡ b → SameCells users n s t x in
    let same : P (runs s) = elim (runs s) as P [
      | true ↦ λ running. same_running users n s t x running agree
      | false ↦ λ stopped. same_stopped users n s t x stopped agree
    ] in same refl

-- and so the acts of each kind are the same
record SameKinds (users : Users) (n : ℕ) (s : Scenario) (t x : ℕ) : Type 0 where
  stop : stops n s t ≡ stops n s x
  release : releases n s t ≡ releases n s x
  take : takes n s users t ≡ takes n s users x
  arrival : arrivals n s users t ≡ arrivals n s users x
  start : starts n s t ≡ starts n s x
  drop : drops n s t ≡ drops n s x
  close : closes n s t ≡ closes n s x

same_kinds : (users : Users) (n : ℕ) (s : Scenario) (t x : ℕ) → Agree (scenario_moments s) t x → SameKinds users n s t x
same_kinds users n s t x agree =
    let same = same_cells users n s t x agree in
    record {
      stop = rw same.stop refl;
      release =
          ap (λ us. map (λ (h : HeldUser). ReleaseUser n h.user) us)
          (filter_same (λ (h : HeldUser). may_release s h.slot t) (λ (h : HeldUser). may_release s h.slot x) (idle_users s.share) (λ h. same.release h.slot));
      take =
          ap (λ slots. flat_map (λ slot. map (λ user. TakeUser n user slot) users.free) slots)
          (filter_same (λ slot. may_take s slot t) (λ slot. may_take s slot x) (slots_to_take s.part.executor s) same.take);
      arrival = same.arrival;
      start = filter_map_same (start_on n s t) (start_on n s x) (idle_users s.share) same.start;
      drop = rw same.drop refl;
      close = rw same.close refl;
    }

pub moves_same : (users : Users) (n : ℕ) (s : Scenario) (t x : ℕ) → Agree (scenario_moments s) t x → moves_of users n s t ≡ moves_of users n s x
moves_same users n s t x agree =
    let same = same_kinds users n s t x agree in
    rw (same.stop, same.release, same.take, same.arrival, same.start, same.drop, same.close) refl

-- the same acts, the stop aside
pub later_moves_same : (users : Users) (n : ℕ) (s : Scenario) (t x : ℕ) → Agree (scenario_moments s) t x →
    later_moves n users s t ≡ later_moves n users s x
later_moves_same users n s t x agree =
    let same = same_kinds users n s t x agree in
    rw (same.release, same.take, same.arrival, same.start, same.drop, same.close) refl

-- ---- the whole state

-- where no candidate is passed, the same acts are enabled
pub enabled_same : (plan : Plan) (state : State) (t x : ℕ) → Agree (candidates plan state) t x → enabled plan state t ≡ enabled plan state x
enabled_same plan state t x agree =
    flat_map_same (λ (p : ℕ × Scenario). moves_of (users_of plan state) p.0 p.1 t) (λ (p : ℕ × Scenario). moves_of (users_of plan state) p.0 p.1 x)
    (enumerate_from 0 (scenarios plan state))
    (λ p at.
    let there_is = (In-enumerate 0 p (scenarios plan state) at).0 in
    moves_same (users_of plan state) p.0 p.1 t x
    (λ c of_it. agree c (In-left c (flat_map untils state.shares) (flat_map-In scenario_moments p.1 c there_is of_it))))

-- the least of some moments is there, and no later than any
pub least_below : (c : ℕ) {moments : List ℕ} → In c moments → (m : ℕ) × (least_of moments ≡ Some m) × (m ≤ c)
least_below c (here {xs = xs}) =
    let P : Option ℕ → Type 0 = λ o. (m : ℕ) × (Some (option_map_or (min c) o c) ≡ Some m) × (m ≤ c) in
    elim (least_of xs) as P [ None ↦ (c, refl, omega arith) | Some k ↦ (min c k, refl, omega arith) ]
least_below c (there {y = y} {xs = xs} more) =
    let later = least_below c more in
    (min y later.0, rw later.1 refl, let e : later.0 ≤ c = later.2 in omega arith)

-- a candidate above t is no earlier than the moment to wait for
wait_before : (plan : Plan) (state : State) (t c : ℕ) → In c (candidates plan state) → t < c → wait_moment plan state t ≤ c
wait_before plan state t c at above =
    let passes : nat_lt t c ≡ true = grind (arith, common_steps) in
    let least = least_below c (filter-In (nat_lt t) c at passes) in
    let below : least.0 ≤ c = least.2 in
    let P : Bool → Type 0 = λ b. cond b
    (option_map_or (min (moment_after t short_wait)) (next_candidate plan state t) (moment_after t short_wait))
    (unwrap_or (next_candidate plan state t) (moment_after t short_wait)) ≤ c in
    elim (is_external_open plan state) as P [ true ↦ rw least.1 (omega arith) | false ↦ rw least.1 below ]

-- up to the moment to wait for no candidate is passed
pub wait_agrees : (plan : Plan) (state : State) (t x : ℕ) → t ≤ x → x < wait_moment plan state t → Agree (candidates plan state) t x
wait_agrees plan state t x from to c at =
    elim (dec_lt t c) [
      | yes above ↦ let wait = wait_before plan state t c at above in let later : x < c = omega arith in grind (arith, common_steps)
      | no notabove ↦ let first : c ≤ t = omega arith in let second : c ≤ x = omega arith in grind (arith, common_steps)
    ]

pub nothing_while_waiting : (plan : Plan) (state : State) (t : ℕ) → enabled plan state t ≡ [] → NothingEnabled plan state t (wait_moment plan state t)
nothing_while_waiting plan state t none x from to = sym (enabled_same plan state t x (wait_agrees plan state t x from to)) ∙ none

-- ---- the reply

-- the moment that a reply says to wait for
wait_in : Reply → Option ℕ
wait_in (Wait m) = Some m
wait_in _ = None

no_wait_answer : (n item until : ℕ) (answer : Answer) → wait_in (answer_reply n item until answer) ≡ None
unfolding wait_in
no_wait_answer n item until CountLate = refl
no_wait_answer n item until (StartOn user) = refl
no_wait_answer n item until (GrowAndStart user slot) = refl
no_wait_answer n item until (TakeAndStart user slot) = refl
no_wait_answer n item until DropArrival = refl

no_wait_move : (move : Move) → wait_in (reply_to move) ≡ None
unfolding wait_in
no_wait_move (StopScenario n) = refl
no_wait_move (ReleaseUser n user) = refl
no_wait_move (TakeUser n user slot) = refl
no_wait_move (AnswerArrival n due item until answer) = no_wait_answer n item until answer
no_wait_move (StartIteration n user item until) = refl
no_wait_move (DropIteration n item) = refl
no_wait_move (CloseScenario n) = refl

no_wait_cond : (b : Bool) (room : Room) (needed limit : ℕ) (reply : Reply) → cond b (Some (Full room needed limit)) None ≡ Some reply → wait_in reply ≡ None
unfolding wait_in
no_wait_cond true room needed limit reply h = let same : Full room needed limit ≡ reply = cc in subst (λ r. wait_in r ≡ None) same refl
no_wait_cond false room needed limit reply h = absurd (cc)

no_wait_none : (reply : Reply) → None ≡ Some reply → wait_in reply ≡ None
no_wait_none reply h = absurd (cc)

no_wait_samples : (plan : Plan) (state : State) (n : ℕ) (b : Bool) (reply : Reply) → cond b (samples_refusal plan state n) None ≡ Some reply → wait_in reply ≡ None
no_wait_samples plan state n true reply h =
    no_wait_cond (nat_lt plan.entry_limit (samples_with plan state n)) Samples (samples_with plan state n) plan.entry_limit reply h
no_wait_samples plan state n false reply h = no_wait_none reply h

no_wait_else : (first second : Option Reply) → ((reply : Reply) → first ≡ Some reply → wait_in reply ≡ None) → ((reply : Reply) → second ≡ Some reply → wait_in reply ≡ None) →
    (reply : Reply) → or_else first second ≡ Some reply → wait_in reply ≡ None
no_wait_else None second f s reply h = s reply h
no_wait_else (Some r) second f s reply h = f reply h

no_wait_refusal : (plan : Plan) (state : State) (move : Move) (reply : Reply) → room_refusal plan state move ≡ Some reply → wait_in reply ≡ None
no_wait_refusal plan state move reply h =
    no_wait_else (entries_refusal plan state (added_entries move) (made_busy move))
    (cond (nat_lt 0 (made_busy move)) (samples_refusal plan state (scenario_of move)) None)
    (λ r e. no_wait_cond (nat_lt plan.entry_limit (entries_with state (added_entries move) (made_busy move))) Entries (entries_with state (added_entries move) (made_busy move)) plan.entry_limit r e)
    (λ r e. no_wait_samples plan state (scenario_of move) (nat_lt 0 (made_busy move)) r e)
    reply h

no_wait_result : (plan : Plan) (state : State) (thread t : ℕ) (move : Move) → wait_in (move_result plan state thread t move).reply ≡ None
no_wait_result plan state thread t move =
    let P : Option Reply → Type 0 = λ o. room_refusal plan state move ≡ o →
    wait_in (option_map_or (answered state) o (performed plan state thread t (reply_to move) (acts_of move))).reply ≡ None in
    let none : P (room_refusal plan state move) = elim (room_refusal plan state move) as P [
      | None ↦ λ e. no_wait_move move
      | Some reply ↦ λ e. no_wait_refusal plan state move reply e
    ] in none refl

-- an open pool's wait is for the moment to wait for, where nothing is enabled
open_waits : (plan : Plan) (state : State) (thread t m : ℕ) (moves : List Move) (r : Result) → In r (open_results plan state thread t moves) → wait_in r.reply ≡ Some m →
    (moves ≡ []) × (wait_moment plan state t ≡ m)
unfolding wait_in
open_waits plan state thread t m [] r h waits =
    let same = In-one r (answered state (Wait (wait_moment plan state t))) h in
    let told : Some (wait_moment plan state t) ≡ Some m = ap (λ (q : Result). wait_in q.reply) same ∙ waits in
    (refl, cc)
open_waits plan state thread t m (move ∷ rest) r h waits =
    let found = In-map (move_result plan state thread t) r (move ∷ rest) h in
    let none = sym (ap (λ (q : Result). wait_in q.reply) found.2) ∙ no_wait_result plan state thread t found.0 in
    absurd (some_not_none (sym waits ∙ none))

pub waits_for : (plan : Plan) (state : State) (thread t m : ℕ) → In (Wait m) (map (λ (r : Result). r.reply) (act_results plan state thread t)) →
    (enabled plan state t ≡ []) × (wait_moment plan state t ≡ m)
unfolding wait_in
waits_for plan state thread t m h =
    let found = In-map (λ (r : Result). r.reply) (Wait m) (act_results plan state thread t) h in
    let waits : wait_in found.0.reply ≡ Some m = ap wait_in found.2 in
    let P : Bool → Type 0 = λ b. In found.0 (cond b (answered state Over ∷ []) (open_results plan state thread t (first_moves plan state t))) → (enabled plan state t ≡ []) × (wait_moment plan state t ≡ m) in
    let tells : P (all_closed state) = elim (all_closed state) as P [
      | true ↦ λ at. let none = ap (λ (q : Result). wait_in q.reply) (In-one found.0 (answered state Over) at) in absurd (some_not_none (sym waits ∙ sym none))
      | false ↦ λ at. let it = open_waits plan state thread t m (first_moves plan state t) found.0 at waits in (none_first (enabled plan state t) it.0, it.1)
    ] in tells found.1

pub reply_waits : (plan : Plan) (state : State) (thread t m : ℕ) → In (Wait m) (map (λ (r : Result). r.reply) (act_results plan state thread t)) → NothingEnabled plan state t m
reply_waits plan state thread t m h =
    let told = waits_for plan state thread t m h in
    subst (λ moment. NothingEnabled plan state t moment) told.1 (nothing_while_waiting plan state t told.0)
