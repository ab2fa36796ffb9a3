-- Legal histories drop and count late only what they may.
use Rattle.std.proofs.Common.{◌≡◌, ◌<◌, ◌≤◌, ◌+◌, ◌==◌, ℕ, Bool, true, false, cond, ◌&&◌, nat_lt, List, [], ◌∷◌, Option, None, Some, find, map, arith, refl, sym, ap, ◌∙◌, subst, inl, inr, slice_get}
use Rattle.std.proofs.lemmas.Bool.{true≢false}
use Rattle.std.specs.Prelude.{is_some}
use Rattle.std.specs.List.{list_all}
use Rattle.std.specs.Option.{option_map_or}
use Rattle.std.proofs.lemmas.Grind.{common_steps}
use Rattle.ld_base.specs.declared.act.Act.{Act}
use Rattle.ld_base.specs.declared.act.Act.TheVariants.{Take, Grow, Start, Drop, Late, Return, Release, Stop, Close, Control}
use Rattle.ld_base.specs.declared.command.Command.TheVariants as commands
use Rattle.ld_base.specs.declared.entry.Entry.{Entry}
use Rattle.ld_machine.specs.Plan.{Arrival, Executor, SharedIterations, PerVuIterations, ConstantVus, RampingVus, ArrivalRate, ExternallyControlled, Part, Plan}
use Rattle.ld_machine.specs.State.{State, idle_users, free_users}
use Rattle.ld_machine.specs.Scenario.{Scenario, first_of, where_holds, runs, has_ended, is_due, is_open_item, least_open_item, least_open_arrival, executor_arrivals, executor_max_vus, may_hold_more, due_arrival, executor_item_to_drop}
use Rattle.ld_machine.specs.Moves.{CountLate, StartOn, GrowAndStart, TakeAndStart, DropArrival, Move, StopScenario, ReleaseUser, TakeUser, AnswerArrival, StartIteration, DropIteration, CloseScenario, users_of, scenarios}
use Rattle.ld_machine.specs.Acts.{acts_of, is_start}
use Rattle.ld_machine.specs.Effect.{after_entry, change_share, end_item, end_item_of}
use Rattle.ld_machine.specs.Step.{entries_of}
use Rattle.ld_machine.specs.History.{adds_one, adds_two, are_steps}
use Rattle.ld_machine.specs.OnTime.{is_asked_act}
use Rattle.ld_machine.specs.Drops.{nobody_for_arrival, executor_drop_allowed, drop_or_late_allowed, drops_allowed_from}
use Rattle.ld_machine.proofs.ListLemmas.{found_in, both_true, some_true, number_itself}
use Rattle.ld_machine.proofs.SourceLemmas.{Source, by_stop, by_release, by_take, by_arrival, by_start, by_drop, by_close, source_of, late_answer, drop_answer, grow_answer}
use Rattle.ld_machine.proofs.StepLemmas.{first_enabled, Wrote, one_wrote, pair_wrote}

-- the acts of the entries of acts are these acts
pub acts_back : (at thread t : ℕ) (acts : List Act) → map (λ (e : Entry). e.act) (entries_of at thread t acts) ≡ acts
acts_back at thread t [] = refl
acts_back at thread t (act ∷ rest) = ap (λ more. act ∷ more) (acts_back (at + 1) thread t rest)

-- ---- an arrival that is due

-- numbers that a test tells apart aren't the same
numbers_differ : (m n : ℕ) (p : ℕ → Bool) → p m ≡ false → p n ≡ true → (m == n) ≡ false
numbers_differ m n p pm pn =
    let P : Bool → Type 0 = λ b. (m == n) ≡ b → (m == n) ≡ false in
    let tested : P (m == n) = elim (m == n) as P [
      | false ↦ λ e. e
      | true ↦ λ e. let same : m ≡ n = grind (arith, common_steps) in absurd (true≢false (sym pn ∙ ap p (sym same) ∙ pm))
    ] in tested refl

-- the first of some arrivals that is open is the first of its item
find_its_item : (s : Scenario) (a : Arrival) (arrivals : List Arrival) → find (λ (x : Arrival). is_open_item s x.item) arrivals ≡ Some a →
    find (λ (x : Arrival). x.item == a.item) arrivals ≡ Some a
find_its_item s a [] h = absurd (cc)
find_its_item s a (x ∷ rest) h =
    let P : Bool → Type 0 = λ b. is_open_item s x.item ≡ b → cond b (Some x) (find (λ (y : Arrival). is_open_item s y.item) rest) ≡ Some a →
    cond (x.item == a.item) (Some x) (find (λ (y : Arrival). y.item == a.item) rest) ≡ Some a in
    let found : P (is_open_item s x.item) = elim (is_open_item s x.item) as P [
      | true ↦ λ opened e.
          let same : x ≡ a = cc in
          subst (λ (z : Arrival). cond (x.item == z.item) (Some x) (find (λ (y : Arrival). y.item == z.item) rest) ≡ Some z) same (rw (number_itself x.item) refl)
      | false ↦ λ shut e.
          let later = find_its_item s a rest e in
          let opened : is_open_item s a.item ≡ true = (found_in (λ (y : Arrival). is_open_item s y.item) a rest e).1 in
          rw (numbers_differ x.item a.item (is_open_item s) shut opened) later
    ] in found refl h

due_in : (s : Scenario) (t : ℕ) (a : Arrival) (running : Bool) (least : Option Arrival) →
    find (is_due s t) (option_map_or (λ (x : Arrival). x ∷ []) (where_holds running least) []) ≡ Some a → (least ≡ Some a) × (is_due s t a ≡ true)
due_in s t a false least h = absurd (cc)
due_in s t a true None h = absurd (cc)
due_in s t a true (Some x) h =
    let due = (found_in (is_due s t) a (x ∷ []) h).1 in
    let P : Bool → Type 0 = λ b. cond b (Some x) None ≡ Some a → Some x ≡ Some a in
    let same : P (is_due s t x) = elim (is_due s t x) as P [ true ↦ λ e. e | false ↦ λ e. absurd (cc) ] in
    (same h, due)

-- what a due arrival is
pub due_tells : (s : Scenario) (t : ℕ) (a : Arrival) → due_arrival s t ≡ Some a → (least_open_arrival s ≡ Some a) × (is_due s t a ≡ true)
due_tells s t a h = due_in s t a (runs s) (least_open_arrival s) h

-- ---- one drop

arrival_drop_allowed : (executor : Executor) (plan : Plan) (state : State) (s : Scenario) (t : ℕ) (a : Arrival) →
    find (λ (x : Arrival). is_open_item s x.item) (executor_arrivals executor) ≡ Some a → is_due s t a ≡ true → has_ended s t ≡ false →
    nobody_for_arrival plan state s (executor_max_vus executor) ≡ true → executor_drop_allowed executor plan state s a.item t ≡ true
arrival_drop_allowed (SharedIterations _ _) plan state s t a found due before nobody = absurd (cc)
arrival_drop_allowed (PerVuIterations _ _) plan state s t a found due before nobody = absurd (cc)
arrival_drop_allowed (ConstantVus _) plan state s t a found due before nobody = absurd (cc)
arrival_drop_allowed (RampingVus _ _) plan state s t a found due before nobody = absurd (cc)
arrival_drop_allowed (ExternallyControlled _ _ _) plan state s t a found due before nobody = absurd (cc)
arrival_drop_allowed (ArrivalRate pre_allocated max_vus arrivals) plan state s t a found due before nobody =
    rw (find_its_item s a arrivals found, due, before, nobody) refl

nobody_there : (plan : Plan) (state : State) (s : Scenario) → state.made ≤ plan.limit → is_some (first_of (idle_users s.share)) ≡ false →
    (may_hold_more s && nat_lt state.made plan.limit) ≡ false → (may_hold_more s && is_some (first_of (free_users state))) ≡ false →
    nobody_for_arrival plan state s (executor_max_vus s.part.executor) ≡ true
nobody_there plan state s within no_idle no_grow no_free = grind (arith, common_steps)

iteration_drop_allowed : (executor : Executor) (plan : Plan) (state : State) (s : Scenario) (t item k : ℕ) →
    executor_item_to_drop executor s t ≡ Some k → executor_drop_allowed executor plan state s item t ≡ true
iteration_drop_allowed (SharedIterations _ _) plan state s t item k h = ended_where (runs s) (has_ended s t) (least_open_item s) h
  where
    ended_where : (a b : Bool) (o : Option ℕ) → where_holds (a && b) o ≡ Some k → b ≡ true
    ended_where true true o h = refl
    ended_where true false o h = absurd (cc)
    ended_where false b o h = absurd (cc)
iteration_drop_allowed (PerVuIterations _ _) plan state s t item k h = ended_where (runs s) (has_ended s t) (least_open_item s) h
  where
    ended_where : (a b : Bool) (o : Option ℕ) → where_holds (a && b) o ≡ Some k → b ≡ true
    ended_where true true o h = refl
    ended_where true false o h = absurd (cc)
    ended_where false b o h = absurd (cc)
iteration_drop_allowed (ConstantVus _) plan state s t item k h = absurd (cc)
iteration_drop_allowed (RampingVus _ _) plan state s t item k h = absurd (cc)
iteration_drop_allowed (ArrivalRate _ _ _) plan state s t item k h = absurd (cc)
iteration_drop_allowed (ExternallyControlled _ _ _) plan state s t item k h = absurd (cc)

-- each act of an enabled move is allowed to drop or to count late what it does
move_allowed : (plan : Plan) (state : State) (n : ℕ) (s : Scenario) (t : ℕ) (move : Move) → state.made ≤ plan.limit →
    slice_get (scenarios plan state) n ≡ Some s → Source (users_of plan state) n s t move →
    list_all (λ act. drop_or_late_allowed plan state act t) (acts_of move) ≡ true
move_allowed plan state n s t move within stands (by_stop h) = refl
move_allowed plan state n s t move within stands (by_release u idle h) = refl
move_allowed plan state n s t move within stands (by_take user slot free slots h) = refl
move_allowed plan state n s t move within stands (by_start u item idle h) = refl
move_allowed plan state n s t move within stands (by_close h) = refl
move_allowed plan state n s t move within stands (by_drop item h) =
    rw (stands, iteration_drop_allowed s.part.executor plan state s t item item h) refl
move_allowed plan state n s t move within stands (by_arrival a (StartOn user) due answer) = refl
move_allowed plan state n s t move within stands (by_arrival a (GrowAndStart user slot) due answer) = refl
move_allowed plan state n s t move within stands (by_arrival a (TakeAndStart user slot) due answer) = refl
move_allowed plan state n s t move within stands (by_arrival a CountLate due answer) =
    rw (stands, late_answer (users_of plan state) n s t answer) refl
move_allowed plan state n s t move within stands (by_arrival a DropArrival due answer) =
    let why = drop_answer (users_of plan state) n s t answer in
    let is = due_tells s t a due in
    rw (stands, arrival_drop_allowed s.part.executor plan state s t a is.0 is.1 why.0 (nobody_there plan state s within why.1 why.2 why.3)) refl

-- ---- entries

allowed_acts : (plan : Plan) (state : State) (at thread t : ℕ) (acts : List Act) → list_all (λ act. drop_or_late_allowed plan state act t) acts ≡ true →
    list_all (λ (e : Entry). drop_or_late_allowed plan state e.act t) (entries_of at thread t acts) ≡ true
allowed_acts plan state at thread t [] h = refl
allowed_acts plan state at thread t (act ∷ rest) h =
    let both = both_true (drop_or_late_allowed plan state act t) _ h in
    rw (both.0, allowed_acts plan state (at + 1) thread t rest both.1) refl

-- what a first act wrote is allowed
wrote_allowed : (plan : Plan) (state : State) (thread t : ℕ) (entries : List Entry) → state.made ≤ plan.limit → Wrote plan state thread t entries →
    list_all (λ (e : Entry). drop_or_late_allowed plan state e.act t) entries ≡ true
wrote_allowed plan state thread t entries within w =
    let at = first_enabled plan state t w.move w.first in
    let allowed = move_allowed plan state at.number at.scenario t w.move within at.stands (source_of (users_of plan state) at.number at.scenario t w.move at.enabled) in
    subst (λ es. list_all (λ (e : Entry). drop_or_late_allowed plan state e.act t) es ≡ true) w.wrote
    (allowed_acts plan state (state.entries + 1) thread t (acts_of w.move) allowed)

one_allowed : (plan : Plan) (state : State) (one : Entry) → state.made ≤ plan.limit → adds_one plan state one ≡ true →
    drop_or_late_allowed plan state one.act one.reading ≡ true
one_allowed plan state one within h =
    let P : Bool → Type 0 = λ b. is_asked_act one.act ≡ b → drop_or_late_allowed plan state one.act one.reading ≡ true in
    let allowed : P (is_asked_act one.act) = elim (is_asked_act one.act) as P [
      | true ↦ λ asked. (both_true (drop_or_late_allowed plan state one.act one.reading) true
          (wrote_allowed plan state one.thread one.reading (one ∷ []) within (one_wrote plan state one asked h))).0
      | false ↦ λ not_asked. unasked_allowed plan state one.act one.reading not_asked
    ] in allowed refl
  where
    unasked_allowed : (plan : Plan) (state : State) (act : Act) (t : ℕ) → is_asked_act act ≡ false → drop_or_late_allowed plan state act t ≡ true
    unasked_allowed plan state (Drop n item) t h = absurd (cc)
    unasked_allowed plan state (Late n item) t h = absurd (cc)
    unasked_allowed plan state _ t h = refl

-- ---- how many users are made

abbrev pub grows : Act → ℕ
grows (Grow _ _ _) = 1
grows _ = 0

made-end_item : (plan : Plan) (n item : ℕ) (state : State) → (end_item_of plan n item state).made ≡ state.made
made-end_item plan n item state =
    let P : Option Part → Type 0 = λ o. (option_map_or (λ part. change_share state n (end_item part item)) o state).made ≡ state.made in
    elim (slice_get plan.parts n) as P [ None ↦ refl | Some part ↦ refl ]

pub made_after : (plan : Plan) (state : State) (at thread t : ℕ) (act : Act) →
    (after_entry plan state (record { turn = at; thread = thread; act = act; reading = t })).made ≡ state.made + grows act
made_after plan state at thread t (Take n user slot) = omega arith
made_after plan state at thread t (Grow n user slot) = refl
made_after plan state at thread t (Start n user item until) = made-end_item plan n item _ ∙ omega arith
made_after plan state at thread t (Drop n item) = made-end_item plan n item state ∙ omega arith
made_after plan state at thread t (Late n item) = made-end_item plan n item state ∙ omega arith
made_after plan state at thread t (Return n user item outcome tally) = omega arith
made_after plan state at thread t (Release n user) = omega arith
made_after plan state at thread t (Stop n) = omega arith
made_after plan state at thread t (Close n) = omega arith
made_after plan state at thread t (Control commands.Stop) = omega arith
made_after plan state at thread t (Control (commands.Pause b)) = omega arith
made_after plan state at thread t (Control (commands.Vus n)) = omega arith
made_after plan state at thread t (Control (commands.VusMax n)) = omega arith

grown_by : List Act → ℕ
grown_by [] = 0
grown_by (act ∷ rest) = grows act + grown_by rest

grown_in : List Entry → ℕ
grown_in [] = 0
grown_in (entry ∷ rest) = grows entry.act + grown_in rest

grown-entries_of : (at thread t : ℕ) (acts : List Act) → grown_in (entries_of at thread t acts) ≡ grown_by acts
unfolding grown_by grown_in
grown-entries_of at thread t [] = refl
grown-entries_of at thread t (act ∷ rest) = ap (λ n. grows act + n) (grown-entries_of (at + 1) thread t rest)

-- an enabled act grows no user beyond the limit
move_within : (plan : Plan) (state : State) (n : ℕ) (s : Scenario) (t : ℕ) (move : Move) → state.made ≤ plan.limit →
    Source (users_of plan state) n s t move → state.made + grown_by (acts_of move) ≤ plan.limit
unfolding grown_by
move_within plan state n s t move within (by_stop h) = omega arith
move_within plan state n s t move within (by_release u idle h) = omega arith
move_within plan state n s t move within (by_take user slot free slots h) = omega arith
move_within plan state n s t move within (by_start u item idle h) = omega arith
move_within plan state n s t move within (by_close h) = omega arith
move_within plan state n s t move within (by_drop item h) = omega arith
move_within plan state n s t move within (by_arrival a (StartOn user) due answer) = omega arith
move_within plan state n s t move within (by_arrival a (GrowAndStart user slot) due answer) =
    let grow = grow_answer (users_of plan state) n s t user slot answer in
    let below : nat_lt state.made plan.limit ≡ true = (both_true (may_hold_more s) (nat_lt state.made plan.limit) grow.1).1 in
    let less : state.made < plan.limit = grind (arith, common_steps) in
    omega arith
move_within plan state n s t move within (by_arrival a (TakeAndStart user slot) due answer) = omega arith
move_within plan state n s t move within (by_arrival a CountLate due answer) = omega arith
move_within plan state n s t move within (by_arrival a DropArrival due answer) = omega arith

wrote_within : (plan : Plan) (state : State) (thread t : ℕ) (entries : List Entry) → state.made ≤ plan.limit → Wrote plan state thread t entries →
    state.made + grown_in entries ≤ plan.limit
wrote_within plan state thread t entries within w =
    let at = first_enabled plan state t w.move w.first in
    let bound = move_within plan state at.number at.scenario t w.move within (source_of (users_of plan state) at.number at.scenario t w.move at.enabled) in
    subst (λ es. state.made + grown_in es ≤ plan.limit) w.wrote
    (rw (grown-entries_of (state.entries + 1) thread t (acts_of w.move)) bound)

no_growth : (act : Act) → is_asked_act act ≡ false → grows act ≡ 0
no_growth (Grow n user slot) h = absurd (cc)
no_growth _ h = refl

-- no step makes more users than the limit
pub one_within : (plan : Plan) (state : State) (one : Entry) → state.made ≤ plan.limit → adds_one plan state one ≡ true → (after_entry plan state one).made ≤ plan.limit
unfolding grown_in
one_within plan state one within h =
    let after = made_after plan state one.turn one.thread one.reading one.act in
    let P : Bool → Type 0 = λ b. is_asked_act one.act ≡ b → state.made + grows one.act ≤ plan.limit in
    let bound : P (is_asked_act one.act) = elim (is_asked_act one.act) as P [
      | true ↦ λ asked.
          let total : state.made + (grows one.act + 0) ≤ plan.limit = wrote_within plan state one.thread one.reading (one ∷ []) within (one_wrote plan state one asked h) in
          omega arith
      | false ↦ λ not_asked. let none = no_growth one.act not_asked in omega arith
    ] in
    let total = bound refl in omega arith

pub two_within : (plan : Plan) (state : State) (one two : Entry) → state.made ≤ plan.limit → adds_two plan state one two ≡ true →
    (after_entry plan (after_entry plan state one) two).made ≤ plan.limit
unfolding grown_in
two_within plan state one two within h =
    let first = made_after plan state one.turn one.thread one.reading one.act in
    let second = made_after plan (after_entry plan state one) two.turn two.thread two.reading two.act in
    let bound : state.made + (grows one.act + (grows two.act + 0)) ≤ plan.limit =
    wrote_within plan state one.thread one.reading (one ∷ two ∷ []) within (pair_wrote plan state one two h) in
    omega arith

-- the second of two entries of a step is a Start
pub second_starts : (move : Move) (at thread t : ℕ) (one two : Entry) → entries_of at thread t (acts_of move) ≡ one ∷ two ∷ [] → is_start two.act ≡ true
second_starts move at thread t one two h = starts_in move (sym (acts_back at thread t (acts_of move)) ∙ ap (λ es. map (λ (e : Entry). e.act) es) h)
  where
    starts_in : (move : Move) → acts_of move ≡ one.act ∷ two.act ∷ [] → is_start two.act ≡ true
    starts_in (AnswerArrival n due item until (GrowAndStart user slot)) e = let same : Start n user item until ≡ two.act = cc in subst (λ a. is_start a ≡ true) same refl
    starts_in (AnswerArrival n due item until (TakeAndStart user slot)) e = let same : Start n user item until ≡ two.act = cc in subst (λ a. is_start a ≡ true) same refl
    starts_in (AnswerArrival n due item until CountLate) e = absurd (cc)
    starts_in (AnswerArrival n due item until (StartOn user)) e = absurd (cc)
    starts_in (AnswerArrival n due item until DropArrival) e = absurd (cc)
    starts_in (StopScenario n) e = absurd (cc)
    starts_in (ReleaseUser n user) e = absurd (cc)
    starts_in (TakeUser n user slot) e = absurd (cc)
    starts_in (StartIteration n user item until) e = absurd (cc)
    starts_in (DropIteration n item) e = absurd (cc)
    starts_in (CloseScenario n) e = absurd (cc)

start_allowed : (plan : Plan) (state : State) (act : Act) (t : ℕ) → is_start act ≡ true → drop_or_late_allowed plan state act t ≡ true
start_allowed plan state (Start n user item until) t h = refl
start_allowed plan state _ t h = absurd (cc)

two_allowed : (plan : Plan) (state : State) (one two : Entry) → state.made ≤ plan.limit → adds_two plan state one two ≡ true →
    (drop_or_late_allowed plan state one.act one.reading ≡ true) × (drop_or_late_allowed plan (after_entry plan state one) two.act two.reading ≡ true)
two_allowed plan state one two within h =
    let w = pair_wrote plan state one two h in (
      (both_true (drop_or_late_allowed plan state one.act one.reading) _ (wrote_allowed plan state one.thread one.reading (one ∷ two ∷ []) within w)).0,
      start_allowed plan (after_entry plan state one) two.act two.reading (second_starts w.move (state.entries + 1) one.thread one.reading one two w.wrote),
    )

-- ---- whole histories

pub steps_allowed : (plan : Plan) (history : List Entry) (state : State) → state.made ≤ plan.limit → are_steps plan state history ≡ true →
    drops_allowed_from plan state history ≡ true
steps_allowed plan [] state within h = refl
steps_allowed plan (one ∷ []) state within h = rw (one_allowed plan state one within h) refl
steps_allowed plan (one ∷ two ∷ rest) state within h =
    elim (some_true (adds_one plan state one && are_steps plan (after_entry plan state one) (two ∷ rest)) _ h) [
      | inl first ↦
          let both = both_true (adds_one plan state one) _ first in
          let now = one_allowed plan state one within both.0 in
          rw now (steps_allowed plan (two ∷ rest) (after_entry plan state one) (one_within plan state one within both.0) both.1)
      | inr second ↦
          let both = both_true (adds_two plan state one two) _ second in
          let now = two_allowed plan state one two within both.0 in
          rw (now.0, now.1) (steps_allowed plan rest (after_entry plan (after_entry plan state one) two) (two_within plan state one two within both.0) both.1)
    ]
