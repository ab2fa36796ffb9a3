-- Behind a commanded stop the pool only winds down.
use Rattle.std.proofs.Common.{◌≡◌, ◌+◌, ℕ, zero, suc, Bool, true, false, not, cond, ◌&&◌, ◌||◌, List, [], ◌∷◌, None, length, map, filter, arith, refl, sym, ap, ◌∙◌, subst, inl, inr, ◌++◌}
use Rattle.std.proofs.lemmas.Bool.{true≢false}
use Rattle.std.specs.List.{list_all}
use Rattle.std.specs.Option.{option_map_or}
use Rattle.std.specs.Prelude.{option_map, option_to_list}
use Rattle.std.proofs.lemmas.Grind.{common_steps}
use Rattle.ld_base.specs.declared.act.Act.{Act}
use Rattle.ld_base.specs.declared.act.Act.TheVariants.{Take, Grow, Start, Drop, Late, Return, Release, Stop, Close, Control}
use Rattle.ld_base.specs.declared.command.Command.TheVariants as commands
use Rattle.ld_base.specs.declared.entry.Entry.{Entry}
use Rattle.ld_machine.specs.Plan.{Executor, SharedIterations, PerVuIterations, ConstantVus, RampingVus, ArrivalRate, ExternallyControlled, Part, Plan}
use Rattle.ld_machine.specs.State.{StartsNothing, HeldUser, Share, Controls, State, idle_users}
use Rattle.ld_machine.specs.Scenario.{Scenario, runs, level_runs, executor_may_take, may_take, slots_to_take, due_arrival, executor_item_to_start, executor_item_to_drop, until_of, may_release}
use Rattle.ld_machine.specs.Moves.{CountLate, StartOn, GrowAndStart, TakeAndStart, DropArrival, Move, StopScenario, ReleaseUser, TakeUser, AnswerArrival, StartIteration, DropIteration, CloseScenario, Users, users_of, scenarios_with, stops, releases, takes, arrivals, starts, start_on, drops, closes, answers_to, moves_of}
use Rattle.ld_machine.specs.Acts.{acts_of}
use Rattle.ld_machine.specs.Effect.{change_at, after_entry}
use Rattle.ld_machine.specs.Commands.{stop_commanded_share}
use Rattle.ld_machine.specs.Step.{entries_of}
use Rattle.ld_machine.specs.History.{adds_one, adds_two, are_steps}
use Rattle.ld_machine.specs.OnTime.{is_asked_act}
use Rattle.ld_machine.specs.Stops.{is_winding_down, all_winding_down, winds_down, commands_stop}
use Rattle.ld_machine.proofs.ListLemmas.{In, here, there, nothing_in, In-append, In-map, In-filter, In-flat_map, In-filter_map, all_at, both_true, some_true, some_not_none}
use Rattle.ld_machine.proofs.StepLemmas.{EnabledAt, first_enabled, one_wrote, pair_wrote}

-- a share that is closed, or isn't at level 0
abbrev pub is_stopped_share : Share → Bool
is_stopped_share share = share.closed || not (level_runs share.level)

-- a stop was commanded, and no share runs
pub record IsStopped (state : State) : Type 0 where
  pub commanded : state.stop_commanded ≡ true
  pub shares : list_all is_stopped_share state.shares ≡ true

-- ---- what is enabled then

-- the acts that stay enabled
abbrev pub is_quiet : Move → Bool
is_quiet (StopScenario _) = true
is_quiet (ReleaseUser _ _) = true
is_quiet (CloseScenario _) = true
is_quiet _ = false

pub no_take : (executor : Executor) (s : Scenario) (slot t : ℕ) → runs s ≡ false → executor_may_take executor s slot t ≡ false
no_take (SharedIterations _ _) s slot t h = rw h refl
no_take (PerVuIterations _ _) s slot t h = rw h refl
no_take (ConstantVus _) s slot t h = rw h refl
no_take (RampingVus _ _) s slot t h = rw h refl
no_take (ArrivalRate _ _ _) s slot t h = rw h refl
no_take (ExternallyControlled _ _ _) s slot t h = rw h refl

pub no_start : (executor : Executor) (s : Scenario) (slot t : ℕ) → runs s ≡ false → executor_item_to_start executor s slot t ≡ None
no_start (SharedIterations _ _) s slot t h = rw h refl
no_start (PerVuIterations _ _) s slot t h = rw h refl
no_start (ConstantVus _) s slot t h = rw h refl
no_start (RampingVus _ _) s slot t h = rw h refl
no_start (ArrivalRate _ _ _) s slot t h = refl
no_start (ExternallyControlled _ _ _) s slot t h = rw h refl

pub no_drop : (executor : Executor) (s : Scenario) (t : ℕ) → runs s ≡ false → executor_item_to_drop executor s t ≡ None
no_drop (SharedIterations _ _) s t h = rw h refl
no_drop (PerVuIterations _ _) s t h = rw h refl
no_drop (ConstantVus _) s t h = refl
no_drop (RampingVus _ _) s t h = refl
no_drop (ArrivalRate _ _ _) s t h = refl
no_drop (ExternallyControlled _ _ _) s t h = refl

stop_quiet : (b : Bool) (n : ℕ) (move : Move) → In move (cond b (StopScenario n ∷ []) []) → is_quiet move ≡ true
stop_quiet true n move here = refl
stop_quiet true n move (there h) = absurd (nothing_in h)
stop_quiet false n move h = absurd (nothing_in h)

close_quiet : (b : Bool) (n : ℕ) (move : Move) → In move (cond b (CloseScenario n ∷ []) []) → is_quiet move ≡ true
close_quiet true n move here = refl
close_quiet true n move (there h) = absurd (nothing_in h)
close_quiet false n move h = absurd (nothing_in h)

-- of a scenario that doesn't run only such acts are enabled
quiet_where_stopped : (users : Users) (n : ℕ) (s : Scenario) (t : ℕ) (move : Move) → runs s ≡ false → In move (moves_of users n s t) → is_quiet move ≡ true
quiet_where_stopped users n s t move h there_is =
    elim (In-append move (stops n s t ++ releases n s t ++ takes n s users t ++ arrivals n s users t ++ starts n s t ++ drops n s t) (closes n s t) there_is) [
      | inr at ↦ close_quiet _ n move at
      | inl at6 ↦ elim (In-append move (stops n s t ++ releases n s t ++ takes n s users t ++ arrivals n s users t ++ starts n s t) (drops n s t) at6) [
        | inr at ↦ absurd (nothing_in (subst (λ o. In move (option_to_list (option_map (λ item. DropIteration n item) o))) (no_drop s.part.executor s t h) at))
        | inl at5 ↦ elim (In-append move (stops n s t ++ releases n s t ++ takes n s users t ++ arrivals n s users t) (starts n s t) at5) [
          | inr at ↦
              let found = In-filter_map (start_on n s t) move (idle_users s.share) at in
              absurd (some_not_none (sym found.2 ∙ ap (λ o. option_map (λ item. StartIteration n found.0.user item (until_of s found.0.slot t)) o) (no_start s.part.executor s found.0.slot t h)))
          | inl at4 ↦ elim (In-append move (stops n s t ++ releases n s t ++ takes n s users t) (arrivals n s users t) at4) [
            | inr at ↦
                let none : due_arrival s t ≡ None = rw h refl in
                absurd (nothing_in (subst (λ o. In move (option_map_or (answers_to n s users t) o [])) none at))
            | inl at3 ↦ elim (In-append move (stops n s t ++ releases n s t) (takes n s users t) at3) [
              | inr at ↦
                  let found = In-flat_map (λ slot. map (λ user. TakeUser n user slot) users.free) move (filter (λ slot. may_take s slot t) (slots_to_take s.part.executor s)) at in
                  let kept = In-filter (λ slot. may_take s slot t) found.0 (slots_to_take s.part.executor s) found.1 in
                  absurd (true≢false (sym kept.1 ∙ no_take s.part.executor s found.0 t h))
              | inl at2 ↦ elim (In-append move (stops n s t) (releases n s t) at2) [
                | inr at ↦
                    let found = In-map (λ (u : HeldUser). ReleaseUser n u.user) move (filter (λ (u : HeldUser). may_release s u.slot t) (idle_users s.share)) at in
                    subst (λ m. is_quiet m ≡ true) found.2 refl
                | inl at1 ↦ stop_quiet _ n move at1
              ]
            ]
          ]
        ]
      ]
    ]

-- a scenario's share is one of the state's
share_of : (controls : Controls) (parts : List Part) (shares : List Share) (s : Scenario) → In s (scenarios_with controls parts shares) → In s.share shares
share_of controls [] shares s h = absurd (nothing_in h)
share_of controls (part ∷ parts) [] s h = absurd (nothing_in h)
share_of controls (part ∷ parts) (share ∷ shares) s here = here
share_of controls (part ∷ parts) (share ∷ shares) s (there more) = there (share_of controls parts shares s more)

stopped_runs : (s : Scenario) → is_stopped_share s.share ≡ true → runs s ≡ false
stopped_runs s h = grind (arith, common_steps)

-- where no share runs, a first act is such
pub first_quiet : (plan : Plan) (state : State) (t : ℕ) (move : Move) → IsStopped state → EnabledAt plan state t move → is_quiet move ≡ true
first_quiet plan state t move stopped at =
    quiet_where_stopped (users_of plan state) at.number at.scenario t move
    (stopped_runs at.scenario (all_at is_stopped_share at.scenario.share (share_of state.controls plan.parts state.shares at.scenario at.there_is) stopped.shares))
    at.enabled

-- ---- what is added then

quiet_one : (move : Move) (at thread t : ℕ) → is_quiet move ≡ true → all_winding_down (entries_of at thread t (acts_of move)) ≡ true
quiet_one (StopScenario n) at thread t h = refl
quiet_one (ReleaseUser n user) at thread t h = refl
quiet_one (CloseScenario n) at thread t h = refl
quiet_one (TakeUser n user slot) at thread t h = absurd (cc)
quiet_one (AnswerArrival n due item until answer) at thread t h = absurd (cc)
quiet_one (StartIteration n user item until) at thread t h = absurd (cc)
quiet_one (DropIteration n item) at thread t h = absurd (cc)

quiet_short : (move : Move) (at thread t : ℕ) → is_quiet move ≡ true → length (entries_of at thread t (acts_of move)) ≡ 1
quiet_short (StopScenario n) at thread t h = refl
quiet_short (ReleaseUser n user) at thread t h = refl
quiet_short (CloseScenario n) at thread t h = refl
quiet_short (TakeUser n user slot) at thread t h = absurd (cc)
quiet_short (AnswerArrival n due item until answer) at thread t h = absurd (cc)
quiet_short (StartIteration n user item until) at thread t h = absurd (cc)
quiet_short (DropIteration n item) at thread t h = absurd (cc)

asked_winds : (plan : Plan) (state : State) (one : Entry) → IsStopped state → is_asked_act one.act ≡ true → adds_one plan state one ≡ true →
    is_winding_down one.act ≡ true
asked_winds plan state one stopped asked h =
    let w = one_wrote plan state one asked h in
    let quiet = first_quiet plan state one.reading w.move stopped (first_enabled plan state one.reading w.move w.first) in
    let all : all_winding_down (one ∷ []) ≡ true =
    subst (λ es. all_winding_down es ≡ true) w.wrote (quiet_one w.move (state.entries + 1) one.thread one.reading quiet) in
    (both_true (is_winding_down one.act) true all).0

one_winds_by : (plan : Plan) (state : State) (at thread t : ℕ) (act : Act) → IsStopped state →
    let one : Entry = record { turn = at; thread = thread; act = act; reading = t } in
    adds_one plan state one ≡ true → is_winding_down act ≡ true
one_winds_by plan state at thread t (Return n user item outcome tally) stopped h = refl
one_winds_by plan state at thread t (Release n user) stopped h = refl
one_winds_by plan state at thread t (Stop n) stopped h = refl
one_winds_by plan state at thread t (Close n) stopped h = refl
one_winds_by plan state at thread t (Control commands.Stop) stopped h = let refused = rw stopped.commanded at h in absurd (cc)
one_winds_by plan state at thread t (Control (commands.Pause b)) stopped h = refl
one_winds_by plan state at thread t (Control (commands.Vus n)) stopped h = refl
one_winds_by plan state at thread t (Control (commands.VusMax n)) stopped h = refl
one_winds_by plan state at thread t (Take n user slot) stopped h = asked_winds plan state (record { turn = at; thread = thread; act = Take n user slot; reading = t }) stopped refl h
one_winds_by plan state at thread t (Grow n user slot) stopped h = asked_winds plan state (record { turn = at; thread = thread; act = Grow n user slot; reading = t }) stopped refl h
one_winds_by plan state at thread t (Start n user item until) stopped h = asked_winds plan state (record { turn = at; thread = thread; act = Start n user item until; reading = t }) stopped refl h
one_winds_by plan state at thread t (Drop n item) stopped h = asked_winds plan state (record { turn = at; thread = thread; act = Drop n item; reading = t }) stopped refl h
one_winds_by plan state at thread t (Late n item) stopped h = asked_winds plan state (record { turn = at; thread = thread; act = Late n item; reading = t }) stopped refl h

one_winds : (plan : Plan) (state : State) (one : Entry) → IsStopped state → adds_one plan state one ≡ true → is_winding_down one.act ≡ true
one_winds plan state one stopped h = one_winds_by plan state one.turn one.thread one.reading one.act stopped h

no_two : (plan : Plan) (state : State) (one two : Entry) → IsStopped state → adds_two plan state one two ≡ true → ⊥
no_two plan state one two stopped h =
    let w = pair_wrote plan state one two h in
    let quiet = first_quiet plan state one.reading w.move stopped (first_enabled plan state one.reading w.move w.first) in
    let short : length (one ∷ two ∷ []) ≡ 1 = subst (λ (es : List Entry). length es ≡ 1) w.wrote (quiet_short w.move (state.entries + 1) one.thread one.reading quiet) in
    omega arith

-- ---- what it leaves

change_all : (n : ℕ) (change : Share → Share) (shares : List Share) → ((share : Share) → is_stopped_share share ≡ true → is_stopped_share (change share) ≡ true) →
    list_all is_stopped_share shares ≡ true → list_all is_stopped_share (change_at n change shares) ≡ true
change_all n change [] keeps h = refl
change_all zero change (share ∷ rest) keeps h =
    let both = both_true (is_stopped_share share) (list_all is_stopped_share rest) h in rw (keeps share both.0, both.1) refl
change_all (suc n) change (share ∷ rest) keeps h =
    let both = both_true (is_stopped_share share) (list_all is_stopped_share rest) h in rw (both.0, change_all n change rest keeps both.1) refl

stays_stopped : (plan : Plan) (state : State) (at thread t : ℕ) (act : Act) → IsStopped state → is_winding_down act ≡ true →
    IsStopped (after_entry plan state (record { turn = at; thread = thread; act = act; reading = t }))
stays_stopped plan state at thread t (Return n user item outcome tally) stopped h =
    record { commanded = stopped.commanded; shares = change_all n _ state.shares (λ share still. still) stopped.shares }
stays_stopped plan state at thread t (Release n user) stopped h =
    record { commanded = stopped.commanded; shares = change_all n _ state.shares (λ share still. still) stopped.shares }
stays_stopped plan state at thread t (Stop n) stopped h =
    record { commanded = stopped.commanded; shares = change_all n _ state.shares (λ share still. grind (arith, common_steps)) stopped.shares }
stays_stopped plan state at thread t (Close n) stopped h =
    record { commanded = stopped.commanded; shares = change_all n _ state.shares (λ share still. refl) stopped.shares }
stays_stopped plan state at thread t (Control commands.Stop) stopped h = absurd (cc)
stays_stopped plan state at thread t (Control (commands.Pause b)) stopped h = record { commanded = stopped.commanded; shares = stopped.shares }
stays_stopped plan state at thread t (Control (commands.Vus n)) stopped h = record { commanded = stopped.commanded; shares = stopped.shares }
stays_stopped plan state at thread t (Control (commands.VusMax n)) stopped h = record { commanded = stopped.commanded; shares = stopped.shares }
stays_stopped plan state at thread t (Take n user slot) stopped h = absurd (cc)
stays_stopped plan state at thread t (Grow n user slot) stopped h = absurd (cc)
stays_stopped plan state at thread t (Start n user item until) stopped h = absurd (cc)
stays_stopped plan state at thread t (Drop n item) stopped h = absurd (cc)
stays_stopped plan state at thread t (Late n item) stopped h = absurd (cc)

stop_share : (t : ℕ) (share : Share) → is_stopped_share (stop_commanded_share t share) ≡ true
stop_share t share =
    let P : Bool → Type 0 = λ b. share.closed ≡ b → is_stopped_share (cond b share (record share { level = StartsNothing t })) ≡ true in
    let stops : P share.closed = elim share.closed as P [ true ↦ λ e. rw e refl | false ↦ λ e. rw e refl ] in
    stops refl

stop_shares : (t : ℕ) (shares : List Share) → list_all is_stopped_share (map (stop_commanded_share t) shares) ≡ true
stop_shares t [] = refl
stop_shares t (share ∷ rest) = rw (stop_share t share, stop_shares t rest) refl

-- a command to stop leaves a pool that winds down
stopped_by : (plan : Plan) (state : State) (at thread t : ℕ) (act : Act) → commands_stop act ≡ true →
    IsStopped (after_entry plan state (record { turn = at; thread = thread; act = act; reading = t }))
stopped_by plan state at thread t (Control commands.Stop) h = record { commanded = refl; shares = stop_shares t state.shares }
stopped_by plan state at thread t _ h = absurd (cc)

-- ---- whole histories

winds : (plan : Plan) (history : List Entry) (state : State) → are_steps plan state history ≡ true → IsStopped state → all_winding_down history ≡ true
winds plan [] state h stopped = refl
winds plan (one ∷ []) state h stopped = rw (one_winds plan state one stopped h) refl
winds plan (one ∷ two ∷ rest) state h stopped =
    elim (some_true (adds_one plan state one && are_steps plan (after_entry plan state one) (two ∷ rest)) _ h) [
      | inl first ↦
          let both = both_true (adds_one plan state one) _ first in
          let now = one_winds plan state one stopped both.0 in
          let later = winds plan (two ∷ rest) (after_entry plan state one) both.1 (stays_stopped plan state one.turn one.thread one.reading one.act stopped now) in
          rw now later
      | inr second ↦ absurd (no_two plan state one two stopped (both_true (adds_two plan state one two) _ second).0)
    ]

no_command : (move : Move) (at thread t : ℕ) → list_all (λ (e : Entry). not (commands_stop e.act)) (entries_of at thread t (acts_of move)) ≡ true
no_command (StopScenario n) at thread t = refl
no_command (ReleaseUser n user) at thread t = refl
no_command (CloseScenario n) at thread t = refl
no_command (TakeUser n user slot) at thread t = refl
no_command (AnswerArrival n due item until CountLate) at thread t = refl
no_command (AnswerArrival n due item until (StartOn user)) at thread t = refl
no_command (AnswerArrival n due item until (GrowAndStart user slot)) at thread t = refl
no_command (AnswerArrival n due item until (TakeAndStart user slot)) at thread t = refl
no_command (AnswerArrival n due item until DropArrival) at thread t = refl
no_command (StartIteration n user item until) at thread t = refl
no_command (DropIteration n item) at thread t = refl

-- neither of two entries of one step commands a stop
pair_commands_nothing : (plan : Plan) (state : State) (one two : Entry) → adds_two plan state one two ≡ true →
    (commands_stop one.act ≡ false) × (commands_stop two.act ≡ false)
pair_commands_nothing plan state one two h =
    let w = pair_wrote plan state one two h in
    let all : list_all (λ (e : Entry). not (commands_stop e.act)) (one ∷ two ∷ []) ≡ true =
    subst (λ es. list_all (λ (e : Entry). not (commands_stop e.act)) es ≡ true) w.wrote (no_command w.move (state.entries + 1) one.thread one.reading) in
    let first = both_true (not (commands_stop one.act)) _ all in
    let second = both_true (not (commands_stop two.act)) _ first.1 in
    (grind (arith, common_steps, first.0), grind (arith, common_steps, second.0))

-- a step's only entry, and what is behind it
winds_on : (plan : Plan) (state : State) (one : Entry) (rest : List Entry) →
    are_steps plan (after_entry plan state one) rest ≡ true → winds_down rest ≡ true → winds_down (one ∷ rest) ≡ true
winds_on plan state one rest h later =
    let P : Bool → Type 0 = λ b. commands_stop one.act ≡ b → cond b (all_winding_down rest) (winds_down rest) ≡ true in
    let on : P (commands_stop one.act) = elim (commands_stop one.act) as P [
      | true ↦ λ e. winds plan rest (after_entry plan state one) h (stopped_by plan state one.turn one.thread one.reading one.act e)
      | false ↦ λ e. later
    ] in on refl

pub steps_wind_down : (plan : Plan) (history : List Entry) (state : State) → are_steps plan state history ≡ true → winds_down history ≡ true
steps_wind_down plan [] state h = refl
steps_wind_down plan (one ∷ []) state h = winds_on plan state one [] refl refl
steps_wind_down plan (one ∷ two ∷ rest) state h =
    elim (some_true (adds_one plan state one && are_steps plan (after_entry plan state one) (two ∷ rest)) _ h) [
      | inl first ↦
          let both = both_true (adds_one plan state one) _ first in
          winds_on plan state one (two ∷ rest) both.1 (steps_wind_down plan (two ∷ rest) (after_entry plan state one) both.1)
      | inr second ↦
          let both = both_true (adds_two plan state one two) _ second in
          let quiet = pair_commands_nothing plan state one two both.0 in
          rw (quiet.0, quiet.1) (steps_wind_down plan rest (after_entry plan (after_entry plan state one) two) both.1)
    ]
