-- A history goes on legally with the entries of a step.
use Rattle.std.proofs.Common.{◌≡◌, ◌≤◌, ◌+◌, ℕ, zero, suc, Bool, true, false, cond, ◌&&◌, List, [], ◌∷◌, ◌++◌, Option, None, Some, arith, refl, ap, sym, ◌∙◌, subst, inl, inr, slice_get}
use Rattle.std.proofs.lemmas.Grind.{common_steps}
use Rattle.std.specs.Prelude.{◌==◌, nat_le, find, unwrap_or, if◌then◌else◌}
use Rattle.std.specs.List.{list_any}
use Rattle.std.specs.Option.{option_map_or}
use Rattle.ld_base.specs.Stint.{StintView, stint_of}
use Rattle.ld_base.specs.Tally.{TallyView}
use Rattle.ld_base.specs.declared.act.Act.{Act}
use Rattle.ld_base.specs.declared.act.Act.TheVariants.{Take, Grow, Start, Drop, Late, Release, Stop, Close, Control}
use Rattle.ld_base.specs.declared.act.Outcome.TheVariants.{Done, Interrupted}
use Rattle.ld_base.specs.declared.ask.Ask.{Ask}
use Rattle.ld_base.specs.declared.ask.Ask.TheVariants as asks
use Rattle.ld_base.specs.declared.command.Command.{Command}
use Rattle.ld_base.specs.declared.entry.Entry.{Entry}
use Rattle.ld_base.specs.declared.reply.Reply.{Reply}
use Rattle.ld_base.specs.declared.reply.Reply.TheVariants.{Over, Wait, Noted, Denied}
use Rattle.ld_machine.specs.Plan.{Plan}
use Rattle.ld_machine.specs.State.{Condition, Idle, Busy, HeldUser, Share, State, all_closed, opening, times_among, times_held}
use Rattle.ld_machine.specs.Moves.{Answer, CountLate, StartOn, GrowAndStart, TakeAndStart, DropArrival, Move, StopScenario, ReleaseUser, TakeUser, AnswerArrival, StartIteration, DropIteration, CloseScenario}
use Rattle.ld_machine.specs.Order.{first_moves}
use Rattle.ld_machine.specs.Acts.{acts_of}
use Rattle.ld_machine.specs.Replies.{reply_to}
use Rattle.ld_machine.specs.Room.{room_refusal, entries_refusal, script_room}
use Rattle.ld_machine.specs.Wait.{busy_until, wait_moment}
use Rattle.ld_machine.specs.Commands.{is_denied}
use Rattle.ld_machine.specs.Effect.{after_entry, after_entries, state_after}
use Rattle.ld_machine.specs.Samples.{tally_fits}
use Rattle.ld_machine.specs.Step.{Result, entries_of, answered, performed, move_result, open_results, act_results, is_busy_with, is_out, outcome_of, return_of, return_results, check_reply, look_reply, control_result, results, IsStep}
use Rattle.ld_machine.specs.History.{adds_one, adds_two, are_steps, ask_for, is_done, until_in, IsLegal}
use Rattle.ld_machine.proofs.ListLemmas.{In, nothing_in, In-map, In-from_Contains, Contains-from_In, In-one, both_true, some_true}
use Rattle.ld_machine.proofs.ResultLemmas.{adds_passes}
use Rattle.ld_machine.proofs.FrontLemmas.{one_more, two_more}
use Rattle.ld_machine.proofs.HolderLemmas.{steps_hold, opening_holds}

-- a step's entries pass the test of a legal history: none, or one, or two of one step
abbrev Pass : Plan → State → List Entry → Type 0
Pass plan state [] = Unit {0}
Pass plan state (one ∷ []) = adds_one plan state one ≡ true
Pass plan state (one ∷ two ∷ []) = adds_two plan state one two ≡ true
Pass plan state (_ ∷ _ ∷ _ ∷ _) = ⊥

-- ---- what passes behind a legal history is legal

steps_pass : (plan : Plan) (state : State) (entries : List Entry) → Pass plan state entries → are_steps plan state entries ≡ true
steps_pass plan state [] h = refl
steps_pass plan state (one ∷ []) h = h
steps_pass plan state (one ∷ two ∷ []) h = two_more plan state one two [] h refl
steps_pass plan state (_ ∷ _ ∷ _ ∷ _) h = absurd h

go_on : (plan : Plan) (history entries : List Entry) (state : State) → are_steps plan state history ≡ true →
    Pass plan (after_entries plan state history) entries → are_steps plan state (history ++ entries) ≡ true
go_on plan [] entries state h pass = steps_pass plan state entries pass
go_on plan (one ∷ []) entries state h pass =
    one_more plan state one entries h (steps_pass plan (after_entry plan state one) entries pass)
go_on plan (one ∷ two ∷ rest) entries state h pass =
    elim (some_true (adds_one plan state one && are_steps plan (after_entry plan state one) (two ∷ rest)) _ h) [
      | inl first ↦
          let both = both_true (adds_one plan state one) _ first in
          one_more plan state one (two ∷ (rest ++ entries)) both.0 (go_on plan (two ∷ rest) entries (after_entry plan state one) both.1 pass)
      | inr second ↦
          let both = both_true (adds_two plan state one two) _ second in
          two_more plan state one two (rest ++ entries) both.0 (go_on plan rest entries (after_entry plan (after_entry plan state one) two) both.1 pass)
    ]

-- ---- entries of acts

one_passes : (plan : Plan) (state : State) (thread t : ℕ) (act : Act) (r : Result) →
    let one : Entry = record { turn = state.entries + 1; thread = thread; act = act; reading = t } in
    IsStep plan state thread (ask_for state act) t r → r.entries ≡ one ∷ [] → adds_one plan state one ≡ true
one_passes plan state thread t act r step same =
    let one : Entry = record { turn = state.entries + 1; thread = thread; act = act; reading = t } in
    adds_passes plan state one (one ∷ []) (r, step, same)

two_pass : (plan : Plan) (state : State) (thread t : ℕ) (act next : Act) (r : Result) →
    let one : Entry = record { turn = state.entries + 1; thread = thread; act = act; reading = t } in
    let two : Entry = record { turn = state.entries + 1 + 1; thread = thread; act = next; reading = t } in
    IsStep plan state thread (ask_for state act) t r → r.entries ≡ one ∷ two ∷ [] → adds_two plan state one two ≡ true
two_pass plan state thread t act next r step same =
    let one : Entry = record { turn = state.entries + 1; thread = thread; act = act; reading = t } in
    let two : Entry = record { turn = state.entries + 1 + 1; thread = thread; act = next; reading = t } in
    adds_passes plan state one (one ∷ two ∷ []) (r, step, same)

answer_passes : (plan : Plan) (state : State) (thread t n due item until : ℕ) (answer : Answer) (r : Result) →
    IsStep plan state thread asks.Act t r → r.entries ≡ entries_of (state.entries + 1) thread t (acts_of (AnswerArrival n due item until answer)) →
    Pass plan state (entries_of (state.entries + 1) thread t (acts_of (AnswerArrival n due item until answer)))
answer_passes plan state thread t n due item until CountLate r step same = one_passes plan state thread t (Late n item) r step same
answer_passes plan state thread t n due item until (StartOn user) r step same = one_passes plan state thread t (Start n user item until) r step same
answer_passes plan state thread t n due item until (GrowAndStart user slot) r step same = two_pass plan state thread t (Grow n user slot) (Start n user item until) r step same
answer_passes plan state thread t n due item until (TakeAndStart user slot) r step same = two_pass plan state thread t (Take n user slot) (Start n user item until) r step same
answer_passes plan state thread t n due item until DropArrival r step same = one_passes plan state thread t (Drop n item) r step same

move_passes : (plan : Plan) (state : State) (thread t : ℕ) (move : Move) (r : Result) → IsStep plan state thread asks.Act t r →
    r.entries ≡ entries_of (state.entries + 1) thread t (acts_of move) → Pass plan state (entries_of (state.entries + 1) thread t (acts_of move))
move_passes plan state thread t (StopScenario n) r step same = one_passes plan state thread t (Stop n) r step same
move_passes plan state thread t (ReleaseUser n user) r step same = one_passes plan state thread t (Release n user) r step same
move_passes plan state thread t (TakeUser n user slot) r step same = one_passes plan state thread t (Take n user slot) r step same
move_passes plan state thread t (AnswerArrival n due item until answer) r step same = answer_passes plan state thread t n due item until answer r step same
move_passes plan state thread t (StartIteration n user item until) r step same = one_passes plan state thread t (Start n user item until) r step same
move_passes plan state thread t (DropIteration n item) r step same = one_passes plan state thread t (Drop n item) r step same
move_passes plan state thread t (CloseScenario n) r step same = one_passes plan state thread t (Close n) r step same

-- ---- entries of each ask

none_pass : (plan : Plan) (state : State) (r : Result) → r.entries ≡ [] → Pass plan state r.entries
none_pass plan state r none = subst (Pass plan state) (sym none) tt

open_pass : (plan : Plan) (state : State) (thread t : ℕ) (moves : List Move) (r : Result) → IsStep plan state thread asks.Act t r →
    In r (open_results plan state thread t moves) → Pass plan state r.entries
open_pass plan state thread t [] r step h =
    none_pass plan state r (ap (λ (q : Result). q.entries) (sym (In-one r (answered state (Wait (wait_moment plan state t))) h)))
open_pass plan state thread t (m ∷ ms) r step h =
    let found = In-map (move_result plan state thread t) r (m ∷ ms) h in
    performs found.0 (room_refusal plan state found.0) found.2
  where
    performs : (move : Move) (refusal : Option Reply) →
        option_map_or (answered state) refusal (performed plan state thread t (reply_to move) (acts_of move)) ≡ r → Pass plan state r.entries
    performs move (Some reply) is = none_pass plan state r (ap (λ (q : Result). q.entries) (sym is))
    performs move None is =
        let same : r.entries ≡ entries_of (state.entries + 1) thread t (acts_of move) = ap (λ (q : Result). q.entries) (sym is) in
        subst (Pass plan state) (sym same) (move_passes plan state thread t move r step same)

act_pass : (plan : Plan) (state : State) (thread t : ℕ) (r : Result) → In r (act_results plan state thread t) → Pass plan state r.entries
act_pass plan state thread t r h =
    let step : IsStep plan state thread asks.Act t r = Contains-from_In r h in
    let P : Bool → Type 0 = λ b. In r (cond b (answered state Over ∷ []) (open_results plan state thread t (first_moves plan state t))) → Pass plan state r.entries in
    let passes : P (all_closed state) = elim (all_closed state) as P [
      | true ↦ λ at. none_pass plan state r (ap (λ (q : Result). q.entries) (sym (In-one r (answered state Over) at)))
      | false ↦ λ at. open_pass plan state thread t (first_moves plan state t) r step at
    ] in passes h

-- the reading decides the outcome again in the same way
outcome_again : (finished in_time : Bool) →
    (if is_done (if finished && in_time then Done else Interrupted) && in_time then Done else Interrupted) ≡ (if finished && in_time then Done else Interrupted)
outcome_again true true = refl
outcome_again true false = refl
outcome_again false true = refl
outcome_again false false = refl

-- who isn't among some users is busy with nothing there
not_among : (user thread item until : ℕ) (others : List HeldUser) → times_among user others ≡ 0 →
    list_any (λ (h : HeldUser). (h.user == user) && is_busy_with h.condition thread item until) others ≡ false
not_among user thread item until [] none = refl
not_among user thread item until (h ∷ rest) none = step (h.user == user) refl (not_among user thread item until rest)
  where
    step : (b : Bool) → (h.user == user) ≡ b →
        (times_among user rest ≡ 0 → list_any (λ (h : HeldUser). (h.user == user) && is_busy_with h.condition thread item until) rest ≡ false) →
        list_any (λ (h : HeldUser). (h.user == user) && is_busy_with h.condition thread item until) (h ∷ rest) ≡ false
    step true is more =
        let times : times_among user (h ∷ rest) ≡ 1 + times_among user rest = ap (λ b. (if b then 1 else 0) + times_among user rest) is in
        absurd (omega arith)
    step false is more =
        let times : times_among user (h ∷ rest) ≡ 0 + times_among user rest = ap (λ b. (if b then 1 else 0) + times_among user rest) is in
        rw is (more (omega arith))

-- a share holds a user no more often than all shares do
among_at_most : (user n : ℕ) (share : Share) (shares : List Share) → slice_get shares n ≡ Some share → times_among user share.held ≤ times_held user shares
among_at_most user n share [] is = absurd cc
among_at_most user zero share (s ∷ rest) is =
    let same : s ≡ share = cc in
    let times : times_among user s.held ≡ times_among user share.held = ap (λ (x : Share). times_among user x.held) same in
    omega arith
among_at_most user (suc n) share (s ∷ rest) is =
    let later = among_at_most user n share rest is in
    omega arith

-- a user that is held once and is out has the `until` of its stint
until_found : (user thread item until : ℕ) (held : List HeldUser) → times_among user held ≤ 1 →
    list_any (λ (h : HeldUser). (h.user == user) && is_busy_with h.condition thread item until) held ≡ true →
    option_map_or (λ (h : HeldUser). unwrap_or (busy_until h.condition) 0) (find (λ (h : HeldUser). h.user == user) held) 0 ≡ until
until_found user thread item until [] once out = absurd cc
until_found user thread item until (h ∷ rest) once out =
    step (h.user == user) refl (until_found user thread item until rest)
  where
    busy_is : (condition : Condition) → is_busy_with condition thread item until ≡ true → unwrap_or (busy_until condition) 0 ≡ until
    busy_is Idle is = absurd cc
    busy_is (Busy thread' item' until') is =
        let both = both_true ((thread' == thread) && (item' == item)) (until' == until) is in
        let test = both.1 in
        grind (arith, common_steps)

    nobody : (others : List HeldUser) → times_among user others ≡ 0 →
        list_any (λ (h : HeldUser). (h.user == user) && is_busy_with h.condition thread item until) others ≡ false
    nobody others none = not_among user thread item until others none

    step : (b : Bool) → (h.user == user) ≡ b →
        (times_among user rest ≤ 1 → list_any (λ (h : HeldUser). (h.user == user) && is_busy_with h.condition thread item until) rest ≡ true →
        option_map_or (λ (h : HeldUser). unwrap_or (busy_until h.condition) 0) (find (λ (h : HeldUser). h.user == user) rest) 0 ≡ until) →
        option_map_or (λ (h : HeldUser). unwrap_or (busy_until h.condition) 0) (find (λ (h : HeldUser). h.user == user) (h ∷ rest)) 0 ≡ until
    step true is more =
        let times : times_among user (h ∷ rest) ≡ 1 + times_among user rest = ap (λ b. (if b then 1 else 0) + times_among user rest) is in
        let none : times_among user rest ≡ 0 = omega arith in
        let here : ((h.user == user) && is_busy_with h.condition thread item until) ≡ true =
        elim (some_true ((h.user == user) && is_busy_with h.condition thread item until) _ out) [
          | inl first ↦ first
          | inr later ↦ absurd (let clash = sym (nobody rest none) ∙ later in cc)
        ]
        in
        rw is (busy_is h.condition (both_true (h.user == user) _ here).1)
    step false is more =
        let times : times_among user (h ∷ rest) ≡ 0 + times_among user rest = ap (λ b. (if b then 1 else 0) + times_among user rest) is in
        let later : list_any (λ (h : HeldUser). (h.user == user) && is_busy_with h.condition thread item until) rest ≡ true = rw is at out in
        rw is (more (omega arith) later)

-- a stint that is out has its user's `until`
until_is : (state : State) (thread n user item until : ℕ) → times_held user state.shares ≤ 1 →
    is_out state thread (stint_of n user item until) ≡ true → until_in state n user ≡ until
until_is state thread n user item until once out = step (slice_get state.shares n) refl out
  where
    step : (found : Option Share) → slice_get state.shares n ≡ found →
        option_map_or (λ (share : Share). list_any (λ (h : HeldUser). (h.user == user) && is_busy_with h.condition thread item until) share.held) found false ≡ true →
        option_map_or (λ (share : Share). option_map_or (λ (h : HeldUser). unwrap_or (busy_until h.condition) 0) (find (λ (h : HeldUser). h.user == user) share.held) 0) found 0 ≡ until
    step None is at = absurd cc
    step (Some share) is at =
        let few = among_at_most user n share state.shares is in
        until_found user thread item until share.held (omega arith) at

return_pass : (plan : Plan) (state : State) (thread t : ℕ) (stint : StintView) (finished : Bool) (tally : TallyView) (r : Result) →
    ((user : ℕ) → times_held user state.shares ≤ 1) → In r (return_results plan state thread t stint finished tally) → Pass plan state r.entries
return_pass plan state thread t stint finished tally r once h =
    let outcome = outcome_of finished t stint.until in
    let noted = performed plan state thread t Noted (return_of stint outcome tally ∷ []) in
    let P : Bool → Type 0 = λ b. (is_out state thread stint && tally_fits plan.names (script_room plan stint.scenario) tally) ≡ b →
    In r (cond b (noted ∷ []) []) → Pass plan state r.entries in
    let passes : P (is_out state thread stint && tally_fits plan.names (script_room plan stint.scenario) tally) =
    elim (is_out state thread stint && tally_fits plan.names (script_room plan stint.scenario) tally) as P [
      | false ↦ λ e at. absurd (nothing_in at)
      | true ↦ λ e at.
          let out = (both_true (is_out state thread stint) _ e).0 in
          let until : until_in state stint.scenario stint.user ≡ stint.until =
          until_is state thread stint.scenario stint.user stint.item stint.until (once stint.user) out in
          let again : return_results plan state thread t (stint_of stint.scenario stint.user stint.item (until_in state stint.scenario stint.user)) (is_done outcome) tally
          ≡ return_results plan state thread t stint finished tally =
          ap (λ u. return_results plan state thread t (stint_of stint.scenario stint.user stint.item u) (is_done outcome) tally) until
          ∙ ap (λ o. cond (is_out state thread stint && tally_fits plan.names (script_room plan stint.scenario) tally)
          (performed plan state thread t Noted (return_of stint o tally ∷ []) ∷ []) []) (outcome_again finished (nat_le t stint.until)) in
          let step : IsStep plan state thread (ask_for state (return_of stint outcome tally)) t r = Contains-from_In r (subst (In r) (sym again) h) in
          let same = ap (λ (q : Result). q.entries) (sym (In-one r noted at)) in
          subst (Pass plan state) (sym same) (one_passes plan state thread t (return_of stint outcome tally) r step same)
    ]
    in passes refl h

control_pass : (plan : Plan) (state : State) (thread t : ℕ) (command : Command) (r : Result) → In r (control_result plan state thread t command ∷ []) → Pass plan state r.entries
control_pass plan state thread t command r h =
    let step : IsStep plan state thread (asks.Control command) t r = Contains-from_In r h in
    let is : control_result plan state thread t command ≡ r = In-one r (control_result plan state thread t command) h in
    denies (is_denied plan state command) step is
  where
    noted : Option Reply → Result
    noted refusal = option_map_or (answered state) refusal (performed plan state thread t Noted (Control command ∷ []))

    refuses : (refusal : Option Reply) → IsStep plan state thread (asks.Control command) t r → noted refusal ≡ r → Pass plan state r.entries
    refuses (Some reply) step is = none_pass plan state r (ap (λ (q : Result). q.entries) (sym is))
    refuses None step is =
        let same = ap (λ (q : Result). q.entries) (sym is) in
        subst (Pass plan state) (sym same) (one_passes plan state thread t (Control command) r step same)

    denies : (b : Bool) → IsStep plan state thread (asks.Control command) t r →
        cond b (answered state Denied) (noted (entries_refusal plan state 1 0)) ≡ r → Pass plan state r.entries
    denies true step is = none_pass plan state r (ap (λ (q : Result). q.entries) (sym is))
    denies false step is = refuses (entries_refusal plan state 1 0) step is

-- ---- a step's entries

step_pass : (plan : Plan) (state : State) (thread : ℕ) (ask : Ask) (t : ℕ) (r : Result) → ((user : ℕ) → times_held user state.shares ≤ 1) →
    In r (results plan state thread ask t) → Pass plan state r.entries
step_pass plan state thread asks.Act t r once h = act_pass plan state thread t r h
step_pass plan state thread (asks.Return stint finished tally) t r once h = return_pass plan state thread t stint finished tally r once h
step_pass plan state thread (asks.Check n) t r once h =
    let P : Option Share → Type 0 = λ o. In r (option_map_or (λ (share : Share). answered state (check_reply share) ∷ []) o []) → Pass plan state r.entries in
    let passes : P (slice_get state.shares n) = elim (slice_get state.shares n) as P [
      | None ↦ λ at. absurd (nothing_in at)
      | Some share ↦ λ at. none_pass plan state r (ap (λ (q : Result). q.entries) (sym (In-one r (answered state (check_reply share)) at)))
    ] in passes h
step_pass plan state thread asks.Look t r once h =
    none_pass plan state r (ap (λ (q : Result). q.entries) (sym (In-one r (answered state (look_reply state)) h)))
step_pass plan state thread (asks.Control command) t r once h = control_pass plan state thread t command r h

-- a legal history goes on legally with the entries of a step
pub goes_on_legally : (plan : Plan) (history : List Entry) (thread : ℕ) (ask : Ask) (t : ℕ) (r : Result) → IsLegal plan history →
    IsStep plan (state_after plan history) thread ask t r → IsLegal plan (history ++ r.entries)
goes_on_legally plan history thread ask t r legal step =
    let holds = steps_hold plan history (opening plan) legal (opening_holds plan) in
    go_on plan history r.entries (opening plan) legal
    (step_pass plan (state_after plan history) thread ask t r holds.once (In-from_Contains r _ step.0 step.1 step.2))
