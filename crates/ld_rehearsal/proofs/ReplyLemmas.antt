-- What a reply tells of the step that gave it.
use Rattle.std.proofs.Common.{◌≡◌, ◌≢◌, ◌≤◌, ◌==◌, ◌&&◌, ℕ, Bool, true, false, cond, if◌then◌else◌, nat_lt, List, [], ◌∷◌, Option, None, Some, Contains, length, arith, refl, sym, ap, subst, ◌∙◌}
use Rattle.std.specs.List.{list_all}
use Rattle.std.specs.Option.{option_map_or}
use Rattle.ld_base.specs.Stint.{StintView}
use Rattle.ld_base.specs.Tally.{TallyView}
use Rattle.ld_base.specs.declared.ask.Ask.TheVariants as asks
use Rattle.ld_base.specs.declared.reply.Reply.{Reply}
use Rattle.ld_base.specs.declared.reply.Reply.TheVariants.{Run, Wait, Over, Full, Noted}
use Rattle.ld_base.specs.declared.reply.Room.{Room}
use Rattle.ld_machine.specs.Acts.{acts_of, added_entries, made_busy, scenario_of}
use Rattle.ld_machine.specs.Moves.{Answer, CountLate, StartOn, GrowAndStart, TakeAndStart, DropArrival, Move, StopScenario, ReleaseUser, TakeUser, AnswerArrival, StartIteration, DropIteration, CloseScenario, enabled}
use Rattle.ld_machine.specs.OnTime.{is_asked_act}
use Rattle.ld_machine.specs.Order.{first_moves}
use Rattle.ld_machine.specs.Plan.{Plan}
use Rattle.ld_machine.specs.Playing.{Play, play_after}
use Rattle.ld_machine.specs.Rehearsal.{IsRefusedAt, NothingEnabled}
use Rattle.ld_machine.specs.Replies.{reply_to}
use Rattle.ld_machine.specs.Room.{entries_with, samples_with, or_else, room_refusal, script_room}
use Rattle.ld_machine.specs.Samples.{tally_fits}
use Rattle.ld_machine.specs.State.{State, all_closed}
use Rattle.ld_machine.specs.Step.{Result, IsStep, answered, entries_of, is_out, move_result, open_results, outcome_of, performed, replies, return_of}
use Rattle.ld_machine.specs.Wait.{wait_moment}
use Rattle.ld_machine.proofs.FirstOfAllLemmas.{In-of}
use Rattle.ld_machine.proofs.ListLemmas.{Contains-from_In, In, In-map, In-one, map-In, nothing_in}
use Rattle.ld_machine.proofs.OrderLemmas.{none_first}
use Rattle.ld_machine.proofs.WaitLemmas.{reply_waits}
use Rattle.ld_rehearsal.specs.Dues.{play_at}

-- ---- kinds of replies

-- a wait, the end, a refusal for want of room, and all other replies
abbrev pub kind : Reply → ℕ
kind (Wait _) = 0
kind Over = 1
kind (Full _ _ _) = 2
kind _ = 3

answer_kind : (n due item until : ℕ) (answer : Answer) → kind (reply_to (AnswerArrival n due item until answer)) ≡ 3
answer_kind n due item until CountLate = refl
answer_kind n due item until (StartOn user) = refl
answer_kind n due item until (GrowAndStart user slot) = refl
answer_kind n due item until (TakeAndStart user slot) = refl
answer_kind n due item until DropArrival = refl

move_kind : (move : Move) → kind (reply_to move) ≡ 3
move_kind (StopScenario n) = refl
move_kind (ReleaseUser n user) = refl
move_kind (TakeUser n user slot) = refl
move_kind (AnswerArrival n due item until answer) = answer_kind n due item until answer
move_kind (StartIteration n user item until) = refl
move_kind (DropIteration n item) = refl
move_kind (CloseScenario n) = refl

-- an optional reply, if there is one, is a refusal for want of room
abbrev AreFull : Option Reply → Type 0
AreFull o = (refusal : Reply) → o ≡ Some refusal → kind refusal ≡ 2

one_full : (b : Bool) (room : Room) (needed limit : ℕ) → AreFull (if b then Some (Full room needed limit) else None)
one_full true room needed limit refusal is = sym (ap (λ (o : Option Reply). option_map_or kind o 2) is)
one_full false room needed limit refusal is = absurd (cc)

either_full : (a b : Option Reply) → AreFull a → AreFull b → AreFull (or_else a b)
either_full None b one two = two
either_full (Some reply) b one two = one

chosen_full : (b : Bool) (o : Option Reply) → AreFull o → AreFull (if b then o else None)
chosen_full true o full refusal is = full refusal is
chosen_full false o full refusal is = absurd (cc)

refusal_kind : (plan : Plan) (state : State) (move : Move) → AreFull (room_refusal plan state move)
refusal_kind plan state move =
    either_full _ _
    (one_full (nat_lt plan.entry_limit (entries_with state (added_entries move) (made_busy move))) _ _ _)
    (chosen_full (nat_lt 0 (made_busy move)) _ (one_full (nat_lt plan.entry_limit (samples_with plan state (scenario_of move))) _ _ _))

-- ---- asks for an act

-- what an ask for an act gave, and why
pub data ActStep (plan : Plan) (state : State) (t : ℕ) : Result → Type 0 where
  is_over : all_closed state ≡ true → ActStep plan state t (answered state Over)
  is_waiting : all_closed state ≡ false → first_moves plan state t ≡ [] → ActStep plan state t (answered state (Wait (wait_moment plan state t)))
  is_full : (move : Move) (refusal : Reply) → Contains (first_moves plan state t) move → room_refusal plan state move ≡ Some refusal → ActStep plan state t (answered state refusal)
  is_done : (move : Move) → Contains (first_moves plan state t) move → ActStep plan state t (performed plan state 0 t (reply_to move) (acts_of move))

moved : (plan : Plan) (state : State) (t : ℕ) (move : Move) (refusal : Option Reply) → room_refusal plan state move ≡ refusal → Contains (first_moves plan state t) move →
    ActStep plan state t (option_map_or (answered state) refusal (performed plan state 0 t (reply_to move) (acts_of move)))
moved plan state t move None is first = is_done move first
moved plan state t move (Some refusal) is first = is_full move refusal first is

opened : (plan : Plan) (state : State) (t : ℕ) (moves : List Move) (r : Result) → all_closed state ≡ false → first_moves plan state t ≡ moves →
    In r (open_results plan state 0 t moves) → ActStep plan state t r
opened plan state t [] r going same h =
    subst (λ (x : Result). ActStep plan state t x) (In-one r (answered state (Wait (wait_moment plan state t))) h) (is_waiting going same)
opened plan state t (m ∷ ms) r going same h =
    let found = In-map (move_result plan state 0 t) r (m ∷ ms) h in
    let first : Contains (first_moves plan state t) found.0 = Contains-from_In found.0 (subst (λ (xs : List Move). In found.0 xs) (sym same) found.1) in
    subst (λ (x : Result). ActStep plan state t x) found.2 (moved plan state t found.0 (room_refusal plan state found.0) refl first)

pub act_step : (plan : Plan) (state : State) (t : ℕ) (r : Result) → IsStep plan state 0 asks.Act t r → ActStep plan state t r
act_step plan state t r step =
    let P : Bool → Type 0 = λ b. (all_closed state ≡ b) → In r (cond b (answered state Over ∷ []) (open_results plan state 0 t (first_moves plan state t))) → ActStep plan state t r in
    let go : P (all_closed state) = elim (all_closed state) as P [
      | true ↦ λ closed at. subst (λ (x : Result). ActStep plan state t x) (In-one r (answered state Over) at) (is_over closed)
      | false ↦ λ going at. opened plan state t (first_moves plan state t) r going refl at
    ] in go refl (In-of step)

other_kind : (a b : Reply) → a ≡ b → kind a ≢ kind b → ⊥
other_kind a b same other = other (ap kind same)

-- a wait: nothing is enabled
pub on_wait : (plan : Plan) (state : State) (t m : ℕ) (r : Result) → ActStep plan state t r → Wait m ≡ r.reply →
    (all_closed state ≡ false) × (m ≡ wait_moment plan state t) × (enabled plan state t ≡ []) × (r.entries ≡ [])
on_wait plan state t m r (is_over closed) is = absurd (other_kind (Wait m) Over is (λ e. absurd (omega arith)))
on_wait plan state t m r (is_waiting going none) is =
    (going, ap (λ (x : Reply). elim x as (λ _. ℕ) [ Wait k ↦ k | _ ↦ 0 ]) is, none_first (enabled plan state t) none, refl)
on_wait plan state t m r (is_full move refusal first lacks) is =
    absurd (let two = refusal_kind plan state move refusal lacks in let same : 0 ≡ kind refusal = ap kind is in omega arith)
on_wait plan state t m r (is_done move first) is =
    absurd (let three = move_kind move in let same : 0 ≡ kind (reply_to move) = ap kind is in omega arith)

-- the end: every scenario is closed
pub on_over : (plan : Plan) (state : State) (t : ℕ) (r : Result) → ActStep plan state t r → Over ≡ r.reply → (all_closed state ≡ true) × (r.entries ≡ [])
on_over plan state t r (is_over closed) is = (closed, refl)
on_over plan state t r (is_waiting going none) is = absurd (let same : 1 ≡ 0 = ap kind is in omega arith)
on_over plan state t r (is_full move refusal first lacks) is =
    absurd (let two = refusal_kind plan state move refusal lacks in let same : 1 ≡ kind refusal = ap kind is in omega arith)
on_over plan state t r (is_done move first) is =
    absurd (let three = move_kind move in let same : 1 ≡ kind (reply_to move) = ap kind is in omega arith)

-- no room: a first act has none
pub on_full : (plan : Plan) (state : State) (t : ℕ) (room : Room) (needed limit : ℕ) (r : Result) → ActStep plan state t r → Full room needed limit ≡ r.reply →
    IsRefusedAt plan state t (Full room needed limit) × (r.entries ≡ [])
on_full plan state t room needed limit r (is_over closed) is = absurd (let same : 2 ≡ 1 = ap kind is in omega arith)
on_full plan state t room needed limit r (is_waiting going none) is = absurd (let same : 2 ≡ 0 = ap kind is in omega arith)
on_full plan state t room needed limit r (is_full move refusal first lacks) is = ((move, first, lacks ∙ ap Some (sym is)), refl)
on_full plan state t room needed limit r (is_done move first) is =
    absurd (let three = move_kind move in let same : 2 ≡ kind (reply_to move) = ap kind is in omega arith)

-- any other reply: a first act was performed
pub on_act : (plan : Plan) (state : State) (t : ℕ) (r : Result) → ActStep plan state t r → kind r.reply ≡ 3 →
    (move : Move) × Contains (first_moves plan state t) move × (r ≡ performed plan state 0 t (reply_to move) (acts_of move))
on_act plan state t r (is_over closed) is = absurd (omega arith)
on_act plan state t r (is_waiting going none) is = absurd (omega arith)
on_act plan state t r (is_full move refusal first lacks) is = absurd (let two = refusal_kind plan state move refusal lacks in omega arith)
on_act plan state t r (is_done move first) is = (move, first, refl)

-- up to the moment of a wait nothing is enabled
pub quiet_to : (plan : Plan) (state : State) (t m : ℕ) (r : Result) → IsStep plan state 0 asks.Act t r → Wait m ≡ r.reply → NothingEnabled plan state t m
quiet_to plan state t m r step is =
    reply_waits plan state 0 t m (subst (λ (x : Reply). In x (replies plan state 0 asks.Act t)) (sym is) (map-In (λ (x : Result). x.reply) r (In-of step)))

-- ---- what is performed

answer_asked : (n due item until : ℕ) (answer : Answer) → list_all is_asked_act (acts_of (AnswerArrival n due item until answer)) ≡ true
answer_asked n due item until CountLate = refl
answer_asked n due item until (StartOn user) = refl
answer_asked n due item until (GrowAndStart user slot) = refl
answer_asked n due item until (TakeAndStart user slot) = refl
answer_asked n due item until DropArrival = refl

-- acts of the pool are no Returns and no commands
pub acts_asked : (move : Move) → list_all is_asked_act (acts_of move) ≡ true
acts_asked (StopScenario n) = refl
acts_asked (ReleaseUser n user) = refl
acts_asked (TakeUser n user slot) = refl
acts_asked (AnswerArrival n due item until answer) = answer_asked n due item until answer
acts_asked (StartIteration n user item until) = refl
acts_asked (DropIteration n item) = refl
acts_asked (CloseScenario n) = refl

answer_writes : (at t n due item until : ℕ) (answer : Answer) → 1 ≤ length (entries_of at 0 t (acts_of (AnswerArrival n due item until answer)))
answer_writes at t n due item until CountLate = omega arith
answer_writes at t n due item until (StartOn user) = omega arith
answer_writes at t n due item until (GrowAndStart user slot) = omega arith
answer_writes at t n due item until (TakeAndStart user slot) = omega arith
answer_writes at t n due item until DropArrival = omega arith

-- an act of the pool adds at least one entry
pub act_writes : (at t : ℕ) (move : Move) → 1 ≤ length (entries_of at 0 t (acts_of move))
act_writes at t (StopScenario n) = omega arith
act_writes at t (ReleaseUser n user) = omega arith
act_writes at t (TakeUser n user slot) = omega arith
act_writes at t (AnswerArrival n due item until answer) = answer_writes at t n due item until answer
act_writes at t (StartIteration n user item until) = omega arith
act_writes at t (DropIteration n item) = omega arith
act_writes at t (CloseScenario n) = omega arith

-- the stint that a reply hands out
abbrev pub stint_in : Reply → Option StintView
stint_in (Run stint) = Some stint
stint_in _ = None

-- what a user plays behind a reply at t: what it hands out, or what was played before
abbrev pub play_by : ℕ → Reply → ℕ → Option Play → Option Play
play_by t reply user before = option_map_or (λ (stint : StintView). if stint.user == user then Some (play_at t stint) else before) (stint_in reply) before

answer_plays : (at t n due item until : ℕ) (answer : Answer) (user : ℕ) (before : Option Play) →
    play_after user before (entries_of at 0 t (acts_of (AnswerArrival n due item until answer))) ≡ play_by t (reply_to (AnswerArrival n due item until answer)) user before
answer_plays at t n due item until CountLate user before = refl
answer_plays at t n due item until (StartOn other) user before = refl
answer_plays at t n due item until (GrowAndStart other slot) user before = refl
answer_plays at t n due item until (TakeAndStart other slot) user before = refl
answer_plays at t n due item until DropArrival user before = refl

pub act_plays : (at t : ℕ) (move : Move) (user : ℕ) (before : Option Play) → play_after user before (entries_of at 0 t (acts_of move)) ≡ play_by t (reply_to move) user before
act_plays at t (StopScenario n) user before = refl
act_plays at t (ReleaseUser n other) user before = refl
act_plays at t (TakeUser n other slot) user before = refl
act_plays at t (AnswerArrival n due item until answer) user before = answer_plays at t n due item until answer user before
act_plays at t (StartIteration n other item until) user before = refl
act_plays at t (DropIteration n item) user before = refl
act_plays at t (CloseScenario n) user before = refl

-- ---- returns

-- a Return that was asked for is noted
pub return_step : (plan : Plan) (state : State) (t : ℕ) (stint : StintView) (finished : Bool) (tally : TallyView) (r : Result) → IsStep plan state 0 (asks.Return stint finished tally) t r →
    r ≡ performed plan state 0 t Noted (return_of stint (outcome_of finished t stint.until) tally ∷ [])
return_step plan state t stint finished tally r step =
    let result = performed plan state 0 t Noted (return_of stint (outcome_of finished t stint.until) tally ∷ []) in
    let P : Bool → Type 0 = λ b. In r (cond b (result ∷ []) []) → r ≡ result in
    let go : P (is_out state 0 stint && tally_fits plan.names (script_room plan stint.scenario) tally) =
    elim (is_out state 0 stint && tally_fits plan.names (script_room plan stint.scenario) tally) as P [
      | true ↦ λ at. sym (In-one r result at)
      | false ↦ λ at. absurd (nothing_in at)
    ] in go (In-of step)

-- ---- all other replies

-- a reply that is none of these four is one of an act without a stint
pub other_reply : (reply : Reply) → ((stint : StintView) → reply ≡ Run stint → ⊥) → ((m : ℕ) → reply ≡ Wait m → ⊥) → (reply ≡ Over → ⊥) →
    ((room : Room) (needed limit : ℕ) → reply ≡ Full room needed limit → ⊥) → (kind reply ≡ 3) × (stint_in reply ≡ None)
other_reply (Run stint) run wait over full = absurd (run stint refl)
other_reply (Wait m) run wait over full = absurd (wait m refl)
other_reply Over run wait over full = absurd (over refl)
other_reply (Full room needed limit) run wait over full = absurd (full room needed limit refl)
other_reply _ run wait over full = (refl, refl)
