-- A legal history keeps to the limit of samples, room for those of all iterations under way counted in.
use Rattle.std.proofs.Common.{◌≡◌, ◌≤◌, ◌+◌, ◌*◌, ℕ, zero, suc, Bool, true, false, cond, nat_lt, List, [], ◌∷◌, Option, None, Some, map, sum_by, length, arith, refl, slice_get}
use Rattle.std.specs.Option.{option_map_or}
use Rattle.std.proofs.lemmas.List.Sums.{sum_by-cons}
use Rattle.ld_base.specs.Stint.{StintView}
use Rattle.ld_base.specs.Tally.{TallyView}
use Rattle.ld_base.specs.declared.act.Act.TheVariants.{Control}
use Rattle.ld_base.specs.declared.act.Outcome.{Outcome}
use Rattle.ld_base.specs.declared.command.Command.{Command}
use Rattle.ld_base.specs.declared.command.Command.TheVariants as commands
use Rattle.ld_base.specs.declared.entry.Entry.{Entry}
use Rattle.ld_base.specs.declared.reply.Reply.{Reply}
use Rattle.ld_base.specs.declared.reply.Reply.TheVariants.{Full, Noted}
use Rattle.ld_base.specs.declared.reply.Room.TheVariants.{Samples}
use Rattle.ld_machine.specs.Plan.{Part, Plan}
use Rattle.ld_machine.specs.State.{Controls, State, opening, opening_share}
use Rattle.ld_machine.specs.Moves.{CountLate, StartOn, GrowAndStart, TakeAndStart, DropArrival, Move, StopScenario, ReleaseUser, TakeUser, AnswerArrival, StartIteration, DropIteration, CloseScenario, scenarios_with}
use Rattle.ld_machine.specs.Order.{first_moves}
use Rattle.ld_machine.specs.Acts.{acts_of, added_entries, made_busy, scenario_of}
use Rattle.ld_machine.specs.Replies.{reply_to}
use Rattle.ld_machine.specs.Room.{script_room, busy_room, samples_with, entries_refusal, samples_refusal, or_else, room_refusal}
use Rattle.ld_machine.specs.Commands.{after_command}
use Rattle.ld_machine.specs.Effect.{change_share, end_item, end_item_of}
use Rattle.ld_machine.specs.Samples.{tally_fits}
use Rattle.ld_machine.specs.Step.{is_out, return_of, performed}
use Rattle.ld_machine.specs.History.{IsLegal}
use Rattle.ld_machine.specs.Together.{WellHeld}
use Rattle.ld_machine.specs.Playing.{KeepsSamples}
use Rattle.ld_machine.proofs.ListLemmas.{In}
use Rattle.ld_machine.proofs.FirstOfAllLemmas.{first_is}
use Rattle.ld_machine.proofs.SamplesLemmas.{fits_tells}
use Rattle.ld_machine.proofs.BusyRoomLemmas.{room_of, room_command, room_behind_act, room_behind_return}
use Rattle.ld_machine.proofs.KeepsRoomLemmas.{KeptBySteps, above_or_within, legal_keeps}

-- the samples so far, and the room of all scripts under way, keep to the limit
abbrev HasSampleRoom : Plan → State → Type 0
HasSampleRoom plan state = state.samples + busy_room plan state ≤ plan.entry_limit

-- ---- how many samples there are

samples-end_item : (plan : Plan) (n item : ℕ) (state : State) → (end_item_of plan n item state).samples ≡ state.samples
samples-end_item plan n item state =
    let P : Option Part → Type 0 = λ o. (option_map_or (λ part. change_share state n (end_item part item)) o state).samples ≡ state.samples in
    elim (slice_get plan.parts n) as P [ None ↦ refl | Some part ↦ refl ]

samples_command : (state : State) (command : Command) (t : ℕ) → (after_command state command t).samples ≡ state.samples
samples_command state commands.Stop t = refl
samples_command state (commands.Pause b) t = refl
samples_command state (commands.Vus n) t = refl
samples_command state (commands.VusMax n) t = refl

-- no act of the pool adds a sample
samples_behind_act : (plan : Plan) (state : State) (thread t : ℕ) (reply : Reply) (m : Move) →
    (performed plan state thread t reply (acts_of m)).state.samples ≡ state.samples
samples_behind_act plan state thread t reply (StopScenario k) = refl
samples_behind_act plan state thread t reply (ReleaseUser k user) = refl
samples_behind_act plan state thread t reply (TakeUser k user slot) = refl
samples_behind_act plan state thread t reply (StartIteration k user item until) = samples-end_item plan k item _
samples_behind_act plan state thread t reply (DropIteration k item) = samples-end_item plan k item state
samples_behind_act plan state thread t reply (CloseScenario k) = refl
samples_behind_act plan state thread t reply (AnswerArrival k due item until CountLate) = samples-end_item plan k item state
samples_behind_act plan state thread t reply (AnswerArrival k due item until DropArrival) = samples-end_item plan k item state
samples_behind_act plan state thread t reply (AnswerArrival k due item until (StartOn user)) = samples-end_item plan k item _
samples_behind_act plan state thread t reply (AnswerArrival k due item until (GrowAndStart user slot)) = samples-end_item plan k item _
samples_behind_act plan state thread t reply (AnswerArrival k due item until (TakeAndStart user slot)) = samples-end_item plan k item _

-- ---- what isn't refused has room

-- an act makes one user busy at most
made_busy_once : (m : Move) → made_busy m ≤ 1
made_busy_once (StopScenario k) = omega arith
made_busy_once (ReleaseUser k user) = omega arith
made_busy_once (TakeUser k user slot) = omega arith
made_busy_once (StartIteration k user item until) = omega arith
made_busy_once (DropIteration k item) = omega arith
made_busy_once (CloseScenario k) = omega arith
made_busy_once (AnswerArrival k due item until CountLate) = omega arith
made_busy_once (AnswerArrival k due item until DropArrival) = omega arith
made_busy_once (AnswerArrival k due item until (StartOn user)) = omega arith
made_busy_once (AnswerArrival k due item until (GrowAndStart user slot)) = omega arith
made_busy_once (AnswerArrival k due item until (TakeAndStart user slot)) = omega arith

samples_not_refused : (plan : Plan) (state : State) (n : ℕ) → samples_refusal plan state n ≡ None → samples_with plan state n ≤ plan.entry_limit
samples_not_refused plan state n h = decide (nat_lt plan.entry_limit (samples_with plan state n)) refl h
  where
    decide : (b : Bool) → nat_lt plan.entry_limit (samples_with plan state n) ≡ b →
        cond b (Some (Full Samples (samples_with plan state n) plan.entry_limit)) None ≡ None → samples_with plan state n ≤ plan.entry_limit
    decide true e at = absurd (cc)
    decide false e at = above_or_within plan.entry_limit (samples_with plan state n) e

second_neither : (one two : Option Reply) → or_else one two ≡ None → two ≡ None
second_neither None two h = h
second_neither (Some reply) two h = absurd (cc)

-- with at most one more busy user there is room, where it was looked for if there is one more
room_with : (plan : Plan) (state : State) (n made : ℕ) → made ≤ 1 → HasSampleRoom plan state →
    cond (nat_lt 0 made) (samples_refusal plan state n) None ≡ None →
    state.samples + (busy_room plan state + made * script_room plan n) ≤ plan.entry_limit
room_with plan state n zero few room unrefused = omega arith
room_with plan state n (suc zero) few room unrefused = let bound = samples_not_refused plan state n unrefused in omega arith
room_with plan state n (suc (suc made)) few room unrefused = absurd (omega arith)

-- ---- steps

module _ (plan : Plan) (state : State) (thread t : ℕ) where
  first_sampled : (m : Move) → WellHeld state → HasSampleRoom plan state → In m (first_moves plan state t) → room_refusal plan state m ≡ None →
      HasSampleRoom plan (performed plan state thread t (reply_to m) (acts_of m)).state
  first_sampled m well room first unrefused =
      let act = (first_is plan state t m first).0 in
      let busy = room_behind_act plan state thread t (reply_to m) well act.0 m act.1 in
      let samples = samples_behind_act plan state thread t (reply_to m) m in
      let bound = room_with plan state (scenario_of m) (made_busy m) (made_busy_once m) room
      (second_neither (entries_refusal plan state (added_entries m) (made_busy m)) _ unrefused) in
      omega arith

  return_sampled : (stint : StintView) (outcome : Outcome) (tally : TallyView) → WellHeld state → HasSampleRoom plan state →
      is_out state thread stint ≡ true → tally_fits plan.names (script_room plan stint.scenario) tally ≡ true →
      HasSampleRoom plan (performed plan state thread t Noted (return_of stint outcome tally ∷ [])).state
  return_sampled stint outcome tally well room out fits =
      let fewer = room_behind_return plan state thread t Noted stint outcome tally well out in
      let within : length tally.samples ≤ script_room plan stint.scenario =
      (fits_tells plan.names (script_room plan stint.scenario) tally fits).within in
      let samples : (performed plan state thread t Noted (return_of stint outcome tally ∷ [])).state.samples
      ≡ state.samples + length tally.samples = refl in
      omega arith

  command_sampled : (command : Command) → HasSampleRoom plan state →
      HasSampleRoom plan (performed plan state thread t Noted (Control command ∷ [])).state
  command_sampled command room =
      let busy = room_command plan state command t in
      let samples = samples_command state command t in
      omega arith

steps_sampled : (plan : Plan) → KeptBySteps plan (HasSampleRoom plan)
steps_sampled plan = record {
  first = λ state thread t m well room first unrefused. first_sampled plan state thread t m well room first unrefused;
  returned = λ state thread t stint outcome tally well room out fits. return_sampled plan state thread t stint outcome tally well room out fits;
  commanded = λ state thread t command well room unrefused. command_sampled plan state thread t command room;
}

-- ---- whole histories

-- at the opening nobody is busy
no_room_taken : (controls : Controls) (parts : List Part) →
    sum_by room_of (scenarios_with controls parts (map (λ (part : Part). opening_share) parts)) ≡ 0
no_room_taken controls [] = refl
no_room_taken controls (part ∷ parts) =
    let later = no_room_taken controls parts in
    let first = sum_by-cons room_of (record { part = part; share = opening_share; controls = controls })
    (scenarios_with controls parts (map (λ (p : Part). opening_share) parts)) in
    omega arith

opening_sampled : (plan : Plan) → HasSampleRoom plan (opening plan)
opening_sampled plan = let none_taken = no_room_taken (opening plan).controls plan.parts in omega arith

pub legal_samples : (plan : Plan) (history : List Entry) → IsLegal plan history → KeepsSamples plan history
legal_samples plan history legal = legal_keeps plan (HasSampleRoom plan) (steps_sampled plan) history (opening_sampled plan) legal
