-- What each step keeps, each legal history has: so it keeps to the limit of entries, the Returns of all who are busy counted in.
use Rattle.std.proofs.Common.{◌≡◌, ◌≤◌, ◌+◌, ◌∙◌, ℕ, Bool, true, false, cond, ◌&&◌, nat_lt, List, [], ◌∷◌, Option, None, Some, map, flat_map, length, arith, refl, ap, subst, inl, inr, slice_get}
use Rattle.std.specs.Option.{option_map_or}
use Rattle.std.proofs.lemmas.Grind.{common_steps}
use Rattle.ld_base.specs.Stint.{StintView}
use Rattle.ld_base.specs.Tally.{TallyView}
use Rattle.ld_base.specs.declared.act.Act.{Act}
use Rattle.ld_base.specs.declared.act.Act.TheVariants.{Control}
use Rattle.ld_base.specs.declared.act.Outcome.{Outcome}
use Rattle.ld_base.specs.declared.command.Command.{Command}
use Rattle.ld_base.specs.declared.ask.Ask.{Ask}
use Rattle.ld_base.specs.declared.ask.Ask.TheVariants as asks
use Rattle.ld_base.specs.declared.entry.Entry.{Entry}
use Rattle.ld_base.specs.declared.reply.Reply.{Reply}
use Rattle.ld_base.specs.declared.reply.Reply.TheVariants.{Full, Noted, Denied, Over, Wait}
use Rattle.ld_base.specs.declared.reply.Room.TheVariants.{Entries}
use Rattle.ld_machine.specs.Plan.{Part, Plan}
use Rattle.ld_machine.specs.State.{Share, State, all_closed, busy_users, busy_count, opening, opening_share}
use Rattle.ld_machine.specs.Moves.{Move}
use Rattle.ld_machine.specs.Order.{first_moves}
use Rattle.ld_machine.specs.Acts.{acts_of, added_entries, made_busy}
use Rattle.ld_machine.specs.Replies.{reply_to}
use Rattle.ld_machine.specs.Room.{entries_with, entries_refusal, or_else, room_refusal, script_room}
use Rattle.ld_machine.specs.Wait.{wait_moment}
use Rattle.ld_machine.specs.Commands.{is_denied}
use Rattle.ld_machine.specs.Effect.{after_entry, after_entries, state_after}
use Rattle.ld_machine.specs.Samples.{tally_fits}
use Rattle.ld_machine.specs.Step.{Result, entries_of, answered, performed, move_result, open_results, is_out, outcome_of, return_of, check_reply, look_reply, results, IsStep}
use Rattle.ld_machine.specs.History.{ask_for, adds_one, adds_two, are_steps, IsLegal}
use Rattle.ld_machine.specs.Together.{WellHeld}
use Rattle.ld_machine.specs.Playing.{KeepsRoom}
use Rattle.ld_machine.proofs.ListLemmas.{In, nothing_in, In-map, In-one, both_true, some_true}
use Rattle.ld_machine.proofs.ResultLemmas.{results_leave, adds_tells}
use Rattle.ld_machine.proofs.FirstOfAllLemmas.{In-of, first_is}
use Rattle.ld_machine.proofs.BusyLemmas.{busy_command}
use Rattle.ld_machine.proofs.BusyStepLemmas.{busy_behind_act, busy_behind_return}
use Rattle.ld_machine.proofs.WellHeldLemmas.{step_well, opening_well}
use Rattle.ld_machine.proofs.NumberedLemmas.{entries_counted, length-entries_of}

-- the entries so far and the Returns of all busy users keep to the limit
abbrev HasRoom : Plan → State → Type 0
HasRoom plan state = state.entries + busy_count state ≤ plan.entry_limit

-- ---- what isn't refused has room

pub above_or_within : (limit wanted : ℕ) → nat_lt limit wanted ≡ false → wanted ≤ limit
above_or_within limit wanted h = grind (arith, common_steps)

not_refused : (plan : Plan) (state : State) (added busy : ℕ) → entries_refusal plan state added busy ≡ None → entries_with state added busy ≤ plan.entry_limit
not_refused plan state added busy h = decide (nat_lt plan.entry_limit (entries_with state added busy)) refl h
  where
    decide : (b : Bool) → nat_lt plan.entry_limit (entries_with state added busy) ≡ b →
        cond b (Some (Full Entries (entries_with state added busy) plan.entry_limit)) None ≡ None → entries_with state added busy ≤ plan.entry_limit
    decide true e at = absurd (cc)
    decide false e at = above_or_within plan.entry_limit (entries_with state added busy) e

neither : (one two : Option Reply) → or_else one two ≡ None → one ≡ None
neither None two h = refl
neither (Some reply) two h = absurd (cc)

-- ---- what each step of a legal history keeps

-- a fact of states that is kept by each act with room, each Return that may be asked and each command with room
pub record KeptBySteps (plan : Plan) (Keeps : State → Type 0) : Type 0 where
  pub first : (state : State) (thread t : ℕ) (m : Move) → WellHeld state → Keeps state → In m (first_moves plan state t) →
      room_refusal plan state m ≡ None → Keeps (performed plan state thread t (reply_to m) (acts_of m)).state
  pub returned : (state : State) (thread t : ℕ) (stint : StintView) (outcome : Outcome) (tally : TallyView) → WellHeld state → Keeps state →
      is_out state thread stint ≡ true → tally_fits plan.names (script_room plan stint.scenario) tally ≡ true →
      Keeps (performed plan state thread t Noted (return_of stint outcome tally ∷ [])).state
  pub commanded : (state : State) (thread t : ℕ) (command : Command) → WellHeld state → Keeps state → entries_refusal plan state 1 0 ≡ None →
      Keeps (performed plan state thread t Noted (Control command ∷ [])).state

module _ (plan : Plan) (Keeps : State → Type 0) (by_steps : KeptBySteps plan Keeps)
    (state : State) (thread t : ℕ) (well : WellHeld state) (keeps : Keeps state) where
  one_keeps : (r one : Result) → In r (one ∷ []) → Keeps one.state → Keeps r.state
  one_keeps r one h kept = subst (λ (q : Result). Keeps q.state) (In-one r one h) kept

  unrefused_keeps : (reply : Reply) (acts : List Act) (refusal : Option Reply) → (refusal ≡ None → Keeps (performed plan state thread t reply acts).state) →
      Keeps (option_map_or (answered state) refusal (performed plan state thread t reply acts)).state
  unrefused_keeps reply acts None kept = kept refl
  unrefused_keeps reply acts (Some other) kept = keeps

  open_keeps : (moves : List Move) → ((m : Move) → In m moves → In m (first_moves plan state t)) → (r : Result) →
      In r (open_results plan state thread t moves) → Keeps r.state
  open_keeps [] first r h = one_keeps r (answered state (Wait (wait_moment plan state t))) h keeps
  open_keeps (m ∷ ms) first r h =
      let found = In-map (move_result plan state thread t) r (m ∷ ms) h in
      subst (λ (q : Result). Keeps q.state) found.2
      (unrefused_keeps (reply_to found.0) (acts_of found.0) (room_refusal plan state found.0)
      (by_steps.first state thread t found.0 well keeps (first found.0 found.1)))

  step_keeps : (ask : Ask) (r : Result) → In r (results plan state thread ask t) → Keeps r.state
  step_keeps asks.Act r h =
      let P : Bool → Type 0 = λ b. In r (cond b (answered state Over ∷ []) (open_results plan state thread t (first_moves plan state t))) → Keeps r.state in
      let kept : P (all_closed state) = elim (all_closed state) as P [
        | true ↦ λ at. one_keeps r (answered state Over) at keeps
        | false ↦ λ at. open_keeps (first_moves plan state t) (λ m there_m. there_m) r at
      ] in kept h
  step_keeps (asks.Return stint finished tally) r h =
      let outcome = outcome_of finished t stint.until in
      let noted = performed plan state thread t Noted (return_of stint outcome tally ∷ []) in
      let P : Bool → Type 0 = λ b. (is_out state thread stint && tally_fits plan.names (script_room plan stint.scenario) tally) ≡ b →
      In r (cond b (noted ∷ []) []) → Keeps r.state in
      let kept : P (is_out state thread stint && tally_fits plan.names (script_room plan stint.scenario) tally) =
      elim (is_out state thread stint && tally_fits plan.names (script_room plan stint.scenario) tally) as P [
        | true ↦ λ e at.
            let both = both_true (is_out state thread stint) _ e in
            one_keeps r noted at (by_steps.returned state thread t stint outcome tally well keeps both.0 both.1)
        | false ↦ λ e at. absurd (nothing_in at)
      ] in kept refl h
  step_keeps (asks.Check n) r h =
      let P : Option Share → Type 0 = λ o. In r (option_map_or (λ (share : Share). answered state (check_reply share) ∷ []) o []) → Keeps r.state in
      let kept : P (slice_get state.shares n) = elim (slice_get state.shares n) as P [
        | None ↦ λ at. absurd (nothing_in at)
        | Some share ↦ λ at. one_keeps r (answered state (check_reply share)) at keeps
      ] in kept h
  step_keeps asks.Look r h = one_keeps r (answered state (look_reply state)) h keeps
  step_keeps (asks.Control command) r h =
      let noted = option_map_or (answered state) (entries_refusal plan state 1 0) (performed plan state thread t Noted (Control command ∷ [])) in
      let P : Bool → Type 0 = λ b. Keeps (cond b (answered state Denied) noted).state in
      let kept : P (is_denied plan state command) = elim (is_denied plan state command) as P [
        | true ↦ keeps
        | false ↦ unrefused_keeps Noted (Control command ∷ []) (entries_refusal plan state 1 0) (by_steps.commanded state thread t command well keeps)
      ] in one_keeps r _ h kept

-- ---- whole histories

-- what the entries of a step leave
record Kept (Keeps : State → Type 0) (state : State) : Type 0 where
  pub well : WellHeld state
  pub keeps : Keeps state

module _ (plan : Plan) (Keeps : State → Type 0) (by_steps : KeptBySteps plan Keeps) where
  added_kept : (state : State) (one : Entry) (entries : List Entry) → Kept Keeps state →
      (r : Result) × IsStep plan state one.thread (ask_for state one.act) one.reading r × (r.entries ≡ entries) → Kept Keeps (after_entries plan state entries)
  added_kept state one entries kept r =
      let ask = ask_for state one.act in
      let left : r.0.state ≡ after_entries plan state entries =
      results_leave plan state one.thread ask one.reading r.0 (In-of r.1) ∙ ap (λ es. after_entries plan state es) r.2 in
      subst (λ s. Kept Keeps s) left (record {
        well = step_well plan state one.thread ask one.reading r.0 r.1 kept.well;
        keeps = step_keeps plan Keeps by_steps state one.thread one.reading kept.well kept.keeps ask r.0 (In-of r.1);
      })

  steps_keep : (history : List Entry) (state : State) → are_steps plan state history ≡ true → Kept Keeps state →
      Kept Keeps (after_entries plan state history)
  steps_keep [] state h kept = kept
  steps_keep (one ∷ []) state h kept = added_kept state one (one ∷ []) kept (adds_tells plan state one (one ∷ []) h)
  steps_keep (one ∷ two ∷ rest) state h kept =
      elim (some_true (adds_one plan state one && are_steps plan (after_entry plan state one) (two ∷ rest)) _ h) [
        | inl first ↦
            let both = both_true (adds_one plan state one) _ first in
            steps_keep (two ∷ rest) (after_entry plan state one) both.1 (added_kept state one (one ∷ []) kept (adds_tells plan state one (one ∷ []) both.0))
        | inr second ↦
            let both = both_true (adds_two plan state one two) _ second in
            steps_keep rest (after_entry plan (after_entry plan state one) two) both.1
            (added_kept state one (one ∷ two ∷ []) kept (adds_tells plan state one (one ∷ two ∷ []) both.0))
      ]

  -- what steps keep and the opening has, each legal history has
  pub legal_keeps : (history : List Entry) → Keeps (opening plan) → IsLegal plan history → Keeps (state_after plan history)
  legal_keeps history opened legal = (steps_keep history (opening plan) legal (record { well = opening_well plan; keeps = opened })).keeps

-- ---- the room of entries

module _ (plan : Plan) (state : State) (thread t : ℕ) where
  acts_counted : (reply : Reply) (acts : List Act) → (performed plan state thread t reply acts).state.entries ≡ state.entries + length acts
  acts_counted reply acts =
      entries_counted plan (entries_of (state.entries + 1) thread t acts) state ∙ ap (λ k. state.entries + k) (length-entries_of (state.entries + 1) thread t acts)

  first_room : (m : Move) → WellHeld state → In m (first_moves plan state t) → room_refusal plan state m ≡ None →
      HasRoom plan (performed plan state thread t (reply_to m) (acts_of m)).state
  first_room m well first unrefused =
      let act = (first_is plan state t m first).0 in
      let busy = busy_behind_act plan state thread t (reply_to m) well act.0 m act.1 in
      let entries = acts_counted (reply_to m) (acts_of m) in
      let bound = not_refused plan state (added_entries m) (made_busy m)
      (neither (entries_refusal plan state (added_entries m) (made_busy m)) _ unrefused) in
      omega arith

  return_room : (stint : StintView) (outcome : Outcome) (tally : TallyView) → WellHeld state → HasRoom plan state → is_out state thread stint ≡ true →
      HasRoom plan (performed plan state thread t Noted (return_of stint outcome tally ∷ [])).state
  return_room stint outcome tally well room out =
      let fewer = busy_behind_return plan state thread t Noted stint outcome tally well out in
      let entries = acts_counted Noted (return_of stint outcome tally ∷ []) in
      omega arith

  command_room : (command : Command) → entries_refusal plan state 1 0 ≡ None →
      HasRoom plan (performed plan state thread t Noted (Control command ∷ [])).state
  command_room command unrefused =
      let bound = not_refused plan state 1 0 unrefused in
      let same = busy_command state command t in
      let entries = acts_counted Noted (Control command ∷ []) in
      omega arith

steps_room : (plan : Plan) → KeptBySteps plan (HasRoom plan)
steps_room plan = record {
  first = λ state thread t m well room first unrefused. first_room plan state thread t m well first unrefused;
  returned = λ state thread t stint outcome tally well room out fits. return_room plan state thread t stint outcome tally well room out;
  commanded = λ state thread t command well room unrefused. command_room plan state thread t command unrefused;
}

nobody_busy : (parts : List Part) → length (flat_map busy_users (map (λ (part : Part). opening_share) parts)) ≡ 0
nobody_busy [] = refl
nobody_busy (part ∷ parts) = nobody_busy parts

opening_room : (plan : Plan) → HasRoom plan (opening plan)
opening_room plan = let none = nobody_busy plan.parts in omega arith

pub legal_room : (plan : Plan) (history : List Entry) → IsLegal plan history → KeepsRoom plan history
legal_room plan history legal =
    let room : (state_after plan history).entries + busy_count (state_after plan history) ≤ plan.entry_limit =
    legal_keeps plan (HasRoom plan) (steps_room plan) history (opening_room plan) legal in
    let count : (state_after plan history).entries ≡ 0 + length history = entries_counted plan history (opening plan) in
    omega arith
