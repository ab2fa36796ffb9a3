-- The entries of a legal history are numbered from 1, and the state counts them.
use Rattle.std.proofs.Common.{◌≡◌, ◌+◌, ◌∙◌, ℕ, suc, Bool, true, false, cond, ◌&&◌, List, [], ◌∷◌, Option, None, Some, map, length, arith, refl, ap, subst, inl, inr, slice_get}
use Rattle.std.specs.Option.{option_map_or}
use Rattle.std.specs.List.{range_with_len}
use Rattle.ld_base.specs.declared.act.Act.{Act}
use Rattle.ld_base.specs.declared.act.Act.TheVariants.{Take, Grow, Start, Drop, Late, Return, Release, Stop, Close, Control}
use Rattle.ld_base.specs.declared.ask.Ask.{Ask}
use Rattle.ld_base.specs.declared.ask.Ask.TheVariants as asks
use Rattle.ld_base.specs.declared.command.Command.TheVariants as commands
use Rattle.ld_base.specs.declared.entry.Entry.{Entry}
use Rattle.ld_base.specs.declared.reply.Reply.{Reply}
use Rattle.ld_base.specs.declared.reply.Reply.TheVariants.{Noted, Denied, Over, Wait}
use Rattle.ld_machine.specs.Plan.{Part, Plan}
use Rattle.ld_machine.specs.State.{Share, State, all_closed}
use Rattle.ld_machine.specs.Moves.{Move}
use Rattle.ld_machine.specs.Order.{first_moves}
use Rattle.ld_machine.specs.Acts.{acts_of}
use Rattle.ld_machine.specs.Replies.{reply_to}
use Rattle.ld_machine.specs.Room.{entries_refusal, room_refusal, script_room}
use Rattle.ld_machine.specs.Wait.{wait_moment}
use Rattle.ld_machine.specs.Commands.{is_denied}
use Rattle.ld_machine.specs.Effect.{change_share, end_item, end_item_of, after_entry, after_entries}
use Rattle.ld_machine.specs.Samples.{tally_fits}
use Rattle.ld_machine.specs.Step.{Result, entries_of, answered, performed, move_result, open_results, is_out, outcome_of, return_of, check_reply, look_reply, results, IsStep}
use Rattle.ld_machine.specs.History.{ask_for, adds_one, adds_two, are_steps}
use Rattle.ld_machine.proofs.ListLemmas.{In, nothing_in, In-map, In-one, both_true, some_true}
use Rattle.ld_machine.proofs.ResultLemmas.{adds_tells}
use Rattle.ld_machine.proofs.FirstOfAllLemmas.{In-of}

-- ---- how many entries there are

entries-end_item : (plan : Plan) (n item : ℕ) (state : State) → (end_item_of plan n item state).entries ≡ state.entries
entries-end_item plan n item state =
    let P : Option Part → Type 0 = λ o. (option_map_or (λ part. change_share state n (end_item part item)) o state).entries ≡ state.entries in
    elim (slice_get plan.parts n) as P [ None ↦ refl | Some part ↦ refl ]

entry_counted : (plan : Plan) (state : State) (at thread t : ℕ) (act : Act) →
    (after_entry plan state (record { turn = at; thread = thread; act = act; reading = t })).entries ≡ state.entries + 1
entry_counted plan state at thread t (Take n user slot) = refl
entry_counted plan state at thread t (Grow n user slot) = refl
entry_counted plan state at thread t (Start n user item until) = ap (λ k. k + 1) (entries-end_item plan n item _)
entry_counted plan state at thread t (Drop n item) = ap (λ k. k + 1) (entries-end_item plan n item state)
entry_counted plan state at thread t (Late n item) = ap (λ k. k + 1) (entries-end_item plan n item state)
entry_counted plan state at thread t (Return n user item outcome tally) = refl
entry_counted plan state at thread t (Release n user) = refl
entry_counted plan state at thread t (Stop n) = refl
entry_counted plan state at thread t (Close n) = refl
entry_counted plan state at thread t (Control commands.Stop) = refl
entry_counted plan state at thread t (Control (commands.Pause b)) = refl
entry_counted plan state at thread t (Control (commands.Vus n)) = refl
entry_counted plan state at thread t (Control (commands.VusMax n)) = refl

-- the state counts each entry
pub entries_counted : (plan : Plan) (entries : List Entry) (state : State) → (after_entries plan state entries).entries ≡ state.entries + length entries
entries_counted plan [] state = omega arith
entries_counted plan (one ∷ rest) state =
    let now = entry_counted plan state one.turn one.thread one.reading one.act in
    let later = entries_counted plan rest (after_entry plan state one) in
    omega arith

pub length-entries_of : (at thread t : ℕ) (acts : List Act) → length (entries_of at thread t acts) ≡ length acts
length-entries_of at thread t [] = refl
length-entries_of at thread t (act ∷ rest) = ap suc (length-entries_of (at + 1) thread t rest)

-- ---- the turns of one step

-- the entries are numbered from `at` on, in their order
abbrev NumberedFrom : ℕ → List Entry → Type 0
NumberedFrom at entries = map (λ (entry : Entry). entry.turn) entries ≡ range_with_len at (length entries)

numbered-entries_of : (at thread t : ℕ) (acts : List Act) → NumberedFrom at (entries_of at thread t acts)
numbered-entries_of at thread t [] = refl
numbered-entries_of at thread t (act ∷ rest) = ap (λ turns. at ∷ turns) (numbered-entries_of (at + 1) thread t rest)

module _ (plan : Plan) (state : State) (thread t : ℕ) where
  one_numbered : (r one : Result) → In r (one ∷ []) → NumberedFrom (state.entries + 1) one.entries → NumberedFrom (state.entries + 1) r.entries
  one_numbered r one h numbered = subst (λ (q : Result). NumberedFrom (state.entries + 1) q.entries) (In-one r one h) numbered

  room_numbered : (reply : Reply) (acts : List Act) (refusal : Option Reply) →
      NumberedFrom (state.entries + 1) (option_map_or (answered state) refusal (performed plan state thread t reply acts)).entries
  room_numbered reply acts None = numbered-entries_of (state.entries + 1) thread t acts
  room_numbered reply acts (Some other) = refl

  open_numbered : (moves : List Move) (r : Result) → In r (open_results plan state thread t moves) → NumberedFrom (state.entries + 1) r.entries
  open_numbered [] r h = one_numbered r (answered state (Wait (wait_moment plan state t))) h refl
  open_numbered (m ∷ ms) r h =
      let found = In-map (move_result plan state thread t) r (m ∷ ms) h in
      subst (λ (q : Result). NumberedFrom (state.entries + 1) q.entries) found.2
      (room_numbered (reply_to found.0) (acts_of found.0) (room_refusal plan state found.0))

  -- the entries of a step are numbered on
  step_numbered : (ask : Ask) (r : Result) → In r (results plan state thread ask t) → NumberedFrom (state.entries + 1) r.entries
  step_numbered asks.Act r h =
      let P : Bool → Type 0 = λ b. In r (cond b (answered state Over ∷ []) (open_results plan state thread t (first_moves plan state t))) → NumberedFrom (state.entries + 1) r.entries in
      let numbered : P (all_closed state) = elim (all_closed state) as P [
        | true ↦ λ at. one_numbered r (answered state Over) at refl
        | false ↦ λ at. open_numbered (first_moves plan state t) r at
      ] in numbered h
  step_numbered (asks.Return stint finished tally) r h =
      let acts = return_of stint (outcome_of finished t stint.until) tally ∷ [] in
      let P : Bool → Type 0 = λ b. In r (cond b (performed plan state thread t Noted acts ∷ []) []) → NumberedFrom (state.entries + 1) r.entries in
      let numbered : P (is_out state thread stint && tally_fits plan.names (script_room plan stint.scenario) tally) =
      elim (is_out state thread stint && tally_fits plan.names (script_room plan stint.scenario) tally) as P [
        | true ↦ λ at. one_numbered r (performed plan state thread t Noted acts) at (numbered-entries_of (state.entries + 1) thread t acts)
        | false ↦ λ at. absurd (nothing_in at)
      ] in numbered h
  step_numbered (asks.Check n) r h =
      let P : Option Share → Type 0 = λ o. In r (option_map_or (λ (share : Share). answered state (check_reply share) ∷ []) o []) → NumberedFrom (state.entries + 1) r.entries in
      let numbered : P (slice_get state.shares n) = elim (slice_get state.shares n) as P [
        | None ↦ λ at. absurd (nothing_in at)
        | Some share ↦ λ at. one_numbered r (answered state (check_reply share)) at refl
      ] in numbered h
  step_numbered asks.Look r h = one_numbered r (answered state (look_reply state)) h refl
  step_numbered (asks.Control command) r h =
      let noted = option_map_or (answered state) (entries_refusal plan state 1 0) (performed plan state thread t Noted (Control command ∷ [])) in
      let P : Bool → Type 0 = λ b. NumberedFrom (state.entries + 1) (cond b (answered state Denied) noted).entries in
      let numbered : P (is_denied plan state command) = elim (is_denied plan state command) as P [
        | true ↦ refl
        | false ↦ room_numbered Noted (Control command ∷ []) (entries_refusal plan state 1 0)
      ] in one_numbered r _ h numbered

-- ---- whole histories

added_numbered : (plan : Plan) (state : State) (one : Entry) (entries : List Entry) →
    (r : Result) × IsStep plan state one.thread (ask_for state one.act) one.reading r × (r.entries ≡ entries) → NumberedFrom (state.entries + 1) entries
added_numbered plan state one entries r =
    subst (λ es. NumberedFrom (state.entries + 1) es) r.2
    (step_numbered plan state one.thread one.reading (ask_for state one.act) r.0 (In-of r.1))

pub steps_numbered : (plan : Plan) (history : List Entry) (state : State) → are_steps plan state history ≡ true → NumberedFrom (state.entries + 1) history
steps_numbered plan [] state h = refl
steps_numbered plan (one ∷ []) state h = added_numbered plan state one (one ∷ []) (adds_tells plan state one (one ∷ []) h)
steps_numbered plan (one ∷ two ∷ rest) state h =
    elim (some_true (adds_one plan state one && are_steps plan (after_entry plan state one) (two ∷ rest)) _ h) [
      | inl first ↦
          let both = both_true (adds_one plan state one) _ first in
          let now = added_numbered plan state one (one ∷ []) (adds_tells plan state one (one ∷ []) both.0) in
          let later = steps_numbered plan (two ∷ rest) (after_entry plan state one) both.1 in
          let count = entries_counted plan (one ∷ []) state in
          let on = subst (λ k. NumberedFrom (k + 1) (two ∷ rest)) count later in
          let same : one.turn ≡ state.entries + 1 = head_of one.turn (state.entries + 1) [] [] now in
          ap (λ k. k ∷ map (λ (entry : Entry). entry.turn) (two ∷ rest)) same ∙ ap (λ ks. (state.entries + 1) ∷ ks) on
      | inr second ↦
          let both = both_true (adds_two plan state one two) _ second in
          let now = added_numbered plan state one (one ∷ two ∷ []) (adds_tells plan state one (one ∷ two ∷ []) both.0) in
          let later = steps_numbered plan rest (after_entry plan (after_entry plan state one) two) both.1 in
          let count : (after_entry plan (after_entry plan state one) two).entries ≡ state.entries + 1 + 1 = let e = entries_counted plan (one ∷ two ∷ []) state in omega arith in
          let on = subst (λ k. NumberedFrom (k + 1) rest) count later in
          let same : one.turn ≡ state.entries + 1 = head_of one.turn (state.entries + 1) _ _ now in
          let next : two.turn ≡ state.entries + 1 + 1 = second_of one.turn (state.entries + 1) two.turn (state.entries + 1 + 1) now in
          ap (λ k. k ∷ map (λ (entry : Entry). entry.turn) (two ∷ rest)) same
          ∙ ap (λ ks. (state.entries + 1) ∷ ks) (ap (λ k. k ∷ map (λ (entry : Entry). entry.turn) rest) next ∙ ap (λ ks. (state.entries + 1 + 1) ∷ ks) on)
    ]
  where
    head_of : (a b : ℕ) (xs ys : List ℕ) → a ∷ xs ≡ b ∷ ys → a ≡ b
    head_of a b xs ys e = cc

    second_of : (a b c d : ℕ) → a ∷ c ∷ [] ≡ b ∷ d ∷ [] → c ≡ d
    second_of a b c d e = cc
