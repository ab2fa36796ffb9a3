-- What a step leaves is the state behind its entries.
use Rattle.std.proofs.Common.{◌≡◌, ℕ, Bool, true, false, cond, ◌&&◌, List, [], ◌∷◌, Option, None, Some, refl, subst, slice_get}
use Rattle.std.specs.List.{list_any}
use Rattle.std.specs.Option.{option_map_or}
use Rattle.ld_base.specs.declared.entry.Entry.{Entry}
use Rattle.ld_base.specs.declared.act.Act.{Act}
use Rattle.ld_base.specs.declared.act.Act.TheVariants.{Control}
use Rattle.ld_base.specs.declared.ask.Ask.{Ask}
use Rattle.ld_base.specs.declared.ask.Ask.TheVariants as asks
use Rattle.ld_base.specs.declared.reply.Reply.{Reply}
use Rattle.ld_base.specs.declared.reply.Reply.TheVariants.{Noted, Denied, Over, Wait}
use Rattle.ld_machine.specs.Plan.{Plan}
use Rattle.ld_machine.specs.State.{Share, State, all_closed}
use Rattle.ld_machine.specs.Moves.{Move}
use Rattle.ld_machine.specs.Order.{first_moves}
use Rattle.ld_machine.specs.Acts.{acts_of}
use Rattle.ld_machine.specs.Replies.{reply_to}
use Rattle.ld_machine.specs.Room.{entries_refusal, room_refusal, script_room}
use Rattle.ld_machine.specs.Wait.{wait_moment}
use Rattle.ld_machine.specs.Commands.{is_denied}
use Rattle.ld_machine.specs.Effect.{after_entries}
use Rattle.ld_machine.specs.Samples.{tally_fits}
use Rattle.ld_machine.specs.Same.{same_entries}
use Rattle.ld_machine.specs.History.{ask_for, results_for}
use Rattle.ld_machine.specs.Step.{Result, answered, performed, move_result, open_results, is_out, outcome_of, return_of, check_reply, look_reply, control_result, results, IsStep}
use Rattle.ld_machine.proofs.ListLemmas.{In, nothing_in, In-map, In-from_any, any-from_In, In-from_Contains, Contains-from_In, In-one}
use Rattle.ld_machine.proofs.SameLemmas.{itself_entries, same_entries_tells}

-- the result's state is that behind its entries
abbrev pub Leaves : Plan → State → Result → Type 0
Leaves plan state r = r.state ≡ after_entries plan state r.entries

one_leaves : (plan : Plan) (state : State) (r one : Result) → In r (one ∷ []) → Leaves plan state one → Leaves plan state r
one_leaves plan state r one h leaves = subst (λ q. Leaves plan state q) (In-one r one h) leaves

room_leaves : (plan : Plan) (state : State) (thread t : ℕ) (reply : Reply) (acts : List Act) (refusal : Option Reply) →
    Leaves plan state (option_map_or (answered state) refusal (performed plan state thread t reply acts))
room_leaves plan state thread t reply acts None = refl
room_leaves plan state thread t reply acts (Some other) = refl

open_leave : (plan : Plan) (state : State) (thread t : ℕ) (moves : List Move) (r : Result) → In r (open_results plan state thread t moves) → Leaves plan state r
open_leave plan state thread t [] r h = one_leaves plan state r (answered state (Wait (wait_moment plan state t))) h refl
open_leave plan state thread t (m ∷ ms) r h =
    let found = In-map (move_result plan state thread t) r (m ∷ ms) h in
    subst (λ q. Leaves plan state q) found.2 (room_leaves plan state thread t (reply_to found.0) (acts_of found.0) (room_refusal plan state found.0))

pub results_leave : (plan : Plan) (state : State) (thread : ℕ) (ask : Ask) (t : ℕ) (r : Result) → In r (results plan state thread ask t) → Leaves plan state r
results_leave plan state thread asks.Act t r h =
    let P : Bool → Type 0 = λ b. In r (cond b (answered state Over ∷ []) (open_results plan state thread t (first_moves plan state t))) → Leaves plan state r in
    let leaves : P (all_closed state) = elim (all_closed state) as P [
      | true ↦ λ at. one_leaves plan state r (answered state Over) at refl
      | false ↦ λ at. open_leave plan state thread t (first_moves plan state t) r at
    ] in leaves h
results_leave plan state thread (asks.Return stint finished tally) t r h =
    let noted = performed plan state thread t Noted (return_of stint (outcome_of finished t stint.until) tally ∷ []) in
    let P : Bool → Type 0 = λ b. In r (cond b (noted ∷ []) []) → Leaves plan state r in
    let leaves : P (is_out state thread stint && tally_fits plan.names (script_room plan stint.scenario) tally) =
    elim (is_out state thread stint && tally_fits plan.names (script_room plan stint.scenario) tally) as P [
      | true ↦ λ at. one_leaves plan state r noted at refl
      | false ↦ λ at. absurd (nothing_in at)
    ] in leaves h
results_leave plan state thread (asks.Check n) t r h =
    let P : Option Share → Type 0 = λ o. In r (option_map_or (λ (share : Share). answered state (check_reply share) ∷ []) o []) → Leaves plan state r in
    let leaves : P (slice_get state.shares n) = elim (slice_get state.shares n) as P [
      | None ↦ λ at. absurd (nothing_in at)
      | Some share ↦ λ at. one_leaves plan state r (answered state (check_reply share)) at refl
    ] in leaves h
results_leave plan state thread asks.Look t r h = one_leaves plan state r (answered state (look_reply state)) h refl
results_leave plan state thread (asks.Control command) t r h =
    let noted = option_map_or (answered state) (entries_refusal plan state 1 0) (performed plan state thread t Noted (Control command ∷ [])) in
    let P : Bool → Type 0 = λ b. Leaves plan state (cond b (answered state Denied) noted) in
    let leaves : P (is_denied plan state command) = elim (is_denied plan state command) as P [
      | true ↦ refl
      | false ↦ room_leaves plan state thread t Noted (Control command ∷ []) (entries_refusal plan state 1 0)
    ] in one_leaves plan state r (control_result plan state thread t command) h leaves

-- entries pass the test exactly where some step from the state adds them
pub adds_tells : (plan : Plan) (state : State) (one : Entry) (entries : List Entry) → list_any (λ (r : Result). same_entries r.entries entries) (results_for plan state one) ≡ true →
    (r : Result) × IsStep plan state one.thread (ask_for state one.act) one.reading r × (r.entries ≡ entries)
adds_tells plan state one entries h =
    let found = In-from_any (λ (r : Result). same_entries r.entries entries) (results_for plan state one) h in
    (found.0, Contains-from_In found.0 found.1, same_entries_tells found.0.entries entries found.2)

pub adds_passes : (plan : Plan) (state : State) (one : Entry) (entries : List Entry) →
    (r : Result) × IsStep plan state one.thread (ask_for state one.act) one.reading r × (r.entries ≡ entries) →
    list_any (λ (r : Result). same_entries r.entries entries) (results_for plan state one) ≡ true
adds_passes plan state one entries h =
    any-from_In (λ (r : Result). same_entries r.entries entries) h.0 (In-from_Contains h.0 (results_for plan state one) h.1.0 h.1.1 h.1.2)
    (subst (λ es. same_entries h.0.entries es ≡ true) h.2 (itself_entries h.0.entries))
