-- What a step's entries tell of the act that wrote them.
use Rattle.std.proofs.Common.{◌≡◌, ◌≢◌, ◌≤◌, ◌+◌, ℕ, suc, Bool, true, false, not, cond, ◌&&◌, List, [], ◌∷◌, Option, None, Some, length, arith, refl, sym, ap, ◌∙◌, subst, slice_get}
use Rattle.std.specs.List.{list_any, enumerate_from}
use Rattle.std.specs.Option.{option_map_or}
use Rattle.ld_base.specs.declared.act.Act.{Act}
use Rattle.ld_base.specs.Stint.{StintView}
use Rattle.ld_base.specs.Tally.{TallyView}
use Rattle.ld_base.specs.declared.act.Act.TheVariants.{Take, Grow, Start, Drop, Late, Return, Release, Stop, Close, Control}
use Rattle.ld_base.specs.declared.command.Command.{Command}
use Rattle.ld_base.specs.declared.entry.Entry.{Entry}
use Rattle.ld_base.specs.declared.reply.Reply.{Reply}
use Rattle.ld_base.specs.declared.reply.Reply.TheVariants.{Over, Wait, Noted, Denied}
use Rattle.ld_machine.specs.Wait.{wait_moment}
use Rattle.ld_machine.specs.Plan.{Plan}
use Rattle.ld_machine.specs.State.{State, all_closed}
use Rattle.ld_machine.specs.Scenario.{Scenario}
use Rattle.ld_machine.specs.Moves.{Move, users_of, moves_of, scenarios, enabled}
use Rattle.ld_machine.specs.Order.{is_before, place_of, first_moves}
use Rattle.ld_machine.specs.Acts.{acts_of}
use Rattle.ld_machine.specs.Replies.{reply_to}
use Rattle.ld_machine.specs.Room.{room_refusal, entries_refusal, script_room}
use Rattle.ld_machine.specs.Same.{same_entries}
use Rattle.ld_machine.specs.Step.{Result, entries_of, answered, performed, move_result, open_results, act_results, is_out, outcome_of, return_of, return_results, control_result}
use Rattle.ld_machine.specs.Commands.{is_denied}
use Rattle.ld_machine.specs.Samples.{tally_fits}
use Rattle.ld_machine.specs.History.{adds_one, adds_two}
use Rattle.ld_machine.specs.OnTime.{is_asked_act}
use Rattle.ld_machine.proofs.ListLemmas.{In, here, there, nothing_in, In-from_any, In-filter, In-map, In-flat_map, In-enumerate}
use Rattle.ld_machine.proofs.SameLemmas.{same_entries_tells}

-- an act that wrote entries: it was a first one, and these are its entries
pub record Wrote (plan : Plan) (state : State) (thread t : ℕ) (entries : List Entry) : Type 0 where
  pub move : Move
  pub first : In move (first_moves plan state t)
  pub wrote : entries_of (state.entries + 1) thread t (acts_of move) ≡ entries

-- the only element of a list of one
only : {A : Type 0} (x y : A) → In x (y ∷ []) → x ≡ y
only x y here = refl
only x y (there h) = absurd (nothing_in h)

-- what isn't refused for want of room writes its entries
move_wrote : (plan : Plan) (state : State) (thread t : ℕ) (move : Move) (refusal : Option Reply) (entries : List Entry) → entries ≢ [] →
    (option_map_or (answered state) refusal (performed plan state thread t (reply_to move) (acts_of move))).entries ≡ entries →
    entries_of (state.entries + 1) thread t (acts_of move) ≡ entries
move_wrote plan state thread t move None entries some h = h
move_wrote plan state thread t move (Some reply) entries some h = absurd (some (sym h))

open_wrote : (plan : Plan) (state : State) (thread t : ℕ) (moves : List Move) (entries : List Entry) → entries ≢ [] → (r : Result) →
    In r (open_results plan state thread t moves) → r.entries ≡ entries →
    (move : Move) × In move moves × (entries_of (state.entries + 1) thread t (acts_of move) ≡ entries)
open_wrote plan state thread t [] entries some r h same =
    absurd (some (sym same ∙ ap (λ (r : Result). r.entries) (only r (answered state (Wait (wait_moment plan state t))) h)))
open_wrote plan state thread t (m ∷ ms) entries some r h same =
    let found = In-map (move_result plan state thread t) r (m ∷ ms) h in
    (found.0, found.1, move_wrote plan state thread t found.0 (room_refusal plan state found.0) entries some (ap (λ (r : Result). r.entries) found.2 ∙ same))

-- entries of an ask for an act were written by a first one
pub act_wrote : (plan : Plan) (state : State) (thread t : ℕ) (entries : List Entry) → entries ≢ [] →
    list_any (λ (r : Result). same_entries r.entries entries) (act_results plan state thread t) ≡ true → Wrote plan state thread t entries
act_wrote plan state thread t entries some h =
    let found = In-from_any (λ (r : Result). same_entries r.entries entries) (act_results plan state thread t) h in
    let same = same_entries_tells found.0.entries entries found.2 in
    let P : Bool → Type 0 = λ b. In found.0 (cond b (answered state Over ∷ []) (open_results plan state thread t (first_moves plan state t))) → Wrote plan state thread t entries in
    let wrote : P (all_closed state) = elim (all_closed state) as P [
      | true ↦ λ at. absurd (some (sym same ∙ ap (λ (r : Result). r.entries) (only found.0 (answered state Over) at)))
      | false ↦ λ at. let m = open_wrote plan state thread t (first_moves plan state t) entries some found.0 at same in record { move = m.0; first = m.1; wrote = m.2 }
    ] in wrote found.1

-- where an act of scenario number n is enabled, with the scenario as it stands
pub record EnabledAt (plan : Plan) (state : State) (t : ℕ) (move : Move) : Type 0 where
  pub number : ℕ
  pub scenario : Scenario
  pub there_is : In scenario (scenarios plan state)
  pub stands : slice_get (scenarios plan state) number ≡ Some scenario
  pub enabled : In move (moves_of (users_of plan state) number scenario t)

-- a first act is enabled somewhere
pub first_enabled : (plan : Plan) (state : State) (t : ℕ) (move : Move) → In move (first_moves plan state t) → EnabledAt plan state t move
first_enabled plan state t move h =
    let kept = In-filter (λ m. not (list_any (λ other. is_before (place_of other) (place_of m)) (enabled plan state t))) move (enabled plan state t) h in
    let found = In-flat_map (λ (p : ℕ × Scenario). moves_of (users_of plan state) p.0 p.1 t) move (enumerate_from 0 (scenarios plan state)) kept.0 in
    let at = In-enumerate 0 found.0 (scenarios plan state) found.1 in
    let place : at.1.0 ≡ found.0.0 = let e : found.0.0 ≡ 0 + at.1.0 = at.1.1 in omega arith in
    record {
      number = found.0.0;
      scenario = found.0.1;
      there_is = at.0;
      stands = subst (λ n. slice_get (scenarios plan state) n ≡ Some found.0.1) place at.1.2;
      enabled = found.2;
    }

-- ---- steps that add one entry, and steps that add two

-- the result that adds these entries
abbrev adds : List Result → List Entry → Bool
adds results entries = list_any (λ (r : Result). same_entries r.entries entries) results

no_pair_in : (r : Result) (one two : Entry) → length r.entries ≤ 1 → adds (r ∷ []) (one ∷ two ∷ []) ≡ true → ⊥
no_pair_in r one two short h =
    let found = In-from_any (λ (r : Result). same_entries r.entries (one ∷ two ∷ [])) (r ∷ []) h in
    let same : r.entries ≡ one ∷ two ∷ [] =
    ap (λ (r : Result). r.entries) (sym (only found.0 r found.1)) ∙ same_entries_tells found.0.entries (one ∷ two ∷ []) found.2 in
    let long : length r.entries ≡ 2 = ap (λ (es : List Entry). length es) same in
    omega arith

return_short : (plan : Plan) (state : State) (thread t : ℕ) (stint : StintView) (finished : Bool) (tally : TallyView) (one two : Entry) →
    adds (return_results plan state thread t stint finished tally) (one ∷ two ∷ []) ≡ true → ⊥
return_short plan state thread t stint finished tally one two h =
    let result = performed plan state thread t Noted (return_of stint (outcome_of finished t stint.until) tally ∷ []) in
    let P : Bool → Type 0 = λ b. adds (cond b (result ∷ []) []) (one ∷ two ∷ []) ≡ true → ⊥ in
    let short : P (is_out state thread stint && tally_fits plan.names (script_room plan stint.scenario) tally) =
    elim (is_out state thread stint && tally_fits plan.names (script_room plan stint.scenario) tally) as P [
      | true ↦ λ at. no_pair_in result one two (omega arith) at
      | false ↦ λ at. absurd (cc)
    ]
    in short h

control_short : (plan : Plan) (state : State) (thread t : ℕ) (command : Command) → length (control_result plan state thread t command).entries ≤ 1
control_short plan state thread t command =
    let noted = performed plan state thread t Noted (Control command ∷ []) in
    let Q : Option Reply → Type 0 = λ o. length (option_map_or (answered state) o noted).entries ≤ 1 in
    let room : Q (entries_refusal plan state 1 0) = elim (entries_refusal plan state 1 0) as Q [ None ↦ omega arith | Some reply ↦ omega arith ] in
    let P : Bool → Type 0 = λ b. length (cond b (answered state Denied) (option_map_or (answered state) (entries_refusal plan state 1 0) noted)).entries ≤ 1 in
    elim (is_denied plan state command) as P [ true ↦ omega arith | false ↦ room ]

some_entry : (one : Entry) (rest : List Entry) → one ∷ rest ≢ []
some_entry one rest e = let long : suc (length rest) ≡ 0 = ap (λ (es : List Entry). length es) e in omega arith

-- two entries of one step are those of a first act
pair_wrote_by : (plan : Plan) (state : State) (at thread t : ℕ) (act : Act) (two : Entry) →
    let one : Entry = record { turn = at; thread = thread; act = act; reading = t } in
    adds_two plan state one two ≡ true → Wrote plan state thread t (one ∷ two ∷ [])
pair_wrote_by plan state at thread t (Take n user slot) two h = act_wrote plan state thread t _ (some_entry _ _) h
pair_wrote_by plan state at thread t (Grow n user slot) two h = act_wrote plan state thread t _ (some_entry _ _) h
pair_wrote_by plan state at thread t (Start n user item until) two h = act_wrote plan state thread t _ (some_entry _ _) h
pair_wrote_by plan state at thread t (Drop n item) two h = act_wrote plan state thread t _ (some_entry _ _) h
pair_wrote_by plan state at thread t (Late n item) two h = act_wrote plan state thread t _ (some_entry _ _) h
pair_wrote_by plan state at thread t (Release n user) two h = act_wrote plan state thread t _ (some_entry _ _) h
pair_wrote_by plan state at thread t (Stop n) two h = act_wrote plan state thread t _ (some_entry _ _) h
pair_wrote_by plan state at thread t (Close n) two h = act_wrote plan state thread t _ (some_entry _ _) h
pair_wrote_by plan state at thread t (Return n user item outcome tally) two h = absurd (return_short plan state thread t _ _ _ _ two h)
pair_wrote_by plan state at thread t (Control command) two h = absurd (no_pair_in (control_result plan state thread t command) _ two (control_short plan state thread t command) h)

pub pair_wrote : (plan : Plan) (state : State) (one two : Entry) → adds_two plan state one two ≡ true → Wrote plan state one.thread one.reading (one ∷ two ∷ [])
pair_wrote plan state one two h = pair_wrote_by plan state one.turn one.thread one.reading one.act two h

-- an entry that an ask for an act added is that of a first act
one_wrote_by : (plan : Plan) (state : State) (at thread t : ℕ) (act : Act) → is_asked_act act ≡ true →
    let one : Entry = record { turn = at; thread = thread; act = act; reading = t } in
    adds_one plan state one ≡ true → Wrote plan state thread t (one ∷ [])
one_wrote_by plan state at thread t (Take n user slot) asked h = act_wrote plan state thread t _ (some_entry _ _) h
one_wrote_by plan state at thread t (Grow n user slot) asked h = act_wrote plan state thread t _ (some_entry _ _) h
one_wrote_by plan state at thread t (Start n user item until) asked h = act_wrote plan state thread t _ (some_entry _ _) h
one_wrote_by plan state at thread t (Drop n item) asked h = act_wrote plan state thread t _ (some_entry _ _) h
one_wrote_by plan state at thread t (Late n item) asked h = act_wrote plan state thread t _ (some_entry _ _) h
one_wrote_by plan state at thread t (Release n user) asked h = act_wrote plan state thread t _ (some_entry _ _) h
one_wrote_by plan state at thread t (Stop n) asked h = act_wrote plan state thread t _ (some_entry _ _) h
one_wrote_by plan state at thread t (Close n) asked h = act_wrote plan state thread t _ (some_entry _ _) h
one_wrote_by plan state at thread t (Return n user item outcome tally) asked h = absurd (cc)
one_wrote_by plan state at thread t (Control command) asked h = absurd (cc)

pub one_wrote : (plan : Plan) (state : State) (one : Entry) → is_asked_act one.act ≡ true → adds_one plan state one ≡ true →
    Wrote plan state one.thread one.reading (one ∷ [])
one_wrote plan state one asked h = one_wrote_by plan state one.turn one.thread one.reading one.act asked h
