-- No step holds a user twice, or one that wasn't made.
use Rattle.std.proofs.Common.{◌≡◌, ◌≤◌, ◌+◌, ◌==◌, ◌∙◌, ◌&&◌, ℕ, Bool, true, false, cond, List, [], ◌∷◌, Option, None, Some, map, arith, refl, sym, ap, subst, inl, inr, slice_get}
use Rattle.std.specs.Option.{option_map_or}
use Rattle.std.specs.List.{range_with_len}
use Rattle.std.proofs.Math.Decide.{dec_lt}
use Rattle.std.proofs.lemmas.Grind.{common_steps}
use Rattle.ld_base.specs.declared.act.Act.{Act}
use Rattle.ld_base.specs.declared.act.Act.TheVariants.{Take, Grow, Start, Drop, Late, Release, Stop, Close, Control}
use Rattle.ld_base.specs.declared.ask.Ask.{Ask}
use Rattle.ld_base.specs.declared.ask.Ask.TheVariants as asks
use Rattle.ld_base.specs.declared.entry.Entry.{Entry}
use Rattle.ld_base.specs.declared.reply.Reply.{Reply}
use Rattle.ld_base.specs.declared.reply.Reply.TheVariants.{Noted, Denied, Over, Wait}
use Rattle.ld_machine.specs.Plan.{Part, Plan, hard_moment}
use Rattle.ld_machine.specs.State.{Share, State, opening, opening_share, all_closed, is_held, free_users, times_held}
use Rattle.ld_machine.specs.Scenario.{Scenario, until_of}
use Rattle.ld_machine.specs.Moves.{Answer, CountLate, StartOn, GrowAndStart, TakeAndStart, DropArrival, Move, StopScenario, ReleaseUser, TakeUser, AnswerArrival, StartIteration, DropIteration, CloseScenario, users_of}
use Rattle.ld_machine.specs.Order.{first_moves}
use Rattle.ld_machine.specs.Acts.{acts_of}
use Rattle.ld_machine.specs.Replies.{reply_to}
use Rattle.ld_machine.specs.Room.{entries_refusal, room_refusal, script_room}
use Rattle.ld_machine.specs.Wait.{wait_moment}
use Rattle.ld_machine.specs.Commands.{is_denied}
use Rattle.ld_machine.specs.Effect.{after_entry, after_entries}
use Rattle.ld_machine.specs.Samples.{tally_fits}
use Rattle.ld_machine.specs.History.{adds_one, adds_two, are_steps, ask_for}
use Rattle.ld_machine.specs.Step.{Result, answered, performed, entries_of, move_result, open_results, is_out, outcome_of, return_of, check_reply, look_reply, results, IsStep}
use Rattle.ld_machine.specs.Together.{WellHeld}
use Rattle.ld_machine.proofs.ListLemmas.{In, here, nothing_in, In-filter, In-map, In-one, in_two, both_true, some_true, some_not_none}
use Rattle.ld_machine.proofs.SourceLemmas.{Source, by_stop, by_release, by_take, by_arrival, by_start, by_drop, by_close, source_of, grow_answer, take_answer}
use Rattle.ld_machine.proofs.StepLemmas.{first_enabled}
use Rattle.ld_machine.proofs.DropLemmas.{acts_back}
use Rattle.ld_machine.proofs.HolderLemmas.{Holds, Gains, gained, gained_hit, times_after, none_held, nothing_gained, wrote_gains, entry_holds, opening_holds}
use Rattle.ld_machine.proofs.ResultLemmas.{results_leave, adds_tells}
use Rattle.ld_machine.proofs.FirstOfAllLemmas.{In-of, false_unless}
use Rattle.ld_machine.proofs.FreeLemmas.{range_in, any_times}

-- ---- users are numbered from 1

-- an act gains no user 0
abbrev pub FromOne : Act → Type 0
FromOne act = (one : ℕ) → gained act ≡ Some one → 1 ≤ one

pub none_from_one : (act : Act) → gained act ≡ None → FromOne act
none_from_one act none one h = absurd (some_not_none (sym h ∙ none))

from_one_by : (a b : Act) → a ≡ b → FromOne a → FromOne b
from_one_by a b same h = subst (λ act. FromOne act) same h

free_from_one : (state : State) (user : ℕ) → In user (free_users state) → 1 ≤ user
free_from_one state user h =
    let kept = In-filter _ user (range_with_len 1 state.made) h in
    (range_in user 1 state.made kept.0).0

take_from_one : (state : State) (k user slot : ℕ) → In user (free_users state) → FromOne (Take k user slot)
take_from_one state k user slot free one h = let same : user ≡ one = cc in subst (λ u. 1 ≤ u) same (free_from_one state user free)

grow_from_one : (state : State) (k user slot : ℕ) → user ≡ state.made + 1 → FromOne (Grow k user slot)
grow_from_one state k user slot next one h = let same : user ≡ one = cc in subst (λ u. 1 ≤ u) same (omega arith)

-- an act of an enabled move gains no user 0
move_from_one : (plan : Plan) (state : State) (k : ℕ) (s : Scenario) (t : ℕ) (move : Move) → Source (users_of plan state) k s t move →
    (act : Act) → In act (acts_of move) → FromOne act
move_from_one plan state k s t move (by_stop e) act at = from_one_by _ act (In-one act _ at) (none_from_one (Stop k) refl)
move_from_one plan state k s t move (by_release u idle e) act at = from_one_by _ act (In-one act _ at) (none_from_one (Release k u.user) refl)
move_from_one plan state k s t move (by_take user slot free slots e) act at = from_one_by _ act (In-one act _ at) (take_from_one state k user slot free)
move_from_one plan state k s t move (by_start u item idle e) act at = from_one_by _ act (In-one act _ at) (none_from_one (Start k u.user item (until_of s u.slot t)) refl)
move_from_one plan state k s t move (by_drop item e) act at = from_one_by _ act (In-one act _ at) (none_from_one (Drop k item) refl)
move_from_one plan state k s t move (by_close e) act at = from_one_by _ act (In-one act _ at) (none_from_one (Close k) refl)
move_from_one plan state k s t move (by_arrival a CountLate due e) act at = from_one_by _ act (In-one act _ at) (none_from_one (Late k a.item) refl)
move_from_one plan state k s t move (by_arrival a DropArrival due e) act at = from_one_by _ act (In-one act _ at) (none_from_one (Drop k a.item) refl)
move_from_one plan state k s t move (by_arrival a (StartOn user) due e) act at = from_one_by _ act (In-one act _ at) (none_from_one (Start k user a.item (hard_moment s.part)) refl)
move_from_one plan state k s t move (by_arrival a (GrowAndStart user slot) due e) act at =
    elim (in_two act _ _ at) [
      | inl grown ↦ from_one_by _ act grown (grow_from_one state k user slot (grow_answer (users_of plan state) k s t user slot e).0)
      | inr started ↦ from_one_by _ act started (none_from_one (Start k user a.item (hard_moment s.part)) refl)
    ]
move_from_one plan state k s t move (by_arrival a (TakeAndStart user slot) due e) act at =
    elim (in_two act _ _ at) [
      | inl taken ↦ from_one_by _ act taken (take_from_one state k user slot (take_answer (users_of plan state) k s t user slot e))
      | inr started ↦ from_one_by _ act started (none_from_one (Start k user a.item (hard_moment s.part)) refl)
    ]

-- ---- one entry more

-- what every step keeps: no user is held twice, none that wasn't made, and none is numbered 0
pub record Kept (state : State) : Type 0 where
  pub holds : Holds state
  pub zero : times_held 0 state.shares ≡ 0

gained_zero : (o : Option ℕ) → ((one : ℕ) → o ≡ Some one → 1 ≤ one) → gained_hit o 0 ≡ 0
gained_zero None from = refl
gained_zero (Some one) from =
    let above = from one refl in
    let P : Bool → Type 0 = λ b. (one == 0) ≡ b → ◌≡◌ {A = ℕ} (cond b 1 0) 0 in
    let none : P (one == 0) = elim (one == 0) as P [
      | true ↦ λ e. let same : one ≡ 0 = grind (arith, common_steps) in absurd (omega arith)
      | false ↦ λ e. refl
    ] in none refl

pub entry_kept : (plan : Plan) (state : State) (one : Entry) → Kept state → Gains state one.act → FromOne one.act → Kept (after_entry plan state one)
entry_kept plan state one kept gains from = record {
  holds = entry_holds plan state one kept.holds gains;
  zero =
      let bound = times_after plan state one.turn one.thread one.reading one.act 0 in
      let none = gained_zero (gained one.act) from in
      let before = kept.zero in
      omega arith;
}

pub plain_kept : (plan : Plan) (state : State) (one : Entry) → gained one.act ≡ None → Kept state → Kept (after_entry plan state one)
plain_kept plan state one none kept = entry_kept plan state one kept (nothing_gained state one.act none) (none_from_one one.act none)

-- ---- a first act

module _ (plan : Plan) (state : State) (thread t : ℕ) (kept : Kept state) where
  -- the entry of an act of this step, and that of a second one
  abbrev entry : Act → Entry
  entry act = record { turn = state.entries + 1; thread = thread; act = act; reading = t }

  abbrev next_entry : Act → Entry
  next_entry act = record { turn = state.entries + 1 + 1; thread = thread; act = act; reading = t }

  act_kept : (m : Move) → In m (first_moves plan state t) → (act : Act) → In act (acts_of m) → Kept (after_entry plan state (entry act))
  act_kept m h act at =
      let where_it = first_enabled plan state t m h in
      let from = move_from_one plan state where_it.number where_it.scenario t m
      (source_of (users_of plan state) where_it.number where_it.scenario t m where_it.enabled) act at in
      let acts : acts_of m ≡ map (λ (e : Entry). e.act) (entries_of (state.entries + 1) thread t (acts_of m)) = sym (acts_back (state.entries + 1) thread t (acts_of m)) in
      let gains = wrote_gains plan state thread t (entries_of (state.entries + 1) thread t (acts_of m)) kept.holds
      (record { move = m; first = h; wrote = refl }) act (subst (λ those. In act those) acts at) in
      entry_kept plan state (entry act) kept gains from

  arrival_kept : (n due item until : ℕ) (answer : Answer) → In (AnswerArrival n due item until answer) (first_moves plan state t) →
      Kept (after_entries plan state (entries_of (state.entries + 1) thread t (acts_of (AnswerArrival n due item until answer))))
  arrival_kept n due item until CountLate h = act_kept _ h (Late n item) here
  arrival_kept n due item until (StartOn user) h = act_kept _ h (Start n user item until) here
  arrival_kept n due item until (GrowAndStart user slot) h =
      plain_kept plan (after_entry plan state (entry (Grow n user slot))) (next_entry (Start n user item until)) refl (act_kept _ h (Grow n user slot) here)
  arrival_kept n due item until (TakeAndStart user slot) h =
      plain_kept plan (after_entry plan state (entry (Take n user slot))) (next_entry (Start n user item until)) refl (act_kept _ h (Take n user slot) here)
  arrival_kept n due item until DropArrival h = act_kept _ h (Drop n item) here

  first_kept : (m : Move) → In m (first_moves plan state t) → Kept (after_entries plan state (entries_of (state.entries + 1) thread t (acts_of m)))
  first_kept (StopScenario n) h = act_kept _ h (Stop n) here
  first_kept (ReleaseUser n user) h = act_kept _ h (Release n user) here
  first_kept (TakeUser n user slot) h = act_kept _ h (Take n user slot) here
  first_kept (AnswerArrival n due item until answer) h = arrival_kept n due item until answer h
  first_kept (StartIteration n user item until) h = act_kept _ h (Start n user item until) here
  first_kept (DropIteration n item) h = act_kept _ h (Drop n item) here
  first_kept (CloseScenario n) h = act_kept _ h (Close n) here

  -- ---- a step

  one_kept : (r one : Result) → In r (one ∷ []) → Kept one.state → Kept r.state
  one_kept r one h keeps = subst (λ (q : Result). Kept q.state) (In-one r one h) keeps

  room_kept : (reply : Reply) (acts : List Act) (refusal : Option Reply) → Kept (after_entries plan state (entries_of (state.entries + 1) thread t acts)) →
      Kept (option_map_or (answered state) refusal (performed plan state thread t reply acts)).state
  room_kept reply acts None keeps = keeps
  room_kept reply acts (Some other) keeps = kept

  open_kept : (moves : List Move) → ((m : Move) → In m moves → In m (first_moves plan state t)) → (r : Result) → In r (open_results plan state thread t moves) → Kept r.state
  open_kept [] first r h = one_kept r (answered state (Wait (wait_moment plan state t))) h kept
  open_kept (m ∷ ms) first r h =
      let found = In-map (move_result plan state thread t) r (m ∷ ms) h in
      subst (λ (q : Result). Kept q.state) found.2
      (room_kept (reply_to found.0) (acts_of found.0) (room_refusal plan state found.0) (first_kept found.0 (first found.0 found.1)))

  step_kept : (ask : Ask) (r : Result) → In r (results plan state thread ask t) → Kept r.state
  step_kept asks.Act r h =
      let P : Bool → Type 0 = λ b. In r (cond b (answered state Over ∷ []) (open_results plan state thread t (first_moves plan state t))) → Kept r.state in
      let keeps : P (all_closed state) = elim (all_closed state) as P [
        | true ↦ λ at. one_kept r (answered state Over) at kept
        | false ↦ λ at. open_kept (first_moves plan state t) (λ m there_m. there_m) r at
      ] in keeps h
  step_kept (asks.Return stint finished tally) r h =
      let act = return_of stint (outcome_of finished t stint.until) tally in
      let noted = performed plan state thread t Noted (act ∷ []) in
      let P : Bool → Type 0 = λ b. In r (cond b (noted ∷ []) []) → Kept r.state in
      let keeps : P (is_out state thread stint && tally_fits plan.names (script_room plan stint.scenario) tally) =
      elim (is_out state thread stint && tally_fits plan.names (script_room plan stint.scenario) tally) as P [
        | true ↦ λ at. one_kept r noted at (plain_kept plan state (entry act) refl kept)
        | false ↦ λ at. absurd (nothing_in at)
      ] in keeps h
  step_kept (asks.Check n) r h =
      let P : Option Share → Type 0 = λ o. In r (option_map_or (λ (share : Share). answered state (check_reply share) ∷ []) o []) → Kept r.state in
      let keeps : P (slice_get state.shares n) = elim (slice_get state.shares n) as P [
        | None ↦ λ at. absurd (nothing_in at)
        | Some share ↦ λ at. one_kept r (answered state (check_reply share)) at kept
      ] in keeps h
  step_kept asks.Look r h = one_kept r (answered state (look_reply state)) h kept
  step_kept (asks.Control command) r h =
      let noted = option_map_or (answered state) (entries_refusal plan state 1 0) (performed plan state thread t Noted (Control command ∷ [])) in
      let P : Bool → Type 0 = λ b. Kept (cond b (answered state Denied) noted).state in
      let keeps : P (is_denied plan state command) = elim (is_denied plan state command) as P [
        | true ↦ kept
        | false ↦ room_kept Noted (Control command ∷ []) (entries_refusal plan state 1 0) (plain_kept plan state (entry (Control command)) refl kept)
      ] in one_kept r _ h keeps

-- ---- well held

pub kept_well : (state : State) → Kept state → WellHeld state
kept_well state kept user = (
  kept.holds.once user,
  λ held.
      let some : 1 ≤ times_held user state.shares = any_times user state.shares held in
      let from : 1 ≤ user = elim (dec_lt 0 user) [
        | yes above ↦ omega arith
        | no notabove ↦
            let same : 0 ≡ user = omega arith in
            let none : times_held user state.shares ≡ 0 = subst (λ u. times_held u state.shares ≡ 0) same kept.zero in
            absurd (omega arith)
      ] in
      let to : user ≤ state.made = elim (dec_lt state.made user) [
        | yes above ↦ let none = kept.holds.unmade user above in absurd (omega arith)
        | no notabove ↦ omega arith
      ] in
      (from, to),
)

pub well_kept : (state : State) → WellHeld state → Kept state
well_kept state well = record {
  holds = record {
    once = λ user. (well user).0;
    unmade = λ user above. none_held user state.shares (false_unless (is_held state user) (λ held.
        let made : user ≤ state.made = ((well user).1 held).1 in omega arith));
  };
  zero = none_held 0 state.shares (false_unless (is_held state 0) (λ held.
      let from : 1 ≤ 0 = ((well 0).1 held).0 in omega arith));
}

pub step_well : (plan : Plan) (state : State) (thread : ℕ) (ask : Ask) (t : ℕ) (r : Result) → IsStep plan state thread ask t r → WellHeld state → WellHeld r.state
step_well plan state thread ask t r h well = kept_well r.state (step_kept plan state thread t (well_kept state well) ask r (In-of h))

nobody : (user : ℕ) (parts : List Part) → times_held user (map (λ (part : Part). opening_share) parts) ≡ 0
nobody user [] = refl
nobody user (part ∷ parts) = let later = nobody user parts in omega arith

pub opening_well : (plan : Plan) → WellHeld (opening plan)
opening_well plan = kept_well (opening plan) (record { holds = opening_holds plan; zero = nobody 0 plan.parts })

-- the state behind entries that a step adds
added_well : (plan : Plan) (state : State) (one : Entry) (entries : List Entry) → WellHeld state →
    (r : Result) × IsStep plan state one.thread (ask_for state one.act) one.reading r × (r.entries ≡ entries) → WellHeld (after_entries plan state entries)
added_well plan state one entries well r =
    let left : r.0.state ≡ after_entries plan state entries = results_leave plan state one.thread (ask_for state one.act) one.reading r.0 (In-of r.1) ∙ ap (λ es. after_entries plan state es) r.2 in
    subst (λ s. WellHeld s) left (step_well plan state one.thread (ask_for state one.act) one.reading r.0 r.1 well)

pub steps_well : (plan : Plan) (history : List Entry) (state : State) → are_steps plan state history ≡ true → WellHeld state → WellHeld (after_entries plan state history)
steps_well plan [] state h well = well
steps_well plan (one ∷ []) state h well = added_well plan state one (one ∷ []) well (adds_tells plan state one (one ∷ []) h)
steps_well plan (one ∷ two ∷ rest) state h well =
    elim (some_true (adds_one plan state one && are_steps plan (after_entry plan state one) (two ∷ rest)) _ h) [
      | inl first ↦
          let both = both_true (adds_one plan state one) _ first in
          steps_well plan (two ∷ rest) (after_entry plan state one) both.1 (added_well plan state one (one ∷ []) well (adds_tells plan state one (one ∷ []) both.0))
      | inr second ↦
          let both = both_true (adds_two plan state one two) _ second in
          steps_well plan rest (after_entry plan (after_entry plan state one) two) both.1
          (added_well plan state one (one ∷ two ∷ []) well (adds_tells plan state one (one ∷ two ∷ []) both.0))
    ]
