-- A step with a preferred user, and the step that comes again where the user of its first entry is preferred.
use Rattle.std.proofs.Common.{◌≡◌, ◌≤◌, ◌∙◌, ◌==◌, ◌+◌, ◌&&◌, ◌∷◌, ◌⊎◌, ℕ, Bool, true, false, cond, List, [], Option, None, Some, filter, arith, refl, sym, ap, subst, inl, inr, slice_get}
use Rattle.std.specs.Prelude.{unwrap_or}
use Rattle.std.specs.List.{list_any}
use Rattle.std.specs.Option.{option_map_or}
use Rattle.ld_base.specs.declared.ask.Ask.{Ask}
use Rattle.ld_base.specs.declared.ask.Ask.TheVariants as asks
use Rattle.ld_base.specs.declared.reply.Reply.{Reply}
use Rattle.ld_base.specs.declared.reply.Reply.TheVariants.{Noted, Over, Wait}
use Rattle.ld_machine.specs.Plan.{Plan}
use Rattle.ld_machine.specs.State.{HeldUser, Share, State, is_idle, all_closed, times_held}
use Rattle.ld_machine.specs.Moves.{CountLate, StartOn, GrowAndStart, TakeAndStart, DropArrival, Move, StopScenario, ReleaseUser, TakeUser, AnswerArrival, StartIteration, DropIteration, CloseScenario}
use Rattle.ld_machine.specs.Order.{first_moves}
use Rattle.ld_machine.specs.Acts.{acts_of}
use Rattle.ld_machine.specs.Replies.{reply_to}
use Rattle.ld_machine.specs.Room.{room_refusal, script_room}
use Rattle.ld_machine.specs.Wait.{wait_moment}
use Rattle.ld_machine.specs.Samples.{tally_fits}
use Rattle.ld_machine.specs.Step.{Result, answered, performed, entries_of, move_result, open_results, is_out, outcome_of, return_of, check_reply, look_reply, control_result, results}
use Rattle.ld_machine.specs.Together.{HoldsOnce, WellHeld, idle_user_of, free_user_of, grown_user_of}
use Rattle.ld_machine.specs.Preferred.{user_of, is_on, preferred_among, preferred_moves, results_as, preferred_for}
use Rattle.ld_machine.proofs.ListLemmas.{In, here, nothing_in, In-filter, filter-In, In-from_any, any-from_In, In-map, In-one, number_itself}
use Rattle.ld_machine.proofs.TurnLemmas.{among_there}
use Rattle.ld_machine.proofs.FirstOfAllLemmas.{In-of, false_unless, first_is, act_open, performed_in}
use Rattle.ld_machine.proofs.BusyLemmas.{same_number}
use Rattle.ld_machine.proofs.FreeLemmas.{among_held, free_tells_all}
use Rattle.ld_machine.proofs.WellHeldLemmas.{well_kept}
use Rattle.ld_machine.proofs.BusyStepLemmas.{share_of_act, idle_of_act, free_of_act, grown_of_act}
use Rattle.ld_machine.proofs.OneOnUserLemmas.{first_by_user, first_room, first_nobody}

-- ---- of some acts those on the preferred user

-- the test whether an act is on a user
on_tells : (user : ℕ) (o : Option ℕ) → option_map_or (λ k. k == user) o false ≡ true → o ≡ Some user
on_tells user None h = absurd (cc)
on_tells user (Some k) h = ap Some (same_number k user h)

on_passes : (user : ℕ) (o : Option ℕ) → o ≡ Some user → option_map_or (λ k. k == user) o false ≡ true
on_passes user o h = subst (λ those. option_map_or (λ k. k == user) those false ≡ true) (sym h) (number_itself user)

module _ (prefer : ℕ) where
  -- acts of a choice of these acts or those on the user are of these acts
  on_choice : (b : Bool) (moves : List Move) (m : Move) → In m (cond b (filter (is_on prefer) moves) moves) → In m moves
  on_choice true moves m h = (In-filter (is_on prefer) m moves h).0
  on_choice false moves m h = h

  preferred_in : (moves : List Move) (m : Move) → In m (preferred_among prefer moves) → In m moves
  preferred_in moves m h = on_choice (list_any (is_on prefer) moves) moves m h

  -- an act on the preferred user is kept, and then all that are kept are on it
  preferred_kept : (moves : List Move) (m : Move) → In m moves → user_of m ≡ Some prefer → In m (preferred_among prefer moves)
  preferred_kept moves m at on =
      let passes = on_passes prefer (user_of m) on in
      rw (any-from_In (is_on prefer) m at passes) (filter-In (is_on prefer) m at passes)

  preferred_on : (moves : List Move) (m other : Move) → In m moves → user_of m ≡ Some prefer → In other (preferred_among prefer moves) →
      user_of other ≡ Some prefer
  preferred_on moves m other at on kept =
      let passes = any-from_In (is_on prefer) m at (on_passes prefer (user_of m) on) in
      let those : In other (cond true (filter (is_on prefer) moves) moves) =
      subst (λ b. In other (cond b (filter (is_on prefer) moves) moves)) passes kept in
      on_tells prefer (user_of other) (In-filter (is_on prefer) other moves those).1

  -- where there is an act, there is a preferred one
  preferred_there : (moves : List Move) (m : Move) → In m moves → (other : Move) × In other (preferred_among prefer moves)
  preferred_there moves m at =
      let P : Bool → Type 0 = λ b. list_any (is_on prefer) moves ≡ b → (other : Move) × In other (cond b (filter (is_on prefer) moves) moves) in
      let found : P (list_any (is_on prefer) moves) = elim (list_any (is_on prefer) moves) as P [
        | true ↦ λ e. let on = In-from_any (is_on prefer) moves e in (on.0, filter-In (is_on prefer) on.0 on.1 on.2)
        | false ↦ λ e. (m, at)
      ] in found refl

  preferred_none : (moves : List Move) → preferred_among prefer moves ≡ [] → moves ≡ []
  preferred_none [] h = refl
  preferred_none (m ∷ moves) h =
      let there_is = preferred_there (m ∷ moves) m here in
      absurd (nothing_in (subst (λ those. In there_is.0 those) h there_is.1))

  -- where none is on the user, all are taken
  preferred_all : (moves : List Move) → ((m : Move) → In m moves → user_of m ≡ Some prefer → ⊥) → preferred_among prefer moves ≡ moves
  preferred_all moves nobody =
      let none : list_any (is_on prefer) moves ≡ false = false_unless (list_any (is_on prefer) moves) (λ any.
      let found = In-from_any (is_on prefer) moves any in
      nobody found.0 found.1 (on_tells prefer (user_of found.0) found.2)) in
      ap (λ b. cond b (filter (is_on prefer) moves) moves) none

-- ---- nobody has the number 0

-- the user that an act is on is an idle one, or a free one, or one that is made
user_ways : (m : Move) (user : ℕ) → user_of m ≡ Some user →
    (idle_user_of m ≡ Some user) ⊎ ((free_user_of m ≡ Some user) ⊎ (grown_user_of m ≡ Some user))
user_ways (ReleaseUser n one) user h = inl h
user_ways (StartIteration n one item until) user h = inl h
user_ways (AnswerArrival n due item until (StartOn one)) user h = inl h
user_ways (TakeUser n one slot) user h = inr (inl h)
user_ways (AnswerArrival n due item until (TakeAndStart one slot)) user h = inr (inl h)
user_ways (AnswerArrival n due item until (GrowAndStart one slot)) user h = inr (inr h)
user_ways (AnswerArrival n due item until CountLate) user h = absurd (cc)
user_ways (AnswerArrival n due item until DropArrival) user h = absurd (cc)
user_ways (StopScenario n) user h = absurd (cc)
user_ways (DropIteration n item) user h = absurd (cc)
user_ways (CloseScenario n) user h = absurd (cc)

-- no share holds the user 0
held_not_zero : (state : State) (n : ℕ) (share : Share) → WellHeld state → slice_get state.shares n ≡ Some share →
    HoldsOnce is_idle share 0 → ⊥
held_not_zero state n share well at once =
    let holder : HeldUser = once.1.0 in
    let zero : holder.user ≡ 0 = once.1.2 in
    let some = among_there 0 holder (In-of once.1.1) (subst (λ u. (u == 0) ≡ true) (sym zero) (number_itself 0)) in
    let within = among_held 0 n share state.shares at in
    let none : times_held 0 state.shares ≡ 0 = (well_kept state well).zero in
    absurd (omega arith)

module _ (plan : Plan) (state : State) (t : ℕ) (well : WellHeld state) where
  -- no first act is on the user 0, so all are taken where that one is preferred
  not_on_zero : (m : Move) → In m (first_moves plan state t) → user_of m ≡ Some 0 → ⊥
  not_on_zero m first on =
      let act = (first_is plan state t m first).0 in
      elim (user_ways m 0 on) [
        | inl idle ↦
            held_not_zero state act.0 act.1.0.share well (share_of_act plan state t act.0 m act.1)
            (idle_of_act plan state t act.0 m act.1 0 well idle)
        | inr others ↦ elim others [
          | inl free ↦
              let from : 1 ≤ 0 = (free_tells_all state 0 (free_of_act plan state t act.0 m act.1 0 free)).0 in
              absurd (omega arith)
          | inr grown ↦
              let next : 0 ≡ state.made + 1 = grown_of_act plan state t act.0 m act.1 0 grown in
              absurd (omega arith)
        ]
      ]

  nobody_preferred : preferred_moves plan state t 0 ≡ first_moves plan state t
  nobody_preferred = preferred_all 0 (first_moves plan state t) not_on_zero

-- ---- what some acts give

-- of a list of one all are the same
one_result : (a b one : Result) → In a (one ∷ []) → In b (one ∷ []) → b ≡ a
one_result a b one at_a at_b = sym (In-one b one at_b) ∙ In-one a one at_a

module _ (plan : Plan) (state : State) (thread t : ℕ) where
  -- where there is nothing to do; what an act gives; and what these acts give, or the wait where there are none
  abbrev waits : Result
  waits = answered state (Wait (wait_moment plan state t))

  abbrev result_by : Move → Result
  result_by m = move_result plan state thread t m

  abbrev opened : List Move → List Result
  opened moves = open_results plan state thread t moves

  -- what comes is what one of the acts gives, or a wait where there is none
  open_by : (moves : List Move) (r : Result) → In r (opened moves) →
      ((moves ≡ []) × (waits ≡ r)) ⊎ ((m : Move) × In m moves × (result_by m ≡ r))
  open_by [] r h = inl (refl, In-one r waits h)
  open_by (x ∷ xs) r h = inr (In-map result_by r (x ∷ xs) h)

  open_wait : (moves : List Move) → moves ≡ [] → In waits (opened moves)
  open_wait [] h = here
  open_wait (x ∷ xs) h = absurd (cc)

  open_some : (moves : List Move) → (r : Result) × In r (opened moves)
  open_some [] = (waits, here)
  open_some (x ∷ xs) = (result_by x, here)

  -- what a preferred one of some acts gives, one of them gives
  open_within : (prefer : ℕ) (moves : List Move) (r : Result) → In r (opened (preferred_among prefer moves)) → In r (opened moves)
  open_within prefer moves r h =
      elim (open_by (preferred_among prefer moves) r h) [
        | inl none ↦ subst (λ q. In q (opened moves)) none.1 (open_wait moves (preferred_none prefer moves none.0))
        | inr by ↦ subst (λ q. In q (opened moves)) by.2 (performed_in plan state t thread by.0 moves (preferred_in prefer moves by.0 by.1))
      ]

  -- ---- steps with a preferred user

  -- the first acts, and what an ask for an act gives where these acts may come
  abbrev firsts : List Move
  firsts = first_moves plan state t

  abbrev closed_or : Bool → List Move → List Result
  closed_or b moves = cond b (answered state Over ∷ []) (opened moves)

  -- they are steps
  pub steps_are : (ask : Ask) (prefer : ℕ) (r : Result) → In r (results_as plan state thread ask t prefer) → In r (results plan state thread ask t)
  steps_are asks.Act prefer r h =
      let P : Bool → Type 0 = λ b. In r (closed_or b (preferred_moves plan state t prefer)) → In r (closed_or b firsts) in
      let are : P (all_closed state) = elim (all_closed state) as P [
        | true ↦ λ at. at
        | false ↦ λ at. open_within prefer firsts r at
      ] in are h
  steps_are (asks.Return stint finished tally) prefer r h = h
  steps_are (asks.Check n) prefer r h = h
  steps_are asks.Look prefer r h = h
  steps_are (asks.Control command) prefer r h = h

  -- there is one where there is a step
  pub steps_there : (ask : Ask) (prefer : ℕ) (r : Result) → In r (results plan state thread ask t) →
      (other : Result) × In other (results_as plan state thread ask t prefer)
  steps_there asks.Act prefer r h =
      let P : Bool → Type 0 = λ b. (other : Result) × In other (closed_or b (preferred_moves plan state t prefer)) in
      elim (all_closed state) as P [ true ↦ (answered state Over, here) | false ↦ open_some (preferred_moves plan state t prefer) ]
  steps_there (asks.Return stint finished tally) prefer r h = (r, h)
  steps_there (asks.Check n) prefer r h = (r, h)
  steps_there asks.Look prefer r h = (r, h)
  steps_there (asks.Control command) prefer r h = (r, h)

  -- where a first act is on the preferred user, such an act is what comes
  pub chosen_gives : (prefer : ℕ) (m : Move) (r : Result) → In m firsts → user_of m ≡ Some prefer →
      In r (results_as plan state thread asks.Act t prefer) →
      (other : Move) × In other firsts × (user_of other ≡ Some prefer) × (r ≡ result_by other)
  chosen_gives prefer m r first on h =
      let act = (first_is plan state t m first).0 in
      let some_open : all_closed state ≡ false = act_open plan state t act.0 m act.1 in
      let those : In r (closed_or false (preferred_moves plan state t prefer)) =
      subst (λ b. In r (closed_or b (preferred_moves plan state t prefer))) some_open h in
      elim (open_by (preferred_moves plan state t prefer) r those) [
        | inl none ↦ absurd (nothing_in (subst (λ ms. In m ms) none.0 (preferred_kept prefer firsts m first on)))
        | inr by ↦ (by.0, preferred_in prefer firsts by.0 by.1, preferred_on prefer firsts m by.0 first on by.1, sym by.2)
      ]

  -- where none is preferred, each step is one
  pub steps_of_nobody : WellHeld state → (ask : Ask) (r : Result) → In r (results plan state thread ask t) → In r (results_as plan state thread ask t 0)
  steps_of_nobody well asks.Act r h = subst (λ ms. In r (closed_or (all_closed state) ms)) (sym (nobody_preferred plan state t well)) h
  steps_of_nobody well (asks.Return stint finished tally) r h = h
  steps_of_nobody well (asks.Check n) r h = h
  steps_of_nobody well asks.Look r h = h
  steps_of_nobody well (asks.Control command) r h = h

  -- ---- whom the entries of an act prefer

  -- the user that the act is on, and else nobody
  entries_prefer : (at : ℕ) (m : Move) → preferred_for (entries_of at thread t (acts_of m)) ≡ unwrap_or (user_of m) 0
  entries_prefer at (StopScenario n) = refl
  entries_prefer at (ReleaseUser n user) = refl
  entries_prefer at (TakeUser n user slot) = refl
  entries_prefer at (StartIteration n user item until) = refl
  entries_prefer at (DropIteration n item) = refl
  entries_prefer at (CloseScenario n) = refl
  entries_prefer at (AnswerArrival n due item until CountLate) = refl
  entries_prefer at (AnswerArrival n due item until (StartOn user)) = refl
  entries_prefer at (AnswerArrival n due item until (GrowAndStart user slot)) = refl
  entries_prefer at (AnswerArrival n due item until (TakeAndStart user slot)) = refl
  entries_prefer at (AnswerArrival n due item until DropArrival) = refl

  -- what an act gives where it is refused for this want of room, or for none
  abbrev result_for : Move → Option Reply → Result
  result_for m refusal = option_map_or (answered state) refusal (performed plan state thread t (reply_to m) (acts_of m))

  -- it prefers nobody, or the user that the act is on
  result_prefers : (m : Move) (refusal : Option Reply) →
      (preferred_for (result_for m refusal).entries ≡ 0) ⊎ (user_of m ≡ Some (preferred_for (result_for m refusal).entries))
  result_prefers m (Some reply) = inl refl
  result_prefers m None =
      let same = entries_prefer (state.entries + 1) m in
      let P : Option ℕ → Type 0 = λ o. preferred_for (result_for m None).entries ≡ unwrap_or o 0 →
      (preferred_for (result_for m None).entries ≡ 0) ⊎ (o ≡ Some (preferred_for (result_for m None).entries)) in
      let prefers : P (user_of m) = elim (user_of m) as P [ None ↦ λ e. inl e | Some user ↦ λ e. inr (ap Some (sym e)) ] in
      prefers same

  -- ---- the step that comes again

  -- the first acts that are preferred for what comes
  abbrev preferred_by : Result → List Move
  preferred_by r = preferred_moves plan state t (preferred_for r.entries)

  module _ (well : WellHeld state) where
    -- the act is among those preferred where its own user is
    prefers_itself : (m : Move) → In m firsts → In m (preferred_by (result_by m))
    prefers_itself m first =
        elim (result_prefers m (room_refusal plan state m)) [
          | inl nobody ↦
              let all : In m (preferred_moves plan state t 0) = subst (λ ms. In m ms) (sym (nobody_preferred plan state t well)) first in
              subst (λ p. In m (preferred_moves plan state t p)) (sym nobody) all
          | inr on ↦ preferred_kept (preferred_for (result_by m).entries) firsts m first on
        ]

    -- each step comes again
    open_again : (r : Result) → In r (opened firsts) → In r (opened (preferred_by r))
    open_again r h =
        elim (open_by firsts r h) [
          | inl none ↦
              let none_left = ap (λ ms. preferred_among (preferred_for r.entries) ms) none.0 in
              subst (λ q. In q (opened (preferred_by r))) none.1
              (open_wait (preferred_by r) none_left)
          | inr by ↦
              subst (λ (q : Result). In q (opened (preferred_by q))) by.2
              (performed_in plan state t thread by.0 (preferred_by (result_by by.0)) (prefers_itself by.0 by.1))
        ]

    pub steps_come_again : (ask : Ask) (r : Result) → In r (results plan state thread ask t) →
        In r (results_as plan state thread ask t (preferred_for r.entries))
    steps_come_again asks.Act r h =
        let P : Bool → Type 0 = λ b. In r (closed_or b firsts) → In r (closed_or b (preferred_by r)) in
        let again : P (all_closed state) = elim (all_closed state) as P [
          | true ↦ λ at. at
          | false ↦ λ at. open_again r at
        ] in again h
    steps_come_again (asks.Return stint finished tally) r h = h
    steps_come_again (asks.Check n) r h = h
    steps_come_again asks.Look r h = h
    steps_come_again (asks.Control command) r h = h

    -- what a first act gives is what each first act gives that is preferred for it
    result_alone : (m other : Move) → In m firsts → In other firsts →
        In other (preferred_by (result_by m)) → result_by other ≡ result_by m
    result_alone m other first first_other kept =
        let P : Option Reply → Type 0 = λ o. room_refusal plan state m ≡ o → result_by other ≡ result_by m in
        let alone : P (room_refusal plan state m) = elim (room_refusal plan state m) as P [
          | Some reply ↦ λ e.
              let e_other = first_room plan state t other m first_other first ∙ e in
              ap (λ o. result_for other o) e_other ∙ sym (ap (λ o. result_for m o) e)
          | None ↦ λ e.
              let prefers : preferred_for (result_by m).entries ≡ unwrap_or (user_of m) 0 =
              ap (λ o. preferred_for (result_for m o).entries) e ∙ entries_prefer (state.entries + 1) m in
              let Q : Option ℕ → Type 0 = λ o. user_of m ≡ o → user_of other ≡ o in
              let on : Q (user_of m) = elim (user_of m) as Q [
                | None ↦ λ nobody. first_nobody plan state t m other first first_other nobody
                | Some user ↦ λ on_user.
                    let it : preferred_for (result_by m).entries ≡ user = prefers ∙ ap (λ o. unwrap_or o 0) on_user in
                    preferred_on user firsts m other first on_user (subst (λ p. In other (preferred_moves plan state t p)) it kept)
              ] in
              ap result_by (first_by_user plan state t other m first_other first well (on refl))
        ] in alone refl

    -- and no other comes then
    open_alone : (a b : Result) → In a (opened firsts) → In b (opened (preferred_by a)) → b ≡ a
    open_alone a b at_a at_b =
        elim (open_by firsts a at_a) [
          | inl none ↦
              let none_left = ap (λ ms. preferred_among (preferred_for a.entries) ms) none.0 in
              elim (open_by (preferred_by a) b at_b) [
                | inl none_too ↦ sym none_too.1 ∙ none.1
                | inr by ↦ absurd (nothing_in (subst (λ ms. In by.0 ms) none_left by.1))
              ]
          | inr by ↦ elim (open_by (preferred_by a) b at_b) [
            | inl none ↦ absurd (nothing_in (subst (λ ms. In by.0 ms) (preferred_none (preferred_for a.entries) firsts none.0) by.1))
            | inr other ↦
                let kept = subst (λ (q : Result). In other.0 (preferred_by q)) (sym by.2) other.1 in
                sym other.2
                ∙ result_alone by.0 other.0 by.1 (preferred_in (preferred_for a.entries) firsts other.0 other.1) kept
                ∙ by.2
          ]
        ]

    pub steps_alone : (ask : Ask) (a b : Result) → In a (results plan state thread ask t) →
        In b (results_as plan state thread ask t (preferred_for a.entries)) → b ≡ a
    steps_alone asks.Act a b at_a at_b =
        let P : Bool → Type 0 = λ v. In a (closed_or v firsts) → In b (closed_or v (preferred_by a)) → b ≡ a in
        let alone : P (all_closed state) = elim (all_closed state) as P [
          | true ↦ λ in_a in_b. one_result a b (answered state Over) in_a in_b
          | false ↦ λ in_a in_b. open_alone a b in_a in_b
        ] in alone at_a at_b
    steps_alone (asks.Return stint finished tally) a b at_a at_b =
        let noted = performed plan state thread t Noted (return_of stint (outcome_of finished t stint.until) tally ∷ []) in
        let P : Bool → Type 0 = λ v. In a (cond v (noted ∷ []) []) → In b (cond v (noted ∷ []) []) → b ≡ a in
        let alone : P (is_out state thread stint && tally_fits plan.names (script_room plan stint.scenario) tally) =
        elim (is_out state thread stint && tally_fits plan.names (script_room plan stint.scenario) tally) as P [
          | true ↦ λ in_a in_b. one_result a b noted in_a in_b
          | false ↦ λ in_a in_b. absurd (nothing_in in_a)
        ] in alone at_a at_b
    steps_alone (asks.Check n) a b at_a at_b =
        let given : Option Share → List Result = λ o. option_map_or (λ (share : Share). answered state (check_reply share) ∷ []) o [] in
        let P : Option Share → Type 0 = λ o. In a (given o) → In b (given o) → b ≡ a in
        let alone : P (slice_get state.shares n) = elim (slice_get state.shares n) as P [
          | None ↦ λ in_a in_b. absurd (nothing_in in_a)
          | Some share ↦ λ in_a in_b. one_result a b (answered state (check_reply share)) in_a in_b
        ] in alone at_a at_b
    steps_alone asks.Look a b at_a at_b = one_result a b (answered state (look_reply state)) at_a at_b
    steps_alone (asks.Control command) a b at_a at_b = one_result a b (control_result plan state thread t command) at_a at_b
