-- Whose user an act is on, and how many users are busy behind a step.
use Rattle.std.proofs.Common.{Contains, ◌≡◌, ◌≤◌, ◌+◌, ◌==◌, ◌∙◌, ◌&&◌, ℕ, zero, suc, Bool, true, false, cond, nat_lt, List, [], ◌∷◌, Option, None, Some, arith, refl, sym, ap, subst, slice_get}
use Rattle.std.specs.Option.{option_map_or}
use Rattle.std.specs.List.{list_any}
use Rattle.ld_base.specs.Stint.{StintView}
use Rattle.ld_base.specs.Tally.{TallyView}
use Rattle.ld_base.specs.declared.act.Act.TheVariants.{Take, Grow, Start}
use Rattle.ld_base.specs.declared.act.Outcome.{Outcome}
use Rattle.ld_base.specs.declared.reply.Reply.{Reply}
use Rattle.ld_machine.specs.Plan.{Plan}
use Rattle.ld_machine.specs.State.{Condition, Idle, Busy, HeldUser, Share, State, is_idle, is_busy, is_busy_condition, idle_users, busy_count, free_users, times_among, times_held}
use Rattle.ld_machine.specs.Scenario.{Scenario}
use Rattle.ld_machine.specs.Moves.{CountLate, StartOn, GrowAndStart, TakeAndStart, DropArrival, Move, StopScenario, ReleaseUser, TakeUser, AnswerArrival, StartIteration, DropIteration, CloseScenario, Users, users_of}
use Rattle.ld_machine.specs.Acts.{acts_of, made_busy, scenario_of}
use Rattle.ld_machine.specs.Effect.{with_user, hold, change_at, count_entry, after_act}
use Rattle.ld_machine.specs.Step.{is_busy_with, is_out, return_of, performed}
use Rattle.ld_machine.specs.Together.{IsActOf, HoldsOnce, WellHeld, idle_user_of, free_user_of, grown_user_of}
use Rattle.ld_machine.proofs.ListLemmas.{In, here, there, In-filter, In-from_any, Contains-from_In, both_true, number_itself}
use Rattle.ld_machine.proofs.SourceLemmas.{Source, by_stop, by_release, by_take, by_arrival, by_start, by_drop, by_close, source_of, grow_answer, take_answer, on_answer}
use Rattle.ld_machine.proofs.ItemLemmas.{stands_share}
use Rattle.ld_machine.proofs.HolderLemmas.{times-with_user, hit, none_held}
use Rattle.ld_machine.proofs.FirstOfAllLemmas.{In-of}
use Rattle.ld_machine.proofs.BusyLemmas.{same_number, take_busy, grow_busy, start_busy, return_busy, release_busy, stop_busy, close_busy, busy_end}
use Rattle.ld_machine.proofs.FreeLemmas.{among_held, free_tells_all}
use Rattle.ld_machine.proofs.WellHeldLemmas.{well_kept}

-- ---- whose user an act is on

-- where an idle user is meant, the scenario holds it
idle_by : (users : Users) (n : ℕ) (s : Scenario) (t : ℕ) (m : Move) → Source users n s t m → (user : ℕ) → idle_user_of m ≡ Some user →
    (h : HeldUser) × In h (idle_users s.share) × (h.user ≡ user)
idle_by users n s t m (by_stop e) user at = absurd (cc)
idle_by users n s t m (by_release h idle e) user at = (h, idle, cc)
idle_by users n s t m (by_take one slot free slots e) user at = absurd (cc)
idle_by users n s t m (by_start h item idle e) user at = (h, idle, cc)
idle_by users n s t m (by_drop item e) user at = absurd (cc)
idle_by users n s t m (by_close e) user at = absurd (cc)
idle_by users n s t m (by_arrival a CountLate due e) user at = absurd (cc)
idle_by users n s t m (by_arrival a DropArrival due e) user at = absurd (cc)
idle_by users n s t m (by_arrival a (StartOn one) due e) user at =
    let same : one ≡ user = cc in
    let h = on_answer users n s t one e in
    (h.0, h.1, h.2 ∙ same)
idle_by users n s t m (by_arrival a (GrowAndStart one slot) due e) user at = absurd (cc)
idle_by users n s t m (by_arrival a (TakeAndStart one slot) due e) user at = absurd (cc)

free_by : (users : Users) (n : ℕ) (s : Scenario) (t : ℕ) (m : Move) → Source users n s t m → (user : ℕ) → free_user_of m ≡ Some user → In user users.free
free_by users n s t m (by_stop e) user at = absurd (cc)
free_by users n s t m (by_release h idle e) user at = absurd (cc)
free_by users n s t m (by_take one slot free slots e) user at = let same : one ≡ user = cc in subst (λ u. In u users.free) same free
free_by users n s t m (by_start h item idle e) user at = absurd (cc)
free_by users n s t m (by_drop item e) user at = absurd (cc)
free_by users n s t m (by_close e) user at = absurd (cc)
free_by users n s t m (by_arrival a CountLate due e) user at = absurd (cc)
free_by users n s t m (by_arrival a DropArrival due e) user at = absurd (cc)
free_by users n s t m (by_arrival a (StartOn one) due e) user at = absurd (cc)
free_by users n s t m (by_arrival a (GrowAndStart one slot) due e) user at = absurd (cc)
free_by users n s t m (by_arrival a (TakeAndStart one slot) due e) user at =
    let same : one ≡ user = cc in subst (λ u. In u users.free) same (take_answer users n s t one slot e)

grown_by : (users : Users) (n : ℕ) (s : Scenario) (t : ℕ) (m : Move) → Source users n s t m → (user : ℕ) → grown_user_of m ≡ Some user → user ≡ users.made + 1
grown_by users n s t m (by_stop e) user at = absurd (cc)
grown_by users n s t m (by_release h idle e) user at = absurd (cc)
grown_by users n s t m (by_take one slot free slots e) user at = absurd (cc)
grown_by users n s t m (by_start h item idle e) user at = absurd (cc)
grown_by users n s t m (by_drop item e) user at = absurd (cc)
grown_by users n s t m (by_close e) user at = absurd (cc)
grown_by users n s t m (by_arrival a CountLate due e) user at = absurd (cc)
grown_by users n s t m (by_arrival a DropArrival due e) user at = absurd (cc)
grown_by users n s t m (by_arrival a (StartOn one) due e) user at = absurd (cc)
grown_by users n s t m (by_arrival a (GrowAndStart one slot) due e) user at =
    let same : one ≡ user = cc in sym same ∙ (grow_answer users n s t one slot e).0
grown_by users n s t m (by_arrival a (TakeAndStart one slot) due e) user at = absurd (cc)

number_by : (users : Users) (n : ℕ) (s : Scenario) (t : ℕ) (m : Move) → Source users n s t m → scenario_of m ≡ n
number_by users n s t m (by_stop e) = refl
number_by users n s t m (by_release h idle e) = refl
number_by users n s t m (by_take one slot free slots e) = refl
number_by users n s t m (by_start h item idle e) = refl
number_by users n s t m (by_drop item e) = refl
number_by users n s t m (by_close e) = refl
number_by users n s t m (by_arrival a answer due e) = refl

module _ (plan : Plan) (state : State) (t n : ℕ) (m : Move) (act : IsActOf plan state t n m) where
  pub the_source : Source (users_of plan state) n act.0 t m
  the_source = source_of (users_of plan state) n act.0 t m (In-of act.2)

  pub number_of_act : scenario_of m ≡ n
  number_of_act = number_by (users_of plan state) n act.0 t m the_source

  pub share_of_act : slice_get state.shares n ≡ Some act.0.share
  share_of_act = (stands_share state.controls plan.parts state.shares n act.0 act.1).1

  pub idle_of_act : (user : ℕ) → WellHeld state → idle_user_of m ≡ Some user → HoldsOnce is_idle act.0.share user
  idle_of_act user well at =
      let h = idle_by (users_of plan state) n act.0 t m the_source user at in
      let idle = In-filter is_idle h.0 act.0.share.held h.1 in
      let within = among_held user n act.0.share state.shares share_of_act in
      let once : times_held user state.shares ≤ 1 = (well user).0 in
      (omega arith, (h.0, Contains-from_In h.0 idle.0, h.2, idle.1))

  pub free_of_act : (user : ℕ) → free_user_of m ≡ Some user → Contains (free_users state) user
  free_of_act user at = Contains-from_In user (free_by (users_of plan state) n act.0 t m the_source user at)

  pub grown_of_act : (user : ℕ) → grown_user_of m ≡ Some user → user ≡ state.made + 1
  grown_of_act user at = grown_by (users_of plan state) n act.0 t m the_source user at

-- ---- a stint that is out

busy_condition : (c : Condition) (thread item until : ℕ) → is_busy_with c thread item until ≡ true → is_busy_condition c ≡ true
busy_condition Idle thread item until h = absurd (cc)
busy_condition (Busy thread' item' until') thread item until h = refl

pub out_is_busy : (state : State) (thread : ℕ) (stint : StintView) → WellHeld state → is_out state thread stint ≡ true →
    (share : Share) × (slice_get state.shares stint.scenario ≡ Some share) × HoldsOnce is_busy share stint.user
out_is_busy state thread stint well out =
    let P : Option Share → Type 0 = λ o. slice_get state.shares stint.scenario ≡ o →
    option_map_or (λ (share : Share). list_any (λ (h : HeldUser). (h.user == stint.user) && is_busy_with h.condition thread stint.item stint.until) share.held) o false ≡ true →
    (share : Share) × (slice_get state.shares stint.scenario ≡ Some share) × HoldsOnce is_busy share stint.user in
    let found : P (slice_get state.shares stint.scenario) = elim (slice_get state.shares stint.scenario) as P [
      | None ↦ λ e at. absurd (cc)
      | Some share ↦ λ e at.
          let holder = In-from_any (λ (h : HeldUser). (h.user == stint.user) && is_busy_with h.condition thread stint.item stint.until) share.held at in
          let both = both_true (holder.0.user == stint.user) (is_busy_with holder.0.condition thread stint.item stint.until) holder.2 in
          let within = among_held stint.user stint.scenario share state.shares e in
          let once : times_held stint.user state.shares ≤ 1 = (well stint.user).0 in
          (share, e, (omega arith, (holder.0, Contains-from_In holder.0 holder.1, same_number holder.0.user stint.user both.0, busy_condition holder.0.condition thread stint.item stint.until both.1)))
    ] in found refl out

pub busy_behind_return : (plan : Plan) (state : State) (thread t : ℕ) (reply : Reply) (stint : StintView) (outcome : Outcome) (tally : TallyView) → WellHeld state →
    is_out state thread stint ≡ true → busy_count (performed plan state thread t reply (return_of stint outcome tally ∷ [])).state + 1 ≡ busy_count state
busy_behind_return plan state thread t reply stint outcome tally well out =
    let busy = out_is_busy state thread stint well out in
    return_busy plan state thread t stint.scenario stint.user stint.item outcome tally busy.0 busy.1 busy.2

-- ---- a first act

-- a user that is taken or grown, idle and held once
pub change_stands : (n : ℕ) (change : Share → Share) (share : Share) (shares : List Share) → slice_get shares n ≡ Some share → slice_get (change_at n change shares) n ≡ Some (change share)
change_stands n change share [] h = absurd (cc)
change_stands zero change share (x ∷ rest) h = let same : x ≡ share = cc in ap (λ s. Some (change s)) same
change_stands (suc n) change share (x ∷ rest) h = change_stands n change share rest h

pub with_there : (h : HeldUser) (held : List HeldUser) → In h (with_user h held)
with_there h [] = here
with_there h (g ∷ rest) =
    let P : Bool → Type 0 = λ b. In h (cond b (h ∷ g ∷ rest) (g ∷ with_user h rest)) in
    elim (nat_lt h.user g.user) as P [ true ↦ here | false ↦ there (with_there h rest) ]

pub hit_itself : (user : ℕ) → hit user user ≡ 1
hit_itself user = rw (number_itself user) refl

pub hold_once : (user slot : ℕ) (share : Share) → times_among user share.held ≡ 0 → HoldsOnce is_idle (hold user slot share) user
hold_once user slot share none =
    let h : HeldUser = record { user = user; slot = slot; condition = Idle } in
    let times = times-with_user user h share.held in
    let one = hit_itself user in
    (omega arith, (h, Contains-from_In h (with_there h share.held), refl, refl))

module _ (plan : Plan) (state : State) (thread t : ℕ) (reply : Reply) (well : WellHeld state) where
  -- an act behind which a user was held and starts
  taken_starts : (n user slot item until : ℕ) (share : Share) → slice_get state.shares n ≡ Some share → times_held user state.shares ≡ 0 →
      busy_count (performed plan state thread t reply (acts_of (AnswerArrival n 0 item until (TakeAndStart user slot)))).state ≡ busy_count state + 1
  taken_starts n user slot item until share at none =
      let within = among_held user n share state.shares at in
      let first = take_busy plan state thread t n user slot in
      let second = start_busy plan (count_entry (after_act plan state thread t (Take n user slot))) thread t n user item until (hold user slot share)
      (change_stands n (hold user slot) share state.shares at) (hold_once user slot share (omega arith)) in
      second ∙ ap (λ k. k + 1) first

  grown_starts : (n user slot item until : ℕ) (share : Share) → slice_get state.shares n ≡ Some share → times_held user state.shares ≡ 0 →
      busy_count (performed plan state thread t reply (acts_of (AnswerArrival n 0 item until (GrowAndStart user slot)))).state ≡ busy_count state + 1
  grown_starts n user slot item until share at none =
      let within = among_held user n share state.shares at in
      let first = grow_busy plan state thread t n user slot in
      let second = start_busy plan (count_entry (after_act plan state thread t (Grow n user slot))) thread t n user item until (hold user slot share)
      (change_stands n (hold user slot) share state.shares at) (hold_once user slot share (omega arith)) in
      second ∙ ap (λ k. k + 1) first

  -- nobody holds a free user, or the one that is made next
  pub free_unheld : (user : ℕ) → Contains (free_users state) user → times_held user state.shares ≡ 0
  free_unheld user free = none_held user state.shares (free_tells_all state user free).2

  pub next_unheld : (user : ℕ) → user ≡ state.made + 1 → times_held user state.shares ≡ 0
  next_unheld user next = (well_kept state well).holds.unmade user (omega arith)

  -- the share of an act's own number
  pub share_at : (n : ℕ) (m : Move) (act : IsActOf plan state t n m) → slice_get state.shares (scenario_of m) ≡ Some act.0.share
  share_at n m act = subst (λ k. slice_get state.shares k ≡ Some act.0.share) (sym (number_of_act plan state t n m act)) (share_of_act plan state t n m act)

  on_idle : (n k user item until : ℕ) (m : Move) (act : IsActOf plan state t n m) → scenario_of m ≡ k → idle_user_of m ≡ Some user →
      busy_count (after_act plan state thread t (Start k user item until)) ≡ busy_count state + 1
  on_idle n k user item until m act number at =
      start_busy plan state thread t k user item until act.0.share
      (subst (λ j. slice_get state.shares j ≡ Some act.0.share) number (share_at n m act))
      (idle_of_act plan state t n m act user well at)

  pub busy_behind_act : (n : ℕ) (m : Move) → IsActOf plan state t n m → busy_count (performed plan state thread t reply (acts_of m)).state ≡ busy_count state + made_busy m
  busy_behind_act n (StopScenario k) act = stop_busy plan state thread t k ∙ omega arith
  busy_behind_act n (ReleaseUser k user) act =
      release_busy plan state thread t k user act.0.share (share_at n (ReleaseUser k user) act) (idle_of_act plan state t n (ReleaseUser k user) act user well refl)
      ∙ omega arith
  busy_behind_act n (TakeUser k user slot) act = take_busy plan state thread t k user slot ∙ omega arith
  busy_behind_act n (StartIteration k user item until) act = on_idle n k user item until (StartIteration k user item until) act refl refl
  busy_behind_act n (DropIteration k item) act = busy_end plan k item state ∙ omega arith
  busy_behind_act n (CloseScenario k) act = close_busy plan state thread t k ∙ omega arith
  busy_behind_act n (AnswerArrival k due item until CountLate) act = busy_end plan k item state ∙ omega arith
  busy_behind_act n (AnswerArrival k due item until DropArrival) act = busy_end plan k item state ∙ omega arith
  busy_behind_act n (AnswerArrival k due item until (StartOn user)) act =
      on_idle n k user item until (AnswerArrival k due item until (StartOn user)) act refl refl
  busy_behind_act n (AnswerArrival k due item until (GrowAndStart user slot)) act =
      grown_starts k user slot item until act.0.share (share_at n (AnswerArrival k due item until (GrowAndStart user slot)) act)
      (next_unheld user (grown_of_act plan state t n (AnswerArrival k due item until (GrowAndStart user slot)) act user refl))
  busy_behind_act n (AnswerArrival k due item until (TakeAndStart user slot)) act =
      taken_starts k user slot item until act.0.share (share_at n (AnswerArrival k due item until (TakeAndStart user slot)) act)
      (free_unheld user (free_of_act plan state t n (AnswerArrival k due item until (TakeAndStart user slot)) act user refl))
