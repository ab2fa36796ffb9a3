-- The sample room of the iterations under way, behind an act.
use Rattle.std.proofs.Common.{◌≡◌, ◌+◌, ◌*◌, ◌∙◌, ℕ, zero, suc, true, List, [], ◌∷◌, length, Option, None, Some, map, filter, sum_by, arith, refl, sym, ap, subst, slice_get}
use Rattle.std.specs.Option.{option_map_or}
use Rattle.std.proofs.lemmas.List.Sums.{sum_by-cons}
use Rattle.ld_base.specs.Stint.{StintView}
use Rattle.ld_base.specs.Tally.{TallyView}
use Rattle.ld_base.specs.declared.act.Act.{Act}
use Rattle.ld_base.specs.declared.act.Act.TheVariants.{Take, Grow, Start, Return, Release}
use Rattle.ld_base.specs.declared.act.Outcome.{Outcome}
use Rattle.ld_base.specs.declared.command.Command.{Command}
use Rattle.ld_base.specs.declared.command.Command.TheVariants as commands
use Rattle.ld_base.specs.declared.reply.Reply.{Reply}
use Rattle.ld_machine.specs.Plan.{Part, Plan}
use Rattle.ld_machine.specs.State.{Halted, Idle, Busy, Share, Controls, State, is_idle, is_busy, busy_users, times_held}
use Rattle.ld_machine.specs.Scenario.{Scenario}
use Rattle.ld_machine.specs.Moves.{CountLate, StartOn, GrowAndStart, TakeAndStart, DropArrival, Move, StopScenario, ReleaseUser, TakeUser, AnswerArrival, StartIteration, DropIteration, CloseScenario, scenarios_with}
use Rattle.ld_machine.specs.Acts.{acts_of, made_busy, scenario_of}
use Rattle.ld_machine.specs.Room.{script_room, busy_room}
use Rattle.ld_machine.specs.Commands.{stop_commanded_share, after_command}
use Rattle.ld_machine.specs.Effect.{hold, put_condition, let_go, end_item, change_at, change_share, count_entry, end_item_of, after_act}
use Rattle.ld_machine.specs.Step.{is_out, return_of, performed}
use Rattle.ld_machine.specs.Together.{IsActOf, HoldsOnce, WellHeld, idle_user_of}
use Rattle.ld_machine.proofs.FreeLemmas.{among_held}
use Rattle.ld_machine.proofs.BusyStepLemmas.{share_of_act, idle_of_act, free_of_act, grown_of_act, out_is_busy, change_stands, hold_once, free_unheld, next_unheld, share_at}
use Rattle.ld_machine.proofs.BusyLemmas.{busy_hold, busy_let_go, busy_put_busy, busy_put_idle, held_end_item, held_stop}

-- the room of the busy users of one scenario
abbrev pub room_of : Scenario → ℕ
room_of s = length (busy_users s.share) * s.part.sample_room

abbrev part_room : List Part → ℕ → ℕ
part_room parts n = option_map_or (λ (part : Part). part.sample_room) (slice_get parts n) 0

room_at : (controls : Controls) (parts : List Part) (shares : List Share) (n : ℕ) (change : Share → Share) (share : Share) → slice_get shares n ≡ Some share →
    sum_by room_of (scenarios_with controls parts (change_at n change shares)) + length (busy_users share) * part_room parts n
    ≡ sum_by room_of (scenarios_with controls parts shares) + length (busy_users (change share)) * part_room parts n
room_at controls [] shares n change share h = omega arith
room_at controls (part ∷ parts) [] n change share h = absurd (cc)
room_at controls (part ∷ parts) (x ∷ shares) zero change share h =
    let same : x ≡ share = cc in
    let rest = scenarios_with controls parts shares in
    let after = sum_by-cons room_of (record { part = part; share = change x; controls = controls }) rest in
    let before = sum_by-cons room_of (record { part = part; share = x; controls = controls }) rest in
    let left = ap (λ (s : Share). length (busy_users s) * part.sample_room) same in
    let right = ap (λ (s : Share). length (busy_users (change s)) * part.sample_room) same in
    omega arith
room_at controls (part ∷ parts) (x ∷ shares) (suc n) change share h =
    let later = room_at controls parts shares n change share h in
    let s : Scenario = record { part = part; share = x; controls = controls } in
    let after = sum_by-cons room_of s (scenarios_with controls parts (change_at n change shares)) in
    let before = sum_by-cons room_of s (scenarios_with controls parts shares) in
    omega arith

pub room_share : (plan : Plan) (state : State) (n : ℕ) (change : Share → Share) (share : Share) → slice_get state.shares n ≡ Some share →
    busy_room plan (change_share state n change) + length (busy_users share) * script_room plan n ≡ busy_room plan state + length (busy_users (change share)) * script_room plan n
room_share plan state n change share h = room_at state.controls plan.parts state.shares n change share h

room_alike : (controls : Controls) (parts : List Part) (shares : List Share) (n : ℕ) (change : Share → Share) → ((share : Share) → busy_users (change share) ≡ busy_users share) →
    sum_by room_of (scenarios_with controls parts (change_at n change shares)) ≡ sum_by room_of (scenarios_with controls parts shares)
room_alike controls [] shares n change same = refl
room_alike controls (part ∷ parts) [] n change same = refl
room_alike controls (part ∷ parts) (x ∷ shares) zero change same =
    let rest = scenarios_with controls parts shares in
    let after = sum_by-cons room_of (record { part = part; share = change x; controls = controls }) rest in
    let before = sum_by-cons room_of (record { part = part; share = x; controls = controls }) rest in
    let first = ap (λ us. length us * part.sample_room) (same x) in
    omega arith
room_alike controls (part ∷ parts) (x ∷ shares) (suc n) change same =
    let later = room_alike controls parts shares n change same in
    let s : Scenario = record { part = part; share = x; controls = controls } in
    let after = sum_by-cons room_of s (scenarios_with controls parts (change_at n change shares)) in
    let before = sum_by-cons room_of s (scenarios_with controls parts shares) in
    omega arith

pub room_same : (plan : Plan) (state : State) (n : ℕ) (change : Share → Share) → ((share : Share) → busy_users (change share) ≡ busy_users share) →
    busy_room plan (change_share state n change) ≡ busy_room plan state
room_same plan state n change same = room_alike state.controls plan.parts state.shares n change same

room_controls : (a b : Controls) (parts : List Part) (shares : List Share) → sum_by room_of (scenarios_with a parts shares) ≡ sum_by room_of (scenarios_with b parts shares)
room_controls a b [] shares = refl
room_controls a b (part ∷ parts) [] = refl
room_controls a b (part ∷ parts) (x ∷ shares) =
    let later = room_controls a b parts shares in
    let first = sum_by-cons room_of (record { part = part; share = x; controls = a }) (scenarios_with a parts shares) in
    let second = sum_by-cons room_of (record { part = part; share = x; controls = b }) (scenarios_with b parts shares) in
    omega arith

room_stopped : (controls : Controls) (parts : List Part) (shares : List Share) (t : ℕ) →
    sum_by room_of (scenarios_with controls parts (map (stop_commanded_share t) shares)) ≡ sum_by room_of (scenarios_with controls parts shares)
room_stopped controls [] shares t = refl
room_stopped controls (part ∷ parts) [] t = refl
room_stopped controls (part ∷ parts) (x ∷ shares) t =
    let later = room_stopped controls parts shares t in
    let after = sum_by-cons room_of (record { part = part; share = stop_commanded_share t x; controls = controls }) (scenarios_with controls parts (map (stop_commanded_share t) shares)) in
    let before = sum_by-cons room_of (record { part = part; share = x; controls = controls }) (scenarios_with controls parts shares) in
    let first = ap (λ held. length (filter is_busy held) * part.sample_room) (held_stop t x) in
    omega arith

pub room_command : (plan : Plan) (state : State) (command : Command) (t : ℕ) → busy_room plan (after_command state command t) ≡ busy_room plan state
room_command plan state commands.Stop t = room_stopped state.controls plan.parts state.shares t
room_command plan state (commands.Pause b) t = room_controls _ state.controls plan.parts state.shares
room_command plan state (commands.Vus n) t = room_controls _ state.controls plan.parts state.shares
room_command plan state (commands.VusMax n) t = room_controls _ state.controls plan.parts state.shares

pub room_end : (plan : Plan) (n item : ℕ) (state : State) → busy_room plan (end_item_of plan n item state) ≡ busy_room plan state
room_end plan n item state =
    let P : Option Part → Type 0 = λ o. busy_room plan (option_map_or (λ part. change_share state n (end_item part item)) o state) ≡ busy_room plan state in
    elim (slice_get plan.parts n) as P [
      | None ↦ refl
      | Some part ↦ room_same plan state n (end_item part item) (λ share. ap (λ held. filter is_busy held) (held_end_item part item share))
    ]

-- ---- acts

one_more : (a b r : ℕ) → b ≡ a + 1 → b * r ≡ a * r + r
one_more a b r h = subst (λ n. n * r ≡ a * r + r) (sym h) (omega arith)

module _ (plan : Plan) (state : State) (thread t n : ℕ) where
  pub start_room : (user item until : ℕ) (share : Share) → slice_get state.shares n ≡ Some share → HoldsOnce is_idle share user →
      busy_room plan (after_act plan state thread t (Start n user item until)) ≡ busy_room plan state + script_room plan n
  start_room user item until share at idle =
      let ended = room_end plan n item (change_share state n (put_condition user (Busy thread item until))) in
      let changed = room_share plan state n (put_condition user (Busy thread item until)) share at in
      let one = one_more (length (busy_users share)) (length (busy_users (put_condition user (Busy thread item until) share))) (script_room plan n) (busy_put_busy user thread item until share idle) in
      omega arith

  pub return_room : (user item : ℕ) (outcome : Outcome) (tally : TallyView) (share : Share) → slice_get state.shares n ≡ Some share → HoldsOnce is_busy share user →
      busy_room plan (after_act plan state thread t (Return n user item outcome tally)) + script_room plan n ≡ busy_room plan state
  return_room user item outcome tally share at busy =
      let changed = room_share plan state n (put_condition user Idle) share at in
      let one = one_more (length (busy_users (put_condition user Idle share))) (length (busy_users share)) (script_room plan n) (sym (busy_put_idle user share busy)) in
      omega arith

  pub release_room : (user : ℕ) (share : Share) → slice_get state.shares n ≡ Some share → HoldsOnce is_idle share user →
      busy_room plan (after_act plan state thread t (Release n user)) ≡ busy_room plan state
  release_room user share at idle =
      let changed = room_share plan state n (let_go user) share at in
      let same = ap (λ us. length us * script_room plan n) (busy_let_go user share idle) in
      omega arith

-- ---- steps

pub room_behind_return : (plan : Plan) (state : State) (thread t : ℕ) (reply : Reply) (stint : StintView) (outcome : Outcome) (tally : TallyView) → WellHeld state →
    is_out state thread stint ≡ true →
    busy_room plan (performed plan state thread t reply (return_of stint outcome tally ∷ [])).state + script_room plan stint.scenario ≡ busy_room plan state
room_behind_return plan state thread t reply stint outcome tally well out =
    let busy = out_is_busy state thread stint well out in
    return_room plan state thread t stint.scenario stint.user stint.item outcome tally busy.0 busy.1 busy.2

module _ (plan : Plan) (state : State) (thread t : ℕ) (reply : Reply) (well : WellHeld state) where
  held_room : (k user slot : ℕ) → busy_room plan (after_act plan state thread t (Take k user slot)) ≡ busy_room plan state
  held_room k user slot = room_same plan state k (hold user slot) (busy_hold user slot)

  grown_room : (k user slot : ℕ) → busy_room plan (after_act plan state thread t (Grow k user slot)) ≡ busy_room plan state
  grown_room k user slot = room_same plan state k (hold user slot) (busy_hold user slot)

  on_idle_room : (n k user item until : ℕ) (m : Move) (act : IsActOf plan state t n m) → scenario_of m ≡ k → idle_user_of m ≡ Some user →
      busy_room plan (after_act plan state thread t (Start k user item until)) ≡ busy_room plan state + 1 * script_room plan k
  on_idle_room n k user item until m act number at =
      let started = start_room plan state thread t k user item until act.0.share
      (subst (λ j. slice_get state.shares j ≡ Some act.0.share) number (share_at plan state thread t reply well n m act))
      (idle_of_act plan state t n m act user well at) in
      omega arith

  -- an act that takes or grows a user, and starts on it
  held_starts : (first : Act) (n k user slot item until : ℕ) (m : Move) (act : IsActOf plan state t n m) → scenario_of m ≡ k → times_held user state.shares ≡ 0 →
      slice_get (after_act plan state thread t first).shares k ≡ Some (hold user slot act.0.share) →
      busy_room plan (after_act plan state thread t first) ≡ busy_room plan state →
      busy_room plan (after_act plan (count_entry (after_act plan state thread t first)) thread t (Start k user item until)) ≡ busy_room plan state + 1 * script_room plan k
  held_starts first n k user slot item until m act number none at same =
      let share = act.0.share in
      let within = among_held user n share state.shares (share_of_act plan state t n m act) in
      let started = start_room plan (count_entry (after_act plan state thread t first)) thread t k user item until (hold user slot share)
      at (hold_once user slot share (omega arith)) in
      omega arith

  held_at : (n k user slot : ℕ) (m : Move) (act : IsActOf plan state t n m) → scenario_of m ≡ k → slice_get (change_at k (hold user slot) state.shares) k ≡ Some (hold user slot act.0.share)
  held_at n k user slot m act number =
      change_stands k (hold user slot) act.0.share state.shares
      (subst (λ j. slice_get state.shares j ≡ Some act.0.share) number (share_at plan state thread t reply well n m act))

  pub room_behind_act : (n : ℕ) (m : Move) → IsActOf plan state t n m →
      busy_room plan (performed plan state thread t reply (acts_of m)).state ≡ busy_room plan state + made_busy m * script_room plan (scenario_of m)
  room_behind_act n (StopScenario k) act = room_same plan state k (λ share. record share { level = Halted }) (λ share. refl) ∙ omega arith
  room_behind_act n (ReleaseUser k user) act =
      release_room plan state thread t k user act.0.share (share_at plan state thread t reply well n (ReleaseUser k user) act)
      (idle_of_act plan state t n (ReleaseUser k user) act user well refl)
      ∙ omega arith
  room_behind_act n (TakeUser k user slot) act = held_room k user slot ∙ omega arith
  room_behind_act n (StartIteration k user item until) act = on_idle_room n k user item until (StartIteration k user item until) act refl refl
  room_behind_act n (DropIteration k item) act = room_end plan k item state ∙ omega arith
  room_behind_act n (CloseScenario k) act = room_same plan state k (λ share. record share { closed = true }) (λ share. refl) ∙ omega arith
  room_behind_act n (AnswerArrival k due item until CountLate) act = room_end plan k item state ∙ omega arith
  room_behind_act n (AnswerArrival k due item until DropArrival) act = room_end plan k item state ∙ omega arith
  room_behind_act n (AnswerArrival k due item until (StartOn user)) act =
      on_idle_room n k user item until (AnswerArrival k due item until (StartOn user)) act refl refl
  room_behind_act n (AnswerArrival k due item until (GrowAndStart user slot)) act =
      let m : Move = AnswerArrival k due item until (GrowAndStart user slot) in
      held_starts (Grow k user slot) n k user slot item until m act refl
      (next_unheld plan state thread t reply well user (grown_of_act plan state t n m act user refl))
      (held_at n k user slot m act refl) (grown_room k user slot)
  room_behind_act n (AnswerArrival k due item until (TakeAndStart user slot)) act =
      let m : Move = AnswerArrival k due item until (TakeAndStart user slot) in
      held_starts (Take k user slot) n k user slot item until m act refl
      (free_unheld plan state thread t reply well user (free_of_act plan state t n m act user refl))
      (held_at n k user slot m act refl) (held_room k user slot)
