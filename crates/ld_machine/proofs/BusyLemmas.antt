-- How many users are busy behind an act.
use Rattle.std.proofs.Common.{◌≡◌, ◌≤◌, ◌+◌, ◌==◌, ◌∙◌, ℕ, zero, suc, Bool, true, false, not, cond, nat_lt, List, [], ◌∷◌, ◌++◌, length, Option, None, Some, map, filter, flat_map, arith, refl, sym, ap, subst, slice_get, length-append}
use Rattle.std.specs.Option.{option_map_or}
use Rattle.std.specs.List.{list_any}
use Rattle.std.proofs.lemmas.Grind.{common_steps}
use Rattle.ld_base.specs.Tally.{TallyView}
use Rattle.ld_base.specs.declared.act.Act.TheVariants.{Take, Grow, Start, Return, Release, Stop, Close}
use Rattle.ld_base.specs.declared.act.Outcome.{Outcome}
use Rattle.ld_base.specs.declared.command.Command.{Command}
use Rattle.ld_base.specs.declared.command.Command.TheVariants as commands
use Rattle.ld_machine.specs.Plan.{Part, Plan, owned_items}
use Rattle.ld_machine.specs.State.{StartsNothing, Halted, Condition, Idle, Busy, HeldUser, Share, State, is_idle_condition, is_busy_condition, is_idle, is_busy, busy_users, busy_count, times_among}
use Rattle.ld_machine.specs.Commands.{stop_commanded_share, after_command}
use Rattle.ld_machine.specs.Effect.{after_act, with_user, if_user, hold, put_condition, let_go, end_item, change_at, change_share, end_item_of}
use Rattle.ld_machine.specs.Together.{HoldsOnce}
use Rattle.ld_machine.proofs.ListLemmas.{In, here, there, nothing_in, number_itself}
use Rattle.ld_machine.proofs.TurnLemmas.{among_there}
use Rattle.ld_machine.proofs.FirstOfAllLemmas.{In-of}

-- ---- one share

pub same_number : (a b : ℕ) → (a == b) ≡ true → a ≡ b
same_number a b h = grind (arith, common_steps)

-- a user that is held once is held in one way
pub once_same : (user : ℕ) (g h : HeldUser) (held : List HeldUser) → times_among user held ≤ 1 → In g held → In h held →
    (g.user == user) ≡ true → (h.user == user) ≡ true → g ≡ h
once_same user g h [] once at_g at_h is_g is_h = absurd (nothing_in at_g)
once_same user g h (x ∷ xs) once here here is_g is_h = refl
once_same user g h (x ∷ xs) once here (there at_h) is_g is_h =
    let more = among_there user h at_h is_h in
    let first : times_among user (x ∷ xs) ≡ 1 + times_among user xs = rw is_g refl in
    absurd (omega arith)
once_same user g h (x ∷ xs) once (there at_g) here is_g is_h =
    let more = among_there user g at_g is_g in
    let first : times_among user (x ∷ xs) ≡ 1 + times_among user xs = rw is_h refl in
    absurd (omega arith)
once_same user g h (x ∷ xs) once (there at_g) (there at_h) is_g is_h =
    let fewer : times_among user xs ≤ times_among user (x ∷ xs) = omega arith in
    once_same user g h xs (omega arith) at_g at_h is_g is_h

-- every holder of the user passes the test
abbrev AllAre : (HeldUser → Bool) → ℕ → List HeldUser → Type 0
AllAre p user held = (g : HeldUser) → In g held → (g.user == user) ≡ true → p g ≡ true

once_all : (p : HeldUser → Bool) (share : Share) (user : ℕ) → HoldsOnce p share user → AllAre p user share.held
once_all p share user h g at is_g =
    let holder = h.1.0 in
    let same_user : holder.user ≡ user = h.1.2 in
    let same = once_same user g holder share.held h.0 at (In-of h.1.1) is_g (subst (λ u. (holder.user == u) ≡ true) same_user (number_itself holder.user)) in
    subst (λ z. p z ≡ true) (sym same) h.1.3

once_there : (p : HeldUser → Bool) (share : Share) (user : ℕ) → HoldsOnce p share user → times_among user share.held ≡ 1
once_there p share user h =
    let holder = h.1.0 in
    let same_user : holder.user ≡ user = h.1.2 in
    let some = among_there user holder (In-of h.1.1) (subst (λ u. (holder.user == u) ≡ true) same_user (number_itself holder.user)) in
    let once : times_among user share.held ≤ 1 = h.0 in
    omega arith

idle_not_busy : (c : Condition) → is_idle_condition c ≡ true → is_busy_condition c ≡ false
idle_not_busy Idle h = refl
idle_not_busy (Busy thread item until) h = absurd (cc)

-- who is busy is not changed by one more idle user
busy_with : (user slot : ℕ) (held : List HeldUser) → filter is_busy (with_user (record { user = user; slot = slot; condition = Idle }) held) ≡ filter is_busy held
busy_with user slot [] = refl
busy_with user slot (g ∷ rest) =
    let h : HeldUser = record { user = user; slot = slot; condition = Idle } in
    let P : Bool → Type 0 = λ b. filter is_busy (cond b (h ∷ g ∷ rest) (g ∷ with_user h rest)) ≡ filter is_busy (g ∷ rest) in
    elim (nat_lt user g.user) as P [
      | true ↦ refl
      | false ↦ ap (λ us. cond (is_busy g) (g ∷ us) us) (busy_with user slot rest)
    ]

pub busy_hold : (user slot : ℕ) (share : Share) → busy_users (hold user slot share) ≡ busy_users share
busy_hold user slot share = busy_with user slot share.held

-- nor by one idle user less
busy_without : (user : ℕ) (held : List HeldUser) → AllAre is_idle user held → filter is_busy (filter (λ (h : HeldUser). not (h.user == user)) held) ≡ filter is_busy held
busy_without user [] idle = refl
busy_without user (g ∷ rest) idle =
    let later = busy_without user rest (λ h at. idle h (there at)) in
    let kept = filter (λ (h : HeldUser). not (h.user == user)) rest in
    let P : Bool → Type 0 = λ b. (g.user == user) ≡ b → filter is_busy (cond (not b) (g ∷ kept) kept) ≡ filter is_busy (g ∷ rest) in
    let same : P (g.user == user) = elim (g.user == user) as P [
      | true ↦ λ e. let rests : is_busy g ≡ false = idle_not_busy g.condition (idle g here e) in later ∙ sym (ap (λ b. cond b (g ∷ filter is_busy rest) (filter is_busy rest)) rests)
      | false ↦ λ e. ap (λ us. cond (is_busy g) (g ∷ us) us) later
    ] in same refl

pub busy_let_go : (user : ℕ) (share : Share) → HoldsOnce is_idle share user → busy_users (let_go user share) ≡ busy_users share
busy_let_go user share h = busy_without user share.held (once_all is_idle share user h)

-- one that starts is one busy user more, for each time that it is held
busy_started : (user thread item until : ℕ) (held : List HeldUser) → AllAre is_idle user held →
    length (filter is_busy (map (if_user user (Busy thread item until)) held)) ≡ length (filter is_busy held) + times_among user held
busy_started user thread item until [] idle = refl
busy_started user thread item until (g ∷ rest) idle =
    let later = busy_started user thread item until rest (λ h at. idle h (there at)) in
    let others = map (if_user user (Busy thread item until)) rest in
    let P : Bool → Type 0 = λ b. (g.user == user) ≡ b →
    length (filter is_busy (cond b (record g { condition = Busy thread item until }) g ∷ others)) ≡ length (filter is_busy (g ∷ rest)) + (cond b 1 0 + times_among user rest) in
    let count : P (g.user == user) = elim (g.user == user) as P [
      | true ↦ λ e.
          let rests : is_busy g ≡ false = idle_not_busy g.condition (idle g here e) in
          let before : length (filter is_busy (g ∷ rest)) ≡ length (filter is_busy rest) = ap (λ b. length (cond b (g ∷ filter is_busy rest) (filter is_busy rest))) rests in
          omega arith
      | false ↦ λ e.
          let Q : Bool → Type 0 = λ b. length (cond b (g ∷ filter is_busy others) (filter is_busy others)) ≡ length (cond b (g ∷ filter is_busy rest) (filter is_busy rest)) + (0 + times_among user rest) in
          let one : Q (is_busy g) = elim (is_busy g) as Q [ true ↦ omega arith | false ↦ omega arith ] in one
    ] in count refl

pub busy_put_busy : (user thread item until : ℕ) (share : Share) → HoldsOnce is_idle share user →
    length (busy_users (put_condition user (Busy thread item until) share)) ≡ length (busy_users share) + 1
busy_put_busy user thread item until share h =
    let count = busy_started user thread item until share.held (once_all is_idle share user h) in
    let once = once_there is_idle share user h in
    omega arith

-- and one that returns is one less
busy_returned : (user : ℕ) (held : List HeldUser) → AllAre is_busy user held →
    length (filter is_busy (map (if_user user Idle) held)) + times_among user held ≡ length (filter is_busy held)
busy_returned user [] busy = refl
busy_returned user (g ∷ rest) busy =
    let later = busy_returned user rest (λ h at. busy h (there at)) in
    let others = map (if_user user Idle) rest in
    let P : Bool → Type 0 = λ b. (g.user == user) ≡ b →
    length (filter is_busy (cond b (record g { condition = Idle }) g ∷ others)) + (cond b 1 0 + times_among user rest) ≡ length (filter is_busy (g ∷ rest)) in
    let count : P (g.user == user) = elim (g.user == user) as P [
      | true ↦ λ e.
          let before : length (filter is_busy (g ∷ rest)) ≡ suc (length (filter is_busy rest)) = ap (λ b. length (cond b (g ∷ filter is_busy rest) (filter is_busy rest))) (busy g here e) in
          omega arith
      | false ↦ λ e.
          let Q : Bool → Type 0 = λ b. length (cond b (g ∷ filter is_busy others) (filter is_busy others)) + (0 + times_among user rest) ≡ length (cond b (g ∷ filter is_busy rest) (filter is_busy rest)) in
          let one : Q (is_busy g) = elim (is_busy g) as Q [ true ↦ omega arith | false ↦ omega arith ] in one
    ] in count refl

pub busy_put_idle : (user : ℕ) (share : Share) → HoldsOnce is_busy share user → length (busy_users (put_condition user Idle share)) + 1 ≡ length (busy_users share)
busy_put_idle user share h =
    let count = busy_returned user share.held (once_all is_busy share user h) in
    let once = once_there is_busy share user h in
    omega arith

-- an ended item leaves who is held
pub held_end_item : (part : Part) (item : ℕ) (share : Share) → (end_item part item share).held ≡ share.held
held_end_item part item share =
    let P : Bool → Type 0 = λ b. (cond b (record share { ended = share.ended ++ item ∷ [] }) share).held ≡ share.held in
    elim (list_any (λ k. k == item) (owned_items part.executor)) as P [ true ↦ refl | false ↦ refl ]

pub held_stop : (t : ℕ) (share : Share) → (stop_commanded_share t share).held ≡ share.held
held_stop t share =
    let P : Bool → Type 0 = λ b. (cond b share (record share { level = StartsNothing t })).held ≡ share.held in
    elim share.closed as P [ true ↦ refl | false ↦ refl ]

-- ---- the state

busy_cons : (share : Share) (rest : List Share) → length (flat_map busy_users (share ∷ rest)) ≡ length (busy_users share) + length (flat_map busy_users rest)
busy_cons share rest = length-append (busy_users share) (flat_map busy_users rest)

-- the count changes as that of the changed share does
busy_at : (n : ℕ) (change : Share → Share) (share : Share) (shares : List Share) → slice_get shares n ≡ Some share →
    length (flat_map busy_users (change_at n change shares)) + length (busy_users share) ≡ length (flat_map busy_users shares) + length (busy_users (change share))
busy_at n change share [] h = absurd (cc)
busy_at zero change share (x ∷ rest) h =
    let same : x ≡ share = cc in
    let after = busy_cons (change x) rest in
    let before = busy_cons x rest in
    let left = ap (λ (s : Share). length (busy_users s)) same in
    let right = ap (λ (s : Share). length (busy_users (change s))) same in
    omega arith
busy_at (suc n) change share (x ∷ rest) h =
    let later = busy_at n change share rest h in
    let after = busy_cons x (change_at n change rest) in
    let before = busy_cons x rest in
    omega arith

pub busy_share : (state : State) (n : ℕ) (change : Share → Share) (share : Share) → slice_get state.shares n ≡ Some share →
    busy_count (change_share state n change) + length (busy_users share) ≡ busy_count state + length (busy_users (change share))
busy_share state n change share h = busy_at n change share state.shares h

-- it stays where the share's does, whichever share it is
same_at : (n : ℕ) (change : Share → Share) (shares : List Share) → ((share : Share) → busy_users (change share) ≡ busy_users share) →
    flat_map busy_users (change_at n change shares) ≡ flat_map busy_users shares
same_at n change [] same = refl
same_at zero change (x ∷ rest) same = ap (λ us. us ++ flat_map busy_users rest) (same x)
same_at (suc n) change (x ∷ rest) same = ap (λ us. busy_users x ++ us) (same_at n change rest same)

pub busy_same : (state : State) (n : ℕ) (change : Share → Share) → ((share : Share) → busy_users (change share) ≡ busy_users share) →
    busy_count (change_share state n change) ≡ busy_count state
busy_same state n change same = ap length (same_at n change state.shares same)

pub absent_share : (n : ℕ) (change : Share → Share) (shares : List Share) → slice_get shares n ≡ None → change_at n change shares ≡ shares
absent_share n change [] h = refl
absent_share zero change (x ∷ rest) h = absurd (cc)
absent_share (suc n) change (x ∷ rest) h = ap (λ xs. x ∷ xs) (absent_share n change rest h)

pub busy_end : (plan : Plan) (n item : ℕ) (state : State) → busy_count (end_item_of plan n item state) ≡ busy_count state
busy_end plan n item state =
    let P : Option Part → Type 0 = λ o. busy_count (option_map_or (λ part. change_share state n (end_item part item)) o state) ≡ busy_count state in
    elim (slice_get plan.parts n) as P [
      | None ↦ refl
      | Some part ↦ busy_same state n (end_item part item) (λ share. ap (λ held. filter is_busy held) (held_end_item part item share))
    ]

same_all : (t : ℕ) (shares : List Share) → flat_map busy_users (map (stop_commanded_share t) shares) ≡ flat_map busy_users shares
same_all t [] = refl
same_all t (x ∷ rest) =
    ap (λ held. filter is_busy held ++ flat_map busy_users (map (stop_commanded_share t) rest)) (held_stop t x)
    ∙ ap (λ us. busy_users x ++ us) (same_all t rest)

pub busy_command : (state : State) (command : Command) (t : ℕ) → busy_count (after_command state command t) ≡ busy_count state
busy_command state commands.Stop t = ap length (same_all t state.shares)
busy_command state (commands.Pause b) t = refl
busy_command state (commands.Vus n) t = refl
busy_command state (commands.VusMax n) t = refl

-- ---- acts

module _ (plan : Plan) (state : State) (thread t n : ℕ) where
  pub take_busy : (user slot : ℕ) → busy_count (after_act plan state thread t (Take n user slot)) ≡ busy_count state
  take_busy user slot = busy_same state n (hold user slot) (busy_hold user slot)

  pub grow_busy : (user slot : ℕ) → busy_count (after_act plan state thread t (Grow n user slot)) ≡ busy_count state
  grow_busy user slot = busy_same state n (hold user slot) (busy_hold user slot)

  pub start_busy : (user item until : ℕ) (share : Share) → slice_get state.shares n ≡ Some share → HoldsOnce is_idle share user →
      busy_count (after_act plan state thread t (Start n user item until)) ≡ busy_count state + 1
  start_busy user item until share at idle =
      let ended = busy_end plan n item (change_share state n (put_condition user (Busy thread item until))) in
      let changed = busy_share state n (put_condition user (Busy thread item until)) share at in
      let one = busy_put_busy user thread item until share idle in
      omega arith

  pub return_busy : (user item : ℕ) (outcome : Outcome) (tally : TallyView) (share : Share) → slice_get state.shares n ≡ Some share → HoldsOnce is_busy share user →
      busy_count (after_act plan state thread t (Return n user item outcome tally)) + 1 ≡ busy_count state
  return_busy user item outcome tally share at busy =
      let changed = busy_share state n (put_condition user Idle) share at in
      let one = busy_put_idle user share busy in
      omega arith

  pub release_busy : (user : ℕ) (share : Share) → slice_get state.shares n ≡ Some share → HoldsOnce is_idle share user →
      busy_count (after_act plan state thread t (Release n user)) ≡ busy_count state
  release_busy user share at idle =
      let changed = busy_share state n (let_go user) share at in
      let same = ap length (busy_let_go user share idle) in
      omega arith

  pub stop_busy : busy_count (after_act plan state thread t (Stop n)) ≡ busy_count state
  stop_busy = busy_same state n (λ share. record share { level = Halted }) (λ share. refl)

  pub close_busy : busy_count (after_act plan state thread t (Close n)) ≡ busy_count state
  close_busy = busy_same state n (λ share. record share { closed = true }) (λ share. refl)
