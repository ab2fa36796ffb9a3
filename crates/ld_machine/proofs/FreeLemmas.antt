-- Who is held and who is free behind an act.
use Rattle.std.proofs.Common.{Contains, ◌≡◌, ◌≢◌, ◌↔◌, ◌⊎◌, inl, inr, ◌≤◌, ◌<◌, ◌+◌, ◌==◌, ◌∙◌, ℕ, zero, suc, Bool, true, false, not, cond, ◌||◌, nat_lt, List, [], ◌∷◌, ◌++◌, length, Option, None, Some, map, filter, arith, refl, sym, ap, subst, slice_get}
use Rattle.std.specs.Option.{option_map_or}
use Rattle.std.specs.List.{list_any, range_with_len}
use Rattle.std.proofs.lemmas.Bool.{true≢false}
use Rattle.std.proofs.lemmas.List.{append-nil}
use Rattle.std.proofs.lemmas.Grind.{common_steps}
use Rattle.std.proofs.lemmas.List.Elements.{filter-append}
use Rattle.ld_base.specs.Tally.{TallyView}
use Rattle.ld_base.specs.declared.act.Act.TheVariants.{Take, Grow, Start, Return, Release, Stop, Close}
use Rattle.ld_base.specs.declared.act.Outcome.{Outcome}
use Rattle.ld_base.specs.declared.command.Command.{Command}
use Rattle.ld_base.specs.declared.command.Command.TheVariants as commands
use Rattle.ld_machine.specs.Plan.{Part, Plan}
use Rattle.ld_machine.specs.State.{Halted, Condition, Idle, Busy, HeldUser, Share, State, is_held, free_users, times_among, times_held}
use Rattle.ld_machine.specs.Commands.{stop_commanded_share, after_command}
use Rattle.ld_machine.specs.Effect.{after_act, with_user, if_user, hold, put_condition, let_go, end_item, change_at, change_share, end_item_of}
use Rattle.ld_machine.specs.Together.{holds}
use Rattle.ld_machine.proofs.ListLemmas.{In, here, there, nothing_in, In-filter, filter-In, In-from_any, Contains-from_In, number_itself}
use Rattle.ld_machine.proofs.HolderLemmas.{or_parts}
use Rattle.ld_machine.proofs.TurnLemmas.{among_there}
use Rattle.ld_machine.proofs.FirstOfAllLemmas.{In-of, false_unless, is_not}
use Rattle.ld_machine.proofs.BusyLemmas.{same_number, held_end_item, held_stop}

-- ---- tests

or_swap : (a b c : Bool) → (a || (b || c)) ≡ (b || (a || c))
or_swap true true c = refl
or_swap true false c = refl
or_swap false b c = refl

or_along : (a b c : Bool) → ((a || b) || c) ≡ (a || (b || c))
or_along true b c = refl
or_along false b c = refl

pub apart_tests : (a b : ℕ) → a ≢ b → (a == b) ≡ false
apart_tests a b apart = false_unless (a == b) (λ e. apart (same_number a b e))

-- ---- one share

-- behind `hold` the user is held, and whoever was
any_with : (user slot other : ℕ) (held : List HeldUser) →
    list_any (λ (h : HeldUser). h.user == other) (with_user (record { user = user; slot = slot; condition = Idle }) held) ≡ ((user == other) || list_any (λ (h : HeldUser). h.user == other) held)
any_with user slot other [] = refl
any_with user slot other (g ∷ rest) =
    let h : HeldUser = record { user = user; slot = slot; condition = Idle } in
    let P : Bool → Type 0 = λ b. list_any (λ (h : HeldUser). h.user == other) (cond b (h ∷ g ∷ rest) (g ∷ with_user h rest)) ≡ ((user == other) || list_any (λ (h : HeldUser). h.user == other) (g ∷ rest)) in
    elim (nat_lt user g.user) as P [
      | true ↦ refl
      | false ↦
          ap (λ b. (g.user == other) || b) (any_with user slot other rest)
          ∙ or_swap (g.user == other) (user == other) (list_any (λ (h : HeldUser). h.user == other) rest)
    ]

pub holds_hold : (user slot other : ℕ) (share : Share) → holds other (hold user slot share) ≡ ((user == other) || holds other share)
holds_hold user slot other share = any_with user slot other share.held

-- a condition changes nothing of that
any_put : (user other : ℕ) (condition : Condition) (held : List HeldUser) →
    list_any (λ (h : HeldUser). h.user == other) (map (if_user user condition) held) ≡ list_any (λ (h : HeldUser). h.user == other) held
any_put user other condition [] = refl
any_put user other condition (g ∷ rest) =
    let P : Bool → Type 0 = λ b. (((cond b (record g { condition = condition }) g).user == other) || list_any (λ (h : HeldUser). h.user == other) (map (if_user user condition) rest)) ≡ ((g.user == other) || list_any (λ (h : HeldUser). h.user == other) rest) in
    elim (g.user == user) as P [
      | true ↦ ap (λ b. (g.user == other) || b) (any_put user other condition rest)
      | false ↦ ap (λ b. (g.user == other) || b) (any_put user other condition rest)
    ]

pub holds_put : (user other : ℕ) (condition : Condition) (share : Share) → holds other (put_condition user condition share) ≡ holds other share
holds_put user other condition share = any_put user other condition share.held

-- behind `let_go` the user isn't held, and the others are as they were
any_without : (user other : ℕ) (held : List HeldUser) → other ≢ user →
    list_any (λ (h : HeldUser). h.user == other) (filter (λ (h : HeldUser). not (h.user == user)) held) ≡ list_any (λ (h : HeldUser). h.user == other) held
any_without user other [] apart = refl
any_without user other (g ∷ rest) apart =
    let later = any_without user other rest apart in
    let kept = filter (λ (h : HeldUser). not (h.user == user)) rest in
    let P : Bool → Type 0 = λ b. (g.user == user) ≡ b → list_any (λ (h : HeldUser). h.user == other) (cond (not b) (g ∷ kept) kept) ≡ ((g.user == other) || list_any (λ (h : HeldUser). h.user == other) rest) in
    let same : P (g.user == user) = elim (g.user == user) as P [
      | true ↦ λ e.
          let another : (g.user == other) ≡ false = apart_tests g.user other (λ it. apart (sym it ∙ same_number g.user user e)) in
          rw another later
      | false ↦ λ e. ap (λ b. (g.user == other) || b) later
    ] in same refl

pub holds_let_go : (user other : ℕ) (share : Share) → other ≢ user → holds other (let_go user share) ≡ holds other share
holds_let_go user other share apart = any_without user other share.held apart

any_itself : (user : ℕ) (held : List HeldUser) → list_any (λ (h : HeldUser). h.user == user) (filter (λ (h : HeldUser). not (h.user == user)) held) ≡ false
any_itself user [] = refl
any_itself user (g ∷ rest) =
    let kept = filter (λ (h : HeldUser). not (h.user == user)) rest in
    let P : Bool → Type 0 = λ b. (g.user == user) ≡ b → list_any (λ (h : HeldUser). h.user == user) (cond (not b) (g ∷ kept) kept) ≡ false in
    let none : P (g.user == user) = elim (g.user == user) as P [
      | true ↦ λ e. any_itself user rest
      | false ↦ λ e. rw e (any_itself user rest)
    ] in none refl

pub holds_itself : (user : ℕ) (share : Share) → holds user (let_go user share) ≡ false
holds_itself user share = any_itself user share.held

pub holds_same : (user : ℕ) (a b : Share) → a.held ≡ b.held → holds user a ≡ holds user b
holds_same user a b same = ap (λ held. list_any (λ (h : HeldUser). h.user == user) held) same

-- ---- all shares

same_any : (p : Share → Bool) (n : ℕ) (change : Share → Share) (shares : List Share) → ((share : Share) → p (change share) ≡ p share) →
    list_any p (change_at n change shares) ≡ list_any p shares
same_any p n change [] same = refl
same_any p zero change (x ∷ rest) same = ap (λ b. b || list_any p rest) (same x)
same_any p (suc n) change (x ∷ rest) same = ap (λ b. p x || b) (same_any p n change rest same)

more_any : (p : Share → Bool) (n : ℕ) (change : Share → Share) (a : Bool) (share : Share) (shares : List Share) → slice_get shares n ≡ Some share →
    ((x : Share) → p (change x) ≡ (a || p x)) → list_any p (change_at n change shares) ≡ (a || list_any p shares)
more_any p n change a share [] at more = absurd (cc)
more_any p zero change a share (x ∷ rest) at more = ap (λ b. b || list_any p rest) (more x) ∙ or_along a (p x) (list_any p rest)
more_any p (suc n) change a share (x ∷ rest) at more =
    ap (λ b. p x || b) (more_any p n change a share rest at more) ∙ or_swap (p x) a (list_any p rest)

pub held_same : (state : State) (n : ℕ) (change : Share → Share) (user : ℕ) → ((share : Share) → holds user (change share) ≡ holds user share) →
    is_held (change_share state n change) user ≡ is_held state user
held_same state n change user same = same_any (holds user) n change state.shares same

pub held_hold : (state : State) (n user slot other : ℕ) (share : Share) → slice_get state.shares n ≡ Some share →
    is_held (change_share state n (hold user slot)) other ≡ ((user == other) || is_held state other)
held_hold state n user slot other share at = more_any (holds other) n (hold user slot) (user == other) share state.shares at (holds_hold user slot other)

-- who is held, is held at least once
holds_times : (user : ℕ) (share : Share) → holds user share ≡ true → 1 ≤ times_among user share.held
holds_times user share h =
    let found = In-from_any (λ (g : HeldUser). g.user == user) share.held h in
    among_there user found.0 found.1 found.2

pub any_times : (user : ℕ) (shares : List Share) → list_any (holds user) shares ≡ true → 1 ≤ times_held user shares
any_times user [] h = absurd (cc)
any_times user (x ∷ rest) h =
    let P : Bool → Type 0 = λ b. holds user x ≡ b → (b || list_any (holds user) rest) ≡ true → 1 ≤ times_among user x.held + times_held user rest in
    let some : P (holds user x) = elim (holds user x) as P [
      | true ↦ λ e any. let now = holds_times user x e in omega arith
      | false ↦ λ e any. let later = any_times user rest any in omega arith
    ] in some refl h

pub among_held : (user n : ℕ) (share : Share) (shares : List Share) → slice_get shares n ≡ Some share → times_among user share.held ≤ times_held user shares
among_held user n share [] at = absurd (cc)
among_held user zero share (x ∷ rest) at =
    let same : x ≡ share = cc in
    let times = ap (λ (s : Share). times_among user s.held) same in
    omega arith
among_held user (suc n) share (x ∷ rest) at = let later = among_held user n share rest at in omega arith

-- a user that is held once, and is let go, is held by nobody
none_after : (user n : ℕ) (share : Share) (shares : List Share) → slice_get shares n ≡ Some share → holds user share ≡ true → times_held user shares ≤ 1 →
    list_any (holds user) (change_at n (let_go user) shares) ≡ false
none_after user n share [] at held once = absurd (cc)
none_after user zero share (x ∷ rest) at held once =
    let same : x ≡ share = cc in
    let now = holds_times user x (subst (λ s. holds user s ≡ true) (sym same) held) in
    let others : list_any (holds user) rest ≡ false = false_unless (list_any (holds user) rest) (λ any. let more = any_times user rest any in absurd (omega arith)) in
    rw (holds_itself user x) others
none_after user (suc n) share (x ∷ rest) at held once =
    let later = among_held user n share rest at in
    let some = holds_times user share held in
    let first : holds user x ≡ false = false_unless (holds user x) (λ e. let now = holds_times user x e in absurd (omega arith)) in
    rw first (none_after user n share rest at held (omega arith))

pub held_let_go : (state : State) (n user : ℕ) (share : Share) → slice_get state.shares n ≡ Some share → holds user share ≡ true → times_held user state.shares ≤ 1 →
    is_held (change_share state n (let_go user)) user ≡ false
held_let_go state n user share at held once = none_after user n share state.shares at held once

held_commanded : (t user : ℕ) (shares : List Share) → list_any (holds user) (map (stop_commanded_share t) shares) ≡ list_any (holds user) shares
held_commanded t user [] = refl
held_commanded t user (x ∷ rest) =
    ap (λ b. b || list_any (holds user) (map (stop_commanded_share t) rest)) (holds_same user (stop_commanded_share t x) x (held_stop t x))
    ∙ ap (λ b. holds user x || b) (held_commanded t user rest)

pub held_command : (state : State) (command : Command) (t user : ℕ) → is_held (after_command state command t) user ≡ is_held state user
held_command state commands.Stop t user = held_commanded t user state.shares
held_command state (commands.Pause b) t user = refl
held_command state (commands.Vus n) t user = refl
held_command state (commands.VusMax n) t user = refl

pub held_end : (plan : Plan) (n item user : ℕ) (state : State) → is_held (end_item_of plan n item state) user ≡ is_held state user
held_end plan n item user state =
    let P : Option Part → Type 0 = λ o. is_held (option_map_or (λ part. change_share state n (end_item part item)) o state) user ≡ is_held state user in
    elim (slice_get plan.parts n) as P [
      | None ↦ refl
      | Some part ↦ held_same state n (end_item part item) user (λ share. holds_same user (end_item part item share) share (held_end_item part item share))
    ]

-- ---- free users

pub range_in : (x a n : ℕ) → In x (range_with_len a n) → (a ≤ x) × (x < a + n)
range_in x a zero h = absurd (nothing_in h)
range_in x a (suc n) here = (omega arith, omega arith)
range_in x a (suc n) (there more) =
    let later = range_in x (a + 1) n more in
    let from : a + 1 ≤ x = later.0 in
    let to : x < (a + 1) + n = later.1 in
    (omega arith, omega arith)

in_range : (x a n : ℕ) → a ≤ x → x < a + n → In x (range_with_len a n)
in_range x a zero from to = absurd (omega arith)
in_range x a (suc n) from to =
    let P : Bool → Type 0 = λ b. (a == x) ≡ b → In x (a ∷ range_with_len (a + 1) n) in
    let found : P (a == x) = elim (a == x) as P [
      | true ↦ λ e. subst (λ z. In z (a ∷ range_with_len (a + 1) n)) (same_number a x e) here
      | false ↦ λ e. let another : a ≢ x = (λ it. true≢false (sym (subst (λ z. (a == z) ≡ true) it (number_itself a)) ∙ e)) in there (in_range x (a + 1) n (omega arith) (omega arith))
    ] in found refl

pub free_tells_all : (state : State) (user : ℕ) → Contains (free_users state) user → (1 ≤ user) × (user ≤ state.made) × (is_held state user ≡ false)
free_tells_all state user h =
    let kept = In-filter (λ u. not (is_held state u)) user (range_with_len 1 state.made) (In-of h) in
    let within = range_in user 1 state.made kept.0 in
    let to : user < 1 + state.made = within.1 in
    (within.0, omega arith, is_not (is_held state user) kept.1)

pub free_is : (state : State) (user : ℕ) → (1 ≤ user) × (user ≤ state.made) × (is_held state user ≡ false) → Contains (free_users state) user
free_is state user h =
    let to : user ≤ state.made = h.1 in
    Contains-from_In user (filter-In (λ u. not (is_held state u)) user (in_range user 1 state.made h.0 (omega arith)) (rw h.2 refl))

filter_alike : {A : Type 0} (p q : A → Bool) (xs : List A) → ((x : A) → In x xs → p x ≡ q x) → filter p xs ≡ filter q xs
filter_alike p q [] same = refl
filter_alike p q (x ∷ xs) same = rw (same x here, filter_alike p q xs (λ y at. same y (there at))) refl

-- where as many are made and the same are held, the same are free
pub free_same : (a b : State) → a.made ≡ b.made → ((user : ℕ) → is_held a user ≡ is_held b user) → free_users a ≡ free_users b
free_same a b made same =
    filter_alike (λ u. not (is_held a u)) (λ u. not (is_held b u)) (range_with_len 1 a.made) (λ u at. ap not (same u))
    ∙ ap (λ n. filter (λ u. not (is_held b u)) (range_with_len 1 n)) made

range_last : (a n : ℕ) → range_with_len a (suc n) ≡ range_with_len a n ++ (a + n) ∷ []
range_last a zero = let e : a ≡ a + 0 = omega arith in ap (λ x. x ∷ []) e
range_last a (suc n) =
    let e : (a + 1) + n ≡ a + suc n = omega arith in
    ap (λ xs. a ∷ xs) (range_last (a + 1) n ∙ ap (λ x. range_with_len (a + 1) n ++ x ∷ []) e)

-- ---- acts

pub apart_from : (a b : ℕ) → (a == b) ≡ false → b ≢ a
apart_from a b e same = grind (arith, common_steps)

module _ (plan : Plan) (state : State) (thread t n : ℕ) where
  pub take_free : (user slot other : ℕ) (share : Share) → slice_get state.shares n ≡ Some share →
      Contains (free_users (after_act plan state thread t (Take n user slot))) other ↔ (Contains (free_users state) other × (other ≢ user))
  take_free user slot other share at =
      let after = change_share state n (hold user slot) in
      let held = held_hold state n user slot other share at in (
        λ h.
            let told = free_tells_all after other h in
            let none = or_parts (user == other) (is_held state other) (sym held ∙ told.2) in
            (free_is state other (told.0, told.1, none.1), apart_from user other none.0),
        λ h.
            let told = free_tells_all state other h.0 in
            let another : (user == other) ≡ false = apart_tests user other (λ e. h.1 (sym e)) in
            let none : is_held after other ≡ false = held ∙ rw another told.2 in
            free_is after other (told.0, told.1, none),
      )

  pub grow_free : (user slot : ℕ) (share : Share) → slice_get state.shares n ≡ Some share → user ≡ state.made + 1 →
      free_users (after_act plan state thread t (Grow n user slot)) ≡ free_users state
  grow_free user slot share at next =
      let after = change_share (record state { made = state.made + 1 }) n (hold user slot) in
      let held : (other : ℕ) → is_held after other ≡ ((user == other) || is_held state other) = λ other. held_hold (record state { made = state.made + 1 }) n user slot other share at in
      let one_more : state.made + 1 ≡ suc state.made = omega arith in
      let itself : user ≡ 1 + state.made = omega arith in
      let is_it : (user == (1 + state.made)) ≡ true = subst (λ u. (user == u) ≡ true) itself (number_itself user) in
      let last : is_held after (1 + state.made) ≡ true = held (1 + state.made) ∙ rw is_it refl in
      let none_last : filter (λ u. not (is_held after u)) ((1 + state.made) ∷ []) ≡ [] = rw last refl in
      let before : filter (λ u. not (is_held after u)) (range_with_len 1 state.made) ≡ free_users state =
      filter_alike (λ u. not (is_held after u)) (λ u. not (is_held state u)) (range_with_len 1 state.made)
      (λ u at_u.
      let within = range_in u 1 state.made at_u in
      let below : u < 1 + state.made = within.1 in
      let another : (user == u) ≡ false = apart_tests user u (λ e. absurd (omega arith)) in
      ap not (held u ∙ rw another refl)) in
      ap (λ k. filter (λ u. not (is_held after u)) (range_with_len 1 k)) one_more
      ∙ ap (λ us. filter (λ u. not (is_held after u)) us) (range_last 1 state.made)
      ∙ filter-append (λ u. not (is_held after u)) (range_with_len 1 state.made) ((1 + state.made) ∷ [])
      ∙ ap (λ us. filter (λ u. not (is_held after u)) (range_with_len 1 state.made) ++ us) none_last
      ∙ append-nil (filter (λ u. not (is_held after u)) (range_with_len 1 state.made))
      ∙ before

  pub release_free : (user other : ℕ) (share : Share) → slice_get state.shares n ≡ Some share → holds user share ≡ true → times_held user state.shares ≤ 1 →
      1 ≤ user → user ≤ state.made →
      Contains (free_users (after_act plan state thread t (Release n user))) other ↔ (Contains (free_users state) other ⊎ (other ≡ user))
  release_free user other share at held once from made =
      let after = change_share state n (let_go user) in
      let itself = held_let_go state n user share at held once in
      let apart : other ≢ user → is_held after other ≡ is_held state other = λ e. held_same state n (let_go user) other (λ s. holds_let_go user other s e) in
      let P : Bool → Type 0 = λ b. (other == user) ≡ b → Contains (free_users after) other ↔ (Contains (free_users state) other ⊎ (other ≡ user)) in
      let told : P (other == user) = elim (other == user) as P [
        | true ↦ λ e.
            let same : other ≡ user = same_number other user e in
            let free : Contains (free_users after) user = free_is after user (from, made, itself) in
            (λ h. inr same, λ h. subst (λ u. Contains (free_users after) u) (sym same) free)
        | false ↦ λ e.
            let another : other ≢ user = λ it. apart_from other user e (sym it) in (
              λ h.
                  let facts = free_tells_all after other h in
                  inl (free_is state other (facts.0, facts.1, sym (apart another) ∙ facts.2)),
              λ h. elim h [
                | inl free ↦ let facts = free_tells_all state other free in free_is after other (facts.0, facts.1, apart another ∙ facts.2)
                | inr it ↦ absurd (another it)
              ],
            )
      ] in told refl

  pub start_free : (user item until : ℕ) → free_users (after_act plan state thread t (Start n user item until)) ≡ free_users state
  start_free user item until =
      let changed = change_share state n (put_condition user (Busy thread item until)) in
      free_same (end_item_of plan n item changed) state (made_end n item changed)
      (λ other. held_end plan n item other changed ∙ held_same state n (put_condition user (Busy thread item until)) other (holds_put user other (Busy thread item until)))
    where
      made_end : (n item : ℕ) (state : State) → (end_item_of plan n item state).made ≡ state.made
      made_end n item state =
          let P : Option Part → Type 0 = λ o. (option_map_or (λ part. change_share state n (end_item part item)) o state).made ≡ state.made in
          elim (slice_get plan.parts n) as P [ None ↦ refl | Some part ↦ refl ]

  pub end_free : (item : ℕ) → free_users (end_item_of plan n item state) ≡ free_users state
  end_free item = free_same (end_item_of plan n item state) state made_end (λ other. held_end plan n item other state)
    where
      made_end : (end_item_of plan n item state).made ≡ state.made
      made_end =
          let P : Option Part → Type 0 = λ o. (option_map_or (λ part. change_share state n (end_item part item)) o state).made ≡ state.made in
          elim (slice_get plan.parts n) as P [ None ↦ refl | Some part ↦ refl ]

  pub return_free : (user item : ℕ) (outcome : Outcome) (tally : TallyView) → free_users (after_act plan state thread t (Return n user item outcome tally)) ≡ free_users state
  return_free user item outcome tally =
      free_same (after_act plan state thread t (Return n user item outcome tally)) state refl
      (λ other. held_same (record state { samples = state.samples + length tally.samples }) n (put_condition user Idle) other (holds_put user other Idle))

  pub stop_free : free_users (after_act plan state thread t (Stop n)) ≡ free_users state
  stop_free = free_same (after_act plan state thread t (Stop n)) state refl (λ other. held_same state n (λ share. record share { level = Halted }) other (λ share. refl))

  pub close_free : free_users (after_act plan state thread t (Close n)) ≡ free_users state
  close_free = free_same (after_act plan state thread t (Close n)) state refl (λ other. held_same state n (λ share. record share { closed = true }) other (λ share. refl))

made_command : (state : State) (command : Command) (t : ℕ) → (after_command state command t).made ≡ state.made
made_command state commands.Stop t = refl
made_command state (commands.Pause b) t = refl
made_command state (commands.Vus n) t = refl
made_command state (commands.VusMax n) t = refl

pub command_free : (state : State) (command : Command) (t : ℕ) → free_users (after_command state command t) ≡ free_users state
command_free state command t = free_same (after_command state command t) state (made_command state command t) (held_command state command t)
