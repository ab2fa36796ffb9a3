-- Who holds whom: what the holder of a user is, and who holds whom behind each act.
use Rattle.std.proofs.Common.{Contains, ◌≡◌, ◌↔◌, ◌≤◌, ◌+◌, ◌==◌, ◌∙◌, ℕ, zero, suc, Bool, true, false, not, cond, ◌||◌, nat_lt, List, [], ◌∷◌, ◌++◌, Option, None, Some, map, filter, find, flat_map, arith, refl, sym, ap, subst, slice_get}
use Rattle.std.specs.Option.{option_map_or, option_or}
use Rattle.std.specs.List.{list_any, enumerate_from}
use Rattle.std.proofs.lemmas.List.Folds.{find-append, list_any-append}
use Rattle.ld_base.specs.declared.command.Command.{Command}
use Rattle.ld_base.specs.declared.command.Command.TheVariants as commands
use Rattle.ld_machine.specs.Plan.{Part, Plan}
use Rattle.ld_machine.specs.State.{Halted, Condition, Idle, HeldUser, Share, State, is_held, times_held}
use Rattle.ld_machine.specs.Commands.{stop_commanded_share, after_command}
use Rattle.ld_machine.specs.Effect.{with_user, if_user, hold, put_condition, let_go, end_item, change_at, change_share, end_item_of}
use Rattle.ld_machine.specs.Together.{holds, WellHeld}
use Rattle.ld_machine.specs.Holders.{held_by, all_held, holder_of}
use Rattle.ld_machine.proofs.ListLemmas.{In, In-map, map-In, In-flat_map, In-enumerate, Contains-from_In, found_in, any-from_In}
use Rattle.ld_machine.proofs.WaitLemmas.{flat_map-In}
use Rattle.ld_machine.proofs.HolderLemmas.{hit, times-with_user, times-if_user, times-change, none_held}
use Rattle.ld_machine.proofs.FirstOfAllLemmas.{In-of, enumerate-In}
use Rattle.ld_machine.proofs.BusyLemmas.{same_number, held_end_item, held_stop}
use Rattle.ld_machine.proofs.FreeLemmas.{apart_tests, apart_from, held_let_go}
use Rattle.ld_machine.proofs.PlayingLemmas.{two_same, user_passes}
use Rattle.ld_machine.proofs.BusyStepLemmas.{change_stands, with_there, hit_itself}
use Rattle.ld_machine.proofs.WhoIsBusyLemmas.{found_some}

-- what is held is of this user
abbrev of_user : ℕ → ℕ × HeldUser → Bool
of_user user p = p.1.user == user

-- whom these shares hold, the first of them numbered k
abbrev held_from : ℕ → List Share → List (ℕ × HeldUser)
held_from k shares = flat_map (λ (q : ℕ × Share). held_by q.0 q.1) (enumerate_from k shares)

-- ---- the holder of a user

-- what is held at all is held by the share of that number
held_there : (state : State) (p : ℕ × HeldUser) → In p (all_held state) →
    (share : Share) × (slice_get state.shares p.0 ≡ Some share) × In p.1 share.held
held_there state p h =
    let found = In-flat_map (λ (q : ℕ × Share). held_by q.0 q.1) p (enumerate_from 0 state.shares) h in
    let at = In-enumerate 0 found.0 state.shares found.1 in
    let of = In-map (λ (g : HeldUser). (found.0.0, g)) p found.0.1.held found.2 in
    let number : found.0.0 ≡ p.0 = ap (λ (q : ℕ × HeldUser). q.0) of.2 in
    let holder : of.0 ≡ p.1 = ap (λ (q : ℕ × HeldUser). q.1) of.2 in
    let place : at.1.0 ≡ p.0 = let e : found.0.0 ≡ 0 + at.1.0 = at.1.1 in omega arith in
    (found.0.1, subst (λ n. slice_get state.shares n ≡ Some found.0.1) place at.1.2, subst (λ (g : HeldUser). In g found.0.1.held) holder of.1)

-- and the other way round
there_held : (state : State) (n : ℕ) (share : Share) (h : HeldUser) → slice_get state.shares n ≡ Some share → In h share.held →
    In (n, h) (all_held state)
there_held state n share h stands held =
    let place : 0 + n ≡ n = omega arith in
    flat_map-In (λ (q : ℕ × Share). held_by q.0 q.1) (n, share) (n, h)
    (subst (λ k. In (k, share) (enumerate_from 0 state.shares)) place (enumerate-In 0 n share state.shares stands))
    (map-In (λ (g : HeldUser). (n, g)) h held)

-- a holder's share has the user, as the holder has it
holder_tells : (state : State) (user n : ℕ) (h : HeldUser) → holder_of state user ≡ Some (n, h) →
    (share : Share) × (slice_get state.shares n ≡ Some share) × In h share.held × (h.user ≡ user)
holder_tells state user n h e =
    let found = found_in (of_user user) (n, h) (all_held state) e in
    let at = held_there state (n, h) found.0 in
    (at.0, at.1, at.2, same_number h.user user found.1)

-- where a user is held once, a share that has it is the holder's
holder_is : (state : State) (user n : ℕ) (h : HeldUser) (share : Share) → times_held user state.shares ≤ 1 →
    slice_get state.shares n ≡ Some share → In h share.held → h.user ≡ user → holder_of state user ≡ Some (n, h)
holder_is state user n h share once stands held same =
    let found = found_some (of_user user) (n, h) (there_held state n share h stands held) (user_passes h.user user same) in
    let other = found_in (of_user user) found.0 (all_held state) found.1 in
    let at = held_there state found.0 other.0 in
    let one = two_same user found.0.1 h at.0 share found.0.0 n state.shares once at.1 stands at.2 held other.1 (user_passes h.user user same) in
    found.1 ∙ ap (λ k. Some (k, found.0.1)) one.0 ∙ ap (λ g. Some (n, g)) one.1

pub holder_in_share : (state : State) (user n : ℕ) (h : HeldUser) → WellHeld state → (holder_of state user ≡ Some (n, h))
    ↔ ((share : Share) × (slice_get state.shares n ≡ Some share) × Contains share.held h × (h.user ≡ user))
holder_in_share state user n h well = (
  λ e. let told = holder_tells state user n h e in (told.0, told.1, Contains-from_In h told.2, told.3),
  λ at. holder_is state user n h at.0 (well user).0 at.1 (In-of at.2) at.3,
)

-- the tests whether a user is held are one
any_by : (user n : ℕ) (held : List HeldUser) →
    list_any (of_user user) (map (λ (h : HeldUser). (n, h)) held) ≡ list_any (λ (h : HeldUser). h.user == user) held
any_by user n [] = refl
any_by user n (g ∷ rest) = ap (λ b. (g.user == user) || b) (any_by user n rest)

any_from : (user k : ℕ) (shares : List Share) → list_any (of_user user) (held_from k shares) ≡ list_any (holds user) shares
any_from user k [] = refl
any_from user k (share ∷ rest) =
    list_any-append (of_user user) (held_by k share) (held_from (k + 1) rest)
    ∙ rw (any_by user k share.held, any_from user (k + 1) rest) refl

-- a search finds nothing exactly where no element passes
none_found : {A : Type 0} (p : A → Bool) (xs : List A) → (find p xs ≡ None) ↔ (list_any p xs ≡ false)
none_found p [] = (λ e. refl, λ e. refl)
none_found {A} p (x ∷ xs) =
    let P : Bool → Type 0 = λ b. (cond {A = Option A} b (Some x) (find p xs) ≡ None) ↔ ((b || list_any p xs) ≡ false) in
    elim (p x) as P [ true ↦ (λ e. absurd (cc), λ e. absurd (cc)) | false ↦ none_found p xs ]

-- a user has no holder exactly where no share holds it
pub no_holder : (state : State) (user : ℕ) → (holder_of state user ≡ None) ↔ (is_held state user ≡ false)
no_holder state user =
    let any = any_from user 0 state.shares in
    let none = none_found (of_user user) (all_held state) in
    (λ e. sym any ∙ none.0 e, λ e. none.1 (any ∙ e))

-- ---- a user apart from that of an act

-- one user more, a condition and one user less leave what is found of another user
find_with : (user slot other k : ℕ) (held : List HeldUser) → (user == other) ≡ false →
    find (of_user other) (map (λ (h : HeldUser). (k, h)) (with_user (record { user = user; slot = slot; condition = Idle }) held))
    ≡ find (of_user other) (map (λ (h : HeldUser). (k, h)) held)
find_with user slot other k [] apart = rw apart refl
find_with user slot other k (g ∷ rest) apart =
    let h : HeldUser = record { user = user; slot = slot; condition = Idle } in
    let P : Bool → Type 0 = λ b. find (of_user other) (map (λ (h : HeldUser). (k, h)) (cond b (h ∷ g ∷ rest) (g ∷ with_user h rest)))
    ≡ find (of_user other) (map (λ (h : HeldUser). (k, h)) (g ∷ rest)) in
    elim (nat_lt user g.user) as P [
      | true ↦ rw apart refl
      | false ↦ ap (λ (o : Option (ℕ × HeldUser)). cond (g.user == other) (Some (k, g)) o) (find_with user slot other k rest apart)
    ]

-- a user of this number isn't the other one
is_apart : (user other one : ℕ) → (one == user) ≡ true → (user == other) ≡ false → (one == other) ≡ false
is_apart user other one e apart = subst (λ u. (u == other) ≡ false) (sym (same_number one user e)) apart

find_put : (user other k : ℕ) (condition : Condition) (held : List HeldUser) → (user == other) ≡ false →
    find (of_user other) (map (λ (h : HeldUser). (k, h)) (map (if_user user condition) held)) ≡ find (of_user other) (map (λ (h : HeldUser). (k, h)) held)
find_put user other k condition [] apart = refl
find_put user other k condition (g ∷ rest) apart =
    let later = find_put user other k condition rest apart in
    let back = find (of_user other) (map (λ (h : HeldUser). (k, h)) (map (if_user user condition) rest)) in
    let P : Bool → Type 0 = λ b. (g.user == user) ≡ b →
    cond ((cond b (record g { condition = condition }) g).user == other) (Some (k, cond b (record g { condition = condition }) g)) back
    ≡ find (of_user other) (map (λ (h : HeldUser). (k, h)) (g ∷ rest)) in
    let same : P (g.user == user) = elim (g.user == user) as P [
      | true ↦ λ e. rw (is_apart user other g.user e apart) later
      | false ↦ λ e. ap (λ (o : Option (ℕ × HeldUser)). cond (g.user == other) (Some (k, g)) o) later
    ] in same refl

find_without : (user other k : ℕ) (held : List HeldUser) → (user == other) ≡ false →
    find (of_user other) (map (λ (h : HeldUser). (k, h)) (filter (λ (h : HeldUser). not (h.user == user)) held))
    ≡ find (of_user other) (map (λ (h : HeldUser). (k, h)) held)
find_without user other k [] apart = refl
find_without user other k (g ∷ rest) apart =
    let later = find_without user other k rest apart in
    let kept = filter (λ (h : HeldUser). not (h.user == user)) rest in
    let P : Bool → Type 0 = λ b. (g.user == user) ≡ b →
    find (of_user other) (map (λ (h : HeldUser). (k, h)) (cond (not b) (g ∷ kept) kept)) ≡ find (of_user other) (map (λ (h : HeldUser). (k, h)) (g ∷ rest)) in
    let same : P (g.user == user) = elim (g.user == user) as P [
      | true ↦ λ e. rw (is_apart user other g.user e apart) later
      | false ↦ λ e. ap (λ (o : Option (ℕ × HeldUser)). cond (g.user == other) (Some (k, g)) o) later
    ] in same refl

-- so does a change of one share that leaves it in each share
find_from : (other k n : ℕ) (change : Share → Share) (shares : List Share) →
    ((m : ℕ) (share : Share) → find (of_user other) (held_by m (change share)) ≡ find (of_user other) (held_by m share)) →
    find (of_user other) (held_from k (change_at n change shares)) ≡ find (of_user other) (held_from k shares)
find_from other k n change [] same = refl
find_from other k zero change (x ∷ rest) same =
    find-append (of_user other) (held_by k (change x)) (held_from (k + 1) rest)
    ∙ ap (λ (o : Option (ℕ × HeldUser)). option_or o (find (of_user other) (held_from (k + 1) rest))) (same k x)
    ∙ sym (find-append (of_user other) (held_by k x) (held_from (k + 1) rest))
find_from other k (suc n) change (x ∷ rest) same =
    find-append (of_user other) (held_by k x) (held_from (k + 1) (change_at n change rest))
    ∙ ap (λ (o : Option (ℕ × HeldUser)). option_or (find (of_user other) (held_by k x)) o) (find_from other (k + 1) n change rest same)
    ∙ sym (find-append (of_user other) (held_by k x) (held_from (k + 1) rest))

-- ---- where all users stay held as they are

holder_same : (state : State) (n : ℕ) (change : Share → Share) (other : ℕ) → ((share : Share) → (change share).held ≡ share.held) →
    holder_of (change_share state n change) other ≡ holder_of state other
holder_same state n change other same =
    find_from other 0 n change state.shares (λ m share. ap (λ held. find (of_user other) (map (λ (h : HeldUser). (m, h)) held)) (same share))

pub holder_end : (plan : Plan) (n item : ℕ) (state : State) (other : ℕ) → holder_of (end_item_of plan n item state) other ≡ holder_of state other
holder_end plan n item state other =
    let P : Option Part → Type 0 = λ o. holder_of (option_map_or (λ part. change_share state n (end_item part item)) o state) other ≡ holder_of state other in
    elim (slice_get plan.parts n) as P [
      | None ↦ refl
      | Some part ↦ holder_same state n (end_item part item) other (held_end_item part item)
    ]

held_commanded : (t k : ℕ) (shares : List Share) → held_from k (map (stop_commanded_share t) shares) ≡ held_from k shares
held_commanded t k [] = refl
held_commanded t k (x ∷ rest) =
    ap (λ held. map (λ (h : HeldUser). (k, h)) held ++ held_from (k + 1) (map (stop_commanded_share t) rest)) (held_stop t x)
    ∙ ap (λ those. held_by k x ++ those) (held_commanded t (k + 1) rest)

pub holder_command : (state : State) (command : Command) (t other : ℕ) → holder_of (after_command state command t) other ≡ holder_of state other
holder_command state commands.Stop t other = ap (λ those. find (of_user other) those) (held_commanded t 0 state.shares)
holder_command state (commands.Pause b) t other = refl
holder_command state (commands.Vus n) t other = refl
holder_command state (commands.VusMax n) t other = refl

pub holder_stop : (state : State) (n other : ℕ) → holder_of (change_share state n (λ share. record share { level = Halted })) other ≡ holder_of state other
holder_stop state n other = holder_same state n (λ share. record share { level = Halted }) other (λ share. refl)

pub holder_close : (state : State) (n other : ℕ) → holder_of (change_share state n (λ share. record share { closed = true })) other ≡ holder_of state other
holder_close state n other = holder_same state n (λ share. record share { closed = true }) other (λ share. refl)

-- ---- the user of an act, and the others

-- what is found of one user and of the others
by_user : (before after : State) (user other : ℕ) (found : Option (ℕ × HeldUser)) → holder_of after user ≡ found →
    ((user == other) ≡ false → holder_of after other ≡ holder_of before other) →
    holder_of after other ≡ cond (other == user) found (holder_of before other)
by_user before after user other found itself others =
    let P : Bool → Type 0 = λ b. (other == user) ≡ b → holder_of after other ≡ cond b found (holder_of before other) in
    let both : P (other == user) = elim (other == user) as P [
      | true ↦ λ e. subst (λ u. holder_of after u ≡ found) (sym (same_number other user e)) itself
      | false ↦ λ e. others (apart_tests user other (apart_from other user e))
    ] in both refl

-- a user of a list is in it under a new condition
put_there : (user : ℕ) (condition : Condition) (h : HeldUser) (held : List HeldUser) → In h held → h.user ≡ user →
    In (record h { condition = condition }) (map (if_user user condition) held)
put_there user condition h held at same =
    let it : if_user user condition h ≡ record h { condition = condition } = rw (user_passes h.user user same) refl in
    subst (λ (g : HeldUser). In g (map (if_user user condition) held)) it (map-In (if_user user condition) h at)

module _ (state : State) (n : ℕ) where
  -- behind `hold` the user is held, idle on the slot
  pub holder_hold : (user slot other : ℕ) (share : Share) → slice_get state.shares n ≡ Some share → is_held state user ≡ false →
      holder_of (change_share state n (hold user slot)) other
      ≡ cond (other == user) (Some (n, record { user = user; slot = slot; condition = Idle })) (holder_of state other)
  holder_hold user slot other share stands nobody =
      let h : HeldUser = record { user = user; slot = slot; condition = Idle } in
      let after = change_share state n (hold user slot) in
      let none = none_held user state.shares nobody in
      let one = hit_itself user in
      let bound = times-change user (hit user user) n (hold user slot) state.shares (λ x. let more = times-with_user user h x.held in omega arith) in
      let behind = change_stands n (hold user slot) share state.shares stands in
      let itself = holder_is after user n h (hold user slot share) (omega arith) behind (with_there h share.held) refl in
      by_user state after user other (Some (n, h)) itself
      (λ apart. find_from other 0 n (hold user slot) state.shares (λ m x. find_with user slot other m x.held apart))

  -- behind `put_condition` other users are held as they were
  put_others : (user other : ℕ) (condition : Condition) → (user == other) ≡ false →
      holder_of (change_share state n (put_condition user condition)) other ≡ holder_of state other
  put_others user other condition apart =
      find_from other 0 n (put_condition user condition) state.shares (λ m x. find_put user other m condition x.held apart)

module _ (state : State) (n : ℕ) (well : WellHeld state) where
  -- and this one is held under the new condition
  put_itself : (user : ℕ) (condition : Condition) (h : HeldUser) → holder_of state user ≡ Some (n, h) →
      holder_of (change_share state n (put_condition user condition)) user ≡ Some (n, record h { condition = condition })
  put_itself user condition h e =
      let change = put_condition user condition in
      let told = holder_tells state user n h e in
      let once : times_held user state.shares ≤ 1 = (well user).0 in
      let bound = times-change user 0 n change state.shares (λ x. let same = times-if_user user user condition x.held in omega arith) in
      holder_is (change_share state n change) user n (record h { condition = condition }) (change told.0) (omega arith)
      (change_stands n change told.0 state.shares told.1) (put_there user condition h told.0.held told.2 told.3) told.3

  pub holder_put : (user other : ℕ) (condition : Condition) (h : HeldUser) → holder_of state user ≡ Some (n, h) →
      holder_of (change_share state n (put_condition user condition)) other
      ≡ cond (other == user) (Some (n, record h { condition = condition })) (holder_of state other)
  holder_put user other condition h e =
      by_user state (change_share state n (put_condition user condition)) user other (Some (n, record h { condition = condition }))
      (put_itself user condition h e) (put_others state n user other condition)

  -- behind `let_go` nobody holds the user
  pub holder_let_go : (user other : ℕ) (h : HeldUser) → holder_of state user ≡ Some (n, h) →
      holder_of (change_share state n (let_go user)) other ≡ cond (other == user) None (holder_of state other)
  holder_let_go user other h e =
      let after = change_share state n (let_go user) in
      let told = holder_tells state user n h e in
      let held : holds user told.0 ≡ true = any-from_In (λ (g : HeldUser). g.user == user) h told.2 (user_passes h.user user told.3) in
      by_user state after user other None ((no_holder after user).1 (held_let_go state n user told.0 told.1 held (well user).0))
      (λ apart. find_from other 0 n (let_go user) state.shares (λ m x. find_without user other m x.held apart))
