-- A user is busy with the stint of it that is out.
use Rattle.std.proofs.Common.{Contains, ◌≡◌, ◌↔◌, ◌+◌, ◌==◌, ◌≤◌, ◌∙◌, ℕ, Bool, true, false, cond, List, Option, None, Some, find, filter_map, arith, refl, sym, ap, subst, slice_get}
use Rattle.std.specs.Option.{option_map_or}
use Rattle.std.specs.List.{list_any, enumerate_from, cons_option}
use Rattle.std.proofs.lemmas.Bool.{true≢false}
use Rattle.ld_base.specs.Stint.{StintView, stint_of}
use Rattle.ld_machine.specs.State.{Condition, Idle, Busy, HeldUser, Share, State, is_busy_condition, is_busy, times_held}
use Rattle.ld_machine.specs.Step.{is_busy_with, is_out}
use Rattle.ld_machine.specs.Busy.{stint_under, stints_in, stints_out, busy_of}
use Rattle.ld_machine.specs.Together.{WellHeld}
use Rattle.ld_machine.proofs.ListLemmas.{In, here, there, any-from_In, In-flat_map, In-filter_map, In-enumerate, Contains-from_In, found_in, some_not_none}
use Rattle.ld_machine.proofs.WaitLemmas.{flat_map-In}
use Rattle.ld_machine.proofs.FirstOfAllLemmas.{In-of, enumerate-In, false_unless}
use Rattle.ld_machine.proofs.BusyLemmas.{same_number}
use Rattle.ld_machine.proofs.PlayingLemmas.{is_under, held_as, two_same, user_passes, same_busy, busy_itself}

-- ---- lists

-- what a filter makes of an element is an element of what it makes of all
filter_map-In : {A B : Type 0} (f : A → Option B) (x : A) (y : B) {xs : List A} → In x xs → f x ≡ Some y → In y (filter_map f xs)
filter_map-In f x y here e = rw e here
filter_map-In {A} {B} f x y (there {y = z} {xs = xs} more) e =
    let P : Option B → Type 0 = λ o. In y (cons_option o (filter_map f xs)) in
    elim (f z) as P [ None ↦ filter_map-In f x y more e | Some w ↦ there (filter_map-In f x y more e) ]

-- a search finds something where some element passes
pub found_some : {A : Type 0} (p : A → Bool) (x : A) {xs : List A} → In x xs → p x ≡ true → (y : A) × (find p xs ≡ Some y)
found_some p x here passes = (x, rw passes refl)
found_some {A} p x (there {y = z} {xs = xs} more) passes =
    let P : Bool → Type 0 = λ b. (y : A) × (cond b (Some z) (find p xs) ≡ Some y) in
    elim (p z) as P [ true ↦ (z, refl) | false ↦ found_some p x more passes ]

-- ---- the stint of a held user

-- what the stint of a user is of
under_tells : (n user : ℕ) (c : Condition) (p : ℕ × StintView) → stint_under n user c ≡ Some p →
    (p.1.scenario ≡ n) × (p.1.user ≡ user) × (is_busy_with c p.0 p.1.item p.1.until ≡ true)
under_tells n user Idle p e = absurd (cc)
under_tells n user (Busy thread item until) p e =
    let same : (thread, stint_of n user item until) ≡ p = cc in
    subst (λ (q : ℕ × StintView). (q.1.scenario ≡ n) × (q.1.user ≡ user) × (is_busy_with (Busy thread item until) q.0 q.1.item q.1.until ≡ true)) same
    (refl, refl, busy_itself thread item until)

-- a user under such a condition has this stint
under_busy : (n user : ℕ) (c : Condition) (thread item until : ℕ) → is_busy_with c thread item until ≡ true →
    stint_under n user c ≡ Some (thread, stint_of n user item until)
under_busy n user Idle thread item until e = absurd (cc)
under_busy n user (Busy x y z) thread item until e =
    let same = same_busy (Busy x y z) x y z thread item until (busy_itself x y z) e in
    ap (λ k. Some (k, stint_of n user y z)) same.0
    ∙ ap (λ k. Some (thread, stint_of n user k z)) same.1
    ∙ ap (λ k. Some (thread, stint_of n user item k)) same.2

-- a busy user has one, and one under such a condition is busy
busy_has : (n user : ℕ) (c : Condition) → is_busy_condition c ≡ true → (p : ℕ × StintView) × (stint_under n user c ≡ Some p)
busy_has n user Idle e = absurd (cc)
busy_has n user (Busy thread item until) e = ((thread, stint_of n user item until), refl)

with_busy : (c : Condition) (thread item until : ℕ) → is_busy_with c thread item until ≡ true → is_busy_condition c ≡ true
with_busy Idle thread item until e = absurd (cc)
with_busy (Busy x y z) thread item until e = refl

-- ---- the stints that are out

-- a held user that the stint is of
record StintOf (state : State) (p : ℕ × StintView) : Type 0 where
  number : ℕ
  share : Share
  holder : HeldUser
  stands : slice_get state.shares number ≡ Some share
  held : In holder share.held
  is : stint_under number holder.user holder.condition ≡ Some p

-- what is out is the stint of a held user, and each stint of a held user is out
stint_there : (state : State) (p : ℕ × StintView) → In p (stints_out state) → StintOf state p
stint_there state p h =
    let found = In-flat_map (λ (q : ℕ × Share). stints_in q.0 q.1) p (enumerate_from 0 state.shares) h in
    let at = In-enumerate 0 found.0 state.shares found.1 in
    let place : at.1.0 ≡ found.0.0 = let e : found.0.0 ≡ 0 + at.1.0 = at.1.1 in omega arith in
    let of = In-filter_map (λ (g : HeldUser). stint_under found.0.0 g.user g.condition) p found.0.1.held found.2 in
    record {
      number = found.0.0;
      share = found.0.1;
      holder = of.0;
      stands = subst (λ n. slice_get state.shares n ≡ Some found.0.1) place at.1.2;
      held = of.1;
      is = of.2;
    }

there_stint : (state : State) (n : ℕ) (share : Share) (h : HeldUser) (p : ℕ × StintView) → slice_get state.shares n ≡ Some share → In h share.held →
    stint_under n h.user h.condition ≡ Some p → In p (stints_out state)
there_stint state n share h p stands held is =
    let place : 0 + n ≡ n = omega arith in
    flat_map-In (λ (q : ℕ × Share). stints_in q.0 q.1) (n, share) p
    (subst (λ k. In (k, share) (enumerate_from 0 state.shares)) place (enumerate-In 0 n share state.shares stands))
    (filter_map-In (λ (g : HeldUser). stint_under n g.user g.condition) h p held is)

-- the stint of a held user is out at the thread
stint_is_out : (state : State) (p : ℕ × StintView) → StintOf state p → is_out state p.0 p.1 ≡ true
stint_is_out state p s =
    let told = under_tells s.number s.holder.user s.holder.condition p s.is in
    let test = is_under p.1.user (λ c. is_busy_with c p.0 p.1.item p.1.until) in
    let stands : slice_get state.shares p.1.scenario ≡ Some s.share = subst (λ n. slice_get state.shares n ≡ Some s.share) (sym told.0) s.stands in
    let passes : test s.holder ≡ true = rw (user_passes s.holder.user p.1.user (sym told.1), told.2) refl in
    subst (λ o. option_map_or (λ (share : Share). list_any test share.held) o false ≡ true) (sym stands) (any-from_In test s.holder s.held passes)

-- ---- who is busy

-- the stint is of this user
abbrev of_user : ℕ → ℕ × StintView → Bool
of_user user p = p.1.user == user

-- what a user is busy with is out
busy_out : (state : State) (user thread : ℕ) (stint : StintView) → busy_of state user ≡ Some (thread, stint) →
    (is_out state thread stint ≡ true) × (stint.user ≡ user)
busy_out state user thread stint e =
    let found = found_in (of_user user) (thread, stint) (stints_out state) e in
    (stint_is_out state (thread, stint) (stint_there state (thread, stint) found.0), same_number stint.user user found.1)

-- a user that is held once has one stint
one_stint : (state : State) (user : ℕ) (p q : ℕ × StintView) → times_held user state.shares ≤ 1 → StintOf state p → StintOf state q →
    p.1.user ≡ user → q.1.user ≡ user → Some p ≡ Some q
one_stint state user p q once s r of_p of_q =
    let s_tells = under_tells s.number s.holder.user s.holder.condition p s.is in
    let r_tells = under_tells r.number r.holder.user r.holder.condition q r.is in
    let same = two_same user s.holder r.holder s.share r.share s.number r.number state.shares once s.stands r.stands s.held r.held
    (user_passes s.holder.user user (sym s_tells.1 ∙ of_p)) (user_passes r.holder.user user (sym r_tells.1 ∙ of_q)) in
    let first : stint_under r.number r.holder.user r.holder.condition ≡ Some p =
    subst (λ (h : HeldUser). stint_under r.number h.user h.condition ≡ Some p) same.1
    (subst (λ n. stint_under n s.holder.user s.holder.condition ≡ Some p) same.0 s.is) in
    let second = r.is in
    cc

-- so a stint that is out is what its user is busy with, where no user is held twice
out_busy : (state : State) (thread : ℕ) (stint : StintView) → WellHeld state → is_out state thread stint ≡ true →
    busy_of state stint.user ≡ Some (thread, stint)
out_busy state thread stint well out =
    let f = held_as state stint.scenario stint.user (λ c. is_busy_with c thread stint.item stint.until) out in
    let under : stint_under stint.scenario f.holder.user f.holder.condition ≡ Some (thread, stint) =
    under_busy stint.scenario f.holder.user f.holder.condition thread stint.item stint.until f.as_is
    ∙ ap (λ u. Some (thread, stint_of stint.scenario u stint.item stint.until)) f.user_is in
    let own : StintOf state (thread, stint) =
    record { number = stint.scenario; share = f.share; holder = f.holder; stands = f.stands; held = f.held; is = under } in
    let there_is = there_stint state stint.scenario f.share f.holder (thread, stint) f.stands f.held under in
    let found = found_some (of_user stint.user) (thread, stint) there_is (user_passes stint.user stint.user refl) in
    let other = found_in (of_user stint.user) found.0 (stints_out state) found.1 in
    found.1
    ∙ one_stint state stint.user found.0 (thread, stint) (well stint.user).0 (stint_there state found.0 other.0) own
    (same_number found.0.1.user stint.user other.1) refl

-- where no user is held twice, a user is busy with exactly the stint of it that is out
pub busy_with_stint : (state : State) (user thread : ℕ) (stint : StintView) → WellHeld state →
    (busy_of state user ≡ Some (thread, stint)) ↔ ((is_out state thread stint ≡ true) × (stint.user ≡ user))
busy_with_stint state user thread stint well = (
  λ e. busy_out state user thread stint e,
  λ h. subst (λ u. busy_of state u ≡ Some (thread, stint)) h.1 (out_busy state thread stint well h.0),
)

-- and with nothing exactly where no share holds it busy
pub busy_with_nothing : (state : State) (user : ℕ) → (busy_of state user ≡ None)
    ↔ ((n : ℕ) (share : Share) (h : HeldUser) → slice_get state.shares n ≡ Some share → Contains share.held h → h.user ≡ user → is_busy h ≡ false)
busy_with_nothing state user = (
  λ e n share h stands held same. false_unless (is_busy h) (λ busy.
      let p = busy_has n h.user h.condition busy in
      let told = under_tells n h.user h.condition p.0 p.1 in
      let there_is = there_stint state n share h p.0 stands (In-of held) p.1 in
      let found = found_some (of_user user) p.0 there_is (user_passes p.0.1.user user (told.1 ∙ same)) in
      some_not_none (sym found.1 ∙ e)),
  λ rests.
      let P : Option (ℕ × StintView) → Type 0 = λ o. busy_of state user ≡ o → busy_of state user ≡ None in
      let nothing : P (busy_of state user) = elim (busy_of state user) as P [
        | None ↦ λ e. e
        | Some p ↦ λ e.
            let found = found_in (of_user user) p (stints_out state) e in
            let s = stint_there state p found.0 in
            let told = under_tells s.number s.holder.user s.holder.condition p s.is in
            let idle = rests s.number s.share s.holder s.stands (Contains-from_In s.holder s.held) (sym told.1 ∙ same_number p.1.user user found.1) in
            let busy = with_busy s.holder.condition p.0 p.1.item p.1.until told.2 in
            absurd (true≢false (sym busy ∙ idle))
      ] in nothing refl,
)
