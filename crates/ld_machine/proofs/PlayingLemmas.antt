-- What a user plays by its last turn is what it is busy with.
use Rattle.std.proofs.Common.{◌≡◌, ◌≤◌, ◌==◌, ℕ, zero, suc, Bool, true, false, not, cond, ◌&&◌, ◌||◌, nat_lt, List, [], ◌∷◌, Option, None, Some, map, filter, arith, refl, sym, ap, ◌∙◌, subst, inl, inr, ◌⊎◌, slice_get}
use Rattle.std.specs.Option.{option_map_or}
use Rattle.std.specs.List.{list_any}
use Rattle.ld_base.specs.Stint.{stint_of}
use Rattle.ld_base.specs.Tally.{TallyView}
use Rattle.ld_base.specs.declared.act.Act.{Act}
use Rattle.ld_base.specs.declared.act.Act.TheVariants.{Take, Grow, Start, Drop, Late, Return, Release, Stop, Close, Control}
use Rattle.ld_base.specs.declared.act.Outcome.{Outcome}
use Rattle.ld_base.specs.declared.command.Command.TheVariants as commands
use Rattle.ld_base.specs.declared.entry.Entry.{Entry}
use Rattle.ld_machine.specs.Plan.{Part, Plan}
use Rattle.ld_machine.specs.State.{Halted, Condition, Idle, Busy, HeldUser, Share, State, opening, opening_share, is_idle_condition, is_busy_condition, is_busy, times_among, times_held}
use Rattle.ld_machine.specs.Commands.{stop_commanded_share}
use Rattle.ld_machine.specs.Effect.{with_user, if_user, hold, put_condition, let_go, change_at, change_share, end_item, end_item_of, after_entry, after_entries, state_after}
use Rattle.ld_machine.specs.Step.{is_busy_with, is_out}
use Rattle.ld_machine.specs.History.{adds_one, adds_two, are_steps, IsLegal}
use Rattle.ld_machine.specs.Playing.{Play, play_behind, play_after, play_of, stint_of_play}
use Rattle.ld_machine.proofs.ListLemmas.{In, here, In-from_any, any-from_In, both_true, some_true, number_itself, map-In}
use Rattle.ld_machine.proofs.StepLemmas.{pair_wrote}
use Rattle.ld_machine.proofs.HolderLemmas.{Holds, wrote_gains, entry_holds, two_hold, opening_holds}
use Rattle.ld_machine.proofs.BusyLemmas.{once_same, same_number, held_stop, held_end_item}
use Rattle.ld_machine.proofs.BusyStepLemmas.{change_stands, with_there}
use Rattle.ld_machine.proofs.FreeLemmas.{among_held}
use Rattle.ld_machine.proofs.TurnLemmas.{among_there, touches, HeldAs, Finds, one_finds, one_holds, pair_of}

-- ---- tests of the held users of one scenario

-- a held user is this one, under such a condition
abbrev pub is_under : ℕ → (Condition → Bool) → HeldUser → Bool
is_under user q = λ (h : HeldUser). (h.user == user) && q h.condition

-- some held user of scenario n passes the test
abbrev pub some_held : (HeldUser → Bool) → ℕ → List Share → Bool
some_held p n shares = option_map_or (λ (share : Share). list_any p share.held) (slice_get shares n) false

some_held-change : (p : HeldUser → Bool) (n k : ℕ) (change : Share → Share) (shares : List Share) →
    ((share : Share) → list_any p (change share).held ≡ list_any p share.held) → some_held p n (change_at k change shares) ≡ some_held p n shares
some_held-change p n k change [] same = refl
some_held-change p zero zero change (share ∷ rest) same = same share
some_held-change p (suc n) zero change (share ∷ rest) same = refl
some_held-change p zero (suc k) change (share ∷ rest) same = refl
some_held-change p (suc n) (suc k) change (share ∷ rest) same = some_held-change p n k change rest same

-- what passes behind a change passed before it, where the change makes none pass
some_held-back : (p : HeldUser → Bool) (n k : ℕ) (change : Share → Share) (shares : List Share) →
    ((share : Share) → list_any p (change share).held ≡ true → list_any p share.held ≡ true) →
    some_held p n (change_at k change shares) ≡ true → some_held p n shares ≡ true
some_held-back p n k change [] back h = h
some_held-back p zero zero change (share ∷ rest) back h = back share h
some_held-back p (suc n) zero change (share ∷ rest) back h = h
some_held-back p zero (suc k) change (share ∷ rest) back h = h
some_held-back p (suc n) (suc k) change (share ∷ rest) back h = some_held-back p n k change rest back h

some_held-stop : (p : HeldUser → Bool) (n t : ℕ) (shares : List Share) → some_held p n (map (stop_commanded_share t) shares) ≡ some_held p n shares
some_held-stop p n t [] = refl
some_held-stop p zero t (share ∷ rest) = ap (λ held. list_any p held) (held_stop t share)
some_held-stop p (suc n) t (share ∷ rest) = some_held-stop p n t rest

some_held-end : (p : HeldUser → Bool) (n : ℕ) (plan : Plan) (k item : ℕ) (state : State) → some_held p n (end_item_of plan k item state).shares ≡ some_held p n state.shares
some_held-end p n plan k item state =
    let P : Option Part → Type 0 = λ o. some_held p n (option_map_or (λ part. change_share state k (end_item part item)) o state).shares ≡ some_held p n state.shares in
    elim (slice_get plan.parts k) as P [
      | None ↦ refl
      | Some part ↦ some_held-change p n k (end_item part item) state.shares (λ share. ap (λ held. list_any p held) (held_end_item part item share))
    ]

-- ---- the same for single changes

any-with_user : (p : HeldUser → Bool) (h : HeldUser) (held : List HeldUser) → p h ≡ false → list_any p (with_user h held) ≡ list_any p held
any-with_user p h [] fails = rw fails refl
any-with_user p h (g ∷ rest) fails =
    let P : Bool → Type 0 = λ b. list_any p (cond b (h ∷ g ∷ rest) (g ∷ with_user h rest)) ≡ list_any p (g ∷ rest) in
    elim (nat_lt h.user g.user) as P [
      | true ↦ rw fails refl
      | false ↦ ap (λ b. p g || b) (any-with_user p h rest fails)
    ]

never_both : (b : Bool) → (b && false) ≡ false
never_both true = refl
never_both false = refl

not_that_user : (one user other : ℕ) → (other == one) ≡ true → (one == user) ≡ false → (other == user) ≡ false
not_that_user one user other same apart = subst (λ u. (u == user) ≡ false) (sym (same_number other one same)) apart

any-if_user : (user one : ℕ) (q : Condition → Bool) (condition : Condition) (held : List HeldUser) → (one == user) ≡ false →
    list_any (is_under user q) (map (if_user one condition) held) ≡ list_any (is_under user q) held
any-if_user user one q condition [] apart = refl
any-if_user user one q condition (h ∷ rest) apart =
    let later = any-if_user user one q condition rest apart in
    let P : Bool → Type 0 = λ b. (h.user == one) ≡ b →
    (is_under user q (cond b (record h { condition = condition }) h) || list_any (is_under user q) (map (if_user one condition) rest))
    ≡ (is_under user q h || list_any (is_under user q) rest) in
    let same : P (h.user == one) = elim (h.user == one) as P [
      | true ↦ λ e. rw (not_that_user one user h.user e apart) later
      | false ↦ λ e. ap (λ b. is_under user q h || b) later
    ] in same refl

any-let_go : (user one : ℕ) (q : Condition → Bool) (held : List HeldUser) → (one == user) ≡ false →
    list_any (is_under user q) (filter (λ (h : HeldUser). not (h.user == one)) held) ≡ list_any (is_under user q) held
any-let_go user one q [] apart = refl
any-let_go user one q (h ∷ rest) apart =
    let later = any-let_go user one q rest apart in
    let kept = filter (λ (g : HeldUser). not (g.user == one)) rest in
    let P : Bool → Type 0 = λ b. (h.user == one) ≡ b →
    list_any (is_under user q) (cond (not b) (h ∷ kept) kept) ≡ (is_under user q h || list_any (is_under user q) rest) in
    let same : P (h.user == one) = elim (h.user == one) as P [
      | true ↦ λ e. rw (not_that_user one user h.user e apart) later
      | false ↦ λ e. ap (λ b. is_under user q h || b) later
    ] in same refl

any-filter : (p q : HeldUser → Bool) (held : List HeldUser) → list_any p (filter q held) ≡ true → list_any p held ≡ true
any-filter p q [] h = h
any-filter p q (g ∷ rest) h =
    let P : Bool → Type 0 = λ b. list_any p (cond b (g ∷ filter q rest) (filter q rest)) ≡ true → (p g || list_any p rest) ≡ true in
    let back : P (q g) = elim (q g) as P [
      | true ↦ λ at. elim (some_true (p g) (list_any p (filter q rest)) at) [
        | inl now ↦ rw now refl
        | inr later ↦ either (p g) (any-filter p q rest later)
      ]
      | false ↦ λ at. either (p g) (any-filter p q rest at)
    ] in back h
  where
    either : (b : Bool) {c : Bool} → c ≡ true → (b || c) ≡ true
    either true e = refl
    either false e = e

-- an entry that doesn't touch a user leaves what it is busy with
out_stays : (plan : Plan) (state : State) (at thread t : ℕ) (act : Act) (user thread' n item until : ℕ) → touches user act ≡ false →
    is_out (after_entry plan state (record { turn = at; thread = thread; act = act; reading = t })) thread' (stint_of n user item until)
    ≡ is_out state thread' (stint_of n user item until)
out_stays plan state at thread t (Take k one slot) user thread' n item until apart =
    some_held-change (is_under user (λ c. is_busy_with c thread' item until)) n k (hold one slot) state.shares
    (λ share. any-with_user (is_under user (λ c. is_busy_with c thread' item until)) (record { user = one; slot = slot; condition = Idle }) share.held (never_both (one == user)))
out_stays plan state at thread t (Grow k one slot) user thread' n item until apart =
    some_held-change (is_under user (λ c. is_busy_with c thread' item until)) n k (hold one slot) state.shares
    (λ share. any-with_user (is_under user (λ c. is_busy_with c thread' item until)) (record { user = one; slot = slot; condition = Idle }) share.held (never_both (one == user)))
out_stays plan state at thread t (Start k one i u) user thread' n item until apart =
    some_held-end (is_under user (λ c. is_busy_with c thread' item until)) n plan k i (change_share state k (put_condition one (Busy thread i u)))
    ∙ some_held-change (is_under user (λ c. is_busy_with c thread' item until)) n k (put_condition one (Busy thread i u)) state.shares
    (λ share. any-if_user user one (λ c. is_busy_with c thread' item until) (Busy thread i u) share.held apart)
out_stays plan state at thread t (Drop k i) user thread' n item until apart = some_held-end (is_under user (λ c. is_busy_with c thread' item until)) n plan k i state
out_stays plan state at thread t (Late k i) user thread' n item until apart = some_held-end (is_under user (λ c. is_busy_with c thread' item until)) n plan k i state
out_stays plan state at thread t (Return k one i outcome tally) user thread' n item until apart =
    some_held-change (is_under user (λ c. is_busy_with c thread' item until)) n k (put_condition one Idle) state.shares
    (λ share. any-if_user user one (λ c. is_busy_with c thread' item until) Idle share.held apart)
out_stays plan state at thread t (Release k one) user thread' n item until apart =
    some_held-change (is_under user (λ c. is_busy_with c thread' item until)) n k (let_go one) state.shares
    (λ share. any-let_go user one (λ c. is_busy_with c thread' item until) share.held apart)
out_stays plan state at thread t (Stop k) user thread' n item until apart =
    some_held-change (is_under user (λ c. is_busy_with c thread' item until)) n k (λ share. record share { level = Halted }) state.shares (λ share. refl)
out_stays plan state at thread t (Close k) user thread' n item until apart =
    some_held-change (is_under user (λ c. is_busy_with c thread' item until)) n k (λ share. record share { closed = true }) state.shares (λ share. refl)
out_stays plan state at thread t (Control commands.Stop) user thread' n item until apart =
    some_held-stop (is_under user (λ c. is_busy_with c thread' item until)) n t state.shares
out_stays plan state at thread t (Control (commands.Pause b)) user thread' n item until apart = refl
out_stays plan state at thread t (Control (commands.Vus v)) user thread' n item until apart = refl
out_stays plan state at thread t (Control (commands.VusMax v)) user thread' n item until apart = refl

-- ---- who holds a user

-- where the test passes, the scenario holds the user so
pub held_as : (state : State) (n user : ℕ) (q : Condition → Bool) → some_held (is_under user q) n state.shares ≡ true → HeldAs state n user q
held_as state n user q h =
    let P : Option Share → Type 0 = λ o. slice_get state.shares n ≡ o →
    option_map_or (λ (share : Share). list_any (is_under user q) share.held) o false ≡ true → HeldAs state n user q in
    let found : P (slice_get state.shares n) = elim (slice_get state.shares n) as P [
      | None ↦ λ e at. absurd (cc)
      | Some share ↦ λ e at.
          let holder = In-from_any (is_under user q) share.held at in
          let both = both_true (holder.0.user == user) (q holder.0.condition) holder.2 in
          record { share = share; holder = holder.0; stands = e; held = holder.1; user_is = same_number holder.0.user user both.0; as_is = both.1 }
    ] in found refl h

pub two_same : (user : ℕ) (g h : HeldUser) (a b : Share) (n m : ℕ) (shares : List Share) → times_held user shares ≤ 1 →
    slice_get shares n ≡ Some a → slice_get shares m ≡ Some b → In g a.held → In h b.held → (g.user == user) ≡ true → (h.user == user) ≡ true →
    (n ≡ m) × (g ≡ h)
two_same user g h a b n m [] once at_a at_b in_a in_b is_g is_h = absurd (cc)
two_same user g h a b zero zero (x ∷ rest) once at_a at_b in_a in_b is_g is_h =
    let same_a : x ≡ a = cc in
    let same_b : x ≡ b = cc in
    let few : times_among user x.held ≤ 1 = omega arith in
    (refl, once_same user g h x.held few (subst (λ (z : Share). In g z.held) (sym same_a) in_a) (subst (λ (z : Share). In h z.held) (sym same_b) in_b) is_g is_h)
two_same user g h a b zero (suc m) (x ∷ rest) once at_a at_b in_a in_b is_g is_h =
    let same_a : x ≡ a = cc in
    let now = among_there user g (subst (λ (z : Share). In g z.held) (sym same_a) in_a) is_g in
    let later = among_there user h in_b is_h in
    let within = among_held user m b rest at_b in
    absurd (omega arith)
two_same user g h a b (suc n) zero (x ∷ rest) once at_a at_b in_a in_b is_g is_h =
    let same_b : x ≡ b = cc in
    let now = among_there user h (subst (λ (z : Share). In h z.held) (sym same_b) in_b) is_h in
    let later = among_there user g in_a is_g in
    let within = among_held user n a rest at_a in
    absurd (omega arith)
two_same user g h a b (suc n) (suc m) (x ∷ rest) once at_a at_b in_a in_b is_g is_h =
    let it = two_same user g h a b n m rest (omega arith) at_a at_b in_a in_b is_g is_h in
    (ap suc it.0, it.1)

pub user_passes : (one user : ℕ) → one ≡ user → (one == user) ≡ true
user_passes one user same = subst (λ u. (u == user) ≡ true) (sym same) (number_itself user)

-- a user that is held once is held in one scenario, under one condition
pub one_holder : (state : State) (user n m : ℕ) (p q : Condition → Bool) → Holds state → HeldAs state n user p → HeldAs state m user q →
    (n ≡ m) × ((c : Condition) × (p c ≡ true) × (q c ≡ true))
one_holder state user n m p q holds f g =
    let it = two_same user f.holder g.holder f.share g.share n m state.shares (holds.once user) f.stands g.stands f.held g.held
    (user_passes f.holder.user user f.user_is) (user_passes g.holder.user user g.user_is) in
    (it.0, (f.holder.condition, f.as_is, subst (λ (h : HeldUser). q h.condition ≡ true) (sym it.1) g.as_is))

pub idle_or_busy : (c : Condition) (thread item until : ℕ) → is_idle_condition c ≡ true → is_busy_with c thread item until ≡ true → ⊥
idle_or_busy Idle thread item until idle busy = cc
idle_or_busy (Busy thread' item' until') thread item until idle busy = cc

pub same_busy : (c : Condition) (thread item until thread' item' until' : ℕ) → is_busy_with c thread item until ≡ true → is_busy_with c thread' item' until' ≡ true →
    (thread ≡ thread') × (item ≡ item') × (until ≡ until')
same_busy Idle thread item until thread' item' until' a b = absurd (cc)
same_busy (Busy x y z) thread item until thread' item' until' a b =
    let a2 = both_true ((x == thread) && (y == item)) (z == until) a in
    let a1 = both_true (x == thread) (y == item) a2.0 in
    let b2 = both_true ((x == thread') && (y == item')) (z == until') b in
    let b1 = both_true (x == thread') (y == item') b2.0 in (
      sym (same_number x thread a1.0) ∙ same_number x thread' b1.0,
      sym (same_number y item a1.1) ∙ same_number y item' b1.1,
      sym (same_number z until a2.1) ∙ same_number z until' b2.1,
    )

-- ---- what a turn makes of its user

put_passes : (user : ℕ) (q : Condition → Bool) (condition : Condition) (h : HeldUser) → q condition ≡ true → (h.user == user) ≡ true →
    is_under user q (if_user user condition h) ≡ true
put_passes user q condition h holds is =
    let P : Bool → Type 0 = λ b. is_under user q (cond b (record h { condition = condition }) h) ≡ true in
    subst P (sym is) (rw (is, holds) refl)

-- a held user is under the condition that it is put under
put_held : (state : State) (n user : ℕ) (p q : Condition → Bool) (condition : Condition) → HeldAs state n user p → q condition ≡ true →
    some_held (is_under user q) n (change_at n (put_condition user condition) state.shares) ≡ true
put_held state n user p q condition f holds =
    let stands = change_stands n (put_condition user condition) f.share state.shares f.stands in
    let there_now = map-In (if_user user condition) f.holder f.held in
    let passes = put_passes user q condition f.holder holds (user_passes f.holder.user user f.user_is) in
    subst (λ o. option_map_or (λ (share : Share). list_any (is_under user q) share.held) o false ≡ true) (sym stands)
    (any-from_In (is_under user q) (if_user user condition f.holder) there_now passes)

pub busy_itself : (thread item until : ℕ) → is_busy_with (Busy thread item until) thread item until ≡ true
busy_itself thread item until = rw (number_itself thread, number_itself item, number_itself until) refl

-- ---- what a user plays, and what it is busy with

-- the user is busy with exactly what it plays
pub record Matches (state : State) (user : ℕ) (played : Option Play) : Type 0 where
  pub out : (play : Play) → played ≡ Some play → is_out state play.thread (stint_of_play user play) ≡ true
  pub playing : (thread n item until : ℕ) → is_out state thread (stint_of n user item until) ≡ true →
      (play : Play) × (played ≡ Some play) × (play.thread ≡ thread) × (stint_of n user item until ≡ stint_of_play user play)

module _ (plan : Plan) (state : State) (at thread t : ℕ) where
  abbrev after : Act → State
  after act = after_entry plan state (record { turn = at; thread = thread; act = act; reading = t })

  untouched : (act : Act) (user : ℕ) (played : Option Play) → touches user act ≡ false → Matches state user played → Matches (after act) user played
  untouched act user played apart matches = record {
    out = λ play is. out_stays plan state at thread t act user play.thread play.scenario play.item play.until apart ∙ matches.out play is;
    playing = λ th n item until is.
        matches.playing th n item until (sym (out_stays plan state at thread t act user th n item until apart) ∙ is);
  }

  started : (n user item until : ℕ) → Holds (after (Start n user item until)) → HeldAs state n user is_idle_condition →
      Matches (after (Start n user item until)) user (Some (record { thread = thread; start = t; scenario = n; item = item; until = until }))
  started n user item until holds f =
      let now : is_out (after (Start n user item until)) thread (stint_of n user item until) ≡ true =
      some_held-end (is_under user (λ c. is_busy_with c thread item until)) n plan n item (change_share state n (put_condition user (Busy thread item until)))
      ∙ put_held state n user is_idle_condition (λ c. is_busy_with c thread item until) (Busy thread item until) f (busy_itself thread item until) in
      let new : Play = record { thread = thread; start = t; scenario = n; item = item; until = until } in
      record {
        out = λ play is.
            let same : new ≡ play = cc in
            subst (λ (it : Play). is_out (after (Start n user item until)) it.thread (stint_of_play user it) ≡ true) same now;
        playing = λ th m i u is.
            let mine = held_as (after (Start n user item until)) n user (λ c. is_busy_with c thread item until) now in
            let other = held_as (after (Start n user item until)) m user (λ c. is_busy_with c th i u) is in
            let both = one_holder (after (Start n user item until)) user n m (λ c. is_busy_with c thread item until) (λ c. is_busy_with c th i u) holds mine other in
            let same = same_busy both.1.0 thread item until th i u both.1.1 both.1.2 in
            (new, refl, same.0, same_stint m n user i item u until (sym both.0) (sym same.1) (sym same.2));
      }
    where
      same_stint : (m n user i item u until : ℕ) → m ≡ n → i ≡ item → u ≡ until → stint_of m user i u ≡ stint_of n user item until
      same_stint m n user i item u until a b c = ap (λ k. stint_of k user i u) a ∙ ap (λ k. stint_of n user k u) b ∙ ap (λ k. stint_of n user item k) c

  returned : (n user item : ℕ) (outcome : Outcome) (tally : TallyView) (p : Condition → Bool) → Holds (after (Return n user item outcome tally)) → HeldAs state n user p →
      Matches (after (Return n user item outcome tally)) user None
  returned n user item outcome tally p holds f =
      let now = held_as (after (Return n user item outcome tally)) n user is_idle_condition (put_held state n user p is_idle_condition Idle f refl) in
      record {
        out = λ play is. absurd (cc);
        playing = λ th m i u is.
            let other = held_as (after (Return n user item outcome tally)) m user (λ c. is_busy_with c th i u) is in
            let both = one_holder (after (Return n user item outcome tally)) user n m is_idle_condition (λ c. is_busy_with c th i u) holds now other in
            absurd (idle_or_busy both.1.0 th i u both.1.1 both.1.2);
      }

  released : (n user : ℕ) (played : Option Play) → Holds state → HeldAs state n user is_idle_condition → Matches state user played →
      Matches (after (Release n user)) user played
  released n user played holds f matches = record {
    out = λ play is.
        let other = held_as state play.scenario user (λ c. is_busy_with c play.thread play.item play.until) (matches.out play is) in
        let both = one_holder state user n play.scenario is_idle_condition (λ c. is_busy_with c play.thread play.item play.until) holds f other in
        absurd (idle_or_busy both.1.0 play.thread play.item play.until both.1.1 both.1.2);
    playing = λ th m i u is.
        matches.playing th m i u
        (some_held-back (is_under user (λ c. is_busy_with c th i u)) m n (let_go user) state.shares
        (λ share. any-filter (is_under user (λ c. is_busy_with c th i u)) (λ (h : HeldUser). not (h.user == user)) share.held) is);
  }

  act_matches : (act : Act) (user : ℕ) (played : Option Play) → Holds state → Holds (after act) → Finds state act → Matches state user played →
      Matches (after act) user (play_behind user thread t act played)
  act_matches (Start n one item until) user played holds later f matches =
      let new : Play = record { thread = thread; start = t; scenario = n; item = item; until = until } in
      let P : Bool → Type 0 = λ b. (one == user) ≡ b → Matches (after (Start n one item until)) user (cond b (Some new) played) in
      let now : P (one == user) = elim (one == user) as P [
        | true ↦ λ e. subst (λ u. Matches (after (Start n one item until)) u (Some new)) (same_number one user e) (started n one item until later f)
        | false ↦ λ e. untouched (Start n one item until) user played e matches
      ] in now refl
  act_matches (Return n one item outcome tally) user played holds later f matches =
      let P : Bool → Type 0 = λ b. (one == user) ≡ b → Matches (after (Return n one item outcome tally)) user (cond b None played) in
      let now : P (one == user) = elim (one == user) as P [
        | true ↦ λ e.
            subst (λ u. Matches (after (Return n one item outcome tally)) u None) (same_number one user e) (returned n one item outcome tally _ later f)
        | false ↦ λ e. untouched (Return n one item outcome tally) user played e matches
      ] in now refl
  act_matches (Release n one) user played holds later f matches =
      let P : Bool → Type 0 = λ b. (one == user) ≡ b → Matches (after (Release n one)) user played in
      let now : P (one == user) = elim (one == user) as P [
        | true ↦ λ e.
            let same = same_number one user e in
            subst (λ u. Matches (after (Release n one)) u played) same
            (released n one played holds f (subst (λ u. Matches state u played) (sym same) matches))
        | false ↦ λ e. untouched (Release n one) user played e matches
      ] in now refl
  act_matches (Take n one slot) user played holds later f matches = untouched (Take n one slot) user played refl matches
  act_matches (Grow n one slot) user played holds later f matches = untouched (Grow n one slot) user played refl matches
  act_matches (Drop n item) user played holds later f matches = untouched (Drop n item) user played refl matches
  act_matches (Late n item) user played holds later f matches = untouched (Late n item) user played refl matches
  act_matches (Stop n) user played holds later f matches = untouched (Stop n) user played refl matches
  act_matches (Close n) user played holds later f matches = untouched (Close n) user played refl matches
  act_matches (Control command) user played holds later f matches = untouched (Control command) user played refl matches

-- ---- steps

-- a user that was taken or grown is idle
pub gained_idle : (plan : Plan) (state : State) (at thread t : ℕ) (act : Act) (n user slot : ℕ) (share : Share) → slice_get state.shares n ≡ Some share →
    (Take n user slot ≡ act) ⊎ (Grow n user slot ≡ act) →
    HeldAs (after_entry plan state (record { turn = at; thread = thread; act = act; reading = t })) n user is_idle_condition
gained_idle plan state at thread t act n user slot share stands gains =
    let h : HeldUser = record { user = user; slot = slot; condition = Idle } in
    let Q : Act → Type 0 = λ a. HeldAs (after_entry plan state (record { turn = at; thread = thread; act = a; reading = t })) n user is_idle_condition in
    elim gains [
      | inl e ↦ subst Q e (record {
        share = hold user slot share;
        holder = h;
        stands = change_stands n (hold user slot) share state.shares stands;
        held = with_there h share.held;
        user_is = refl;
        as_is = refl;
      })
      | inr e ↦ subst Q e (record {
        share = hold user slot share;
        holder = h;
        stands = change_stands n (hold user slot) share state.shares stands;
        held = with_there h share.held;
        user_is = refl;
        as_is = refl;
      })
    ]

gain_finds : (state : State) (act : Act) (n user slot : ℕ) → (Take n user slot ≡ act) ⊎ (Grow n user slot ≡ act) → Finds state act
gain_finds state act n user slot gains = elim gains [ inl e ↦ subst (Finds state) e tt | inr e ↦ subst (Finds state) e tt ]

pub one_matches : (plan : Plan) (state : State) (one : Entry) (user : ℕ) (played : Option Play) → Holds state → adds_one plan state one ≡ true → Matches state user played →
    Matches (after_entry plan state one) user (play_behind user one.thread one.reading one.act played)
one_matches plan state one user played holds h matches =
    act_matches plan state one.turn one.thread one.reading one.act user played holds (one_holds plan state one holds h) (one_finds plan state one h) matches

-- behind the first of two entries of a step
pub first_matches : (plan : Plan) (state : State) (one two : Entry) (user : ℕ) (played : Option Play) → Holds state → adds_two plan state one two ≡ true → Matches state user played →
    Holds (after_entry plan state one) × Matches (after_entry plan state one) user (play_behind user one.thread one.reading one.act played)
first_matches plan state one two user played holds h matches =
    let gains = wrote_gains plan state one.thread one.reading (one ∷ two ∷ []) holds (pair_wrote plan state one two h) one.act here in
    let first = entry_holds plan state one holds gains in
    let p = pair_of plan state one two h in (
      first,
      act_matches plan state one.turn one.thread one.reading one.act user played holds first (gain_finds state one.act p.scenario p.user p.slot p.gains) matches,
    )

pub two_match : (plan : Plan) (state : State) (one two : Entry) (user : ℕ) (played : Option Play) → Holds state → adds_two plan state one two ≡ true → Matches state user played →
    Matches (after_entry plan (after_entry plan state one) two) user
    (play_behind user two.thread two.reading two.act (play_behind user one.thread one.reading one.act played))
two_match plan state one two user played holds h matches =
    let between = first_matches plan state one two user played holds h matches in
    let p = pair_of plan state one two h in
    let idle = gained_idle plan state one.turn one.thread one.reading one.act p.scenario p.user p.slot p.share p.stands p.gains in
    act_matches plan (after_entry plan state one) two.turn two.thread two.reading two.act user
    (play_behind user one.thread one.reading one.act played) between.0 (two_hold plan state one two holds h)
    (subst (λ act. Finds (after_entry plan state one) act) p.starts idle) between.1

steps_match : (plan : Plan) (user : ℕ) (history : List Entry) (state : State) (played : Option Play) → are_steps plan state history ≡ true → Holds state → Matches state user played →
    Matches (after_entries plan state history) user (play_after user played history)
steps_match plan user [] state played h holds matches = matches
steps_match plan user (one ∷ []) state played h holds matches = one_matches plan state one user played holds h matches
steps_match plan user (one ∷ two ∷ rest) state played h holds matches =
    elim (some_true (adds_one plan state one && are_steps plan (after_entry plan state one) (two ∷ rest)) _ h) [
      | inl first ↦
          let both = both_true (adds_one plan state one) _ first in
          steps_match plan user (two ∷ rest) (after_entry plan state one) (play_behind user one.thread one.reading one.act played) both.1
          (one_holds plan state one holds both.0) (one_matches plan state one user played holds both.0 matches)
      | inr second ↦
          let both = both_true (adds_two plan state one two) _ second in
          steps_match plan user rest (after_entry plan (after_entry plan state one) two)
          (play_behind user two.thread two.reading two.act (play_behind user one.thread one.reading one.act played)) both.1
          (two_hold plan state one two holds both.0) (two_match plan state one two user played holds both.0 matches)
    ]

-- ---- whole histories

nobody_held : (p : HeldUser → Bool) (n : ℕ) (parts : List Part) → some_held p n (map (λ (part : Part). opening_share) parts) ≡ false
nobody_held p n [] = refl
nobody_held p zero (part ∷ parts) = refl
nobody_held p (suc n) (part ∷ parts) = nobody_held p n parts

pub opening_matches : (plan : Plan) (user : ℕ) → Matches (opening plan) user None
opening_matches plan user = record {
  out = λ play is. absurd (cc);
  playing = λ thread n item until is.
      let none = nobody_held (is_under user (λ c. is_busy_with c thread item until)) n plan.parts in
      absurd (cc);
}

-- behind a legal history each user is busy with exactly what it plays
pub legal_matches : (plan : Plan) (history : List Entry) (user : ℕ) → IsLegal plan history → Matches (state_after plan history) user (play_of user history)
legal_matches plan history user h = steps_match plan user history (opening plan) None h (opening_holds plan) (opening_matches plan user)

-- a busy user's stint is out
busy_out : (state : State) (n : ℕ) (share : Share) (h : HeldUser) → slice_get state.shares n ≡ Some share → In h share.held → is_busy h ≡ true →
    (thread : ℕ) × (item : ℕ) × (until : ℕ) × (is_out state thread (stint_of n h.user item until) ≡ true)
busy_out state n share h stands held busy = found h.condition refl busy
  where
    found : (c : Condition) → h.condition ≡ c → is_busy_condition c ≡ true →
        (thread : ℕ) × (item : ℕ) × (until : ℕ) × (is_out state thread (stint_of n h.user item until) ≡ true)
    found Idle e some = absurd (cc)
    found (Busy thread item until) e some =
        let with_it : is_busy_with h.condition thread item until ≡ true = subst (λ c. is_busy_with c thread item until ≡ true) (sym e) (busy_itself thread item until) in
        let passes : is_under h.user (λ c. is_busy_with c thread item until) h ≡ true = rw (number_itself h.user, with_it) refl in (
          thread,
          item,
          until,
          subst (λ o. option_map_or (λ (s : Share). list_any (is_under h.user (λ c. is_busy_with c thread item until)) s.held) o false ≡ true) (sym stands)
              (any-from_In (is_under h.user (λ c. is_busy_with c thread item until)) h held passes),
        )

pub busy_plays : (plan : Plan) (history : List Entry) (n : ℕ) (share : Share) (h : HeldUser) → IsLegal plan history →
    slice_get (state_after plan history).shares n ≡ Some share → In h share.held → is_busy h ≡ true → (play : Play) × (play_of h.user history ≡ Some play)
busy_plays plan history n share h legal stands held busy =
    let out = busy_out (state_after plan history) n share h stands held busy in
    let play = (legal_matches plan history h.user legal).playing out.0 n out.1 out.2 out.3 in
    (play.0, play.1)
