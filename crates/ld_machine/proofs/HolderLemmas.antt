-- No user is held twice.
use Rattle.std.proofs.Common.{◌≡◌, ◌<◌, ◌≤◌, ◌+◌, ◌==◌, if◌then◌else◌, ℕ, zero, suc, Bool, true, false, not, cond, ◌&&◌, ◌||◌, nat_lt, List, [], ◌∷◌, ◌++◌, Option, None, Some, map, filter, arith, refl, sym, ap, ◌∙◌, subst, inl, inr, slice_get}
use Rattle.std.specs.Option.{option_map_or}
use Rattle.std.specs.List.{list_any, range_with_len}
use Rattle.std.proofs.lemmas.Grind.{common_steps}
use Rattle.ld_base.specs.declared.act.Act.{Act}
use Rattle.ld_base.specs.declared.act.Act.TheVariants.{Take, Grow, Start, Drop, Late, Return, Release, Stop, Close, Control}
use Rattle.ld_base.specs.declared.command.Command.TheVariants as commands
use Rattle.ld_base.specs.declared.entry.Entry.{Entry}
use Rattle.ld_machine.specs.Plan.{Part, Plan, owned_items, hard_moment}
use Rattle.ld_machine.specs.State.{StartsNothing, Condition, Idle, Busy, HeldUser, Share, State, opening, opening_share, is_held, free_users, times_among, times_held}
use Rattle.ld_machine.specs.Scenario.{Scenario, until_of}
use Rattle.ld_machine.specs.Moves.{CountLate, StartOn, GrowAndStart, TakeAndStart, DropArrival, Move, users_of}
use Rattle.ld_machine.specs.Acts.{acts_of, is_start}
use Rattle.ld_machine.specs.Commands.{stop_commanded_share}
use Rattle.ld_machine.specs.Effect.{with_user, if_user, hold, put_condition, let_go, change_at, change_share, end_item, end_item_of, after_entry, after_entries}
use Rattle.ld_machine.specs.History.{adds_one, adds_two, are_steps}
use Rattle.ld_machine.specs.OnTime.{is_asked_act}
use Rattle.ld_machine.proofs.ListLemmas.{In, here, there, nothing_in, In-filter, both_true, some_true, in_two, In-one}
use Rattle.ld_machine.proofs.SourceLemmas.{Source, by_stop, by_release, by_take, by_arrival, by_start, by_drop, by_close, source_of, grow_answer, take_answer}
use Rattle.ld_machine.proofs.StepLemmas.{Wrote, first_enabled, one_wrote, pair_wrote}
use Rattle.ld_machine.proofs.DropLemmas.{acts_back, made_after, grows, second_starts}

-- 1 where a user is the one meant
abbrev pub hit : ℕ → ℕ → ℕ
hit one user = if one == user then 1 else 0

-- ---- what changes of shares do

pub times-with_user : (user : ℕ) (h : HeldUser) (held : List HeldUser) → times_among user (with_user h held) ≡ hit h.user user + times_among user held
times-with_user user h [] = refl
times-with_user user h (g ∷ rest) =
    let P : Bool → Type 0 = λ b. times_among user (cond b (h ∷ g ∷ rest) (g ∷ with_user h rest)) ≡ hit h.user user + (hit g.user user + times_among user rest) in
    elim (nat_lt h.user g.user) as P [
      | true ↦ refl
      | false ↦ let later = times-with_user user h rest in rw later (omega arith)
    ]

pub times-if_user : (user one : ℕ) (condition : Condition) (held : List HeldUser) → times_among user (map (if_user one condition) held) ≡ times_among user held
times-if_user user one condition [] = refl
times-if_user user one condition (h ∷ rest) =
    let P : Bool → Type 0 = λ b. (if (cond b (record h { condition = condition }) h).user == user then 1 else 0) + times_among user (map (if_user one condition) rest) ≡ hit h.user user + times_among user rest in
    elim (h.user == one) as P [
      | true ↦ ap (λ n. hit h.user user + n) (times-if_user user one condition rest)
      | false ↦ ap (λ n. hit h.user user + n) (times-if_user user one condition rest)
    ]

times-filter : (user : ℕ) (p : HeldUser → Bool) (held : List HeldUser) → times_among user (filter p held) ≤ times_among user held
times-filter user p [] = omega arith
times-filter user p (h ∷ rest) =
    let later = times-filter user p rest in
    let P : Bool → Type 0 = λ b. times_among user (cond b (h ∷ filter p rest) (filter p rest)) ≤ hit h.user user + times_among user rest in
    elim (p h) as P [ true ↦ omega arith | false ↦ omega arith ]

-- a change that holds a user at most `more` times more
pub times-change : (user more n : ℕ) (change : Share → Share) (shares : List Share) →
    ((share : Share) → times_among user (change share).held ≤ times_among user share.held + more) →
    times_held user (change_at n change shares) ≤ times_held user shares + more
times-change user more n change [] bound = omega arith
times-change user more zero change (share ∷ rest) bound = let now = bound share in omega arith
times-change user more (suc n) change (share ∷ rest) bound = let later = times-change user more n change rest bound in omega arith

times-stop : (user t : ℕ) (shares : List Share) → times_held user (map (stop_commanded_share t) shares) ≡ times_held user shares
times-stop user t [] = refl
times-stop user t (share ∷ rest) =
    let P : Bool → Type 0 = λ b. times_among user (cond b share (record share { level = StartsNothing t })).held + times_held user (map (stop_commanded_share t) rest) ≡ times_among user share.held + times_held user rest in
    elim share.closed as P [ true ↦ ap (λ n. times_among user share.held + n) (times-stop user t rest) | false ↦ ap (λ n. times_among user share.held + n) (times-stop user t rest) ]

times-end_item : (user item : ℕ) (part : Part) (share : Share) → times_among user (end_item part item share).held ≤ times_among user share.held + 0
times-end_item user item part share =
    let P : Bool → Type 0 = λ b. times_among user (cond b (record share { ended = share.ended ++ item ∷ [] }) share).held ≤ times_among user share.held + 0 in
    elim (list_any (λ k. k == item) (owned_items part.executor)) as P [ true ↦ omega arith | false ↦ omega arith ]

times-end : (plan : Plan) (user n item : ℕ) (state : State) → times_held user (end_item_of plan n item state).shares ≤ times_held user state.shares
times-end plan user n item state =
    let P : Option Part → Type 0 = λ o. times_held user (option_map_or (λ part. change_share state n (end_item part item)) o state).shares ≤ times_held user state.shares in
    elim (slice_get plan.parts n) as P [
      | None ↦ omega arith
      | Some part ↦ let bound = times-change user 0 n (end_item part item) state.shares (times-end_item user item part) in omega arith
    ]

-- the user that an act takes or grows
abbrev pub gained : Act → Option ℕ
gained (Take _ user _) = Some user
gained (Grow _ user _) = Some user
gained _ = None

abbrev pub gained_hit : Option ℕ → ℕ → ℕ
gained_hit None user = 0
gained_hit (Some one) user = hit one user

-- behind an entry a user is held no more times than before, but for one that the entry takes or grows
pub times_after : (plan : Plan) (state : State) (at thread t : ℕ) (act : Act) (user : ℕ) →
    times_held user (after_entry plan state (record { turn = at; thread = thread; act = act; reading = t })).shares ≤ times_held user state.shares + gained_hit (gained act) user
times_after plan state at thread t (Take n one slot) user =
    times-change user (hit one user) n (hold one slot) state.shares (λ share. let e = times-with_user user (record { user = one; slot = slot; condition = Idle }) share.held in omega arith)
times_after plan state at thread t (Grow n one slot) user =
    times-change user (hit one user) n (hold one slot) state.shares (λ share. let e = times-with_user user (record { user = one; slot = slot; condition = Idle }) share.held in omega arith)
times_after plan state at thread t (Start n one item until) user =
    let first = times-change user 0 n (put_condition one (Busy thread item until)) state.shares (λ share. let e = times-if_user user one (Busy thread item until) share.held in omega arith) in
    let second = times-end plan user n item (change_share state n (put_condition one (Busy thread item until))) in
    omega arith
times_after plan state at thread t (Drop n item) user = let bound = times-end plan user n item state in omega arith
times_after plan state at thread t (Late n item) user = let bound = times-end plan user n item state in omega arith
times_after plan state at thread t (Return n one item outcome tally) user =
    times-change user 0 n (put_condition one Idle) state.shares (λ share. let e = times-if_user user one Idle share.held in omega arith)
times_after plan state at thread t (Release n one) user =
    times-change user 0 n (let_go one) state.shares (λ share. let e = times-filter user (λ (h : HeldUser). not (h.user == one)) share.held in omega arith)
times_after plan state at thread t (Stop n) user = times-change user 0 n _ state.shares (λ share. omega arith)
times_after plan state at thread t (Close n) user = times-change user 0 n _ state.shares (λ share. omega arith)
times_after plan state at thread t (Control commands.Stop) user = let e = times-stop user t state.shares in omega arith
times_after plan state at thread t (Control (commands.Pause b)) user = omega arith
times_after plan state at thread t (Control (commands.Vus v)) user = omega arith
times_after plan state at thread t (Control (commands.VusMax v)) user = omega arith

-- ---- who is taken or grown

pub or_parts : (a b : Bool) → (a || b) ≡ false → (a ≡ false) × (b ≡ false)
or_parts false b h = (refl, h)
or_parts true b h = absurd (cc)

none_among : (user : ℕ) (held : List HeldUser) → list_any (λ (h : HeldUser). h.user == user) held ≡ false → times_among user held ≡ 0
none_among user [] h = refl
none_among user (g ∷ rest) h =
    let parts = or_parts (g.user == user) (list_any (λ (h : HeldUser). h.user == user) rest) h in
    let later = none_among user rest parts.1 in
    rw (parts.0, later) (omega arith)

pub none_held : (user : ℕ) (shares : List Share) → list_any (λ (share : Share). list_any (λ (h : HeldUser). h.user == user) share.held) shares ≡ false → times_held user shares ≡ 0
none_held user [] h = refl
none_held user (share ∷ rest) h =
    let parts = or_parts (list_any (λ (h : HeldUser). h.user == user) share.held) _ h in
    let now = none_among user share.held parts.0 in
    let later = none_held user rest parts.1 in
    rw (now, later) (omega arith)

range_below : (x a n : ℕ) → In x (range_with_len a n) → x < a + n
range_below x a zero h = absurd (nothing_in h)
range_below x a (suc n) here = omega arith
range_below x a (suc n) (there more) = let later = range_below x (a + 1) n more in omega arith

not_true : (b : Bool) → not b ≡ true → b ≡ false
not_true false h = refl
not_true true h = absurd (cc)

-- a free user is held by nobody, and was made
free_tells : (state : State) (user : ℕ) → In user (free_users state) → (times_held user state.shares ≡ 0) × (user ≤ state.made)
free_tells state user h =
    let kept = In-filter (λ u. not (is_held state u)) user (range_with_len 1 state.made) h in
    let below = range_below user 1 state.made kept.0 in
    (none_held user state.shares (not_true (is_held state user) kept.1), omega arith)

-- no user is held twice, and none that wasn't made is held
pub record Holds (state : State) : Type 0 where
  pub once : (user : ℕ) → times_held user state.shares ≤ 1
  pub unmade : (user : ℕ) → state.made < user → times_held user state.shares ≡ 0

-- what an act gains: a user that nobody holds, and that is made by then
abbrev pub Gains : State → Act → Type 0
Gains state act = (one : ℕ) → gained act ≡ Some one → (times_held one state.shares ≡ 0) × (one ≤ state.made + grows act)

pub nothing_gained : (state : State) (act : Act) → gained act ≡ None → Gains state act
nothing_gained state act none one h = absurd (some_not_none (sym h ∙ none))
  where
    some_not_none : {x : ℕ} → Some x ≡ None → ⊥
    some_not_none e = cc

gains_by : (state : State) (a b : Act) → a ≡ b → Gains state a → Gains state b
gains_by state a b same g = subst (λ act. Gains state act) same g

take_gains : (state : State) (k user slot : ℕ) → In user (free_users state) → Gains state (Take k user slot)
take_gains state k user slot free one h =
    let told = free_tells state user free in
    let same : user ≡ one = cc in
    subst (λ u. (times_held u state.shares ≡ 0) × (u ≤ state.made + 0)) same (told.0, let e : user ≤ state.made = told.1 in omega arith)

grow_gains : (state : State) (k user slot : ℕ) → Holds state → user ≡ state.made + 1 → Gains state (Grow k user slot)
grow_gains state k user slot holds next one h =
    let same : user ≡ one = cc in
    subst (λ u. (times_held u state.shares ≡ 0) × (u ≤ state.made + 1)) same (holds.unmade user (omega arith), omega arith)

-- an act of an enabled move gains only such a user
move_gains : (plan : Plan) (state : State) (k : ℕ) (s : Scenario) (t : ℕ) (move : Move) → Holds state → Source (users_of plan state) k s t move →
    (act : Act) → In act (acts_of move) → Gains state act
move_gains plan state k s t move holds (by_stop e) act at = gains_by state _ act (In-one act _ at) (nothing_gained state (Stop k) refl)
move_gains plan state k s t move holds (by_release u idle e) act at = gains_by state _ act (In-one act _ at) (nothing_gained state (Release k u.user) refl)
move_gains plan state k s t move holds (by_take user slot free slots e) act at = gains_by state _ act (In-one act _ at) (take_gains state k user slot free)
move_gains plan state k s t move holds (by_start u item idle e) act at = gains_by state _ act (In-one act _ at) (nothing_gained state (Start k u.user item (until_of s u.slot t)) refl)
move_gains plan state k s t move holds (by_drop item e) act at = gains_by state _ act (In-one act _ at) (nothing_gained state (Drop k item) refl)
move_gains plan state k s t move holds (by_close e) act at = gains_by state _ act (In-one act _ at) (nothing_gained state (Close k) refl)
move_gains plan state k s t move holds (by_arrival a CountLate due e) act at = gains_by state _ act (In-one act _ at) (nothing_gained state (Late k a.item) refl)
move_gains plan state k s t move holds (by_arrival a DropArrival due e) act at = gains_by state _ act (In-one act _ at) (nothing_gained state (Drop k a.item) refl)
move_gains plan state k s t move holds (by_arrival a (StartOn user) due e) act at = gains_by state _ act (In-one act _ at) (nothing_gained state (Start k user a.item (hard_moment s.part)) refl)
move_gains plan state k s t move holds (by_arrival a (GrowAndStart user slot) due e) act at =
    elim (in_two act _ _ at) [
      | inl grown ↦ gains_by state _ act grown (grow_gains state k user slot holds (grow_answer (users_of plan state) k s t user slot e).0)
      | inr started ↦ gains_by state _ act started (nothing_gained state (Start k user a.item (hard_moment s.part)) refl)
    ]
move_gains plan state k s t move holds (by_arrival a (TakeAndStart user slot) due e) act at =
    elim (in_two act _ _ at) [
      | inl taken ↦ gains_by state _ act taken (take_gains state k user slot (take_answer (users_of plan state) k s t user slot e))
      | inr started ↦ gains_by state _ act started (nothing_gained state (Start k user a.item (hard_moment s.part)) refl)
    ]

pub wrote_gains : (plan : Plan) (state : State) (thread t : ℕ) (entries : List Entry) → Holds state → Wrote plan state thread t entries →
    (act : Act) → In act (map (λ (e : Entry). e.act) entries) → Gains state act
wrote_gains plan state thread t entries holds w act at =
    let where_it = first_enabled plan state t w.move w.first in
    let acts : acts_of w.move ≡ map (λ (e : Entry). e.act) entries =
    sym (acts_back (state.entries + 1) thread t (acts_of w.move)) ∙ ap (λ es. map (λ (e : Entry). e.act) es) w.wrote in
    move_gains plan state where_it.number where_it.scenario t w.move holds
    (source_of (users_of plan state) where_it.number where_it.scenario t w.move where_it.enabled) act (subst (λ those. In act those) (sym acts) at)

-- ---- what an entry leaves

hit_apart : (one user : ℕ) → one < user → hit one user ≡ 0
hit_apart one user h = grind (arith, common_steps)

gain_once : (state : State) (user : ℕ) (o : Option ℕ) → ((one : ℕ) → o ≡ Some one → times_held one state.shares ≡ 0) → times_held user state.shares ≤ 1 →
    times_held user state.shares + gained_hit o user ≤ 1
gain_once state user None gains once = omega arith
gain_once state user (Some one) gains once =
    let P : Bool → Type 0 = λ b. (one == user) ≡ b → times_held user state.shares + cond b 1 0 ≤ 1 in
    let bound : P (one == user) = elim (one == user) as P [
      | true ↦ λ e.
          let same : one ≡ user = grind (arith, common_steps) in
          let zero_times : times_held user state.shares ≡ 0 = subst (λ u. times_held u state.shares ≡ 0) same (gains one refl) in
          omega arith
      | false ↦ λ e. omega arith
    ] in bound refl

gain_unmade : (state : State) (user made : ℕ) (o : Option ℕ) → ((one : ℕ) → o ≡ Some one → one ≤ made) → made < user → gained_hit o user ≡ 0
gain_unmade state user made None gains h = refl
gain_unmade state user made (Some one) gains h = let below = gains one refl in hit_apart one user (omega arith)

pub entry_holds : (plan : Plan) (state : State) (one : Entry) → Holds state → Gains state one.act → Holds (after_entry plan state one)
entry_holds plan state one holds gains = record {
  once = λ user.
      let bound = times_after plan state one.turn one.thread one.reading one.act user in
      let few = gain_once state user (gained one.act) (λ u e. (gains u e).0) (holds.once user) in
      omega arith;
  unmade = λ user above.
      let bound = times_after plan state one.turn one.thread one.reading one.act user in
      let made = made_after plan state one.turn one.thread one.reading one.act in
      let none = holds.unmade user (omega arith) in
      let apart = gain_unmade state user (state.made + grows one.act) (gained one.act) (λ u e. (gains u e).1) (omega arith) in
      omega arith;
}

pub one_gains : (plan : Plan) (state : State) (one : Entry) → Holds state → adds_one plan state one ≡ true → Gains state one.act
one_gains plan state one holds h =
    let P : Bool → Type 0 = λ b. is_asked_act one.act ≡ b → Gains state one.act in
    let gains : P (is_asked_act one.act) = elim (is_asked_act one.act) as P [
      | true ↦ λ asked. wrote_gains plan state one.thread one.reading (one ∷ []) holds (one_wrote plan state one asked h) one.act here
      | false ↦ λ unasked. nothing_gained state one.act (unasked_gains one.act unasked)
    ] in gains refl
  where
    unasked_gains : (act : Act) → is_asked_act act ≡ false → gained act ≡ None
    unasked_gains (Take n user slot) h = absurd (cc)
    unasked_gains (Grow n user slot) h = absurd (cc)
    unasked_gains _ h = refl

start_gains : (act : Act) → is_start act ≡ true → gained act ≡ None
start_gains (Start n user item until) h = refl
start_gains _ h = absurd (cc)

pub two_hold : (plan : Plan) (state : State) (one two : Entry) → Holds state → adds_two plan state one two ≡ true → Holds (after_entry plan (after_entry plan state one) two)
two_hold plan state one two holds h =
    let w = pair_wrote plan state one two h in
    let first = entry_holds plan state one holds (wrote_gains plan state one.thread one.reading (one ∷ two ∷ []) holds w one.act here) in
    entry_holds plan (after_entry plan state one) two first
    (nothing_gained (after_entry plan state one) two.act (start_gains two.act (second_starts w.move (state.entries + 1) one.thread one.reading one two w.wrote)))

-- ---- whole histories

nobody : (user : ℕ) (parts : List Part) → times_held user (map (λ (part : Part). opening_share) parts) ≡ 0
nobody user [] = refl
nobody user (part ∷ parts) = let later = nobody user parts in omega arith

pub opening_holds : (plan : Plan) → Holds (opening plan)
opening_holds plan = record { once = λ user. let none = nobody user plan.parts in omega arith; unmade = λ user above. nobody user plan.parts }

pub steps_hold : (plan : Plan) (history : List Entry) (state : State) → are_steps plan state history ≡ true → Holds state → Holds (after_entries plan state history)
steps_hold plan [] state h holds = holds
steps_hold plan (one ∷ []) state h holds = entry_holds plan state one holds (one_gains plan state one holds h)
steps_hold plan (one ∷ two ∷ rest) state h holds =
    elim (some_true (adds_one plan state one && are_steps plan (after_entry plan state one) (two ∷ rest)) _ h) [
      | inl first ↦
          let both = both_true (adds_one plan state one) _ first in
          steps_hold plan (two ∷ rest) (after_entry plan state one) both.1 (entry_holds plan state one holds (one_gains plan state one holds both.0))
      | inr second ↦
          let both = both_true (adds_two plan state one two) _ second in
          steps_hold plan rest (after_entry plan (after_entry plan state one) two) both.1 (two_hold plan state one two holds both.0)
    ]
