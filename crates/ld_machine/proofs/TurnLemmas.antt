-- No user plays two iterations at once.
use Rattle.std.proofs.Common.{◌≡◌, ◌≤◌, ◌+◌, ◌==◌, if◌then◌else◌, ℕ, zero, suc, Bool, true, false, not, cond, ◌&&◌, nat_lt, List, [], ◌∷◌, ◌++◌, Option, None, Some, find, map, filter, arith, refl, sym, ap, ◌∙◌, subst, inl, inr, ◌⊎◌, slice_get}
use Rattle.std.specs.Option.{option_map_or}
use Rattle.std.specs.List.{list_any}
use Rattle.std.proofs.lemmas.Grind.{common_steps}
use Rattle.ld_base.specs.Stint.{stint_of}
use Rattle.ld_base.specs.Tally.{TallyView}
use Rattle.ld_base.specs.declared.reply.Reply.TheVariants.{Noted}
use Rattle.ld_base.specs.declared.act.Act.{Act}
use Rattle.ld_base.specs.declared.act.Act.TheVariants.{Take, Grow, Start, Drop, Late, Return, Release, Stop, Close, Control}
use Rattle.ld_base.specs.declared.command.Command.TheVariants as commands
use Rattle.ld_base.specs.declared.entry.Entry.{Entry}
use Rattle.ld_machine.specs.Plan.{Part, Plan, owned_items, hard_moment}
use Rattle.ld_machine.specs.State.{StartsNothing, Condition, Idle, Busy, HeldUser, Share, State, is_idle_condition, is_idle, idle_users, times_among, times_held}
use Rattle.ld_machine.specs.Scenario.{Scenario, until_of}
use Rattle.ld_machine.specs.Moves.{CountLate, StartOn, GrowAndStart, TakeAndStart, DropArrival, Move, users_of, scenarios}
use Rattle.ld_machine.specs.Acts.{acts_of}
use Rattle.ld_machine.specs.Commands.{stop_commanded_share}
use Rattle.ld_machine.specs.Effect.{with_user, if_user, hold, put_condition, let_go, change_at, change_share, end_item, end_item_of, after_entry}
use Rattle.ld_machine.specs.History.{adds_one, adds_two, are_steps}
use Rattle.ld_machine.specs.OnTime.{is_asked_act}
use Rattle.ld_machine.specs.Settled.{is_turn_of, is_its_return}
use Rattle.ld_machine.specs.Turns.{is_played_alone, starts_alternate}
use Rattle.ld_machine.specs.Step.{Result, performed, is_busy_with, is_out, outcome_of, return_of, return_results}
use Rattle.ld_machine.specs.Same.{same_entries}
use Rattle.ld_machine.specs.Samples.{tally_fits}
use Rattle.ld_machine.specs.Room.{script_room}
use Rattle.ld_machine.specs.History.{until_in, is_done}
use Rattle.ld_machine.proofs.ListLemmas.{In, here, there, In-filter, In-from_any, both_true, some_true, number_itself}
use Rattle.ld_machine.proofs.SourceLemmas.{Source, by_stop, by_release, by_take, by_arrival, by_start, by_drop, by_close, source_of, on_answer}
use Rattle.ld_machine.proofs.StepLemmas.{Wrote, first_enabled, one_wrote, pair_wrote}
use Rattle.ld_machine.proofs.DropLemmas.{acts_back}
use Rattle.ld_machine.proofs.ItemLemmas.{stands_share}
use Rattle.ld_machine.proofs.HolderLemmas.{Holds, gained, hit, times-with_user, wrote_gains, one_gains, entry_holds, two_hold}

-- the iteration of this item is played
abbrev pub plays_item : ℕ → Condition → Bool
plays_item item Idle = false
plays_item item (Busy _ item' _) = item' == item

-- how many times a user is among some held users and plays this item, and how many times it is otherwise
abbrev pub playing : ℕ → ℕ → List HeldUser → ℕ
playing user item [] = 0
playing user item (h ∷ rest) = (if (h.user == user) && plays_item item h.condition then 1 else 0) + playing user item rest

abbrev pub not_playing : ℕ → ℕ → List HeldUser → ℕ
not_playing user item [] = 0
not_playing user item (h ∷ rest) = (if (h.user == user) && not (plays_item item h.condition) then 1 else 0) + not_playing user item rest

-- a count of the held users of the n-th of some shares
abbrev pub in_share : (List HeldUser → ℕ) → ℕ → List Share → ℕ
in_share count n [] = 0
in_share count zero (share ∷ rest) = count share.held
in_share count (suc n) (share ∷ rest) = in_share count n rest

-- how many times a user is held but for playing this item in the n-th share
abbrev pub elsewhere : ℕ → ℕ → ℕ → List Share → ℕ
elsewhere user item n [] = 0
elsewhere user item zero (share ∷ rest) = not_playing user item share.held + times_held user rest
elsewhere user item (suc n) (share ∷ rest) = times_among user share.held + elsewhere user item n rest

split_one : (a b : Bool) → (if a && b then 1 else 0) + (if a && not b then 1 else 0) ≡ (if a then 1 else 0)
split_one true true = refl
split_one true false = refl
split_one false b = refl

split_among : (user item : ℕ) (held : List HeldUser) → playing user item held + not_playing user item held ≡ times_among user held
split_among user item [] = refl
split_among user item (h ∷ rest) =
    let now = split_one (h.user == user) (plays_item item h.condition) in
    let later = split_among user item rest in
    omega arith

pub split_held : (user item n : ℕ) (shares : List Share) → in_share (playing user item) n shares + elsewhere user item n shares ≡ times_held user shares
split_held user item n [] = refl
split_held user item zero (share ∷ rest) = let now = split_among user item share.held in omega arith
split_held user item (suc n) (share ∷ rest) = let later = split_held user item n rest in omega arith

pub among_there : (user : ℕ) (h : HeldUser) {held : List HeldUser} → In h held → (h.user == user) ≡ true → 1 ≤ times_among user held
among_there user h here e = rw e (omega arith)
among_there user h (there more) e = let later = among_there user h more e in omega arith

not_playing_there : (user item : ℕ) (h : HeldUser) {held : List HeldUser} → In h held → (h.user == user) ≡ true → plays_item item h.condition ≡ false →
    1 ≤ not_playing user item held
not_playing_there user item h here e rests = rw (e, rests) (omega arith)
not_playing_there user item h (there more) e rests = let later = not_playing_there user item h more e rests in omega arith

held_there : (user : ℕ) (h : HeldUser) (share : Share) (m : ℕ) (shares : List Share) → slice_get shares m ≡ Some share → In h share.held →
    (h.user == user) ≡ true → 1 ≤ times_held user shares
held_there user h share m [] at held e = absurd (cc)
held_there user h share zero (x ∷ rest) at held e =
    let same : x ≡ share = cc in
    let now = among_there user h (subst (λ (z : Share). In h z.held) (sym same) held) e in
    omega arith
held_there user h share (suc m) (x ∷ rest) at held e = let later = held_there user h share m rest at held e in omega arith

-- a held user plays this item in the n-th share, or is held elsewhere
where_held : (user item : ℕ) (h : HeldUser) (share : Share) (n m : ℕ) (shares : List Share) → slice_get shares m ≡ Some share → In h share.held →
    (h.user == user) ≡ true → (1 ≤ elsewhere user item n shares) ⊎ ((m ≡ n) × (plays_item item h.condition ≡ true))
where_held user item h share n m [] at held e = absurd (cc)
where_held user item h share zero zero (x ∷ rest) at held e =
    let same : x ≡ share = cc in
    let P : Bool → Type 0 = λ b. plays_item item h.condition ≡ b → (1 ≤ elsewhere user item zero (x ∷ rest)) ⊎ ((zero ≡ zero) × (plays_item item h.condition ≡ true)) in
    let told : P (plays_item item h.condition) = elim (plays_item item h.condition) as P [
      | true ↦ λ plays. inr (refl, plays)
      | false ↦ λ rests.
          let now = not_playing_there user item h (subst (λ (z : Share). In h z.held) (sym same) held) e rests in
          inl (omega arith)
    ] in told refl
where_held user item h share zero (suc m) (x ∷ rest) at held e = let later = held_there user h share m rest at held e in inl (omega arith)
where_held user item h share (suc n) zero (x ∷ rest) at held e =
    let same : x ≡ share = cc in
    let now = among_there user h (subst (λ (z : Share). In h z.held) (sym same) held) e in
    inl (omega arith)
where_held user item h share (suc n) (suc m) (x ∷ rest) at held e =
    elim (where_held user item h share n m rest at held e) [
      | inl later ↦ inl (omega arith)
      | inr it ↦ inr (ap suc it.0, it.1)
    ]

-- the user plays this item in scenario n
abbrev pub Plays : State → ℕ → ℕ → ℕ → Type 0
Plays state n user item = 1 ≤ in_share (playing user item) n state.shares

-- so it is held nowhere else, and plays nothing else
plays_alone : (state : State) (n user item : ℕ) (h : HeldUser) (share : Share) (m : ℕ) → Holds state → Plays state n user item →
    slice_get state.shares m ≡ Some share → In h share.held → (h.user == user) ≡ true → (m ≡ n) × (plays_item item h.condition ≡ true)
plays_alone state n user item h share m holds plays at held e =
    elim (where_held user item h share n m state.shares at held e) [
      | inl other ↦
          let once = holds.once user in
          let split = split_held user item n state.shares in
          absurd (omega arith)
      | inr it ↦ it
    ]

-- ---- what changes of shares do to a user that plays

playing-with_user : (user item : ℕ) (h : HeldUser) (held : List HeldUser) → playing user item held ≤ playing user item (with_user h held)
playing-with_user user item h [] = omega arith
playing-with_user user item h (g ∷ rest) =
    let P : Bool → Type 0 = λ b. playing user item (g ∷ rest) ≤ playing user item (cond b (h ∷ g ∷ rest) (g ∷ with_user h rest)) in
    elim (nat_lt h.user g.user) as P [
      | true ↦ omega arith
      | false ↦ let later = playing-with_user user item h rest in omega arith
    ]

other_user : (one user other : ℕ) → (other == one) ≡ true → (one == user) ≡ false → (other == user) ≡ false
other_user one user other same apart = let e : other ≡ one = grind (arith, common_steps) in subst (λ u. (u == user) ≡ false) (sym e) apart

playing-if_user : (user item one : ℕ) (condition : Condition) (held : List HeldUser) → (one == user) ≡ false →
    playing user item held ≤ playing user item (map (if_user one condition) held)
playing-if_user user item one condition [] apart = omega arith
playing-if_user user item one condition (h ∷ rest) apart =
    let later = playing-if_user user item one condition rest apart in
    let P : Bool → Type 0 = λ b. (h.user == one) ≡ b →
    playing user item (h ∷ rest) ≤ playing user item ((cond b (record h { condition = condition }) h) ∷ map (if_user one condition) rest) in
    let kept : P (h.user == one) = elim (h.user == one) as P [
      | true ↦ λ e. rw (other_user one user h.user e apart) (omega arith)
      | false ↦ λ e. omega arith
    ] in kept refl

playing-let_go : (user item one : ℕ) (held : List HeldUser) → (one == user) ≡ false →
    playing user item held ≤ playing user item (filter (λ (h : HeldUser). not (h.user == one)) held)
playing-let_go user item one [] apart = omega arith
playing-let_go user item one (h ∷ rest) apart =
    let later = playing-let_go user item one rest apart in
    let kept_rest = filter (λ (g : HeldUser). not (g.user == one)) rest in
    let P : Bool → Type 0 = λ b. (h.user == one) ≡ b → playing user item (h ∷ rest) ≤ playing user item (cond (not b) (h ∷ kept_rest) kept_rest) in
    let kept : P (h.user == one) = elim (h.user == one) as P [
      | true ↦ λ e. rw (other_user one user h.user e apart) (omega arith)
      | false ↦ λ e. omega arith
    ] in kept refl

-- a change of one share that lowers no count
in_share-change : (count : List HeldUser → ℕ) (k n : ℕ) (change : Share → Share) (shares : List Share) →
    ((share : Share) → count share.held ≤ count (change share).held) → in_share count n shares ≤ in_share count n (change_at k change shares)
in_share-change count k n change [] bound = omega arith
in_share-change count zero zero change (share ∷ rest) bound = bound share
in_share-change count zero (suc n) change (share ∷ rest) bound = omega arith
in_share-change count (suc k) zero change (share ∷ rest) bound = omega arith
in_share-change count (suc k) (suc n) change (share ∷ rest) bound = in_share-change count k n change rest bound

in_share-stop : (count : List HeldUser → ℕ) (t n : ℕ) (shares : List Share) → in_share count n shares ≤ in_share count n (map (stop_commanded_share t) shares)
in_share-stop count t n [] = omega arith
in_share-stop count t zero (share ∷ rest) =
    let P : Bool → Type 0 = λ b. count share.held ≤ count (cond b share (record share { level = StartsNothing t })).held in
    elim share.closed as P [ true ↦ omega arith | false ↦ omega arith ]
in_share-stop count t (suc n) (share ∷ rest) = in_share-stop count t n rest

held-end_item : (count : List HeldUser → ℕ) (item : ℕ) (part : Part) (share : Share) → count share.held ≤ count (end_item part item share).held
held-end_item count item part share =
    let P : Bool → Type 0 = λ b. count share.held ≤ count (cond b (record share { ended = share.ended ++ item ∷ [] }) share).held in
    elim (list_any (λ k. k == item) (owned_items part.executor)) as P [ true ↦ omega arith | false ↦ omega arith ]

in_share-end : (count : List HeldUser → ℕ) (plan : Plan) (n k item : ℕ) (state : State) → in_share count n state.shares ≤ in_share count n (end_item_of plan k item state).shares
in_share-end count plan n k item state =
    let P : Option Part → Type 0 = λ o. in_share count n state.shares ≤ in_share count n (option_map_or (λ part. change_share state k (end_item part item)) o state).shares in
    elim (slice_get plan.parts k) as P [
      | None ↦ omega arith
      | Some part ↦ in_share-change count k n (end_item part item) state.shares (held-end_item count item part)
    ]

-- an act changes the condition of a user, or lets it go
abbrev pub touches : ℕ → Act → Bool
touches user (Start _ user' _ _) = user' == user
touches user (Return _ user' _ _ _) = user' == user
touches user (Release _ user') = user' == user
touches user _ = false

-- a user that plays goes on where an entry doesn't touch it
pub plays_on : (plan : Plan) (state : State) (at thread t : ℕ) (act : Act) (n user item : ℕ) → touches user act ≡ false →
    in_share (playing user item) n state.shares ≤ in_share (playing user item) n (after_entry plan state (record { turn = at; thread = thread; act = act; reading = t })).shares
plays_on plan state at thread t (Take k one slot) n user item apart =
    in_share-change (playing user item) k n (hold one slot) state.shares (λ share. playing-with_user user item (record { user = one; slot = slot; condition = Idle }) share.held)
plays_on plan state at thread t (Grow k one slot) n user item apart =
    in_share-change (playing user item) k n (hold one slot) state.shares (λ share. playing-with_user user item (record { user = one; slot = slot; condition = Idle }) share.held)
plays_on plan state at thread t (Start k one i until) n user item apart =
    let first = in_share-change (playing user item) k n (put_condition one (Busy thread i until)) state.shares (λ share. playing-if_user user item one (Busy thread i until) share.held apart) in
    let second = in_share-end (playing user item) plan n k i (change_share state k (put_condition one (Busy thread i until))) in
    omega arith
plays_on plan state at thread t (Drop k i) n user item apart = in_share-end (playing user item) plan n k i state
plays_on plan state at thread t (Late k i) n user item apart = in_share-end (playing user item) plan n k i state
plays_on plan state at thread t (Return k one i outcome tally) n user item apart =
    in_share-change (playing user item) k n (put_condition one Idle) state.shares (λ share. playing-if_user user item one Idle share.held apart)
plays_on plan state at thread t (Release k one) n user item apart =
    in_share-change (playing user item) k n (let_go one) state.shares (λ share. playing-let_go user item one share.held apart)
plays_on plan state at thread t (Stop k) n user item apart = in_share-change (playing user item) k n _ state.shares (λ share. omega arith)
plays_on plan state at thread t (Close k) n user item apart = in_share-change (playing user item) k n _ state.shares (λ share. omega arith)
plays_on plan state at thread t (Control commands.Stop) n user item apart = in_share-stop (playing user item) t n state.shares
plays_on plan state at thread t (Control (commands.Pause b)) n user item apart = omega arith
plays_on plan state at thread t (Control (commands.Vus v)) n user item apart = omega arith
plays_on plan state at thread t (Control (commands.VusMax v)) n user item apart = omega arith

-- ---- what a step's acts are about

-- the user is held by scenario n, under such a condition
pub record HeldAs (state : State) (n user : ℕ) (p : Condition → Bool) : Type 0 where
  pub share : Share
  pub holder : HeldUser
  pub stands : slice_get state.shares n ≡ Some share
  pub held : In holder share.held
  pub user_is : holder.user ≡ user
  pub as_is : p holder.condition ≡ true

-- what an act that is a step's only one finds: it starts and lets go idle users, and ends what is played
abbrev pub Finds : State → Act → Type 0
Finds state (Start n user _ _) = HeldAs state n user is_idle_condition
Finds state (Release n user) = HeldAs state n user is_idle_condition
Finds state (Return n user item _ _) = HeldAs state n user (plays_item item)
Finds state _ = Unit {0}

-- an idle user of a scenario that stands
idle_held : (plan : Plan) (state : State) (k : ℕ) (s : Scenario) (h : HeldUser) → slice_get (scenarios plan state) k ≡ Some s → In h (idle_users s.share) →
    HeldAs state k h.user is_idle_condition
idle_held plan state k s h stands idle =
    let kept = In-filter is_idle h s.share.held idle in
    record {
      share = s.share;
      holder = h;
      stands = (stands_share state.controls plan.parts state.shares k s stands).1;
      held = kept.0;
      user_is = refl;
      as_is = kept.1;
    }

-- what the only act of an enabled move finds
move_finds : (plan : Plan) (state : State) (k : ℕ) (s : Scenario) (t : ℕ) (move : Move) → slice_get (scenarios plan state) k ≡ Some s →
    Source (users_of plan state) k s t move → (act : Act) → acts_of move ≡ act ∷ [] → Finds state act
move_finds plan state k s t move stands (by_stop e) act same = let it : Stop k ≡ act = cc in subst (Finds state) it tt
move_finds plan state k s t move stands (by_release u idle e) act same =
    let it : Release k u.user ≡ act = cc in subst (Finds state) it (idle_held plan state k s u stands idle)
move_finds plan state k s t move stands (by_take user slot free slots e) act same = let it : Take k user slot ≡ act = cc in subst (Finds state) it tt
move_finds plan state k s t move stands (by_start u item idle e) act same =
    let it : Start k u.user item (until_of s u.slot t) ≡ act = cc in subst (Finds state) it (idle_held plan state k s u stands idle)
move_finds plan state k s t move stands (by_drop item e) act same = let it : Drop k item ≡ act = cc in subst (Finds state) it tt
move_finds plan state k s t move stands (by_close e) act same = let it : Close k ≡ act = cc in subst (Finds state) it tt
move_finds plan state k s t move stands (by_arrival a CountLate due e) act same = let it : Late k a.item ≡ act = cc in subst (Finds state) it tt
move_finds plan state k s t move stands (by_arrival a DropArrival due e) act same = let it : Drop k a.item ≡ act = cc in subst (Finds state) it tt
move_finds plan state k s t move stands (by_arrival a (StartOn user) due e) act same =
    let it : Start k user a.item (hard_moment s.part) ≡ act = cc in
    let on = on_answer (users_of plan state) k s t user e in
    subst (Finds state) it (subst (λ u. HeldAs state k u is_idle_condition) on.2 (idle_held plan state k s on.0 stands on.1))
move_finds plan state k s t move stands (by_arrival a (GrowAndStart user slot) due e) act same = absurd (cc)
move_finds plan state k s t move stands (by_arrival a (TakeAndStart user slot) due e) act same = absurd (cc)

-- the acts that entries have are those of the move that wrote them
pub acts_written : (plan : Plan) (state : State) (thread t : ℕ) (entries : List Entry) (w : Wrote plan state thread t entries) →
    acts_of w.move ≡ map (λ (e : Entry). e.act) entries
acts_written plan state thread t entries w =
    sym (acts_back (state.entries + 1) thread t (acts_of w.move)) ∙ ap (λ es. map (λ (e : Entry). e.act) es) w.wrote

busy_plays : (c : Condition) (thread item until : ℕ) → is_busy_with c thread item until ≡ true → plays_item item c ≡ true
busy_plays Idle thread item until h = absurd (cc)
busy_plays (Busy thread' item' until') thread item until h =
    let both = both_true ((thread' == thread) && (item' == item)) (until' == until) h in
    (both_true (thread' == thread) (item' == item) both.0).1

-- a stint that is out is played
out_held : (state : State) (thread n user item until : ℕ) → is_out state thread (stint_of n user item until) ≡ true → HeldAs state n user (plays_item item)
out_held state thread n user item until h =
    let P : Option Share → Type 0 = λ o. slice_get state.shares n ≡ o →
    option_map_or (λ (share : Share). list_any (λ (u : HeldUser). (u.user == user) && is_busy_with u.condition thread item until) share.held) o false ≡ true →
    HeldAs state n user (plays_item item) in
    let out : P (slice_get state.shares n) = elim (slice_get state.shares n) as P [
      | None ↦ λ e at. absurd (cc)
      | Some share ↦ λ e at.
          let found = In-from_any (λ (u : HeldUser). (u.user == user) && is_busy_with u.condition thread item until) share.held at in
          let both = both_true (found.0.user == user) (is_busy_with found.0.condition thread item until) found.2 in
          let is_it : found.0.user ≡ user = number_same found.0.user user both.0 in
          record { share = share; holder = found.0; stands = e; held = found.1; user_is = is_it; as_is = busy_plays found.0.condition thread item until both.1 }
    ] in out refl h
  where
    number_same : (a b : ℕ) → (a == b) ≡ true → a ≡ b
    number_same a b e = grind (arith, common_steps)

pub return_out : (plan : Plan) (state : State) (thread t n user item until : ℕ) (finished : Bool) (tally : TallyView) (entries : List Entry) →
    list_any (λ (r : Result). same_entries r.entries entries) (return_results plan state thread t (stint_of n user item until) finished tally) ≡ true →
    is_out state thread (stint_of n user item until) ≡ true
return_out plan state thread t n user item until finished tally entries h =
    let stint = stint_of n user item until in
    let results : Bool → List Result = λ b. cond b (performed plan state thread t Noted (return_of stint (outcome_of finished t stint.until) tally ∷ []) ∷ []) [] in
    let P : Bool → Type 0 = λ b. list_any (λ (r : Result). same_entries r.entries entries) (results b) ≡ true → b ≡ true in
    let both : P (is_out state thread stint && tally_fits plan.names (script_room plan n) tally) =
    elim (is_out state thread stint && tally_fits plan.names (script_room plan n) tally) as P [ true ↦ λ at. refl | false ↦ λ at. absurd (cc) ] in
    (both_true (is_out state thread stint) (tally_fits plan.names (script_room plan n) tally) (both h)).0

unasked_finds : (plan : Plan) (state : State) (at thread t : ℕ) (act : Act) → is_asked_act act ≡ false →
    adds_one plan state (record { turn = at; thread = thread; act = act; reading = t }) ≡ true → Finds state act
unasked_finds plan state at thread t (Return n user item outcome tally) unasked h =
    out_held state thread n user item (until_in state n user)
    (return_out plan state thread t n user item (until_in state n user) (is_done outcome) tally
    (record { turn = at; thread = thread; act = Return n user item outcome tally; reading = t } ∷ []) h)
unasked_finds plan state at thread t (Control command) unasked h = tt
unasked_finds plan state at thread t (Take n user slot) unasked h = tt
unasked_finds plan state at thread t (Grow n user slot) unasked h = tt
unasked_finds plan state at thread t (Drop n item) unasked h = tt
unasked_finds plan state at thread t (Late n item) unasked h = tt
unasked_finds plan state at thread t (Stop n) unasked h = tt
unasked_finds plan state at thread t (Close n) unasked h = tt
unasked_finds plan state at thread t (Start n user item until) unasked h = absurd (cc)
unasked_finds plan state at thread t (Release n user) unasked h = absurd (cc)

pub one_finds : (plan : Plan) (state : State) (one : Entry) → adds_one plan state one ≡ true → Finds state one.act
one_finds plan state one h =
    let P : Bool → Type 0 = λ b. is_asked_act one.act ≡ b → Finds state one.act in
    let finds : P (is_asked_act one.act) = elim (is_asked_act one.act) as P [
      | true ↦ λ asked.
          let w = one_wrote plan state one asked h in
          let where_it = first_enabled plan state one.reading w.move w.first in
          move_finds plan state where_it.number where_it.scenario one.reading w.move where_it.stands
          (source_of (users_of plan state) where_it.number where_it.scenario one.reading w.move where_it.enabled) one.act
          (acts_written plan state one.thread one.reading (one ∷ []) w)
      | false ↦ λ unasked. unasked_finds plan state one.turn one.thread one.reading one.act unasked h
    ] in finds refl

-- two acts of one step: a user is taken or grown by a scenario that stands, and starts there
pub record Pair (state : State) (one two : Act) : Type 0 where
  pub scenario : ℕ
  pub user : ℕ
  pub slot : ℕ
  pub item : ℕ
  pub until : ℕ
  pub share : Share
  pub stands : slice_get state.shares scenario ≡ Some share
  pub gains : (Take scenario user slot ≡ one) ⊎ (Grow scenario user slot ≡ one)
  pub starts : Start scenario user item until ≡ two

move_pair : (plan : Plan) (state : State) (k : ℕ) (s : Scenario) (t : ℕ) (move : Move) → slice_get (scenarios plan state) k ≡ Some s →
    Source (users_of plan state) k s t move → (one two : Act) → acts_of move ≡ one ∷ two ∷ [] → Pair state one two
move_pair plan state k s t move stands (by_arrival a (GrowAndStart user slot) due e) one two same = record {
  scenario = k;
  user = user;
  slot = slot;
  item = a.item;
  until = hard_moment s.part;
  share = s.share;
  stands = (stands_share state.controls plan.parts state.shares k s stands).1;
  gains = inr (cc);
  starts = cc;
}
move_pair plan state k s t move stands (by_arrival a (TakeAndStart user slot) due e) one two same = record {
  scenario = k;
  user = user;
  slot = slot;
  item = a.item;
  until = hard_moment s.part;
  share = s.share;
  stands = (stands_share state.controls plan.parts state.shares k s stands).1;
  gains = inl (cc);
  starts = cc;
}
move_pair plan state k s t move stands (by_arrival a CountLate due e) one two same = absurd (cc)
move_pair plan state k s t move stands (by_arrival a DropArrival due e) one two same = absurd (cc)
move_pair plan state k s t move stands (by_arrival a (StartOn user) due e) one two same = absurd (cc)
move_pair plan state k s t move stands (by_stop e) one two same = absurd (cc)
move_pair plan state k s t move stands (by_release u idle e) one two same = absurd (cc)
move_pair plan state k s t move stands (by_take user slot free slots e) one two same = absurd (cc)
move_pair plan state k s t move stands (by_start u item idle e) one two same = absurd (cc)
move_pair plan state k s t move stands (by_drop item e) one two same = absurd (cc)
move_pair plan state k s t move stands (by_close e) one two same = absurd (cc)

pub pair_of : (plan : Plan) (state : State) (one two : Entry) → adds_two plan state one two ≡ true → Pair state one.act two.act
pair_of plan state one two h =
    let w = pair_wrote plan state one two h in
    let where_it = first_enabled plan state one.reading w.move w.first in
    move_pair plan state where_it.number where_it.scenario one.reading w.move where_it.stands
    (source_of (users_of plan state) where_it.number where_it.scenario one.reading w.move where_it.enabled) one.act two.act
    (acts_written plan state one.thread one.reading (one ∷ two ∷ []) w)

-- ---- the next turn of a user that plays

idle_plays_nothing : (c : Condition) (item : ℕ) → is_idle_condition c ≡ true → plays_item item c ≡ true → ⊥
idle_plays_nothing Idle item idle plays = cc
idle_plays_nothing (Busy thread item' until) item idle plays = cc

pub user_found : (state : State) (k one user : ℕ) (p : Condition → Bool) (f : HeldAs state k one p) → (one == user) ≡ true → (f.holder.user == user) ≡ true
user_found state k one user p f e = subst (λ u. (u == user) ≡ true) (sym f.user_is) e

-- an act of a step that is a turn of a user that plays is the Return of its iteration; else it doesn't touch it
abbrev pub Turn : ℕ → ℕ → ℕ → Act → Type 0
Turn n user item act =
    ((is_turn_of user act ≡ true) × (is_its_return n user item act ≡ true)) ⊎ ((is_turn_of user act ≡ false) × (touches user act ≡ false))

idle_apart : (state : State) (n user item k one : ℕ) → Holds state → Plays state n user item → HeldAs state k one is_idle_condition → (one == user) ≡ false
idle_apart state n user item k one holds plays f =
    let P : Bool → Type 0 = λ b. (one == user) ≡ b → (one == user) ≡ false in
    let apart : P (one == user) = elim (one == user) as P [
      | false ↦ λ e. e
      | true ↦ λ e.
          let it = plays_alone state n user item f.holder f.share k holds plays f.stands f.held (user_found state k one user is_idle_condition f e) in
          absurd (idle_plays_nothing f.holder.condition item f.as_is it.1)
    ] in apart refl

same_item : (c : Condition) (a b : ℕ) → plays_item a c ≡ true → plays_item b c ≡ true → a ≡ b
same_item Idle a b ha hb = absurd (cc)
same_item (Busy thread item until) a b ha hb = grind (arith, common_steps)

pub act_turn : (state : State) (n user item : ℕ) (act : Act) → Holds state → Plays state n user item → Finds state act → Turn n user item act
act_turn state n user item (Start k one i until) holds plays f =
    let apart = idle_apart state n user item k one holds plays f in inr (apart, apart)
act_turn state n user item (Release k one) holds plays f = inr (refl, idle_apart state n user item k one holds plays f)
act_turn state n user item (Return k one i outcome tally) holds plays f =
    let P : Bool → Type 0 = λ b. (one == user) ≡ b → Turn n user item (Return k one i outcome tally) in
    let turn : P (one == user) = elim (one == user) as P [
      | false ↦ λ e. inr (e, e)
      | true ↦ λ e.
          let it = plays_alone state n user item f.holder f.share k holds plays f.stands f.held (user_found state k one user (plays_item i) f e) in
          let same = same_item f.holder.condition i item f.as_is it.1 in
          inl (e, rw (e, it.0, same, number_itself n, number_itself item) refl)
    ] in turn refl
act_turn state n user item (Take k one slot) holds plays f = inr (refl, refl)
act_turn state n user item (Grow k one slot) holds plays f = inr (refl, refl)
act_turn state n user item (Drop k i) holds plays f = inr (refl, refl)
act_turn state n user item (Late k i) holds plays f = inr (refl, refl)
act_turn state n user item (Stop k) holds plays f = inr (refl, refl)
act_turn state n user item (Close k) holds plays f = inr (refl, refl)
act_turn state n user item (Control command) holds plays f = inr (refl, refl)

-- a user that a step takes or grows doesn't play
gained_apart : (state : State) (n user item one : ℕ) → Plays state n user item → times_held one state.shares ≡ 0 → (one == user) ≡ false
gained_apart state n user item one plays free =
    let P : Bool → Type 0 = λ b. (one == user) ≡ b → (one == user) ≡ false in
    let apart : P (one == user) = elim (one == user) as P [
      | false ↦ λ e. e
      | true ↦ λ e.
          let same : one ≡ user = grind (arith, common_steps) in
          let none : times_held user state.shares ≡ 0 = subst (λ u. times_held u state.shares ≡ 0) same free in
          let split = split_held user item n state.shares in
          absurd (omega arith)
    ] in apart refl

-- the first of two acts of a step is no turn, and touches nobody
gain_turn : (n user : ℕ) (k one slot : ℕ) (act : Act) → (Take k one slot ≡ act) ⊎ (Grow k one slot ≡ act) → (is_turn_of user act ≡ false) × (touches user act ≡ false)
gain_turn n user k one slot act gains = elim gains [
  | inl e ↦ (subst (λ a. is_turn_of user a ≡ false) e refl, subst (λ a. touches user a ≡ false) e refl)
  | inr e ↦ (subst (λ a. is_turn_of user a ≡ false) e refl, subst (λ a. touches user a ≡ false) e refl)
]

-- whom the first of two acts takes or grows is held by nobody
pair_free : (plan : Plan) (state : State) (one two : Entry) → Holds state → adds_two plan state one two ≡ true → (p : Pair state one.act two.act) →
    times_held p.user state.shares ≡ 0
pair_free plan state one two holds h p =
    let gains = wrote_gains plan state one.thread one.reading (one ∷ two ∷ []) holds (pair_wrote plan state one two h) one.act here in
    elim p.gains [
      | inl e ↦ (gains p.user (subst (λ a. gained a ≡ Some p.user) e refl)).0
      | inr e ↦ (gains p.user (subst (λ a. gained a ≡ Some p.user) e refl)).0
    ]

pub pair_turns : (plan : Plan) (state : State) (one two : Entry) (n user item : ℕ) → Holds state → Plays state n user item → adds_two plan state one two ≡ true →
    ((is_turn_of user one.act ≡ false) × (touches user one.act ≡ false)) × ((is_turn_of user two.act ≡ false) × (touches user two.act ≡ false))
pair_turns plan state one two n user item holds plays h =
    let p = pair_of plan state one two h in
    let apart = gained_apart state n user item p.user plays (pair_free plan state one two holds h p) in (
      gain_turn n user p.scenario p.user p.slot one.act p.gains,
      (subst (λ a. is_turn_of user a ≡ false) p.starts apart, subst (λ a. touches user a ≡ false) p.starts apart),
    )

-- the next Start or Return of the user in these entries, if there is one, is the Return of this iteration
abbrev NextReturns : ℕ → ℕ → ℕ → List Entry → Type 0
NextReturns n user item history =
    option_map_or (λ (entry : Entry). is_its_return n user item entry.act) (find (λ (entry : Entry). is_turn_of user entry.act) history) true ≡ true

turn_next : (n user item : ℕ) (one : Entry) (rest : List Entry) → Turn n user item one.act → (touches user one.act ≡ false → NextReturns n user item rest) →
    NextReturns n user item (one ∷ rest)
turn_next n user item one rest turn later = elim turn [
  | inl its ↦ rw its.0 its.1
  | inr none ↦ rw none.0 (later none.1)
]

pub goes_on : (plan : Plan) (state : State) (one : Entry) (n user item : ℕ) → touches user one.act ≡ false → Plays state n user item → Plays (after_entry plan state one) n user item
goes_on plan state one n user item apart plays =
    let more = plays_on plan state one.turn one.thread one.reading one.act n user item apart in omega arith

pub one_holds : (plan : Plan) (state : State) (one : Entry) → Holds state → adds_one plan state one ≡ true → Holds (after_entry plan state one)
one_holds plan state one holds h = entry_holds plan state one holds (one_gains plan state one holds h)

next_returns : (plan : Plan) (n user item : ℕ) (history : List Entry) (state : State) → are_steps plan state history ≡ true → Holds state → Plays state n user item →
    NextReturns n user item history
next_returns plan n user item [] state h holds plays = refl
next_returns plan n user item (one ∷ []) state h holds plays =
    turn_next n user item one [] (act_turn state n user item one.act holds plays (one_finds plan state one h)) (λ apart. refl)
next_returns plan n user item (one ∷ two ∷ rest) state h holds plays =
    elim (some_true (adds_one plan state one && are_steps plan (after_entry plan state one) (two ∷ rest)) _ h) [
      | inl first ↦
          let both = both_true (adds_one plan state one) _ first in
          turn_next n user item one (two ∷ rest) (act_turn state n user item one.act holds plays (one_finds plan state one both.0))
          (λ apart. next_returns plan n user item (two ∷ rest) (after_entry plan state one) both.1 (one_holds plan state one holds both.0) (goes_on plan state one n user item apart plays))
      | inr second ↦
          let both = both_true (adds_two plan state one two) _ second in
          let turns = pair_turns plan state one two n user item holds plays both.0 in
          let later = next_returns plan n user item rest (after_entry plan (after_entry plan state one) two) both.1 (two_hold plan state one two holds both.0)
          (goes_on plan (after_entry plan state one) two n user item turns.1.1 (goes_on plan state one n user item turns.0.1 plays)) in
          rw (turns.0.0, turns.1.0) later
    ]

-- ---- a user that starts plays

pub times_there : (user : ℕ) (h : HeldUser) (share : Share) (n : ℕ) (shares : List Share) → slice_get shares n ≡ Some share → In h share.held →
    (h.user == user) ≡ true → 1 ≤ in_share (times_among user) n shares
times_there user h share n [] at held e = absurd (cc)
times_there user h share zero (x ∷ rest) at held e =
    let same : x ≡ share = cc in among_there user h (subst (λ (z : Share). In h z.held) (sym same) held) e
times_there user h share (suc n) (x ∷ rest) at held e = times_there user h share n rest at held e

playing-put : (user thread item until : ℕ) (held : List HeldUser) → 1 ≤ times_among user held → 1 ≤ playing user item (map (if_user user (Busy thread item until)) held)
playing-put user thread item until [] h = absurd (omega arith)
playing-put user thread item until (u ∷ rest) h =
    let P : Bool → Type 0 = λ b. (u.user == user) ≡ b → 1 ≤ (cond b 1 0) + times_among user rest →
    1 ≤ playing user item ((cond b (record u { condition = Busy thread item until }) u) ∷ map (if_user user (Busy thread item until)) rest) in
    let put : P (u.user == user) = elim (u.user == user) as P [
      | true ↦ λ e some. rw (e, number_itself item) (omega arith)
      | false ↦ λ e some. let later = playing-put user thread item until rest (omega arith) in omega arith
    ] in put refl h

in_share-put : (user thread item until n : ℕ) (shares : List Share) → 1 ≤ in_share (times_among user) n shares →
    1 ≤ in_share (playing user item) n (change_at n (put_condition user (Busy thread item until)) shares)
in_share-put user thread item until n [] h = absurd (omega arith)
in_share-put user thread item until zero (share ∷ rest) h = playing-put user thread item until share.held h
in_share-put user thread item until (suc n) (share ∷ rest) h = in_share-put user thread item until n rest h

in_share-hold : (user slot n : ℕ) (share : Share) (shares : List Share) → slice_get shares n ≡ Some share →
    1 ≤ in_share (times_among user) n (change_at n (hold user slot) shares)
in_share-hold user slot n share [] at = absurd (cc)
in_share-hold user slot zero share (x ∷ rest) at =
    let more = times-with_user user (record { user = user; slot = slot; condition = Idle }) x.held in
    let itself : hit user user ≡ 1 = rw (number_itself user) refl in
    omega arith
in_share-hold user slot (suc n) share (x ∷ rest) at = in_share-hold user slot n share rest at

pub start_plays : (plan : Plan) (state : State) (at thread t n user item until : ℕ) → 1 ≤ in_share (times_among user) n state.shares →
    Plays (after_entry plan state (record { turn = at; thread = thread; act = Start n user item until; reading = t })) n user item
start_plays plan state at thread t n user item until h =
    let first = in_share-put user thread item until n state.shares h in
    let second = in_share-end (playing user item) plan n n item (change_share state n (put_condition user (Busy thread item until))) in
    omega arith

pub gain_held : (plan : Plan) (state : State) (at thread t : ℕ) (act : Act) (k user slot : ℕ) (share : Share) → slice_get state.shares k ≡ Some share →
    (Take k user slot ≡ act) ⊎ (Grow k user slot ≡ act) →
    1 ≤ in_share (times_among user) k (after_entry plan state (record { turn = at; thread = thread; act = act; reading = t })).shares
gain_held plan state at thread t act k user slot share stands gains =
    let Q : Act → Type 0 = λ a. 1 ≤ in_share (times_among user) k (after_entry plan state (record { turn = at; thread = thread; act = a; reading = t })).shares in
    elim gains [
      | inl e ↦ subst Q e (in_share-hold user slot k share state.shares stands)
      | inr e ↦ subst Q e (in_share-hold user slot k share state.shares stands)
    ]

-- ---- whole histories

entry_alone : (plan : Plan) (state : State) (at thread t : ℕ) (act : Act) (rest : List Entry) →
    let after = after_entry plan state (record { turn = at; thread = thread; act = act; reading = t }) in
    are_steps plan after rest ≡ true → Holds after → Finds state act → is_played_alone act rest ≡ true
entry_alone plan state at thread t (Start n user item until) rest h holds f =
    let it = times_there user f.holder f.share n state.shares f.stands f.held (user_found state n user user is_idle_condition f (number_itself user)) in
    next_returns plan n user item rest _ h holds (start_plays plan state at thread t n user item until it)
entry_alone plan state at thread t _ rest h holds f = refl

no_start_alone : (k user slot : ℕ) (act : Act) (rest : List Entry) → (Take k user slot ≡ act) ⊎ (Grow k user slot ≡ act) → is_played_alone act rest ≡ true
no_start_alone k user slot act rest gains = elim gains [
  | inl e ↦ subst (λ a. is_played_alone a rest ≡ true) e refl
  | inr e ↦ subst (λ a. is_played_alone a rest ≡ true) e refl
]

second_alone : (plan : Plan) (state : State) (at thread t n user item until : ℕ) (act : Act) (rest : List Entry) →
    let after = after_entry plan state (record { turn = at; thread = thread; act = act; reading = t }) in
    are_steps plan after rest ≡ true → Holds after → Start n user item until ≡ act → 1 ≤ in_share (times_among user) n state.shares → is_played_alone act rest ≡ true
second_alone plan state at thread t n user item until act rest h holds e it =
    let Q : Act → Type 0 = λ a.
    are_steps plan (after_entry plan state (record { turn = at; thread = thread; act = a; reading = t })) rest ≡ true →
    Holds (after_entry plan state (record { turn = at; thread = thread; act = a; reading = t })) → is_played_alone a rest ≡ true in
    let started : Q (Start n user item until) = λ steps hold. next_returns plan n user item rest _ steps hold (start_plays plan state at thread t n user item until it) in
    subst Q e started h holds

pub steps_alternate : (plan : Plan) (history : List Entry) (state : State) → are_steps plan state history ≡ true → Holds state → starts_alternate history ≡ true
steps_alternate plan [] state h holds = refl
steps_alternate plan (one ∷ []) state h holds =
    rw (entry_alone plan state one.turn one.thread one.reading one.act [] refl (one_holds plan state one holds h) (one_finds plan state one h)) refl
steps_alternate plan (one ∷ two ∷ rest) state h holds =
    elim (some_true (adds_one plan state one && are_steps plan (after_entry plan state one) (two ∷ rest)) _ h) [
      | inl first ↦
          let both = both_true (adds_one plan state one) _ first in
          let held = one_holds plan state one holds both.0 in
          rw (entry_alone plan state one.turn one.thread one.reading one.act (two ∷ rest) both.1 held (one_finds plan state one both.0))
          (steps_alternate plan (two ∷ rest) (after_entry plan state one) both.1 held)
      | inr second ↦
          let both = both_true (adds_two plan state one two) _ second in
          let held = two_hold plan state one two holds both.0 in
          let p = pair_of plan state one two both.0 in
          let there_now = gain_held plan state one.turn one.thread one.reading one.act p.scenario p.user p.slot p.share p.stands p.gains in
          rw (
            no_start_alone p.scenario p.user p.slot one.act (two ∷ rest) p.gains,
            second_alone plan (after_entry plan state one) two.turn two.thread two.reading p.scenario p.user p.item p.until two.act rest both.1 held p.starts there_now,
          )
          (steps_alternate plan rest (after_entry plan (after_entry plan state one) two) both.1 held)
    ]
