-- How many iterations of a scenario are started and ended, and how many items are no longer open.
use Rattle.std.proofs.Common.{◌≡◌, ◌<◌, ◌+◌, ◌==◌, if◌then◌else◌, ℕ, zero, suc, Bool, true, false, not, cond, ◌&&◌, List, [], ◌∷◌, ◌⊎◌, inl, inr, Option, None, Some, length, map, filter, arith, refl, sym, ap, ◌∙◌, subst, slice_get, length-append}
use Rattle.std.specs.Prelude.{count_by}
use Rattle.std.specs.List.{list_all, cons_option}
use Rattle.std.specs.Option.{option_map_or}
use Rattle.std.proofs.lemmas.Bool.{true≢false, not-true}
use Rattle.std.proofs.lemmas.Grind.{common_steps}
use Rattle.std.proofs.lemmas.List.Sums.{sum_by-cons}
use Rattle.std.proofs.lemmas.Option.{slice_get_within}
use Rattle.ld_base.specs.Tally.{TallyView}
use Rattle.ld_base.specs.declared.act.Act.{Act}
use Rattle.ld_base.specs.declared.act.Act.TheVariants.{Take, Grow, Start, Drop, Late, Return, Release, Stop, Close, Control}
use Rattle.ld_base.specs.declared.act.Outcome.{Outcome}
use Rattle.ld_base.specs.declared.act.Outcome.TheVariants.{Done, Interrupted}
use Rattle.ld_base.specs.declared.command.Command.TheVariants as commands
use Rattle.ld_base.specs.declared.entry.Entry.{Entry}
use Rattle.ld_machine.specs.Plan.{Part, Plan, owned_items}
use Rattle.ld_machine.specs.State.{Halted, Condition, Idle, Busy, HeldUser, Share, State, is_busy_condition, is_idle, is_busy, busy_users, opening, opening_share, times_held}
use Rattle.ld_machine.specs.Commands.{stop_commanded_share}
use Rattle.ld_machine.specs.Effect.{hold, put_condition, let_go, change_at, change_share, end_item, end_item_of, after_entry, after_entries, state_after}
use Rattle.ld_machine.specs.History.{adds_one, adds_two, are_steps, IsLegal}
use Rattle.ld_machine.specs.Settled.{item_of, items_in, has_items, is_distinct, nobody_held, IsSettled}
use Rattle.ld_machine.specs.Counted.{how_many, starts_item, ends_done, ends_interrupted, drops_item, counts_late, acts_written}
use Rattle.ld_machine.specs.Together.{HoldsOnce}
use Rattle.ld_machine.proofs.ListLemmas.{In, here, there, In-filter, any-from_In, all_at, both_true, some_true, Contains-from_In}
use Rattle.ld_machine.proofs.StepLemmas.{pair_wrote}
use Rattle.ld_machine.proofs.ItemLemmas.{has, ended_in, is_there, there_changed}
use Rattle.ld_machine.proofs.HolderLemmas.{Holds, Gains, wrote_gains, two_hold, opening_holds}
use Rattle.ld_machine.proofs.TurnLemmas.{in_share, HeldAs, Finds, plays_item, one_finds, one_holds, pair_of}
use Rattle.ld_machine.proofs.SlotLemmas.{in_share-other, in_share-at}
use Rattle.ld_machine.proofs.FirstOfAllLemmas.{false_unless}
use Rattle.ld_machine.proofs.BusyLemmas.{same_number, busy_hold, busy_let_go, busy_put_busy, busy_put_idle, held_end_item, held_stop}
use Rattle.ld_machine.proofs.FreeLemmas.{among_held}
use Rattle.ld_machine.proofs.BusyStepLemmas.{change_stands, hold_once}
use Rattle.ld_machine.proofs.ScenarioListLemmas.{length-entries, length-opening}
use Rattle.ld_machine.proofs.SettledLemmas.{settled_each, settled_item}
use Rattle.ld_machine.proofs.SettlesShareLemmas.{no_length}
use Rattle.ld_machine.proofs.SettlesItemLemmas.{same_ended, stop_ended, opening_ended, steps_owned}
use Rattle.ld_machine.proofs.UnsettledLemmas.{its_share_there, shares_there, passes_place, there_below}

-- 1 where a test holds
abbrev one_if : Bool → ℕ
one_if test = cond test 1 0

how_many-first : (kind : Act → Bool) (one : Entry) (rest : List Entry) → how_many kind (one ∷ rest) ≡ one_if (kind one.act) + how_many kind rest
how_many-first kind one rest = sum_by-cons (λ act. one_if (kind act)) one.act (acts_written rest)

numbers_apart : (a b : ℕ) → (a == b) ≡ false → a ≡ b → ⊥
numbers_apart a b e same = grind (arith, common_steps)

-- ---- items

-- 1 where there is an item
abbrev item_count : Option ℕ → ℕ
item_count None = 0
item_count (Some item) = 1

length-front : (o : Option ℕ) (items : List ℕ) → length (cons_option o items) ≡ item_count o + length items
length-front None items = omega arith
length-front (Some item) items = omega arith

-- the acts that end an item are the Starts, Drops and Lates
item_counted : (n : ℕ) (act : Act) → one_if (starts_item n act) + one_if (drops_item n act) + one_if (counts_late n act) ≡ item_count (item_of n act)
item_counted n (Start k user item until) =
    let P : Bool → Type 0 = λ b. one_if b + 0 + 0 ≡ item_count (cond b (Some item) None) in
    elim (k == n) as P [ true ↦ refl | false ↦ refl ]
item_counted n (Drop k item) =
    let P : Bool → Type 0 = λ b. 0 + one_if b + 0 ≡ item_count (cond b (Some item) None) in
    elim (k == n) as P [ true ↦ refl | false ↦ refl ]
item_counted n (Late k item) =
    let P : Bool → Type 0 = λ b. 0 + 0 + one_if b ≡ item_count (cond b (Some item) None) in
    elim (k == n) as P [ true ↦ refl | false ↦ refl ]
item_counted n (Take k user slot) = refl
item_counted n (Grow k user slot) = refl
item_counted n (Return k user item outcome tally) = refl
item_counted n (Release k user) = refl
item_counted n (Stop k) = refl
item_counted n (Close k) = refl
item_counted n (Control command) = refl

items_counted : (n : ℕ) (history : List Entry) →
    how_many (starts_item n) history + how_many (drops_item n) history + how_many (counts_late n) history ≡ length (items_in n history)
items_counted n [] = refl
items_counted n (one ∷ rest) =
    let later = items_counted n rest in
    let now = item_counted n one.act in
    let starts = how_many-first (starts_item n) one rest in
    let drops = how_many-first (drops_item n) one rest in
    let lates = how_many-first (counts_late n) one rest in
    let front = length-front (item_of n one.act) (items_in n rest) in
    omega arith

-- the ended items of a share that there is
ended_at : (n : ℕ) (share : Share) (shares : List Share) → slice_get shares n ≡ Some share → ended_in shares n ≡ share.ended
ended_at n share [] at = absurd (cc)
ended_at zero share (x ∷ rest) at = let same : x ≡ share = cc in ap (λ (z : Share). z.ended) same
ended_at (suc n) share (x ∷ rest) at = ended_at n share rest at

-- a change of another share leaves what has ended
other_ended : (k n : ℕ) (change : Share → Share) (shares : List Share) → (k ≡ n → ⊥) → ended_in (change_at k change shares) n ≡ ended_in shares n
other_ended k n change [] apart = refl
other_ended zero zero change (share ∷ rest) apart = absurd (apart refl)
other_ended zero (suc n) change (share ∷ rest) apart = refl
other_ended (suc k) zero change (share ∷ rest) apart = refl
other_ended (suc k) (suc n) change (share ∷ rest) apart = other_ended k n change rest (λ e. apart (ap suc e))

-- an owned item that ends is one more
own_ended : (part : Part) (item n : ℕ) (shares : List Share) → is_there shares n ≡ true → has (owned_items part.executor) item ≡ true →
    length (ended_in (change_at n (end_item part item) shares) n) ≡ length (ended_in shares n) + 1
own_ended part item n [] h owned = absurd (cc)
own_ended part item zero (share ∷ rest) h owned = rw owned (length-append share.ended (item ∷ []))
own_ended part item (suc n) (share ∷ rest) h owned = own_ended part item n rest h owned

module _ (plan : Plan) (part : Part) (n : ℕ) (stands : slice_get plan.parts n ≡ Some part) where
  end_counted : (k item : ℕ) (state : State) → is_there state.shares n ≡ true →
      ((i : ℕ) → (if k == n then Some item else None) ≡ Some i → has (owned_items part.executor) i ≡ true) →
      length (ended_in (end_item_of plan k item state).shares n) ≡ length (ended_in state.shares n) + item_count (if k == n then Some item else None)
  end_counted k item state h owned =
      let P : Bool → Type 0 = λ b. (k == n) ≡ b → ((i : ℕ) → cond b (Some item) None ≡ Some i → has (owned_items part.executor) i ≡ true) →
      length (ended_in (end_item_of plan k item state).shares n) ≡ length (ended_in state.shares n) + item_count (cond b (Some item) None) in
      let counted : P (k == n) = elim (k == n) as P [
        | true ↦ λ e own.
            let it : length (ended_in (end_item_of plan n item state).shares n) ≡ length (ended_in state.shares n) + 1 =
            rw stands (own_ended part item n state.shares h (own item refl)) in
            subst (λ j. length (ended_in (end_item_of plan j item state).shares n) ≡ length (ended_in state.shares n) + 1) (sym (same_number k n e)) it
        | false ↦ λ e own.
            let Q : Option Part → Type 0 = λ o.
            ended_in (option_map_or (λ owner. change_share state k (end_item owner item)) o state).shares n ≡ ended_in state.shares n in
            let kept : Q (slice_get plan.parts k) = elim (slice_get plan.parts k) as Q [
              | None ↦ refl
              | Some owner ↦ other_ended k n (end_item owner item) state.shares (numbers_apart k n e)
            ] in
            let same = ap length kept in omega arith
      ] in counted refl owned

  -- an entry ends its item, if it has one, where that is an owned one
  entry_ended : (state : State) (at thread t : ℕ) (act : Act) → is_there state.shares n ≡ true →
      ((i : ℕ) → item_of n act ≡ Some i → has (owned_items part.executor) i ≡ true) →
      length (ended_in (after_entry plan state (record { turn = at; thread = thread; act = act; reading = t })).shares n)
      ≡ length (ended_in state.shares n) + item_count (item_of n act)
  entry_ended state at thread t (Take k user slot) h owned =
      let same = ap length (same_ended (hold user slot) k n state.shares (λ share. refl)) in omega arith
  entry_ended state at thread t (Grow k user slot) h owned =
      let same = ap length (same_ended (hold user slot) k n state.shares (λ share. refl)) in omega arith
  entry_ended state at thread t (Start k user item until) h owned =
      let started = change_share state k (put_condition user (Busy thread item until)) in
      let same = ap length (same_ended (put_condition user (Busy thread item until)) k n state.shares (λ share. refl)) in
      let ended = end_counted k item started (there_changed k n (put_condition user (Busy thread item until)) state.shares ∙ h) owned in
      omega arith
  entry_ended state at thread t (Drop k item) h owned = end_counted k item state h owned
  entry_ended state at thread t (Late k item) h owned = end_counted k item state h owned
  entry_ended state at thread t (Return k user item outcome tally) h owned =
      let same = ap length (same_ended (put_condition user Idle) k n state.shares (λ share. refl)) in omega arith
  entry_ended state at thread t (Release k user) h owned =
      let same = ap length (same_ended (let_go user) k n state.shares (λ share. refl)) in omega arith
  entry_ended state at thread t (Stop k) h owned =
      let same = ap length (same_ended (λ (share : Share). record share { level = Halted }) k n state.shares (λ share. refl)) in omega arith
  entry_ended state at thread t (Close k) h owned =
      let same = ap length (same_ended (λ (share : Share). record share { closed = true }) k n state.shares (λ share. refl)) in omega arith
  entry_ended state at thread t (Control commands.Stop) h owned = let same = ap length (stop_ended t n state.shares) in omega arith
  entry_ended state at thread t (Control (commands.Pause b)) h owned = omega arith
  entry_ended state at thread t (Control (commands.Vus v)) h owned = omega arith
  entry_ended state at thread t (Control (commands.VusMax v)) h owned = omega arith

  first_owned : (o : Option ℕ) (items : List ℕ) → list_all (λ item. has (owned_items part.executor) item) (cons_option o items) ≡ true →
      ((i : ℕ) → o ≡ Some i → has (owned_items part.executor) i ≡ true) × (list_all (λ item. has (owned_items part.executor) item) items ≡ true)
  first_owned None items all = (λ i e. absurd (cc), all)
  first_owned (Some item) items all =
      let both = both_true (has (owned_items part.executor) item) _ all in
      (λ i e. let same : item ≡ i = cc in subst (λ k. has (owned_items part.executor) k ≡ true) same both.0, both.1)

  -- each item that entries end has ended behind them
  entries_ended : (history : List Entry) (state : State) → n < length state.shares →
      list_all (λ item. has (owned_items part.executor) item) (items_in n history) ≡ true →
      length (ended_in (after_entries plan state history).shares n) ≡ length (ended_in state.shares n) + length (items_in n history)
  entries_ended [] state below all = omega arith
  entries_ended (one ∷ rest) state below all =
      let owned = first_owned (item_of n one.act) (items_in n rest) all in
      let now = entry_ended state one.turn one.thread one.reading one.act (there_below state.shares n below) owned.0 in
      let same = length-entries plan (one ∷ []) state in
      let later = entries_ended rest (after_entry plan state one) (omega arith) owned.1 in
      let front = length-front (item_of n one.act) (items_in n rest) in
      omega arith

-- started, dropped and late items together are those that have ended
pub items_are_ended : (plan : Plan) (history : List Entry) (n : ℕ) (part : Part) (share : Share) → IsLegal plan history →
    slice_get plan.parts n ≡ Some part → has_items part.executor ≡ true → slice_get (state_after plan history).shares n ≡ Some share →
    how_many (starts_item n) history + how_many (drops_item n) history + how_many (counts_late n) history ≡ length share.ended
items_are_ended plan history n part share legal is some stands =
    let opened = length-opening plan.parts in
    let within = slice_get_within plan.parts n part is in
    let ended = entries_ended plan part n is history (opening plan) (omega arith) (steps_owned plan part n is some history (opening plan) legal) in
    let none = ap length (opening_ended n plan.parts) in
    let its = ap length (ended_at n share (state_after plan history).shares stands) in
    let counted = items_counted n history in
    omega arith

-- ---- iterations

-- how many of some held users are busy
abbrev busy_in : List HeldUser → ℕ
busy_in held = length (filter is_busy held)

-- a change of each share that leaves a count
in_share-same : (count : List HeldUser → ℕ) (k n : ℕ) (change : Share → Share) (shares : List Share) →
    ((share : Share) → count (change share).held ≡ count share.held) → in_share count n (change_at k change shares) ≡ in_share count n shares
in_share-same count k n change [] same = refl
in_share-same count zero zero change (share ∷ rest) same = same share
in_share-same count zero (suc n) change (share ∷ rest) same = refl
in_share-same count (suc k) zero change (share ∷ rest) same = refl
in_share-same count (suc k) (suc n) change (share ∷ rest) same = in_share-same count k n change rest same

in_share-map : (count : List HeldUser → ℕ) (n : ℕ) (change : Share → Share) (shares : List Share) →
    ((share : Share) → count (change share).held ≡ count share.held) → in_share count n (map change shares) ≡ in_share count n shares
in_share-map count n change [] same = refl
in_share-map count zero change (share ∷ rest) same = same share
in_share-map count (suc n) change (share ∷ rest) same = in_share-map count n change rest same

busy_in-end : (plan : Plan) (k item n : ℕ) (state : State) →
    in_share busy_in n (end_item_of plan k item state).shares ≡ in_share busy_in n state.shares
busy_in-end plan k item n state =
    let P : Option Part → Type 0 = λ o.
    in_share busy_in n (option_map_or (λ part. change_share state k (end_item part item)) o state).shares ≡ in_share busy_in n state.shares in
    elim (slice_get plan.parts k) as P [
      | None ↦ refl
      | Some part ↦ in_share-same busy_in k n (end_item part item) state.shares (λ share. ap busy_in (held_end_item part item share))
    ]

-- the scenario holds the user once, and it passes the test
abbrev HeldOnce : (HeldUser → Bool) → State → ℕ → ℕ → Type 0
HeldOnce p state n user = (share : Share) × (slice_get state.shares n ≡ Some share) × HoldsOnce p share user

-- who starts or is released is idle, and who returns is busy
abbrev OnOne : State → Act → Type 0
OnOne state (Start n user _ _) = HeldOnce is_idle state n user
OnOne state (Release n user) = HeldOnce is_idle state n user
OnOne state (Return n user _ _ _) = HeldOnce is_busy state n user
OnOne state _ = Unit {0}

plays_busy : (c : Condition) (item : ℕ) → plays_item item c ≡ true → is_busy_condition c ≡ true
plays_busy Idle item h = absurd (cc)
plays_busy (Busy thread item' until) item h = refl

found_once : (p : Condition → Bool) (q : HeldUser → Bool) (state : State) (n user : ℕ) → Holds state → (f : HeldAs state n user p) →
    q f.holder ≡ true → HeldOnce q state n user
found_once p q state n user holds f passes =
    let within = among_held user n f.share state.shares f.stands in
    let once = holds.once user in
    (f.share, f.stands, (omega arith, (f.holder, Contains-from_In f.holder f.held, f.user_is, passes)))

finds_one : (state : State) (act : Act) → Holds state → Finds state act → OnOne state act
finds_one state (Start n user item until) holds f = found_once _ is_idle state n user holds f f.as_is
finds_one state (Release n user) holds f = found_once _ is_idle state n user holds f f.as_is
finds_one state (Return n user item outcome tally) holds f = found_once _ is_busy state n user holds f (plays_busy f.holder.condition item f.as_is)
finds_one state (Take n user slot) holds f = tt
finds_one state (Grow n user slot) holds f = tt
finds_one state (Drop n item) holds f = tt
finds_one state (Late n item) holds f = tt
finds_one state (Stop n) holds f = tt
finds_one state (Close n) holds f = tt
finds_one state (Control command) holds f = tt

-- ---- what an act makes of who is busy

returned_is : (k n user item : ℕ) (outcome : Outcome) (tally : TallyView) →
    one_if (ends_done n (Return k user item outcome tally)) + one_if (ends_interrupted n (Return k user item outcome tally)) ≡ one_if (k == n)
returned_is k n user item Done tally = omega arith
returned_is k n user item Interrupted tally = omega arith

module _ (k n : ℕ) (change : Share → Share) (shares : List Share) (share : Share) (stands : slice_get shares k ≡ Some share) where
  -- one more is busy in the share that is changed
  busy_more : busy_in (change share).held ≡ busy_in share.held + 1 →
      in_share busy_in n (change_at k change shares) ≡ in_share busy_in n shares + one_if (k == n)
  busy_more more =
      let P : Bool → Type 0 = λ b. (k == n) ≡ b → in_share busy_in n (change_at k change shares) ≡ in_share busy_in n shares + one_if b in
      let counted : P (k == n) = elim (k == n) as P [
        | true ↦ λ e.
            let at_n : slice_get shares n ≡ Some share = subst (λ j. slice_get shares j ≡ Some share) (same_number k n e) stands in
            let before = in_share-at busy_in n share shares at_n in
            let behind = in_share-at busy_in n (change share) (change_at n change shares) (change_stands n change share shares at_n) in
            let it : in_share busy_in n (change_at n change shares) ≡ in_share busy_in n shares + 1 = omega arith in
            subst (λ j. in_share busy_in n (change_at j change shares) ≡ in_share busy_in n shares + 1) (sym (same_number k n e)) it
        | false ↦ λ e. let same = in_share-other busy_in k n change shares (numbers_apart k n e) in omega arith
      ] in counted refl

  -- one less
  busy_less : busy_in (change share).held + 1 ≡ busy_in share.held →
      in_share busy_in n (change_at k change shares) + one_if (k == n) ≡ in_share busy_in n shares
  busy_less less =
      let P : Bool → Type 0 = λ b. (k == n) ≡ b → in_share busy_in n (change_at k change shares) + one_if b ≡ in_share busy_in n shares in
      let counted : P (k == n) = elim (k == n) as P [
        | true ↦ λ e.
            let at_n : slice_get shares n ≡ Some share = subst (λ j. slice_get shares j ≡ Some share) (same_number k n e) stands in
            let before = in_share-at busy_in n share shares at_n in
            let behind = in_share-at busy_in n (change share) (change_at n change shares) (change_stands n change share shares at_n) in
            let it : in_share busy_in n (change_at n change shares) + 1 ≡ in_share busy_in n shares = omega arith in
            subst (λ j. in_share busy_in n (change_at j change shares) + 1 ≡ in_share busy_in n shares) (sym (same_number k n e)) it
        | false ↦ λ e. let same = in_share-other busy_in k n change shares (numbers_apart k n e) in omega arith
      ] in counted refl

  -- and as many
  busy_still : busy_in (change share).held ≡ busy_in share.held → in_share busy_in n (change_at k change shares) ≡ in_share busy_in n shares
  busy_still still =
      let P : Bool → Type 0 = λ b. (k == n) ≡ b → in_share busy_in n (change_at k change shares) ≡ in_share busy_in n shares in
      let counted : P (k == n) = elim (k == n) as P [
        | true ↦ λ e.
            let at_n : slice_get shares n ≡ Some share = subst (λ j. slice_get shares j ≡ Some share) (same_number k n e) stands in
            let before = in_share-at busy_in n share shares at_n in
            let behind = in_share-at busy_in n (change share) (change_at n change shares) (change_stands n change share shares at_n) in
            let it : in_share busy_in n (change_at n change shares) ≡ in_share busy_in n shares = omega arith in
            subst (λ j. in_share busy_in n (change_at j change shares) ≡ in_share busy_in n shares) (sym (same_number k n e)) it
        | false ↦ λ e. in_share-other busy_in k n change shares (numbers_apart k n e)
      ] in counted refl

-- behind an entry as many are busy as before, one that it starts more, and one that it returns less
entry_busy : (plan : Plan) (n : ℕ) (state : State) (at thread t : ℕ) (act : Act) → OnOne state act →
    in_share busy_in n (after_entry plan state (record { turn = at; thread = thread; act = act; reading = t })).shares
    + (one_if (ends_done n act) + one_if (ends_interrupted n act))
    ≡ in_share busy_in n state.shares + one_if (starts_item n act)
entry_busy plan n state at thread t (Take k user slot) on =
    let same = in_share-same busy_in k n (hold user slot) state.shares (λ share. ap length (busy_hold user slot share)) in omega arith
entry_busy plan n state at thread t (Grow k user slot) on =
    let same = in_share-same busy_in k n (hold user slot) state.shares (λ share. ap length (busy_hold user slot share)) in omega arith
entry_busy plan n state at thread t (Start k user item until) on =
    let started = change_share state k (put_condition user (Busy thread item until)) in
    let more = busy_more k n (put_condition user (Busy thread item until)) state.shares on.0 on.1 (busy_put_busy user thread item until on.0 on.2) in
    let ended = busy_in-end plan k item n started in
    omega arith
entry_busy plan n state at thread t (Drop k item) on = let same = busy_in-end plan k item n state in omega arith
entry_busy plan n state at thread t (Late k item) on = let same = busy_in-end plan k item n state in omega arith
entry_busy plan n state at thread t (Return k user item outcome tally) on =
    let less = busy_less k n (put_condition user Idle) state.shares on.0 on.1 (busy_put_idle user on.0 on.2) in
    let returned = returned_is k n user item outcome tally in
    omega arith
entry_busy plan n state at thread t (Release k user) on =
    let still = busy_still k n (let_go user) state.shares on.0 on.1 (ap length (busy_let_go user on.0 on.2)) in omega arith
entry_busy plan n state at thread t (Stop k) on =
    let same = in_share-same busy_in k n (λ (share : Share). record share { level = Halted }) state.shares (λ share. refl) in omega arith
entry_busy plan n state at thread t (Close k) on =
    let same = in_share-same busy_in k n (λ (share : Share). record share { closed = true }) state.shares (λ share. refl) in omega arith
entry_busy plan n state at thread t (Control commands.Stop) on =
    let same = in_share-map busy_in n (stop_commanded_share t) state.shares (λ share. ap busy_in (held_stop t share)) in omega arith
entry_busy plan n state at thread t (Control (commands.Pause b)) on = omega arith
entry_busy plan n state at thread t (Control (commands.Vus v)) on = omega arith
entry_busy plan n state at thread t (Control (commands.VusMax v)) on = omega arith

-- ---- two entries of one step

taken_one : (plan : Plan) (state : State) (at thread t k user slot : ℕ) (act : Act) (share : Share) → slice_get state.shares k ≡ Some share →
    (Take k user slot ≡ act) ⊎ (Grow k user slot ≡ act) → Gains state act →
    HeldOnce is_idle (after_entry plan state (record { turn = at; thread = thread; act = act; reading = t })) k user
taken_one plan state at thread t k user slot act share stands gains gained =
    let Q : Act → Type 0 = λ a. Gains state a →
    HeldOnce is_idle (after_entry plan state (record { turn = at; thread = thread; act = a; reading = t })) k user in
    let there_now : times_held user state.shares ≡ 0 → HeldOnce is_idle (change_share state k (hold user slot)) k user = λ none.
    let within = among_held user k share state.shares stands in
    (hold user slot share, change_stands k (hold user slot) share state.shares stands, hold_once user slot share (omega arith)) in
    elim gains [
      | inl e ↦ let it : Q (Take k user slot) = λ g. there_now (g user refl).0 in subst Q e it gained
      | inr e ↦ let it : Q (Grow k user slot) = λ g. there_now (g user refl).0 in subst Q e it gained
    ]

-- the first of two acts is on nobody who is held
gained_on : (state : State) (k user slot : ℕ) (act : Act) → (Take k user slot ≡ act) ⊎ (Grow k user slot ≡ act) → OnOne state act
gained_on state k user slot act gains = elim gains [
  | inl e ↦ subst (λ a. OnOne state a) e tt
  | inr e ↦ subst (λ a. OnOne state a) e tt
]

-- ---- whole histories

module _ (plan : Plan) (n : ℕ) where
  -- as many are busy behind entries as before, with the started ones and without the returned
  abbrev Counts : List Entry → State → Type 0
  Counts history state =
      in_share busy_in n (after_entries plan state history).shares + (how_many (ends_done n) history + how_many (ends_interrupted n) history)
      ≡ in_share busy_in n state.shares + how_many (starts_item n) history

  first_counts : (one : Entry) (rest : List Entry) (state : State) → OnOne state one.act →
      Counts rest (after_entry plan state one) → Counts (one ∷ rest) state
  first_counts one rest state on later =
      let now = entry_busy plan n state one.turn one.thread one.reading one.act on in
      let starts = how_many-first (starts_item n) one rest in
      let done = how_many-first (ends_done n) one rest in
      let interrupted = how_many-first (ends_interrupted n) one rest in
      omega arith

  one_counts : (one : Entry) (rest : List Entry) (state : State) → Holds state → adds_one plan state one ≡ true →
      Counts rest (after_entry plan state one) → Counts (one ∷ rest) state
  one_counts one rest state holds h later = first_counts one rest state (finds_one state one.act holds (one_finds plan state one h)) later

  two_counts : (one two : Entry) (rest : List Entry) (state : State) → Holds state → adds_two plan state one two ≡ true →
      Counts rest (after_entry plan (after_entry plan state one) two) → Counts (one ∷ two ∷ rest) state
  two_counts one two rest state holds h later =
      let p = pair_of plan state one two h in
      let gained = wrote_gains plan state one.thread one.reading (one ∷ two ∷ []) holds (pair_wrote plan state one two h) one.act here in
      let taken = taken_one plan state one.turn one.thread one.reading p.scenario p.user p.slot one.act p.share p.stands p.gains gained in
      let second = first_counts two rest (after_entry plan state one) (subst (λ a. OnOne (after_entry plan state one) a) p.starts taken) later in
      first_counts one (two ∷ rest) state (gained_on state p.scenario p.user p.slot one.act p.gains) second

  steps_counts : (history : List Entry) (state : State) → are_steps plan state history ≡ true → Holds state → Counts history state
  steps_counts [] state h holds = refl
  steps_counts (one ∷ []) state h holds = one_counts one [] state holds h refl
  steps_counts (one ∷ two ∷ rest) state h holds =
      elim (some_true (adds_one plan state one && are_steps plan (after_entry plan state one) (two ∷ rest)) _ h) [
        | inl first ↦
            let both = both_true (adds_one plan state one) _ first in
            one_counts one (two ∷ rest) state holds both.0
            (steps_counts (two ∷ rest) (after_entry plan state one) both.1 (one_holds plan state one holds both.0))
        | inr second ↦
            let both = both_true (adds_two plan state one two) _ second in
            two_counts one two rest state holds both.0
            (steps_counts rest (after_entry plan (after_entry plan state one) two) both.1 (two_hold plan state one two holds both.0))
      ]

opening_busy : (n : ℕ) (parts : List Part) → in_share busy_in n (map (λ (part : Part). opening_share) parts) ≡ 0
opening_busy n [] = refl
opening_busy zero (part ∷ parts) = refl
opening_busy (suc n) (part ∷ parts) = opening_busy n parts

-- each started iteration of a scenario was done or interrupted, or is under way
pub starts_are_ended : (plan : Plan) (history : List Entry) (n : ℕ) (share : Share) → IsLegal plan history →
    slice_get (state_after plan history).shares n ≡ Some share →
    how_many (starts_item n) history ≡ how_many (ends_done n) history + how_many (ends_interrupted n) history + length (busy_users share)
starts_are_ended plan history n share legal stands =
    let counts = steps_counts plan n history (opening plan) legal (opening_holds plan) in
    let none = opening_busy n plan.parts in
    let its = in_share-at busy_in n share (state_after plan history).shares stands in
    omega arith

-- ---- settled histories

-- nobody is held behind a settled history
settled_held : (plan : Plan) (history : List Entry) (n : ℕ) (share : Share) → IsSettled plan history →
    slice_get (state_after plan history).shares n ≡ Some share → share.held ≡ []
settled_held plan history n share settled stands =
    let nobody = (both_true _ (nobody_held (state_after plan history)) settled).1 in
    no_length share.held (passes_place (λ (x : Share). length x.held == 0) (state_after plan history).shares n share nobody stands)

pub settled_starts : (plan : Plan) (history : List Entry) (n : ℕ) (part : Part) → IsLegal plan history → IsSettled plan history →
    slice_get plan.parts n ≡ Some part →
    how_many (starts_item n) history ≡ how_many (ends_done n) history + how_many (ends_interrupted n) history
settled_starts plan history n part legal settled is =
    let there_is = its_share_there plan.parts (state_after plan history).shares n part (shares_there plan history) is in
    let counts = starts_are_ended plan history n there_is.0 legal there_is.1 in
    let none = ap busy_in (settled_held plan history n there_is.0 settled there_is.1) in
    omega arith

-- the items aside from one: with those that are it they are all, and of each other there are as many
abbrev without : ℕ → List ℕ → List ℕ
without k items = filter (λ item. not (item == k)) items

count_without : (k : ℕ) (items : List ℕ) → length items ≡ count_by (λ item. item == k) items + length (without k items)
count_without k [] = refl
count_without k (x ∷ items) =
    let later = count_without k items in
    let first = sum_by-cons (λ item. cond (item == k) 1 0) x items in
    let P : Bool → Type 0 = λ b.
    suc (length items) ≡ (cond b 1 0 + count_by (λ item. item == k) items) + length (cond (not b) (x ∷ without k items) (without k items)) in
    let split : P (x == k) = elim (x == k) as P [ true ↦ omega arith | false ↦ omega arith ] in
    omega arith

other_than : (x k j : ℕ) → (x == k) ≡ true → (j == k) ≡ false → (x == j) ≡ false
other_than x k j same apart = grind (arith, common_steps)

missed_one : (x j : ℕ) → (x == j) ≡ false → one_if (x == j) ≡ 0
missed_one x j e = rw e refl

count_others : (j k : ℕ) (items : List ℕ) → (j == k) ≡ false → count_by (λ item. item == j) (without k items) ≡ count_by (λ item. item == j) items
count_others j k [] apart = refl
count_others j k (x ∷ items) apart =
    let later = count_others j k items apart in
    let kept = sum_by-cons (λ item. cond (item == j) 1 0) x (without k items) in
    let first = sum_by-cons (λ item. cond (item == j) 1 0) x items in
    let P : Bool → Type 0 = λ b. (x == k) ≡ b →
    count_by (λ item. item == j) (cond (not b) (x ∷ without k items) (without k items)) ≡ count_by (λ item. item == j) (x ∷ items) in
    let counted : P (x == k) = elim (x == k) as P [
      | true ↦ λ e. let missed = missed_one x j (other_than x k j e apart) in omega arith
      | false ↦ λ e. omega arith
    ] in counted refl

-- a list that has each element of a distinct one once, and no other, is of its length
once_length : (owned items : List ℕ) → is_distinct owned ≡ true → ((k : ℕ) → In k owned → count_by (λ item. item == k) items ≡ 1) →
    ((i : ℕ) → In i items → has owned i ≡ true) → length items ≡ length owned
once_length [] [] distinct once among = refl
once_length [] (x ∷ items) distinct once among = let none = among x here in absurd (cc)
once_length (k ∷ owned) items distinct once among =
    let parts = both_true (not (has owned k)) (is_distinct owned) distinct in
    let alone = not-true (has owned k) parts.0 in
    let later = once_length owned (without k items) parts.1
    (λ j at.
    let apart : (j == k) ≡ false = false_unless (j == k) (λ e. true≢false (sym (any-from_In (λ x. x == k) j at e) ∙ alone)) in
    count_others j k items apart ∙ once j (there at))
    (λ i at.
    let kept = In-filter (λ item. not (item == k)) i items at in
    elim (some_true (k == i) (has owned i) (among i kept.0)) [
      | inl it ↦ absurd (true≢false (sym (turned k i it) ∙ not-true (i == k) kept.1))
      | inr other ↦ other
    ]) in
    let split = count_without k items in
    let one = once k here in
    omega arith
  where
    turned : (a b : ℕ) → (a == b) ≡ true → (b == a) ≡ true
    turned a b e = grind (arith, common_steps)

pub settled_items_count : (plan : Plan) (history : List Entry) (n : ℕ) (part : Part) → IsSettled plan history →
    slice_get plan.parts n ≡ Some part → has_items part.executor ≡ true → is_distinct (owned_items part.executor) ≡ true →
    how_many (starts_item n) history + how_many (drops_item n) history + how_many (counts_late n) history ≡ length (owned_items part.executor)
settled_items_count plan history n part settled is some distinct =
    let each = settled_each plan history n part settled is some in
    let among = (both_true (list_all (λ k. count_by (λ item. item == k) (items_in n history) == 1) (owned_items part.executor)) _ each).1 in
    items_counted n history
    ∙ once_length (owned_items part.executor) (items_in n history) distinct
    (λ k owned. settled_item plan history n part k settled is some (Contains-from_In k owned))
    (λ i at. all_at (λ item. has (owned_items part.executor) item) i at among)
