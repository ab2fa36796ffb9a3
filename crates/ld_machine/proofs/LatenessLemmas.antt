-- Where arrivals are due before the end and nothing enabled is passed over, no arrival is counted late.
use Rattle.std.proofs.Common.{◌≡◌, ◌<◌, ◌≤◌, ◌+◌, ◌&&◌, ◌==◌, ℕ, zero, suc, Bool, true, false, not, cond, nat_le, nat_lt, List, [], ◌∷◌, ◌++◌, Option, None, Some, find, map, arith, refl, sym, ◌∙◌, subst, inl, inr, slice_get}
use Rattle.std.proofs.lemmas.Bool.{true≢false, not-true, not-false}
use Rattle.std.proofs.lemmas.Grind.{common_steps}
use Rattle.std.proofs.lemmas.Option.{slice_get_within, get_or_from_slice_get}
use Rattle.std.proofs.Math.Decide.{dec_lt}
use Rattle.std.specs.Prelude.{is_some}
use Rattle.std.specs.List.{list_all, list_any}
use Rattle.std.specs.Option.{option_map_or}
use Rattle.ld_base.specs.declared.act.Act.{Act}
use Rattle.ld_base.specs.declared.act.Act.TheVariants.{Take, Grow, Start, Drop, Late, Return, Release, Stop, Close, Control}
use Rattle.ld_base.specs.declared.command.Command.TheVariants as commands
use Rattle.ld_base.specs.declared.entry.Entry.{Entry}
use Rattle.ld_machine.specs.Plan.{Arrival, Part, Plan, owned_items, due_moment, hard_moment}
use Rattle.ld_machine.specs.State.{Halted, StartsNothing, Idle, Busy, HeldUser, Share, State, opening, idle_users, held_count}
use Rattle.ld_machine.specs.Scenario.{Scenario, first_of, is_open, level_runs, runs, has_ended, is_open_item, executor_arrivals, least_open_arrival, due_arrival, may_hold_more}
use Rattle.ld_machine.specs.Moves.{Answer, CountLate, StartOn, GrowAndStart, TakeAndStart, DropArrival, Move, AnswerArrival, Users, users_of, answers, stops, releases, takes, arrivals, starts, drops, closes, moves_of, scenarios, enabled}
use Rattle.ld_machine.specs.Acts.{acts_of}
use Rattle.ld_machine.specs.Commands.{stop_commanded_share}
use Rattle.ld_machine.specs.Effect.{hold, put_condition, let_go, end_item, end_item_of, change_at, change_share, after_entry}
use Rattle.ld_machine.specs.Step.{entries_of}
use Rattle.ld_machine.specs.History.{adds_one, adds_two, are_steps}
use Rattle.ld_machine.specs.OnTime.{is_asked_act}
use Rattle.ld_machine.specs.Rehearsal.{NothingEnabled, FirstRefusalFrom, is_late, nothing_late}
use Rattle.ld_machine.specs.WellTimed.{IsWellTimed, WellTimed}
use Rattle.ld_machine.proofs.ListLemmas.{In, here, there, nothing_in, Contains-from_In, both_true, some_true, some_not_none}
use Rattle.ld_machine.proofs.SourceLemmas.{Source, by_stop, by_release, by_take, by_arrival, by_start, by_drop, by_close, source_of, late_answer}
use Rattle.ld_machine.proofs.StepLemmas.{Wrote, first_enabled, one_wrote, pair_wrote}
use Rattle.ld_machine.proofs.DropLemmas.{due_tells}
use Rattle.ld_machine.proofs.ItemLemmas.{has, has_more, stands_share}
use Rattle.ld_machine.proofs.WaitLemmas.{In-left, In-right}
use Rattle.ld_machine.proofs.FirstOfAllLemmas.{act_enabled}
use Rattle.ld_machine.proofs.ScenarioListLemmas.{stands_with}
use Rattle.ld_machine.proofs.SettlesShareLemmas.{due_runs}

-- at its end and behind it a share that runs has no open arrival
abbrev Answered : ℕ → Part → Share → Type 0
Answered t part share =
    share.closed ≡ false → level_runs share.level ≡ true → part.end ≤ t →
    (a : Arrival) → In a (executor_arrivals part.executor) → has share.ended a.item ≡ true

-- each share is such
abbrev pub AllAnswered : ℕ → List Part → List Share → Type 0
AllAnswered t parts shares =
    (n : ℕ) (part : Part) (share : Share) → slice_get parts n ≡ Some part → slice_get shares n ≡ Some share → Answered t part share

-- ---- behind an act

-- a change after which arrivals that were answered still are
abbrev Keeps : (Share → Share) → Type 0
Keeps change = (t : ℕ) (part : Part) (share : Share) → Answered t part share → Answered t part (change share)

change_answered : (t k : ℕ) (change : Share → Share) → Keeps change → (parts : List Part) (shares : List Share) → AllAnswered t parts shares →
    AllAnswered t parts (change_at k change shares)
change_answered t k change keeps parts [] all n part share is at = absurd cc
change_answered t k change keeps [] (x ∷ rest) all n part share is at = absurd cc
change_answered t zero change keeps (p ∷ parts) (x ∷ rest) all zero part share is at =
    let same : change x ≡ share = cc in
    subst (λ (y : Share). Answered t part y) same (keeps t part x (all zero part x is refl))
change_answered t zero change keeps (p ∷ parts) (x ∷ rest) all (suc n) part share is at = all (suc n) part share is at
change_answered t (suc k) change keeps (p ∷ parts) (x ∷ rest) all zero part share is at = all zero part share is at
change_answered t (suc k) change keeps (p ∷ parts) (x ∷ rest) all (suc n) part share is at =
    change_answered t k change keeps parts rest (λ j q y. all (suc j) q y) n part share is at

end_keeps : (owner : Part) (item : ℕ) → Keeps (end_item owner item)
end_keeps owner item t part share answered =
    let P : Bool → Type 0 = λ b. Answered t part (cond b (record share { ended = share.ended ++ item ∷ [] }) share) in
    elim (list_any (λ k. k == item) (owned_items owner.executor)) as P [
      | true ↦ λ opened run ended a at. has_more a.item share.ended (item ∷ []) (answered opened run ended a at)
      | false ↦ answered
    ]

stop_keeps : (commanded : ℕ) → Keeps (stop_commanded_share commanded)
stop_keeps commanded t part share answered =
    let P : Bool → Type 0 = λ b. Answered t part (cond b share (record share { level = StartsNothing commanded })) in
    elim share.closed as P [ true ↦ answered | false ↦ λ opened run. absurd cc ]

end_of_answered : (t : ℕ) (plan : Plan) (n item : ℕ) (state : State) → AllAnswered t plan.parts state.shares → AllAnswered t plan.parts (end_item_of plan n item state).shares
end_of_answered t plan n item state all =
    let P : Option Part → Type 0 = λ o. AllAnswered t plan.parts (option_map_or (λ part. change_share state n (end_item part item)) o state).shares in
    elim (slice_get plan.parts n) as P [
      | None ↦ all
      | Some owner ↦ change_answered t n (end_item owner item) (end_keeps owner item) plan.parts state.shares all
    ]

stop_answered : (t commanded : ℕ) (parts : List Part) (shares : List Share) → AllAnswered t parts shares → AllAnswered t parts (map (stop_commanded_share commanded) shares)
stop_answered t commanded parts [] all n part share is at = absurd cc
stop_answered t commanded [] (x ∷ rest) all n part share is at = absurd cc
stop_answered t commanded (p ∷ parts) (x ∷ rest) all zero part share is at =
    let same : stop_commanded_share commanded x ≡ share = cc in
    subst (λ (y : Share). Answered t part y) same (stop_keeps commanded t part x (all zero part x is refl))
stop_answered t commanded (p ∷ parts) (x ∷ rest) all (suc n) part share is at =
    stop_answered t commanded parts rest (λ j q y. all (suc j) q y) n part share is at

act_answered : (t : ℕ) (plan : Plan) (state : State) (turn thread reading : ℕ) (act : Act) → AllAnswered t plan.parts state.shares →
    AllAnswered t plan.parts (after_entry plan state (record { turn = turn; thread = thread; act = act; reading = reading })).shares
act_answered t plan state turn thread reading (Take n user slot) all = change_answered t n (hold user slot) (λ m part share same. same) plan.parts state.shares all
act_answered t plan state turn thread reading (Grow n user slot) all = change_answered t n (hold user slot) (λ m part share same. same) plan.parts state.shares all
act_answered t plan state turn thread reading (Start n user item until) all =
    end_of_answered t plan n item (change_share state n (put_condition user (Busy thread item until)))
    (change_answered t n (put_condition user (Busy thread item until)) (λ m part share same. same) plan.parts state.shares all)
act_answered t plan state turn thread reading (Drop n item) all = end_of_answered t plan n item state all
act_answered t plan state turn thread reading (Late n item) all = end_of_answered t plan n item state all
act_answered t plan state turn thread reading (Return n user item outcome tally) all =
    change_answered t n (put_condition user Idle) (λ m part share same. same) plan.parts state.shares all
act_answered t plan state turn thread reading (Release n user) all = change_answered t n (let_go user) (λ m part share same. same) plan.parts state.shares all
act_answered t plan state turn thread reading (Stop n) all =
    change_answered t n (λ (share : Share). record share { level = Halted }) (λ m part share same opened run. absurd cc) plan.parts state.shares all
act_answered t plan state turn thread reading (Close n) all =
    change_answered t n (λ (share : Share). record share { closed = true }) (λ m part share same opened. absurd cc) plan.parts state.shares all
act_answered t plan state turn thread reading (Control commands.Stop) all = stop_answered t reading plan.parts state.shares all
act_answered t plan state turn thread reading (Control (commands.Pause b)) all = all
act_answered t plan state turn thread reading (Control (commands.Vus v)) all = all
act_answered t plan state turn thread reading (Control (commands.VusMax v)) all = all

-- ---- a due arrival is answered

first_is : {A : Type 0} (xs : List A) → is_some (first_of xs) ≡ true → (x : A) × In x xs
first_is [] h = absurd cc
first_is (x ∷ xs) h = (x, here)

map-In : {A B : Type 0} (f : A → B) (x : A) {xs : List A} → In x xs → In (f x) (map f xs)
map-In f x here = here
map-In f x (there more) = there (map-In f x more)

-- there is always an answer
chosen : {A : Type 0} (b : Bool) (xs ys : List A) → (b ≡ true → (x : A) × In x xs) → (b ≡ false → (x : A) × In x ys) → (x : A) × In x (cond b xs ys)
chosen true xs ys first second = first refl
chosen false xs ys first second = second refl

some_answer : (s : Scenario) (users : Users) (t : ℕ) → (answer : Answer) × In answer (answers s users t)
some_answer s users t =
    chosen (has_ended s t) _ _ (λ late. (CountLate, here)) (λ before.
    chosen (is_some (first_of (idle_users s.share))) _ _
    (λ some. let on = first_is (idle_users s.share) some in (StartOn on.0.user, map-In (λ (h : HeldUser). StartOn h.user) on.0 on.1)) (λ no_idle.
    chosen (may_hold_more s && nat_lt users.made users.limit) _ _ (λ grown. (GrowAndStart (users.made + 1) (held_count s.share), here)) (λ no_grow.
    chosen (may_hold_more s && is_some (first_of users.free)) _ _
    (λ some.
    let free = first_is users.free (both_true (may_hold_more s) _ some).1 in
    (TakeAndStart free.0 (held_count s.share), map-In (λ user. TakeAndStart user (held_count s.share)) free.0 free.1)) (λ nobody.
    (DropArrival, here)))))

-- where an arrival is due, something is enabled
due_enabled : (plan : Plan) (state : State) (n : ℕ) (s : Scenario) (t : ℕ) (a : Arrival) → slice_get (scenarios plan state) n ≡ Some s →
    due_arrival s t ≡ Some a → (move : Move) × In move (enabled plan state t)
due_enabled plan state n s t a stands due =
    let users = users_of plan state in
    let answer = some_answer s users t in
    let move_of = λ (answer : Answer). AnswerArrival n (due_moment s.part a) a.item (hard_moment s.part) answer in
    let arrives : In (move_of answer.0) (arrivals n s users t) = rw due (map-In move_of answer.0 answer.1) in
    let acts : In (move_of answer.0) (moves_of users n s t) =
    In-left _ (closes n s t) (In-left _ (drops n s t) (In-left _ (starts n s t) (In-right _ (stops n s t ++ releases n s t ++ takes n s users t) arrives))) in
    (move_of answer.0, act_enabled plan state t n (move_of answer.0) (s, stands, Contains-from_In (move_of answer.0) acts))

-- the least open one of some arrivals of which one is open
open_there : (s : Scenario) (a : Arrival) {some : List Arrival} → In a some → is_open_item s a.item ≡ true →
    (least : Arrival) × In least some × (find (λ (x : Arrival). is_open_item s x.item) some ≡ Some least)
open_there s a (here {xs = rest}) opened = (a, here, rw opened refl)
open_there s a (there {y = x} {xs = rest} more) opened =
    let later = open_there s a more opened in
    let P : Bool → Type 0 = λ b. (least : Arrival) × In least (x ∷ rest) × (cond b (Some x) (find (λ (y : Arrival). is_open_item s y.item) rest) ≡ Some least) in
    elim (is_open_item s x.item) as P [ true ↦ (x, here, refl) | false ↦ (later.0, there later.1, later.2) ]

-- and the other way round
open_found : (s : Scenario) (a : Arrival) (some : List Arrival) → find (λ (x : Arrival). is_open_item s x.item) some ≡ Some a →
    In a some × (is_open_item s a.item ≡ true)
open_found s a [] h = absurd cc
open_found s a (x ∷ rest) h =
    let P : Bool → Type 0 = λ b. is_open_item s x.item ≡ b → cond b (Some x) (find (λ (y : Arrival). is_open_item s y.item) rest) ≡ Some a →
    In a (x ∷ rest) × (is_open_item s a.item ≡ true) in
    let found : P (is_open_item s x.item) = elim (is_open_item s x.item) as P [
      | true ↦ λ opened e.
          let same : x ≡ a = cc in
          subst (λ (z : Arrival). In z (x ∷ rest) × (is_open_item s z.item ≡ true)) same (here, opened)
      | false ↦ λ shut e. let later = open_found s a rest e in (there later.0, later.1)
    ] in found refl h

-- ---- between two entries

below_true : (m n : ℕ) → m ≤ n → nat_le m n ≡ true
below_true m n h = grind (arith, common_steps)

from_below : (m n : ℕ) → nat_le m n ≡ true → m ≤ n
from_below m n h = grind (arith, common_steps)

timed_part : (plan : Plan) (n : ℕ) (part : Part) → WellTimed plan → slice_get plan.parts n ≡ Some part → IsWellTimed part
timed_part plan n part timed is =
    timed part (n, slice_get_within plan.parts n part is, get_or_from_slice_get plan.parts n part part is)

module _ (plan : Plan) (state : State) (since t : ℕ) (timed : WellTimed plan) (quiet : NothingEnabled plan state since t) where
  -- no open arrival of a scenario that runs is due in between
  none_due : (n : ℕ) (s : Scenario) (a : Arrival) (m : ℕ) → slice_get (scenarios plan state) n ≡ Some s → runs s ≡ true →
      least_open_arrival s ≡ Some a → due_moment s.part a ≤ m → since ≤ m → m < t → ⊥
  none_due n s a m stands run least due from below =
      let is_it : due_arrival s m ≡ Some a = rw (run, least, below_true (due_moment s.part a) m due) refl in
      let some = due_enabled plan state n s m a stands is_it in
      nothing_in (subst (λ moves. In some.0 moves) (quiet m from below) some.1)

  none_open_before : (n : ℕ) (s : Scenario) (a : Arrival) → slice_get (scenarios plan state) n ≡ Some s → runs s ≡ true →
      least_open_arrival s ≡ Some a → due_moment s.part a < t → since < t → ⊥
  none_open_before n s a stands run least before some =
      elim (dec_lt since (due_moment s.part a)) [
        | yes later ↦ none_due n s a (due_moment s.part a) stands run least (omega arith) (omega arith) before
        | no sooner ↦ none_due n s a since stands run least (omega arith) (omega arith) some
      ]

  -- what was answered at the earlier moment is answered at the later one
  pub wait_answered : AllAnswered since plan.parts state.shares → AllAnswered t plan.parts state.shares
  wait_answered all n part share is at opened run ended a owned =
      elim (dec_lt since part.end) [
        | no over ↦ all n part share is at opened run (omega arith) a owned
        | yes before ↦
            let s : Scenario = record { part = part; share = share; controls = state.controls } in
            let P : Bool → Type 0 = λ b. is_open_item s a.item ≡ b → has share.ended a.item ≡ true in
            let answered : P (is_open_item s a.item) = elim (is_open_item s a.item) as P [
              | false ↦ λ e. not-false (has share.ended a.item) e
              | true ↦ λ e.
                  let least = open_there s a owned e in
                  let due = (timed_part plan n part timed is).due least.0 (Contains-from_In least.0 least.1) in
                  let running : runs s ≡ true = rw (opened, run) refl in
                  absurd (none_open_before n s least.0 (stands_with state.controls plan.parts state.shares n part share is at) running least.2 (omega arith) (omega arith))
            ] in answered refl
      ]

-- at the opening no scenario with arrivals is over
pub opening_answered : (plan : Plan) → WellTimed plan → AllAnswered 0 plan.parts (opening plan).shares
opening_answered plan timed n part share is at opened run ended a owned =
    let due = (timed_part plan n part timed is).due a (Contains-from_In a owned) in
    absurd (omega arith)

-- ---- one step

late_open : (plan : Plan) (state : State) (n : ℕ) (s : Scenario) (t : ℕ) (a : Arrival) → AllAnswered t plan.parts state.shares →
    slice_get (scenarios plan state) n ≡ Some s → due_arrival s t ≡ Some a → has_ended s t ≡ true → ⊥
late_open plan state n s t a all stands due over =
    let of_it = stands_share state.controls plan.parts state.shares n s stands in
    let run = both_true (is_open s) (level_runs s.share.level) (due_runs s t a due) in
    let open_one = open_found s a (executor_arrivals s.part.executor) (due_tells s t a due).0 in
    let ended = all n s.part s.share of_it.0 of_it.1 (not-true s.share.closed run.0) run.1 (from_below s.part.end t over) a open_one.0 in
    true≢false (sym ended ∙ not-true (has s.share.ended a.item) open_one.1)

abbrev on_time : Act → Bool
on_time act = not (is_late act)

move_on_time : (plan : Plan) (state : State) (n : ℕ) (s : Scenario) (t : ℕ) (move : Move) → AllAnswered t plan.parts state.shares →
    slice_get (scenarios plan state) n ≡ Some s → Source (users_of plan state) n s t move → list_all on_time (acts_of move) ≡ true
move_on_time plan state n s t move all stands (by_stop h) = refl
move_on_time plan state n s t move all stands (by_release u idle h) = refl
move_on_time plan state n s t move all stands (by_take user slot free slots h) = refl
move_on_time plan state n s t move all stands (by_start u item idle h) = refl
move_on_time plan state n s t move all stands (by_close h) = refl
move_on_time plan state n s t move all stands (by_drop item h) = refl
move_on_time plan state n s t move all stands (by_arrival a (StartOn user) due answer) = refl
move_on_time plan state n s t move all stands (by_arrival a (GrowAndStart user slot) due answer) = refl
move_on_time plan state n s t move all stands (by_arrival a (TakeAndStart user slot) due answer) = refl
move_on_time plan state n s t move all stands (by_arrival a DropArrival due answer) = refl
move_on_time plan state n s t move all stands (by_arrival a CountLate due answer) =
    absurd (late_open plan state n s t a all stands due (late_answer (users_of plan state) n s t answer))

acts_on_time : (at thread t : ℕ) (acts : List Act) → list_all on_time acts ≡ true → nothing_late (entries_of at thread t acts) ≡ true
acts_on_time at thread t [] h = refl
acts_on_time at thread t (act ∷ rest) h =
    let both = both_true (on_time act) _ h in
    rw (both.0, acts_on_time (at + 1) thread t rest both.1) refl

wrote_on_time : (plan : Plan) (state : State) (thread t : ℕ) (entries : List Entry) → AllAnswered t plan.parts state.shares → Wrote plan state thread t entries →
    nothing_late entries ≡ true
wrote_on_time plan state thread t entries all w =
    let at = first_enabled plan state t w.move w.first in
    subst (λ es. nothing_late es ≡ true) w.wrote
    (acts_on_time (state.entries + 1) thread t (acts_of w.move)
    (move_on_time plan state at.number at.scenario t w.move all at.stands (source_of (users_of plan state) at.number at.scenario t w.move at.enabled)))

one_on_time : (plan : Plan) (state : State) (one : Entry) → AllAnswered one.reading plan.parts state.shares → adds_one plan state one ≡ true → on_time one.act ≡ true
one_on_time plan state one all h =
    let P : Bool → Type 0 = λ b. is_asked_act one.act ≡ b → on_time one.act ≡ true in
    let tested : P (is_asked_act one.act) = elim (is_asked_act one.act) as P [
      | true ↦ λ asked. (both_true (on_time one.act) true (wrote_on_time plan state one.thread one.reading (one ∷ []) all (one_wrote plan state one asked h))).0
      | false ↦ λ unasked. unasked_on_time one.act unasked
    ] in tested refl
  where
    unasked_on_time : (act : Act) → is_asked_act act ≡ false → on_time act ≡ true
    unasked_on_time (Late n item) h = absurd cc
    unasked_on_time _ h = refl

-- ---- whole histories

entry_answered : (plan : Plan) (state : State) (entry : Entry) → AllAnswered entry.reading plan.parts state.shares →
    AllAnswered entry.reading plan.parts (after_entry plan state entry).shares
entry_answered plan state entry all = act_answered entry.reading plan state entry.turn entry.thread entry.reading entry.act all

-- where nothing was refused, nothing is enabled before the next entry
unrefused : (plan : Plan) (state : State) (since : ℕ) (entry : Entry) (rest : List Entry) → FirstRefusalFrom plan state since (entry ∷ rest) None →
    NothingEnabled plan state since entry.reading × FirstRefusalFrom plan (after_entry plan state entry) entry.reading rest None
unrefused plan state since entry rest room = elim room [
  | inl quiet ↦ quiet
  | inr refusal ↦ absurd (some_not_none (sym refusal.1))
]

pub steps_on_time : (plan : Plan) → WellTimed plan → (history : List Entry) (state : State) (since : ℕ) → are_steps plan state history ≡ true →
    FirstRefusalFrom plan state since history None → AllAnswered since plan.parts state.shares → nothing_late history ≡ true
steps_on_time plan timed [] state since h room all = refl
steps_on_time plan timed (one ∷ []) state since h room all =
    let now = wait_answered plan state since one.reading timed (unrefused plan state since one [] room).0 all in
    rw (one_on_time plan state one now h) refl
steps_on_time plan timed (one ∷ two ∷ rest) state since h room all =
    let first_room = unrefused plan state since one (two ∷ rest) room in
    let now = wait_answered plan state since one.reading timed first_room.0 all in
    let behind = entry_answered plan state one now in
    elim (some_true (adds_one plan state one && are_steps plan (after_entry plan state one) (two ∷ rest)) _ h) [
      | inl first ↦
          let both = both_true (adds_one plan state one) _ first in
          rw (one_on_time plan state one now both.0) (steps_on_time plan timed (two ∷ rest) (after_entry plan state one) one.reading both.1 first_room.1 behind)
      | inr second ↦
          let both = both_true (adds_two plan state one two) _ second in
          let second_room = unrefused plan (after_entry plan state one) one.reading two rest first_room.1 in
          let later = wait_answered plan (after_entry plan state one) one.reading two.reading timed second_room.0 behind in
          let wrote = wrote_on_time plan state one.thread one.reading (one ∷ two ∷ []) now (pair_wrote plan state one two both.0) in
          let one_late = both_true (on_time one.act) _ wrote in
          let two_late = both_true (on_time two.act) true one_late.1 in
          rw (one_late.0, two_late.0)
          (steps_on_time plan timed rest (after_entry plan (after_entry plan state one) two) two.reading both.1 second_room.1
          (entry_answered plan (after_entry plan state one) two later))
    ]
