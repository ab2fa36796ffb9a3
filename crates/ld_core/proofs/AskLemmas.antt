-- What an ask for an act gives.
use Rattle.std.proofs.Common.{◌≡◌, ◌≢◌, ◌≤◌, ◌<◌, ◌+◌, ◌&&◌, nat_lt, ℕ, Bool, true, false, cond, List, [], ◌∷◌, ◌++◌, Option, None, Some, Contains, map, length, slice_get, arith, refl, ap, sym, subst, ◌∙◌}
use Rattle.std.proofs.lemmas.Grind.{common_steps}
use Rattle.std.proofs.lemmas.Option.{slice_get_within}
use Rattle.ld_base.specs.declared.act.Act.{Act}
use Rattle.ld_base.specs.Stint.{stint_of}
use Rattle.ld_base.specs.declared.act.Act.TheVariants.{Take, Grow, Start, Drop}
use Rattle.ld_base.specs.declared.ask.Ask.TheVariants as asks
use Rattle.ld_base.specs.declared.entry.Entry.{Entry}
use Rattle.ld_base.specs.declared.reply.Reply.{Reply}
use Rattle.ld_base.specs.declared.reply.Reply.TheVariants.{Dropped, Full, Run, Wait}
use Rattle.ld_base.specs.declared.reply.Room.TheVariants.{Entries, Samples}
use Rattle.ld_base.specs.declared.reply.Room.{Room}
use Rattle.ld_machine.specs.Plan.{Part, Plan}
use Rattle.ld_machine.specs.State.{Share, State, all_closed, busy_count, free_users}
use Rattle.ld_machine.specs.Scenario.{Scenario, may_hold_more}
use Rattle.ld_machine.specs.ShareEffect.{share_after}
use Rattle.ld_machine.specs.Told.{MayBeTold, executor_has_place, newcomer_of}
use Rattle.ld_machine.specs.Moves.{Answer, StartOn, GrowAndStart, TakeAndStart, DropArrival, Move, AnswerArrival, StartIteration, DropIteration, Users, answers, moves_of, scenarios, users_of}
use Rattle.ld_machine.specs.Acts.{acts_of, added_entries, made_busy, scenario_of}
use Rattle.ld_machine.specs.Replies.{reply_to}
use Rattle.ld_machine.specs.Room.{busy_room, entries_refusal, entries_with, or_else, room_refusal, samples_refusal, samples_with, script_room}
use Rattle.ld_machine.specs.Together.{NoneActs}
use Rattle.ld_machine.specs.Wait.{wait_moment}
use Rattle.ld_machine.specs.Effect.{after_entry, hold}
use Rattle.ld_machine.specs.Step.{IsStep, act_results, answered, entries_of, move_result, performed}
use Rattle.ld_machine.specs.Wishes.{drop_wished, start_wished}
use Rattle.ld_machine.proofs.BusyLemmas.{busy_hold, busy_same}
use Rattle.ld_machine.proofs.BusyRoomLemmas.{room_same}
use Rattle.ld_machine.proofs.BusyStepLemmas.{number_of_act}
use Rattle.ld_machine.proofs.FirstOfAllLemmas.{In-of, first_is, first_performed, none_waits}
use Rattle.ld_machine.proofs.ItemLemmas.{stands_share}
use Rattle.ld_machine.proofs.ListLemmas.{In, here, Contains-from_In, both_true}
use Rattle.ld_machine.proofs.ScenarioListLemmas.{stands_with, controls_with}
use Rattle.ld_machine.proofs.ShareEffectLemmas.{own_share}
use Rattle.ld_machine.proofs.SourceLemmas.{Source, by_stop, by_release, by_take, by_arrival, by_start, by_drop, by_close, grow_answer, source_of}
use Rattle.ld_machine.proofs.ToldLemmas.{first_told, grown_place, second_told, taken_for_place}
use Rattle.ld_core.specs.Changes.{HasPlace, HasRoom, HasSampleRoom, MayBeToldOf, refusal_with}
use Rattle.ld_core.specs.CoreView.{Adds, CoreView, IsAsked, next_entry, plan_of, state_of}
use Rattle.ld_core.specs.Firsts.{IsFirst, IsFirstTakeFor}
use Rattle.ld_core.proofs.HistoryLemmas.{entries_counted, state_added}
use Rattle.ld_core.proofs.ShownLemmas.{of_some}

nothing_more : (es : List Entry) → es ≡ es ++ []
nothing_more es = grind (arith, common_steps)

one_longer : (es : List Entry) (e : Entry) → length (es ++ e ∷ []) ≡ length es + 1
one_longer es e = grind (arith, common_steps)

one_behind : (es : List Entry) (a b : Entry) → (es ++ a ∷ []) ++ b ∷ [] ≡ es ++ a ∷ b ∷ []
one_behind [] a b = refl
one_behind (e ∷ es) a b = ap (λ (rest : List Entry). e ∷ rest) (one_behind es a b)

-- where nothing is first, there is a wait
pub waits : (core : CoreView) (thread t moment : ℕ) → all_closed (state_of core) ≡ false → NoneActs (plan_of core) (state_of core) t →
    moment ≡ wait_moment (plan_of core) (state_of core) t → IsAsked core core thread asks.Act t (Wait moment)
waits core thread t moment goes_on none is =
    let r = answered (state_of core) (Wait (wait_moment (plan_of core) (state_of core) t)) in
    let all : act_results (plan_of core) (state_of core) thread t ≡ r ∷ [] = none_waits (plan_of core) (state_of core) t thread none goes_on in
    record {
      result = r;
      step = subst (λ rs. Contains rs r) (sym all) (Contains-from_In r (here {xs = []}));
      reply_is = ap Wait is;
      entries = nothing_more core.entries;
      plan = refl;
    }

-- ---- room

or_none : (first : Option Reply) → or_else first None ≡ first
or_none None = refl
or_none (Some reply) = refl

-- where no iteration is started, room is room for entries
pub entries_alone : (plan : Plan) (state : State) (n added : ℕ) → refusal_with plan state n added 0 ≡ entries_refusal plan state added 0
entries_alone plan state n added = or_none (entries_refusal plan state added 0)

-- without the first refusal and the second there is neither
none_first : (first other : Option Reply) → None ≡ or_else first other → None ≡ first
none_first None other h = refl
none_first (Some reply) other h = h

none_second : (first other : Option Reply) → None ≡ or_else first other → None ≡ other
none_second None other h = h
none_second (Some reply) other h = absurd (cc)

-- what isn't refused for this limit is within it
not_over : (limit needed : ℕ) (room : Room) → None ≡ cond (nat_lt limit needed) (Some (Full room needed limit)) None → needed ≤ limit
not_over limit needed room h =
    let P : Bool → Type 0 = λ b. nat_lt limit needed ≡ b → None ≡ cond b (Some (Full room needed limit)) None → needed ≤ limit in
    let from : P (nat_lt limit needed) = elim (nat_lt limit needed) as P [
      | true ↦ λ e none. absurd (cc)
      | false ↦ λ e none. grind (arith, common_steps)
    ] in from refl h

-- there is room where there is no refusal
pub room_alone : (core : CoreView) (added busy : ℕ) → None ≡ entries_refusal (plan_of core) (state_of core) added busy → HasRoom core added busy
room_alone core added busy h = not_over (plan_of core).entry_limit (entries_with (state_of core) added busy) Entries h

pub room_left : (core : CoreView) (n added busy : ℕ) → None ≡ refusal_with (plan_of core) (state_of core) n added busy → HasRoom core added busy
room_left core n added busy h = room_alone core added busy (none_first (entries_refusal (plan_of core) (state_of core) added busy) _ h)

-- for the samples too, where an iteration is started
pub samples_left : (core : CoreView) (n added : ℕ) → None ≡ refusal_with (plan_of core) (state_of core) n added 1 → HasSampleRoom core n
samples_left core n added h =
    not_over (plan_of core).entry_limit (samples_with (plan_of core) (state_of core) n) Samples
    (none_second (entries_refusal (plan_of core) (state_of core) added 1) (samples_refusal (plan_of core) (state_of core) n) h)

-- room for two entries is room for one
pub room_at_all : (core : CoreView) → HasRoom core 2 1 → HasRoom core 1 0
room_at_all core room =
    let few : entries_with (state_of core) 2 1 ≤ (plan_of core).entry_limit = room in
    let enough : entries_with (state_of core) 1 0 ≤ (plan_of core).entry_limit = omega arith in
    enough

module _ (core : CoreView) (thread t : ℕ) where
  abbrev state : State
  state = state_of core

  abbrev plan : Plan
  plan = plan_of core

  -- ---- what is answered

  first_steps : (move : Move) → IsFirst core t move → IsStep plan state thread asks.Act t (move_result plan state thread t move)
  first_steps move first = Contains-from_In (move_result plan state thread t move) (first_performed plan state t thread move (In-of first.first))

  pub refused_act : (move : Move) (reply : Reply) → IsFirst core t move →
      Some reply ≡ refusal_with plan state (scenario_of move) (added_entries move) (made_busy move) → IsAsked core core thread asks.Act t reply
  refused_act move reply first refusal =
      let why : room_refusal plan state move ≡ Some reply = sym refusal in
      let gives : move_result plan state thread t move ≡ answered state reply = rw why refl in
      record {
        result = answered state reply;
        step = subst (λ r. IsStep plan state thread asks.Act t r) gives (first_steps move first);
        reply_is = refl;
        entries = nothing_more core.entries;
        plan = refl;
      }

  performs : (move : Move) → IsFirst core t move → None ≡ refusal_with plan state (scenario_of move) (added_entries move) (made_busy move) →
      IsStep plan state thread asks.Act t (performed plan state thread t (reply_to move) (acts_of move))
  performs move first refusal =
      let why : room_refusal plan state move ≡ None = sym refusal in
      let gives : move_result plan state thread t move ≡ performed plan state thread t (reply_to move) (acts_of move) = rw why refl in
      subst (λ r. IsStep plan state thread asks.Act t r) gives (first_steps move first)

  next_turn : length core.entries + 1 ≡ state.entries + 1
  next_turn = let total = entries_counted plan core.entries in omega arith

  pub performed_act : (move : Move) (act : Act) (new : CoreView) → IsFirst core t move → acts_of move ≡ act ∷ [] →
      None ≡ refusal_with plan state (scenario_of move) (added_entries move) (made_busy move) → Adds core new thread t act → IsAsked core new thread asks.Act t (reply_to move)
  performed_act move act new first acts refusal adds =
      let writes : entries_of (state.entries + 1) thread t (acts_of move) ≡ next_entry core thread t act ∷ [] = rw (acts, next_turn) refl in
      record {
        result = performed plan state thread t (reply_to move) (acts_of move);
        step = performs move first refusal;
        reply_is = refl;
        entries = rw writes adds.entries;
        plan = adds.plan;
      }

  later_turn : (mid : CoreView) (act : Act) → Adds core mid thread t act → length mid.entries + 1 ≡ state.entries + 1 + 1
  later_turn mid act adds =
      let total = entries_counted plan core.entries in
      let long : length mid.entries ≡ length core.entries + 1 = ap (λ (es : List Entry). length es) adds.entries ∙ one_longer core.entries (next_entry core thread t act) in
      omega arith

  pub performed_two : (move : Move) (act later : Act) (mid new : CoreView) → IsFirst core t move → acts_of move ≡ act ∷ later ∷ [] →
      None ≡ refusal_with plan state (scenario_of move) (added_entries move) (made_busy move) → Adds core mid thread t act → Adds mid new thread t later →
      IsAsked core new thread asks.Act t (reply_to move)
  performed_two move act later mid new first acts refusal adds more =
      let writes : entries_of (state.entries + 1) thread t (acts_of move) ≡ next_entry core thread t act ∷ next_entry mid thread t later ∷ [] =
      rw (acts, next_turn, later_turn mid act adds) refl in
      let both : new.entries ≡ core.entries ++ next_entry core thread t act ∷ next_entry mid thread t later ∷ [] =
      more.entries ∙ ap (λ (es : List Entry). es ++ next_entry mid thread t later ∷ []) adds.entries
      ∙ one_behind core.entries (next_entry core thread t act) (next_entry mid thread t later) in
      record {
        result = performed plan state thread t (reply_to move) (acts_of move);
        step = performs move first refusal;
        reply_is = refl;
        entries = rw writes both;
        plan = more.plan ∙ adds.plan;
      }

  -- ---- of which scenario a first act is

  abbrev users : Users
  users = users_of plan state

  record Acts (n : ℕ) (move : Move) : Type 0 where
    s : Scenario
    stands : slice_get (scenarios plan state) n ≡ Some s
    at : Contains (moves_of users n s t) move

  acts_there : (move : Move) → IsFirst core t move → Acts (scenario_of move) move
  acts_there move first =
      let found = (first_is plan state t move (In-of first.first)).0 in
      let of_n : Acts found.0 move = record { s = found.1.0; stands = found.1.1; at = found.1.2 } in
      subst (λ (n : ℕ). Acts n move) (sym (number_of_act plan state t found.0 move found.1)) of_n

  pub first_inside : (move : Move) → IsFirst core t move → scenario_of move < length plan.parts
  first_inside move first =
      let acts = acts_there move first in
      let there = stands_share state.controls plan.parts state.shares (scenario_of move) acts.s acts.stands in
      slice_get_within plan.parts (scenario_of move) acts.s.part there.0

  -- ---- what may be done

  -- a scenario may be told of its first act, where that brings no user
  pub first_may : (move : Move) (act : Act) (rest : List Act) → IsFirst core t move → acts_of move ≡ act ∷ rest → newcomer_of act ≡ None →
      MayBeToldOf core (scenario_of move) act
  first_may move act rest first acts old =
      let found = acts_there move first in
      of_some (slice_get (scenarios plan state) (scenario_of move)) found.s (λ s. MayBeTold s act) found.stands
      (first_told (scenario_of move) t users found.s move act rest found.at acts old)

  -- it has a place where a user is grown for an arrival, or taken for one
  pub grown_there : (n due item until user slot : ℕ) → IsFirst core t (AnswerArrival n due item until (GrowAndStart user slot)) → HasPlace core n slot
  grown_there n due item until user slot first =
      let found = acts_there (AnswerArrival n due item until (GrowAndStart user slot)) first in
      of_some (slice_get (scenarios plan state) n) found.s (λ s. executor_has_place s.part.executor s slot ≡ true) found.stands
      (grown_place n t due item until user slot users found.s found.at)

  taken_there : (n due item until user slot : ℕ) → IsFirst core t (AnswerArrival n due item until (TakeAndStart user slot)) → HasPlace core n slot
  taken_there n due item until user slot first =
      let found = acts_there (AnswerArrival n due item until (TakeAndStart user slot)) first in
      of_some (slice_get (scenarios plan state) n) found.s (λ s. executor_has_place s.part.executor s slot ≡ true) found.stands
      (taken_for_place n t due item until user slot users found.s found.at)

  -- what a due arrival is answered
  from_arrival : (n : ℕ) (s : Scenario) (due item until : ℕ) (answer : Answer) (move : Move) → move ≡ AnswerArrival n due item until answer → Source users n s t move →
      In answer (answers s users t)
  from_arrival n s due item until answer move is (by_stop may) = absurd (cc)
  from_arrival n s due item until answer move is (by_release h at may) = absurd (cc)
  from_arrival n s due item until answer move is (by_take user' slot at of may) = absurd (cc)
  from_arrival n s due item until answer move is (by_arrival a answer' now at) =
      let same : answer' ≡ answer = cc in subst (λ (x : Answer). In x (answers s users t)) same at
  from_arrival n s due item until answer move is (by_start h item' at may) = absurd (cc)
  from_arrival n s due item until answer move is (by_drop item' may) = absurd (cc)
  from_arrival n s due item until answer move is (by_close may) = absurd (cc)

  -- a user is grown where one more may be made
  pub grown_below : (n due item until user slot : ℕ) → IsFirst core t (AnswerArrival n due item until (GrowAndStart user slot)) → state.made < plan.limit
  grown_below n due item until user slot first =
      let move = AnswerArrival n due item until (GrowAndStart user slot) in
      let found = acts_there move first in
      let answer = from_arrival n found.s due item until (GrowAndStart user slot) move refl (source_of users n found.s t move (In-of found.at)) in
      let below : nat_lt state.made plan.limit ≡ true = (both_true (may_hold_more found.s) (nat_lt state.made plan.limit) (grow_answer users n found.s t user slot answer).1).1 in
      grind (arith, common_steps)

  some_user : (free : List ℕ) → free ≢ [] → (user : ℕ) × Contains free user
  some_user [] some = absurd (some refl)
  some_user (user ∷ rest) some = (user, Contains-from_In user (here {xs = rest}))

  -- some free user, and the act with it
  pub one_of_each : (n item until slot : ℕ) (first : IsFirstTakeFor core t n item until slot) → (user : ℕ) × IsFirst core t (AnswerArrival n first.due item until (TakeAndStart user slot))
  one_of_each n item until slot first =
      let found = some_user (free_users state) first.some in
      (found.0, first.each found.0 found.1)

  pub taken_for_there : (n item until slot : ℕ) → IsFirstTakeFor core t n item until slot → HasPlace core n slot
  taken_for_there n item until slot first =
      let one = one_of_each n item until slot first in
      taken_there n first.due item until one.0 slot one.1

  -- the same of an act with each free user
  pub refused_with : (move : ℕ → Move) (reply : Reply) → free_users state ≢ [] → ((user : ℕ) → Contains (free_users state) user → IsFirst core t (move user)) →
      (n added busy : ℕ) → ((user : ℕ) → scenario_of (move user) ≡ n) → ((user : ℕ) → added_entries (move user) ≡ added) →
      ((user : ℕ) → made_busy (move user) ≡ busy) → Some reply ≡ refusal_with plan state n added busy → IsAsked core core thread asks.Act t reply
  refused_with move reply some each n added busy of_it adds makes refusal =
      let found = some_user (free_users state) some in
      refused_act (move found.0) reply (each found.0 found.1) (rw (of_it found.0, adds found.0, makes found.0) refusal)

  -- ---- between the acts of one step

  -- scenario n holds a user more behind the act, and nothing else changed
  pub record Holds (mid : CoreView) (n user slot : ℕ) : Type 0 where
    pub s : Scenario
    pub before : slice_get (scenarios plan state) n ≡ Some s
    pub stands : slice_get (scenarios (plan_of mid) (state_of mid)) n ≡ Some (record s { share = hold user slot s.share })
    pub entries : (state_of mid).entries ≡ state.entries + 1
    pub samples : (state_of mid).samples ≡ state.samples
    pub busy : busy_count (state_of mid) ≡ busy_count state
    pub space : busy_room (plan_of mid) (state_of mid) ≡ busy_room plan state
    pub same_plan : plan_of mid ≡ plan

  held_there : (mid : CoreView) (n user slot : ℕ) (s : Scenario) (after : State) → slice_get (scenarios plan state) n ≡ Some s → plan_of mid ≡ plan → state_of mid ≡ after →
      slice_get after.shares n ≡ Some (hold user slot s.share) → after.controls ≡ state.controls → after.entries ≡ state.entries + 1 → after.samples ≡ state.samples →
      busy_count after ≡ busy_count state → busy_room plan after ≡ busy_room plan state → Holds mid n user slot
  held_there mid n user slot s after stands plan_is after_is share_at controls entries samples busy space =
      let there = stands_share state.controls plan.parts state.shares n s stands in
      let standing : slice_get (scenarios plan after) n ≡ Some (record s { share = hold user slot s.share }) =
      stands_with after.controls plan.parts after.shares n s.part (hold user slot s.share) there.0 share_at
      ∙ ap (λ c. Some (record { part = s.part; share = hold user slot s.share; controls = c })) (controls ∙ sym (controls_with state.controls plan.parts state.shares n s stands)) in
      record {
        s = s;
        before = stands;
        stands = subst (λ (p : Plan). slice_get (scenarios p (state_of mid)) n ≡ Some (record s { share = hold user slot s.share })) (sym plan_is)
            (subst (λ (x : State). slice_get (scenarios plan x) n ≡ Some (record s { share = hold user slot s.share })) (sym after_is) standing);
        entries = ap (λ (x : State). x.entries) after_is ∙ entries;
        samples = ap (λ (x : State). x.samples) after_is ∙ samples;
        busy = ap busy_count after_is ∙ busy;
        space = subst (λ (p : Plan). busy_room p (state_of mid) ≡ busy_room plan state) (sym plan_is)
            (subst (λ (x : State). busy_room plan x ≡ busy_room plan state) (sym after_is) space);
        same_plan = plan_is;
      }

  pub holds_taken : (mid : CoreView) (n user slot : ℕ) (move : Move) → IsFirst core t move → scenario_of move ≡ n → Adds core mid thread t (Take n user slot) → Holds mid n user slot
  holds_taken mid n user slot move first of_n adds =
      let acts : Acts n move = subst (λ (k : ℕ). Acts k move) of_n (acts_there move first) in
      let there = stands_share state.controls plan.parts state.shares n acts.s acts.stands in
      held_there mid n user slot acts.s (after_entry plan state (next_entry core thread t (Take n user slot))) acts.stands (rw adds.plan refl) (state_added core mid thread t (Take n user slot) adds)
      (own_share plan state thread t (Take n user slot) n acts.s.part acts.s.share refl there.0 there.1) refl refl refl
      (busy_same state n (hold user slot) (busy_hold user slot)) (room_same plan state n (hold user slot) (busy_hold user slot))

  pub holds_grown : (mid : CoreView) (n user slot : ℕ) (move : Move) → IsFirst core t move → scenario_of move ≡ n → Adds core mid thread t (Grow n user slot) → Holds mid n user slot
  holds_grown mid n user slot move first of_n adds =
      let acts : Acts n move = subst (λ (k : ℕ). Acts k move) of_n (acts_there move first) in
      let there = stands_share state.controls plan.parts state.shares n acts.s acts.stands in
      held_there mid n user slot acts.s (after_entry plan state (next_entry core thread t (Grow n user slot))) acts.stands (rw adds.plan refl) (state_added core mid thread t (Grow n user slot) adds)
      (own_share plan state thread t (Grow n user slot) n acts.s.part acts.s.share refl there.0 there.1) refl refl refl
      (busy_same state n (hold user slot) (busy_hold user slot)) (room_same plan state n (hold user slot) (busy_hold user slot))

  -- the scenario may be told of the second act of a step behind the first
  pub second_may : (mid : CoreView) (n user slot : ℕ) (move : Move) (act next : Act) → IsFirst core t move → scenario_of move ≡ n → acts_of move ≡ act ∷ next ∷ [] →
      ((part : Part) (share : Share) → share_after part thread t act share ≡ hold user slot share) → Holds mid n user slot → MayBeToldOf mid n next
  second_may mid n user slot move act next first of_n acts holds_it holds =
      let found : Acts n move = subst (λ (k : ℕ). Acts k move) of_n (acts_there move first) in
      let same : found.s ≡ holds.s = some_same (sym found.stands ∙ holds.before) in
      let told = second_told n t thread t users found.s move act next found.at acts in
      let told_here : MayBeTold (record holds.s { share = share_after holds.s.part thread t act holds.s.share }) next =
      subst (λ (s : Scenario). MayBeTold (record s { share = share_after s.part thread t act s.share }) next) same told in
      of_some (slice_get (scenarios (plan_of mid) (state_of mid)) n) (record holds.s { share = hold user slot holds.s.share }) (λ s. MayBeTold s next) holds.stands
      (subst (λ (share : Share). MayBeTold (record holds.s { share = share }) next) (holds_it holds.s.part holds.s.share) told_here)
    where
      some_same : {A : Type 0} {x y : A} → Some x ≡ Some y → x ≡ y
      some_same e = cc

  pub room_still : (mid : CoreView) (n user slot : ℕ) → Holds mid n user slot → HasRoom core 2 1 → HasRoom mid 1 1
  room_still mid n user slot holds room =
      let same = holds.busy in
      let most : (plan_of mid).entry_limit ≡ plan.entry_limit = ap (λ (p : Plan). p.entry_limit) holds.same_plan in
      let long = holds.entries in
      let few : entries_with state 2 1 ≤ plan.entry_limit = room in
      let enough : entries_with (state_of mid) 1 1 ≤ (plan_of mid).entry_limit = omega arith in
      enough

  pub samples_still : (mid : CoreView) (n user slot : ℕ) → Holds mid n user slot → HasSampleRoom core n → HasSampleRoom mid n
  samples_still mid n user slot holds room =
      let most : (plan_of mid).entry_limit ≡ plan.entry_limit = ap (λ (p : Plan). p.entry_limit) holds.same_plan in
      let script = ap (λ (p : Plan). script_room p n) holds.same_plan in
      let space = holds.space in
      let samples = holds.samples in
      let few : samples_with plan state n ≤ plan.entry_limit = room in
      let enough : samples_with (plan_of mid) (state_of mid) n ≤ (plan_of mid).entry_limit = omega arith in
      enough

  -- ---- an item that starts, or is dropped, whether or not it is an arrival

  pub start_inside : (arrivals : Bool) (n user item until due : ℕ) → IsFirst core t (start_wished arrivals n user item until due) → n < length plan.parts
  start_inside true n user item until due first = first_inside (AnswerArrival n due item until (StartOn user)) first
  start_inside false n user item until due first = first_inside (StartIteration n user item until) first

  pub start_refused : (arrivals : Bool) (n user item until due : ℕ) (reply : Reply) → IsFirst core t (start_wished arrivals n user item until due) →
      Some reply ≡ refusal_with plan state n 1 1 → IsAsked core core thread asks.Act t reply
  start_refused true n user item until due reply first refusal = refused_act (AnswerArrival n due item until (StartOn user)) reply first refusal
  start_refused false n user item until due reply first refusal = refused_act (StartIteration n user item until) reply first refusal

  pub start_may : (arrivals : Bool) (n user item until due : ℕ) → IsFirst core t (start_wished arrivals n user item until due) → MayBeToldOf core n (Start n user item until)
  start_may true n user item until due first = first_may (AnswerArrival n due item until (StartOn user)) (Start n user item until) [] first refl refl
  start_may false n user item until due first = first_may (StartIteration n user item until) (Start n user item until) [] first refl refl

  pub start_performed : (arrivals : Bool) (n user item until due : ℕ) (new : CoreView) → IsFirst core t (start_wished arrivals n user item until due) →
      None ≡ refusal_with plan state n 1 1 → Adds core new thread t (Start n user item until) → IsAsked core new thread asks.Act t (Run (stint_of n user item until))
  start_performed true n user item until due new first refusal adds =
      performed_act (AnswerArrival n due item until (StartOn user)) (Start n user item until) new first refl refusal adds
  start_performed false n user item until due new first refusal adds =
      performed_act (StartIteration n user item until) (Start n user item until) new first refl refusal adds

  pub drop_refused : (arrivals : Bool) (n item until due : ℕ) (reply : Reply) → IsFirst core t (drop_wished arrivals n item until due) →
      Some reply ≡ refusal_with plan state n 1 0 → IsAsked core core thread asks.Act t reply
  drop_refused true n item until due reply first refusal = refused_act (AnswerArrival n due item until DropArrival) reply first refusal
  drop_refused false n item until due reply first refusal = refused_act (DropIteration n item) reply first refusal

  pub drop_may : (arrivals : Bool) (n item until due : ℕ) → IsFirst core t (drop_wished arrivals n item until due) → MayBeToldOf core n (Drop n item)
  drop_may true n item until due first = first_may (AnswerArrival n due item until DropArrival) (Drop n item) [] first refl refl
  drop_may false n item until due first = first_may (DropIteration n item) (Drop n item) [] first refl refl

  pub drop_performed : (arrivals : Bool) (n item until due : ℕ) (new : CoreView) → IsFirst core t (drop_wished arrivals n item until due) →
      None ≡ refusal_with plan state n 1 0 → Adds core new thread t (Drop n item) → IsAsked core new thread asks.Act t (Dropped n item)
  drop_performed true n item until due new first refusal adds =
      performed_act (AnswerArrival n due item until DropArrival) (Drop n item) new first refl refusal adds
  drop_performed false n item until due new first refusal adds =
      performed_act (DropIteration n item) (Drop n item) new first refl refusal adds
