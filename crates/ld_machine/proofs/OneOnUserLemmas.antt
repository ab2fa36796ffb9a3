-- First acts differ in their user alone, and one at most is on a user.
use Rattle.std.proofs.Common.{◌≡◌, ◌≤◌, ◌∙◌, ◌==◌, ◌&&◌, ◌+◌, ◌∷◌, if◌then◌else◌, ℕ, Bool, true, false, cond, nat_lt, List, [], Option, None, Some, map, arith, refl, sym, ap, subst, slice_get}
use Rattle.std.specs.Prelude.{is_some}
use Rattle.ld_machine.specs.Plan.{Plan, Arrival, due_moment, hard_moment}
use Rattle.ld_machine.specs.State.{HeldUser, State, is_idle, idle_users, held_count, times_held}
use Rattle.ld_machine.specs.Scenario.{Scenario, first_of, has_ended, may_hold_more, until_of, item_to_start}
use Rattle.ld_machine.specs.Moves.{Answer, CountLate, StartOn, GrowAndStart, TakeAndStart, DropArrival, Move, StopScenario, ReleaseUser, TakeUser, AnswerArrival, StartIteration, DropIteration, CloseScenario, Users, users_of, answers, scenarios, enabled}
use Rattle.ld_machine.specs.Order.{place_of, first_moves}
use Rattle.ld_machine.specs.Acts.{scenario_of}
use Rattle.ld_machine.specs.Room.{room_refusal}
use Rattle.ld_machine.specs.Together.{IsActOf, WellHeld}
use Rattle.ld_machine.specs.Preferred.{answer_user, user_of}
use Rattle.ld_machine.proofs.ListLemmas.{In, In-map, In-one, In-filter, number_itself}
use Rattle.ld_machine.proofs.OrderLemmas.{first_place}
use Rattle.ld_machine.proofs.SourceLemmas.{Source, by_stop, by_release, by_take, by_arrival, by_start, by_drop, by_close}
use Rattle.ld_machine.proofs.FirstOfAllLemmas.{first_is}
use Rattle.ld_machine.proofs.FirstOfEachLemmas.{some_is}
use Rattle.ld_machine.proofs.BusyLemmas.{once_same}
use Rattle.ld_machine.proofs.FreeLemmas.{among_held}
use Rattle.ld_machine.proofs.BusyStepLemmas.{number_of_act, share_of_act, the_source}

-- ---- answers to one arrival

-- an answer to an arrival with its user left out
abbrev answer_aside : Answer → Answer
answer_aside CountLate = CountLate
answer_aside (StartOn _) = StartOn 0
answer_aside (GrowAndStart _ slot) = GrowAndStart 0 slot
answer_aside (TakeAndStart _ slot) = TakeAndStart 0 slot
answer_aside DropArrival = DropArrival

-- answers of a list differ in the user alone
abbrev Alike : List Answer → Type 0
Alike xs = (x y : Answer) → In x xs → In y xs → answer_aside x ≡ answer_aside y

-- one answer, the same answer for each of some users, and a choice of such lists
one_alike : (z : Answer) → Alike (z ∷ [])
one_alike z x y at_x at_y = ap answer_aside (sym (In-one x z at_x) ∙ In-one y z at_y)

map_alike : {A : Type 0} (f : A → Answer) (z : Answer) (xs : List A) → ((a : A) → answer_aside (f a) ≡ z) → Alike (map f xs)
map_alike f z xs same x y at_x at_y =
    let a = In-map f x xs at_x in
    let b = In-map f y xs at_y in
    ap answer_aside (sym a.2) ∙ same a.0 ∙ sym (same b.0) ∙ ap answer_aside b.2

choice_alike : (b : Bool) (xs ys : List Answer) → Alike xs → Alike ys → Alike (cond b xs ys)
choice_alike true xs ys alike_xs alike_ys = alike_xs
choice_alike false xs ys alike_xs alike_ys = alike_ys

-- what may become of an arrival differs in the user alone
answers_alike : (s : Scenario) (users : Users) (t : ℕ) → Alike (answers s users t)
answers_alike s users t =
    let dropped = one_alike DropArrival in
    let taken = choice_alike (may_hold_more s && is_some (first_of users.free)) _ _
    (map_alike (λ user. TakeAndStart user (held_count s.share)) (TakeAndStart 0 (held_count s.share)) users.free (λ user. refl)) dropped in
    let grown = choice_alike (may_hold_more s && nat_lt users.made users.limit) _ _ (one_alike (GrowAndStart (users.made + 1) (held_count s.share))) taken in
    let on = choice_alike (is_some (first_of (idle_users s.share))) _ _
    (map_alike (λ (h : HeldUser). StartOn h.user) (StartOn 0) (idle_users s.share) (λ h. refl)) grown in
    choice_alike (has_ended s t) _ _ (one_alike CountLate) on

-- answers that differ in the user alone, on the same user, are the same
answer_by_user : (x y : Answer) → answer_aside x ≡ answer_aside y → answer_user x ≡ answer_user y → x ≡ y
answer_by_user CountLate CountLate alike same = refl
answer_by_user (StartOn a) (StartOn b) alike same = cc
answer_by_user (GrowAndStart a slot) (GrowAndStart b other) alike same = cc
answer_by_user (TakeAndStart a slot) (TakeAndStart b other) alike same = cc
answer_by_user DropArrival DropArrival alike same = refl
answer_by_user _ _ alike same = absurd (cc)

-- ---- acts of one place

-- an act with its user, and what goes with the user, left out
abbrev user_aside : Move → Move
user_aside (StopScenario n) = StopScenario n
user_aside (ReleaseUser n _) = ReleaseUser n 0
user_aside (TakeUser n _ slot) = TakeUser n 0 slot
user_aside (AnswerArrival n due item until answer) = AnswerArrival n due item until (answer_aside answer)
user_aside (StartIteration n _ _ _) = StartIteration n 0 0 0
user_aside (DropIteration n item) = DropIteration n item
user_aside (CloseScenario n) = CloseScenario n

module _ (users : Users) (n : ℕ) (s : Scenario) (t : ℕ) where
  -- acts of one scenario and one place differ in the user alone
  aside_same : (a b : Move) → Source users n s t a → Source users n s t b → place_of a ≡ place_of b → user_aside a ≡ user_aside b
  aside_same a b (by_stop e) (by_stop e') place = refl
  aside_same a b (by_release g idle e) (by_release h idle' e') place = refl
  aside_same a b (by_take one slot free slots e) (by_take other slot' free' slots' e') place = cc
  aside_same a b (by_arrival x answer due e) (by_arrival y answer' due' e') place =
      let same = some_is x y (sym due ∙ due') in
      ap (λ (z : Arrival). AnswerArrival n (due_moment s.part z) z.item (hard_moment s.part) (answer_aside answer)) same
      ∙ ap (λ those. AnswerArrival n (due_moment s.part y) y.item (hard_moment s.part) those) (answers_alike s users t answer answer' e e')
  aside_same a b (by_start g item idle e) (by_start h item' idle' e') place = refl
  aside_same a b (by_drop item e) (by_drop item' e') place = ap (λ k. DropIteration n k) (some_is item item' (sym e ∙ e'))
  aside_same a b (by_close e) (by_close e') place = refl
  aside_same a b _ _ place = absurd (cc)

  -- where each idle user is held once, acts of one place on the same user, or on none, are the same
  act_by_user : ((g h : HeldUser) → In g (idle_users s.share) → In h (idle_users s.share) → g.user ≡ h.user → g ≡ h) →
      (a b : Move) → Source users n s t a → Source users n s t b → place_of a ≡ place_of b → user_of a ≡ user_of b → a ≡ b
  act_by_user once a b (by_stop e) (by_stop e') place same = refl
  act_by_user once a b (by_release g idle e) (by_release h idle' e') place same = ap (λ u. ReleaseUser n u) (some_is g.user h.user same)
  act_by_user once a b (by_take one slot free slots e) (by_take other slot' free' slots' e') place same = cc
  act_by_user once a b (by_arrival x answer due e) (by_arrival y answer' due' e') place same =
      let it = some_is x y (sym due ∙ due') in
      ap (λ (z : Arrival). AnswerArrival n (due_moment s.part z) z.item (hard_moment s.part) answer) it
      ∙ ap (λ those. AnswerArrival n (due_moment s.part y) y.item (hard_moment s.part) those)
      (answer_by_user answer answer' (answers_alike s users t answer answer' e e') same)
  act_by_user once a b (by_start g item idle e) (by_start h item' idle' e') place same =
      let it : g ≡ h = once g h idle idle' (some_is g.user h.user same) in
      let e_h : item_to_start s h.slot t ≡ Some item = subst (λ (u : HeldUser). item_to_start s u.slot t ≡ Some item) it e in
      ap (λ (u : HeldUser). StartIteration n u.user item (until_of s u.slot t)) it
      ∙ ap (λ k. StartIteration n h.user k (until_of s h.slot t)) (some_is item item' (sym e_h ∙ e'))
  act_by_user once a b (by_drop item e) (by_drop item' e') place same = ap (λ k. DropIteration n k) (some_is item item' (sym e ∙ e'))
  act_by_user once a b (by_close e) (by_close e') place same = refl
  act_by_user once a b _ _ place same = absurd (cc)

-- whether there is room for an act, and whether it is on a user, is the same with its user left out
room_aside : (plan : Plan) (state : State) (m : Move) → room_refusal plan state m ≡ room_refusal plan state (user_aside m)
room_aside plan state (StopScenario n) = refl
room_aside plan state (ReleaseUser n user) = refl
room_aside plan state (TakeUser n user slot) = refl
room_aside plan state (StartIteration n user item until) = refl
room_aside plan state (DropIteration n item) = refl
room_aside plan state (CloseScenario n) = refl
room_aside plan state (AnswerArrival n due item until CountLate) = refl
room_aside plan state (AnswerArrival n due item until (StartOn user)) = refl
room_aside plan state (AnswerArrival n due item until (GrowAndStart user slot)) = refl
room_aside plan state (AnswerArrival n due item until (TakeAndStart user slot)) = refl
room_aside plan state (AnswerArrival n due item until DropArrival) = refl

on_aside : (m : Move) → is_some (user_of m) ≡ is_some (user_of (user_aside m))
on_aside (StopScenario n) = refl
on_aside (ReleaseUser n user) = refl
on_aside (TakeUser n user slot) = refl
on_aside (StartIteration n user item until) = refl
on_aside (DropIteration n item) = refl
on_aside (CloseScenario n) = refl
on_aside (AnswerArrival n due item until CountLate) = refl
on_aside (AnswerArrival n due item until (StartOn user)) = refl
on_aside (AnswerArrival n due item until (GrowAndStart user slot)) = refl
on_aside (AnswerArrival n due item until (TakeAndStart user slot)) = refl
on_aside (AnswerArrival n due item until DropArrival) = refl

-- what isn't there is none
none_there : {A : Type 0} (o : Option A) → is_some o ≡ false → o ≡ None
none_there None h = refl
none_there (Some x) h = absurd (cc)

-- ---- first acts

-- the scenario that the act of a place is of
abbrev scenario_at : List ℕ → ℕ
scenario_at (rank ∷ n ∷ []) = n
scenario_at (rank ∷ k ∷ n ∷ rest) = if rank == 4 then n else k
scenario_at _ = 0

-- an act's place tells its scenario
scenario_by_place : (m : Move) → scenario_of m ≡ scenario_at (place_of m)
scenario_by_place (StopScenario n) = refl
scenario_by_place (ReleaseUser n user) = refl
scenario_by_place (TakeUser n user slot) = refl
scenario_by_place (AnswerArrival n due item until answer) = refl
scenario_by_place (StartIteration n user item until) = refl
scenario_by_place (DropIteration n item) = refl
scenario_by_place (CloseScenario n) = refl

-- in a state where no user is held twice, each idle user of a scenario is held in one way
idle_once : (state : State) (n : ℕ) (s : Scenario) → WellHeld state → slice_get state.shares n ≡ Some s.share →
    (g h : HeldUser) → In g (idle_users s.share) → In h (idle_users s.share) → g.user ≡ h.user → g ≡ h
idle_once state n s well at g h at_g at_h same =
    let within = among_held g.user n s.share state.shares at in
    let once : times_held g.user state.shares ≤ 1 = (well g.user).0 in
    once_same g.user g h s.share.held (omega arith)
    (In-filter is_idle g s.share.held at_g).0 (In-filter is_idle h s.share.held at_h).0
    (number_itself g.user) (subst (λ k. (k == g.user) ≡ true) same (number_itself g.user))

module _ (plan : Plan) (state : State) (t : ℕ) (a b : Move)
    (first_a : In a (first_moves plan state t)) (first_b : In b (first_moves plan state t)) where
  -- first acts have one place
  same_place : place_of a ≡ place_of b
  same_place = first_place (enabled plan state t) a b first_a first_b

  -- first acts are enabled by cells of one scenario
  one_scenario : (n : ℕ) × (s : Scenario) × (slice_get state.shares n ≡ Some s.share)
      × Source (users_of plan state) n s t a × Source (users_of plan state) n s t b
  one_scenario =
      let of_a = (first_is plan state t a first_a).0 in
      let of_b = (first_is plan state t b first_b).0 in
      let act_a : IsActOf plan state t of_a.0 a = of_a.1 in
      let act_b : IsActOf plan state t of_b.0 b = of_b.1 in
      let number : of_b.0 ≡ of_a.0 =
      sym (number_of_act plan state t of_b.0 b act_b) ∙ scenario_by_place b ∙ ap scenario_at (sym same_place) ∙ sym (scenario_by_place a)
      ∙ number_of_act plan state t of_a.0 a act_a in
      let stands : slice_get (scenarios plan state) of_a.0 ≡ Some act_b.0 =
      subst (λ k. slice_get (scenarios plan state) k ≡ Some act_b.0) number act_b.1 in
      let scenario : act_b.0 ≡ act_a.0 = some_is act_b.0 act_a.0 (sym stands ∙ act_a.1) in
      let source_b : Source (users_of plan state) of_a.0 act_b.0 t b =
      subst (λ k. Source (users_of plan state) k act_b.0 t b) number (the_source plan state t of_b.0 b act_b) in (
        of_a.0,
        act_a.0,
        share_of_act plan state t of_a.0 a act_a,
        the_source plan state t of_a.0 a act_a,
        subst (λ (s : Scenario). Source (users_of plan state) of_a.0 s t b) scenario source_b,
      )

  -- where no user is held twice, first acts on the same user, or on none, are the same
  pub first_by_user : WellHeld state → user_of a ≡ user_of b → a ≡ b
  first_by_user well same =
      let one = one_scenario in
      act_by_user (users_of plan state) one.0 one.1 t (idle_once state one.0 one.1 well one.2) a b one.3 one.4 same_place same

  -- first acts differ in the user alone
  first_aside : user_aside a ≡ user_aside b
  first_aside = let one = one_scenario in aside_same (users_of plan state) one.0 one.1 t a b one.3 one.4 same_place

  -- whether there is room is the same for all first acts
  pub first_room : room_refusal plan state a ≡ room_refusal plan state b
  first_room = room_aside plan state a ∙ ap (λ m. room_refusal plan state m) first_aside ∙ sym (room_aside plan state b)

  -- where a first act is on no user, none is
  pub first_nobody : user_of a ≡ None → user_of b ≡ None
  first_nobody none =
      none_there (user_of b) (on_aside b ∙ ap (λ m. is_some (user_of m)) (sym first_aside) ∙ sym (on_aside a) ∙ ap is_some none)
