-- What a right wish of a scenario tells of its acts among all, and that a halt comes before them.
use Rattle.std.proofs.Common.{Contains, ◌≡◌, ◌∙◌, ℕ, true, false, List, [], ◌∷◌, Some, map, refl, sym, ap, subst, slice_get}
use Rattle.ld_base.specs.declared.wish.Wish.{Wish}
use Rattle.ld_base.specs.declared.wish.Wish.TheVariants.{Nothing, Release, Take, Start, More, Drop, Late, Close}
use Rattle.ld_machine.specs.Plan.{Plan, hard_moment}
use Rattle.ld_machine.specs.State.{State}
use Rattle.ld_machine.specs.Scenario.{Scenario, may_stop}
use Rattle.ld_machine.specs.Moves.{Answer, Move, StopScenario, ReleaseUser, TakeUser, AnswerArrival, CloseScenario, CountLate, Users, users_of, releases, takes, arrivals, starts, drops, closes, stops, moves_of, scenarios}
use Rattle.ld_machine.specs.Order.{is_before, place_of}
use Rattle.ld_machine.specs.Wishes.{has_arrivals, start_wished, drop_wished, more_answers, acts_wished, later_moves, TellsFirst}
use Rattle.ld_machine.specs.Together.{IsFirstActOf}
use Rattle.ld_machine.proofs.ListLemmas.{In, here, nothing_in, In-map, In-one, Contains-from_In}
use Rattle.ld_machine.proofs.WaitLemmas.{In-left}
use Rattle.ld_machine.proofs.OrderLemmas.{before_itself}
use Rattle.ld_machine.proofs.SourceLemmas.{Source, by_stop, by_release, by_take, by_arrival, by_start, by_drop, by_close, source_of}
use Rattle.ld_machine.proofs.FirstOfAllLemmas.{In-of}
use Rattle.ld_machine.proofs.FirstOfEachLemmas.{first_passes}

-- ---- where the scenario may not be halted

-- the enabled acts of the scenario are the later ones
all_later : (users : Users) (n : ℕ) (s : Scenario) (t : ℕ) → may_stop s t ≡ false → moves_of users n s t ≡ later_moves n users s t
all_later users n s t no_stop = rw no_stop refl

-- what a right wish stands for is first of the scenario's acts
pub wished_first : (plan : Plan) (state : State) (t n prefer : ℕ) (s : Scenario) (wish : Wish) (m : Move) →
    slice_get (scenarios plan state) n ≡ Some s → may_stop s t ≡ false → TellsFirst n (users_of plan state) s t prefer wish →
    Contains (acts_wished n (users_of plan state) s.part wish) m → IsFirstActOf plan state t n m
wished_first plan state t n prefer s wish m stands no_stop tells wished =
    let users = users_of plan state in
    let later = all_later users n s t no_stop in
    let first = tells.first m wished in
    let there_is : Contains (moves_of users n s t) m = subst (λ (ms : List Move). Contains ms m) (sym later) first.among in
    let none_before : (other : Move) → Contains (moves_of users n s t) other → is_before (place_of other) (place_of m) ≡ false =
    λ other at. first.none_before other (subst (λ (ms : List Move). Contains ms other) later at) in
    (s, stands, first_passes (moves_of users n s t) m (there_is, none_before))

-- where it is for nothing, the scenario has no act
pub nothing_wished : (plan : Plan) (state : State) (t n prefer : ℕ) (s : Scenario) → may_stop s t ≡ false →
    TellsFirst n (users_of plan state) s t prefer Nothing → moves_of (users_of plan state) n s t ≡ []
nothing_wished plan state t n prefer s no_stop tells = all_later (users_of plan state) n s t no_stop ∙ tells.nothing refl

-- ---- the acts of a wish have one place

single_place : (m a b : Move) → Contains (m ∷ []) a → Contains (m ∷ []) b → place_of a ≡ place_of b
single_place m a b at_a at_b = ap place_of (sym (In-one a m (In-of at_a)) ∙ In-one b m (In-of at_b))

mapped_place : {A : Type 0} (f : A → Move) (xs : List A) (a b : Move) → ((x y : A) → place_of (f x) ≡ place_of (f y)) →
    Contains (map f xs) a → Contains (map f xs) b → place_of a ≡ place_of b
mapped_place f xs a b same at_a at_b =
    let of_a = In-map f a xs (In-of at_a) in
    let of_b = In-map f b xs (In-of at_b) in
    sym (ap place_of of_a.2) ∙ same of_a.0 of_b.0 ∙ ap place_of of_b.2

pub wished_place : (n : ℕ) (users : Users) (s : Scenario) (wish : Wish) (a b : Move) → Contains (acts_wished n users s.part wish) a →
    Contains (acts_wished n users s.part wish) b → place_of a ≡ place_of b
wished_place n users s Nothing a b at_a at_b = absurd (nothing_in (In-of at_a))
wished_place n users s (Release user) a b at_a at_b = single_place (ReleaseUser n user) a b at_a at_b
wished_place n users s (Take slot) a b at_a at_b = mapped_place (λ user. TakeUser n user slot) users.free a b (λ x y. refl) at_a at_b
wished_place n users s (Start user item until due) a b at_a at_b =
    single_place (start_wished (has_arrivals s.part.executor) n user item until due) a b at_a at_b
wished_place n users s (More item until due slot) a b at_a at_b =
    mapped_place (λ (answer : Answer). AnswerArrival n due item until answer) (more_answers users slot) a b (λ x y. refl) at_a at_b
wished_place n users s (Drop item due) a b at_a at_b =
    single_place (drop_wished (has_arrivals s.part.executor) n item (hard_moment s.part) due) a b at_a at_b
wished_place n users s (Late item due) a b at_a at_b = single_place (AnswerArrival n due item (hard_moment s.part) CountLate) a b at_a at_b
wished_place n users s Close a b at_a at_b = single_place (CloseScenario n) a b at_a at_b

-- ---- a halt

-- no act of a scenario is before its halt
none_before_halt : (users : Users) (n : ℕ) (s : Scenario) (t : ℕ) (m : Move) → Source users n s t m → is_before (place_of m) (1 ∷ n ∷ []) ≡ false
none_before_halt users n s t m (by_stop e) = before_itself (1 ∷ n ∷ [])
none_before_halt users n s t m (by_release h idle e) = refl
none_before_halt users n s t m (by_take user slot free slots e) = refl
none_before_halt users n s t m (by_arrival a answer due e) = refl
none_before_halt users n s t m (by_start h item idle e) = refl
none_before_halt users n s t m (by_drop item e) = refl
none_before_halt users n s t m (by_close e) = refl

halt_there : (users : Users) (n : ℕ) (s : Scenario) (t : ℕ) → may_stop s t ≡ true → In (StopScenario n) (moves_of users n s t)
halt_there users n s t may =
    let m = StopScenario n in
    let at : In m (stops n s t) = rw may here in
    In-left m (closes n s t)
    (In-left m (drops n s t)
    (In-left m (starts n s t)
    (In-left m (arrivals n s users t)
    (In-left m (takes n s users t)
    (In-left m (releases n s t) at)))))

pub halt_first : (plan : Plan) (state : State) (t n : ℕ) (s : Scenario) → slice_get (scenarios plan state) n ≡ Some s → may_stop s t ≡ true →
    IsFirstActOf plan state t n (StopScenario n)
halt_first plan state t n s stands may =
    let users = users_of plan state in
    let moves = moves_of users n s t in
    let there_is = Contains-from_In (StopScenario n) (halt_there users n s t may) in
    let none_before : (other : Move) → Contains moves other → is_before (place_of other) (1 ∷ n ∷ []) ≡ false =
    λ other at. none_before_halt users n s t other (source_of users n s t other (In-of at)) in
    (s, stands, first_passes moves (StopScenario n) (there_is, none_before))
