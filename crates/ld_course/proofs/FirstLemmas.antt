-- The first acts of a scenario, rank by rank, and the wishes that tell them.
use Rattle.std.proofs.Common.{Contains, ◌≡◌, ◌≤◌, ℕ, Bool, true, false, List, [], ◌∷◌, ◌++◌, Option, None, Some, slice_get, find, filter, filter_map, flat_map, map, refl, sym, ap, subst, arith, ◌∙◌}
use Rattle.std.specs.Prelude.{is_some, option_map}
use Rattle.std.specs.List.{cons_option}
use Rattle.std.specs.Option.{option_map_or}
use Rattle.std.proofs.lemmas.Bool.{true≢false}
use Rattle.std.proofs.lemmas.Grind.{common_steps}
use Rattle.ld_base.specs.declared.wish.Wish.{Wish}
use Rattle.ld_base.specs.declared.wish.Wish.TheVariants.{Nothing, Release, Take, Start, More, Drop, Late, Close}
use Rattle.ld_machine.specs.Plan.{hard_moment, Arrival, Executor, SharedIterations, PerVuIterations, ConstantVus, RampingVus, ArrivalRate, ExternallyControlled}
use Rattle.ld_machine.specs.State.{HeldUser, idle_users}
use Rattle.ld_machine.specs.Scenario.{Scenario, first_of, runs, where_holds, may_release, slots_to_take, may_take, due_arrival, item_to_start, until_of, item_to_drop, may_close, executor_arrivals, is_due}
use Rattle.ld_machine.specs.Moves.{Answer, StartOn, Move, ReleaseUser, TakeUser, AnswerArrival, StartIteration, DropIteration, CloseScenario, Users, answers, releases, takes, arrivals, starts, start_on, drops, closes}
use Rattle.ld_machine.specs.Order.{is_before, place_of}
use Rattle.ld_machine.specs.Wishes.{has_arrivals, later_moves, named_user, start_wished, drop_wished, IsFirstOf, StandsForFirst, TellsFirst}
use Rattle.ld_machine.proofs.ListLemmas.{In, here, there, In-map, map-In, filter-In, In-from_Contains, Contains-from_In, In-filter_map, In-one, nothing_in, some_not_none}
use Rattle.ld_machine.proofs.OrderLemmas.{before_itself}
use Rattle.ld_machine.proofs.WaitLemmas.{In-left, In-right, flat_map-In}
use Rattle.ld_machine.proofs.SourceLemmas.{Source, by_stop, by_release, by_take, by_arrival, by_start, by_drop, by_close}
use Rattle.ld_machine.proofs.LaterLemmas.{is_stop, later_source}
use Rattle.ld_course.specs.Chosen.{chosen_of}
use Rattle.ld_course.proofs.ChosenLemmas.{chosen_in, chosen_none, chosen_preferred}
use Rattle.ld_course.proofs.IdleLemmas.{idle_of}

-- ---- lists

nothing_left : {A : Type 0} (xs : List A) → ((x : A) → In x xs → ⊥) → xs ≡ []
nothing_left [] none = refl
nothing_left (x ∷ xs) none = absurd (none x here)

-- the first of a list stands at place 0
pub first_here : {A : Type 0} (xs : List A) → first_of xs ≡ slice_get xs 0
first_here [] = refl
first_here (x ∷ xs) = refl

pub some_first : {A : Type 0} (x : A) {xs : List A} → In x xs → is_some (first_of xs) ≡ true
some_first x here = refl
some_first x (there more) = refl

a_first : {A B : Type 0} (f : A → B) (xs : List A) → is_some (first_of xs) ≡ true → map f xs ≡ [] → ⊥
a_first f [] h e = cc
a_first f (x ∷ xs) h e = cc

filter_map-In : {A B : Type 0} (f : A → Option B) (x : A) (y : B) {xs : List A} → In x xs → f x ≡ Some y → In y (filter_map f xs)
filter_map-In {A} {B} f x y here e = rw e here
filter_map-In {A} {B} f x y (there {y = z} {xs = xs} more) e =
    let P : Option B → Type 0 = λ o. In y (cons_option o (filter_map f xs)) in
    let later = filter_map-In f x y more e in
    elim (f z) as P [ None ↦ later | Some first ↦ there later ]

free_one : (numbers : List ℕ) → is_some (first_of numbers) ≡ true → (user : ℕ) × In user numbers
free_one [] h = absurd (cc)
free_one (x ∷ xs) h = (x, here)

none_kept : {A : Type 0} (p : A → Bool) (xs : List A) → ((x : A) → In x xs → p x ≡ false) → filter p xs ≡ []
none_kept p [] none = refl
none_kept p (x ∷ xs) none = rw (none x here) (none_kept p xs (λ y at. none y (there at)))

none_from : {A B : Type 0} (xs : List A) → flat_map {X = A} {A = B} (λ x. []) xs ≡ []
none_from [] = refl
none_from (x ∷ xs) = none_from xs

no_free : (free : List ℕ) → is_some (first_of free) ≡ false → free ≡ []
no_free [] h = refl
no_free (x ∷ xs) h = absurd (cc)

-- ---- executors without arrivals

no_arrivals : (e : Executor) → has_arrivals e ≡ false → executor_arrivals e ≡ []
no_arrivals (SharedIterations _ _) h = refl
no_arrivals (PerVuIterations _ _) h = refl
no_arrivals (ConstantVus _) h = refl
no_arrivals (RampingVus _ _) h = refl
no_arrivals (ArrivalRate _ _ _) h = absurd (cc)
no_arrivals (ExternallyControlled _ _ _) h = refl

-- without arrivals none is due
pub none_due : (s : Scenario) (t : ℕ) → has_arrivals s.part.executor ≡ false → due_arrival s t ≡ None
none_due s t h =
    rw (no_arrivals s.part.executor h) (nothing (runs s))
  where
    nothing : (b : Bool) → find (is_due s t) (option_map_or (λ a. a ∷ []) (where_holds b None) []) ≡ None
    nothing true = refl
    nothing false = refl

-- ---- nobody is released or taken

-- where no idle user may be released nobody is
pub nobody_goes : (n : ℕ) (s : Scenario) (t : ℕ) → ((h : HeldUser) → In h (idle_users s.share) → may_release s h.slot t ≡ false) → releases n s t ≡ []
nobody_goes n s t none =
    ap (map (λ (h : HeldUser). ReleaseUser n h.user))
    (none_kept (λ (h : HeldUser). may_release s h.slot t) (idle_users s.share) none)

-- nor where no user is idle
pub nobody_idle : (n : ℕ) (s : Scenario) (t : ℕ) → idle_of s.share ≡ [] → releases n s t ≡ []
nobody_idle n s t none =
    nobody_goes n s t (λ h at. absurd (nothing_in (subst (λ (users : List ℕ). In h.user users) none (map-In (λ (g : HeldUser). g.user) h at))))

-- nor where none is chosen of the idle ones
pub nobody_chosen : (n : ℕ) (s : Scenario) (t prefer : ℕ) → chosen_of prefer (idle_of s.share) ≡ None → releases n s t ≡ []
nobody_chosen n s t prefer none = nobody_idle n s t (chosen_none prefer (idle_of s.share) none)

-- where no slot may be taken nobody is
pub nobody_taken : (n : ℕ) (s : Scenario) (users : Users) (t : ℕ) →
    ((slot : ℕ) → In slot (slots_to_take s.part.executor s) → may_take s slot t ≡ false) → takes n s users t ≡ []
nobody_taken n s users t none =
    ap (flat_map (λ slot. map (λ user. TakeUser n user slot) users.free)) (none_kept (λ slot. may_take s slot t) (slots_to_take s.part.executor s) none)

-- nor where no user is free
pub nobody_free : (n : ℕ) (s : Scenario) (users : Users) (t : ℕ) → is_some (first_of users.free) ≡ false → takes n s users t ≡ []
nobody_free n s users t none =
    rw (no_free users.free none) (none_from (filter (λ slot. may_take s slot t) (slots_to_take s.part.executor s)))

-- where no idle user has an item to start nothing starts
pub nobody_starts : (n : ℕ) (s : Scenario) (t : ℕ) → ((h : HeldUser) → In h (idle_users s.share) → item_to_start s h.slot t ≡ None) → starts n s t ≡ []
nobody_starts n s t none =
    nothing_left (starts n s t) (λ move at.
    let found = In-filter_map (start_on n s t) move (idle_users s.share) at in
    let no_item = ap (option_map (λ item. StartIteration n found.0.user item (until_of s found.0.slot t))) (none found.0 found.1) in
    some_not_none (sym found.2 ∙ no_item))

-- nor where none is chosen of the idle ones
pub none_chosen_starts : (n : ℕ) (s : Scenario) (t prefer : ℕ) → chosen_of prefer (idle_of s.share) ≡ None → starts n s t ≡ []
none_chosen_starts n s t prefer none =
    nobody_starts n s t (λ h at. absurd (nothing_in
    (subst (λ (users : List ℕ). In h.user users) (chosen_none prefer (idle_of s.share) none) (map-In (λ (g : HeldUser). g.user) h at))))

module _ (n : ℕ) (users : Users) (s : Scenario) (t prefer : ℕ) where
  abbrev later : List Move
  later = later_moves n users s t

  -- ---- where an act stands among them

  in_releases : (move : Move) → In move (releases n s t) → In move later
  in_releases move h =
      In-left move (closes n s t) (In-left move (drops n s t) (In-left move (starts n s t) (In-left move (arrivals n s users t) (In-left move (takes n s users t) h))))

  in_takes : (move : Move) → In move (takes n s users t) → In move later
  in_takes move h =
      In-left move (closes n s t) (In-left move (drops n s t) (In-left move (starts n s t) (In-left move (arrivals n s users t) (In-right move (releases n s t) h))))

  pub in_arrivals : (move : Move) → In move (arrivals n s users t) → In move later
  in_arrivals move h =
      In-left move (closes n s t) (In-left move (drops n s t) (In-left move (starts n s t) (In-right move (releases n s t ++ takes n s users t) h)))

  in_starts : (move : Move) → In move (starts n s t) → In move later
  in_starts move h =
      In-left move (closes n s t) (In-left move (drops n s t) (In-right move (releases n s t ++ takes n s users t ++ arrivals n s users t) h))

  in_drops : (move : Move) → In move (drops n s t) → In move later
  in_drops move h =
      In-left move (closes n s t) (In-right move (releases n s t ++ takes n s users t ++ arrivals n s users t ++ starts n s t) h)

  in_closes : (move : Move) → In move (closes n s t) → In move later
  in_closes move h = In-right move (releases n s t ++ takes n s users t ++ arrivals n s users t ++ starts n s t ++ drops n s t) h

  pub source_in : (move : Move) → Contains later move → Source users n s t move
  source_in move at = (later_source users n s t move (In-from_Contains move later at.0 at.1 at.2)).0

  -- ---- what isn't among them

  -- nobody is released, nobody is taken, no arrival is due, nothing starts, and nothing is dropped
  abbrev pub NoRelease : Type 0
  NoRelease = releases n s t ≡ []

  abbrev pub NoTake : Type 0
  NoTake = takes n s users t ≡ []

  abbrev pub NoArrival : Type 0
  NoArrival = due_arrival s t ≡ None

  abbrev pub NoStart : Type 0
  NoStart = (h : HeldUser) → In h (idle_users s.share) → item_to_start s h.slot t ≡ None

  abbrev pub NoDrop : Type 0
  NoDrop = item_to_drop s t ≡ None

  release_in : (h : HeldUser) → In h (idle_users s.share) → may_release s h.slot t ≡ true → In (ReleaseUser n h.user) (releases n s t)
  release_in h at may = map-In (λ (x : HeldUser). ReleaseUser n x.user) h (filter-In (λ (x : HeldUser). may_release s x.slot t) h at may)

  take_in : (user slot : ℕ) → In user users.free → In slot (slots_to_take s.part.executor s) → may_take s slot t ≡ true → In (TakeUser n user slot) (takes n s users t)
  take_in user slot at of may =
      flat_map-In (λ k. map (λ x. TakeUser n x k) users.free) slot (TakeUser n user slot) (filter-In (λ k. may_take s k t) slot of may)
      (map-In (λ x. TakeUser n x slot) user at)

  pub goes : NoRelease → (h : HeldUser) → In h (idle_users s.share) → may_release s h.slot t ≡ true → ⊥
  goes none h at may = nothing_in (subst (λ (moves : List Move). In (ReleaseUser n h.user) moves) none (release_in h at may))

  pub taken_none : NoTake → (user slot : ℕ) → In user users.free → In slot (slots_to_take s.part.executor s) → may_take s slot t ≡ true → ⊥
  taken_none none user slot at of may = nothing_in (subst (λ (moves : List Move). In (TakeUser n user slot) moves) none (take_in user slot at of may))

  -- where no start stands among the acts nothing starts
  pub none_starts : starts n s t ≡ [] → NoStart
  none_starts none h at = by_item (item_to_start s h.slot t) refl
    where
      by_item : (o : Option ℕ) → item_to_start s h.slot t ≡ o → o ≡ None
      by_item None is = refl
      by_item (Some item) is =
          let act : Move = StartIteration n h.user item (until_of s h.slot t) in
          let among : In act (starts n s t) = filter_map-In (start_on n s t) h act at (ap (option_map (λ k. StartIteration n h.user k (until_of s h.slot t))) is) in
          absurd (nothing_in (subst (λ (moves : List Move). In act moves) none among))

  -- ---- what is before what

  pub first_by : (move : Move) → In move later → ((other : Move) → Source users n s t other → is_stop other ≡ false → is_before (place_of other) (place_of move) ≡ false) →
      IsFirstOf later move
  first_by move at before =
      record {
        among = Contains-from_In move at;
        none_before = λ other there_is.
            let source = later_source users n s t other (In-from_Contains other later there_is.0 there_is.1 there_is.2) in
            before other source.0 source.1;
      }

  before_release : (other : Move) → Source users n s t other → is_stop other ≡ false → is_before (place_of other) (2 ∷ n ∷ []) ≡ false
  before_release other (by_stop may) no_stop = absurd (cc)
  before_release other (by_release h at may) no_stop = before_itself (2 ∷ n ∷ [])
  before_release other (by_take user slot at of may) no_stop = refl
  before_release other (by_arrival a answer due at) no_stop = refl
  before_release other (by_start h item at may) no_stop = refl
  before_release other (by_drop item may) no_stop = refl
  before_release other (by_close may) no_stop = refl

  -- no other slot below this one may be taken
  abbrev pub IsLeastSlot : ℕ → Type 0
  IsLeastSlot slot = (other : ℕ) → In other (slots_to_take s.part.executor s) → may_take s other t ≡ true → slot ≤ other

  before_take : NoRelease → (slot : ℕ) → IsLeastSlot slot → (other : Move) → Source users n s t other → is_stop other ≡ false →
      is_before (place_of other) (3 ∷ n ∷ slot ∷ []) ≡ false
  before_take none slot least other (by_stop may) no_stop = absurd (cc)
  before_take none slot least other (by_release h at may) no_stop = absurd (goes none h at may)
  before_take none slot least other (by_take user' slot' at of may) no_stop = behind n slot slot' (least slot' of may)
    where
      behind : (n a b : ℕ) → a ≤ b → is_before (3 ∷ n ∷ b ∷ []) (3 ∷ n ∷ a ∷ []) ≡ false
      behind n a b most = grind (arith, common_steps)
  before_take none slot least other (by_arrival a answer due at) no_stop = refl
  before_take none slot least other (by_start h item at may) no_stop = refl
  before_take none slot least other (by_drop item may) no_stop = refl
  before_take none slot least other (by_close may) no_stop = refl

  before_start : NoRelease → NoTake → NoArrival → (other : Move) → Source users n s t other → is_stop other ≡ false → is_before (place_of other) (5 ∷ n ∷ []) ≡ false
  before_start none no_take no_due other (by_stop may) no_stop = absurd (cc)
  before_start none no_take no_due other (by_release h at may) no_stop = absurd (goes none h at may)
  before_start none no_take no_due other (by_take user slot at of may) no_stop = absurd (taken_none no_take user slot at of may)
  before_start none no_take no_due other (by_arrival a answer due at) no_stop = absurd (cc)
  before_start none no_take no_due other (by_start h item at may) no_stop = before_itself (5 ∷ n ∷ [])
  before_start none no_take no_due other (by_drop item may) no_stop = refl
  before_start none no_take no_due other (by_close may) no_stop = refl

  before_drop : NoRelease → NoTake → NoArrival → NoStart → (other : Move) → Source users n s t other → is_stop other ≡ false →
      is_before (place_of other) (6 ∷ n ∷ []) ≡ false
  before_drop none no_take no_due no_start other (by_stop may) no_stop = absurd (cc)
  before_drop none no_take no_due no_start other (by_release h at may) no_stop = absurd (goes none h at may)
  before_drop none no_take no_due no_start other (by_take user slot at of may) no_stop = absurd (taken_none no_take user slot at of may)
  before_drop none no_take no_due no_start other (by_arrival a answer due at) no_stop = absurd (cc)
  before_drop none no_take no_due no_start other (by_start h item at may) no_stop = absurd (let not_any = no_start h at in cc)
  before_drop none no_take no_due no_start other (by_drop item may) no_stop = before_itself (6 ∷ n ∷ [])
  before_drop none no_take no_due no_start other (by_close may) no_stop = refl

  before_close : NoRelease → NoTake → NoArrival → NoStart → NoDrop → (other : Move) → Source users n s t other → is_stop other ≡ false →
      is_before (place_of other) (7 ∷ n ∷ []) ≡ false
  before_close none no_take no_due no_start no_drop other (by_stop may) no_stop = absurd (cc)
  before_close none no_take no_due no_start no_drop other (by_release h at may) no_stop = absurd (goes none h at may)
  before_close none no_take no_due no_start no_drop other (by_take user slot at of may) no_stop = absurd (taken_none no_take user slot at of may)
  before_close none no_take no_due no_start no_drop other (by_arrival a answer due at) no_stop = absurd (cc)
  before_close none no_take no_due no_start no_drop other (by_start h item at may) no_stop = absurd (let not_any = no_start h at in cc)
  before_close none no_take no_due no_start no_drop other (by_drop item may) no_stop = absurd (cc)
  before_close none no_take no_due no_start no_drop other (by_close may) no_stop = before_itself (7 ∷ n ∷ [])

  -- ---- what a wish that names the preferred user stands for, where that is a first act

  pub data NamedFirst : Type 0 where
    named_release : IsFirstOf later (ReleaseUser n prefer) → NamedFirst
    named_start : (due item until : ℕ) → IsFirstOf later (start_wished (has_arrivals s.part.executor) n prefer item until due) → NamedFirst

  pub named_first : (other : Wish) → named_user other ≡ Some prefer → StandsForFirst n users s t other → NamedFirst
  named_first (Release user) names stands =
      let is : user ≡ prefer = cc in
      named_release (subst (λ (k : ℕ). IsFirstOf later (ReleaseUser n k)) is (stands (ReleaseUser n user) (Contains-from_In (ReleaseUser n user) (here {xs = []}))))
  named_first (Start user item until due) names stands =
      let is : user ≡ prefer = cc in
      let act : ℕ → Move = λ k. start_wished (has_arrivals s.part.executor) n k item until due in
      named_start due item until (subst (λ (k : ℕ). IsFirstOf later (act k)) is (stands (act user) (Contains-from_In (act user) (here {xs = []}))))
  named_first Nothing names stands = absurd (cc)
  named_first (Take slot) names stands = absurd (cc)
  named_first (More item until due slot) names stands = absurd (cc)
  named_first (Drop item due) names stands = absurd (cc)
  named_first (Late item due) names stands = absurd (cc)
  named_first Close names stands = absurd (cc)

  released_user : (user : ℕ) (move : Move) → move ≡ ReleaseUser n user → Source users n s t move →
      (h : HeldUser) × In h (idle_users s.share) × (h.user ≡ user) × (may_release s h.slot t ≡ true)
  released_user user move is (by_stop may) = absurd (cc)
  released_user user move is (by_release h at may) = let same : h.user ≡ user = cc in (h, at, same, may)
  released_user user move is (by_take user' slot at of may) = absurd (cc)
  released_user user move is (by_arrival a answer due at) = absurd (cc)
  released_user user move is (by_start h item at may) = absurd (cc)
  released_user user move is (by_drop item may) = absurd (cc)
  released_user user move is (by_close may) = absurd (cc)

  -- a user that is a first one to release is an idle one that may be released
  first_released : (user : ℕ) → IsFirstOf later (ReleaseUser n user) →
      (h : HeldUser) × In h (idle_users s.share) × (h.user ≡ user) × (may_release s h.slot t ≡ true)
  first_released user first = released_user user (ReleaseUser n user) refl (source_in (ReleaseUser n user) first.among)

  pub no_release_first : NoRelease → (user : ℕ) → IsFirstOf later (ReleaseUser n user) → ⊥
  no_release_first none user first = let found = first_released user first in goes none found.0 found.1 found.3

  -- a start of an arrival is an answer to a due one
  pub answered_user : (user : ℕ) (due item until : ℕ) (move : Move) → move ≡ AnswerArrival n due item until (StartOn user) → Source users n s t move →
      ((a : Arrival) × (due_arrival s t ≡ Some a)) × In (StartOn user) (answers s users t)
  answered_user user due item until move is (by_stop may) = absurd (cc)
  answered_user user due item until move is (by_release h at may) = absurd (cc)
  answered_user user due item until move is (by_take user' slot at of may) = absurd (cc)
  answered_user user due item until move is (by_arrival a answer due' at) =
      let same : answer ≡ StartOn user = cc in ((a, due'), subst (λ (x : Answer). In x (answers s users t)) same at)
  answered_user user due item until move is (by_start h item' at may) = absurd (cc)
  answered_user user due item until move is (by_drop item' may) = absurd (cc)
  answered_user user due item until move is (by_close may) = absurd (cc)

  -- another start is one of an item that an idle user may start
  started_user : (user item until : ℕ) (move : Move) → move ≡ StartIteration n user item until → Source users n s t move →
      (h : HeldUser) × In h (idle_users s.share) × (h.user ≡ user) × ((other : ℕ) × (item_to_start s h.slot t ≡ Some other))
  started_user user item until move is (by_stop may) = absurd (cc)
  started_user user item until move is (by_release h at may) = absurd (cc)
  started_user user item until move is (by_take user' slot at of may) = absurd (cc)
  started_user user item until move is (by_arrival a answer due' at) = absurd (cc)
  started_user user item until move is (by_start h other at may) = let same : h.user ≡ user = cc in (h, at, same, (other, may))
  started_user user item until move is (by_drop item' may) = absurd (cc)
  started_user user item until move is (by_close may) = absurd (cc)

  -- where nobody is released, no arrival is due and nothing starts, no wish that names a user stands for a first act
  not_named : NoRelease → NoArrival → NoStart → NamedFirst → ⊥
  not_named none no_due no_start (named_release first) = no_release_first none prefer first
  not_named none no_due no_start (named_start due item until first) = by_kind (has_arrivals s.part.executor) first
    where
      by_kind : (b : Bool) → IsFirstOf later (start_wished b n prefer item until due) → ⊥
      by_kind true first =
          let move = AnswerArrival n due item until (StartOn prefer) in
          let found = answered_user prefer due item until move refl (source_in move first.among) in
          let one = found.0.1 in cc
      by_kind false first =
          let move = StartIteration n prefer item until in
          let found = started_user prefer item until move refl (source_in move first.among) in
          let one = found.3.1 in
          let not_any = no_start found.0 found.1 in cc

  -- the act is before each start
  abbrev IsBeforeStarts : Move → Type 0
  IsBeforeStarts move = (b : Bool) (item until due : ℕ) → is_before (place_of move) (place_of (start_wished b n prefer item until due)) ≡ true

  -- beside an act that is before each start, the only first act that names the preferred user is its release
  named_behind : (move : Move) → In move later → IsBeforeStarts move → NamedFirst → IsFirstOf later (ReleaseUser n prefer)
  named_behind move at before (named_release first) = first
  named_behind move at before (named_start due item until first) =
      let is = before (has_arrivals s.part.executor) item until due in
      let not_so = first.none_before move (Contains-from_In move at) in
      absurd (true≢false (sym is ∙ not_so))

  release_before : (user : ℕ) → IsBeforeStarts (ReleaseUser n user)
  release_before user true item until due = refl
  release_before user false item until due = refl

  take_before : (user slot : ℕ) → IsBeforeStarts (TakeUser n user slot)
  take_before user slot true item until due = refl
  take_before user slot false item until due = refl

  -- what stands for one act alone
  stands_alone : (act : Move) → IsFirstOf later act → (move : Move) → Contains (act ∷ []) move → IsFirstOf later move
  stands_alone act first move at =
      subst (λ (m : Move). IsFirstOf later m) (In-one move act (In-from_Contains move (act ∷ []) at.0 at.1 at.2)) first

  -- ---- rank by rank

  release_first : (h : HeldUser) → In h (idle_users s.share) → may_release s h.slot t ≡ true → IsFirstOf later (ReleaseUser n h.user)
  release_first h at may = first_by (ReleaseUser n h.user) (in_releases (ReleaseUser n h.user) (release_in h at may)) before_release

  -- a user that may be released, and that is the preferred one where this may be
  pub release_tells : (h : HeldUser) → In h (idle_users s.share) → may_release s h.slot t ≡ true →
      ((g : HeldUser) → In g (idle_users s.share) → may_release s g.slot t ≡ true → g.user ≡ prefer → h.user ≡ prefer) →
      TellsFirst n users s t prefer (Release h.user)
  release_tells h at may preferred =
      record {
        first = stands_alone (ReleaseUser n h.user) (release_first h at may);
        something = λ e. absurd (cc);
        nothing = λ e. absurd (cc);
        preferred = λ other names stands.
            let among = in_releases (ReleaseUser n h.user) (release_in h at may) in
            let first = named_behind (ReleaseUser n h.user) among (release_before h.user) (named_first other names stands) in
            let found = first_released prefer first in
            ap Some (preferred found.0 found.1 found.3 found.2);
      }

  -- a chosen one of the idle users, where each of them may be released
  pub any_release_tells : (user : ℕ) → chosen_of prefer (idle_of s.share) ≡ Some user → ((slot : ℕ) → may_release s slot t ≡ true) →
      TellsFirst n users s t prefer (Release user)
  any_release_tells user chosen may =
      let found = In-map (λ (h : HeldUser). h.user) user (idle_users s.share) (chosen_in prefer (idle_of s.share) user chosen) in
      let is_chosen : chosen_of prefer (idle_of s.share) ≡ Some found.0.user = chosen ∙ ap Some (sym found.2) in
      subst (λ (k : ℕ). TellsFirst n users s t prefer (Release k)) found.2
      (release_tells found.0 found.1 (may found.0.slot)
      (λ g at may' same. chosen_preferred prefer (idle_of s.share) found.0.user is_chosen
      (subst (λ (k : ℕ). In k (idle_of s.share)) same (map-In (λ (h : HeldUser). h.user) g at))))

  -- the least slot that may be taken
  pub take_tells : NoRelease → (slot : ℕ) → In slot (slots_to_take s.part.executor s) → may_take s slot t ≡ true → IsLeastSlot slot →
      is_some (first_of users.free) ≡ true → TellsFirst n users s t prefer (Take slot)
  take_tells none slot of may least free =
      record {
        first = λ move at.
            let found = In-map (λ user. TakeUser n user slot) move users.free (In-from_Contains move (map (λ user. TakeUser n user slot) users.free) at.0 at.1 at.2) in
            subst (λ (m : Move). IsFirstOf later m) found.2
            (first_by (TakeUser n found.0 slot) (in_takes (TakeUser n found.0 slot) (take_in found.0 slot found.1 of may)) (before_take none slot least));
        something = λ e. absurd (a_first (λ user. TakeUser n user slot) users.free free e);
        nothing = λ e. absurd (cc);
        preferred = λ other names stands.
            let one = free_one users.free free in
            let move = TakeUser n one.0 slot in
            let first = named_behind move (in_takes move (take_in one.0 slot one.1 of may)) (take_before one.0 slot) (named_first other names stands) in
            absurd (no_release_first none prefer first);
      }

  -- an iteration starts on an idle user that may start it, which is the preferred one where that may start one
  pub start_tells : has_arrivals s.part.executor ≡ false → NoRelease → NoTake → (h : HeldUser) (item due : ℕ) → In h (idle_users s.share) →
      item_to_start s h.slot t ≡ Some item →
      ((g : HeldUser) (other : ℕ) → In g (idle_users s.share) → item_to_start s g.slot t ≡ Some other → g.user ≡ prefer → h.user ≡ prefer) →
      TellsFirst n users s t prefer (Start h.user item (until_of s h.slot t) due)
  start_tells iterates none no_take h item due at may preferred =
      let act : Move = StartIteration n h.user item (until_of s h.slot t) in
      let no_due = none_due s t iterates in
      let among : In act (starts n s t) = filter_map-In (start_on n s t) h act at (ap (option_map (λ k. StartIteration n h.user k (until_of s h.slot t))) may) in
      record {
        first = subst (λ (b : Bool). (move : Move) → Contains (start_wished b n h.user item (until_of s h.slot t) due ∷ []) move → IsFirstOf later move) (sym iterates)
            (stands_alone act (first_by act (in_starts act among) (before_start none no_take no_due)));
        something = λ e. absurd (cc);
        nothing = λ e. absurd (cc);
        preferred = λ other names stands. ap Some (names_it (named_first other names stands));
      }
    where
      names_it : NamedFirst → h.user ≡ prefer
      names_it (named_release first) = absurd (no_release_first none prefer first)
      names_it (named_start due' item' until' first) =
          let move = StartIteration n prefer item' until' in
          let is : IsFirstOf later move = subst (λ (b : Bool). IsFirstOf later (start_wished b n prefer item' until' due')) iterates first in
          let found = started_user prefer item' until' move refl (source_in move is.among) in
          preferred found.0 found.3.0 found.1 found.3.1 found.2

  -- one slot, which may be taken
  pub take_one_tells : NoRelease → (slot : ℕ) → slots_to_take s.part.executor s ≡ slot ∷ [] → may_take s slot t ≡ true →
      is_some (first_of users.free) ≡ true → TellsFirst n users s t prefer (Take slot)
  take_one_tells none slot slots may free =
      take_tells none slot (subst (λ (xs : List ℕ). In slot xs) (sym slots) here) may
      (λ other at may'. let same = In-one other slot (subst (λ (xs : List ℕ). In other xs) slots at) in omega arith) free

  -- a chosen one of the idle users, where each of them may start this item
  pub any_start_tells : has_arrivals s.part.executor ≡ false → NoRelease → NoTake → (user item until due : ℕ) → chosen_of prefer (idle_of s.share) ≡ Some user →
      ((slot : ℕ) → item_to_start s slot t ≡ Some item) → ((slot : ℕ) → until_of s slot t ≡ until) → TellsFirst n users s t prefer (Start user item until due)
  any_start_tells iterates none no_take user item until due chosen may lasts =
      let found = In-map (λ (h : HeldUser). h.user) user (idle_users s.share) (chosen_in prefer (idle_of s.share) user chosen) in
      let is_chosen : chosen_of prefer (idle_of s.share) ≡ Some found.0.user = chosen ∙ ap Some (sym found.2) in
      let told = start_tells iterates none no_take found.0 item due found.1 (may found.0.slot)
      (λ g other at may' same. chosen_preferred prefer (idle_of s.share) found.0.user is_chosen
      (subst (λ (k : ℕ). In k (idle_of s.share)) same (map-In (λ (h : HeldUser). h.user) g at))) in
      subst (λ (k : ℕ). TellsFirst n users s t prefer (Start user item k due)) (lasts found.0.slot)
      (subst (λ (k : ℕ). TellsFirst n users s t prefer (Start k item (until_of s found.0.slot t) due)) found.2 told)

  -- the iteration that may be dropped
  pub drop_tells : has_arrivals s.part.executor ≡ false → NoRelease → NoTake → NoStart → (item due : ℕ) → item_to_drop s t ≡ Some item →
      TellsFirst n users s t prefer (Drop item due)
  drop_tells iterates none no_take no_start item due may =
      let no_due = none_due s t iterates in
      let among : In (DropIteration n item) (drops n s t) = rw may here in
      record {
        first = subst (λ (b : Bool). (move : Move) → Contains (drop_wished b n item (hard_moment s.part) due ∷ []) move → IsFirstOf later move) (sym iterates)
            (stands_alone (DropIteration n item) (first_by (DropIteration n item) (in_drops (DropIteration n item) among) (before_drop none no_take no_due no_start)));
        something = λ e. absurd (dropped (has_arrivals s.part.executor) e);
        nothing = λ e. absurd (cc);
        preferred = λ other names stands. absurd (not_named none no_due no_start (named_first other names stands));
      }
    where
      dropped : (b : Bool) → drop_wished b n item (hard_moment s.part) due ∷ [] ≡ [] → ⊥
      dropped b e = cc

  pub close_tells : NoRelease → NoTake → NoArrival → NoStart → NoDrop → may_close s t ≡ true → TellsFirst n users s t prefer Close
  close_tells none no_take no_due no_start no_drop may =
      record {
        first =
            let closing : In (CloseScenario n) (closes n s t) = rw may here in
            stands_alone (CloseScenario n)
            (first_by (CloseScenario n) (in_closes (CloseScenario n) closing) (before_close none no_take no_due no_start no_drop));
        something = λ e. absurd (cc);
        nothing = λ e. absurd (cc);
        preferred = λ other names stands. absurd (not_named none no_due no_start (named_first other names stands));
      }

  no_source : NoRelease → NoTake → NoArrival → NoStart → NoDrop → may_close s t ≡ false → (move : Move) → Source users n s t move → is_stop move ≡ false → ⊥
  no_source none no_take no_due no_start no_drop no_close move (by_stop may) no_stop = cc
  no_source none no_take no_due no_start no_drop no_close move (by_release h at may) no_stop = goes none h at may
  no_source none no_take no_due no_start no_drop no_close move (by_take user slot at of may) no_stop = taken_none no_take user slot at of may
  no_source none no_take no_due no_start no_drop no_close move (by_arrival a answer due at) no_stop = cc
  no_source none no_take no_due no_start no_drop no_close move (by_start h item at may) no_stop = let not_any = no_start h at in cc
  no_source none no_take no_due no_start no_drop no_close move (by_drop item may) no_stop = cc
  no_source none no_take no_due no_start no_drop no_close move (by_close may) no_stop = cc

  pub nothing_tells : NoRelease → NoTake → NoArrival → NoStart → NoDrop → may_close s t ≡ false → TellsFirst n users s t prefer Nothing
  nothing_tells none no_take no_due no_start no_drop no_close =
      record {
        first = λ move at. absurd (nothing_in (In-from_Contains move [] at.0 at.1 at.2));
        something = λ e. refl;
        nothing = λ e. nothing_left later (λ move at.
            let source = later_source users n s t move at in no_source none no_take no_due no_start no_drop no_close move source.0 source.1);
        preferred = λ other names stands. absurd (not_named none no_due no_start (named_first other names stands));
      }
