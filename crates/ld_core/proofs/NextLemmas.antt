-- Which of the scenarios' next acts comes first.
use Rattle.std.proofs.Common.{◌≡◌, ◌≢◌, ◌<◌, ◌≤◌, ◌+◌, ◌==◌, ◌&&◌, ◌||◌, ◌⊎◌, nat_lt, ℕ, Bool, true, false, cond, List, [], ◌∷◌, Option, None, Some, Contains, length, slice_get, arith, refl, sym, ap, subst, inl, inr, ◌∙◌}
use Rattle.std.specs.Prelude.{is_some, if◌then◌else◌}
use Rattle.std.proofs.lemmas.Grind.{common_steps}
use Rattle.ld_base.specs.declared.wish.Wish.{Wish}
use Rattle.ld_base.specs.declared.wish.Wish.TheVariants.{Nothing, Release, Take, Start, More, Drop, Late, Close}
use Rattle.ld_machine.specs.Moves.{Answer, CountLate, Move, StopScenario, ReleaseUser, TakeUser, AnswerArrival, CloseScenario, StartOn, DropArrival, Users, moves_of, scenarios, users_of}
use Rattle.ld_machine.specs.Order.{is_before, place_of}
use Rattle.ld_machine.specs.Plan.{Part, Plan, hard_moment}
use Rattle.ld_machine.specs.Scenario.{Scenario, first_of, may_stop}
use Rattle.ld_machine.specs.State.{State, free_users}
use Rattle.ld_machine.specs.Together.{IsFirstActOf, NoneActs, NoneActsBelow}
use Rattle.ld_machine.specs.Told.{executor_has_place}
use Rattle.ld_machine.specs.Wishes.{TellsFirst, WishesFirst, acts_wished, drop_wished, has_arrivals, more_answers, start_wished}
use Rattle.ld_machine.proofs.FirstOfAllLemmas.{In-of, act_open}
use Rattle.ld_machine.proofs.FirstOfEachLemmas.{first_tells, none_below_more, first_found, first_kept_none, first_kept, first_replaced, first_at_end, none_at_end}
use Rattle.ld_machine.proofs.ListLemmas.{here, nothing_in, In-map, In-one, Contains-from_In}
use Rattle.ld_machine.proofs.ToldLemmas.{taken_place}
use Rattle.ld_machine.proofs.WishedFirstLemmas.{halt_first, nothing_wished, wished_first}
use Rattle.ld_executor.specs.declared.executor_state.ExecutorState.{ExecutorState}
use Rattle.ld_executor.specs.Shows as executors
use Rattle.ld_executor.proofs.ShownLemmas.{shown_fits}
use Rattle.ld_core.specs.CoreView.{CoreView, plan_of, state_of}
use Rattle.ld_core.specs.Firsts.{ComesFirst, NoneNext, SaysKind, Tells, TellsBelow, TellsNext, acts_next, comes_before, due_of, earlier, rank_of, rank_wished}
use Rattle.ld_core.specs.declared.first.First.{First}
use Rattle.ld_core.specs.declared.first.Next.{Next}
use Rattle.ld_core.specs.declared.first.Next.TheVariants.{Halt, Wished}

-- ---- places

-- what stands behind the rank in the place of each act that this stands for
abbrev rest_wished : ℕ → Wish → Bool → List ℕ
rest_wished n (Take slot) arrivals = n ∷ slot ∷ []
rest_wished n (Start user item until due) arrivals = if arrivals then due ∷ n ∷ [] else n ∷ []
rest_wished n (More item until due slot) arrivals = due ∷ n ∷ []
rest_wished n (Drop item due) arrivals = if arrivals then due ∷ n ∷ [] else n ∷ []
rest_wished n (Late item due) arrivals = due ∷ n ∷ []
rest_wished n (Release user) arrivals = n ∷ []
rest_wished n Close arrivals = n ∷ []
rest_wished n Nothing arrivals = n ∷ []

abbrev rest_of : ℕ → Next → List ℕ
rest_of n Halt = n ∷ []
rest_of n (Wished wish arrivals) = rest_wished n wish arrivals

place_is : (m other : Move) → Contains (other ∷ []) m → place_of m ≡ place_of other
place_is m other at = ap place_of (sym (In-one m other (In-of at)))

start_place : (arrivals : Bool) (n user item until due : ℕ) →
    place_of (start_wished arrivals n user item until due) ≡ rank_wished (Start user item until due) arrivals ∷ rest_wished n (Start user item until due) arrivals
start_place true n user item until due = refl
start_place false n user item until due = refl

drop_place : (arrivals : Bool) (n item until due : ℕ) →
    place_of (drop_wished arrivals n item until due) ≡ rank_wished (Drop item due) arrivals ∷ rest_wished n (Drop item due) arrivals
drop_place true n item until due = refl
drop_place false n item until due = refl

place_wished : (n : ℕ) (users : Users) (part : Part) (wish : Wish) (m : Move) → Contains (acts_wished n users part wish) m →
    place_of m ≡ rank_wished wish (has_arrivals part.executor) ∷ rest_wished n wish (has_arrivals part.executor)
place_wished n users part Nothing m at = absurd (nothing_in (In-of at))
place_wished n users part (Release user) m at = place_is m (ReleaseUser n user) at
place_wished n users part (Take slot) m at =
    let found = In-map (λ user. TakeUser n user slot) m users.free (In-of at) in ap place_of (sym found.2)
place_wished n users part (Start user item until due) m at =
    place_is m (start_wished (has_arrivals part.executor) n user item until due) at ∙ start_place (has_arrivals part.executor) n user item until due
place_wished n users part (More item until due slot) m at =
    let found = In-map (λ (answer : Answer). AnswerArrival n due item until answer) m (more_answers users slot) (In-of at) in ap place_of (sym found.2)
place_wished n users part (Drop item due) m at =
    place_is m (drop_wished (has_arrivals part.executor) n item (hard_moment part) due) at ∙ drop_place (has_arrivals part.executor) n item (hard_moment part) due
place_wished n users part (Late item due) m at = place_is m (AnswerArrival n due item (hard_moment part) CountLate) at
place_wished n users part Close m at = place_is m (CloseScenario n) at

place_next : (n : ℕ) (users : Users) (part : Part) (next : Next) (m : Move) → SaysKind part.executor next → Contains (acts_next n users part next) m →
    place_of m ≡ rank_of next ∷ rest_of n next
place_next n users part Halt m kind at = place_is m (StopScenario n) at
place_next n users part (Wished wish arrivals) m kind at =
    place_wished n users part wish m at ∙ ap (λ (b : Bool). rank_wished wish b ∷ rest_wished n wish b) (sym kind)

-- an arrival goes by its moment and then its scenario, and all else by its scenario first
record Arrives (n : ℕ) (next : Next) : Type 0 where
  rank : rank_of next ≡ 4
  rest : rest_of n next ≡ due_of next ∷ n ∷ []

record ArrivesNot (n : ℕ) (next : Next) : Type 0 where
  rank : rank_of next ≢ 4
  tail : List ℕ
  rest : rest_of n next ≡ n ∷ tail
  due : due_of next ≡ 0

wished_arrives : (n : ℕ) (wish : Wish) (arrivals : Bool) → Arrives n (Wished wish arrivals) ⊎ ArrivesNot n (Wished wish arrivals)
wished_arrives n Nothing arrivals = inr (record { rank = λ e. absurd (omega arith); tail = []; rest = refl; due = refl })
wished_arrives n (Release user) arrivals = inr (record { rank = λ e. absurd (omega arith); tail = []; rest = refl; due = refl })
wished_arrives n (Take slot) arrivals = inr (record { rank = λ e. absurd (omega arith); tail = slot ∷ []; rest = refl; due = refl })
wished_arrives n (Start user item until due) true = inl (record { rank = refl; rest = refl })
wished_arrives n (Start user item until due) false = inr (record { rank = λ e. absurd (omega arith); tail = []; rest = refl; due = refl })
wished_arrives n (More item until due slot) arrivals = inl (record { rank = refl; rest = refl })
wished_arrives n (Drop item due) true = inl (record { rank = refl; rest = refl })
wished_arrives n (Drop item due) false = inr (record { rank = λ e. absurd (omega arith); tail = []; rest = refl; due = refl })
wished_arrives n (Late item due) arrivals = inl (record { rank = refl; rest = refl })
wished_arrives n Close arrivals = inr (record { rank = λ e. absurd (omega arith); tail = []; rest = refl; due = refl })

arrives_or_not : (n : ℕ) (next : Next) → Arrives n next ⊎ ArrivesNot n next
arrives_or_not n Halt = inr (record { rank = λ e. absurd (omega arith); tail = []; rest = refl; due = refl })
arrives_or_not n (Wished wish arrivals) = wished_arrives n wish arrivals

later_not_before : (k n : ℕ) (more others : List ℕ) → n < k → is_before (k ∷ more) (n ∷ others) ≡ false
later_not_before k n more others below =
    let less : nat_lt k n ≡ false = grind (arith, common_steps) in
    let apart : (k == n) ≡ false = grind (arith, common_steps) in
    rw (less, apart) refl

by_due : (due other k n : ℕ) → n < k → is_before (due ∷ k ∷ []) (other ∷ n ∷ []) ≡ nat_lt due other
by_due due other k n below =
    ap (λ (b : Bool). nat_lt due other || ((due == other) && b)) (later_not_before k n [] [] below) ∙ neither (nat_lt due other) (due == other)
  where
    neither : (a b : Bool) → (a || (b && false)) ≡ a
    neither true b = refl
    neither false true = refl
    neither false false = refl

ranks_apart : (a b c d : ℕ) (x y : Bool) → a ≢ b → ((a == b) && x) ≡ ((a == b) && y)
ranks_apart a b c d x y apart =
    let P : Bool → Type 0 = λ q. (a == b) ≡ q → (q && x) ≡ (q && y) in
    let is : P (a == b) = elim (a == b) as P [ true ↦ λ e. absurd (apart (grind (arith, common_steps))) | false ↦ λ e. refl ] in is refl

-- the order of two that scenarios would do, of which the first is of a higher number
pub compared : (k n : ℕ) → n < k → (next other : Next) → is_before (rank_of next ∷ rest_of k next) (rank_of other ∷ rest_of n other) ≡ comes_before next other
compared k n below next other =
    ap (λ (b : Bool). nat_lt (rank_of next) (rank_of other) || b) (elim (arrives_or_not k next) [
      | inl a ↦ elim (arrives_or_not n other) [
        | inl b ↦ ap (λ (x : Bool). (rank_of next == rank_of other) && x) (rw (a.rest, b.rest) (by_due (due_of next) (due_of other) k n below))
        | inr b ↦ ranks_apart (rank_of next) (rank_of other) 0 0 _ _ (λ e. b.rank (sym e ∙ a.rank))
      ]
      | inr a ↦ elim (arrives_or_not n other) [
        | inl b ↦ ranks_apart (rank_of next) (rank_of other) 0 0 _ _ (λ e. a.rank (e ∙ b.rank))
        | inr b ↦ ap (λ (x : Bool). (rank_of next == rank_of other) && x) (rw (a.rest, b.rest, a.due, b.due) (later_not_before k n a.tail b.tail below))
      ]
    ])

-- ---- one scenario after another

-- what was found among the scenarios of the numbers below k
abbrev pub Looked : CoreView → ℕ → ℕ → Option First → Type 0
Looked core t k None = NoneActsBelow (plan_of core) (state_of core) t k
Looked core t k (Some first) = TellsBelow core t k first

tells_by : {core : CoreView} {n : ℕ} {next : Next} {P Q : Move → Type 0} → Tells core n next P → ((m : Move) → P m → Q m) → Tells core n next Q
tells_by tells along =
    record {
      s = tells.s;
      stands = tells.stands;
      kind = tells.kind;
      says = λ m at. along m (tells.says m at);
      some = tells.some;
      place = tells.place;
    }

module _ (core : CoreView) (t : ℕ) where
  abbrev plan : Plan
  plan = plan_of core

  abbrev state : State
  state = state_of core

  pub looked_past : (k : ℕ) (found : Option First) → Looked core t k found → NoneNext core t k → Looked core t (k + 1) found
  looked_past k None looked none = none_below_more plan state t k looked none
  looked_past k (Some first) looked none =
      (let below : first.scenario < k = looked.0 in omega arith, tells_by looked.1 (λ m is. first_kept_none plan state t k m is none))

  -- the order of the acts that two stand for
  places : (k : ℕ) (first : First) (next : Next) (a : TellsBelow core t k first) (b : TellsNext core t k next) (m other : Move) →
      Contains (acts_next first.scenario (users_of plan state) a.1.s.part first.next) m → Contains (acts_next k (users_of plan state) b.s.part next) other →
      is_before (place_of other) (place_of m) ≡ comes_before next first.next
  places k first next a b m other at other_at =
      rw (place_next first.scenario (users_of plan state) a.1.s.part first.next m a.1.kind at, place_next k (users_of plan state) b.s.part next other b.kind other_at)
      (compared k first.scenario a.0 next first.next)

  both_looked : (k : ℕ) (first : First) (next : Next) (b : Bool) → TellsBelow core t k first → TellsNext core t k next → comes_before next first.next ≡ b →
      TellsBelow core t (k + 1) (cond b (record { scenario = k; next = next }) first)
  both_looked k first next true a b before = (
    omega arith,
    record {
      s = b.s;
      stands = b.stands;
      kind = b.kind;
      says = λ m at. first_replaced plan state t k a.1.some.0 m (a.1.says a.1.some.0 a.1.some.1) (b.says m at) (places k first next a b a.1.some.0 m a.1.some.1 at ∙ before);
      some = b.some;
      place = b.place;
    },
  )
  both_looked k first next false a b before = (
    let below : first.scenario < k = a.0 in omega arith,
    record {
      s = a.1.s;
      stands = a.1.stands;
      kind = a.1.kind;
      says = λ m at. first_kept plan state t k m b.some.0 (a.1.says m at) (b.says b.some.0 b.some.1) (places k first next a b m b.some.0 at b.some.1 ∙ before);
      some = a.1.some;
      place = a.1.place;
    },
  )

  pub looked_on : (k : ℕ) (found : Option First) (next : Next) → Looked core t k found → TellsNext core t k next →
      Looked core t (k + 1) (Some (earlier found (record { scenario = k; next = next })))
  looked_on k None next looked tells =
      (omega arith, tells_by tells (λ m is. first_found plan state t k m looked is))
  looked_on k (Some first) next looked tells = both_looked k first next (comes_before next first.next) looked tells refl

  pub found_first : (k : ℕ) (first : First) → length (scenarios plan state) ≤ k → Looked core t k (Some first) → ComesFirst core t first
  found_first k first all looked =
      tells_by looked.1 (λ m is. record {
        goes_on = act_open plan state t is.0.0 m is.0.2;
        first = first_at_end plan state t k m all is;
      })

  pub found_none : (k : ℕ) → length (scenarios plan state) ≤ k → Looked core t k None → NoneActs plan state t
  found_none k all looked = none_at_end plan state t k all looked

  -- ---- one scenario

  module _ (n : ℕ) (s : Scenario) (k : ExecutorState) (stands : slice_get (scenarios plan state) n ≡ Some s) (shown : executors.Shows k s) where
    pub tells_halt : may_stop s t ≡ true → TellsNext core t n Halt
    tells_halt may =
        record {
          s = s;
          stands = stands;
          kind = tt;
          says = λ m at. subst (λ (x : Move). IsFirstActOf plan state t n x) (In-one m (StopScenario n) (In-of at)) (halt_first plan state t n s stands may);
          some = (StopScenario n, Contains-from_In (StopScenario n) (here {xs = []}));
          place = λ slot arrivals e. absurd (cc);
        }

    some_same : {A : Type 0} {x y : A} → Some x ≡ Some y → x ≡ y
    some_same e = cc

    some_act : (moves : List Move) → moves ≢ [] → (m : Move) × Contains moves m
    some_act [] some = absurd (some refl)
    some_act (m ∷ rest) some = (m, Contains-from_In m (here {xs = rest}))

    -- where a user is to be taken there is a place for it
    take_place : (arrivals : Bool) (wish : Wish) → ((m : Move) → Contains (acts_wished n (users_of plan state) s.part wish) m → IsFirstActOf plan state t n m) →
        ((m : Move) × Contains (acts_wished n (users_of plan state) s.part wish) m) → (slot : ℕ) (kind : Bool) → Wished wish arrivals ≡ Wished (Take slot) kind →
        executor_has_place s.part.executor s slot ≡ true
    take_place arrivals (Take other) says some slot kind e =
        let same : other ≡ slot = cc in
        let found = In-map (λ user. TakeUser n user other) some.0 (users_of plan state).free (In-of some.1) in
        let first : IsFirstActOf plan state t n (TakeUser n found.0 other) = subst (λ (m : Move). IsFirstActOf plan state t n m) (sym found.2) (says some.0 some.1) in
        let here_stands : first.0 ≡ s = some_same (sym first.1 ∙ stands) in
        let among : Contains (moves_of (users_of plan state) n s t) (TakeUser n found.0 other) =
        subst (λ (x : Scenario). Contains (moves_of (users_of plan state) n x t) (TakeUser n found.0 other)) here_stands (first_tells _ (TakeUser n found.0 other) first.2).0 in
        subst (λ (j : ℕ). executor_has_place s.part.executor s j ≡ true) same (taken_place n t found.0 other (users_of plan state) s (shown_fits k s shown) among)
    take_place arrivals Nothing says some slot kind e = absurd (cc)
    take_place arrivals (Release user) says some slot kind e = absurd (cc)
    take_place arrivals (Start user item until due) says some slot kind e = absurd (cc)
    take_place arrivals (More item until due other) says some slot kind e = absurd (cc)
    take_place arrivals (Drop item due) says some slot kind e = absurd (cc)
    take_place arrivals (Late item due) says some slot kind e = absurd (cc)
    take_place arrivals Close says some slot kind e = absurd (cc)

    pub tells_wished : (free arrivals : Bool) (wish : Wish) → may_stop s t ≡ false → is_some (first_of (free_users state)) ≡ free → WishesFirst s t free 0 wish →
        arrivals ≡ has_arrivals s.part.executor → wish ≢ Nothing → TellsNext core t n (Wished wish arrivals)
    tells_wished free arrivals wish no_stop some wishes kind acts =
        let tells : TellsFirst n (users_of plan state) s t 0 wish = wishes n (users_of plan state) some in
        let says : (m : Move) → Contains (acts_wished n (users_of plan state) s.part wish) m → IsFirstActOf plan state t n m =
        λ m at. wished_first plan state t n 0 s wish m stands no_stop tells at in
        let one = some_act (acts_wished n (users_of plan state) s.part wish) (λ e. acts (tells.something e)) in
        record {
          s = s;
          stands = stands;
          kind = kind;
          says = says;
          some = one;
          place = take_place arrivals wish says one;
        }

    pub tells_none : (free : Bool) → may_stop s t ≡ false → is_some (first_of (free_users state)) ≡ free → WishesFirst s t free 0 Nothing → NoneNext core t n
    tells_none free no_stop some wishes other other_stands =
        let same : s ≡ other = let both : Some s ≡ Some other = sym stands ∙ other_stands in cc in
        subst (λ (x : Scenario). moves_of (users_of plan state) n x t ≡ []) same
        (nothing_wished plan state t n 0 s no_stop (wishes n (users_of plan state) some))
