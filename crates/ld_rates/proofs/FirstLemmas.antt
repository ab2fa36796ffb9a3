-- How a due arrival of a scenario at an arrival rate is answered: the first acts, and the wishes that tell them.
use Rattle.std.proofs.Common.{Contains, ◌≡◌, ℕ, ◌+◌, Bool, true, false, cond, if◌then◌else◌, nat_lt, List, [], ◌∷◌, Some, map, refl, ap, subst}
use Rattle.std.specs.Prelude.{is_some}
use Rattle.ld_base.specs.declared.wish.Wish.TheVariants.{Start, More, Drop, Late}
use Rattle.ld_machine.specs.Plan.{Arrival, ArrivalRate, Part, due_moment, hard_moment}
use Rattle.ld_machine.specs.State.{Share, Controls, HeldUser, idle_users, held_count}
use Rattle.ld_machine.specs.Scenario.{Scenario, first_of, has_ended, may_hold_more, due_arrival}
use Rattle.ld_machine.specs.Moves.{Answer, CountLate, StartOn, GrowAndStart, TakeAndStart, DropArrival, Move, AnswerArrival, Users, answers, releases, takes, arrivals}
use Rattle.ld_machine.specs.Order.{is_before, place_of}
use Rattle.ld_machine.specs.Wishes.{later_moves, more_answers, IsFirstOf, TellsFirst}
use Rattle.ld_machine.proofs.ListLemmas.{In, In-map, map-In, In-from_Contains, In-one}
use Rattle.ld_machine.proofs.OrderLemmas.{before_itself}
use Rattle.ld_machine.proofs.SourceLemmas.{Source, by_stop, by_release, by_take, by_arrival, by_start, by_drop, by_close}
use Rattle.ld_machine.proofs.LaterLemmas.{is_stop}
use Rattle.ld_course.specs.Chosen.{chosen_of}
use Rattle.ld_course.proofs.ChosenLemmas.{chosen_in, chosen_preferred}
use Rattle.ld_course.proofs.FirstLemmas.{some_first, in_arrivals, source_in, first_by, goes, taken_none, no_release_first, answered_user, NamedFirst, named_release, named_start, named_first}
use Rattle.ld_course.proofs.IdleLemmas.{idle_of}

-- ---- a scenario at an arrival rate

abbrev pub at_rate : Part → ℕ → ℕ → List Arrival → Share → Controls → Scenario
at_rate part pre most planned share controls =
    record { part = record part { executor = ArrivalRate pre most planned }; share = share; controls = controls }

module _ (part : Part) (pre most : ℕ) (planned : List Arrival) (share : Share) (controls : Controls) (n : ℕ) (users : Users) (t prefer : ℕ) where
  abbrev s : Scenario
  s = at_rate part pre most planned share controls

  abbrev later : List Move
  later = later_moves n users s t

  -- nobody is released
  abbrev NoRelease : Type 0
  NoRelease = releases n s t ≡ []

  -- nobody is taken
  abbrev NoTake : Type 0
  NoTake = takes n s users t ≡ []

  -- a wish that names the preferred user stands for a first act
  abbrev Named : Type 0
  Named = NamedFirst n users s t prefer

  before_arrival : NoRelease → NoTake → (due : Arrival) → due_arrival s t ≡ Some due → (other : Move) → Source users n s t other → is_stop other ≡ false →
      is_before (place_of other) (4 ∷ due_moment s.part due ∷ n ∷ []) ≡ false
  before_arrival none no_take due is other (by_stop may) no_stop = absurd (cc)
  before_arrival none no_take due is other (by_release h at may) no_stop = absurd (goes n users s t prefer none h at may)
  before_arrival none no_take due is other (by_take user slot at of may) no_stop = absurd (taken_none n users s t prefer no_take user slot at of may)
  before_arrival none no_take due is other (by_arrival a answer due' at) no_stop =
      let same : due ≡ a = cc in
      subst (λ (k : Arrival). is_before (4 ∷ due_moment s.part k ∷ n ∷ []) (4 ∷ due_moment s.part due ∷ n ∷ []) ≡ false) same
      (before_itself (4 ∷ due_moment s.part due ∷ n ∷ []))
  before_arrival none no_take due is other (by_start h item at may) no_stop = refl
  before_arrival none no_take due is other (by_drop item may) no_stop = refl
  before_arrival none no_take due is other (by_close may) no_stop = refl

  -- an arrival starts on the preferred user, where that is a first act
  starts_preferred : (due item until : ℕ) → IsFirstOf later (AnswerArrival n due item until (StartOn prefer)) → In (StartOn prefer) (answers s users t)
  starts_preferred due item until first =
      let move = AnswerArrival n due item until (StartOn prefer) in
      (answered_user n users s t prefer prefer due item until move refl (source_in n users s t prefer move first.among)).1

  abbrev answered_by : Arrival → Answer → Move
  answered_by a answer = AnswerArrival n (due_moment s.part a) a.item (hard_moment s.part) answer

  answer_first : NoRelease → NoTake → (a : Arrival) (answer : Answer) → due_arrival s t ≡ Some a → In answer (answers s users t) → IsFirstOf later (answered_by a answer)
  answer_first none no_take a answer due at =
      let standing : In (answered_by a answer) (arrivals n s users t) = rw due (map-In (λ x. answered_by a x) answer at) in
      first_by n users s t prefer (answered_by a answer) (in_arrivals n users s t prefer (answered_by a answer) standing) (before_arrival none no_take a due)

  -- the wish stands for some answers of a due arrival
  answers_told : NoRelease → NoTake → (a : Arrival) → due_arrival s t ≡ Some a → (wished : List Answer) → ((answer : Answer) → In answer wished → In answer (answers s users t)) →
      (move : Move) → Contains (map (λ x. answered_by a x) wished) move → IsFirstOf later move
  answers_told none no_take a due wished among move at =
      let found = In-map (λ x. answered_by a x) move wished (In-from_Contains move (map (λ x. answered_by a x) wished) at.0 at.1 at.2) in
      subst (λ (m : Move). IsFirstOf later m) found.2 (answer_first none no_take a found.0 due (among found.0 found.1))

  -- where nobody is released and no answer is a start on the preferred user, no wish that names it stands for a
  -- first act
  unanswered_not_named : NoRelease → (In (StartOn prefer) (answers s users t) → ⊥) → Named → ⊥
  unanswered_not_named none not_started (named_release first) = no_release_first n users s t prefer none prefer first
  unanswered_not_named none not_started (named_start due item until first) = not_started (starts_preferred due item until first)

  pub late_told : NoRelease → NoTake → (a : Arrival) → due_arrival s t ≡ Some a → has_ended s t ≡ true → TellsFirst n users s t prefer (Late a.item (due_moment s.part a))
  late_told none no_take a due ended =
      record {
        first = answers_told none no_take a due (CountLate ∷ []) (λ answer at. rw ended at);
        something = λ e. absurd (cc);
        nothing = λ e. absurd (cc);
        preferred = λ other names stands. absurd (unanswered_not_named none not_started (named_first n users s t prefer other names stands));
      }
    where
      not_started : In (StartOn prefer) (answers s users t) → ⊥
      not_started at =
          let one : In (StartOn prefer) (CountLate ∷ []) = rw ended at at in
          let same = In-one (StartOn prefer) CountLate one in
          cc

  starting : has_ended s t ≡ false → is_some (first_of (idle_users share)) ≡ true → answers s users t ≡ map (λ (h : HeldUser). StartOn h.user) (idle_users share)
  starting not_ended some_idle = rw (not_ended, some_idle) refl

  start_in : (user : ℕ) → In user (idle_of share) → In (StartOn user) (map (λ (h : HeldUser). StartOn h.user) (idle_users share))
  start_in user at =
      let found = In-map (λ (h : HeldUser). h.user) user (idle_users share) at in
      subst (λ (k : ℕ). In (StartOn k) (map (λ (h : HeldUser). StartOn h.user) (idle_users share))) found.2 (map-In (λ (h : HeldUser). StartOn h.user) found.0 found.1)

  idle_of_start : (user : ℕ) → In (StartOn user) (map (λ (h : HeldUser). StartOn h.user) (idle_users share)) → In user (idle_of share)
  idle_of_start user at =
      let found = In-map (λ (h : HeldUser). StartOn h.user) (StartOn user) (idle_users share) at in
      let same : found.0.user ≡ user = cc in
      subst (λ (k : ℕ). In k (idle_of share)) same (map-In (λ (h : HeldUser). h.user) found.0 found.1)

  pub start_told : NoRelease → NoTake → (a : Arrival) (user : ℕ) → due_arrival s t ≡ Some a → has_ended s t ≡ false → chosen_of prefer (idle_of share) ≡ Some user →
      TellsFirst n users s t prefer (Start user a.item (hard_moment s.part) (due_moment s.part a))
  start_told none no_take a user due not_ended chosen =
      let idle = chosen_in prefer (idle_of share) user chosen in
      let held = In-map (λ (h : HeldUser). h.user) user (idle_users share) idle in
      let all = starting not_ended (some_first held.0 held.1) in
      record {
        first = answers_told none no_take a due (StartOn user ∷ []) (λ answer at.
            let same : StartOn user ≡ answer = In-one answer (StartOn user) at in
            rw all (subst (λ (x : Answer). In x (map (λ (h : HeldUser). StartOn h.user) (idle_users share))) same (start_in user idle)));
        something = λ e. absurd (cc);
        nothing = λ e. absurd (cc);
        preferred = λ other names stands. preferred_is all (named_first n users s t prefer other names stands);
      }
    where
      preferred_is : answers s users t ≡ map (λ (h : HeldUser). StartOn h.user) (idle_users share) → Named → Some user ≡ Some prefer
      preferred_is all (named_release first) = absurd (no_release_first n users s t prefer none prefer first)
      preferred_is all (named_start due' item until first) =
          let its = idle_of_start prefer (rw all at (starts_preferred due' item until first)) in
          ap Some (chosen_preferred prefer (idle_of share) user chosen its)

  no_idle : idle_of share ≡ [] → is_some (first_of (idle_users share)) ≡ false
  no_idle none =
      let P : List HeldUser → Type 0 = λ held. map (λ (h : HeldUser). h.user) held ≡ [] → is_some (first_of held) ≡ false in
      let from : P (idle_users share) = elim (idle_users share) as P [ [] ↦ λ e. refl | h ∷ rest ↦ λ e. absurd (cc) ] in
      from none

  more_something : (made_and_free : Users) (slot : ℕ) → more_answers made_and_free slot ≡ [] → ⊥
  more_something all slot e =
      let P : Bool → Type 0 = λ b. cond b (GrowAndStart (all.made + 1) slot ∷ []) (if is_some (first_of all.free) then map (λ user. TakeAndStart user slot) all.free else DropArrival ∷ []) ≡ [] → ⊥ in
      let Q : List ℕ → Type 0 = λ free. (if is_some (first_of free) then map (λ user. TakeAndStart user slot) free else DropArrival ∷ []) ≡ [] → ⊥ in
      let of_free : Q all.free = elim all.free as Q [ [] ↦ λ h. cc | x ∷ rest ↦ λ h. cc ] in
      let from : P (nat_lt all.made all.limit) = elim (nat_lt all.made all.limit) as P [ true ↦ λ h. cc | false ↦ of_free ] in
      from e

  -- nobody that is held is among the answers where one more user is needed
  more_no_start : (all : Users) (user slot : ℕ) → In (StartOn user) (more_answers all slot) → ⊥
  more_no_start all user slot at =
      let taken : List Answer = map (λ k. TakeAndStart k slot) all.free in
      let P : Bool → Type 0 = λ b. In (StartOn user) (cond b (GrowAndStart (all.made + 1) slot ∷ []) (if is_some (first_of all.free) then taken else DropArrival ∷ [])) → ⊥ in
      let Q : Bool → Type 0 = λ b. In (StartOn user) (cond b taken (DropArrival ∷ [])) → ⊥ in
      let of_free : Q (is_some (first_of all.free)) = elim (is_some (first_of all.free)) as Q [
        | true ↦ λ h. let found = In-map (λ k. TakeAndStart k slot) (StartOn user) all.free h in let same = found.2 in cc
        | false ↦ λ h. let same = In-one (StartOn user) DropArrival h in cc
      ] in
      let from : P (nat_lt all.made all.limit) = elim (nat_lt all.made all.limit) as P [
        | true ↦ λ h. let same = In-one (StartOn user) (GrowAndStart (all.made + 1) slot) h in cc
        | false ↦ of_free
      ] in
      from at

  mapped_something : (f : Answer → Move) (xs : List Answer) → map f xs ≡ [] → xs ≡ []
  mapped_something f [] e = refl
  mapped_something f (x ∷ xs) e = absurd (cc)

  -- one more user may be held: what may become of the arrival is what `More` stands for
  growing : has_ended s t ≡ false → is_some (first_of (idle_users share)) ≡ false → may_hold_more s ≡ true → answers s users t ≡ more_answers users (held_count share)
  growing not_ended none more = rw (not_ended, none, more) refl

  pub more_told : NoRelease → NoTake → (a : Arrival) → due_arrival s t ≡ Some a → has_ended s t ≡ false → idle_of share ≡ [] → may_hold_more s ≡ true →
      TellsFirst n users s t prefer (More a.item (hard_moment s.part) (due_moment s.part a) (held_count share))
  more_told none no_take a due not_ended idle more =
      record {
        first = answers_told none no_take a due (more_answers users (held_count share)) (λ answer at. rw (growing not_ended (no_idle idle) more) at);
        something = λ e. absurd (more_something users (held_count share) (mapped_something (λ x. answered_by a x) (more_answers users (held_count share)) e));
        nothing = λ e. absurd (cc);
        preferred = λ other names stands. absurd (unanswered_not_named none not_started (named_first n users s t prefer other names stands));
      }
    where
      not_started : In (StartOn prefer) (answers s users t) → ⊥
      not_started at = more_no_start users prefer (held_count share) (rw (growing not_ended (no_idle idle) more) at at)

  dropping : has_ended s t ≡ false → is_some (first_of (idle_users share)) ≡ false → may_hold_more s ≡ false → answers s users t ≡ DropArrival ∷ []
  dropping not_ended none more = rw (not_ended, none, more) refl

  pub drop_told : NoRelease → NoTake → (a : Arrival) → due_arrival s t ≡ Some a → has_ended s t ≡ false → idle_of share ≡ [] → may_hold_more s ≡ false →
      TellsFirst n users s t prefer (Drop a.item (due_moment s.part a))
  drop_told none no_take a due not_ended idle more =
      record {
        first = answers_told none no_take a due (DropArrival ∷ []) (λ answer at. rw (dropping not_ended (no_idle idle) more) at);
        something = λ e. absurd (cc);
        nothing = λ e. absurd (cc);
        preferred = λ other names stands. absurd (unanswered_not_named none not_started (named_first n users s t prefer other names stands));
      }
    where
      not_started : In (StartOn prefer) (answers s users t) → ⊥
      not_started at =
          let one : In (StartOn prefer) (DropArrival ∷ []) = rw (dropping not_ended (no_idle idle) more) at at in
          let same = In-one (StartOn prefer) DropArrival one in
          cc
