-- The enabled acts of a scenario, its stop aside: by which cell each is enabled, and that none is a stop.
use Rattle.std.proofs.Common.{◌≡◌, ℕ, Bool, true, false, List, [], ◌∷◌, ◌++◌, Option, None, Some, map, filter, refl, subst, inl, inr}
use Rattle.std.specs.Prelude.{option_map, option_to_list}
use Rattle.std.specs.Option.{option_map_or}
use Rattle.ld_machine.specs.Plan.{Arrival, hard_moment, due_moment}
use Rattle.ld_machine.specs.State.{HeldUser, idle_users}
use Rattle.ld_machine.specs.Scenario.{Scenario, may_release, slots_to_take, may_take, due_arrival, item_to_start, until_of, item_to_drop, may_close}
use Rattle.ld_machine.specs.Moves.{Move, StopScenario, ReleaseUser, TakeUser, AnswerArrival, StartIteration, DropIteration, CloseScenario, Users, answers, releases, takes, arrivals, answers_to, starts, start_on, drops, closes}
use Rattle.ld_machine.specs.Wishes.{later_moves}
use Rattle.ld_machine.proofs.ListLemmas.{In, nothing_in, In-append, In-map, In-flat_map, In-filter_map, In-one}
use Rattle.ld_machine.proofs.SourceLemmas.{Source, In-cond, from_releases, from_takes, from_arrivals, from_starts, from_drops, from_closes}

-- an act stops a scenario
abbrev pub is_stop : Move → Bool
is_stop (StopScenario _) = true
is_stop _ = false

-- what each element of a list is made into is no stop
mapped : {A : Type 0} (f : A → Move) (move : Move) (xs : List A) → ((x : A) → is_stop (f x) ≡ false) → In move (map f xs) → is_stop move ≡ false
mapped f move xs none h = let found = In-map f move xs h in subst (λ m. is_stop m ≡ false) found.2 (none found.0)

module _ (users : Users) (n : ℕ) (s : Scenario) (t : ℕ) where
  no_take_stop : (move : Move) → In move (takes n s users t) → is_stop move ≡ false
  no_take_stop move h =
      let found = In-flat_map (λ slot. map (λ user. TakeUser n user slot) users.free) move (filter (λ slot. may_take s slot t) (slots_to_take s.part.executor s)) h in
      mapped (λ user. TakeUser n user found.0) move users.free (λ user. refl) found.2

  no_arrival_stop : (move : Move) → In move (arrivals n s users t) → is_stop move ≡ false
  no_arrival_stop move h =
      let P : Option Arrival → Type 0 = λ o. In move (option_map_or (answers_to n s users t) o []) → is_stop move ≡ false in
      let from : P (due_arrival s t) = elim (due_arrival s t) as P [
        | None ↦ λ at. absurd (nothing_in at)
        | Some a ↦ λ at. mapped (λ answer. AnswerArrival n (due_moment s.part a) a.item (hard_moment s.part) answer) move (answers s users t) (λ answer. refl) at
      ] in from h

  start_no_stop : (h : HeldUser) (o : Option ℕ) (move : Move) →
      option_map (λ item. StartIteration n h.user item (until_of s h.slot t)) o ≡ Some move → is_stop move ≡ false
  start_no_stop h None move e = absurd (cc)
  start_no_stop h (Some item) move e =
      let same : StartIteration n h.user item (until_of s h.slot t) ≡ move = cc in
      subst (λ m. is_stop m ≡ false) same refl

  no_start_stop : (move : Move) → In move (starts n s t) → is_stop move ≡ false
  no_start_stop move h =
      let found = In-filter_map (start_on n s t) move (idle_users s.share) h in
      start_no_stop found.0 (item_to_start s found.0.slot t) move found.2

  no_drop_stop : (move : Move) → In move (drops n s t) → is_stop move ≡ false
  no_drop_stop move h =
      let P : Option ℕ → Type 0 = λ o. In move (option_to_list (option_map (λ item. DropIteration n item) o)) → is_stop move ≡ false in
      let from : P (item_to_drop s t) = elim (item_to_drop s t) as P [
        | None ↦ λ at. absurd (nothing_in at)
        | Some item ↦ λ at. subst (λ m. is_stop m ≡ false) (In-one move (DropIteration n item) at) refl
      ] in from h

  no_close_stop : (move : Move) → In move (closes n s t) → is_stop move ≡ false
  no_close_stop move h = elim (In-cond (may_close s t) move (CloseScenario n ∷ []) [] h) [
    | inl at ↦ subst (λ m. is_stop m ≡ false) (In-one move (CloseScenario n) at.1) refl
    | inr at ↦ absurd (nothing_in at.1)
  ]

  -- each enabled act of the scenario, its stop aside, is enabled by one of its cells, and is no stop
  pub later_source : (move : Move) → In move (later_moves n users s t) → Source users n s t move × (is_stop move ≡ false)
  later_source move there_is =
      elim (In-append move (releases n s t ++ takes n s users t ++ arrivals n s users t ++ starts n s t ++ drops n s t) (closes n s t) there_is) [
        | inr at ↦ (from_closes users n s t move at, no_close_stop move at)
        | inl at5 ↦ elim (In-append move (releases n s t ++ takes n s users t ++ arrivals n s users t ++ starts n s t) (drops n s t) at5) [
          | inr at ↦ (from_drops users n s t move at, no_drop_stop move at)
          | inl at4 ↦ elim (In-append move (releases n s t ++ takes n s users t ++ arrivals n s users t) (starts n s t) at4) [
            | inr at ↦ (from_starts users n s t move at, no_start_stop move at)
            | inl at3 ↦ elim (In-append move (releases n s t ++ takes n s users t) (arrivals n s users t) at3) [
              | inr at ↦ (from_arrivals users n s t move at, no_arrival_stop move at)
              | inl at2 ↦ elim (In-append move (releases n s t) (takes n s users t) at2) [
                | inr at ↦ (from_takes users n s t move at, no_take_stop move at)
                | inl at ↦ (from_releases users n s t move at, mapped (λ (h : HeldUser). ReleaseUser n h.user) move (filter (λ (h : HeldUser). may_release s h.slot t) (idle_users s.share)) (λ h. refl) at)
              ]
            ]
          ]
        ]
      ]
