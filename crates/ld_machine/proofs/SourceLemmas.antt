-- By which cell of a scenario an act is enabled.
use Rattle.std.proofs.Common.{◌≡◌, ℕ, ◌+◌, nat_lt, Bool, true, false, cond, ◌&&◌, List, [], ◌∷◌, ◌++◌, Option, None, Some, map, filter, refl, subst, inl, inr, ◌⊎◌}
use Rattle.std.specs.Prelude.{option_map, option_to_list, is_some}
use Rattle.std.specs.Option.{option_map_or}
use Rattle.ld_machine.specs.Plan.{Arrival, hard_moment, due_moment}
use Rattle.ld_machine.specs.State.{HeldUser, idle_users, held_count}
use Rattle.ld_machine.specs.Scenario.{Scenario, first_of, has_ended, may_hold_more, may_stop, may_release, slots_to_take, may_take, due_arrival, item_to_start, until_of, item_to_drop, may_close}
use Rattle.ld_machine.specs.Moves.{Answer, CountLate, StartOn, GrowAndStart, TakeAndStart, DropArrival, Move, StopScenario, ReleaseUser, TakeUser, AnswerArrival, StartIteration, DropIteration, CloseScenario, Users, answers, stops, releases, takes, arrivals, answers_to, starts, start_on, drops, closes, moves_of}
use Rattle.ld_machine.proofs.ListLemmas.{In, nothing_in, In-append, In-map, In-filter, In-flat_map, In-filter_map, In-one}

-- an act of scenario number n is enabled by this cell
pub data Source (users : Users) (n : ℕ) (s : Scenario) (t : ℕ) : Move → Type 0 where
  by_stop : may_stop s t ≡ true → Source users n s t (StopScenario n)
  by_release : (h : HeldUser) → In h (idle_users s.share) → may_release s h.slot t ≡ true → Source users n s t (ReleaseUser n h.user)
  by_take : (user slot : ℕ) → In user users.free → In slot (slots_to_take s.part.executor s) → may_take s slot t ≡ true →
      Source users n s t (TakeUser n user slot)
  by_arrival : (a : Arrival) (answer : Answer) → due_arrival s t ≡ Some a → In answer (answers s users t) →
      Source users n s t (AnswerArrival n (due_moment s.part a) a.item (hard_moment s.part) answer)
  by_start : (h : HeldUser) (item : ℕ) → In h (idle_users s.share) → item_to_start s h.slot t ≡ Some item →
      Source users n s t (StartIteration n h.user item (until_of s h.slot t))
  by_drop : (item : ℕ) → item_to_drop s t ≡ Some item → Source users n s t (DropIteration n item)
  by_close : may_close s t ≡ true → Source users n s t (CloseScenario n)

-- an element of a choice of two lists
pub In-cond : {A : Type 0} (b : Bool) (x : A) (xs ys : List A) → In x (cond b xs ys) → ((b ≡ true) × In x xs) ⊎ ((b ≡ false) × In x ys)
In-cond true x xs ys h = inl (refl, h)
In-cond false x xs ys h = inr (refl, h)

module _ (users : Users) (n : ℕ) (s : Scenario) (t : ℕ) where
  from_stops : (move : Move) → In move (stops n s t) → Source users n s t move
  from_stops move h = elim (In-cond (may_stop s t) move (StopScenario n ∷ []) [] h) [
    | inl at ↦ subst (λ m. Source users n s t m) (In-one move (StopScenario n) at.1) (by_stop at.0)
    | inr at ↦ absurd (nothing_in at.1)
  ]

  pub from_closes : (move : Move) → In move (closes n s t) → Source users n s t move
  from_closes move h = elim (In-cond (may_close s t) move (CloseScenario n ∷ []) [] h) [
    | inl at ↦ subst (λ m. Source users n s t m) (In-one move (CloseScenario n) at.1) (by_close at.0)
    | inr at ↦ absurd (nothing_in at.1)
  ]

  pub from_releases : (move : Move) → In move (releases n s t) → Source users n s t move
  from_releases move h =
      let found = In-map (λ (u : HeldUser). ReleaseUser n u.user) move (filter (λ (u : HeldUser). may_release s u.slot t) (idle_users s.share)) h in
      let kept = In-filter (λ (u : HeldUser). may_release s u.slot t) found.0 (idle_users s.share) found.1 in
      subst (λ m. Source users n s t m) found.2 (by_release found.0 kept.0 kept.1)

  pub from_takes : (move : Move) → In move (takes n s users t) → Source users n s t move
  from_takes move h =
      let found = In-flat_map (λ slot. map (λ user. TakeUser n user slot) users.free) move (filter (λ slot. may_take s slot t) (slots_to_take s.part.executor s)) h in
      let kept = In-filter (λ slot. may_take s slot t) found.0 (slots_to_take s.part.executor s) found.1 in
      let taken = In-map (λ user. TakeUser n user found.0) move users.free found.2 in
      subst (λ m. Source users n s t m) taken.2 (by_take taken.0 found.0 taken.1 kept.0 kept.1)

  pub from_arrivals : (move : Move) → In move (arrivals n s users t) → Source users n s t move
  from_arrivals move h =
      let P : Option Arrival → Type 0 = λ o. due_arrival s t ≡ o → In move (option_map_or (answers_to n s users t) o []) → Source users n s t move in
      let from : P (due_arrival s t) = elim (due_arrival s t) as P [
        | None ↦ λ e at. absurd (nothing_in at)
        | Some a ↦ λ e at.
            let found = In-map (λ answer. AnswerArrival n (due_moment s.part a) a.item (hard_moment s.part) answer) move (answers s users t) at in
            subst (λ m. Source users n s t m) found.2 (by_arrival a found.0 e found.1)
      ] in from refl h

  pub from_starts : (move : Move) → In move (starts n s t) → Source users n s t move
  from_starts move h =
      let found = In-filter_map (start_on n s t) move (idle_users s.share) h in
      let P : Option ℕ → Type 0 = λ o. item_to_start s found.0.slot t ≡ o →
      option_map (λ item. StartIteration n found.0.user item (until_of s found.0.slot t)) o ≡ Some move → Source users n s t move in
      let from : P (item_to_start s found.0.slot t) = elim (item_to_start s found.0.slot t) as P [
        | None ↦ λ e at. absurd (cc)
        | Some item ↦ λ e at.
            let same : StartIteration n found.0.user item (until_of s found.0.slot t) ≡ move = cc in
            subst (λ m. Source users n s t m) same (by_start found.0 item found.1 e)
      ] in from refl found.2

  pub from_drops : (move : Move) → In move (drops n s t) → Source users n s t move
  from_drops move h =
      let P : Option ℕ → Type 0 = λ o. item_to_drop s t ≡ o → In move (option_to_list (option_map (λ item. DropIteration n item) o)) → Source users n s t move in
      let from : P (item_to_drop s t) = elim (item_to_drop s t) as P [
        | None ↦ λ e at. absurd (nothing_in at)
        | Some item ↦ λ e at. subst (λ m. Source users n s t m) (In-one move (DropIteration n item) at) (by_drop item e)
      ] in from refl h

  -- each enabled act of the scenario is enabled by one of its cells
  pub source_of : (move : Move) → In move (moves_of users n s t) → Source users n s t move
  source_of move there_is =
      elim (In-append move (stops n s t ++ releases n s t ++ takes n s users t ++ arrivals n s users t ++ starts n s t ++ drops n s t) (closes n s t) there_is) [
        | inr at ↦ from_closes move at
        | inl at6 ↦ elim (In-append move (stops n s t ++ releases n s t ++ takes n s users t ++ arrivals n s users t ++ starts n s t) (drops n s t) at6) [
          | inr at ↦ from_drops move at
          | inl at5 ↦ elim (In-append move (stops n s t ++ releases n s t ++ takes n s users t ++ arrivals n s users t) (starts n s t) at5) [
            | inr at ↦ from_starts move at
            | inl at4 ↦ elim (In-append move (stops n s t ++ releases n s t ++ takes n s users t) (arrivals n s users t) at4) [
              | inr at ↦ from_arrivals move at
              | inl at3 ↦ elim (In-append move (stops n s t ++ releases n s t) (takes n s users t) at3) [
                | inr at ↦ from_takes move at
                | inl at2 ↦ elim (In-append move (stops n s t) (releases n s t) at2) [
                  | inr at ↦ from_releases move at
                  | inl at1 ↦ from_stops move at1
                ]
              ]
            ]
          ]
        ]
      ]

  -- an arrival is counted late at the end or behind it
  pub late_answer : In CountLate (answers s users t) → has_ended s t ≡ true
  late_answer h = elim (In-cond (has_ended s t) CountLate (CountLate ∷ []) _ h) [
    | inl at ↦ at.0
    | inr at ↦ elim (In-cond (is_some (first_of (idle_users s.share))) CountLate (map (λ (u : HeldUser). StartOn u.user) (idle_users s.share)) _ at.1) [
      | inl on ↦ let found = In-map (λ (u : HeldUser). StartOn u.user) CountLate (idle_users s.share) on.1 in absurd (cc)
      | inr no_idle ↦ elim (In-cond (may_hold_more s && nat_lt users.made users.limit) CountLate (GrowAndStart (users.made + 1) (held_count s.share) ∷ []) _ no_idle.1) [
        | inl grown ↦ let same = In-one CountLate (GrowAndStart (users.made + 1) (held_count s.share)) grown.1 in absurd (cc)
        | inr no_grow ↦ elim (In-cond (may_hold_more s && is_some (first_of users.free)) CountLate (map (λ user. TakeAndStart user (held_count s.share)) users.free) (DropArrival ∷ []) no_grow.1) [
          | inl taken ↦ let found = In-map (λ user. TakeAndStart user (held_count s.share)) CountLate users.free taken.1 in absurd (cc)
          | inr dropped ↦ let same = In-one CountLate DropArrival dropped.1 in absurd (cc)
        ]
      ]
    ]
  ]

  -- an arrival is dropped before the end, where no user is idle, none can be grown and none taken
  pub drop_answer : In DropArrival (answers s users t) →
      (has_ended s t ≡ false) × (is_some (first_of (idle_users s.share)) ≡ false)
      × ((may_hold_more s && nat_lt users.made users.limit) ≡ false) × ((may_hold_more s && is_some (first_of users.free)) ≡ false)
  drop_answer h = elim (In-cond (has_ended s t) DropArrival (CountLate ∷ []) _ h) [
    | inl at ↦ let same = In-one DropArrival CountLate at.1 in absurd (cc)
    | inr at ↦ elim (In-cond (is_some (first_of (idle_users s.share))) DropArrival (map (λ (u : HeldUser). StartOn u.user) (idle_users s.share)) _ at.1) [
      | inl on ↦ let found = In-map (λ (u : HeldUser). StartOn u.user) DropArrival (idle_users s.share) on.1 in absurd (cc)
      | inr no_idle ↦ elim (In-cond (may_hold_more s && nat_lt users.made users.limit) DropArrival (GrowAndStart (users.made + 1) (held_count s.share) ∷ []) _ no_idle.1) [
        | inl grown ↦ let same = In-one DropArrival (GrowAndStart (users.made + 1) (held_count s.share)) grown.1 in absurd (cc)
        | inr no_grow ↦ elim (In-cond (may_hold_more s && is_some (first_of users.free)) DropArrival (map (λ user. TakeAndStart user (held_count s.share)) users.free) (DropArrival ∷ []) no_grow.1) [
          | inl taken ↦ let found = In-map (λ user. TakeAndStart user (held_count s.share)) DropArrival users.free taken.1 in absurd (cc)
          | inr dropped ↦ (at.0, no_idle.0, no_grow.0, dropped.0)
        ]
      ]
    ]
  ]

  -- a user is grown where the scenario may hold more and one more may be made; it is the next number
  pub grow_answer : (user slot : ℕ) → In (GrowAndStart user slot) (answers s users t) →
      (user ≡ users.made + 1) × ((may_hold_more s && nat_lt users.made users.limit) ≡ true)
  grow_answer user slot h = elim (In-cond (has_ended s t) (GrowAndStart user slot) (CountLate ∷ []) _ h) [
    | inl at ↦ let same = In-one (GrowAndStart user slot) CountLate at.1 in absurd (cc)
    | inr at ↦ elim (In-cond (is_some (first_of (idle_users s.share))) (GrowAndStart user slot) (map (λ (u : HeldUser). StartOn u.user) (idle_users s.share)) _ at.1) [
      | inl on ↦ let found = In-map (λ (u : HeldUser). StartOn u.user) (GrowAndStart user slot) (idle_users s.share) on.1 in absurd (cc)
      | inr no_idle ↦ elim (In-cond (may_hold_more s && nat_lt users.made users.limit) (GrowAndStart user slot) (GrowAndStart (users.made + 1) (held_count s.share) ∷ []) _ no_idle.1) [
        | inl grown ↦ let same = In-one (GrowAndStart user slot) (GrowAndStart (users.made + 1) (held_count s.share)) grown.1 in (cc, grown.0)
        | inr no_grow ↦ elim (In-cond (may_hold_more s && is_some (first_of users.free)) (GrowAndStart user slot) (map (λ user. TakeAndStart user (held_count s.share)) users.free) (DropArrival ∷ []) no_grow.1) [
          | inl taken ↦ let found = In-map (λ user. TakeAndStart user (held_count s.share)) (GrowAndStart user slot) users.free taken.1 in absurd (cc)
          | inr dropped ↦ let same = In-one (GrowAndStart user slot) DropArrival dropped.1 in absurd (cc)
        ]
      ]
    ]
  ]

  -- a user that is taken for an arrival is free, and the scenario may hold more
  pub taken_answer : (user slot : ℕ) → In (TakeAndStart user slot) (answers s users t) →
      In user users.free × ((may_hold_more s && is_some (first_of users.free)) ≡ true)
  taken_answer user slot h = elim (In-cond (has_ended s t) (TakeAndStart user slot) (CountLate ∷ []) _ h) [
    | inl at ↦ let same = In-one (TakeAndStart user slot) CountLate at.1 in absurd (cc)
    | inr at ↦ elim (In-cond (is_some (first_of (idle_users s.share))) (TakeAndStart user slot) (map (λ (u : HeldUser). StartOn u.user) (idle_users s.share)) _ at.1) [
      | inl on ↦ let found = In-map (λ (u : HeldUser). StartOn u.user) (TakeAndStart user slot) (idle_users s.share) on.1 in absurd (cc)
      | inr no_idle ↦ elim (In-cond (may_hold_more s && nat_lt users.made users.limit) (TakeAndStart user slot) (GrowAndStart (users.made + 1) (held_count s.share) ∷ []) _ no_idle.1) [
        | inl grown ↦ let same = In-one (TakeAndStart user slot) (GrowAndStart (users.made + 1) (held_count s.share)) grown.1 in absurd (cc)
        | inr no_grow ↦ elim (In-cond (may_hold_more s && is_some (first_of users.free)) (TakeAndStart user slot) (map (λ user. TakeAndStart user (held_count s.share)) users.free) (DropArrival ∷ []) no_grow.1) [
          | inl taken ↦
              let found = In-map (λ user. TakeAndStart user (held_count s.share)) (TakeAndStart user slot) users.free taken.1 in
              let same : found.0 ≡ user = cc in
              (subst (λ u. In u users.free) same found.1, taken.0)
          | inr dropped ↦ let same = In-one (TakeAndStart user slot) DropArrival dropped.1 in absurd (cc)
        ]
      ]
    ]
  ]

  pub take_answer : (user slot : ℕ) → In (TakeAndStart user slot) (answers s users t) → In user users.free
  take_answer user slot h = (taken_answer user slot h).0

  -- an arrival starts on an idle user
  pub on_answer : (user : ℕ) → In (StartOn user) (answers s users t) → (h : HeldUser) × In h (idle_users s.share) × (h.user ≡ user)
  on_answer user h = elim (In-cond (has_ended s t) (StartOn user) (CountLate ∷ []) _ h) [
    | inl at ↦ let same = In-one (StartOn user) CountLate at.1 in absurd (cc)
    | inr at ↦ elim (In-cond (is_some (first_of (idle_users s.share))) (StartOn user) (map (λ (u : HeldUser). StartOn u.user) (idle_users s.share)) _ at.1) [
      | inl on ↦
          let found = In-map (λ (u : HeldUser). StartOn u.user) (StartOn user) (idle_users s.share) on.1 in
          let same : found.0.user ≡ user = cc in
          (found.0, found.1, same)
      | inr no_idle ↦ elim (In-cond (may_hold_more s && nat_lt users.made users.limit) (StartOn user) (GrowAndStart (users.made + 1) (held_count s.share) ∷ []) _ no_idle.1) [
        | inl grown ↦ let same = In-one (StartOn user) (GrowAndStart (users.made + 1) (held_count s.share)) grown.1 in absurd (cc)
        | inr no_grow ↦ elim (In-cond (may_hold_more s && is_some (first_of users.free)) (StartOn user) (map (λ user'. TakeAndStart user' (held_count s.share)) users.free) (DropArrival ∷ []) no_grow.1) [
          | inl taken ↦ let found = In-map (λ user'. TakeAndStart user' (held_count s.share)) (StartOn user) users.free taken.1 in absurd (cc)
          | inr dropped ↦ let same = In-one (StartOn user) DropArrival dropped.1 in absurd (cc)
        ]
      ]
    ]
  ]
