-- What a state of users with slots says of the scenario that it shows.
use Rattle.std.proofs.Common.{Contains, ◌≡◌, ◌&&◌, ◌||◌, ◌∙◌, ℕ, Bool, true, false, not, List, [], Option, None, Some, IfNone, IfSome, filter, map, flat_map, slice_get, refl, sym, ap, subst, rules}
use Rattle.std.specs.Prelude.{is_some}
use Rattle.std.proofs.lemmas.Bool.{true≢false}
use Rattle.ld_course.specs.declared.course.Course.{Course}
use Rattle.ld_course.proofs.FirstLemmas.{nobody_taken}
use Rattle.ld_machine.specs.Plan.{Executor, SharedIterations, PerVuIterations, ConstantVus, RampingVus, ArrivalRate, ExternallyControlled, SlotItem, hard_moment, is_external, owned_slots}
use Rattle.ld_machine.specs.Scenario.{Scenario, executor_item_to_start, executor_may_release, executor_may_take, executor_until, first_of, has_ended, is_held_slot, is_live, is_open, item_to_start, least_open_item, may_release, may_take, runs, slots_to_take, until_of, where_holds}
use Rattle.ld_machine.specs.Moves.{TakeUser, Users, takes}
use Rattle.ld_machine.specs.Told.{executor_next_item, users_fit}
use Rattle.ld_machine.specs.Wishes.{has_arrivals}
use Rattle.ld_machine.proofs.FirstOfAllLemmas.{In-of}
use Rattle.ld_machine.proofs.ListLemmas.{In}
use Rattle.ld_set.specs.SetView.{is_among}
use Rattle.ld_set.proofs.NumberLemmas.{kept_twice}
use Rattle.ld_seats.specs.Choice.{IsChosen}
use Rattle.ld_iters.specs.SlotsShows.{IsWork, Shows, SlotsView, executor_goes_on}
use Rattle.ld_iters.specs.Work.{least_left, next_item}
use Rattle.ld_iters.specs.declared.work.Work.{Work}
use Rattle.ld_seats.proofs.NumbersLemmas.{among_kept, kept_same, none_first}
use Rattle.ld_seats.proofs.ChoiceLemmas.{owned_in}
use Rattle.ld_iters.proofs.WorkLemmas.{least_is, next_goes}

-- what holds of the executors whose users have such slots
of_slots : (P : Executor → Type 0) (e : Executor) (s : Scenario) (w : Work) → IsWork e s w → ((slots : List ℕ) (items : List SlotItem) → P (PerVuIterations slots items)) →
    ((slots : List ℕ) → P (ConstantVus slots)) → P e
of_slots P (PerVuIterations slots items) s w work counted endless = counted slots items
of_slots P (ConstantVus slots) s w work counted endless = endless slots
of_slots P (SharedIterations _ _) s w work counted endless = elim work [ ]
of_slots P (RampingVus _ _) s w work counted endless = elim work [ ]
of_slots P (ArrivalRate _ _ _) s w work counted endless = elim work [ ]
of_slots P (ExternallyControlled _ _ _) s w work counted endless = elim work [ ]

where_true : {A : Type 0} (b : Bool) (o : Option A) → b ≡ true → where_holds b o ≡ o
where_true b o e = ap (λ c. where_holds c o) e

or_never : (b : Bool) → b ≡ (b || false)
or_never true = refl
or_never false = refl

and_always : (b : Bool) → b ≡ (b && true)
and_always true = refl
and_always false = refl

not_some : {A : Type 0} (o : Option A) → is_some o ≡ false → o ≡ None
not_some None e = refl
not_some (Some x) e = absurd (cc)

module _ (v : SlotsView) (s : Scenario) (shows : Shows v s) where
  abbrev e : Executor
  e = s.part.executor

  abbrev of_e : (P : Executor → Type 0) → ((slots : List ℕ) (items : List SlotItem) → P (PerVuIterations slots items)) → ((slots : List ℕ) → P (ConstantVus slots)) → P e
  of_e P counted endless = of_slots P e s v.work shows.left.work counted endless

  -- ---- laws

  -- a shown scenario has no arrivals, isn't controlled from outside, and takes no more users at its begin than it may hold
  pub slots_no_arrivals : has_arrivals s.part.executor ≡ false
  slots_no_arrivals = of_e (λ (x : Executor). has_arrivals x ≡ false) (λ slots items. refl) (λ slots. refl)

  pub slots_not_external : is_external s.part.executor ≡ false
  slots_not_external = of_e (λ (x : Executor). is_external x ≡ false) (λ slots items. refl) (λ slots. refl)

  pub slots_users_fit : users_fit s.part.executor ≡ true
  slots_users_fit = of_e (λ (x : Executor). users_fit x ≡ true) (λ slots items. refl) (λ slots. refl)

  -- it is closed where its course says so
  pub slots_closed : v.course.closed ≡ s.share.closed
  slots_closed = ap (λ (c : Course). c.closed) shows.course

  -- ---- cells of the machine

  pub slots_until : (slot t : ℕ) → until_of s slot t ≡ hard_moment s.part
  slots_until slot t = of_e (λ (x : Executor). executor_until x s slot t ≡ hard_moment s.part) (λ slots items. refl) (λ slots. refl)

  pub slots_owned : slots_to_take s.part.executor s ≡ owned_slots s.part.executor
  slots_owned = of_e (λ (x : Executor). slots_to_take x s ≡ owned_slots x) (λ slots items. refl) (λ slots. refl)

  release_is : (slot t : ℕ) → executor_may_release e s slot t ≡ (has_ended s t || not (executor_goes_on e s slot))
  release_is slot t =
      of_e (λ (x : Executor). executor_may_release x s slot t ≡ (has_ended s t || not (executor_goes_on x s slot)))
      (λ slots items. refl) (λ slots. or_never (has_ended s t))

  take_is : (slot t : ℕ) → may_take s slot t ≡ ((is_live s t && not (is_held_slot s slot)) && executor_goes_on e s slot)
  take_is slot t =
      of_e (λ (x : Executor). executor_may_take x s slot t ≡ ((is_live s t && not (is_held_slot s slot)) && executor_goes_on x s slot))
      (λ slots items. refl) (λ slots. and_always (is_live s t && not (is_held_slot s slot)))

  start_is : (slot t : ℕ) → item_to_start s slot t ≡ where_holds (is_live s t) (executor_next_item e s slot)
  start_is slot t =
      of_e (λ (x : Executor). executor_item_to_start x s slot t ≡ where_holds (is_live s t) (executor_next_item x s slot)) (λ slots items. refl) (λ slots. refl)

  goes_is_next : (slot : ℕ) → executor_goes_on e s slot ≡ is_some (executor_next_item e s slot)
  goes_is_next slot = of_e (λ (x : Executor). executor_goes_on x s slot ≡ is_some (executor_next_item x s slot)) (λ slots items. refl) (λ slots. refl)

  -- ---- what is kept

  going_is : (slot : ℕ) → In slot (owned_slots s.part.executor) → is_among v.going slot ≡ executor_goes_on s.part.executor s slot
  going_is slot at = ap (λ (k : List ℕ). is_among k slot) shows.left.going ∙ among_kept (executor_goes_on e s) slot (owned_slots e) at

  pub least_shown : least_left v.work v.going ≡ least_open_item s
  least_shown = ap (least_left v.work) shows.left.going ∙ sym (least_is e s v.work shows.seating.rising shows.left.work)

  -- ---- Release

  -- where the scenario runs and hasn't ended, a user may be released whose slot doesn't go on
  pub released_done : (slot t : ℕ) → Contains (owned_slots s.part.executor) slot → is_open s ≡ true → runs s ≡ true → has_ended s t ≡ false →
      may_release s slot t ≡ not (is_among v.going slot)
  released_done slot t owned opened running not_ended =
      ap (λ b. b && (not (runs s) || executor_may_release e s slot t)) opened
      ∙ ap (λ b. not b || executor_may_release e s slot t) running
      ∙ release_is slot t
      ∙ ap (λ b. b || not (executor_goes_on e s slot)) not_ended
      ∙ ap not (sym (going_is slot (In-of owned)))

  -- ---- Take

  taken_slots : (t : ℕ) → is_live s t ≡ true → filter (λ k. may_take s k t) (slots_to_take s.part.executor s) ≡ filter (is_among v.going) v.seating.vacant
  taken_slots t live =
      ap (filter (λ k. may_take s k t)) slots_owned
      ∙ kept_same (λ k. may_take s k t) (λ k. not (is_held_slot s k) && is_among v.going k) (owned_slots e)
      (λ k at.
      ap (λ b. not (is_held_slot s k) && b) (going_is k at)
      ∙ sym (take_is k t ∙ ap (λ b. (b && not (is_held_slot s k)) && executor_goes_on e s k) live))
      ∙ sym (kept_twice (λ k. not (is_held_slot s k)) (is_among v.going) (owned_slots e))
      ∙ ap (filter (is_among v.going)) (sym shows.seating.vacant)

  none_taken : (n : ℕ) (users : Users) (t : ℕ) → is_live s t ≡ true → slice_get (filter (is_among v.going) v.seating.vacant) 0 ≡ None → takes n s users t ≡ []
  none_taken n users t live none =
      ap (flat_map (λ slot. map (λ user. TakeUser n user slot) users.free)) (taken_slots t live ∙ none_first (filter (is_among v.going) v.seating.vacant) none)

  -- ---- Start

  pub none_starts : (slot t : ℕ) → In slot (owned_slots s.part.executor) → is_among v.going slot ≡ false → item_to_start s slot t ≡ None
  none_starts slot t at none =
      start_is slot t
      ∙ ap (where_holds (is_live s t)) (not_some (executor_next_item e s slot) (sym (goes_is_next slot) ∙ sym (going_is slot at) ∙ none))
      ∙ nothing (is_live s t)
    where
      nothing : (b : Bool) → ◌≡◌ {A = Option ℕ} (where_holds b None) None
      nothing true = refl
      nothing false = refl

  starts_next : (slot t : ℕ) → In slot (owned_slots s.part.executor) → is_live s t ≡ true → is_among v.going slot ≡ true → item_to_start s slot t ≡ next_item v.work slot
  starts_next slot t at live goes =
      start_is slot t ∙ where_true (is_live s t) (executor_next_item e s slot) live
      ∙ next_goes e s v.work slot shows.seating.rising at shows.left.work (sym (going_is slot at) ∙ goes)

  pub starts_where : (slot t : ℕ) → In slot (owned_slots s.part.executor) → is_live s t ≡ true → is_some (item_to_start s slot t) ≡ is_among v.going slot
  starts_where slot t at live =
      ap is_some (start_is slot t ∙ where_true (is_live s t) (executor_next_item e s slot) live) ∙ sym (goes_is_next slot) ∙ sym (going_is slot at)

  -- what starts on the slot of a user that is chosen of those that go on
  pub chosen_starts : (t prefer user slot : ℕ) → is_live s t ≡ true → IsChosen s (is_among v.going) prefer user slot →
      (item_to_start s slot t ≡ next_item v.work slot) × (item_to_start s slot t ≡ None → ⊥)
  chosen_starts t prefer user slot live chosen =
      let at : In slot (owned_slots e) = subst (λ k. In k (owned_slots e)) chosen.slot_is (owned_in v.seating s shows.seating chosen.one chosen.idle) in (
        starts_next slot t at live chosen.fits,
        λ none. true≢false (sym (starts_where slot t at live ∙ chosen.fits) ∙ ap is_some none),
      )

-- ---- the slot that is taken

pub first_taken : (v : SlotsView) (t : ℕ) (result : Option ℕ) → ((s : Scenario) → Shows v s → is_live s t ≡ true) → result ≡ slice_get (filter (is_among v.going) v.seating.vacant) 0 →
    IfSome result (λ slot. (s : Scenario) → Shows v s → slice_get (filter (λ k. may_take s k t) (slots_to_take s.part.executor s)) 0 ≡ Some slot)
first_taken v t None live e = search rules
first_taken v t (Some slot) live e = λ s shows. ap (λ (k : List ℕ). slice_get k 0) (taken_slots v s shows t (live s shows)) ∙ sym e

pub nobody_takes : (v : SlotsView) (t : ℕ) (free : Bool) (result : Option ℕ) → ((s : Scenario) → Shows v s → is_live s t ≡ true) →
    result ≡ slice_get (filter (is_among v.going) v.seating.vacant) 0 →
    IfNone result ((s : Scenario) (n : ℕ) (users : Users) → Shows v s → is_some (first_of users.free) ≡ free → takes n s users t ≡ [])
nobody_takes v t free None live e = λ s n users shows _. none_taken v s shows n users t (live s shows) (sym e)
nobody_takes v t free (Some slot) live e = search rules

-- where the scenario isn't live, nobody is taken
pub not_live_takes : (v : SlotsView) (s : Scenario) → Shows v s → (n : ℕ) (users : Users) (t : ℕ) → is_live s t ≡ false → takes n s users t ≡ []
not_live_takes v s shows n users t live =
    nobody_taken n s users t (λ slot at.
    take_is v s shows slot t ∙ ap (λ b. (b && not (is_held_slot s slot)) && executor_goes_on s.part.executor s slot) live)
