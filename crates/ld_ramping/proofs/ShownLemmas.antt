-- What a state of ramping users says of the scenario that it shows.
use Rattle.std.proofs.Common.{Contains, ◌≡◌, ◌≤◌, ◌∙◌, ◌&&◌, ◌||◌, ◌==◌, ℕ, Bool, true, false, not, List, [], ◌++◌, Option, None, Some, IfNone, IfSome, ◌<◌, min, if◌then◌else◌, filter, find, slice_get, refl, sym, ap, subst, rules}
use Rattle.std.specs.Prelude.{is_some, option_map, option_to_list}
use Rattle.std.specs.Option.{option_map_or}
use Rattle.std.specs.List.Sorted.{IsStrictlyIncreasing}
use Rattle.std.proofs.lemmas.Bool.{and_from, eqb-true, le-ltb, lt-ltb}
use Rattle.std.proofs.lemmas.List.Kept.{IsStrictlyIncreasing-filter}
use Rattle.ld_base.specs.declared.wish.Wish.TheVariants.{Release, Start, Take}
use Rattle.ld_course.specs.Course.{own_moments}
use Rattle.ld_course.specs.declared.course.Course.{Course}
use Rattle.ld_course.proofs.FirstLemmas.{NoRelease, NoTake, nobody_taken, release_tells, start_tells, take_tells}
use Rattle.ld_machine.specs.Plan.{Arrival, Executor, due_moment, hard_moment, interval_hard_moment, is_external, owned_items, owned_slots}
use Rattle.ld_machine.specs.Moment.{moment_after}
use Rattle.ld_machine.specs.Moves.{Users, takes}
use Rattle.ld_machine.specs.Scenario.{Scenario, executor_arrivals, executor_item_to_drop, executor_item_to_start, executor_may_close, executor_may_release, executor_may_take, executor_until, first_of, has_ended, is_held_slot, is_open_item, item_to_drop, item_to_start, least_open_item, may_release, may_take, runs, slots_to_take, until_of, where_holds, is_open}
use Rattle.ld_machine.specs.State.{HeldUser, idle_users, is_idle}
use Rattle.ld_machine.specs.Told.{users_fit}
use Rattle.ld_machine.specs.Wait.{ramping_moments}
use Rattle.ld_machine.specs.Wishes.{TellsFirst, has_arrivals}
use Rattle.ld_machine.proofs.FirstOfAllLemmas.{In-of, false_unless}
use Rattle.ld_machine.proofs.ListLemmas.{In, In-filter, In-from_any, any-from_In, both_true, number_itself, Contains-from_In}
use Rattle.ld_seats.specs.Choice.{IsChosen}
use Rattle.ld_seats.specs.Seats.{IsSeat}
use Rattle.ld_seats.proofs.ChoiceLemmas.{chosen_as}
use Rattle.ld_seats.proofs.NumbersLemmas.{among_in, among_kept}
use Rattle.ld_set.specs.SetView.{is_among}
use Rattle.ld_set.specs.Words.{as_wanted}
use Rattle.ld_ramping.specs.Owned.{interval_of}
use Rattle.ld_ramping.specs.Shows.{IsLeastTake, RampingView, Shows, is_idle_as, stands_as}
use Rattle.ld_ramping.specs.Standing.{all_turns, interval_on, numbers_of, stands_on}
use Rattle.ld_ramping.specs.declared.interval.Interval.{Interval}
use Rattle.ld_ramping.proofs.BridgeLemmas.{interval_is, numbers_kept, on_is, turns_are}

module _ (v : RampingView) (s : Scenario) (shows : Shows v s) where
  -- ---- laws

  pub no_arrivals : has_arrivals s.part.executor ≡ false
  no_arrivals = ap has_arrivals shows.executor

  pub not_external : is_external s.part.executor ≡ false
  not_external = ap is_external shows.executor

  pub users_fitting : users_fit s.part.executor ≡ true
  users_fitting = ap users_fit shows.executor

  pub closed_shown : v.course.closed ≡ s.share.closed
  closed_shown = ap (λ (c : Course). c.closed) shows.course

  -- ---- cells of the machine

  pub no_open_item : least_open_item s ≡ None
  no_open_item = ap (λ (e : Executor). first_of (filter (is_open_item s) (owned_items e))) shows.executor

  pub nothing_to_drop : (t : ℕ) → item_to_drop s t ≡ None
  nothing_to_drop t = ap (λ (e : Executor). executor_item_to_drop e s t) shows.executor

  pub slots_are : owned_slots s.part.executor ≡ numbers_of v.standing.slots
  slots_are = ap owned_slots shows.executor ∙ numbers_kept v.standing.slots

  pub taken_slots : slots_to_take s.part.executor s ≡ owned_slots s.part.executor
  taken_slots = ap (λ (e : Executor). slots_to_take e s) shows.executor ∙ sym (ap owned_slots shows.executor)

  pub take_is : (slot t : ℕ) → may_take s slot t ≡ ((runs s && stands_on v.standing slot t) && not (is_held_slot s slot))
  take_is slot t =
      ap (λ (e : Executor). executor_may_take e s slot t) shows.executor
      ∙ ap (λ (b : Bool). (runs s && b) && not (is_held_slot s slot)) (on_is s.part t v.standing slot shows.begin)

  pub release_is : (slot t : ℕ) → executor_may_release s.part.executor s slot t ≡ not (stands_on v.standing slot t)
  release_is slot t =
      ap (λ (e : Executor). executor_may_release e s slot t) shows.executor ∙ ap not (on_is s.part t v.standing slot shows.begin)

  pub start_is : (slot t : ℕ) → item_to_start s slot t ≡ where_holds (runs s && stands_on v.standing slot t) (Some slot)
  start_is slot t =
      ap (λ (e : Executor). executor_item_to_start e s slot t) shows.executor
      ∙ ap (λ (b : Bool). where_holds (runs s && b) (Some slot)) (on_is s.part t v.standing slot shows.begin)

  pub until_is : (slot t : ℕ) →
      until_of s slot t ≡ option_map_or (interval_hard_moment s.part v.ramp_grace) (option_map interval_of (interval_on v.standing slot t)) (hard_moment s.part)
  until_is slot t =
      ap (λ (e : Executor). executor_until e s slot t) shows.executor
      ∙ ap (λ o. option_map_or (interval_hard_moment s.part v.ramp_grace) o (hard_moment s.part)) (interval_is s.part t v.standing slot shows.begin)

  pub close_is : (t : ℕ) → executor_may_close s.part.executor s t ≡ has_ended s t
  close_is t = ap (λ (e : Executor). executor_may_close e s t) shows.executor

  pub own_is : own_moments s ≡ all_turns v.standing
  own_is =
      ap (λ (e : Executor). option_to_list (option_map (due_moment s.part) (find (λ (a : Arrival). is_open_item s a.item) (executor_arrivals e))) ++ ramping_moments e s.part)
      shows.executor
      ∙ turns_are s.part v.standing shows.begin

  -- ---- idle users

  pub owned_in : (h : HeldUser) → Contains (idle_users s.share) h → Contains (numbers_of v.standing.slots) h.slot
  owned_in h idle =
      let at = In-filter is_idle h s.share.held (In-of idle) in
      subst (λ (slots : List ℕ). Contains slots h.slot) slots_are (shows.seating.seats h (Contains-from_In h at.0)).owned

  idle_seat : (h : HeldUser) → Contains (idle_users s.share) h → IsSeat v.seating.seats h.user h.slot
  idle_seat h idle =
      let at = In-filter is_idle h s.share.held (In-of idle) in (shows.seating.seats h (Contains-from_In h at.0)).seat

  idle_among : (h : HeldUser) → Contains (idle_users s.share) h → is_among v.seating.idle h.slot ≡ true
  idle_among h idle = shows.seating.idle h.slot ∙ any-from_In (λ (g : HeldUser). g.slot == h.slot) h (In-of idle) (number_itself h.slot)

  idle_on : (slot : ℕ) → is_among v.seating.idle slot ≡ true → (h : HeldUser) × Contains (idle_users s.share) h × (h.slot ≡ slot)
  idle_on slot among =
      let found = In-from_any (λ (g : HeldUser). g.slot == slot) (idle_users s.share) (sym (shows.seating.idle slot) ∙ among) in
      (found.0, Contains-from_In found.0 found.1, eqb-true found.0.slot slot found.2)

  pub has_user : (on : Bool) (t slot : ℕ) → is_idle_as on v t slot ≡ true → slice_get v.seating.seats.user_of slot ≡ None → ⊥
  has_user on t slot idle none =
      let both = both_true (is_among v.seating.idle slot) (stands_as on v t slot) idle in
      let found = idle_on slot both.0 in
      let its : slice_get v.seating.seats.user_of slot ≡ Some found.0.user =
      ap (slice_get v.seating.seats.user_of) (sym found.2) ∙ (idle_seat found.0 found.1).user_is in
      cc

  -- where no idle user's slot stands so, none of them does
  pub none_stand : (on : Bool) (t : ℕ) → ((slot : ℕ) → Contains (numbers_of v.standing.slots) slot → is_idle_as on v t slot ≡ false) →
      (h : HeldUser) → Contains (idle_users s.share) h → stands_as on v t h.slot ≡ false
  none_stand on t none h idle =
      let fails = none h.slot (owned_in h idle) in
      let among = idle_among h idle in
      rw among at fails

  pub is_chosen : (on : Bool) (t prefer user slot : ℕ) → is_idle_as on v t slot ≡ true → slice_get v.seating.seats.user_of slot ≡ Some user →
      ((k : ℕ) → IsSeat v.seating.seats prefer k → is_idle_as on v t k ≡ true → Some slot ≡ Some k) → IsChosen s (stands_as on v t) prefer user slot
  is_chosen on t prefer user slot idle its_user preferred =
      let both = both_true (is_among v.seating.idle slot) (stands_as on v t slot) idle in
      let found = idle_on slot both.0 in
      let its : slice_get v.seating.seats.user_of slot ≡ Some found.0.user =
      ap (slice_get v.seating.seats.user_of) (sym found.2) ∙ (idle_seat found.0 found.1).user_is in
      record {
        one = found.0;
        idle = found.1;
        user_is = cc;
        slot_is = found.2;
        fits = both.1;
        preferred = λ h free fits same.
            let seat = idle_seat h free in
            let own : IsSeat v.seating.seats prefer h.slot = subst (λ k. IsSeat v.seating.seats k h.slot) same seat in
            let is : is_idle_as on v t h.slot ≡ true = rw (idle_among h free) fits in
            let at = preferred h.slot own is in
            let slots : slot ≡ h.slot = cc in
            let users : Some user ≡ Some h.user = sym its_user ∙ ap (slice_get v.seating.seats.user_of) slots ∙ seat.user_is in
            cc;
      }

  -- ---- Release

  pub released_off : (slot t : ℕ) → is_open s ≡ true → runs s ≡ true → may_release s slot t ≡ stands_as false v t slot
  released_off slot t opened running =
      ap (λ (b : Bool). b && (not (runs s) || executor_may_release s.part.executor s slot t)) opened
      ∙ ap (λ (b : Bool). not b || executor_may_release s.part.executor s slot t) running
      ∙ release_is slot t

  pub released_all : (slot t : ℕ) → is_open s ≡ true → runs s ≡ false → may_release s slot t ≡ true
  released_all slot t opened halted =
      ap (λ (b : Bool). b && (not (runs s) || executor_may_release s.part.executor s slot t)) opened
      ∙ ap (λ (b : Bool). not b || executor_may_release s.part.executor s slot t) halted

  pub released_none : (slot t : ℕ) → is_open s ≡ false → may_release s slot t ≡ false
  released_none slot t shut = ap (λ (b : Bool). b && (not (runs s) || executor_may_release s.part.executor s slot t)) shut

  -- ---- Take

  vacant_where : (slot : ℕ) → In slot (owned_slots s.part.executor) → is_among v.seating.vacant slot ≡ not (is_held_slot s slot)
  vacant_where slot at = ap (λ (k : List ℕ). is_among k slot) shows.seating.vacant ∙ among_kept (λ k. not (is_held_slot s k)) slot (owned_slots s.part.executor) at

  pub vacant_rises : IsStrictlyIncreasing v.seating.vacant
  vacant_rises =
      subst IsStrictlyIncreasing (sym shows.seating.vacant)
      (IsStrictlyIncreasing-filter (λ k. not (is_held_slot s k)) (owned_slots s.part.executor) shows.seating.rising)

  vacant_owned : (slot : ℕ) → is_among v.seating.vacant slot ≡ true → In slot (owned_slots s.part.executor)
  vacant_owned slot among =
      let at : In slot (filter (λ k. not (is_held_slot s k)) (owned_slots s.part.executor)) =
      subst (λ (k : List ℕ). In slot k) shows.seating.vacant (among_in slot v.seating.vacant among) in
      (In-filter (λ k. not (is_held_slot s k)) slot (owned_slots s.part.executor) at).0

  taken_on : (slot t : ℕ) → runs s ≡ true → In slot (owned_slots s.part.executor) → may_take s slot t ≡ (stands_on v.standing slot t && is_among v.seating.vacant slot)
  taken_on slot t running at =
      take_is slot t
      ∙ ap (λ (b : Bool). (b && stands_on v.standing slot t) && not (is_held_slot s slot)) running
      ∙ ap (λ (b : Bool). stands_on v.standing slot t && b) (sym (vacant_where slot at))

  pub least_take : (t slot : ℕ) → runs s ≡ true → is_among v.seating.vacant slot ≡ true → stands_on v.standing slot t ≡ true →
      ((k : ℕ) → Contains (numbers_of v.standing.slots) k → is_among v.seating.vacant k ≡ true → stands_on v.standing k t ≡ true → slot ≤ k) →
      IsLeastTake s t slot
  least_take t slot running among stands least =
      let at = vacant_owned slot among in
      record {
        among = Contains-from_In slot (subst (λ (k : List ℕ). In slot k) (sym taken_slots) at);
        may = taken_on slot t running at ∙ and_from (stands_on v.standing slot t) (is_among v.seating.vacant slot) stands among;
        least = λ other owned may.
            let mine : In other (owned_slots s.part.executor) = subst (λ (k : List ℕ). In other k) taken_slots (In-of owned) in
            let both = both_true (stands_on v.standing other t) (is_among v.seating.vacant other) (sym (taken_on other t running mine) ∙ may) in
            least other (Contains-from_In other (subst (λ (k : List ℕ). In other k) slots_are mine)) both.1 both.0;
      }

  pub none_taken : (n : ℕ) (users : Users) (t : ℕ) → runs s ≡ true →
      ((k : ℕ) → Contains (numbers_of v.standing.slots) k → is_among v.seating.vacant k ≡ true → stands_on v.standing k t ≡ true → ⊥) →
      takes n s users t ≡ []
  none_taken n users t running none =
      nobody_taken n s users t (λ slot at.
      false_unless (may_take s slot t) (λ may.
      let mine : In slot (owned_slots s.part.executor) = subst (λ (k : List ℕ). In slot k) taken_slots at in
      let both = both_true (stands_on v.standing slot t) (is_among v.seating.vacant slot) (sym (taken_on slot t running mine) ∙ may) in
      none slot (Contains-from_In slot (subst (λ (k : List ℕ). In slot k) slots_are mine)) both.1 both.0))

  pub not_running_takes : (n : ℕ) (users : Users) (t : ℕ) → runs s ≡ false → takes n s users t ≡ []
  not_running_takes n users t halted =
      nobody_taken n s users t (λ slot at.
      take_is slot t ∙ ap (λ (b : Bool). (b && stands_on v.standing slot t) && not (is_held_slot s slot)) halted)

  -- ---- Start

  pub started_on : (slot t : ℕ) → runs s ≡ true → is_some (item_to_start s slot t) ≡ stands_as true v t slot
  started_on slot t running =
      ap is_some (start_is slot t ∙ ap (λ (b : Bool). where_holds (b && stands_on v.standing slot t) (Some slot)) running)
      ∙ some_where (stands_on v.standing slot t)
    where
      some_where : (b : Bool) → is_some (where_holds b (Some slot)) ≡ b
      some_where true = refl
      some_where false = refl

  pub starts_slot : (slot t : ℕ) → runs s ≡ true → stands_as true v t slot ≡ true → item_to_start s slot t ≡ Some slot
  starts_slot slot t running on =
      start_is slot t ∙ ap (λ (b : Bool). where_holds (b && stands_on v.standing slot t) (Some slot)) running
      ∙ ap (λ (b : Bool). where_holds b (Some slot)) on

  pub none_started : (slot t : ℕ) → runs s ≡ true → stands_as true v t slot ≡ false → item_to_start s slot t ≡ None
  none_started slot t running off =
      start_is slot t ∙ ap (λ (b : Bool). where_holds (b && stands_on v.standing slot t) (Some slot)) running
      ∙ ap (λ (b : Bool). where_holds b (Some slot)) off

  pub not_running_starts : (slot t : ℕ) → runs s ≡ false → item_to_start s slot t ≡ None
  not_running_starts slot t halted =
      start_is slot t ∙ ap (λ (b : Bool). where_holds (b && stands_on v.standing slot t) (Some slot)) halted

  -- ---- the wishes tell the scenario's first acts

  pub release_wished : (n : ℕ) (users : Users) (t prefer user slot : ℕ) → IsChosen s (λ k. may_release s k t) prefer user slot →
      TellsFirst n users s t prefer (Release user)
  release_wished n users t prefer user slot chosen =
      subst (λ k. TellsFirst n users s t prefer (Release k)) chosen.user_is
      (release_tells n users s t prefer chosen.one (In-of chosen.idle) (subst (λ k. may_release s k t ≡ true) (sym chosen.slot_is) chosen.fits)
      (λ g at may same. chosen.user_is ∙ chosen.preferred g (Contains-from_In g at) may same))

  pub take_wished : (n : ℕ) (users : Users) (t prefer : ℕ) → NoRelease n users s t prefer → (slot : ℕ) → IsLeastTake s t slot →
      is_some (first_of users.free) ≡ true → TellsFirst n users s t prefer (Take slot)
  take_wished n users t prefer none slot take free =
      take_tells n users s t prefer none slot (In-of take.among) take.may (λ other at may. take.least other (Contains-from_In other at) may) free

  pub start_wished : (n : ℕ) (users : Users) (t prefer : ℕ) → NoRelease n users s t prefer → NoTake n users s t prefer → (user slot until due : ℕ) →
      IsChosen s (λ k. is_some (item_to_start s k t)) prefer user slot → item_to_start s slot t ≡ Some slot → until_of s slot t ≡ until →
      TellsFirst n users s t prefer (Start user slot until due)
  start_wished n users t prefer none no_take user slot until due chosen may lasts =
      subst (λ k. TellsFirst n users s t prefer (Start k slot until due)) chosen.user_is
      (subst (λ m. TellsFirst n users s t prefer (Start chosen.one.user slot m due)) (ap (λ k. until_of s k t) chosen.slot_is ∙ lasts)
      (start_tells n users s t prefer no_arrivals none no_take chosen.one slot due (In-of chosen.idle)
      (subst (λ k. item_to_start s k t ≡ Some slot) (sym chosen.slot_is) may)
      (λ g other at starts same. chosen.user_is ∙ chosen.preferred g (Contains-from_In g at) (ap is_some starts) same)))

-- ---- tests

pub wanted : (on b : Bool) → b ≡ on → as_wanted on b ≡ true
wanted true b e = e
wanted false b e = ap not e

pub as_it_is : (on b : Bool) → as_wanted on b ≡ true → b ≡ on
as_it_is true b e = e
as_it_is false true e = absurd (cc)
as_it_is false false e = refl

-- ---- the slot that is taken

module _ (v : RampingView) (t : ℕ) (numbers : List ℕ) (vacant : numbers ≡ v.seating.vacant) (running : (s : Scenario) → Shows v s → runs s ≡ true) where
  pub took_least : (result : Option ℕ) → IfSome result (λ slot. is_among numbers slot ≡ true) → IfSome result (λ slot. stands_on v.standing slot t ≡ true) →
      IfSome result (λ slot. IsStrictlyIncreasing numbers → (k : ℕ) → Contains (numbers_of v.standing.slots) k → is_among numbers k ≡ true →
      stands_on v.standing k t ≡ true → slot ≤ k) →
      IfSome result (λ slot. (s : Scenario) → Shows v s → IsLeastTake s t slot)
  took_least None among stands least = search rules
  took_least (Some slot) among stands least = λ s shows.
      least_take v s shows t slot (running s shows) (subst (λ (n : List ℕ). is_among n slot ≡ true) vacant among) stands
      (λ k owned at on. least (subst IsStrictlyIncreasing (sym vacant) (vacant_rises v s shows)) k owned (subst (λ (n : List ℕ). is_among n k ≡ true) (sym vacant) at) on)

  pub took_none : (free : Bool) (result : Option ℕ) →
      IfNone result ((k : ℕ) → Contains (numbers_of v.standing.slots) k → is_among numbers k ≡ true → stands_on v.standing k t ≡ true → ⊥) →
      IfNone result ((s : Scenario) (n : ℕ) (users : Users) → Shows v s → is_some (first_of users.free) ≡ free → takes n s users t ≡ [])
  took_none free None none = λ s n users shows _.
      none_taken v s shows n users t (running s shows) (λ k owned at on. none k owned (subst (λ (n : List ℕ). is_among n k ≡ true) (sym vacant) at) on)
  took_none free (Some slot) none = search rules

-- ---- the idle user on which an iteration starts

module _ (v : RampingView) (t prefer : ℕ) (running : (s : Scenario) → Shows v s → runs s ≡ true) where
  pub started_some : (result : Option (ℕ × ℕ)) →
      IfSome result (λ pair. (s : Scenario) → Shows v s → IsChosen s (stands_as true v t) prefer pair.0 pair.1) →
      IfSome result (λ pair. (s : Scenario) → Shows v s →
      IsChosen s (λ k. is_some (item_to_start s k t)) prefer pair.0 pair.1 × (item_to_start s pair.1 t ≡ Some pair.1))
  started_some None chosen = search rules
  started_some (Some pair) chosen = λ s shows. (
    chosen_as s (stands_as true v t) (λ k. is_some (item_to_start s k t)) prefer pair.0 pair.1 (λ h idle. started_on v s shows h.slot t (running s shows)) (chosen s shows),
    starts_slot v s shows pair.1 t (running s shows) (chosen s shows).fits,
  )

  pub started_none : (result : Option (ℕ × ℕ)) →
      IfNone result ((s : Scenario) (h : HeldUser) → Shows v s → Contains (idle_users s.share) h → stands_as true v t h.slot ≡ false) →
      IfNone result ((s : Scenario) (h : HeldUser) → Shows v s → Contains (idle_users s.share) h → item_to_start s h.slot t ≡ None)
  started_none None none = λ s h shows idle. none_started v s shows h.slot t (running s shows) (none s h shows idle)
  started_none (Some pair) none = search rules

-- ---- until when an iteration may last

module _ (v : RampingView) (s : Scenario) (shows : Shows v s) (slot t : ℕ) where
  pub until_hard : interval_on v.standing slot t ≡ None → until_of s slot t ≡ hard_moment s.part
  until_hard none =
      until_is v s shows slot t ∙ ap (λ o. option_map_or (interval_hard_moment s.part v.ramp_grace) (option_map interval_of o) (hard_moment s.part)) none

  module _ (i : Interval) (found : interval_on v.standing slot t ≡ Some i) where
    until_on : until_of s slot t ≡ interval_hard_moment s.part v.ramp_grace (interval_of i)
    until_on =
        until_is v s shows slot t ∙ ap (λ o. option_map_or (interval_hard_moment s.part v.ramp_grace) (option_map interval_of o) (hard_moment s.part)) found

    begins : v.course.begin ≡ s.part.begin
    begins = ap (λ (c : Course). c.begin) shows.course

    ends : v.course.end ≡ s.part.end
    ends = ap (λ (c : Course). c.end) shows.course

    chosen_hard : Bool → ℕ
    chosen_hard early =
        if early then min (moment_after (moment_after s.part.begin i.off) v.ramp_grace) (hard_moment s.part) else hard_moment s.part

    pub until_short : moment_after v.course.begin i.off < v.course.end →
        min (moment_after (moment_after v.course.begin i.off) v.ramp_grace) (hard_moment s.part) ≡ until_of s slot t
    unfolding chosen_hard
    until_short early =
        let early : moment_after s.part.begin i.off < s.part.end = rw (begins, ends) at early in
        ap (λ (b : ℕ). min (moment_after (moment_after b i.off) v.ramp_grace) (hard_moment s.part)) begins
        ∙ sym (until_on ∙ ap chosen_hard (lt-ltb (moment_after s.part.begin i.off) s.part.end early))

    pub until_last : v.course.end ≤ moment_after v.course.begin i.off → hard_moment s.part ≡ until_of s slot t
    unfolding chosen_hard
    until_last late =
        let late : s.part.end ≤ moment_after s.part.begin i.off = rw (begins, ends) at late in
        sym (until_on ∙ ap chosen_hard (le-ltb (moment_after s.part.begin i.off) s.part.end late))
