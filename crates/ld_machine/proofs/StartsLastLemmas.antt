-- An iteration that starts in a well timed plan may last for some time.
use Rattle.std.proofs.Common.{Contains, ◌≡◌, ◌≢◌, ◌<◌, ◌≤◌, ◌&&◌, ◌==◌, ℕ, Bool, true, false, not, cond, nat_le, nat_lt, List, [], ◌∷◌, Option, None, Some, find, flat_map, min, arith, refl, sym, subst, ◌⊎◌, inl, inr, slice_get}
use Rattle.std.proofs.lemmas.Grind.{common_steps}
use Rattle.std.proofs.lemmas.Option.{slice_get_within, get_or_from_slice_get}
use Rattle.std.specs.Prelude.{is_some}
use Rattle.std.specs.Option.{option_map_or}
use Rattle.ld_base.specs.declared.act.Act.{Act}
use Rattle.ld_base.specs.declared.act.Act.TheVariants.{Take, Grow, Start}
use Rattle.ld_base.specs.declared.ask.Ask.TheVariants as asks
use Rattle.ld_base.specs.declared.entry.Entry.{Entry}
use Rattle.ld_machine.specs.Moment.{moment_after, last_moment}
use Rattle.ld_machine.specs.Plan.{Interval, RampingSlot, Executor, SharedIterations, PerVuIterations, ConstantVus, RampingVus, ArrivalRate, ExternallyControlled, Part, Plan, hard_moment, off_moment, interval_hard_moment}
use Rattle.ld_machine.specs.State.{State}
use Rattle.ld_machine.specs.Scenario.{Scenario, where_holds, runs, has_begun, has_ended, is_live, is_within, interval_at, is_slot_on, executor_item_to_start, executor_until, until_of}
use Rattle.ld_machine.specs.Moves.{Answer, CountLate, StartOn, GrowAndStart, TakeAndStart, DropArrival, Move, Users, users_of, answers}
use Rattle.ld_machine.specs.Acts.{acts_of}
use Rattle.ld_machine.specs.Step.{Result, IsStep}
use Rattle.ld_machine.specs.WellTimed.{executor_intervals, IsWellTimed, WellTimed}
use Rattle.ld_machine.specs.Same.{same_entries}
use Rattle.ld_machine.proofs.ListLemmas.{In, nothing_in, any-from_In, map-In, found_in, Contains-from_In, In-one, in_two, both_true}
use Rattle.ld_machine.proofs.SameLemmas.{itself_entries}
use Rattle.ld_machine.proofs.SourceLemmas.{Source, by_stop, by_release, by_take, by_arrival, by_start, by_drop, by_close, In-cond, source_of}
use Rattle.ld_machine.proofs.StepLemmas.{act_wrote, first_enabled}
use Rattle.ld_machine.proofs.TurnLemmas.{acts_written}
use Rattle.ld_machine.proofs.ItemLemmas.{stands_share}
use Rattle.ld_machine.proofs.FirstOfAllLemmas.{In-of, is_not}
use Rattle.ld_machine.proofs.WaitLemmas.{In-left, In-right}

-- ---- tests of moments

not_yet : (m t : ℕ) → nat_le m t ≡ false → t < m
not_yet m t h = grind (arith, common_steps)

not_over : (t m : ℕ) → nat_lt t m ≡ true → t < m
not_over t m h = grind (arith, common_steps)

-- a live scenario hasn't ended
live_before_end : (s : Scenario) (t : ℕ) → is_live s t ≡ true → t < s.part.end
live_before_end s t h = not_yet s.part.end t (is_not (has_ended s t) (both_true (runs s && has_begun s t) _ h).1)

-- what is there where a test holds is there by it
test_held : {A : Type 0} (test : Bool) (value : Option A) (x : A) → where_holds test value ≡ Some x → test ≡ true
test_held true value x h = refl
test_held false value x h = absurd (cc)

-- ---- the interval that a moment is in

-- what a choice gives is given by one of both
either_gives : (b : Bool) (x y : Option Interval) (i : Interval) → cond b x y ≡ Some i → (x ≡ Some i) ⊎ (y ≡ Some i)
either_gives true x y i h = inl h
either_gives false x y i h = inr h

-- the interval of a slot that a moment is in is one of the executor's, and ends behind the moment
pub interval_found : (part : Part) (slots : List RampingSlot) (slot t : ℕ) (i : Interval) → interval_at part slots slot t ≡ Some i →
    In i (flat_map (λ (r : RampingSlot). r.intervals) slots) × (t < off_moment part i)
interval_found part [] slot t i h = absurd (cc)
interval_found part (r ∷ rest) slot t i h =
    elim (either_gives (r.slot == slot) (find (is_within part t) r.intervals) (interval_at part rest slot t) i h) [
      | inl now ↦
          let found = found_in (is_within part t) i r.intervals now in
          (In-left i (flat_map (λ (q : RampingSlot). q.intervals) rest) found.0, not_over t (off_moment part i) (both_true _ (nat_lt t (off_moment part i)) found.1).1)
      | inr later ↦ let found = interval_found part rest slot t i later in (In-right i r.intervals found.0, found.1)
    ]

-- ---- until when an iteration may last

hard_behind : (part : Part) (t : ℕ) → part.end ≤ last_moment → t < part.end → t < hard_moment part
hard_behind part t ends before = omega arith

interval_behind : (part : Part) (ramp_grace t : ℕ) (i : Interval) → part.end ≤ last_moment → off_moment part i ≤ part.end → t < off_moment part i →
    t < interval_hard_moment part ramp_grace i
interval_behind part ramp_grace t i ends off before =
    let hard = hard_behind part t ends (omega arith) in
    let P : Bool → Type 0 = λ b. t < cond b (min (moment_after (off_moment part i) ramp_grace) (hard_moment part)) (hard_moment part) in
    elim (nat_lt (off_moment part i) part.end) as P [ true ↦ omega arith | false ↦ hard ]

ramping_lasts : (s : Scenario) (ramp_grace : ℕ) (slots : List RampingSlot) (slot t : ℕ) → s.part.end ≤ last_moment →
    ((i : Interval) → In i (flat_map (λ (r : RampingSlot). r.intervals) slots) → off_moment s.part i ≤ s.part.end) →
    is_slot_on s slots slot t ≡ true → t < option_map_or (interval_hard_moment s.part ramp_grace) (interval_at s.part slots slot t) (hard_moment s.part)
ramping_lasts s ramp_grace slots slot t ends off on =
    let P : Option Interval → Type 0 = λ o. interval_at s.part slots slot t ≡ o → is_some o ≡ true →
    t < option_map_or (interval_hard_moment s.part ramp_grace) o (hard_moment s.part) in
    let lasts : P (interval_at s.part slots slot t) = elim (interval_at s.part slots slot t) as P [
      | None ↦ λ e some. absurd (cc)
      | Some i ↦ λ e some.
          let found = interval_found s.part slots slot t i e in
          interval_behind s.part ramp_grace t i ends (off i found.0) found.1
    ] in lasts refl on

-- what starts on an idle user may last
start_lasts : (executor : Executor) (s : Scenario) (slot t item : ℕ) → s.part.end ≤ last_moment →
    ((i : Interval) → In i (executor_intervals executor) → off_moment s.part i ≤ s.part.end) →
    executor_item_to_start executor s slot t ≡ Some item → t < executor_until executor s slot t
start_lasts (SharedIterations _ _) s slot t item ends off h = hard_behind s.part t ends (live_before_end s t (test_held (is_live s t) _ item h))
start_lasts (PerVuIterations _ _) s slot t item ends off h = hard_behind s.part t ends (live_before_end s t (test_held (is_live s t) _ item h))
start_lasts (ConstantVus _) s slot t item ends off h = hard_behind s.part t ends (live_before_end s t (test_held (is_live s t) _ item h))
start_lasts (RampingVus ramp_grace slots) s slot t item ends off h =
    ramping_lasts s ramp_grace slots slot t ends off (both_true (runs s) _ (test_held (runs s && is_slot_on s slots slot t) _ item h)).1
start_lasts (ArrivalRate _ _ _) s slot t item ends off h = absurd (cc)
start_lasts (ExternallyControlled _ _ _) s slot t item ends off h =
    let test = test_held (is_live s t && not s.controls.paused && nat_lt slot s.controls.vus) _ item h in
    hard_behind s.part t ends (live_before_end s t (both_true (is_live s t) _ (both_true (is_live s t && not s.controls.paused) _ test).0).0)

-- an arrival that isn't counted late is answered before the end
answered_before : (users : Users) (s : Scenario) (t : ℕ) (answer : Answer) → (CountLate ≡ answer → ⊥) → In answer (answers s users t) → t < s.part.end
answered_before users s t answer other h =
    elim (In-cond (has_ended s t) answer (CountLate ∷ []) _ h) [
      | inl late ↦ absurd (other (In-one answer CountLate late.1))
      | inr before ↦ not_yet s.part.end t before.0
    ]

-- ---- one act

same_until : (n user item until n' user' item' until' : ℕ) → Start n user item until ≡ Start n' user' item' until' → until ≡ until'
same_until n user item until n' user' item' until' h = cc

module _ (users : Users) (n : ℕ) (s : Scenario) (t : ℕ) (timed : IsWellTimed s.part) where
  -- an act starts something that may last
  abbrev Lasts : Act → Type 0
  Lasts act = (k user item until : ℕ) → act ≡ Start k user item until → t < until

  arrival_lasts : (user item : ℕ) (answer : Answer) → (CountLate ≡ answer → ⊥) → In answer (answers s users t) → Lasts (Start n user item (hard_moment s.part))
  arrival_lasts user item answer other h k user' item' until same =
      let it = same_until n user item (hard_moment s.part) k user' item' until same in
      subst (λ u. t < u) it (hard_behind s.part t timed.ends (answered_before users s t answer other h))

  lasts_by : (one act : Act) → one ≡ act → Lasts one → Lasts act
  lasts_by one act same lasts = subst Lasts same lasts

  move_lasts : (move : Move) → Source users n s t move → (act : Act) → In act (acts_of move) → Lasts act
  move_lasts move (by_stop e) act at = lasts_by _ act (In-one act _ at) (λ k user item until same. absurd (cc))
  move_lasts move (by_release u idle e) act at = lasts_by _ act (In-one act _ at) (λ k user item until same. absurd (cc))
  move_lasts move (by_take user slot free slots e) act at = lasts_by _ act (In-one act _ at) (λ k user item until same. absurd (cc))
  move_lasts move (by_drop item e) act at = lasts_by _ act (In-one act _ at) (λ k user item until same. absurd (cc))
  move_lasts move (by_close e) act at = lasts_by _ act (In-one act _ at) (λ k user item until same. absurd (cc))
  move_lasts move (by_start u item idle e) act at =
      lasts_by (Start n u.user item (until_of s u.slot t)) act (In-one act _ at) (λ k user item' until same.
      subst (λ x. t < x) (same_until n u.user item (until_of s u.slot t) k user item' until same)
      (start_lasts s.part.executor s u.slot t item timed.ends (λ i there_is. timed.off i (Contains-from_In i there_is)) e))
  move_lasts move (by_arrival a CountLate due e) act at = lasts_by _ act (In-one act _ at) (λ k user item until same. absurd (cc))
  move_lasts move (by_arrival a DropArrival due e) act at = lasts_by _ act (In-one act _ at) (λ k user item until same. absurd (cc))
  move_lasts move (by_arrival a (StartOn user) due e) act at =
      lasts_by (Start n user a.item (hard_moment s.part)) act (In-one act _ at) (arrival_lasts user a.item (StartOn user) (λ same. cc) e)
  move_lasts move (by_arrival a (GrowAndStart user slot) due e) act at =
      elim (in_two act (Grow n user slot) (Start n user a.item (hard_moment s.part)) at) [
        | inl grown ↦ lasts_by _ act grown (λ k user' item until same. absurd (cc))
        | inr started ↦ lasts_by (Start n user a.item (hard_moment s.part)) act started (arrival_lasts user a.item (GrowAndStart user slot) (λ same. cc) e)
      ]
  move_lasts move (by_arrival a (TakeAndStart user slot) due e) act at =
      elim (in_two act (Take n user slot) (Start n user a.item (hard_moment s.part)) at) [
        | inl taken ↦ lasts_by _ act taken (λ k user' item until same. absurd (cc))
        | inr started ↦ lasts_by (Start n user a.item (hard_moment s.part)) act started (arrival_lasts user a.item (TakeAndStart user slot) (λ same. cc) e)
      ]

-- ---- a step

-- a scenario of a well timed plan is well timed
pub timed_at : (plan : Plan) (n : ℕ) (part : Part) → WellTimed plan → slice_get plan.parts n ≡ Some part → IsWellTimed part
timed_at plan n part timed is = timed part (n, slice_get_within plan.parts n part is, get_or_from_slice_get plan.parts n part part is)

-- entries of which one stands there are some
there_are : (entry : Entry) {entries : List Entry} → In entry entries → entries ≢ []
there_are entry at none = nothing_in (subst (λ es. In entry es) none at)

pub start_in_step : (plan : Plan) (state : State) (thread t : ℕ) (result : Result) (entry : Entry) (n user item until : ℕ) → WellTimed plan →
    IsStep plan state thread asks.Act t result → Contains result.entries entry → entry.act ≡ Start n user item until → t < until
start_in_step plan state thread t result entry n user item until timed step there_is starts =
    let at = In-of there_is in
    let w = act_wrote plan state thread t result.entries (there_are entry at)
    (any-from_In (λ (r : Result). same_entries r.entries result.entries) result (In-of step) (itself_entries result.entries)) in
    let by = first_enabled plan state t w.move w.first in
    let part = stands_share state.controls plan.parts state.shares by.number by.scenario by.stands in
    move_lasts (users_of plan state) by.number by.scenario t (timed_at plan by.number by.scenario.part timed part.0) w.move
    (source_of (users_of plan state) by.number by.scenario t w.move by.enabled) entry.act
    (subst (λ acts. In entry.act acts) (sym (acts_written plan state thread t result.entries w)) (map-In (λ (e : Entry). e.act) entry at))
    n user item until starts
