-- What a state wishes is what comes first of the scenario that it shows.
use Rattle.std.proofs.Common.{◌≡◌, ℕ, Bool, true, false, cond, List, [], ◌∷◌, Option, None, Some, IsTrue, IfNone, refl, sym, ap, ◌∙◌, subst, rules}
use Rattle.std.specs.Prelude.{option_map, is_some}
use Rattle.ld_base.specs.declared.wish.Wish.{Wish}
use Rattle.ld_base.specs.declared.wish.Wish.TheVariants.{Nothing, Release, Take, More, Drop, Late, Close}
use Rattle.ld_machine.specs.Plan.{Arrival, Executor, SharedIterations, PerVuIterations, ConstantVus, RampingVus, ArrivalRate, ExternallyControlled, Part, due_moment, hard_moment}
use Rattle.ld_machine.specs.State as machine
use Rattle.ld_machine.specs.Scenario.{Scenario, first_of, has_ended, item_to_start, executor_item_to_start, executor_item_to_drop, may_hold_more, may_release, slots_to_take, may_take, due_arrival, may_close, executor_arrivals, executor_max_vus}
use Rattle.ld_machine.specs.Moves.{Users, releases, takes}
use Rattle.ld_machine.specs.Wishes.{has_arrivals, TellsFirst}
use Rattle.ld_machine.proofs.ListLemmas.{In}
use Rattle.ld_course.specs.Chosen.{chosen_of}
use Rattle.ld_course.proofs.ChosenLemmas.{chosen_none}
use Rattle.ld_course.proofs.FirstLemmas.{any_release_tells, take_one_tells, close_tells, nothing_tells, nobody_chosen}
use Rattle.ld_course.proofs.IdleLemmas.{idle_of}
use Rattle.ld_rates.specs.RatesView.{RatesView}
use Rattle.ld_rates.specs.Shows.{Shows, kept_pair, kept_of, pre_allocated_of}
use Rattle.ld_rates.specs.Answer.{answer_before_end, answer_of}
use Rattle.ld_rates.proofs.KeptLemmas.{rates_executor, count_shown}
use Rattle.ld_rates.proofs.FirstLemmas.{at_rate, late_told, start_told, more_told, drop_told}

-- what holds of each scenario at an arrival rate
pub of_rates : (P : Scenario → Type 0) (s : Scenario) → IsTrue (has_arrivals s.part.executor) →
    ((part : Part) (pre most : ℕ) (planned : List Arrival) (share : machine.Share) (controls : machine.Controls) → P (at_rate part pre most planned share controls)) → P s
of_rates P s rates holds =
    let is = rates_executor s.part.executor rates in
    subst (λ (e : Executor). P (record s { part = record s.part { executor = e } })) (sym is)
    (holds s.part (pre_allocated_of s.part.executor) (executor_max_vus s.part.executor) (executor_arrivals s.part.executor) s.share s.controls)

-- ---- what a scenario at an arrival rate doesn't do by itself

rates_slots : (s : Scenario) (e : Executor) → IsTrue (has_arrivals e) → slots_to_take e s ≡ machine.held_count s.share ∷ []
rates_slots s (ArrivalRate _ _ _) h = refl
rates_slots s (SharedIterations _ _) h = absurd (search rules)
rates_slots s (PerVuIterations _ _) h = absurd (search rules)
rates_slots s (ConstantVus _) h = absurd (search rules)
rates_slots s (RampingVus _ _) h = absurd (search rules)
rates_slots s (ExternallyControlled _ _ _) h = absurd (search rules)

rates_start_none : (s : Scenario) (slot t : ℕ) (e : Executor) → IsTrue (has_arrivals e) → executor_item_to_start e s slot t ≡ None
rates_start_none s slot t (ArrivalRate _ _ _) h = refl
rates_start_none s slot t (SharedIterations _ _) h = absurd (search rules)
rates_start_none s slot t (PerVuIterations _ _) h = absurd (search rules)
rates_start_none s slot t (ConstantVus _) h = absurd (search rules)
rates_start_none s slot t (RampingVus _ _) h = absurd (search rules)
rates_start_none s slot t (ExternallyControlled _ _ _) h = absurd (search rules)

rates_drop_none : (s : Scenario) (t : ℕ) (e : Executor) → IsTrue (has_arrivals e) → executor_item_to_drop e s t ≡ None
rates_drop_none s t (ArrivalRate _ _ _) h = refl
rates_drop_none s t (SharedIterations _ _) h = absurd (search rules)
rates_drop_none s t (PerVuIterations _ _) h = absurd (search rules)
rates_drop_none s t (ConstantVus _) h = absurd (search rules)
rates_drop_none s t (RampingVus _ _) h = absurd (search rules)
rates_drop_none s t (ExternallyControlled _ _ _) h = absurd (search rules)

-- ---- the idle users

-- the idle users that are kept are those of the scenario
pub idle_shown : (v : RatesView) (s : Scenario) → Shows v s → v.idle ≡ idle_of s.share
idle_shown v s shows = ap (λ (w : RatesView). w.idle) shows.kept

pub chosen_shown : (v : RatesView) (s : Scenario) (prefer : ℕ) → Shows v s → chosen_of prefer v.idle ≡ chosen_of prefer (idle_of s.share)
chosen_shown v s prefer shows = ap (chosen_of prefer) (idle_shown v s shows)

-- where none is chosen nobody is released
pub none_chosen : (v : RatesView) (s : Scenario) (prefer n t : ℕ) → Shows v s → chosen_of prefer v.idle ≡ None → releases n s t ≡ []
none_chosen v s prefer n t shows none =
    nobody_chosen n s t prefer (sym (chosen_shown v s prefer shows) ∙ none)

pub none_goes : (v : RatesView) (prefer t : ℕ) (idle : Option ℕ) → idle ≡ chosen_of prefer v.idle →
    IfNone idle ((s : Scenario) (n : ℕ) → Shows v s → releases n s t ≡ [])
none_goes v prefer t None e = λ s n shows. none_chosen v s prefer n t shows (sym e)
none_goes v prefer t (Some user) e = search rules

-- ---- how a due arrival is answered

answer_told : (part : Part) (pre most : ℕ) (planned : List Arrival) (share : machine.Share) (controls : machine.Controls) (n : ℕ) (users : Users) (t prefer : ℕ) →
    releases n (at_rate part pre most planned share controls) t ≡ [] → takes n (at_rate part pre most planned share controls) users t ≡ [] →
    (a : Arrival) → due_arrival (at_rate part pre most planned share controls) t ≡ Some a →
    TellsFirst n users (at_rate part pre most planned share controls) t prefer
    (answer_of (kept_of (at_rate part pre most planned share controls)) (kept_pair a) (chosen_of prefer (idle_of share)) t)
answer_told part pre most planned share controls n users t prefer none no_take a due =
    let s : Scenario = at_rate part pre most planned share controls in
    let v : RatesView = kept_of s in
    let P : Bool → Type 0 = λ b. has_ended s t ≡ b →
    TellsFirst n users s t prefer (cond b (Late a.item (due_moment s.part a)) (answer_before_end v (kept_pair a) (chosen_of prefer (idle_of share)))) in
    let Q : Option ℕ → Type 0 = λ o. has_ended s t ≡ false → chosen_of prefer (idle_of share) ≡ o → TellsFirst n users s t prefer (answer_before_end v (kept_pair a) o) in
    let R : Bool → Type 0 = λ b. has_ended s t ≡ false → idle_of share ≡ [] → may_hold_more s ≡ b →
    TellsFirst n users s t prefer
    (cond b (More a.item (hard_moment s.part) (due_moment s.part a) (machine.held_count share)) (Drop a.item (due_moment s.part a))) in
    let more : R (may_hold_more s) = elim (may_hold_more s) as R [
      | true ↦ λ not_ended idle holds. more_told part pre most planned share controls n users t prefer none no_take a due not_ended idle holds
      | false ↦ λ not_ended idle holds. drop_told part pre most planned share controls n users t prefer none no_take a due not_ended idle holds
    ] in
    let before : Q (chosen_of prefer (idle_of share)) = elim (chosen_of prefer (idle_of share)) as Q [
      | None ↦ λ not_ended chosen. more not_ended (chosen_none prefer (idle_of share) chosen) refl
      | Some user ↦ λ not_ended chosen. start_told part pre most planned share controls n users t prefer none no_take a user due not_ended chosen
    ] in
    let all : P (has_ended s t) = elim (has_ended s t) as P [
      | true ↦ λ ended. late_told part pre most planned share controls n users t prefer none no_take a due ended
      | false ↦ λ not_ended. before not_ended refl
    ] in
    all refl

mapped_some : {A B : Type 0} (f : A → B) (o : Option A) (y : B) → Some y ≡ option_map f o → (x : A) × (o ≡ Some x) × (y ≡ f x)
mapped_some f None y e = absurd (cc)
mapped_some f (Some x) y e = (x, refl, cc)

mapped_none : {A B : Type 0} (f : A → B) (o : Option A) → None ≡ option_map f o → o ≡ None
mapped_none f None e = refl
mapped_none f (Some x) e = absurd (cc)

-- ---- rank by rank

module _ (v : RatesView) (s : Scenario) (shows : Shows v s) (n : ℕ) (users : Users) (t prefer : ℕ) where
  pub release_shown : (user : ℕ) → chosen_of prefer v.idle ≡ Some user → ((slot : ℕ) → may_release s slot t ≡ true) → TellsFirst n users s t prefer (Release user)
  release_shown user chosen may = any_release_tells n users s t prefer user (sym (chosen_shown v s prefer shows) ∙ chosen) may

  pub take_shown : (slot : ℕ) → slot ≡ v.held → releases n s t ≡ [] → may_take s slot t ≡ true → is_some (first_of users.free) ≡ true →
      TellsFirst n users s t prefer (Take slot)
  take_shown slot is none may free =
      let slots : slots_to_take s.part.executor s ≡ slot ∷ [] =
      rates_slots s s.part.executor shows.rates ∙ ap (λ (k : ℕ). k ∷ []) (count_shown v s shows ∙ sym is) in
      take_one_tells n users s t prefer none slot slots may free

  pub answer_shown : (pair : ℕ × ℕ) (idle : Option ℕ) (wish : Wish) → releases n s t ≡ [] → takes n s users t ≡ [] →
      Some pair ≡ option_map kept_pair (due_arrival s t) → idle ≡ chosen_of prefer v.idle → wish ≡ answer_of v pair idle t → TellsFirst n users s t prefer wish
  answer_shown pair idle wish none no_take due is wished =
      let P : Scenario → Type 0 = λ s. releases n s t ≡ [] → takes n s users t ≡ [] → (a : Arrival) → due_arrival s t ≡ Some a →
      TellsFirst n users s t prefer (answer_of (kept_of s) (kept_pair a) (chosen_of prefer (idle_of s.share)) t) in
      let found = mapped_some kept_pair (due_arrival s t) pair due in
      let told = of_rates P s shows.rates (λ part pre most planned share controls. answer_told part pre most planned share controls n users t prefer) none no_take found.0 found.1 in
      let chosen : idle ≡ chosen_of prefer (idle_of s.share) = is ∙ chosen_shown v s prefer shows in
      let same : wish ≡ answer_of (kept_of s) (kept_pair found.0) (chosen_of prefer (idle_of s.share)) t =
      wished ∙ ap (λ (w : RatesView). answer_of w pair idle t) shows.kept ∙ ap (λ (p : ℕ × ℕ). answer_of (kept_of s) p idle t) found.2
      ∙ ap (λ (o : Option ℕ). answer_of (kept_of s) (kept_pair found.0) o t) chosen in
      subst (λ (w : Wish). TellsFirst n users s t prefer w) (sym same) told

  nothing_starts : (h : machine.HeldUser) → In h (machine.idle_users s.share) → item_to_start s h.slot t ≡ None
  nothing_starts h at = rates_start_none s h.slot t s.part.executor shows.rates

  nothing_is_due : None ≡ option_map kept_pair (due_arrival s t) → due_arrival s t ≡ None
  nothing_is_due none = mapped_none kept_pair (due_arrival s t) none

  pub close_shown : releases n s t ≡ [] → takes n s users t ≡ [] → None ≡ option_map kept_pair (due_arrival s t) → may_close s t ≡ true → TellsFirst n users s t prefer Close
  close_shown none no_take no_due may =
      close_tells n users s t prefer none no_take (nothing_is_due no_due) nothing_starts (rates_drop_none s t s.part.executor shows.rates) may

  pub nothing_shown : releases n s t ≡ [] → takes n s users t ≡ [] → None ≡ option_map kept_pair (due_arrival s t) → may_close s t ≡ false → TellsFirst n users s t prefer Nothing
  nothing_shown none no_take no_due may =
      nothing_tells n users s t prefer none no_take (nothing_is_due no_due) nothing_starts (rates_drop_none s t s.part.executor shows.rates) may
