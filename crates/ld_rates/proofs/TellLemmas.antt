-- What a scenario may be told of may be applied to a state that shows it.
use Rattle.std.proofs.Common.{◌≡◌, ◌<◌, ◌≤◌, ◌==◌, ◌∙◌, ℕ, IsTrue, Some, refl, sym, ap, arith, rules}
use Rattle.std.proofs.lemmas.Bool.{eq-eqb, ltb-true}
use Rattle.ld_base.specs.declared.act.Act.{Act}
use Rattle.ld_base.specs.declared.act.Act.TheVariants as acts
use Rattle.ld_machine.specs.Plan.{Executor, SharedIterations, PerVuIterations, ConstantVus, RampingVus, ArrivalRate, ExternallyControlled}
use Rattle.ld_machine.specs.State.{HeldUser, held_count}
use Rattle.ld_machine.specs.Scenario.{Scenario, executor_max_vus, least_open_item}
use Rattle.ld_machine.specs.Told.{IsNewcomer, IsPlayerOf, IsStarter, MayBeTold, executor_has_place, executor_next_item}
use Rattle.ld_machine.specs.Wishes.{has_arrivals}
use Rattle.ld_machine.proofs.ListLemmas.{any-from_In}
use Rattle.ld_machine.proofs.FirstOfAllLemmas.{In-of}
use Rattle.ld_rates.specs.Applies.{MayApply, next_item}
use Rattle.ld_rates.specs.RatesView.{RatesView}
use Rattle.ld_rates.specs.Shows.{Shows}
use Rattle.ld_rates.proofs.KeptLemmas.{count_shown, next_item_kept}

-- with arrivals there is a place while fewer users are held than there may be
rates_place : (executor : Executor) (s : Scenario) (slot : ℕ) → IsTrue (has_arrivals executor) → IsTrue (executor_has_place executor s slot) →
    held_count s.share < executor_max_vus executor
rates_place (ArrivalRate pre most arrivals) s slot rates place = ltb-true (held_count s.share) most place
rates_place (SharedIterations _ _) s slot rates place = absurd (search rules)
rates_place (PerVuIterations _ _) s slot rates place = absurd (search rules)
rates_place (ConstantVus _) s slot rates place = absurd (search rules)
rates_place (RampingVus _ _) s slot rates place = absurd (search rules)
rates_place (ExternallyControlled _ _ _) s slot rates place = absurd (search rules)

-- and the next item is the least open one, on whichever slot
rates_next : (executor : Executor) (s : Scenario) (slot : ℕ) → IsTrue (has_arrivals executor) → executor_next_item executor s slot ≡ least_open_item s
rates_next (ArrivalRate _ _ _) s slot rates = refl
rates_next (SharedIterations _ _) s slot rates = absurd (search rules)
rates_next (PerVuIterations _ _) s slot rates = absurd (search rules)
rates_next (ConstantVus _) s slot rates = absurd (search rules)
rates_next (RampingVus _ _) s slot rates = absurd (search rules)
rates_next (ExternallyControlled _ _ _) s slot rates = absurd (search rules)

module _ (state : RatesView) (s : Scenario) (shows : Shows state s) where
  -- a state's next item is the least open one
  pub next_shown : next_item state ≡ least_open_item s
  next_shown = ap next_item shows.kept ∙ next_item_kept s shows.rates

  pub most_shown : state.max ≡ executor_max_vus s.part.executor
  most_shown = ap (λ (v : RatesView). v.max) shows.kept

  newcomer_applies : (user slot : ℕ) → IsNewcomer s user slot → (user ≤ 1000) × (state.held < state.max)
  newcomer_applies user slot comes =
      let below = rates_place s.part.executor s slot shows.rates comes.place in
      let held = count_shown state s shows in
      let most = most_shown in
      (comes.few, omega arith)

  starter_applies : (user item : ℕ) → IsStarter s user item → next_item state ≡ Some item
  starter_applies user item starts = next_shown ∙ sym (rates_next s.part.executor s starts.0.slot shows.rates) ∙ starts.3

  player_few : (user item : ℕ) → IsPlayerOf s user item → user ≤ 1000
  player_few user item plays =
      shows.few user (any-from_In (λ (h : HeldUser). h.user == user) plays.0 (In-of plays.1) (eq-eqb plays.0.user user plays.2))

  pub told_applies : (act : Act) → MayBeTold s act → MayApply state act
  told_applies (acts.Take n user slot) told = newcomer_applies user slot told
  told_applies (acts.Grow n user slot) told = newcomer_applies user slot told
  told_applies (acts.Start n user item until) told = starter_applies user item told
  told_applies (acts.Drop n item) told = next_shown ∙ told
  told_applies (acts.Late n item) told = next_shown ∙ told
  told_applies (acts.Return n user item outcome tally) told = player_few user item told
  told_applies (acts.Release n user) told = tt
  told_applies (acts.Stop n) told = tt
  told_applies (acts.Close n) told = tt
  told_applies (acts.Control command) told = tt
