-- What a state of one executor shows.
use Rattle.std.proofs.Common.{◌≡◌, ◌∙◌, ℕ, Option, Some, IsTrue, ap, refl, slice_get, subst, sym}
use Rattle.std.specs.Prelude.{IsSomeAnd}
use Rattle.ld_base.specs.declared.act.Act.{Act}
use Rattle.ld_machine.specs.Plan.{Executor, Part, Plan, owned_items}
use Rattle.ld_machine.specs.Scenario.{Scenario}
use Rattle.ld_machine.specs.Settled.{is_distinct}
use Rattle.ld_machine.specs.State.{opening_share}
use Rattle.ld_iters.specs.Shows as iterations
use Rattle.ld_iters.specs.declared.iters_state.ItersState.{ItersState}
use Rattle.ld_plan.specs.OwnedPart.{executor_of}
use Rattle.ld_plan.specs.Row.{row_of}
use Rattle.ld_plan.specs.declared.owned_part.OwnedPart.{OwnedPart}
use Rattle.ld_plan.specs.declared.owned_part.OwnedPart.TheVariants as plans
use Rattle.ld_plan.specs.declared.row.Row.{Row}
use Rattle.ld_rates.specs.Applies.{MayApply}
use Rattle.ld_rates.specs.RatesView.{RatesView}
use Rattle.ld_rates.specs.Shows as rates
use Rattle.ld_rates.specs.declared.rates_part.RatesPart.{RatesPart}
use Rattle.ld_rates.proofs.TellLemmas.{told_applies}
use Rattle.ld_executor.specs.Shows.{MayTell, Shows, ShowsOpening}
use Rattle.ld_executor.specs.declared.executor_state.ExecutorState.{ExecutorState}
use Rattle.ld_executor.specs.declared.executor_state.ExecutorState.TheVariants.{Iters, Rates}

-- a scenario at an arrival rate
pub at_rate : (state : ExecutorState) (rate : RatesView) (s : Scenario) → state ≡ Rates rate → Shows state s → rates.Shows rate s
at_rate state rate s is shown = subst (λ (e : ExecutorState). Shows e s) is shown

-- a scenario whose users begin one iteration after another
pub at_iterations : (state : ExecutorState) (iters : ItersState) (s : Scenario) → state ≡ Iters iters → Shows state s → iterations.Shows iters s
at_iterations state iters s is shown = subst (λ (e : ExecutorState). Shows e s) is shown

-- what a state may be told, its executor's state may be
pub may_told : (state : ExecutorState) (rate : RatesView) (act : Act) → state ≡ Rates rate → MayTell state act → MayApply rate act
may_told state rate act is may = told_applies rate may.0 (at_rate state rate may.0 is may.1) act may.2

-- ---- the opening

at_part : (o : Option Part) (part : Part) (P : Part → Type 0) → o ≡ Some part → IsSomeAnd o P → P part
at_part o part P is holds = subst (λ (q : Option Part). IsSomeAnd q P) is holds

-- a state that was made of what a plan tells of a scenario shows the scenario at its opening
pub opened : (plan : Plan) (n : ℕ) (row : Row) (grace : ℕ) (owned : OwnedPart) (given : RatesPart) (new : RatesView) → rates.ShowsOpening given new →
    IsSomeAnd (slice_get plan.parts n) (λ part. row ≡ row_of part) → IsSomeAnd (slice_get plan.parts n) (λ part. grace ≡ part.grace) →
    IsSomeAnd (slice_get plan.parts n) (λ part. executor_of owned ≡ part.executor) → IsTrue (is_distinct (owned_items (executor_of owned))) →
    owned ≡ plans.Rates given.pre given.max given.ticker → given.begin ≡ row.begin → given.end ≡ row.end → given.grace ≡ grace →
    ShowsOpening plan n (Rates new)
opened plan n row grace owned given new opens row_is grace_is owned_is distinct own begin end given_grace part controls at =
    let r : row ≡ row_of part = at_part (slice_get plan.parts n) part (λ part. row ≡ row_of part) at row_is in
    let g : grace ≡ part.grace = at_part (slice_get plan.parts n) part (λ part. grace ≡ part.grace) at grace_is in
    let e : executor_of owned ≡ part.executor = at_part (slice_get plan.parts n) part (λ part. executor_of owned ≡ part.executor) at owned_is in
    opens (record { part = part; share = opening_share; controls = controls }) refl
    (record {
      begin = sym (begin ∙ ap (λ (x : Row). x.begin) r);
      end = sym (end ∙ ap (λ (x : Row). x.end) r);
      grace = sym (given_grace ∙ g);
      executor = sym e ∙ ap executor_of own;
    })
    (subst (λ (x : Executor). IsTrue (is_distinct (owned_items x))) e distinct)
