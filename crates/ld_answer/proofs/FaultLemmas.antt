-- Faults that are handed on as refusals.
use Rattle.std.proofs.Common.{◌≡◌, ◌≢◌, refl, sym, subst}
use Rattle.std.specs.Prelude.{Result, Ok, Err, MatchResult}
use Rattle.std.specs.Result.{IsErr, IsErrAnd}
use Rattle.ld_options.specs.declared.fault.OptionsFault.{OptionsFault}
use Rattle.ld_options.specs.declared.fault.OptionsFault.TheVariants as options
use Rattle.ld_plan.specs.declared.fault.PlanFault.{PlanFault}
use Rattle.ld_plan.specs.declared.fault.PlanFault.TheVariants as plans
use Rattle.ld_segment.specs.declared.fault.SegmentFault.{SegmentFault}
use Rattle.ld_segment.specs.declared.fault.SegmentFault.TheVariants as cuts
use Rattle.ld_answer.specs.Faults.{of_options, of_plan, of_segment}
use Rattle.ld_answer.specs.declared.refusal.Refusal.{Refusal}
use Rattle.ld_answer.specs.declared.refusal.Refusal.TheVariants.{Segment, Test, Plan, Memory}

-- what holds of the refusal that a fault is handed on as holds of the result
pub handed_on : {T : Type 0} (P : T → Type 0) (Q : Refusal → Type 0) (result : Result T Refusal) (r : Refusal) →
    IsErr result × IsErrAnd result (λ s. s ≡ r) → Q r → MatchResult result P Q
handed_on P Q (Ok x) r is q = absurd (let e = is.0 in cc)
handed_on P Q (Err s) r is q = subst Q (sym is.1) q

-- a fault that isn't want of memory stays the same
pub segment_fault : (P : Refusal → Type 0) (f : SegmentFault) → (f ≢ cuts.Memory → P (Segment f)) → of_segment f ≢ Memory → P (of_segment f)
segment_fault P (cuts.Number at fault) holds other = holds (λ e. cc)
segment_fault P (cuts.BelowZero at) holds other = holds (λ e. cc)
segment_fault P (cuts.NotLess at) holds other = holds (λ e. cc)
segment_fault P (cuts.AboveOne at) holds other = holds (λ e. cc)
segment_fault P (cuts.Gap at) holds other = holds (λ e. cc)
segment_fault P cuts.FewPoints holds other = holds (λ e. cc)
segment_fault P (cuts.PeriodTooLarge period) holds other = holds (λ e. cc)
segment_fault P cuts.TooMany holds other = holds (λ e. cc)
segment_fault P cuts.Memory holds other = absurd (other refl)

-- a fault that isn't want of memory stays the same
pub options_fault : (P : Refusal → Type 0) (f : OptionsFault) → (f ≢ options.Memory → P (Test f)) → of_options f ≢ Memory → P (of_options f)
options_fault P options.NotJson holds other = holds (λ e. cc)
options_fault P (options.Missing path) holds other = holds (λ e. cc)
options_fault P (options.WrongKind path) holds other = holds (λ e. cc)
options_fault P (options.Unknown path) holds other = holds (λ e. cc)
options_fault P (options.BadName path) holds other = holds (λ e. cc)
options_fault P (options.BadExecutor path) holds other = holds (λ e. cc)
options_fault P (options.Range path) holds other = holds (λ e. cc)
options_fault P (options.NoStages path) holds other = holds (λ e. cc)
options_fault P (options.MaxBelowPre path) holds other = holds (λ e. cc)
options_fault P (options.ScriptUnknown path) holds other = holds (λ e. cc)
options_fault P (options.Number path fault) holds other = holds (λ e. cc)
options_fault P options.Memory holds other = absurd (other refl)

-- a fault that isn't want of memory stays the same
pub plan_fault : (P : Refusal → Type 0) (f : PlanFault) → (f ≢ plans.Memory → P (Plan f)) → of_plan f ≢ Memory → P (of_plan f)
plan_fault P plans.NotInSequence holds other = holds (λ e. cc)
plan_fault P (plans.PeriodTooLarge period) holds other = holds (λ e. cc)
plan_fault P (plans.TooManyArrivals scenario count) holds other = holds (λ e. cc)
plan_fault P (plans.TooManyUsers users) holds other = holds (λ e. cc)
plan_fault P (plans.JournalTooSmall needed limit) holds other = holds (λ e. cc)
plan_fault P plans.Memory holds other = absurd (other refl)
