-- Parts that are made one behind the other, and the first scenario that has too many arrivals.
use Rattle.std.proofs.Common.{◌≡◌, ◌<◌, ◌≤◌, ◌+◌, ◌∙◌, ℕ, List, [], ◌∷◌, ◌++◌, length, take, get_or, ap, refl, sym, subst}
use Rattle.std.specs.Prelude.{Err, IfErr, IsSomeAnd, Ok, Option, Result, slice_get}
use Rattle.std.specs.Result.{IsErr, IsErrAnd}
use Rattle.std.specs.List.{AllZip}
use Rattle.std.proofs.lemmas.List.{take_all, take_more}
use Rattle.std.proofs.lemmas.Option.{slice_get_read}
use Rattle.ld_stripe.specs.Striping.{Striping}
use Rattle.ld_arrival.specs.Limits.{most_arrivals}
use Rattle.ld_options.specs.declared.options.Options.{Options}
use Rattle.ld_options.specs.declared.scenario.Scenario.{Scenario}
use Rattle.ld_options.proofs.ScenarioLemmas.{each_push, zip_push}
use Rattle.ld_plan.specs.Executor.{timetable_of}
use Rattle.ld_plan.specs.IsPlanOf.{IsPartOf, sample_room}
use Rattle.ld_plan.specs.PartView.{PartView}
use Rattle.ld_plan.specs.PlanView.{arrival_count}
use Rattle.ld_plan.specs.PlanFault.{AreFew, HasTooMany, IsFirstMany, IsManyOf}
use Rattle.ld_plan.specs.declared.fault.PlanFault.{PlanFault}
use Rattle.ld_plan.specs.declared.fault.PlanFault.TheVariants.{NotInSequence, PeriodTooLarge, TooManyArrivals, TooManyUsers, JournalTooSmall, Memory}

-- a fault that is handed on
pub handed_on : {T : Type 0} (Q : PlanFault → Type 0) (result : Result T PlanFault) (fault : PlanFault) →
    IsErr result × IsErrAnd result (λ f. f ≡ fault) → Q fault → IfErr result Q
handed_on Q (Ok x) fault is q = tt
handed_on Q (Err f) fault is q = subst Q (sym is.1) q

-- what is known of the scenarios whose parts were made so far
pub record MadeSoFar (options : Options) (striping : Striping) (j : ℕ) (done : List Scenario) (views : List PartView) : Type 0 where
  pub owned : AllZip (λ (s : Scenario). IsPartOf (sample_room options.scripts.scripts s.script) striping j s) done views
  pub few : AreFew done

-- one part more is made, of the scenario that stands at this place
pub made_at : (options : Options) (striping : Striping) (j : ℕ) (scenarios : List Scenario) (i : ℕ) (s : Scenario)
    (views : List PartView) (view : PartView) → i < length scenarios → s ≡ get_or scenarios i s → MadeSoFar options striping j (take i scenarios) views →
    IsPartOf (sample_room options.scripts.scripts s.script) striping j s view → arrival_count (timetable_of s.executor) ≤ most_arrivals →
    MadeSoFar options striping j (take (i + 1) scenarios) (views ++ view ∷ [])
made_at options striping j scenarios i s views view inside is so_far part few =
    subst (λ (done : List Scenario). MadeSoFar options striping j done (views ++ view ∷ []))
    (sym (take_more scenarios i s inside ∙ ap (λ (t : Scenario). take i scenarios ++ t ∷ []) (sym is)))
    (record {
      owned = zip_push (λ (t : Scenario). IsPartOf (sample_room options.scripts.scripts t.script) striping j t)
          (take i scenarios) views s view so_far.owned part;
      few = each_push (λ (t : Scenario). arrival_count (timetable_of t.executor) ≤ most_arrivals) (take i scenarios) s so_far.few few;
    })

-- all are made
pub all_made : (options : Options) (striping : Striping) (j : ℕ) (scenarios : List Scenario) (i : ℕ) (views : List PartView) →
    length scenarios ≤ i → MadeSoFar options striping j (take i scenarios) views → MadeSoFar options striping j scenarios views
all_made options striping j scenarios i views past so_far =
    subst (λ (done : List Scenario). MadeSoFar options striping j done views) (take_all i scenarios past) so_far

-- the scenario at this place has too many arrivals, and those before it have not
pub many_at : (scenarios : List Scenario) (i : ℕ) (s : Scenario) (fault : PlanFault) → i < length scenarios → s ≡ get_or scenarios i s →
    AreFew (take i scenarios) → IsManyOf (timetable_of s.executor) i fault → IsFirstMany scenarios fault
many_at scenarios i s (TooManyArrivals n told) inside is few many =
    let there = slice_get_read scenarios (length scenarios) i s refl inside is in
    record {
      before = subst (λ (k : ℕ). AreFew (take k scenarios)) (sym many.0) few;
      here =
          subst (λ (k : ℕ). IsSomeAnd (slice_get scenarios k) (λ (t : Scenario). HasTooMany (timetable_of t.executor) told)) (sym many.0)
          (subst (λ (o : Option Scenario). IsSomeAnd o (λ (t : Scenario). HasTooMany (timetable_of t.executor) told)) (sym there) many.1);
    }
many_at scenarios i s NotInSequence inside is few many = absurd many
many_at scenarios i s (PeriodTooLarge told) inside is few many = absurd many
many_at scenarios i s (TooManyUsers told) inside is few many = absurd many
many_at scenarios i s (JournalTooSmall needed limit) inside is few many = absurd many
many_at scenarios i s Memory inside is few many = absurd many
