-- What the counts of settled histories sum to.
use Rattle.std.proofs.Common.{◌≡◌, ◌+◌, ◌∙◌, ℕ, List, [], ◌∷◌, Option, length, sum_by, arith, ap, sym}
use Rattle.std.specs.List.{AllZip}
use Rattle.std.specs.Option.{option_map_or}
use Rattle.std.proofs.lemmas.List.Concat.{flat_map-cons}
use Rattle.std.proofs.lemmas.List.Sums.{sum_by-cons}
use Rattle.std.proofs.lemmas.Option.{get_or_from_slice_get, slice_get_within}
use Rattle.ld_base.specs.History.{HistoryView}
use Rattle.ld_machine.specs.Plan.{Part, owned_items}
use Rattle.ld_machine.proofs.CountedLemmas.{settled_items_count, settled_starts}
use Rattle.ld_machine.proofs.ValidPlanLemmas.{rising_distinct}
use Rattle.ld_plan.specs.PlanView.{PlanView}
use Rattle.ld_plan.proofs.MadeLemmas.{plan_valid}
use Rattle.ld_summary.specs.Counts.{acts_in, acts_of, counts_of, plus}
use Rattle.ld_summary.specs.Planned.{owned_in}
use Rattle.ld_summary.specs.Summed.{IsSettledOf}
use Rattle.ld_summary.specs.declared.counts.Counts.{Counts}
use Rattle.ld_summary.proofs.ActLemmas.{plus_append}

-- ---- one history

module _ (n : ℕ) (seen : PlanView) (history : HistoryView) (is : IsSettledOf n seen history) where
  one_items : (counts_of n (acts_in history)).started + (counts_of n (acts_in history)).dropped + (counts_of n (acts_in history)).late ≡ owned_in n seen
  one_items =
      let stands = is.stands in
      let valid = (plan_valid seen is.made).parts is.part (n, slice_get_within seen.plan.parts n is.part stands, get_or_from_slice_get seen.plan.parts n is.part is.part stands) in
      settled_items_count seen.plan history.entries n is.part is.settled stands is.items (rising_distinct (owned_items is.part.executor) valid.items)
      ∙ sym (ap (λ (o : Option Part). option_map_or (λ (part : Part). length (owned_items part.executor)) o 0) stands)

  one_iterations : (counts_of n (acts_in history)).started ≡ (counts_of n (acts_in history)).done + (counts_of n (acts_in history)).interrupted
  one_iterations = settled_starts seen.plan history.entries n is.part is.legal is.settled is.stands

-- ---- all histories

-- the counts of one history more
next_counts : (n : ℕ) (history : HistoryView) (histories : List HistoryView) →
    counts_of n (acts_of (history ∷ histories)) ≡ plus (counts_of n (acts_in history)) (counts_of n (acts_of histories))
next_counts n history histories = ap (counts_of n) (flat_map-cons acts_in history histories) ∙ plus_append n (acts_in history) (acts_of histories)

pub all_items : (n : ℕ) (plans : List PlanView) (histories : List HistoryView) → AllZip (IsSettledOf n) plans histories →
    (counts_of n (acts_of histories)).started + (counts_of n (acts_of histories)).dropped + (counts_of n (acts_of histories)).late
    ≡ sum_by (owned_in n) plans
all_items n [] [] each = omega arith
all_items n [] (history ∷ histories) each = absurd each
all_items n (seen ∷ plans) [] each = absurd each
all_items n (seen ∷ plans) (history ∷ histories) each =
    let first = one_items n seen history each.0 in
    let rest = all_items n plans histories each.1 in
    let counts = next_counts n history histories in
    let started = ap (λ (c : Counts). c.started) counts in
    let dropped = ap (λ (c : Counts). c.dropped) counts in
    let late = ap (λ (c : Counts). c.late) counts in
    let planned = sum_by-cons (owned_in n) seen plans in
    omega arith

pub all_iterations : (n : ℕ) (plans : List PlanView) (histories : List HistoryView) → AllZip (IsSettledOf n) plans histories →
    (counts_of n (acts_of histories)).started ≡ (counts_of n (acts_of histories)).done + (counts_of n (acts_of histories)).interrupted
all_iterations n [] [] each = omega arith
all_iterations n [] (history ∷ histories) each = absurd each
all_iterations n (seen ∷ plans) [] each = absurd each
all_iterations n (seen ∷ plans) (history ∷ histories) each =
    let first = one_iterations n seen history each.0 in
    let rest = all_iterations n plans histories each.1 in
    let counts = next_counts n history histories in
    let started = ap (λ (c : Counts). c.started) counts in
    let done = ap (λ (c : Counts). c.done) counts in
    let interrupted = ap (λ (c : Counts). c.interrupted) counts in
    omega arith
