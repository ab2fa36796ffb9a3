-- The scenarios of a test, with their numbers.
use Rattle.std.proofs.Common.{◌≡◌, ◌<◌, ◌+◌, ◌∙◌, ◌∷◌, ◌++◌, [], ℕ, List, length, get_or, map, take, arith, ap, sym, refl, zero-add, append_assoc}
use Rattle.std.proofs.Math.Seq.{take-length}
use Rattle.std.proofs.lemmas.List.FromFn.{get_or-enumerate_from, length-enumerate_from}
use Rattle.std.proofs.lemmas.Option.{get_or_from_slice_get, slice_get-get_or, slice_get_within}
use Rattle.std.specs.List.{concat, enumerate_from}
use Rattle.std.specs.Option.{IsSomeAnd}
use Rattle.std.specs.Prelude.{Err, None, Ok, OnErr, Option, Result, Some, slice_get, sum_by}
use Rattle.ld_base.specs.History.{HistoryView}
use Rattle.ld_line.specs.Line.{Grows}
use Rattle.ld_line.proofs.LineLemmas.{one_added}
use Rattle.ld_plan.specs.PlanView.{PlanView, Whole}
use Rattle.ld_summary.specs.Counts.{acts_of, counts_of}
use Rattle.ld_summary.specs.Planned.{owned_in}
use Rattle.ld_summary.specs.Summary.{line_of, scenario_line, scenario_lines, wholes_of}
use Rattle.ld_summary.specs.declared.counts.Counts.{Counts}

-- the scenarios are those of the first plan
pub first_wholes : (plans : List PlanView) (first : PlanView) → slice_get plans 0 ≡ Some first → wholes_of plans ≡ first.wholes
first_wholes [] first at = absurd (let e : None ≡ Some first = at in cc)
first_wholes (seen ∷ plans) first at = ap (λ (v : PlanView). v.wholes) (let e : seen ≡ first = cc in e)

-- an element stands beside its number
pub numbered : {X : Type 0} (xs : List X) (n : ℕ) (x : X) → slice_get xs n ≡ Some x → slice_get (enumerate_from 0 xs) n ≡ Some (n, x)
numbered xs n x at =
    let below : n < length xs = slice_get_within xs n x at in
    let inside : n < length (enumerate_from 0 xs) = omega (arith, length-enumerate_from 0 xs) in
    slice_get-get_or (enumerate_from 0 xs) n (0, x) inside
    ∙ ap Some (get_or-enumerate_from 0 xs n (0, x) below)
    ∙ ap (λ k. Some (k, get_or xs n x)) (zero-add n)
    ∙ ap (λ y. Some (n, y)) (get_or_from_slice_get xs n x x at)

-- all are taken
pub all_numbered : {X : Type 0} (xs : List X) (n : ℕ) → n ≡ length xs → take n (enumerate_from 0 xs) ≡ enumerate_from 0 xs
all_numbered xs n is =
    ap (λ k. take k (enumerate_from 0 xs)) (is ∙ sym (length-enumerate_from 0 xs)) ∙ take-length (enumerate_from 0 xs)

-- the scenario that has this name
named : (o : Option Whole) (name : List ℕ) → IsSomeAnd o (λ (w : Whole). name ≡ w.name) → (w : Whole) × (o ≡ Some w) × (name ≡ w.name)
named None name is = absurd is
named (Some w) name is = (w, refl, is)

-- one scenario more
pub scenario_added : (plans : List PlanView) (histories : List HistoryView) (first : PlanView) (n : ℕ) (a b c name : List ℕ) (planned : ℕ)
    (counts : Counts) →
    slice_get plans 0 ≡ Some first → IsSomeAnd (slice_get first.wholes n) (λ (w : Whole). name ≡ w.name) →
    planned ≡ sum_by (owned_in n) plans → counts ≡ counts_of n (acts_of histories) →
    b ≡ a ++ concat (map (line_of plans histories) (take n (enumerate_from 0 (wholes_of plans)))) →
    c ≡ b ++ scenario_line name planned counts →
    c ≡ a ++ concat (map (line_of plans histories) (take (n + 1) (enumerate_from 0 (wholes_of plans))))
scenario_added plans histories first n a b c name planned counts at_first has_name planned_is counts_are so_far is =
    let found = named (slice_get first.wholes n) name has_name in
    let whole : Whole = found.0 in
    let at : slice_get (enumerate_from 0 (wholes_of plans)) n ≡ Some (n, whole) =
    numbered (wholes_of plans) n whole (ap (λ (ws : List Whole). slice_get ws n) (first_wholes plans first at_first) ∙ found.1) in
    let line : scenario_line name planned counts ≡ line_of plans histories (n, whole) =
    ap (λ m. scenario_line m planned counts) found.2
    ∙ ap (λ k. scenario_line whole.name k counts) planned_is
    ∙ ap (λ (k : Counts). scenario_line whole.name (sum_by (owned_in n) plans) k) counts_are in
    one_added (line_of plans histories) a b c (enumerate_from 0 (wholes_of plans)) n (n, whole) at so_far (is ∙ ap (λ t. b ++ t) line)

-- all scenarios are there
pub all_scenarios : (plans : List PlanView) (histories : List HistoryView) (first : PlanView) (n : ℕ) (a b : List ℕ) →
    slice_get plans 0 ≡ Some first → n ≡ length first.wholes →
    b ≡ a ++ concat (map (line_of plans histories) (take n (enumerate_from 0 (wholes_of plans)))) →
    b ≡ a ++ concat (scenario_lines plans histories)
all_scenarios plans histories first n a b at_first count so_far =
    so_far
    ∙ ap (λ (ps : List (ℕ × Whole)). a ++ concat (map (line_of plans histories) ps))
    (all_numbered (wholes_of plans) n (count ∙ ap (λ (ws : List Whole). length ws) (sym (first_wholes plans first at_first))))

-- what grows behind a front that has grown has grown
pub grows_more : (a b c front : List ℕ) → b ≡ a ++ front → Grows b c → Grows a c
grows_more a b c front is grown = (front ++ grown.0, grown.1 ∙ ap (λ (x : List ℕ). x ++ grown.0) is ∙ append_assoc a front grown.0)

-- what holds holds behind an error
pub on_err : {A E : Type 0} {P : Type 0} (result : Result A E) → P → OnErr result P
on_err (Ok x) holds = tt
on_err (Err e) holds = holds
