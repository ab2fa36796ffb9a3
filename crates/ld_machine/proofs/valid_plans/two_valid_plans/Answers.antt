use Rattle.std.proofs.Common.{rules, ◌≡◌, ◌≤◌, ℕ, Bool, true, false, cond, List, [], ◌∷◌, length, map, arith, ap, refl}
use Rattle.std.specs.Prelude.{◌-◌}
use Rattle.std.specs.List.{list_any}
use Rattle.std.proofs.lemmas.List.Sums.{count_by-le-length}
use Rattle.ld_machine.specs.Plan.{Executor, Part, RampingSlot, RampingVus, hard_moment}
use Rattle.ld_machine.specs.Requirement.{executor_extra, executor_need, extra, is_before, need, needs_user}
use Rattle.ld_machine.specs.FurtherExamples.{ramping_slots}
use Rattle.ld_machine.proofs.valid_plans.two_valid_plans.Goals as goal

-- a part of ramping users plans no more users than it has slots, and adds none
ramping_need : (part : Part) (grace t : ℕ) (slots : List RampingSlot) → part.executor ≡ RampingVus grace slots → need (part ∷ []) t ≤ length slots
ramping_need part grace t slots is =
    let one = ap (λ (e : Executor). executor_need e part t) is in
    omega (arith, count_by-le-length (λ (r : RampingSlot). list_any (needs_user part grace t) r.intervals) slots)

nothing_added : (b : Bool) (n : ℕ) → cond b (n - n) 0 ≡ 0
nothing_added true n = omega arith
nothing_added false n = refl

ramping_extra : (part : Part) (grace t : ℕ) (slots : List RampingSlot) → part.executor ≡ RampingVus grace slots → extra (part ∷ []) t ≡ 0
ramping_extra part grace t slots is =
    let owned = length (map (λ (r : RampingSlot). r.slot) slots) in
    let one : executor_extra part.executor part t ≡ cond (is_before part (hard_moment part) t) (owned - owned) 0 =
    ap (λ (e : Executor). executor_extra e part t) is in
    let none = nothing_added (is_before part (hard_moment part) t) owned in
    omega arith

abbrev ramping_part : Part
ramping_part = record { begin = 0; end = 20000000000; grace = 30000000000; sample_room = 0; whole_items = 0; executor = RampingVus 30000000000 ramping_slots }

pub returns-clause-ramping : goal.returns-clause-ramping
returns-clause-ramping c = record {
  parts = λ part at. search rules;
  users = record {
    planned_is = record {
      moment = 10000000000;
      reached = refl;
      at_most = λ t. ramping_need ramping_part 30000000000 t ramping_slots refl;
    };
    limit_is = record {
      moment = 10000000000;
      reached = refl;
      at_most = λ t.
          let planned = ramping_need ramping_part 30000000000 t ramping_slots refl in
          let added = ramping_extra ramping_part 30000000000 t ramping_slots refl in
          omega arith;
    };
  };
}
