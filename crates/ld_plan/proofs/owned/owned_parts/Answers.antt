-- The first scenario with too many arrivals is refused; and where there is none, each has its part.
use Rattle.std.proofs.Common.{◌≡◌, ◌<◌, ◌≤◌, length, get_or, subst}
use Rattle.std.specs.Prelude.{List}
use Rattle.ld_options.specs.declared.scenario.Scenario.{Scenario}
use Rattle.ld_plan.proofs.PartsLemmas.{all_made, handed_on, made_at, many_at}
use Rattle.ld_plan.proofs.owned.owned_parts.Goals as goal

pub loop-number-init : goal.loop-number-init
loop-number-init c = rw c.new-parts.ensures.items (record { owned = tt; few = tt })

pub returns-in_err-part-clause-refused : goal.returns-in_err-part-clause-refused
returns-in_err-part-clause-refused c =
    let same = c.as_slice-scenario-items.ensures.list in
    let n = c.loop-number.number in
    let s = c.scenario-item.result in
    handed_on _ _ _ c.from_residual.ensures
    (λ other. many_at c.args.options.now.scenarios n s c.in_err-part.field-0.0
    (subst (λ (xs : List Scenario). n < length xs) same c.loop-number-test.true)
    (subst (λ (xs : List Scenario). s ≡ get_or xs n s) same c.scenario-item.is)
    c.loop-number.invariant.few (c.in_err-part.ensures.refused other))

pub loop-number-preserved : goal.loop-number-preserved
loop-number-preserved c =
    let same = c.as_slice-scenario-items.ensures.list in
    let n = c.loop-number.number in
    let s = c.scenario-item.result in
    rw c.in-Ok.ensures.items
    (made_at c.args.options.now c.args.positions.now c.args.position c.args.options.now.scenarios n s c.loop-number.parts.items c.in_ok-part.part
    (subst (λ (xs : List Scenario). n < length xs) same c.loop-number-test.true)
    (subst (λ (xs : List Scenario). s ≡ get_or xs n s) same c.scenario-item.is)
    c.loop-number.invariant (rw c.sample_room-room.ensures at c.in_ok-part.ensures.part) c.in_ok-part.ensures.few)

pub returns-clause-owned : goal.returns-clause-owned
returns-clause-owned c =
    let same = c.as_slice-scenario-items.ensures.list in
    let n = c.loop-number.number in
    (all_made c.args.options.now c.args.positions.now c.args.position c.args.options.now.scenarios n c.loop-number.parts.items
    (subst (λ (xs : List Scenario). length xs ≤ n) same c.loop-number-test.false) c.loop-number.invariant).owned

pub returns-clause-few : goal.returns-clause-few
returns-clause-few c =
    let same = c.as_slice-scenario-items.ensures.list in
    let n = c.loop-number.number in
    (all_made c.args.options.now c.args.positions.now c.args.position c.args.options.now.scenarios n c.loop-number.parts.items
    (subst (λ (xs : List Scenario). length xs ≤ n) same c.loop-number-test.false) c.loop-number.invariant).few
