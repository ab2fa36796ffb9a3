use Rattle.std.proofs.Common.{◌+◌, ◌-◌, ◌*◌, ◌∙◌, arith, ap, sym, get_or}
use Rattle.std.proofs.Common.{◌≤◌}
use Rattle.std.proofs.lemmas.Str.Parse.{digits_value-take-le}
use Rattle.ld_num.proofs.DigitLemmas.{digit_above, front_small, value_more, value_small}
use Rattle.ld_num.proofs.reading.value_of.Goals as goal

pub overflow_mul-value : goal.overflow_mul-value
overflow_mul-value c =
    let front = front_small c.args.digits.now c.loop-digit.digit-index c.requires.digits c.requires.short in
    let is = c.loop-digit.invariant in
    omega arith

pub overflow_sub-value : goal.overflow_sub-value
overflow_sub-value c = digit_above c.args.digits.now c.loop-digit.digit-index c.requires.digits c.loop-digit-test.true

pub overflow_add-value : goal.overflow_add-value
overflow_add-value c =
    let front = front_small c.args.digits.now c.loop-digit.digit-index c.requires.digits c.requires.short in
    let inside = c.type_inv.digits c.loop-digit.digit-index in
    let is = c.loop-digit.invariant in
    omega arith

pub loop-digit-preserved : goal.loop-digit-preserved
loop-digit-preserved c =
    ap (λ v. v * 10 + (get_or c.args.digits.now c.loop-digit.digit-index 0 - 48)) c.loop-digit.invariant
    ∙ sym (value_more c.args.digits.now c.loop-digit.digit-index c.requires.digits c.loop-digit-test.true)

pub returns-clause-small : goal.returns-clause-small
returns-clause-small c =
    let front = front_small c.args.digits.now c.loop-digit.digit-index c.requires.digits c.requires.short in
    let is = c.loop-digit.invariant in
    omega arith

pub returns-clause-smaller : goal.returns-clause-smaller
returns-clause-smaller c = λ short.
    let whole = value_small c.args.digits.now 9 c.requires.digits short in
    let front = digits_value-take-le 10 c.args.digits.now c.loop-digit.digit-index (let one : 1 ≤ 10 = omega arith in one) in
    let is = c.loop-digit.invariant in
    omega arith
