use Rattle.std.proofs.Common.{◌+◌, ◌-◌, ◌*◌, ◌∙◌, arith, ap, sym, get_or}
use Rattle.ld_wire.proofs.DigitLemmas.{digit_above, front_small, value_more}
use Rattle.ld_wire.proofs.length.value_of.Goals as goal

pub overflow_mul-value : goal.overflow_mul-value
overflow_mul-value c =
    let front = front_small c.args.digits.now c.loop-digit.digit-index c.requires c.loop-digit-test.true in
    let is = c.loop-digit.invariant in
    omega arith

pub overflow_sub-value : goal.overflow_sub-value
overflow_sub-value c = digit_above c.args.digits.now c.loop-digit.digit-index c.requires c.loop-digit-test.true

pub overflow_add-value : goal.overflow_add-value
overflow_add-value c =
    let front = front_small c.args.digits.now c.loop-digit.digit-index c.requires c.loop-digit-test.true in
    let is = c.loop-digit.invariant in
    omega arith

pub loop-digit-preserved : goal.loop-digit-preserved
loop-digit-preserved c =
    ap (λ v. v * 10 + (get_or c.args.digits.now c.loop-digit.digit-index 0 - 48)) c.loop-digit.invariant
    ∙ sym (value_more c.args.digits.now c.loop-digit.digit-index c.requires c.loop-digit-test.true)
