use Rattle.std.specs.Prelude.{◌≡◌, ◌-◌, ◌^◌, replicate}
use Rattle.std.specs.List.{range_with_len}
use Rattle.std.proofs.Common.{arith, refl}
use Rattle.ld_set.specs.Words.{IsKept, numbers_of}
use Rattle.ld_set.proofs.WordLemmas.{cut_kept, ones_kept}
use Rattle.ld_set.proofs.number_set.NumberSet.full.Goals as goal
use Rattle.ld_set.proofs.number_set.NumberSet.full.Goals.{then-limit-gt0, else-limit-gt0}

filled : (c : goal.Joined-limit-gt0) →
    IsKept c.if-limit-gt0.words.items 0 c.args.limit c.args.limit
    × (numbers_of c.if-limit-gt0.words.items c.args.limit ≡ range_with_len 0 c.args.limit)
filled c =
    let small = c.ranges.limit.fits in
    let ones : c.in_ok-words.words.items ≡ replicate c.div_ceil.result (2 ^ 64 - 1) = c.in_ok-words.ensures.items_if_clones_equal (λ y same. same) in
    elim c.if-limit-gt0.branch [
      | then-limit-gt0 w ↦ rw (w.words-is, ones, c.div_ceil.ensures) (cut_kept c.args.limit (omega arith) w.if-limit-gt0.true)
      | else-limit-gt0 w ↦ rw (w.words-is, ones, c.div_ceil.ensures) (ones_kept c.args.limit (omega arith) (omega (arith, w.if-limit-gt0.false)))
    ]

pub invariant_of-result : goal.invariant_of-result
invariant_of-result c = (filled c).0

pub returns : goal.returns
returns c = rw (filled c).1 (record { all = refl })
