use Rattle.std.specs.Prelude.{◌≡◌, replicate}
use Rattle.std.proofs.Common.{arith, refl}
use Rattle.ld_set.proofs.WordLemmas.{zeros_kept}
use Rattle.ld_set.proofs.number_set.NumberSet.new.Goals as goal

pub invariant_of-result : goal.invariant_of-result
invariant_of-result c =
    let zeros : c.in_ok-words.words.items ≡ replicate c.div_ceil-from.result 0 = c.in_ok-words.ensures.items_if_clones_equal (λ y same. same) in
    rw (zeros, c.div_ceil-from.ensures) (zeros_kept c.args.limit (omega (arith, c.ranges.limit.fits))).0

pub returns : goal.returns
returns c =
    let zeros : c.in_ok-words.words.items ≡ replicate c.div_ceil-from.result 0 = c.in_ok-words.ensures.items_if_clones_equal (λ y same. same) in
    rw (zeros, c.div_ceil-from.ensures, (zeros_kept c.args.limit (omega (arith, c.ranges.limit.fits))).1) (record { empty = refl })
