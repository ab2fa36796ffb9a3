use Rattle.std.specs.Prelude.{◌≡◌, ◌+◌, suc}
use Rattle.std.specs.List.{range_with_len}
use Rattle.std.proofs.Common.{arith, ap, ◌∙◌}
use Rattle.ld_set.specs.SetView.{with_number}
use Rattle.ld_pool.proofs.FreeLemmas.{number_behind}
use Rattle.ld_pool.proofs.pool.first_numbers.Goals as goal

pub loop-before-preserved : goal.loop-before-preserved
loop-before-preserved c =
    let behind : c.loop-before.before + 1 ≡ 1 + c.loop-before.before = omega arith in
    let next : suc c.loop-before.before ≡ c.loop-before.before + 1 = omega arith in (
      c.insert.ensures.numbers
          ∙ ap (with_number (c.loop-before.before + 1)) c.loop-before.invariant.0
          ∙ ap (λ n. with_number n (range_with_len 1 c.loop-before.before)) behind
          ∙ number_behind 1 c.loop-before.before
          ∙ ap (range_with_len 1) next,
      c.insert.ensures.limit ∙ c.loop-before.invariant.1,
    )
