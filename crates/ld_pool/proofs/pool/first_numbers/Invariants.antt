use Rattle.std.specs.Prelude.{◌≡◌, ◌+◌}
use Rattle.std.specs.List.{range_with_len}
use Rattle.ld_pool.proofs.pool.first_numbers.Given as goal

abbrev pub invariant-loop-before : goal.invariant-loop-before
invariant-loop-before l = (l.numbers.numbers ≡ range_with_len 1 l.before) × (l.numbers.limit ≡ l.limit + 1)
