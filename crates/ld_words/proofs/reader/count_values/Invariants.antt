use Rattle.std.proofs.Common.{◌≤◌, ◌-◌, length, map, take}
use Rattle.std.specs.Prelude.{string_bytes}
use Rattle.ld_words.specs.Forms.{AreValues}
use Rattle.ld_words.proofs.reader.count_values.Given as goal

abbrev pub decreases-loop-count : goal.decreases-loop-count
decreases-loop-count l = length l.kinds - l.count

abbrev pub invariant-loop-count : goal.invariant-loop-count
invariant-loop-count l =
    (l.count ≤ length l.kinds)
    × (l.count ≤ length l.words)
    × AreValues (take l.count l.kinds) (take l.count (map string_bytes l.words))
