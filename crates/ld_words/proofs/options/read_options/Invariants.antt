use Rattle.std.proofs.Common.{◌≤◌, ◌-◌, length, map, take}
use Rattle.std.specs.Prelude.{string_bytes}
use Rattle.ld_words.specs.Options.{AreOptions}
use Rattle.ld_words.specs.OptionWords.{given_by}
use Rattle.ld_words.proofs.options.read_options.Given as goal

abbrev pub decreases-loop-place : goal.decreases-loop-place
decreases-loop-place l = length l.words - l.place

abbrev pub invariant-loop-place : goal.invariant-loop-place
invariant-loop-place l =
    (l.place ≤ length l.words)
    × AreOptions l.names (take l.place (map string_bytes l.words)) (given_by l.given.items)
