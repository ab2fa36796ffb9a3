use Rattle.std.proofs.Common.{◌≡◌, ◌++◌, map, take}
use Rattle.ld_line.specs.Line.{joined, word_text}
use Rattle.ld_line.proofs.word.put_words.Given as goal

abbrev pub invariant-loop-place : goal.invariant-loop-place
invariant-loop-place l = l.into.items ≡ l.fn.into.items ++ joined (map word_text (take l.place l.words))
