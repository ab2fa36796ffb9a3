use Rattle.std.proofs.Common.{◌≡◌, ℕ, List, Bor, map, take}
use Rattle.std.specs.Prelude.{Some}
use Rattle.ld_words.specs.Number.{number_of}
use Rattle.ld_words.proofs.weights.read_numbers.Given as goal

abbrev pub invariant-loop-text : goal.invariant-loop-text
invariant-loop-text l =
    map number_of (take l.text-index (map (λ (text : Bor (List ℕ)). text.now) l.texts)) ≡ map Some l.numbers.items
