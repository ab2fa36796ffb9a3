-- Weights among the words of a command line.
use Rattle.std.specs.Prelude.{◌≡◌, ◌==◌, ◌⊎◌, ℕ, List, [], Some, map}
use Rattle.std.specs.List.{slice_split}
use Rattle.ld_words.specs.Number.{number_of}

-- the parts of a text between its commas
abbrev pub parts_of : List ℕ → List (List ℕ)
parts_of text = slice_split (λ b. b == 44) text

-- weights are an empty word, or numbers joined by commas
abbrev pub AreWeights : List ℕ → List ℕ → Type 0
AreWeights text weights = ((text ≡ []) × (weights ≡ [])) ⊎ (map number_of (parts_of text) ≡ map Some weights)
