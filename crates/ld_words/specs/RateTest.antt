-- The test that the options of `rehearse` stand for.
use Rattle.std.specs.Prelude.{◌≡◌, ℕ, List, ◌++◌, codes, decimal}

-- a duration as a test has it
abbrev pub duration_text : ℕ → List ℕ
duration_text nanoseconds = decimal nanoseconds ++ codes "ns"

-- one scenario `main` at a constant arrival rate, with a script that has no steps
abbrev pub rate_test : ℕ → ℕ → ℕ → ℕ → ℕ → List ℕ
rate_test rate unit duration pre max =
    codes "{\"options\":{\"scenarios\":{\"main\":{\"executor\":\"constant-arrival-rate\""
    ++ codes ",\"rate\":" ++ decimal rate
    ++ codes ",\"timeUnit\":\"" ++ duration_text unit
    ++ codes "\",\"duration\":\"" ++ duration_text duration
    ++ codes "\",\"preAllocatedVUs\":" ++ decimal pre
    ++ codes ",\"maxVUs\":" ++ decimal max
    ++ codes "}}},\"scripts\":{\"default\":[]}}"

-- a text with more behind it
abbrev pub IsBehind : List ℕ → List ℕ → Type 0
IsBehind old new = (more : List ℕ) × (new ≡ old ++ more)
