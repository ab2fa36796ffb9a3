-- The fields of an object, as scripts have them.
use Rattle.std.specs.Prelude.{ℕ, List, Option, Result}
use Rattle.ld_json.specs.Node.{NodeView}
use Rattle.ld_options.specs.Faults.{of_field}
use Rattle.ld_options.specs.declared.fault.OptionsFault.{OptionsFault}
use Rattle.ld_script.specs.Fields as fields
use Rattle.ld_script.specs.declared.range.Range.{Range}
use Rattle.serde_json.specs.Data.{Data}

-- what the field of this name holds; without a default the member is needed
abbrev pub given : {A : Type 0} → (Data → Option A) → Option A → NodeView → List ℕ → Result A OptionsFault
given kind default node name = of_field (fields.given kind default node name)

-- a number that is in its range
abbrev pub ranged : Range → List ℕ → ℕ → Result ℕ OptionsFault
ranged range path n = of_field (fields.ranged range path n)

-- the whole number of a field, in its range
abbrev pub number : Range → Option ℕ → NodeView → List ℕ → Result ℕ OptionsFault
number range default node name = of_field (fields.number range default node name)
