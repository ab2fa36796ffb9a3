-- Spans of time in a document, as scripts have them.
use Rattle.std.specs.Prelude.{ℕ, List, Option}
use Rattle.ld_json.specs.Node.{NodeView}
use Rattle.ld_options.specs.Faults.{OfScripts}
use Rattle.ld_options.specs.Ranges.{longest, longest_unit}
use Rattle.ld_options.specs.declared.fault.OptionsFault.{OptionsFault}
use Rattle.ld_script.specs.Times as times
pub use Rattle.ld_script.specs.Times.{IsSpan, IsTime, span_text}
use Rattle.ld_script.specs.declared.range.Range.{Range}

-- the ranges of units of time, and of durations that aren't empty
abbrev pub units : Range
units = record { least = 1; most = longest_unit }

abbrev pub durations : Range
durations = record { least = 1; most = longest }

-- the range of begins and of graces
abbrev pub spans : Range
spans = record { least = 0; most = longest }

-- the field's text is refused, or else its span of time
abbrev pub RefusesTime : Range → Option (List ℕ) → NodeView → List ℕ → OptionsFault → Type 0
RefusesTime range default node name = OfScripts (times.RefusesTime range default node name)
