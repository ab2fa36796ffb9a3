-- Spans of time in a document: texts of durations, or whole numbers of milliseconds.
use Rattle.std.specs.Prelude.{◌≡◌, ◌⊎◌, ℕ, List, Option, Ok, decimal, option_map}
use Rattle.std.specs.Option.{option_or}
use Rattle.ld_json.specs.Node.{NodeView, as_whole}
use Rattle.ld_json.specs.Pointer.{member_path}
use Rattle.ld_num.specs.Duration.{HaveLength, IsDuration, IsDurationRefusal, Term}
use Rattle.ld_num.specs.declared.fault.NumFault.{NumFault}
use Rattle.ld_script.specs.Fault.{Refused}
use Rattle.ld_script.specs.Fields.{given}
use Rattle.ld_script.specs.Ranges.{IsWithin, longest}
use Rattle.ld_script.specs.declared.fault.ScriptFault.{ScriptFault}
use Rattle.ld_script.specs.declared.fault.ScriptFault.TheVariants as faults
use Rattle.ld_script.specs.declared.range.Range.{Range}
use Rattle.serde_json.specs.Data.{Data}
use Rattle.serde_json.specs.Find.{as_str}

-- the range of spans of time
abbrev pub spans : Range
spans = record { least = 0; most = longest }

-- the text of a span: a text, or the digits of a whole number
abbrev pub span_text : Data → Option (List ℕ)
span_text d = option_or (as_str d) (option_map decimal (as_whole d))

-- a text is a duration of so many nanoseconds
abbrev pub IsSpan : List ℕ → ℕ → Type 0
IsSpan text n = (terms : List Term) × IsDuration text terms × HaveLength terms n

-- the field's span of time, in its range
pub record IsTime (range : Range) (default : Option (List ℕ)) (node : NodeView) (name : List ℕ) (n : ℕ) : Type 0 where
  pub text : List ℕ
  pub holds : given span_text default node name ≡ Ok text
  pub span : IsSpan text n
  pub within : IsWithin range.least range.most n

-- a text is refused as no duration, or else for a duration that is out of range
abbrev pub RefusesSpan : Range → List ℕ → List ℕ → ScriptFault → Type 0
RefusesSpan range path text fault =
    ((cause : NumFault) × IsDurationRefusal text cause × (fault ≡ faults.Number path cause))
    ⊎ ((n : ℕ) × IsSpan text n × (IsWithin range.least range.most n → ⊥) × (fault ≡ faults.Range path))

-- the field's text is refused, or else its span of time
pub record RefusesTime (range : Range) (default : Option (List ℕ)) (node : NodeView) (name : List ℕ) (fault : ScriptFault) : Type 0 where
  pub refused :
      Refused (given span_text default node name) fault
      ⊎ ((text : List ℕ) × (given span_text default node name ≡ Ok text) × RefusesSpan range (member_path node.path name) text fault)
