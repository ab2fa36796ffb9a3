-- The faults of documents, as faults of options.
use Rattle.std.specs.Prelude.{◌≡◌, Result, Ok, Err, IfOk, IfErr}
use Rattle.ld_json.specs.declared.fault.JsonFault.{JsonFault}
use Rattle.ld_json.specs.declared.fault.JsonFault.TheVariants as json
use Rattle.ld_options.specs.declared.fault.OptionsFault.{OptionsFault}
use Rattle.ld_options.specs.declared.fault.OptionsFault.TheVariants.{NotJson, Missing, WrongKind, Unknown, BadName, Range, Number, Memory}
use Rattle.ld_script.specs.declared.fault.ScriptFault.{ScriptFault}
use Rattle.ld_script.specs.declared.fault.ScriptFault.TheVariants as script

-- the result is the answer, unless memory is missing
abbrev pub Answers : {A : Type 0} → Result A OptionsFault → Result A OptionsFault → Type 0
Answers result answer = IfOk result (λ x. answer ≡ Ok x) × IfErr result (λ fault. (fault ≡ Memory → ⊥) → answer ≡ Err fault)

-- this answer is refused so
abbrev pub Refused : {A : Type 0} → Result A OptionsFault → OptionsFault → Type 0
Refused answer fault = answer ≡ Err fault

-- the same fault of a document
abbrev pub of_json : JsonFault → OptionsFault
of_json json.NotJson = NotJson
of_json (json.Missing path) = Missing path
of_json (json.WrongKind path) = WrongKind path
of_json (json.Unknown path) = Unknown path
of_json json.Memory = Memory

-- the same fault of scripts
abbrev pub of_script : ScriptFault → OptionsFault
of_script script.NotJson = NotJson
of_script (script.Missing path) = Missing path
of_script (script.WrongKind path) = WrongKind path
of_script (script.Unknown path) = Unknown path
of_script (script.BadName path) = BadName path
of_script (script.Range path) = Range path
of_script (script.Number path cause) = Number path cause
of_script script.Memory = Memory

-- the same answer of a node
abbrev pub of_node : {A : Type 0} → Result A JsonFault → Result A OptionsFault
of_node (Ok x) = Ok x
of_node (Err fault) = Err (of_json fault)

-- what follows from a value
abbrev pub and_then : {A B : Type 0} → (A → Result B OptionsFault) → Result A OptionsFault → Result B OptionsFault
and_then next (Ok x) = next x
and_then next (Err fault) = Err fault

-- the same answer of what is read as in scripts
abbrev pub of_field : {A : Type 0} → Result A ScriptFault → Result A OptionsFault
of_field (Ok x) = Ok x
of_field (Err fault) = Err (of_script fault)

-- a fault of scripts, as one of options
abbrev pub OfScripts : (ScriptFault → Type 0) → OptionsFault → Type 0
OfScripts rule fault = (cause : ScriptFault) × rule cause × (fault ≡ of_script cause)
