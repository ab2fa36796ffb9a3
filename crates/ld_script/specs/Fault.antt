-- Faults of documents as faults of scripts, and what a reader answers.
use Rattle.std.specs.Prelude.{◌≡◌, Result, Ok, Err, IfOk, IfErr}
use Rattle.ld_json.specs.declared.fault.JsonFault.{JsonFault}
use Rattle.ld_json.specs.declared.fault.JsonFault.TheVariants as json
use Rattle.ld_script.specs.declared.fault.ScriptFault.{ScriptFault}
use Rattle.ld_script.specs.declared.fault.ScriptFault.TheVariants.{NotJson, Missing, WrongKind, Unknown, Memory}

-- the result is the answer, unless memory is missing
abbrev pub Answers : {A : Type 0} → Result A ScriptFault → Result A ScriptFault → Type 0
Answers result answer = IfOk result (λ x. answer ≡ Ok x) × IfErr result (λ fault. (fault ≡ Memory → ⊥) → answer ≡ Err fault)

-- this answer is refused so
abbrev pub Refused : {A : Type 0} → Result A ScriptFault → ScriptFault → Type 0
Refused answer fault = answer ≡ Err fault

-- the fault of the same name
abbrev pub of_json : JsonFault → ScriptFault
of_json json.NotJson = NotJson
of_json (json.Missing path) = Missing path
of_json (json.WrongKind path) = WrongKind path
of_json (json.Unknown path) = Unknown path
of_json json.Memory = Memory

-- the same answer of a node
abbrev pub of_node : {A : Type 0} → Result A JsonFault → Result A ScriptFault
of_node (Ok x) = Ok x
of_node (Err fault) = Err (of_json fault)

-- what follows from a value
abbrev pub and_then : {A B : Type 0} → (A → Result B ScriptFault) → Result A ScriptFault → Result B ScriptFault
and_then next (Ok x) = next x
and_then next (Err fault) = Err fault
