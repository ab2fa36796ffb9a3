-- Answers that aren't refused.
use Rattle.std.proofs.Common.{◌≡◌, ◌∙◌, ap, sym, subst}
use Rattle.std.specs.Prelude.{◌≢◌, Result, Ok, Err, IfErr}
use Rattle.std.specs.Result.{IsErr, IsErrAnd}
use Rattle.ld_json.specs.Rules.{Accepts}
use Rattle.ld_json.specs.declared.fault.JsonFault.{JsonFault}
use Rattle.ld_script.specs.Fault.{Refused, of_node}
use Rattle.ld_script.specs.declared.fault.ScriptFault.{ScriptFault}
use Rattle.ld_script.specs.declared.fault.ScriptFault.TheVariants.{Memory}

-- what two answers hold is the same
pub ok_same : {A E : Type 0} → (x y : A) → ◌≡◌ {A = Result A E} (Ok x) (Ok y) → x ≡ y
ok_same x y same = cc

-- no answer is both
pub ok_isnt_err : {A E : Type 0} → (x : A) (e : E) → ◌≡◌ {A = Result A E} (Ok x) (Err e) → ⊥
ok_isnt_err x e same = absurd cc

-- an answer that is Ok isn't refused
pub ok_accepts : {A : Type 0} → (answer : Result A ScriptFault) (x : A) → answer ≡ Ok x → Accepts (Refused answer)
ok_accepts answer x is fault refused = ok_isnt_err x fault (sym is ∙ refused)

-- an answer of a node that is Ok isn't refused
pub node_accepts : {A : Type 0} → (answer : Result A JsonFault) (x : A) → answer ≡ Ok x → Accepts (Refused (of_node answer))
node_accepts answer x is = ok_accepts (of_node answer) x (ap of_node is)

-- a fault that is handed on
pub handed_on : {T : Type 0} (Q : ScriptFault → Type 0) (result : Result T ScriptFault) (fault : ScriptFault) →
    IsErr result × IsErrAnd result (λ f. f ≡ fault) → Q fault → IfErr result Q
handed_on Q (Ok x) fault is q = tt
handed_on Q (Err f) fault is q = subst Q (sym is.1) q

-- one refusal follows from another
pub refused_weaker : {T : Type 0} (result : Result T ScriptFault) (P Q : ScriptFault → Type 0) → ((fault : ScriptFault) → P fault → Q fault) → IfErr result (λ f. f ≢ Memory → P f)
    → IfErr result (λ f. f ≢ Memory → Q f)
refused_weaker (Ok x) P Q each refused = tt
refused_weaker (Err f) P Q each refused = λ other. each f (refused other)
