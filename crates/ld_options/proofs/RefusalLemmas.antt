-- Answers that aren't refused.
use Rattle.std.proofs.Common.{◌≡◌, ◌∙◌, ℕ, List, ap, sym, subst}
use Rattle.std.specs.Prelude.{Result, Ok, Err, IfErr}
use Rattle.std.specs.Result.{IsErr, IsErrAnd}
use Rattle.ld_json.specs.Node.{NodeView}
use Rattle.ld_json.specs.Rules.{Accepts}
use Rattle.ld_options.specs.Executors.{kind_of}
use Rattle.ld_json.specs.declared.fault.JsonFault.{JsonFault}
use Rattle.ld_options.specs.Faults.{Refused, of_node}
use Rattle.ld_options.specs.Iterations.{RefusesEach, count_of_each}
use Rattle.ld_options.specs.Scenarios.{RefusesFields, RefusesKnown}
use Rattle.ld_options.specs.Users.{RefusesGreatest, greatest, pre_allocated, user_count}
use Rattle.ld_options.specs.declared.fault.OptionsFault.{OptionsFault}
use Rattle.ld_options.specs.declared.kind.Kind.{Kind}

-- what two answers hold is the same
pub ok_same : {A E : Type 0} → (x y : A) → ◌≡◌ {A = Result A E} (Ok x) (Ok y) → x ≡ y
ok_same x y same = cc

-- no answer is both
pub ok_isnt_err : {A E : Type 0} → (x : A) (e : E) → ◌≡◌ {A = Result A E} (Ok x) (Err e) → ⊥
ok_isnt_err x e same = absurd cc

-- an answer that is Ok isn't refused
pub ok_accepts : {A : Type 0} → (answer : Result A OptionsFault) (x : A) → answer ≡ Ok x → Accepts (Refused answer)
ok_accepts answer x is fault refused = ok_isnt_err x fault (sym is ∙ refused)

-- a greatest number of users that is Ok isn't refused
pub greatest_accepts : (node : NodeView) (pre max : ℕ) → pre_allocated node ≡ Ok pre → greatest pre node ≡ Ok max → Accepts (RefusesGreatest node)
greatest_accepts node pre max planned is fault r =
    ok_accepts (greatest pre node) max is fault (subst (λ p. Refused (greatest p node) fault) (ok_same r.0 pre (sym r.1 ∙ planned)) r.2)

-- a number of iterations of each user that is Ok isn't refused
pub each_accepts : (node : NodeView) (vus each : ℕ) → user_count node ≡ Ok vus → count_of_each vus node ≡ Ok each → Accepts (RefusesEach node)
each_accepts node vus each users is fault r =
    ok_accepts (count_of_each vus node) each is fault (subst (λ u. Refused (count_of_each u node) fault) (ok_same r.0 vus (sym r.1 ∙ users)) r.2)

-- a fault that is handed on
pub handed_on : {T : Type 0} (Q : OptionsFault → Type 0) (result : Result T OptionsFault) (fault : OptionsFault) →
    IsErr result × IsErrAnd result (λ f. f ≡ fault) → Q fault → IfErr result Q
handed_on Q (Ok x) fault is q = tt
handed_on Q (Err f) fault is q = subst Q (sym is.1) q

-- an answer of a node that is Ok isn't refused
pub node_accepts : {A : Type 0} → (answer : Result A JsonFault) (x : A) → answer ≡ Ok x → Accepts (Refused (of_node answer))
node_accepts answer x is = ok_accepts (of_node answer) x (ap of_node is)

-- a scenario whose fields aren't refused isn't refused for them
pub known_accepts : (names : List (List ℕ)) (node : NodeView) (kind : Kind) → kind_of node ≡ Ok kind →
    Accepts (RefusesFields names kind node) → Accepts (RefusesKnown names node)
known_accepts names node kind is accepts fault r =
    accepts fault (subst (λ k. RefusesFields names k node fault) (ok_same r.kind kind (sym r.kind_is ∙ is)) r.refused)
