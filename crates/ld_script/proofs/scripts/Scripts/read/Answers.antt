use Rattle.std.proofs.Common.{◌≡◌, ◌∙◌, List, subst}
use Rattle.std.specs.Prelude.{All, map}
use Rattle.std.specs.List.{AllZip}
use Rattle.ld_json.specs.Rules.{Accepts}
use Rattle.ld_json.proofs.RulesLemmas.{then_accepts}
use Rattle.ld_script.specs.Along.{FirstAlong}
use Rattle.ld_script.specs.Members.{Member, name_of}
use Rattle.ld_script.specs.Name.{IsName}
use Rattle.ld_script.specs.Names.{no_names}
use Rattle.ld_script.specs.Refusal.{RefusesScript, names_after}
use Rattle.ld_script.specs.Scripts.{IsScriptOf}
use Rattle.ld_script.proofs.ScriptLemmas.{scripts_are}
use Rattle.ld_script.proofs.scripts.Scripts.read.Goals as goal

pub invariant_of-result : goal.invariant_of-result
invariant_of-result c =
    let same : c.deref.result.now ≡ c.in_ok-members.members.items = c.deref.ensures.value in
    scripts_are c.in_ok-members.members.items c.in_ok-names.names.items c.read_each.new.draft.known.names.texts c.in_ok-scripts.scripts.items c.in_ok-members.ensures.ordered c.in_ok-members.ensures.few
    (subst (λ members. All IsName (map name_of members)) same c.in_ok-scripts.ensures.named) c.in_ok-names.ensures
    (subst (λ members. AllZip (IsScriptOf c.read_each.new.draft.known.names.texts) members c.in_ok-scripts.scripts.items) same c.in_ok-scripts.ensures.value)

pub returns-clause-scripts : goal.returns-clause-scripts
returns-clause-scripts c =
    let same : c.deref.result.now ≡ c.in_ok-members.members.items = c.deref.ensures.value in
    scripts_are c.in_ok-members.members.items c.in_ok-names.names.items c.read_each.new.draft.known.names.texts c.in_ok-scripts.scripts.items c.in_ok-members.ensures.ordered c.in_ok-members.ensures.few
    (subst (λ members. All IsName (map name_of members)) same c.in_ok-scripts.ensures.named) c.in_ok-names.ensures
    (subst (λ members. AllZip (IsScriptOf c.read_each.new.draft.known.names.texts) members c.in_ok-scripts.scripts.items) same c.in_ok-scripts.ensures.value)

pub returns-clause-accepted : goal.returns-clause-accepted
returns-clause-accepted c =
    then_accepts _ _ c.in_ok-members.ensures.accepted
    (subst (λ (members : List Member). Accepts (FirstAlong RefusesScript names_after no_names members)) (c.deref.ensures.value ∙ c.in_ok-members.ensures.value) c.in_ok-scripts.ensures.accepted)
