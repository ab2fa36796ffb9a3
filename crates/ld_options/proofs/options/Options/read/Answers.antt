-- The bytes are a document, whose options are read.
use Rattle.std.proofs.Common.{inr, subst}
use Rattle.std.specs.Prelude.{◌≢◌, IfOk, OnOk}
use Rattle.std.proofs.lemmas.Result.{IfErr-weaker, on_ok_weaker}
use Rattle.ld_json.specs.Rules.{Accepts}
use Rattle.ld_options.specs.Document.{AreOptionsOf, IsRefusal, RefusesDocument}
use Rattle.ld_options.specs.declared.fault.OptionsFault.TheVariants.{Memory}
use Rattle.ld_options.proofs.ScenarioLemmas.{read_accepts, read_options}
use Rattle.ld_options.proofs.options.Options.read.Goals as goal

pub returns-clause-value : goal.returns-clause-value
returns-clause-value c =
    read_options c.args.bytes.now c.in_ok-doc.doc c.read_root-2.result c.in_ok-doc.ensures.ok
    (subst (λ n. IfOk c.read_root-2.result (AreOptionsOf n)) c.root.ensures c.read_root-2.ensures.value)
    c.read_root-2.ensures.within
    (subst (λ n. OnOk c.read_root-2.result (Accepts (RefusesDocument n))) c.root.ensures c.read_root-2.ensures.accepted)

pub returns-clause-accepted : goal.returns-clause-accepted
returns-clause-accepted c =
    on_ok_weaker _ (λ accepts. read_accepts c.args.bytes.now c.in_ok-doc.doc c.in_ok-doc.ensures.ok (subst (λ n. Accepts (RefusesDocument n)) c.root.ensures accepts)) c.read_root-2.ensures.accepted

pub returns-clause-refused : goal.returns-clause-refused
returns-clause-refused c =
    IfErr-weaker _ _ (λ f. f ≢ Memory → IsRefusal c.args.bytes.now f) (λ f refused other. record { not_memory = other; refused = inr (c.in_ok-doc.doc, c.in_ok-doc.ensures.ok, subst (λ n. RefusesDocument n f) c.root.ensures (refused other)) }) c.read_root-2.ensures.refused
