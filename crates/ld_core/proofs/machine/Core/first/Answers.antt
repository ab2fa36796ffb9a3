use Rattle.std.proofs.Common.{◌+◌, ◌∙◌, Option, ap, subst, sym, arith}
use Rattle.std.specs.Prelude.{Some}
use Rattle.ld_core.specs.declared.first.First.{First}
use Rattle.ld_core.proofs.FirstLemmas.{first_returned, none_returned}
use Rattle.ld_core.proofs.NextLemmas.{Looked, looked_on, looked_past}
use Rattle.ld_core.proofs.machine.Core.first.Goals as goal
use Rattle.ld_core.proofs.machine.Core.first.Goals.{in-Some, in_default}

pub loop-scenario-init : goal.loop-scenario-init
loop-scenario-init c = λ n s below at. absurd (omega arith)

pub loop-scenario-preserved : goal.loop-scenario-preserved
loop-scenario-preserved c =
    elim c.match-next_of.branch [
      | in-Some w ↦
          subst (λ (o : Option First). Looked c.args.self.now c.args.reading (c.loop-scenario.scenario + 1) o) (sym (w.first-is ∙ ap Some w.earlier.ensures))
          (looked_on c.args.self.now c.args.reading c.loop-scenario.scenario c.loop-scenario.first w.in-Some.next c.loop-scenario.invariant w.in-Some.ensures.tells)
      | in_default w ↦
          subst (λ (o : Option First). Looked c.args.self.now c.args.reading (c.loop-scenario.scenario + 1) o) (sym w.first-is)
          (looked_past c.args.self.now c.args.reading c.loop-scenario.scenario c.loop-scenario.first c.loop-scenario.invariant w.in_default.ensures.none)
    ]

pub returns-clause-first : goal.returns-clause-first
returns-clause-first c =
    first_returned c.self.inside c.self.invariant c.args.self.now c.self.view_is c.args.reading c.loop-scenario.scenario
    (let count = c.scenarios-scenario-end.ensures.count in let past = c.loop-scenario-test.false in omega arith) c.loop-scenario.first c.loop-scenario.invariant

pub returns-clause-none : goal.returns-clause-none
returns-clause-none c =
    none_returned c.self.inside c.self.invariant c.args.self.now c.self.view_is c.args.reading c.loop-scenario.scenario
    (let count = c.scenarios-scenario-end.ensures.count in let past = c.loop-scenario-test.false in omega arith) c.loop-scenario.first c.loop-scenario.invariant
