use Rattle.ld_machine.proofs.ItemLemmas.{stands_share}
use Rattle.ld_machine.proofs.ScenarioListLemmas.{stands_with, controls_with, length-with}
use Rattle.ld_machine.proofs.together.scenarios_stand.Goals as goal

pub returns-clause-stands : goal.returns-clause-stands
returns-clause-stands c plan state = stands_with state.controls plan.parts state.shares

pub returns-clause-parts : goal.returns-clause-parts
returns-clause-parts c plan state n s h =
    let both = stands_share state.controls plan.parts state.shares n s h in
    (both.0, both.1, controls_with state.controls plan.parts state.shares n s h)

pub returns-clause-count : goal.returns-clause-count
returns-clause-count c plan state = length-with state.controls plan.parts state.shares
