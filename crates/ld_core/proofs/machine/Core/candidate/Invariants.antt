use Rattle.std.proofs.Common.{◌≡◌, take}
use Rattle.ld_machine.specs.Together.{least_moment}
use Rattle.ld_machine.specs.Moves.{scenarios}
use Rattle.ld_core.specs.CoreView.{plan_of, state_of}
use Rattle.ld_core.proofs.machine.Core.candidate.Given as goal

abbrev pub invariant-loop-scenario : goal.invariant-loop-scenario
invariant-loop-scenario l = l.least ≡ least_moment l.reading (take l.scenario-index (scenarios (plan_of l.self) (state_of l.self)))
