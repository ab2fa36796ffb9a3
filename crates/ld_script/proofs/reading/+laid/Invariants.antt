use Rattle.std.proofs.Common.{◌+◌, ◌*◌, take}
use Rattle.ld_script.specs.Draft.{HasRead}
use Rattle.ld_script.specs.Step.{all_laid}
use Rattle.ld_script.proofs.reading.+laid.Given as goal

abbrev pub decreases-read_group : goal.decreases-read_group
decreases-read_group l = 3 * l.room

abbrev pub decreases-read_step : goal.decreases-read_step
decreases-read_step l = 3 * l.room + 1

abbrev pub decreases-read_steps : goal.decreases-read_steps
decreases-read_steps l = 3 * l.room + 2

abbrev pub invariant-read_steps-loop-node : goal.invariant-read_steps-loop-node
invariant-read_steps-loop-node l = HasRead l.initial.draft l.draft (all_laid l.room (take l.node-index l.nodes))
