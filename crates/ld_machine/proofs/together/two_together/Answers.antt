use Rattle.std.proofs.Common.{arith, refl}
use Rattle.ld_machine.specs.State.{Idle}
use Rattle.ld_machine.proofs.together.two_together.Goals as goal

pub returns-clause-close : goal.returns-clause-close
returns-clause-close c = (_, refl, (0, omega arith, refl))

pub returns-clause-idle : goal.returns-clause-idle
returns-clause-idle c = (omega arith, (record { user = 1; slot = 0; condition = Idle }, (0, omega arith, refl), refl, refl))
