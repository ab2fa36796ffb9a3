use Rattle.std.proofs.Common.{subst}
use Rattle.ld_core.specs.Firsts.{IsFirstNext}
use Rattle.ld_core.specs.declared.first.Next.{Next}
use Rattle.ld_core.proofs.WishLemmas.{stop_first}
use Rattle.ld_core.proofs.machine.Core.act_first.Goals as goal

pub act_stop-requires : goal.act_stop-requires
act_stop-requires c =
    record { first = stop_first c.args.self.now c.args.reading c.args.first.scenario (subst (λ (x : Next). IsFirstNext c.args.self.now c.args.reading c.args.first.scenario x) c.in-Halt.is c.requires.first) }
