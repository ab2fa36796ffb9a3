use Rattle.std.proofs.Common.{refl, sym}
use Rattle.ld_plan.proofs.owned_arrivals.OwnedArrivals.users.Goals as goal

pub returns-clause-steady : goal.returns-clause-steady
returns-clause-steady c = rw (sym c.self.view_is) (λ part t. refl)
