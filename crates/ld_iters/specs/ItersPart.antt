-- What an instance owns of a scenario, as the machine has it.
use Rattle.std.specs.Prelude.{◌≡◌, ◌≤◌, ◌*◌, ℕ, List}
use Rattle.ld_iters.specs.declared.iters_part.IterKind.{IterKind}
use Rattle.ld_iters.specs.declared.iters_part.IterKind.TheVariants.{Shared, PerUser, Constant}
use Rattle.ld_iters.specs.declared.iters_part.ItersPart.{ItersPart}
use Rattle.ld_machine.specs.Plan.{ConstantVus, Executor, Part, PerVuIterations, SharedIterations}
use Rattle.ld_machine.specs.SlotItems.{items_of_slots}
use Rattle.ld_stripe.specs.Striping.{owned_indices}

-- the owned ones of the whole's items, or of its slots
abbrev pub owned_of : ItersPart → List ℕ
owned_of part = owned_indices part.stripe.owners part.position part.total

-- the executor of a part of this kind
abbrev pub executor_of_kind : IterKind → ItersPart → Executor
executor_of_kind Shared part = SharedIterations part.users (owned_of part)
executor_of_kind PerUser part = PerVuIterations (owned_of part) (items_of_slots part.iterations (owned_of part))
executor_of_kind Constant part = ConstantVus (owned_of part)

-- the part is one of the machine's plan
pub record IsPart (part : ItersPart) (planned : Part) : Type 0 where
  pub begin : planned.begin ≡ part.begin
  pub end : planned.end ≡ part.end
  pub grace : planned.grace ≡ part.grace
  pub executor : planned.executor ≡ executor_of_kind part.kind part

-- there are no more items than 400,000, and no more slots than 1,000
abbrev pub IsSmall : IterKind → ItersPart → Type 0
IsSmall Shared part = part.total ≤ 400000
IsSmall PerUser part = (part.total ≤ 1000) × (part.total * part.iterations ≤ 400000)
IsSmall Constant part = part.total ≤ 1000
