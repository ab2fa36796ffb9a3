-- Slots: which executors have them, and how many users hold one.
use Rattle.std.specs.Prelude.{ℕ, Bool, true, false, ◌+◌, ◌==◌, List, [], ◌∷◌, if◌then◌else◌}
use Rattle.ld_machine.specs.Plan.{Executor, PerVuIterations, ConstantVus, RampingVus, ExternallyControlled}
use Rattle.ld_machine.specs.State.{HeldUser}

-- the executor has slots of its own; of the others a slot is only the number of users held before
abbrev pub has_slots : Executor → Bool
has_slots (PerVuIterations _ _) = true
has_slots (ConstantVus _) = true
has_slots (RampingVus _ _) = true
has_slots (ExternallyControlled _ _ _) = true
has_slots _ = false

-- how many of some held users have the slot
abbrev pub times_slot : ℕ → List HeldUser → ℕ
times_slot slot [] = 0
times_slot slot (h ∷ rest) = (if h.slot == slot then 1 else 0) + times_slot slot rest
