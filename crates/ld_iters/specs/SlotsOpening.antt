-- What users with slots have to start at the opening.
use Rattle.std.specs.Prelude.{◌≡◌, ◌<◌, ◌*◌, ◌==◌, ℕ, List, [], Some, if◌then◌else◌, slice_get}
use Rattle.ld_iters.specs.ItersPart.{owned_of}
use Rattle.ld_iters.specs.declared.iters_part.IterKind.{IterKind}
use Rattle.ld_iters.specs.declared.iters_part.IterKind.TheVariants.{PerUser}
use Rattle.ld_iters.specs.declared.iters_part.ItersPart.{ItersPart}
use Rattle.ld_iters.specs.declared.work.Work.{Work}
use Rattle.ld_iters.specs.declared.work.Work.TheVariants.{Counted, Endless}

-- the work of a part of this kind: of each slot its first item is next; or there is no end of it
abbrev pub IsFirstWorkOf : IterKind → ItersPart → Work → Type 0
IsFirstWorkOf PerUser part (Counted items) =
    (items.each ≡ part.iterations) × ((slot : ℕ) → slot < part.total → slice_get items.next slot ≡ Some (slot * part.iterations))
IsFirstWorkOf PerUser part Endless = ⊥
IsFirstWorkOf kind part work = work ≡ Endless

abbrev pub IsFirstWork : ItersPart → Work → Type 0
IsFirstWork part work = IsFirstWorkOf part.kind part work

-- the owned slots that have something to start: none where each has no iterations
abbrev pub going_of_kind : IterKind → ItersPart → List ℕ
going_of_kind PerUser part = if part.iterations == 0 then [] else owned_of part
going_of_kind kind part = owned_of part

abbrev pub first_going : ItersPart → List ℕ
first_going part = going_of_kind part.kind part
