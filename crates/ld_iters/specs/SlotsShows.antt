-- Which scenario of the machine a state of users with slots shows.
use Rattle.std.specs.Prelude.{◌≡◌, ◌<◌, ◌≤◌, ◌*◌, ◌+◌, ℕ, Bool, true, false, List, Contains, Some, filter, nat_le, slice_get}
use Rattle.ld_base.specs.declared.act.Act.{Act}
use Rattle.ld_course.specs.Course.{course_of}
use Rattle.ld_course.specs.declared.course.Course.{Course}
use Rattle.ld_iters.specs.ItersPart.{IsPart}
use Rattle.ld_iters.specs.declared.iters_part.ItersPart.{ItersPart}
use Rattle.ld_iters.specs.declared.work.Work.{Work}
use Rattle.ld_iters.specs.declared.work.Work.TheVariants.{Counted, Endless}
use Rattle.ld_machine.specs.Plan.{ConstantVus, Executor, PerVuIterations, owned_slots}
use Rattle.ld_machine.specs.Scenario.{Scenario, is_open_item, slot_has_open_item}
use Rattle.ld_machine.specs.ShareEffect.{share_after}
use Rattle.ld_machine.specs.SlotItems.{items_of_slots}
use Rattle.ld_machine.specs.State.{opening_share}
use Rattle.ld_machine.specs.Told.{MayBeTold}
use Rattle.ld_seats.specs.Seating.{IsSeating, SeatingView}

-- what is kept of such a scenario: its course, what its slots have left to start, the owned slots that have
-- something left to start, rising, and the seating of its users
pub record SlotsView : Type 0 where
  pub course : Course
  pub work : Work
  pub going : List ℕ
  pub seating : SeatingView

-- the slot has something left to start: an open item, where it has a number of them
abbrev pub executor_goes_on : Executor → Scenario → ℕ → Bool
executor_goes_on (PerVuIterations _ items) s slot = slot_has_open_item s items slot
executor_goes_on (ConstantVus _) s slot = true
executor_goes_on _ s slot = false

-- of a slot's n iterations those from this one on are open, and no others
pub record IsRest (s : Scenario) (n slot next : ℕ) : Type 0 where
  pub least : slot * n ≤ next
  pub most : next ≤ slot * n + n
  pub rest : (item : ℕ) → slot * n ≤ item → item < slot * n + n → is_open_item s item ≡ nat_le next item

-- the slots' work is the executor's: as many iterations of each owned slot, of which those from its next one on are open;
-- or no end of them
abbrev pub IsWork : Executor → Scenario → Work → Type 0
IsWork (PerVuIterations slots items) s (Counted left) =
    (items ≡ items_of_slots left.each slots)
    × ((slot : ℕ) → Contains slots slot → (next : ℕ) × (slice_get left.next slot ≡ Some next) × IsRest s left.each slot next)
IsWork (ConstantVus slots) s Endless = Unit {0}
IsWork executor s work = ⊥

-- what the state has left to start is the scenario's: the work, and which of the owned slots go on
pub record IsLeft (state : SlotsView) (s : Scenario) : Type 0 where
  pub work : IsWork s.part.executor s state.work
  pub going : state.going ≡ filter (executor_goes_on s.part.executor s) (owned_slots s.part.executor)

-- the state shows the scenario: it has its course, what it has left to start, and the seating of its users
pub record Shows (state : SlotsView) (s : Scenario) : Type 0 where
  pub course : state.course ≡ course_of s
  pub left : IsLeft state s
  pub seating : IsSeating state.seating s

-- the state shows every scenario that is at its opening and has this part
abbrev pub ShowsOpening : ItersPart → SlotsView → Type 0
ShowsOpening part state = (s : Scenario) → s.share ≡ opening_share → IsPart part s.part → Shows state s

-- whichever scenario the old state shows: where that may be told of the act, the new state shows what the act, by any
-- thread, makes of it
abbrev pub Follows : SlotsView → SlotsView → Act → ℕ → Type 0
Follows old new act reading =
    (s : Scenario) (thread : ℕ) → Shows old s → MayBeTold s act → Shows new (record s { share = share_after s.part thread reading act s.share })
