-- Which scenario of the machine a state of ramping users shows.
use Rattle.std.specs.Prelude.{◌≡◌, ◌≤◌, ◌&&◌, ℕ, Bool, true, Contains, map}
use Rattle.ld_base.specs.declared.act.Act.{Act}
use Rattle.ld_course.specs.Course.{course_of}
use Rattle.ld_course.specs.declared.course.Course.{Course}
use Rattle.ld_machine.specs.Plan.{Part, RampingVus}
use Rattle.ld_machine.specs.Scenario.{Scenario, may_take, slots_to_take}
use Rattle.ld_machine.specs.ShareEffect.{share_after}
use Rattle.ld_machine.specs.State.{opening_share}
use Rattle.ld_machine.specs.Told.{MayBeTold}
use Rattle.ld_seats.specs.Seating.{IsSeating, SeatingView}
use Rattle.ld_set.specs.SetView.{is_among}
use Rattle.ld_set.specs.Words.{as_wanted}
use Rattle.ld_ramping.specs.Owned.{slot_of}
use Rattle.ld_ramping.specs.Standing.{StandingView, stands_on}
use Rattle.ld_ramping.specs.declared.ramping_part.RampingPart.{RampingPart}

-- what is kept of such a scenario: its course, how long an iteration may last behind its slot, the owned slots with their
-- intervals, and who has which slot
pub record RampingView : Type 0 where
  pub course : Course
  pub ramp_grace : ℕ
  pub standing : StandingView
  pub seating : SeatingView

-- the part is one of the machine's plan
pub record IsPart (part : RampingPart) (planned : Part) : Type 0 where
  pub begin : planned.begin ≡ part.begin
  pub end : planned.end ≡ part.end
  pub grace : planned.grace ≡ part.grace
  pub executor : planned.executor ≡ RampingVus part.ramp_grace (map slot_of part.slots)

-- the state shows the scenario: it has its course, its begin and its slots, and the seating is that of its users
pub record Shows (state : RampingView) (s : Scenario) : Type 0 where
  pub course : state.course ≡ course_of s
  pub begin : state.standing.begin ≡ s.part.begin
  pub executor : s.part.executor ≡ RampingVus state.ramp_grace (map slot_of state.standing.slots)
  pub seating : IsSeating state.seating s

-- the state shows every scenario that is at its opening and has this part
abbrev pub ShowsOpening : RampingPart → RampingView → Type 0
ShowsOpening part state = (s : Scenario) → s.share ≡ opening_share → IsPart part s.part → Shows state s

-- whichever scenario the old state shows: where that may be told of the act, the new state shows what the act, by any
-- thread, makes of it
abbrev pub Follows : RampingView → RampingView → Act → ℕ → Type 0
Follows old new act reading =
    (s : Scenario) (thread : ℕ) → Shows old s → MayBeTold s act → Shows new (record s { share = share_after s.part thread reading act s.share })

-- the slot is on, or off, as it is wanted
abbrev pub stands_as : Bool → RampingView → (reading slot : ℕ) → Bool
stands_as on state reading slot = as_wanted on (stands_on state.standing slot reading)

-- the slot's user is idle, and the slot is on, or off, as it is wanted
abbrev pub is_idle_as : Bool → RampingView → (reading slot : ℕ) → Bool
is_idle_as on state reading slot = is_among state.seating.idle slot && stands_as on state reading slot

-- the slot is the least one for which a user may be taken
pub record IsLeastTake (s : Scenario) (reading slot : ℕ) : Type 0 where
  pub among : Contains (slots_to_take s.part.executor s) slot
  pub may : may_take s slot reading ≡ true
  pub least : (other : ℕ) → Contains (slots_to_take s.part.executor s) other → may_take s other reading ≡ true → slot ≤ other
