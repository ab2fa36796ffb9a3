-- When a plan is refused, in the order in which it is looked at.
use Rattle.std.specs.Prelude.{◌≡◌, ◌<◌, ◌≤◌, ◌+◌, ◌*◌, ◌-◌, ◌^◌, ℕ, List, IsSomeAnd, Option, Some, length, min, slice_get, sum_by, take}
use Rattle.std.specs.List.{AllByRecursion}
use Rattle.ld_num.specs.declared.fraction.Frac.{Frac}
use Rattle.ld_segment.specs.Refusal.{ends}
use Rattle.ld_segment.specs.Segments.{segments_of}
use Rattle.ld_segment.specs.Weights.{HasPeriod, IsPeriodRefusal, greatest_period}
use Rattle.ld_segment.specs.declared.fault.SegmentFault.TheVariants as segments
use Rattle.ld_segment.specs.declared.segment.Segment.{Segment}
use Rattle.ld_arrival.specs.Limits.{most_arrivals}
use Rattle.ld_arrival.specs.Timetable.{Timetable}
use Rattle.ld_machine.specs.Plan.{Part, owned_items}
use Rattle.ld_machine.specs.Requirement.{IsRequirement}
use Rattle.ld_options.specs.Ranges.{most_users}
use Rattle.ld_options.specs.declared.options.Options.{Options}
use Rattle.ld_options.specs.declared.scenario.Scenario.{Scenario}
use Rattle.ld_plan.specs.Executor.{timetable_of}
use Rattle.ld_plan.specs.IsPlanOf.{AreOwned, AreParts, whole_striping}
use Rattle.ld_plan.specs.PartView.{PartView, parts_of}
use Rattle.ld_plan.specs.PlanView.{arrival_count}
use Rattle.ld_plan.specs.declared.fault.PlanFault.{PlanFault}
use Rattle.ld_plan.specs.declared.fault.PlanFault.TheVariants.{NotInSequence, PeriodTooLarge, TooManyArrivals, TooManyUsers, JournalTooSmall, Memory}

-- the segment stands at this position of the sequence
abbrev pub StandsAt : Segment → List Frac → ℕ → Type 0
StandsAt segment sequence j = slice_get (segments_of sequence) j ≡ Some (ends segment)

-- the pattern of the sequence repeats soon enough
pub record HasShortPeriod (sequence : List Frac) : Type 0 where
  pub period : ℕ
  pub has : HasPeriod sequence period
  pub short : period ≤ greatest_period

-- the fault says that it repeats too late
abbrev pub IsLongPeriod : List Frac → PlanFault → Type 0
IsLongPeriod sequence (PeriodTooLarge told) = IsPeriodRefusal sequence (segments.PeriodTooLarge told)
IsLongPeriod sequence NotInSequence = ⊥
IsLongPeriod sequence (TooManyArrivals scenario told) = ⊥
IsLongPeriod sequence (TooManyUsers told) = ⊥
IsLongPeriod sequence (JournalTooSmall needed limit) = ⊥
IsLongPeriod sequence Memory = ⊥

-- there are few enough arrivals of each scenario
abbrev pub AreFew : List Scenario → Type 0
AreFew scenarios = AllByRecursion (λ s. arrival_count (timetable_of s.executor) ≤ most_arrivals) scenarios

-- a timetable plans more arrivals, and the number that is told is theirs, or 2^64 - 1 where that is less
pub record HasTooMany (timetable : Option Timetable) (told : ℕ) : Type 0 where
  pub many : most_arrivals < arrival_count timetable
  pub number : told ≡ min (arrival_count timetable) (2 ^ 64 - 1)

-- the fault says that the scenario of this number, whose timetable this is, has too many
abbrev pub IsManyOf : Option Timetable → ℕ → PlanFault → Type 0
IsManyOf timetable n (TooManyArrivals scenario told) = (scenario ≡ n) × HasTooMany timetable told
IsManyOf timetable n NotInSequence = ⊥
IsManyOf timetable n (PeriodTooLarge told) = ⊥
IsManyOf timetable n (TooManyUsers told) = ⊥
IsManyOf timetable n (JournalTooSmall needed limit) = ⊥
IsManyOf timetable n Memory = ⊥

-- it is the first of the scenarios that has too many
pub record HasFirstMany (scenarios : List Scenario) (n told : ℕ) : Type 0 where
  pub before : AreFew (take n scenarios)
  pub here : IsSomeAnd (slice_get scenarios n) (λ s. HasTooMany (timetable_of s.executor) told)

-- the fault says which
abbrev pub IsFirstMany : List Scenario → PlanFault → Type 0
IsFirstMany scenarios (TooManyArrivals n told) = HasFirstMany scenarios n told
IsFirstMany scenarios NotInSequence = ⊥
IsFirstMany scenarios (PeriodTooLarge told) = ⊥
IsFirstMany scenarios (TooManyUsers told) = ⊥
IsFirstMany scenarios (JournalTooSmall needed limit) = ⊥
IsFirstMany scenarios Memory = ⊥

-- All scenarios of the whole test together may have so many users at most at one moment: the one position of a
-- test that isn't cut needs them.
pub record IsWholeLimit (options : Options) (limit : ℕ) : Type 0 where
  pub views : List PartView
  pub owned : AreOwned options whole_striping 0 views
  pub planned : ℕ
  pub users : IsRequirement (parts_of views) planned limit

-- they are few enough
pub record HasFewUsers (options : Options) : Type 0 where
  pub limit : ℕ
  pub is_limit : IsWholeLimit options limit
  pub few : limit ≤ most_users

-- the fault says that they are too many
abbrev pub IsManyUsers : Options → PlanFault → Type 0
IsManyUsers options (TooManyUsers told) = IsWholeLimit options told × (most_users < told)
IsManyUsers options NotInSequence = ⊥
IsManyUsers options (PeriodTooLarge told) = ⊥
IsManyUsers options (TooManyArrivals scenario told) = ⊥
IsManyUsers options (JournalTooSmall needed limit) = ⊥
IsManyUsers options Memory = ⊥

-- how many entries a journal may need: two for each owned item, and one for each scenario
abbrev pub needed_entries : List Part → ℕ
needed_entries parts = 2 * sum_by (λ (part : Part). length (owned_items part.executor)) parts + length parts

-- the parts that the segment owns need so many entries
pub record IsNeeded (options : Options) (segment : Segment) (sequence : List Frac) (needed : ℕ) : Type 0 where
  pub position : ℕ
  pub views : List PartView
  pub are_parts : AreParts options segment sequence position views
  pub number : needed ≡ needed_entries (parts_of views)

-- The plan is refused with this fault, where a journal has so many entries. Want of memory is no refusal
-- of its own.
abbrev pub IsRefusal : Options → Segment → List Frac → ℕ → PlanFault → Type 0
IsRefusal options segment sequence entries NotInSequence = (j : ℕ) → StandsAt segment sequence j → ⊥
IsRefusal options segment sequence entries (PeriodTooLarge told) =
    ((j : ℕ) × StandsAt segment sequence j) × IsPeriodRefusal sequence (segments.PeriodTooLarge told)
IsRefusal options segment sequence entries (TooManyArrivals scenario told) =
    ((j : ℕ) × StandsAt segment sequence j)
    × HasShortPeriod sequence
    × HasFirstMany options.scenarios scenario told
IsRefusal options segment sequence entries (TooManyUsers told) =
    ((j : ℕ) × StandsAt segment sequence j)
    × HasShortPeriod sequence
    × AreFew options.scenarios
    × IsWholeLimit options told
    × (most_users < told)
IsRefusal options segment sequence entries (JournalTooSmall needed limit) =
    HasShortPeriod sequence
    × AreFew options.scenarios
    × HasFewUsers options
    × IsNeeded options segment sequence needed
    × (entries < needed)
    × (limit ≡ entries)
IsRefusal options segment sequence entries Memory = ⊥

-- nothing is refused, where a journal has so many entries
pub record IsAccepted (options : Options) (segment : Segment) (sequence : List Frac) (entries : ℕ) : Type 0 where
  pub short : HasShortPeriod sequence
  pub few : AreFew options.scenarios
  pub users : HasFewUsers options
  pub needed : ℕ
  pub is_needed : IsNeeded options segment sequence needed
  pub room : needed ≤ entries
