-- The status and the line that say a refusal.
use Rattle.std.specs.Prelude.{◌≡◌, ◌⊎◌, ◌∷◌, ◌++◌, [], ℕ, List, codes, decimal}
use Rattle.ld_num.specs.declared.fault.NumFault.{NumFault}
use Rattle.ld_num.specs.declared.fault.NumFault.TheVariants as numbers
use Rattle.ld_options.specs.declared.fault.OptionsFault.{OptionsFault}
use Rattle.ld_options.specs.declared.fault.OptionsFault.TheVariants as options
use Rattle.ld_plan.specs.declared.fault.PlanFault.{PlanFault}
use Rattle.ld_plan.specs.declared.fault.PlanFault.TheVariants as plans
use Rattle.ld_segment.specs.declared.fault.SegmentFault.{SegmentFault}
use Rattle.ld_segment.specs.declared.fault.SegmentFault.TheVariants as cuts
use Rattle.ld_stripe.specs.declared.fault.StripeFault.{StripeFault}
use Rattle.ld_stripe.specs.declared.fault.StripeFault.TheVariants as stripes
use Rattle.ld_answer.specs.declared.refusal.Refusal.{Refusal}
use Rattle.ld_answer.specs.declared.refusal.Refusal.TheVariants.{Words, Stripe, NoSuchPosition, Segment, NotInSequence, Read, TooLong, Test, Plan, Memory}

-- the status that a refusal ends with
abbrev pub stripe_status : StripeFault → ℕ
stripe_status stripes.Memory = 9
stripe_status stripes.NoWeights = 5
stripe_status stripes.TooMany = 5
stripe_status (stripes.ZeroWeight position) = 5
stripe_status (stripes.PeriodTooLarge period) = 5

abbrev pub segment_status : SegmentFault → ℕ
segment_status cuts.Memory = 9
segment_status (cuts.Number at fault) = 5
segment_status (cuts.BelowZero at) = 5
segment_status (cuts.NotLess at) = 5
segment_status (cuts.AboveOne at) = 5
segment_status (cuts.Gap at) = 5
segment_status cuts.FewPoints = 5
segment_status (cuts.PeriodTooLarge period) = 5
segment_status cuts.TooMany = 5

abbrev pub test_status : OptionsFault → ℕ
test_status options.Memory = 9
test_status options.NotJson = 5
test_status (options.Missing path) = 5
test_status (options.WrongKind path) = 5
test_status (options.Unknown path) = 5
test_status (options.BadName path) = 5
test_status (options.BadExecutor path) = 5
test_status (options.Range path) = 5
test_status (options.NoStages path) = 5
test_status (options.MaxBelowPre path) = 5
test_status (options.ScriptUnknown path) = 5
test_status (options.Number path fault) = 5

abbrev pub plan_status : PlanFault → ℕ
plan_status plans.Memory = 9
plan_status plans.NotInSequence = 5
plan_status (plans.PeriodTooLarge period) = 5
plan_status (plans.TooManyArrivals scenario count) = 5
plan_status (plans.TooManyUsers users) = 5
plan_status (plans.JournalTooSmall needed limit) = 5

abbrev pub status_of : Refusal → ℕ
status_of (Words place) = 2
status_of (Stripe f) = stripe_status f
status_of (NoSuchPosition position) = 5
status_of (Segment f) = segment_status f
status_of NotInSequence = 5
status_of Read = 3
status_of (TooLong place) = 11
status_of (Test f) = test_status f
status_of (Plan f) = plan_status f
status_of Memory = 9

-- a line of a text and a number behind it
abbrev pub line_with : List ℕ → ℕ → List ℕ
line_with text number = text ++ decimal number ++ 10 ∷ []

-- the line for want of memory
abbrev pub memory_line : List ℕ
memory_line = codes "error memory\n"

-- the line that says a fault of weights
abbrev pub stripe_line : StripeFault → List ℕ
stripe_line stripes.NoWeights = codes "error 20 NoWeights\n"
stripe_line stripes.TooMany = codes "error 17 TooMany\n"
stripe_line (stripes.ZeroWeight position) = line_with (codes "error 21 ZeroWeight ") position
stripe_line (stripes.PeriodTooLarge period) = line_with (codes "error 16 PeriodTooLarge ") period
stripe_line stripes.Memory = memory_line

-- the number and the name of a fault of a number, with a space behind it
abbrev pub number_name : NumFault → List ℕ
number_name numbers.Empty = codes "error 1 Empty "
number_name numbers.BadDigit = codes "error 2 BadDigit "
number_name numbers.ZeroDenominator = codes "error 3 ZeroDenominator "
number_name numbers.TooLarge = codes "error 4 TooLarge "
number_name numbers.BadUnit = codes "error 5 BadUnit "
number_name numbers.NotWhole = codes "error 6 NotWhole "
number_name numbers.Memory = codes "error memory "

-- the line that says a fault of a segment or a sequence
abbrev pub segment_line : SegmentFault → List ℕ
segment_line (cuts.Number at fault) = line_with (number_name fault) at
segment_line (cuts.BelowZero at) = line_with (codes "error 10 BelowZero ") at
segment_line (cuts.NotLess at) = line_with (codes "error 11 NotLess ") at
segment_line (cuts.AboveOne at) = line_with (codes "error 12 AboveOne ") at
segment_line (cuts.Gap at) = line_with (codes "error 13 Gap ") at
segment_line cuts.FewPoints = codes "error 14 FewPoints\n"
segment_line (cuts.PeriodTooLarge period) = line_with (codes "error 16 PeriodTooLarge ") period
segment_line cuts.TooMany = codes "error 17 TooMany\n"
segment_line cuts.Memory = memory_line

-- a line of a text and a path behind it
abbrev pub line_at : List ℕ → List ℕ → List ℕ
line_at text path = text ++ path ++ 10 ∷ []

-- a line of a text and two numbers behind it
abbrev pub line_with_two : List ℕ → ℕ → ℕ → List ℕ
line_with_two text one two = text ++ decimal one ++ 32 ∷ decimal two ++ 10 ∷ []

-- the line that says a fault of a test
abbrev pub test_line : OptionsFault → List ℕ
test_line options.NotJson = codes "error 40 NotJson\n"
test_line (options.Missing path) = line_at (codes "error 41 Missing ") path
test_line (options.WrongKind path) = line_at (codes "error 42 WrongKind ") path
test_line (options.Unknown path) = line_at (codes "error 43 Unknown ") path
test_line (options.BadName path) = line_at (codes "error 60 BadName ") path
test_line (options.BadExecutor path) = line_at (codes "error 61 BadExecutor ") path
test_line (options.Range path) = line_at (codes "error 62 Range ") path
test_line (options.NoStages path) = line_at (codes "error 63 NoStages ") path
test_line (options.MaxBelowPre path) = line_at (codes "error 64 MaxBelowPre ") path
test_line (options.ScriptUnknown path) = line_at (codes "error 65 ScriptUnknown ") path
test_line (options.Number path fault) = line_at (number_name fault) path
test_line options.Memory = memory_line

-- the line that says a fault of a plan
abbrev pub plan_line : PlanFault → List ℕ
plan_line plans.NotInSequence = codes "error 15 NotInSequence\n"
plan_line (plans.PeriodTooLarge period) = line_with (codes "error 16 PeriodTooLarge ") period
plan_line (plans.TooManyArrivals scenario count) = line_with_two (codes "error 31 TooManyArrivals ") scenario count
plan_line (plans.TooManyUsers users) = line_with (codes "error 80 TooManyUsers ") users
plan_line (plans.JournalTooSmall needed limit) = line_with_two (codes "error 81 JournalTooSmall ") needed limit
plan_line plans.Memory = memory_line

-- the line that says a refusal
abbrev pub line_of : Refusal → List ℕ
line_of (Words place) = line_with (codes "error words ") place
line_of (Stripe f) = stripe_line f
line_of (NoSuchPosition position) = line_with (codes "error 22 NoSuchPosition ") position
line_of (Segment f) = segment_line f
line_of NotInSequence = codes "error 15 NotInSequence\n"
line_of Read = codes "error read\n"
line_of (TooLong place) = line_with (codes "error too-long ") place
line_of (Test f) = test_line f
line_of (Plan f) = plan_line f
line_of Memory = memory_line

-- words are refused with one of these
abbrev pub IsRefusalStatus : ℕ → Type 0
IsRefusalStatus status = (status ≡ 2) ⊎ ((status ≡ 3) ⊎ ((status ≡ 5) ⊎ (status ≡ 11)))
