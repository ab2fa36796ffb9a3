-- Faults of the crates below as refusals of the words. Want of memory stands alone.
use Rattle.ld_options.specs.declared.fault.OptionsFault.{OptionsFault}
use Rattle.ld_options.specs.declared.fault.OptionsFault.TheVariants as options
use Rattle.ld_plan.specs.declared.fault.PlanFault.{PlanFault}
use Rattle.ld_plan.specs.declared.fault.PlanFault.TheVariants as plans
use Rattle.ld_segment.specs.declared.fault.SegmentFault.{SegmentFault}
use Rattle.ld_segment.specs.declared.fault.SegmentFault.TheVariants as cuts
use Rattle.ld_stripe.specs.declared.fault.StripeFault.{StripeFault}
use Rattle.ld_stripe.specs.declared.fault.StripeFault.TheVariants as stripes
use Rattle.ld_words.specs.declared.fault.WordsFault.{WordsFault}
use Rattle.ld_words.specs.declared.fault.WordsFault.TheVariants as words
use Rattle.ld_answer.specs.declared.refusal.Refusal.{Refusal}
use Rattle.ld_answer.specs.declared.refusal.Refusal.TheVariants.{Words, Stripe, Segment, Test, Plan, Memory}

abbrev pub of_plan : PlanFault → Refusal
of_plan plans.NotInSequence = Plan plans.NotInSequence
of_plan (plans.PeriodTooLarge period) = Plan (plans.PeriodTooLarge period)
of_plan (plans.TooManyArrivals scenario count) = Plan (plans.TooManyArrivals scenario count)
of_plan (plans.TooManyUsers users) = Plan (plans.TooManyUsers users)
of_plan (plans.JournalTooSmall needed limit) = Plan (plans.JournalTooSmall needed limit)
of_plan plans.Memory = Memory

abbrev pub of_options : OptionsFault → Refusal
of_options options.NotJson = Test options.NotJson
of_options (options.Missing path) = Test (options.Missing path)
of_options (options.WrongKind path) = Test (options.WrongKind path)
of_options (options.Unknown path) = Test (options.Unknown path)
of_options (options.BadName path) = Test (options.BadName path)
of_options (options.BadExecutor path) = Test (options.BadExecutor path)
of_options (options.Range path) = Test (options.Range path)
of_options (options.NoStages path) = Test (options.NoStages path)
of_options (options.MaxBelowPre path) = Test (options.MaxBelowPre path)
of_options (options.ScriptUnknown path) = Test (options.ScriptUnknown path)
of_options (options.Number path fault) = Test (options.Number path fault)
of_options options.Memory = Memory

abbrev pub of_words : WordsFault → Refusal
of_words (words.Refused place) = Words place
of_words words.Memory = Memory

abbrev pub of_stripe : StripeFault → Refusal
of_stripe stripes.NoWeights = Stripe stripes.NoWeights
of_stripe stripes.TooMany = Stripe stripes.TooMany
of_stripe (stripes.ZeroWeight position) = Stripe (stripes.ZeroWeight position)
of_stripe (stripes.PeriodTooLarge period) = Stripe (stripes.PeriodTooLarge period)
of_stripe stripes.Memory = Memory

abbrev pub of_segment : SegmentFault → Refusal
of_segment (cuts.Number at fault) = Segment (cuts.Number at fault)
of_segment (cuts.BelowZero at) = Segment (cuts.BelowZero at)
of_segment (cuts.NotLess at) = Segment (cuts.NotLess at)
of_segment (cuts.AboveOne at) = Segment (cuts.AboveOne at)
of_segment (cuts.Gap at) = Segment (cuts.Gap at)
of_segment cuts.FewPoints = Segment cuts.FewPoints
of_segment (cuts.PeriodTooLarge period) = Segment (cuts.PeriodTooLarge period)
of_segment cuts.TooMany = Segment cuts.TooMany
of_segment cuts.Memory = Memory
