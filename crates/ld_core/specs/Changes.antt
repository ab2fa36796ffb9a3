-- When a core may be changed in one way or another, in the machine's words.
use Rattle.std.specs.Prelude.{◌≡◌, ◌≤◌, ◌<◌, ℕ, List, Option, None, Some, IsTrue, IsSomeAnd, length, nat_lt, slice_get, if◌then◌else◌}
use Rattle.ld_base.specs.declared.act.Act.{Act}
use Rattle.ld_base.specs.declared.act.Act.TheVariants as acts
use Rattle.ld_base.specs.declared.ask.Ask.{Ask}
use Rattle.ld_base.specs.declared.ask.Ask.TheVariants as asks
use Rattle.ld_base.specs.declared.reply.Reply.{Reply}
use Rattle.ld_base.specs.Stint.{StintView}
use Rattle.ld_base.specs.Tally.{TallyView}
use Rattle.ld_machine.specs.Moves.{scenarios}
use Rattle.ld_machine.specs.Plan.{Plan}
use Rattle.ld_machine.specs.Room.{entries_refusal, entries_with, or_else, samples_refusal, samples_with, script_room}
use Rattle.ld_machine.specs.Samples.{tally_fits}
use Rattle.ld_machine.specs.Scenario.{Scenario}
use Rattle.ld_machine.specs.State.{State}
use Rattle.ld_machine.specs.Told.{MayBeTold, executor_has_place}
use Rattle.ld_machine.specs.Step.{is_out}
use Rattle.ld_executor.specs.Shows.{Follows, MayTell}
use Rattle.ld_executor.specs.declared.executor_state.ExecutorState.{ExecutorState}
use Rattle.ld_core.specs.CoreView.{CoreView, plan_of, state_of}

-- this holds of the core's scenario of a number
abbrev pub OfScenario : CoreView → ℕ → (Scenario → Type 0) → Type 0
OfScenario core n P = IsSomeAnd (slice_get (scenarios (plan_of core) (state_of core)) n) P

-- the scenario may be told of the act
abbrev pub MayBeToldOf : CoreView → ℕ → Act → Type 0
MayBeToldOf core n act = OfScenario core n (λ s. MayBeTold s act)

-- it may hold one user more on the slot
abbrev pub HasPlace : CoreView → ℕ → ℕ → Type 0
HasPlace core n slot = OfScenario core n (λ s. IsTrue (executor_has_place s.part.executor s slot))

-- there is room for so many entries and busy users more
abbrev pub HasRoom : CoreView → ℕ → ℕ → Type 0
HasRoom core added busy = entries_with (state_of core) added busy ≤ (plan_of core).entry_limit

-- there is room for the samples of one iteration more of a scenario
abbrev pub HasSampleRoom : CoreView → ℕ → Type 0
HasSampleRoom core n = samples_with (plan_of core) (state_of core) n ≤ (plan_of core).entry_limit

-- why the history has no room for so many entries and busy users more, if it has none: the entries are
-- looked at first, and the samples where an iteration of the scenario is started
abbrev pub refusal_with : Plan → State → ℕ → ℕ → ℕ → Option Reply
refusal_with plan state n added busy =
    or_else (entries_refusal plan state added busy) (if nat_lt 0 busy then samples_refusal plan state n else None)

-- it is an act of a scenario of the plan that changes no user
abbrev pub LeavesUsers : ℕ → Act → Type 0
LeavesUsers n (acts.Drop k item) = k ≡ n
LeavesUsers n (acts.Late k item) = k ≡ n
LeavesUsers n (acts.Stop k) = k ≡ n
LeavesUsers n (acts.Close k) = k ≡ n
LeavesUsers n _ = ⊥

-- each state shows a scenario that may be told of the act
abbrev pub AllMayTell : List ExecutorState → Act → Type 0
AllMayTell states act = (n : ℕ) (state : ExecutorState) → slice_get states n ≡ Some state → MayTell state act

-- behind an act that all scenarios are told of, whichever the old states show, the new ones show what the act makes of them
pub record AllFollow (old new : List ExecutorState) (act : Act) (reading : ℕ) : Type 0 where
  pub count : length new ≡ length old
  pub each : (n : ℕ) (before after : ExecutorState) → slice_get old n ≡ Some before → slice_get new n ≡ Some after → Follows before after act reading

-- the stint is out at the thread, and the tally fits its script
pub record IsReturn (core : CoreView) (thread : ℕ) (stint : StintView) (tally : TallyView) : Type 0 where
  pub out : IsTrue (is_out (state_of core) thread stint)
  pub fits : IsTrue (tally_fits (plan_of core).names (script_room (plan_of core) stint.scenario) tally)

-- what a thread may ask of a core: a Return of a stint that is out at it, with a tally that fits; a Check of
-- a scenario of the plan; and each other ask
abbrev pub MayAsk : CoreView → ℕ → Ask → Type 0
MayAsk core thread (asks.Return stint finished tally) = IsReturn core thread stint tally
MayAsk core thread (asks.Check n) = n < length (plan_of core).parts
MayAsk core thread _ = Unit {0}
