-- What holds of the stage of a rehearsal, and what its steps do.
use Rattle.std.specs.Prelude.{◌≡◌, ◌<◌, ◌≤◌, ℕ, Bool, true, false, [], Option, None, Some, IsTrue, length, option_map}
use Rattle.ld_base.specs.declared.entry.Entry.{Entry}
use Rattle.ld_base.specs.declared.reply.Reply.{Reply}
use Rattle.ld_base.specs.declared.reply.Reply.TheVariants.{Full}
use Rattle.ld_core.specs.CoreView.{plan_of, state_of}
use Rattle.ld_machine.specs.Moment.{last_moment}
use Rattle.ld_machine.specs.Plan.{Plan}
use Rattle.ld_machine.specs.State.{State, all_closed}
use Rattle.ld_machine.specs.Moves.{enabled}
use Rattle.ld_machine.specs.Rehearsal.{is_return, returned_user, FirstRefusal, IsRefusedAt, IsRehearsed, NothingEnabled}
use Rattle.ld_machine.specs.Wait.{wait_moment}
use Rattle.ld_machine.specs.WellTimed.{WellTimed}
use Rattle.ld_plan.specs.PlanView.{PlanView}
use Rattle.ld_rehearsal.specs.Dues.{due_at, due_in, ShowsDues}
use Rattle.ld_rehearsal.specs.Played.{may_come, IsPlayed}
use Rattle.ld_rehearsal.specs.declared.due.Due.{Due}
use Rattle.ld_rehearsal.specs.declared.full.FullJournal.{FullJournal}
use Rattle.ld_rehearsal.specs.declared.stage.Said.{Said}
use Rattle.ld_rehearsal.specs.declared.stage.Said.TheVariants.{Acted, Waits, Over}
use Rattle.ld_rehearsal.specs.declared.stage.Said.TheVariants as said
use Rattle.ld_rehearsal.specs.declared.stage.Stage.{Stage}

-- the reply that says so
abbrev pub full_reply : FullJournal → Reply
full_reply full = Full full.room full.needed full.limit

-- the parts of a stage in the machine's words
abbrev pub stage_plan : Stage → Plan
stage_plan stage = plan_of stage.core

abbrev pub stage_state : Stage → State
stage_state stage = state_of stage.core

-- some user plays an iteration that this says of
abbrev pub playing : Stage → ℕ → Option Due
playing stage user = due_in stage.length stage.core.entries user

-- what holds at all times: the history was played up to the moment, and the table shows who plays
pub record IsStage (stage : Stage) (blocked : Bool) : Type 0 where
  pub timed : WellTimed (stage_plan stage)
  pub planned : (stage_plan stage).planned ≤ (stage_plan stage).limit
  pub lasts : 1 ≤ stage.length
  pub played : IsPlayed (stage_plan stage) stage.length stage.core.entries stage.moment (option_map full_reply stage.full) blocked
  pub dues : ShowsDues stage.length (stage_plan stage).limit stage.core.entries stage.dues

-- While acts are asked for, every iteration under way ends later.
pub record IsActing (stage : Stage) : Type 0 where
  pub stage_is : IsStage stage false
  pub ends : (user : ℕ) (due : Due) → playing stage user ≡ Some due → stage.moment < due.end

-- While iterations are returned, none has ended earlier, none of a user below `from` ends now, and a Return of
-- another may come. Where there was no room, one ends now.
pub record IsReturning (stage : Stage) (from : ℕ) (blocked : Bool) : Type 0 where
  pub stage_is : IsStage stage blocked
  pub ends : (user : ℕ) (due : Due) → playing stage user ≡ Some due → stage.moment ≤ due.end
  pub below : (user : ℕ) (due : Due) → playing stage user ≡ Some due → user < from → stage.moment < due.end
  pub order : (entry : Entry) → entry.reading ≡ stage.moment → IsTrue (is_return entry.act) → from ≤ returned_user entry.act → IsTrue (may_come stage.core.entries entry)
  pub ended : blocked ≡ true → (user : ℕ) × (due : Due) × (from ≤ user) × (playing stage user ≡ Some due) × (due.end ≡ stage.moment)

-- it is the rehearsal of the same plan, with iterations of the same length
pub record IsSameRun (old new : Stage) : Type 0 where
  pub plan : new.core.plan ≡ old.core.plan
  pub length : new.length ≡ old.length

-- the same at the same moment
pub record IsSameMoment (old new : Stage) : Type 0 where
  pub run : IsSameRun old new
  pub moment : new.moment ≡ old.moment
  pub full : new.full ≡ old.full

-- ---- the opening

-- the stage of a plan at the opening
pub record IsOpened (plan : PlanView) (long : ℕ) (stage : Stage) : Type 0 where
  pub plan_is : stage.core.plan ≡ plan
  pub length_is : stage.length ≡ long

-- ---- returns

-- what the user plays ends now, and the table has it
pub record IsDue (stage : Stage) (user : ℕ) (due : Due) : Type 0 where
  pub is : due_at stage.dues user ≡ Some due
  pub now : due.end ≤ stage.moment

-- iterations of users from this one on may be returned, whether or not there was no room
abbrev pub MayReturn : Stage → ℕ → Type 0
MayReturn stage from = (blocked : Bool) × IsReturning stage from blocked

-- ---- acts

-- what an ask for an act tells, where it performs none
abbrev pub IsPause : Stage → Said → Type 0
IsPause stage Acted = ⊥
IsPause stage (Waits m) =
    (all_closed (stage_state stage) ≡ false)
    × (m ≡ wait_moment (stage_plan stage) (stage_state stage) stage.moment)
    × NothingEnabled (stage_plan stage) (stage_state stage) stage.moment m
    × (enabled (stage_plan stage) (stage_state stage) stage.moment ≡ [])
IsPause stage Over = all_closed (stage_state stage) ≡ true
IsPause stage (said.Full full) = IsRefusedAt (stage_plan stage) (stage_state stage) stage.moment (full_reply full)

-- an act was performed, and the history is longer; or none was, and the stage is as it was
abbrev pub IsAnswer : Stage → Stage → Said → Type 0
IsAnswer old new Acted = length old.core.entries < length new.core.entries
IsAnswer old new said = (new ≡ old) × IsPause new said

-- one ask for an act was answered
pub record IsAnswered (old new : Stage) (said : Said) : Type 0 where
  pub same : IsSameMoment old new
  pub acting : IsActing new
  pub answer : IsAnswer old new said

-- acts were asked for until none was performed
pub record IsPaused (old new : Stage) (said : Said) : Type 0 where
  pub same : IsSameMoment old new
  pub acting : IsActing new
  pub pause : IsPause new said

-- ---- rounds

-- the rehearsal has ended: the history is what is played, with the first act without room; and where there was
-- room for all, every scenario is closed
pub record IsEnded (stage : Stage) : Type 0 where
  pub rehearsed : IsRehearsed (stage_plan stage) stage.length stage.core.entries
  pub first : FirstRefusal (stage_plan stage) stage.core.entries (option_map full_reply stage.full)
  pub closed : stage.full ≡ None → all_closed (stage_state stage) ≡ true

-- a moment was played: the next one is later, or the rehearsal has ended
abbrev pub IsNext : Stage → Stage → Bool → Type 0
IsNext old new true = (old.moment < new.moment) × (new.moment ≤ last_moment) × MayReturn new 0
IsNext old new false = IsEnded new

pub record IsRound (old new : Stage) (more : Bool) : Type 0 where
  pub run : IsSameRun old new
  pub next : IsNext old new more
