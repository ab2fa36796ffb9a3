-- A core as contracts see it.
use Rattle.std.specs.Prelude.{ℕ, List, ◌∷◌, [], ◌++◌, ◌≡◌, ◌+◌, length}
use Rattle.ld_base.specs.declared.act.Act.{Act}
use Rattle.ld_base.specs.declared.ask.Ask.{Ask}
use Rattle.ld_base.specs.declared.entry.Entry.{Entry}
use Rattle.ld_base.specs.declared.reply.Reply.{Reply}
use Rattle.ld_machine.specs.Effect.{state_after}
use Rattle.ld_machine.specs.Plan.{Plan}
use Rattle.ld_machine.specs.State.{State}
use Rattle.ld_machine.specs.Step.{Result, IsStep}
use Rattle.ld_plan.specs.PlanView.{PlanView}

-- a core as contracts see it: its plan, and its history so far
pub record CoreView : Type 0 where
  pub plan : PlanView
  pub entries : List Entry

-- the machine's plan, and its state behind the history
abbrev pub plan_of : CoreView → Plan
plan_of core = core.plan.plan

abbrev pub state_of : CoreView → State
state_of core = state_after (plan_of core) core.entries

-- One ask of a thread at a reading is one step of the machine, on the state behind the history: the reply is
-- that of the step, and the history grows by just its entries.
pub record IsAsked (old new : CoreView) (thread : ℕ) (ask : Ask) (reading : ℕ) (reply : Reply) : Type 0 where
  pub result : Result
  pub step : IsStep (plan_of old) (state_of old) thread ask reading result
  pub reply_is : reply ≡ result.reply
  pub entries : new.entries ≡ old.entries ++ result.entries
  pub plan : new.plan ≡ old.plan

-- the entry of an act behind a history; turns count from 1
abbrev pub next_entry : CoreView → ℕ → ℕ → Act → Entry
next_entry core thread reading act = record { turn = length core.entries + 1; thread = thread; act = act; reading = reading }

-- the history grows by the entry of this act
pub record Adds (old new : CoreView) (thread reading : ℕ) (act : Act) : Type 0 where
  pub entries : new.entries ≡ old.entries ++ next_entry old thread reading act ∷ []
  pub plan : new.plan ≡ old.plan
