-- A script as it is seen.
use Rattle.std.specs.Prelude.{◌≡◌, ◌≤◌, ℕ, List, length}
use Rattle.ld_script.specs.Step.{most_steps, sample_count}
use Rattle.ld_script.specs.declared.step.Step.{Step}

-- the steps of a script, laid flat, and how many samples one iteration may give
pub record ScriptView : Type 0 where
  pub steps : List Step
  pub room : ℕ

-- the room is that of the steps, and there aren't too many
pub record IsScript (script : ScriptView) : Type 0 where
  pub room : script.room ≡ sample_count script.steps
  pub few : length script.steps ≤ most_steps
