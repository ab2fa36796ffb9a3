-- What is read of scripts so far.
use Rattle.std.specs.Prelude.{◌≡◌, ◌≤◌, ◌++◌, ◌∷◌, [], List, length}
use Rattle.std.specs.Result.{result_ok}
use Rattle.ld_json.specs.Node.{NodeView}
use Rattle.ld_json.specs.Rules.{Accepts}
use Rattle.ld_script.specs.Along.{FirstAlong, after}
use Rattle.ld_script.specs.Refusal.{RefusesKind, RefusesStep}
use Rattle.ld_script.specs.Step.{AreStepsOf, IsStep, Known, Placed, counter_name, known_after, most_steps, used, with_used}
use Rattle.ld_script.specs.declared.kind.Kind.{Kind}
use Rattle.ld_script.specs.declared.step.Step.{Step}

-- the steps of the script that is being read, and what is known before the next
pub record DraftView : Type 0 where
  pub steps : List Step
  pub known : Known

-- a script has no more steps than were counted, and no more of these than it may have
pub record IsDraft (draft : DraftView) : Type 0 where
  pub fewer : length draft.steps ≤ draft.known.count
  pub few : draft.known.count ≤ most_steps

-- these nodes were read behind a draft, and none of them is refused
pub record HasRead (old new : DraftView) (nodes : List Placed) : Type 0 where
  pub accepted : Accepts (FirstAlong RefusesStep known_after old.known nodes)
  pub known : new.known ≡ after known_after old.known nodes
  pub more : List Step
  pub steps : new.steps ≡ old.steps ++ more
  pub said : AreStepsOf new.known.names.texts nodes more

-- a step of this kind, which is no group, was read behind a draft in which it is counted
pub record HasReadOne (kind : Kind) (old new : DraftView) (node : NodeView) : Type 0 where
  pub accepted : Accepts (RefusesKind kind old.known.names 0 node)
  pub count : new.known.count ≡ old.known.count
  pub names : new.known.names ≡ with_used old.known.names (used kind node)
  pub step : Step
  pub steps : new.steps ≡ old.steps ++ step ∷ []
  pub said : IsStep kind new.known.names.texts node step

-- the name of a counter was used behind a draft
pub record HasNamed (old new : DraftView) (counter : NodeView) : Type 0 where
  pub steps : new.steps ≡ old.steps
  pub count : new.known.count ≡ old.known.count
  pub names : new.known.names ≡ with_used old.known.names (result_ok (counter_name counter))
