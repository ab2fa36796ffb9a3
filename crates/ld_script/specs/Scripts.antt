-- The scripts of a document.
use Rattle.std.specs.Prelude.{◌≡◌, ℕ, List, map}
use Rattle.std.specs.List.{AllZip}
use Rattle.ld_json.specs.Node.{NodeView}
use Rattle.ld_script.specs.Along.{after}
use Rattle.ld_script.specs.Members.{Member, members_of}
pub use Rattle.ld_script.specs.Members.{name_of}
use Rattle.ld_script.specs.Names.{NamesView, no_names}
use Rattle.ld_script.specs.Refusal.{names_after, steps_of}
use Rattle.ld_script.specs.ScriptView.{ScriptView}
use Rattle.ld_script.specs.ScriptsView.{ScriptsView, names_in}
use Rattle.ld_script.specs.Step.{AreStepsOf, sample_count}

-- the script that a member says, where these are the names that the scripts use
pub record IsScriptOf (texts : List (List ℕ)) (member : Member) (script : ScriptView) : Type 0 where
  pub steps : AreStepsOf texts (steps_of member.1) script.steps
  pub room : script.room ≡ sample_count script.steps

-- the names that the steps of an object of scripts use, in the order in which they are first used
abbrev pub used_names : NodeView → NamesView
used_names node = after names_after no_names (members_of node)

-- the scripts are those of the members, in order, and the names are those that their steps use
pub record AreScriptsOf (node : NodeView) (view : ScriptsView) : Type 0 where
  pub names : view.names ≡ map name_of (members_of node)
  pub scripts : AllZip (IsScriptOf view.texts) (members_of node) view.scripts
  pub used : names_in view ≡ used_names node
