-- The scripts of a test as they are seen.
use Rattle.std.specs.Prelude.{◌≡◌, ◌≤◌, ℕ, List, All, length}
use Rattle.std.specs.Cmp.Lexicographic.{slice_cmp}
use Rattle.std.specs.List.Sorted.{IsStrictlySortedBy}
use Rattle.std.specs.Ordering.{nat_cmp}
use Rattle.ld_base.specs.declared.metric.NameSpec.{NameSpec}
use Rattle.ld_script.specs.Name.{IsName}
use Rattle.ld_script.specs.Names.{NamesView}
use Rattle.ld_script.specs.ScriptView.{ScriptView}

-- the scripts, their names in the same order, the names that they use in the order in which they are
-- first used, and what the samples of each of those are
pub record ScriptsView : Type 0 where
  pub names : List (List ℕ)
  pub scripts : List ScriptView
  pub texts : List (List ℕ)
  pub specs : List NameSpec

-- the names that the scripts use
abbrev pub names_in : ScriptsView → NamesView
names_in view = record { texts = view.texts; specs = view.specs }

-- the greatest number of scripts
abbrev pub most_scripts : ℕ
most_scripts = 100

-- the names stand in byte order, no two of them equal
abbrev pub AreOrdered : List (List ℕ) → Type 0
AreOrdered names = IsStrictlySortedBy (slice_cmp nat_cmp) names

-- each script has a name, the names stand in byte order, and there aren't too many
pub record AreScripts (names : List (List ℕ)) (scripts : List ScriptView) : Type 0 where
  pub ordered : AreOrdered names
  pub named : All IsName names
  pub few : length names ≤ most_scripts
  pub paired : length scripts ≡ length names
