-- The names that scripts use.
use Rattle.std.specs.Prelude.{◌≡◌, ◌≢◌, ◌≤◌, ◌++◌, ℕ, List, [], ◌∷◌, bytes_eq, length, if◌then◌else◌}
use Rattle.std.specs.List.{AllPairs, list_any}
use Rattle.ld_base.specs.declared.metric.NameSpec.{NameSpec}

-- names in the order in which they are first used, and what the samples of each are
pub record NamesView : Type 0 where
  pub texts : List (List ℕ)
  pub specs : List NameSpec

-- the greatest number of names
abbrev pub most_names : ℕ
most_names = 1000

-- no two names are equal, each has what its samples are, and there aren't too many
pub record AreNames (names : NamesView) : Type 0 where
  pub apart : AllPairs (λ x y. x ≢ y) names.texts
  pub paired : length names.specs ≡ length names.texts
  pub few : length names.texts ≤ most_names

-- no names
abbrev pub no_names : NamesView
no_names = record { texts = []; specs = [] }

-- the names with one more at their end
abbrev pub with_name : NamesView → List ℕ → NameSpec → NamesView
with_name names text spec = record { texts = names.texts ++ text ∷ []; specs = names.specs ++ spec ∷ [] }

-- the names behind the use of one, which goes to the end where it is new
abbrev pub noted : NamesView → List ℕ → NameSpec → NamesView
noted names text spec =
    if list_any (λ known. bytes_eq known text) names.texts then names else with_name names text spec
