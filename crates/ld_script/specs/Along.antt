-- Rules that are looked at in order, each item in the light of those before it.
use Rattle.std.specs.Prelude.{List, [], ◌∷◌}
use Rattle.ld_json.specs.Rules.{Then}

-- what is known after these items
abbrev pub after : {S X : Type 0} → (S → X → S) → S → List X → S
after next known [] = known
after next known (x ∷ xs) = after next (next known x) xs

-- by what is known of the items before it, the rule refuses the first of the items that it doesn't accept
abbrev pub FirstAlong : {S X F : Type 0} → (S → X → F → Type 0) → (S → X → S) → S → List X → F → Type 0
FirstAlong rule next known [] fault = ⊥
FirstAlong rule next known (x ∷ xs) fault = Then (rule known x) (FirstAlong rule next (next known x) xs) fault
