-- Rules that are looked at in order: the first that refuses gives the fault.
use Rattle.std.specs.Prelude.{◌⊎◌, List, [], ◌∷◌}

-- the rule refuses nothing
abbrev pub Accepts : {F : Type 0} → (F → Type 0) → Type 0
Accepts {F} rule = (fault : F) → rule fault → ⊥

-- the first rule refuses, or else the second
abbrev pub Then : {F : Type 0} → (F → Type 0) → (F → Type 0) → F → Type 0
Then first second fault = first fault ⊎ (Accepts first × second fault)

-- the rule refuses the first of the items that it doesn't accept
abbrev pub FirstOf : {X F : Type 0} → (X → F → Type 0) → List X → F → Type 0
FirstOf rule [] fault = ⊥
FirstOf rule (x ∷ xs) fault = Then (rule x) (FirstOf rule xs) fault
