-- What is seen of a sink from outside.
use Rattle.std.specs.Prelude.{◌≡◌, ◌<◌, ◌≤◌, ◌-◌, ◌^◌, ◌⊎◌, ◌++◌, ℕ, List, Option, IfSome, IsSomeAnd, take}

-- the bytes that it has taken, where it tells them, and how many faults it has counted
pub record SinkView : Type 0 where
  pub told : Option (List ℕ)
  pub faults : ℕ

-- The sink took just these bytes: where it tells what it has, it told that before too, and the
-- bytes came behind.
abbrev pub Took : SinkView → List ℕ → SinkView → Type 0
Took old bytes new = IfSome new.told (λ now. IsSomeAnd old.told (λ before. now ≡ before ++ bytes))

-- the sink took a front of these bytes
abbrev pub TookFront : SinkView → List ℕ → SinkView → Type 0
TookFront old bytes new = (n : ℕ) × Took old (take n bytes) new

-- the greatest number of faults that a count shows
abbrev pub last_count : ℕ
last_count = 2 ^ 64 - 1

-- a count of faults rose, or stands at the last value that it can show
abbrev pub Rose : ℕ → ℕ → Type 0
Rose before after = (before ≤ after) × ((before < after) ⊎ (after ≡ last_count))
