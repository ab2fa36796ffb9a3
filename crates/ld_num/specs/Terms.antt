-- Numbers without a common divisor.
use Rattle.std.specs.Prelude.{◌≡◌, ℕ}
use Rattle.std.specs.Int.{◌∣◌}

-- no number but 1 divides both
abbrev pub AreCoprime : ℕ → ℕ → Type 0
AreCoprime a b = (d : ℕ) → d ∣ a → d ∣ b → d ≡ 1
