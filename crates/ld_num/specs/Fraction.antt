-- The values of fractions.
use Rattle.std.specs.Prelude.{◌≡◌, ◌*◌, ℕ}
use Rattle.std.specs.Ordering.{nat_cmp}
use Rattle.std.specs.declared.cmp.Ordering.{Ordering}
use Rattle.ld_num.specs.declared.fraction.Frac.{Frac}

-- the order of two values: a/b is less than c/d exactly where a * d is less than c * b
abbrev pub value_cmp : Frac → Frac → Ordering
value_cmp p q = nat_cmp (p.num * q.den) (q.num * p.den)

-- the fraction has these two numbers
pub record HasNumbers (p : Frac) (num den : ℕ) : Type 0 where
  pub num_is : p.num ≡ num
  pub den_is : p.den ≡ den
