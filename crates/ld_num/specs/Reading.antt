-- What is read of a text, and when it is refused.
use Rattle.std.specs.Prelude.{◌≡◌, ◌≢◌, ◌<◌, ◌≤◌, ◌*◌, ℕ, List, []}
use Rattle.ld_num.specs.Written.{Written, IsWritten, InDigits, longest_run, numerator, denominator}
use Rattle.ld_num.specs.declared.fraction.Frac.{Frac}
use Rattle.ld_num.specs.declared.fault.NumFault.{NumFault}
use Rattle.ld_num.specs.declared.fault.NumFault.TheVariants.{Empty, BadDigit, ZeroDenominator, TooLarge, BadUnit, NotWhole, Memory}

-- the greatest number of digits of a run
abbrev pub most_digits : ℕ
most_digits = 9

-- the fraction has the value that is written, and no run of digits is too long
pub record IsValueOf (written : Written) (fraction : Frac) : Type 0 where
  pub in_digits : InDigits written
  pub short : longest_run written ≤ most_digits
  pub positive : 0 < denominator written
  pub same : fraction.num * denominator written ≡ numerator written * fraction.den

-- The text is refused with this fault: it is empty, it is no number as it stands, it has a run of
-- too many digits, or it is divided by zero, in this order. Want of memory is no refusal of a text.
abbrev pub IsRefusal : List ℕ → NumFault → Type 0
IsRefusal text Empty = text ≡ []
IsRefusal text BadDigit = (text ≢ []) × ((written : Written) → IsWritten text written → ⊥)
IsRefusal text TooLarge = (written : Written) × IsWritten text written × (most_digits < longest_run written)
IsRefusal text ZeroDenominator =
    (written : Written) × IsWritten text written × (longest_run written ≤ most_digits) × (denominator written ≡ 0)
IsRefusal text BadUnit = ⊥
IsRefusal text NotWhole = ⊥
IsRefusal text Memory = ⊥
