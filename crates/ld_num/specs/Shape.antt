-- The one way in which a text can be written, if it is a number: a stroke makes it a quotient, and
-- else a percent sign at its end a percentage, and a point in what is left a decimal.
use Rattle.std.specs.Prelude.{◌≡◌, ◌<◌, ◌≤◌, ◌==◌, ◌-◌, ℕ, Bool, true, false, List, length, take, nat_lt, if◌then◌else◌, slice_index, Result, Ok, Err}
use Rattle.std.specs.List.{before_first, after_first, position_or_len}
use Rattle.ld_num.specs.Written.{Amount, Whole, Decimal, Written, Quotient, Plain, Percentage, InDigits, longest_run, denominator, stroke, point, percent_sign}
use Rattle.ld_num.specs.Reading.{IsValueOf, most_digits}
use Rattle.ld_num.specs.declared.fraction.Frac.{Frac}
use Rattle.ld_num.specs.declared.fault.NumFault.{NumFault}
use Rattle.ld_num.specs.declared.fault.NumFault.TheVariants.{Empty, BadDigit, ZeroDenominator, TooLarge, BadUnit, NotWhole, Memory}

-- the byte stands in the text
abbrev pub has : ℕ → List ℕ → Bool
has mark text = nat_lt (position_or_len (λ b. b == mark) text) (length text)

-- an amount, with a percent sign behind it or without
abbrev pub with_percent : Bool → Amount → Written
with_percent true amount = Percentage amount
with_percent false amount = Plain amount

abbrev pub amount_shape : List ℕ → Amount
amount_shape text =
    if has point text then Decimal (before_first (λ b. b == point) text) (after_first (λ b. b == point) text)
    else Whole text

-- the text ends in a percent sign
abbrev pub has_percent : List ℕ → Bool
has_percent text = slice_index text (length text - 1) == percent_sign

abbrev pub shape_of : List ℕ → Written
shape_of text =
    if has stroke text then Quotient (before_first (λ b. b == stroke) text) (after_first (λ b. b == stroke) text)
    else if has_percent text then Percentage (amount_shape (take (length text - 1) text))
    else Plain (amount_shape text)

-- What is read of a text of this shape, whether or not it is a number.
abbrev pub Faults : Written → NumFault → Type 0
Faults written BadDigit = InDigits written → ⊥
Faults written TooLarge = InDigits written × (most_digits < longest_run written)
Faults written ZeroDenominator = InDigits written × (longest_run written ≤ most_digits) × (denominator written ≡ 0)
Faults written Empty = ⊥
Faults written BadUnit = ⊥
Faults written NotWhole = ⊥
Faults written Memory = ⊥

abbrev pub Reads : Written → Result Frac NumFault → Type 0
Reads written (Ok fraction) = IsValueOf written fraction
Reads written (Err fault) = Faults written fault
