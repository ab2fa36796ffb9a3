-- How a number is written: as a quotient, a decimal or a percentage.
use Rattle.std.specs.Prelude.{◌≡◌, ◌+◌, ◌*◌, ◌^◌, ℕ, List, ◌∷◌, [], ◌++◌, length, max}
use Rattle.std.specs.Str.Parse.{IsNumeral, digits_value}

-- a run of digits, or two with a point between them
pub data Amount : Type 0 where
  Whole : (digits : List ℕ) → Amount
  Decimal : (whole part : List ℕ) → Amount

-- two runs of digits with a stroke between them, or an amount, or one with a percent sign behind it
pub data Written : Type 0 where
  Quotient : (over under : List ℕ) → Written
  Plain : (amount : Amount) → Written
  Percentage : (amount : Amount) → Written

-- the bytes / . %
abbrev pub stroke : ℕ
stroke = 47

abbrev pub point : ℕ
point = 46

abbrev pub percent_sign : ℕ
percent_sign = 37

abbrev pub amount_spelling : Amount → List ℕ
amount_spelling (Whole digits) = digits
amount_spelling (Decimal whole part) = whole ++ point ∷ part

abbrev pub spelling : Written → List ℕ
spelling (Quotient over under) = over ++ stroke ∷ under
spelling (Plain amount) = amount_spelling amount
spelling (Percentage amount) = amount_spelling amount ++ percent_sign ∷ []

-- each run has a digit or more, and nothing else
abbrev pub AmountInDigits : Amount → Type 0
AmountInDigits (Whole digits) = IsNumeral 10 digits
AmountInDigits (Decimal whole part) = IsNumeral 10 whole × IsNumeral 10 part

abbrev pub InDigits : Written → Type 0
InDigits (Quotient over under) = IsNumeral 10 over × IsNumeral 10 under
InDigits (Plain amount) = AmountInDigits amount
InDigits (Percentage amount) = AmountInDigits amount

-- the text is written so
pub record IsWritten (text : List ℕ) (written : Written) : Type 0 where
  pub spelled : text ≡ spelling written
  pub in_digits : InDigits written

-- the length of the longest run of digits
abbrev pub amount_longest_run : Amount → ℕ
amount_longest_run (Whole digits) = length digits
amount_longest_run (Decimal whole part) = max (length whole) (length part)

abbrev pub longest_run : Written → ℕ
longest_run (Quotient over under) = max (length over) (length under)
longest_run (Plain amount) = amount_longest_run amount
longest_run (Percentage amount) = amount_longest_run amount

-- The value is a numerator over a denominator. What stands behind a point is so many tenths,
-- hundredths, and so on, of as many places as it has digits.
abbrev pub amount_numerator : Amount → ℕ
amount_numerator (Whole digits) = digits_value 10 digits
amount_numerator (Decimal whole part) = digits_value 10 whole * 10 ^ length part + digits_value 10 part

abbrev pub amount_denominator : Amount → ℕ
amount_denominator (Whole digits) = 1
amount_denominator (Decimal whole part) = 10 ^ length part

abbrev pub numerator : Written → ℕ
numerator (Quotient over under) = digits_value 10 over
numerator (Plain amount) = amount_numerator amount
numerator (Percentage amount) = amount_numerator amount

-- a percentage is so many hundredths
abbrev pub denominator : Written → ℕ
denominator (Quotient over under) = digits_value 10 under
denominator (Plain amount) = amount_denominator amount
denominator (Percentage amount) = amount_denominator amount * 100
