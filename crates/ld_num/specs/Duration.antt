-- How a duration is written, and how long it is.
use Rattle.std.specs.Prelude.{◌≡◌, ◌<◌, ◌≤◌, ◌+◌, ◌-◌, ◌*◌, ◌/◌, ◌%◌, ◌^◌, ◌==◌, ◌||◌, ◌&&◌, ◌⊎◌, ℕ, Bool, true, false, List, [], ◌∷◌, ◌++◌, Option, Some, None, Result, Ok, Err, length, codes, is_some, nat_le, unwrap_or, if◌then◌else◌, sum_by}
use Rattle.std.specs.Char.{is_ascii_digit}
use Rattle.std.specs.List.{AllByRecursion, before_first, after_first, flat_map, list_all}
use Rattle.std.specs.Str.{bytes_eq}
use Rattle.std.specs.Str.Parse.{AllDigits, digits_value}
use Rattle.ld_num.specs.Written.{point}
use Rattle.ld_num.specs.declared.fault.NumFault.{NumFault}
use Rattle.ld_num.specs.declared.fault.NumFault.TheVariants.{Empty, BadDigit, ZeroDenominator, TooLarge, BadUnit, NotWhole, Memory}

-- the digits before the first point, and those behind it
abbrev pub whole_of : List ℕ → List ℕ
whole_of number = before_first (λ b. b == point) number

abbrev pub part_of : List ℕ → List ℕ
part_of number = after_first (λ b. b == point) number

-- digits, or digits with one point before, among or behind them
pub record IsNumber (number : List ℕ) : Type 0 where
  pub whole : AllDigits 10 (whole_of number)
  pub part : AllDigits 10 (part_of number)
  pub some : 0 < length (whole_of number) + length (part_of number)

-- a number and a unit
pub record Term : Type 0 where
  pub number : List ℕ
  pub unit : List ℕ

-- a byte of a number: a digit or a point
abbrev pub is_number_byte : ℕ → Bool
is_number_byte b = is_ascii_digit b || b == point

-- a unit is one byte or more, none of which is of a number
pub record IsTerm (t : Term) : Type 0 where
  pub number : IsNumber t.number
  pub some : 0 < length t.unit
  pub unit : AllByRecursion (λ b. is_number_byte b ≡ false) t.unit

abbrev pub term_spelling : Term → List ℕ
term_spelling t = t.number ++ t.unit

-- the text is these terms, one behind the other
pub record IsList (text : List ℕ) (terms : List Term) : Type 0 where
  pub spelled : text ≡ flat_map term_spelling terms
  pub each : AllByRecursion IsTerm terms

-- a text is one term or more, or a number alone, which counts milliseconds
abbrev pub milliseconds : List ℕ → Term
milliseconds number = record { number = number; unit = codes "ms" }

pub record AreTerms (text : List ℕ) (terms : List Term) : Type 0 where
  pub list : IsList text terms
  pub some : 0 < length terms

abbrev pub IsDuration : List ℕ → List Term → Type 0
IsDuration text terms = AreTerms text terms ⊎ (IsNumber text × (terms ≡ milliseconds text ∷ []))

-- the units, in nanoseconds; the first letter of microseconds may be U+00B5 or U+03BC
abbrev pub unit_length : List ℕ → Option ℕ
unit_length unit =
    if bytes_eq unit (codes "ns") then Some 1
    else if bytes_eq unit (codes "us") || bytes_eq unit (194 ∷ 181 ∷ 115 ∷ []) || bytes_eq unit (206 ∷ 188 ∷ 115 ∷ []) then Some 1000
    else if bytes_eq unit (codes "ms") then Some 1000000
    else if bytes_eq unit (codes "s") then Some 1000000000
    else if bytes_eq unit (codes "m") then Some 60000000000
    else if bytes_eq unit (codes "h") then Some 3600000000000
    else if bytes_eq unit (codes "d") then Some 86400000000000
    else None

abbrev pub is_known : Term → Bool
is_known t = is_some (unit_length t.unit)

-- at most 16 digits before the point and 9 behind it
abbrev pub is_short : Term → Bool
is_short t = nat_le (length (whole_of t.number)) 16 && nat_le (length (part_of t.number)) 9

-- a number in billionths, which is exact where at most 9 digits stand behind its point
abbrev pub billionths : List ℕ → ℕ
billionths number =
    digits_value 10 (whole_of number) * 10 ^ 9 + digits_value 10 (part_of number) * 10 ^ (9 - length (part_of number))

-- the length of a term in billionths of a nanosecond
abbrev pub term_length : Term → ℕ
term_length t = billionths t.number * unwrap_or (unit_length t.unit) 0

-- a term is a whole number of nanoseconds
abbrev pub is_whole : Term → Bool
is_whole t = term_length t % 10 ^ 9 == 0

-- 30 days in billionths of a nanosecond
abbrev pub longest : ℕ
longest = 2592000000000000 * 10 ^ 9

-- the terms are so many nanoseconds
pub record HaveLength (terms : List Term) (nanoseconds : ℕ) : Type 0 where
  pub known : list_all is_known terms ≡ true
  pub short : list_all is_short terms ≡ true
  pub small : sum_by term_length terms ≤ longest
  pub whole : list_all is_whole terms ≡ true
  pub sum : nanoseconds ≡ sum_by term_length terms / 10 ^ 9

-- Terms are refused for a unit that isn't listed, a run of too many digits or a sum of more than 30
-- days, or a term that is no whole number of nanoseconds, in this order.
abbrev pub RefusesTerms : List Term → NumFault → Type 0
RefusesTerms terms BadUnit = list_all is_known terms ≡ false
RefusesTerms terms TooLarge =
    (list_all is_known terms ≡ true) × (list_all is_short terms ≡ true → longest < sum_by term_length terms)
RefusesTerms terms NotWhole =
    (list_all is_known terms ≡ true)
    × (list_all is_short terms ≡ true)
    × (sum_by term_length terms ≤ longest)
    × (list_all is_whole terms ≡ false)
RefusesTerms terms Empty = ⊥
RefusesTerms terms BadDigit = ⊥
RefusesTerms terms ZeroDenominator = ⊥
RefusesTerms terms Memory = ⊥

abbrev pub IsDurationRefusal : List ℕ → NumFault → Type 0
IsDurationRefusal text Empty = text ≡ []
IsDurationRefusal text BadDigit = (text ≡ [] → ⊥) × ((terms : List Term) → IsDuration text terms → ⊥)
IsDurationRefusal text BadUnit = (terms : List Term) × IsDuration text terms × RefusesTerms terms BadUnit
IsDurationRefusal text TooLarge = (terms : List Term) × IsDuration text terms × RefusesTerms terms TooLarge
IsDurationRefusal text NotWhole = (terms : List Term) × IsDuration text terms × RefusesTerms terms NotWhole
IsDurationRefusal text ZeroDenominator = ⊥
IsDurationRefusal text Memory = ⊥

abbrev pub Answers : List Term → Result ℕ NumFault → Type 0
Answers terms (Ok nanoseconds) = HaveLength terms nanoseconds
Answers terms (Err fault) = RefusesTerms terms fault
