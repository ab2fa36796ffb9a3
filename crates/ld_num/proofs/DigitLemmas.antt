-- Runs of digits.
use Rattle.std.proofs.Common.{◌≡◌, ◌<◌, ◌≤◌, ◌+◌, ◌-◌, ◌*◌, ◌^◌, ◌∙◌, ℕ, List, Bool, true, length, get_or, take, arith, ap, sym, rules}
use Rattle.std.specs.Prelude.{◌↔◌, IsTrue}
use Rattle.std.specs.Char.{is_ascii_digit, digit_value}
use Rattle.std.specs.List.{list_all}
use Rattle.std.specs.Int.{IsInRange}
use Rattle.std.specs.Str.Parse.{IsNumeral, AllDigits, digits_value}
use Rattle.std.proofs.Math.Nat.{one-le-pow, pow-le-pow_right}
use Rattle.std.proofs.lemmas.Int.Digits.{digits_value-lt, digits_value_more}
use Rattle.std.proofs.lemmas.Str.Parse.{IsNumeralModel, numerals_by_value, digit_at, digits_value-take-le}

-- digits, in the words of std's parsing
digits_model : IsNumeralModel (λ ds. list_all is_ascii_digit ds ≡ true) (digits_value 10)
digits_model = numerals_by_value _ (search rules)

pub digits_from_test : (text : List ℕ) → list_all is_ascii_digit text ≡ true → AllDigits 10 text
digits_from_test text all = digits_model.to text all

pub test_from_digits : (text : List ℕ) → AllDigits 10 text → list_all is_ascii_digit text ≡ true
test_from_digits text all = digits_model.from text all

digit_value_is : (c : ℕ) → IsInRange 48 57 c → digit_value c ≡ c - 48
digit_value_is c inside = grind arith

pub digit_above : (digits : List ℕ) (i : ℕ) → AllDigits 10 digits → i < length digits → 48 ≤ get_or digits i 0
digit_above digits i all below = let inside = digit_at digits i all below in omega arith

-- one digit more
pub value_more : (digits : List ℕ) (i : ℕ) → AllDigits 10 digits → i < length digits →
    digits_value 10 (take (i + 1) digits) ≡ digits_value 10 (take i digits) * 10 + (get_or digits i 0 - 48)
value_more digits i all below =
    digits_value_more 10 digits i below
    ∙ ap (λ d. digits_value 10 (take i digits) * 10 + d) (digit_value_is (get_or digits i 0) (digit_at digits i all below))

pub value_small : (digits : List ℕ) (most : ℕ) → AllDigits 10 digits → length digits ≤ most → digits_value 10 digits < 10 ^ most
value_small digits most all short =
    let below = digits_value-lt 10 digits all in
    let most : 10 ^ length digits ≤ 10 ^ most = pow-le-pow_right (let ten : 0 < 10 = omega arith in ten) short in
    omega arith

pub front_small : (digits : List ℕ) (i : ℕ) → AllDigits 10 digits → length digits ≤ 16 → digits_value 10 (take i digits) < 10 ^ 16
front_small digits i all short =
    let whole = value_small digits 16 all short in
    let front = digits_value-take-le 10 digits i (let one : 1 ≤ 10 = omega arith in one) in
    omega arith

pub power_positive : (n : ℕ) → 0 < 10 ^ n
power_positive n = one-le-pow n 10 (let ten : 0 < 10 = omega arith in ten)

pub numeral_test : (text : List ℕ) (b : Bool) → 0 < length text → b ≡ list_all is_ascii_digit text → IsTrue b ↔ IsNumeral 10 text
numeral_test text b some same =
    (λ is. (some, digits_from_test text (sym same ∙ is)), λ is. same ∙ test_from_digits text is.1)
