-- Runs of at most nineteen digits.
use Rattle.std.proofs.Common.{◌≡◌, ◌<◌, ◌≤◌, ◌+◌, ◌-◌, ◌*◌, ◌^◌, ◌∙◌, ℕ, List, true, length, get_or, take, arith, ap, rules}
use Rattle.std.specs.Prelude.{IsTrue}
use Rattle.std.specs.Char.{is_ascii_digit, digit_value}
use Rattle.std.specs.List.{list_all}
use Rattle.std.specs.Int.{IsInRange}
use Rattle.std.specs.Str.Parse.{AllDigits, digits_value}
use Rattle.std.proofs.Math.Nat.{pow-le-pow_right}
use Rattle.std.proofs.lemmas.Bool.Decides.{nat_tests}
use Rattle.std.proofs.lemmas.Int.Digits.{digits_value-lt, digits_value_more}
use Rattle.std.proofs.lemmas.Str.Parse.{IsNumeralModel, numerals_by_value, digit_at, digits_value-take-le}
use Rattle.ld_wire.specs.Head.{is_length}

-- digits, in the words of std's parsing
digits_model : IsNumeralModel (λ ds. list_all is_ascii_digit ds ≡ true) (digits_value 10)
digits_model = numerals_by_value _ (search rules)

digits_of : (text : List ℕ) → IsTrue (is_length text) → AllDigits 10 text
digits_of text is =
    let digits : list_all is_ascii_digit text ≡ true = grind (arith, nat_tests) in
    digits_model.to text digits

short_of : (text : List ℕ) → IsTrue (is_length text) → length text ≤ 19
short_of text is = grind (arith, nat_tests)

digit_value_is : (c : ℕ) → IsInRange 48 57 c → digit_value c ≡ c - 48
digit_value_is c inside = grind arith

-- a byte of a length is no less than the digit zero
pub digit_above : (digits : List ℕ) (i : ℕ) → IsTrue (is_length digits) → i < length digits → 48 ≤ get_or digits i 0
digit_above digits i is below = let inside = digit_at digits i (digits_of digits is) below in omega arith

-- one digit more
pub value_more : (digits : List ℕ) (i : ℕ) → IsTrue (is_length digits) → i < length digits →
    digits_value 10 (take (i + 1) digits) ≡ digits_value 10 (take i digits) * 10 + (get_or digits i 0 - 48)
value_more digits i is below =
    digits_value_more 10 digits i below
    ∙ ap (λ d. digits_value 10 (take i digits) * 10 + d)
    (digit_value_is (get_or digits i 0) (digit_at digits i (digits_of digits is) below))

-- a length is below ten to the nineteenth
value_small : (digits : List ℕ) → IsTrue (is_length digits) → digits_value 10 digits < 10 ^ 19
value_small digits is =
    let below = digits_value-lt 10 digits (digits_of digits is) in
    let most : 10 ^ length digits ≤ 10 ^ 19 = pow-le-pow_right (let ten : 0 < 10 = omega arith in ten) (short_of digits is) in
    omega arith

-- the value so far, and the next digit behind it, are no more than the whole
pub front_small : (digits : List ℕ) (i : ℕ) → IsTrue (is_length digits) → i < length digits →
    digits_value 10 (take i digits) * 10 + (get_or digits i 0 - 48) < 10 ^ 19
front_small digits i is below =
    let whole = value_small digits is in
    let front = digits_value-take-le 10 digits (i + 1) (let one : 1 ≤ 10 = omega arith in one) in
    let more = value_more digits i is below in
    omega arith
