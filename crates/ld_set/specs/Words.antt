-- How the words of a set hold its numbers.
use Rattle.std.specs.Prelude.{◌≡◌, ◌≢◌, ◌*◌, ◌/◌, ◌%◌, ◌^◌, ◌<◌, ◌≤◌, ◌==◌, ◌&&◌, ℕ, Bool, true, false, not, List, filter, length, slice_index}
use Rattle.std.specs.Int.{bit_at, div_ceil}
use Rattle.std.specs.List.{range_with_len}

-- whether the number's bit is set: bit number % 64 of word number / 64
unfoldable pub has_bit : List ℕ → ℕ → Bool
has_bit words number = bit_at (slice_index words (number / 64)) (number % 64) == 1

-- the numbers below the limit whose bits are set, in order
abbrev pub numbers_of : List ℕ → ℕ → List ℕ
numbers_of words limit = filter (has_bit words) (range_with_len 0 limit)

-- there is a word for each 64 numbers below the limit, which is a u32, and no bit is set from the limit on; the count
-- is that of the numbers, and word `from` is the first that isn't 0, or behind the last
pub record IsKept (words : List ℕ) (from count limit : ℕ) : Type 0 where
  pub small : limit < 2 ^ 32
  pub room : length words ≡ div_ceil limit 64
  pub within : (number : ℕ) → limit ≤ number → has_bit words number ≡ false
  pub counted : count ≡ length (numbers_of words limit)
  pub some : from ≤ length words
  pub before : (number : ℕ) → number < 64 * from → has_bit words number ≡ false
  pub used : from < length words → slice_index words from ≢ 0

-- a test that is to hold, or is to fail
abbrev pub as_wanted : Bool → Bool → Bool
as_wanted true test = test
as_wanted false test = not test

-- the number's bit is set in these words, and in the others as it is wanted
abbrev pub matches : List ℕ → List ℕ → Bool → ℕ → Bool
matches words others wanted number = has_bit words number && as_wanted wanted (has_bit others number)

-- the first number for which this holds
pub record IsFirstMatch (words others : List ℕ) (wanted : Bool) (number : ℕ) : Type 0 where
  pub here : matches words others wanted number ≡ true
  pub before : (k : ℕ) → k < number → matches words others wanted k ≡ false
