-- Striping: which position owns each index, by a pattern that follows the weights and repeats.
use Rattle.std.specs.Prelude.{◌≡◌, ◌≢◌, ◌<◌, ◌≤◌, ◌*◌, ◌%◌, ◌==◌, ◌⊎◌, ℕ, List, All, length, map, sum, take, count_by, filter, slice_index}
use Rattle.std.specs.List.{range_with_len}
use Rattle.std.specs.Int.{◌∣◌}

-- A striping as it is seen: the weights of the positions, and the owner of each index of one period.
pub record Striping : Type 0 where
  pub weights : List ℕ
  pub owners : List ℕ

-- how many of these owners are position j
abbrev pub given : List ℕ → ℕ → ℕ
given owners j = count_by (λ k. k == j) owners

-- Behind the owners of all earlier indices position j is due: it has a weight, and has been given
-- no more than that weight's part of the indices so far.
pub record IsDue (weights before : List ℕ) (j : ℕ) : Type 0 where
  pub weighted : 0 < slice_index weights j
  pub behind : given before j * sum weights ≤ length before * slice_index weights j

-- the order of positions: more weight first, and of equal weights the smaller position
abbrev pub Precedes : List ℕ → ℕ → ℕ → Type 0
Precedes weights j k =
    (slice_index weights k < slice_index weights j)
    ⊎ ((slice_index weights k ≡ slice_index weights j) × (j < k))

-- position j is the first in the order that is due
pub record IsFirstDue (weights before : List ℕ) (j : ℕ) : Type 0 where
  pub due : IsDue weights before j
  pub first : (k : ℕ) → IsDue weights before k → k ≢ j → Precedes weights j k

-- each of these owners is the first that was due behind those before it
abbrev pub FollowsWeights : List ℕ → List ℕ → Type 0
FollowsWeights weights owners =
    (i : ℕ) → i < length owners → IsFirstDue weights (take i owners) (slice_index owners i)

-- the owners are the striping of the weights: they follow the weights for one period, their sum
pub record IsStriping (weights owners : List ℕ) : Type 0 where
  pub period : length owners ≡ sum weights
  pub follows : FollowsWeights weights owners

-- the owner of index x, where the owners of one period repeat
abbrev pub owner_at : List ℕ → ℕ → ℕ
owner_at owners x = slice_index owners (x % length owners)

-- the indices below v that position j owns, in order
abbrev pub owned_indices : List ℕ → ℕ → ℕ → List ℕ
owned_indices owners j v = filter (λ x. owner_at owners x == j) (range_with_len 0 v)

-- how many of the indices below v position j owns
abbrev pub share_at : List ℕ → ℕ → ℕ → ℕ
share_at owners j v = count_by (λ x. owner_at owners x == j) (range_with_len 0 v)

-- d divides each of the numbers
abbrev pub DividesAll : ℕ → List ℕ → Type 0
DividesAll d numbers = All (λ n. d ∣ n) numbers

-- g is the greatest common divisor of the numbers: it divides each, and so do just its own divisors
pub record IsGreatestDivisor (numbers : List ℕ) (g : ℕ) : Type 0 where
  pub divides : DividesAll g numbers
  pub greatest : (d : ℕ) → DividesAll d numbers → d ∣ g

-- the reduced numbers are the numbers, each divided by the greatest common divisor of all
pub record IsLowestTerms (numbers reduced : List ℕ) : Type 0 where
  pub divisor : ℕ
  pub is_greatest : IsGreatestDivisor numbers divisor
  pub multiples : numbers ≡ map (λ n. divisor * n) reduced

-- a striping of these weights: they are brought to lowest terms, and the owners follow those
pub record IsStripingOf (weights : List ℕ) (s : Striping) : Type 0 where
  pub lowest_terms : IsLowestTerms weights s.weights
  pub striping : IsStriping s.weights s.owners

-- how many of the indices below v each position owns, in order of positions
abbrev pub shares_at : Striping → ℕ → List ℕ
shares_at s v = map (λ j. share_at s.owners j v) (range_with_len 0 (length s.weights))
