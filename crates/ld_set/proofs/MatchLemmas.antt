-- The first number of some words that is, or isn't, among the numbers of others.
use Rattle.std.specs.Prelude.{◌≡◌, ◌≢◌, ◌+◌, ◌-◌, ◌*◌, ◌/◌, ◌%◌, ◌^◌, ◌<◌, ◌≤◌, ◌==◌, ◌&&◌, ℕ, zero, suc, Bool, true, false, not, min, List, Option, Some, None, IfSome, IfNone, bit_and, filter, length, slice_get}
use Rattle.std.proofs.Common.{arith, ap, refl, sym, ◌∙◌, inl, inr, w64, eq-eqb, get_or}
use Rattle.std.specs.Int.{bit_at, bit_not, trailing_zeros}
use Rattle.std.specs.List.{range_with_len}
use Rattle.std.proofs.lemmas.Bool.{cases_lt, ne_eqb}
use Rattle.std.proofs.lemmas.Grind.{common_steps}
use Rattle.std.proofs.lemmas.List.{get_or_past}
use Rattle.std.proofs.lemmas.Nat.Bits.{bit_at-zero, bit_at-lt, bit_at_and, bit_at_not, bit_at-trailing_zeros}
use Rattle.ld_set.specs.SetView.{is_among}
use Rattle.ld_set.specs.Words.{IsFirstMatch, IsKept, as_wanted, has_bit, matches, numbers_of}
use Rattle.ld_set.proofs.NumberLemmas.{kept_agree, kept_first, kept_none, kept_twice}
use Rattle.ld_set.proofs.WordLemmas.{among_is_bit, clear_in_zero, number_below}

-- ---- the bits of one word

both_bits : (x y : ℕ) → x < 2 → y < 2 → (min x y == 1) ≡ ((x == 1) && (y == 1))
both_bits zero zero a b = refl
both_bits zero (suc zero) a b = refl
both_bits (suc zero) zero a b = refl
both_bits (suc zero) (suc zero) a b = refl
both_bits x (suc (suc y)) a b = absurd (omega arith)
both_bits (suc (suc x)) y a b = absurd (omega arith)

other_bit : (y : ℕ) → y < 2 → (1 - y == 1) ≡ not (y == 1)
other_bit zero b = refl
other_bit (suc zero) b = refl
other_bit (suc (suc y)) b = absurd (omega arith)

pub bits_with : (word other i : ℕ) → (bit_at (bit_and word other) i == 1) ≡ ((bit_at word i == 1) && (bit_at other i == 1))
bits_with word other i =
    ap (λ n. n == 1) (bit_at_and word other i) ∙ both_bits (bit_at word i) (bit_at other i) (bit_at-lt word i) (bit_at-lt other i)

pub bits_without : (word other i : ℕ) → other < 2 ^ 64 → i < 64 →
    (bit_at (bit_and word (bit_not w64 other)) i == 1) ≡ ((bit_at word i == 1) && not (bit_at other i == 1))
bits_without word other i fits below =
    bits_with word (bit_not w64 other) i
    ∙ ap (λ b. (bit_at word i == 1) && b) (ap (λ n. n == 1) (bit_at_not w64 other i fits below) ∙ other_bit (bit_at other i) (bit_at-lt other i))

-- ---- the words

-- of two words these bits are those that match
abbrev pub AreMatching : List ℕ → List ℕ → Bool → ℕ → ℕ → Type 0
AreMatching words others wanted at bits =
    (i : ℕ) → i < 64 → (bit_at bits i == 1) ≡ ((bit_at (get_or words at 0) i == 1) && as_wanted wanted (bit_at (get_or others at 0) i == 1))

module _ (words others : List ℕ) (wanted : Bool) where
  match_is_bit : (at bits k : ℕ) → AreMatching words others wanted at bits → k / 64 ≡ at → matches words others wanted k ≡ (bit_at bits (k % 64) == 1)
  unfolding has_bit
  match_is_bit at bits k agree here = rw here (sym (agree (k % 64) (omega arith)))

  -- a word without matching bits has no number that matches
  pub none_in_word : (at bits : ℕ) → AreMatching words others wanted at bits → bits ≡ 0 →
      ((k : ℕ) → k < 64 * at → matches words others wanted k ≡ false) → (k : ℕ) → k < 64 * (at + 1) → matches words others wanted k ≡ false
  none_in_word at bits agree none before k below =
      elim (cases_lt k (64 * at)) [
        | inl earlier ↦ before k earlier
        | inr here ↦
            match_is_bit at bits k agree (omega arith)
            ∙ ne_eqb (bit_at bits (k % 64)) 1 (λ one. let zero : bit_at bits (k % 64) ≡ 0 = rw none (bit_at-zero (k % 64)) in omega arith)
      ]

  -- of the first word with matching bits the lowest is the first number that matches
  pub first_in_word : (at bits : ℕ) → AreMatching words others wanted at bits → bits ≢ 0 → bits < 2 ^ 64 →
      ((k : ℕ) → k < 64 * at → matches words others wanted k ≡ false) → IsFirstMatch words others wanted (at * 64 + trailing_zeros w64 bits)
  first_in_word at bits agree some fits before =
      let lowest = bit_at-trailing_zeros w64 bits (omega arith) fits in
      let number : ℕ = at * 64 + trailing_zeros w64 bits in
      let index : number % 64 ≡ trailing_zeros w64 bits = omega (arith, lowest.0) in
      record {
        here = match_is_bit at bits number agree (omega (arith, lowest.0)) ∙ rw index (eq-eqb _ 1 lowest.1);
        before = λ k earlier.
            elim (cases_lt k (64 * at)) [
              | inl far ↦ before k far
              | inr near ↦
                  match_is_bit at bits k agree (omega (arith, lowest.0))
                  ∙ ne_eqb (bit_at bits (k % 64)) 1 (λ one. let zero = lowest.2 (k % 64) (omega arith) in omega arith)
            ];
      }

  -- behind the last word there is no number
  pub none_behind : (at : ℕ) → length words ≤ at → ((k : ℕ) → k < 64 * at → matches words others wanted k ≡ false) →
      (k : ℕ) → matches words others wanted k ≡ false
  none_behind at past before k =
      elim (cases_lt k (64 * at)) [
        | inl here ↦ before k here
        | inr behind ↦ let clear : has_bit words k ≡ false = clear_in_zero words k (get_or_past words (k / 64) 0 (omega arith)) in rw clear refl
      ]

-- ---- two sets

module _ (words : List ℕ) (from count limit : ℕ) (kept : IsKept words from count limit) where
  module _ (others : List ℕ) (from2 count2 limit2 : ℕ) (kept2 : IsKept others from2 count2 limit2) where
    -- the numbers of the first that match are those that pass the test
    matching : (wanted : Bool) → filter (λ k. as_wanted wanted (is_among (numbers_of others limit2) k)) (numbers_of words limit)
        ≡ filter (matches words others wanted) (range_with_len 0 limit)
    matching wanted =
        kept_twice (has_bit words) (λ k. as_wanted wanted (is_among (numbers_of others limit2) k)) (range_with_len 0 limit)
        ∙ kept_agree (λ k. has_bit words k && as_wanted wanted (is_among (numbers_of others limit2) k)) (matches words others wanted) limit 0
        (λ k low below. ap (λ b. has_bit words k && as_wanted wanted b) (sym (among_is_bit others from2 count2 limit2 kept2 k)))

    match_some : (wanted : Bool) (number : ℕ) → IsFirstMatch words others wanted number →
        Some number ≡ slice_get (filter (λ k. as_wanted wanted (is_among (numbers_of others limit2) k)) (numbers_of words limit)) 0
    match_some wanted number first =
        let is_set : has_bit words number ≡ true = let here = first.here in grind (arith, common_steps) in
        rw (matching wanted)
        (sym (kept_first (matches words others wanted) number limit 0 (omega arith) (omega (arith, number_below words from count limit kept number is_set)) first.here
        first.before))

    match_none : (wanted : Bool) → ((k : ℕ) → matches words others wanted k ≡ false) →
        None ≡ slice_get (filter (λ k. as_wanted wanted (is_among (numbers_of others limit2) k)) (numbers_of words limit)) 0
    match_none wanted none =
        rw (matching wanted, kept_none (matches words others wanted) limit 0 (λ k low below. none k)) refl

    -- the first number that matches is the least that passes the test
    pub least_match : (wanted : Bool) (result : Option ℕ) → IfSome result (IsFirstMatch words others wanted) →
        IfNone result ((k : ℕ) → matches words others wanted k ≡ false) →
        result ≡ slice_get (filter (λ k. as_wanted wanted (is_among (numbers_of others limit2) k)) (numbers_of words limit)) 0
    least_match wanted None some none = match_none wanted none
    least_match wanted (Some number) some none = match_some wanted number some
