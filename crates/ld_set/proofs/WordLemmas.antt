-- What the bits of words say, when one bit is set or cleared, and where the first of them stands.
use Rattle.std.specs.Prelude.{◌≡◌, ◌≢◌, ◌+◌, ◌-◌, ◌*◌, ◌/◌, ◌%◌, ◌^◌, ◌<◌, ◌≤◌, ◌==◌, ℕ, true, false, min, List, [], Some, None, bit_and, bit_or, length, replicate, slice_get}
use Rattle.std.proofs.Common.{arith, ap, refl, sym, ◌∙◌, inl, inr, w64, eq-eqb, get_or, set, length-set, get_or-set_same, get_or-set_other}
use Rattle.std.specs.Int.{bit_at, bit_not, div_ceil, trailing_zeros}
use Rattle.std.specs.List.{range_with_len}
use Rattle.std.proofs.lemmas.Bool.{cases_eq, cases_lt, ne_eqb, true≢false}
use Rattle.std.proofs.lemmas.List.{get_or_past, get_or-replicate, length-replicate}
use Rattle.std.proofs.lemmas.Nat.{one_shl}
use Rattle.std.proofs.lemmas.List.FromFn.{length-range_with_len}
use Rattle.std.proofs.lemmas.Nat.Bits.{bit_at-zero, bit_at_ones, bit_at_ones_above, bit_at-trailing_zeros, bit_at_set_same, bit_at_set_other, bit_at_clear_same, bit_at_clear_other}
use Rattle.ld_set.specs.SetView.{is_among, with_number, without_number}
use Rattle.ld_set.specs.Words.{has_bit, numbers_of, IsKept}
use Rattle.ld_set.proofs.NumberLemmas.{among_kept, kept_all, kept_few, kept_first, kept_none, not_among_kept, one_more_kept, with_number_kept, without_number_kept}

-- ---- one bit

-- a number is in exactly where its bit is 1
bit_is_set : (words : List ℕ) (number : ℕ) → bit_at (get_or words (number / 64) 0) (number % 64) ≡ 1 → has_bit words number ≡ true
unfolding has_bit
bit_is_set words number one = eq-eqb _ 1 one

bit_is_clear : (words : List ℕ) (number : ℕ) → bit_at (get_or words (number / 64) 0) (number % 64) ≡ 0 → has_bit words number ≡ false
unfolding has_bit
bit_is_clear words number zero = ne_eqb _ 1 (λ one. omega arith)

-- a word that is 0 has no number, and one with a number isn't 0
pub clear_in_zero : (words : List ℕ) (number : ℕ) → get_or words (number / 64) 0 ≡ 0 → has_bit words number ≡ false
clear_in_zero words number none = bit_is_clear words number (rw none (bit_at-zero (number % 64)))

set_in_some : (words : List ℕ) (number : ℕ) → has_bit words number ≡ true → get_or words (number / 64) 0 ≢ 0
set_in_some words number is_set none = true≢false (sym is_set ∙ clear_in_zero words number none)

-- ---- one bit that changes

module _ (words : List ℕ) (number : ℕ) (within : number / 64 < length words) where
  -- the words, where the number's word is this
  abbrev changed : ℕ → List ℕ
  changed word = set words (number / 64) word

  module _ (word : ℕ) (kept : (i : ℕ) → i < 64 → i ≢ number % 64 → bit_at word i ≡ bit_at (get_or words (number / 64) 0) i) where
    -- a word that keeps its other bits keeps all other numbers
    others_kept : (other : ℕ) → other ≢ number → has_bit (changed word) other ≡ has_bit words other
    unfolding has_bit
    others_kept other differs =
        elim (cases_eq (other / 64) (number / 64)) [
          | inl same ↦
              let bits = kept (other % 64) (omega arith) (λ e. differs (omega arith)) in
              rw (same, get_or-set_same words (number / 64) word 0 within) (ap (λ b. b == 1) bits)
          | inr apart ↦ ap (λ n. bit_at n (other % 64) == 1) (get_or-set_other words (number / 64) (other / 64) word 0 apart)
        ]

  -- the number's word with its bit, and without it
  abbrev word_with : ℕ
  word_with = bit_or (get_or words (number / 64) 0) (1 * 2 ^ (number % 64) % 2 ^ 64)

  abbrev word_without : ℕ
  word_without = bit_and (get_or words (number / 64) 0) (bit_not w64 (1 * 2 ^ (number % 64) % 2 ^ 64))

  -- with its bit the number is in, without it it isn't, and all others stay
  put_here : has_bit (set words (number / 64) word_with) number ≡ true
  put_here =
      bit_is_set (changed word_with) number
      (ap (λ n. bit_at n (number % 64)) (get_or-set_same words (number / 64) word_with 0 within)
      ∙ bit_at_set_same w64 (get_or words (number / 64) 0) (number % 64) (omega arith))

  put_others : (other : ℕ) → other ≢ number → has_bit (set words (number / 64) word_with) other ≡ has_bit words other
  put_others = others_kept word_with (λ i below differs. bit_at_set_other w64 (get_or words (number / 64) 0) (number % 64) (omega arith) i differs)

  taken_here : has_bit (set words (number / 64) word_without) number ≡ false
  taken_here =
      bit_is_clear (changed word_without) number
      (ap (λ n. bit_at n (number % 64)) (get_or-set_same words (number / 64) word_without 0 within)
      ∙ bit_at_clear_same w64 (get_or words (number / 64) 0) (number % 64) (omega arith))

  taken_others : (other : ℕ) → other ≢ number → has_bit (set words (number / 64) word_without) other ≡ has_bit words other
  taken_others =
      others_kept word_without (λ i below differs. bit_at_clear_other w64 (get_or words (number / 64) 0) (number % 64) (omega arith) i below differs)

-- ---- words as they are first

-- words that are all 0
pub zeros_kept : (limit : ℕ) → limit < 2 ^ 32 →
    let words : List ℕ = replicate (div_ceil limit 64) 0 in
    IsKept words (div_ceil limit 64) 0 limit × (numbers_of words limit ≡ [])
zeros_kept limit small =
    let words : List ℕ = replicate (div_ceil limit 64) 0 in
    let long : length words ≡ div_ceil limit 64 = length-replicate (div_ceil limit 64) 0 in
    let clear : (k : ℕ) → has_bit words k ≡ false = λ k.
    elim (cases_lt (k / 64) (div_ceil limit 64)) [
      | inl here ↦ clear_in_zero words k (get_or-replicate (div_ceil limit 64) (k / 64) 0 0 here)
      | inr past ↦ clear_in_zero words k (get_or_past words (k / 64) 0 (omega arith))
    ] in
    let none : numbers_of words limit ≡ [] = kept_none (has_bit words) limit 0 (λ k from to. clear k) in (
      record {
        small = small;
        room = long;
        within = λ k above. clear k;
        counted = sym (ap (λ (ks : List ℕ). length ks) none);
        some = omega arith;
        before = λ k low. clear k;
        used = λ inside. absurd (omega arith);
      },
      none,
    )

-- words of which each bit is set that stands for a number below the limit, and no other
all_kept : (words : List ℕ) (limit : ℕ) → limit < 2 ^ 32 → length words ≡ div_ceil limit 64 →
    ((i : ℕ) → i < limit / 64 → get_or words i 0 ≡ 2 ^ 64 - 1) → (0 < limit % 64 → get_or words (limit / 64) 0 ≡ 2 ^ (limit % 64) - 1) →
    IsKept words 0 limit limit × (numbers_of words limit ≡ range_with_len 0 limit)
all_kept words limit small long whole last =
    let inside : (k : ℕ) → k < limit → has_bit words k ≡ true = λ k below.
    elim (cases_lt (k / 64) (limit / 64)) [
      | inl earlier ↦ bit_is_set words k (rw (whole (k / 64) earlier) (bit_at_ones 64 (k % 64) (omega arith)))
      | inr later ↦
          let at : k / 64 ≡ limit / 64 = omega arith in
          bit_is_set words k (rw (at, last (omega arith)) (bit_at_ones (limit % 64) (k % 64) (omega arith)))
    ] in
    let outside : (k : ℕ) → limit ≤ k → has_bit words k ≡ false = λ k above.
    elim (cases_lt (k / 64) (length words)) [
      | inl here ↦
          let at : k / 64 ≡ limit / 64 = omega arith in
          bit_is_clear words k (rw (at, last (omega arith)) (bit_at_ones_above (limit % 64) (k % 64) (omega arith)))
      | inr past ↦ clear_in_zero words k (get_or_past words (k / 64) 0 past)
    ] in
    let all : numbers_of words limit ≡ range_with_len 0 limit = kept_all (has_bit words) limit 0 (λ k from to. inside k (omega arith)) in (
      record {
        small = small;
        room = long;
        within = outside;
        counted = sym (ap (λ (ks : List ℕ). length ks) all ∙ length-range_with_len 0 limit);
        some = omega arith;
        before = λ k low. absurd (omega arith);
        used = λ some. set_in_some words 0 (inside 0 (omega arith));
      },
      all,
    )

-- words of ones, where the limit is a whole number of words
pub ones_kept : (limit : ℕ) → limit < 2 ^ 32 → limit % 64 ≡ 0 →
    let words : List ℕ = replicate (div_ceil limit 64) (2 ^ 64 - 1) in
    IsKept words 0 limit limit × (numbers_of words limit ≡ range_with_len 0 limit)
ones_kept limit small whole =
    let n : ℕ = div_ceil limit 64 in
    all_kept (replicate n (2 ^ 64 - 1)) limit small (length-replicate n (2 ^ 64 - 1))
    (λ i earlier. get_or-replicate n i (2 ^ 64 - 1) 0 (omega arith)) (λ some. absurd (omega arith))

-- words of ones, the last of which is cut
pub cut_kept : (limit : ℕ) → limit < 2 ^ 32 → 0 < limit % 64 →
    let words : List ℕ = set (replicate (div_ceil limit 64) (2 ^ 64 - 1)) (limit / 64) (1 * 2 ^ (limit % 64) % 2 ^ 64 - 1) in
    IsKept words 0 limit limit × (numbers_of words limit ≡ range_with_len 0 limit)
cut_kept limit small some =
    let n : ℕ = div_ceil limit 64 in
    let ones : List ℕ = replicate n (2 ^ 64 - 1) in
    let last : ℕ = 1 * 2 ^ (limit % 64) % 2 ^ 64 - 1 in
    let long : length ones ≡ n = length-replicate n (2 ^ 64 - 1) in
    all_kept (set ones (limit / 64) last) limit small (length-set ones (limit / 64) last ∙ long)
    (λ i earlier. get_or-set_other ones (limit / 64) i last 0 (λ e. omega arith) ∙ get_or-replicate n i (2 ^ 64 - 1) 0 (omega arith))
    (λ _. get_or-set_same ones (limit / 64) last 0 (omega arith) ∙ ap (λ m. m - 1) (one_shl (limit % 64) 64 (omega arith)))

-- ---- what a set keeps true

module _ (words : List ℕ) (from count limit : ℕ) (kept : IsKept words from count limit) where
  -- there are no more numbers than the limit
  pub count_few : count ≤ limit
  count_few = omega (arith, kept.counted, kept_few (has_bit words) limit 0)

  -- a number of the set is below the limit, and one below the limit has a word
  pub number_below : (number : ℕ) → has_bit words number ≡ true → number < limit
  number_below number is_set =
      elim (cases_lt number limit) [
        | inl below ↦ below
        | inr above ↦ absurd (true≢false (sym is_set ∙ kept.within number above))
      ]

  pub word_within : (number : ℕ) → number < limit → number / 64 < length words
  word_within number below = omega (arith, kept.room)

  -- what is among the numbers has its bit, and what isn't has none
  pub among_is_bit : (number : ℕ) → is_among (numbers_of words limit) number ≡ has_bit words number
  among_is_bit number =
      elim (cases_lt number limit) [
        | inl below ↦ among_kept (has_bit words) number limit 0 (omega arith) (omega arith)
        | inr above ↦
            not_among_kept (has_bit words) number limit 0 (λ k from to passes same. omega arith) ∙ sym (kept.within number above)
      ]

  module _ (number : ℕ) (below : number < limit) where
    -- all of this stays true where a number is put
    pub put_kept : has_bit words number ≡ false →
        let new : List ℕ = set words (number / 64) (word_with words number (word_within number below)) in
        IsKept new (min from (number / 64)) (count + 1) limit
    put_kept not_yet =
        let at = word_within number below in
        let word = word_with words number at in
        let new : List ℕ = set words (number / 64) word in
        let here = put_here words number at in
        let others = put_others words number at in
        let long = length-set words (number / 64) word in
        record {
          small = kept.small;
          room = long ∙ kept.room;
          within = λ k above. others k (λ e. omega arith) ∙ kept.within k above;
          counted =
              let more = one_more_kept (has_bit words) (has_bit new) number here others not_yet limit 0 (omega arith) (omega arith) in
              omega (arith, kept.counted, more);
          some = omega (arith, kept.some, long);
          before = λ k low. others k (λ e. omega arith) ∙ kept.before k (omega arith);
          used = λ inside.
              elim (cases_lt from (number / 64)) [
                | inl first ↦
                    let e : min from (number / 64) ≡ from = omega arith in
                    rw (e, get_or-set_other words (number / 64) from word 0 (λ f. omega arith)) (kept.used (omega arith))
                | inr later ↦
                    let e : min from (number / 64) ≡ number / 64 = omega arith in
                    rw e (set_in_some new number here)
              ];
        }

    -- and where one is taken, with the first word from there on that isn't 0
    pub taken_kept : has_bit words number ≡ true → (first : ℕ) →
        let new : List ℕ = set words (number / 64) (word_without words number (word_within number below)) in
        first ≤ length new → ((k : ℕ) → from ≤ k → k < first → get_or new k 0 ≡ 0) → (first < length new → get_or new first 0 ≢ 0) →
        IsKept new first (count - 1) limit
    taken_kept is_set first some zeros used =
        let at = word_within number below in
        let word = word_without words number at in
        let new : List ℕ = set words (number / 64) word in
        let here = taken_here words number at in
        let others = taken_others words number at in
        let fewer : (k : ℕ) → has_bit words k ≡ false → has_bit new k ≡ false = λ k clear.
        elim (cases_eq k number) [
          | inl e ↦ ap (has_bit new) e ∙ here
          | inr differs ↦ others k differs ∙ clear
        ] in
        record {
          small = kept.small;
          room = length-set words (number / 64) word ∙ kept.room;
          within = λ k above. fewer k (kept.within k above);
          counted =
              let back : (k : ℕ) → k ≢ number → has_bit words k ≡ has_bit new k = λ k differs. sym (others k differs) in
              let more = one_more_kept (has_bit new) (has_bit words) number is_set back here limit 0 (omega arith) (omega arith) in
              omega (arith, kept.counted, more);
          some = some;
          before = λ k low.
              elim (cases_lt k (64 * from)) [
                | inl earlier ↦ fewer k (kept.before k earlier)
                | inr later ↦ clear_in_zero new k (zeros (k / 64) (omega arith) (omega arith))
              ];
          used = used;
        }

    -- the numbers with one more, and without one
    pub put_numbers : numbers_of (set words (number / 64) (word_with words number (word_within number below))) limit
        ≡ with_number number (numbers_of words limit)
    put_numbers =
        let at = word_within number below in
        let new : List ℕ = set words (number / 64) (word_with words number at) in
        let here = put_here words number at in
        sym (with_number_kept (has_bit words) (has_bit new) number here (put_others words number at) limit 0 (omega arith) (omega arith))

    pub put_again : has_bit words number ≡ true → numbers_of words limit ≡ with_number number (numbers_of words limit)
    put_again is_set = sym (with_number_kept (has_bit words) (has_bit words) number is_set (λ k differs. refl) limit 0 (omega arith) (omega arith))

    pub taken_numbers : numbers_of (set words (number / 64) (word_without words number (word_within number below))) limit
        ≡ without_number number (numbers_of words limit)
    taken_numbers =
        let at = word_within number below in
        let new : List ℕ = set words (number / 64) (word_without words number at) in
        sym (without_number_kept (has_bit words) (has_bit new) number (taken_here words number at) (taken_others words number at) limit 0)

  pub taken_again : (number : ℕ) → has_bit words number ≡ false → numbers_of words limit ≡ without_number number (numbers_of words limit)
  taken_again number clear = sym (without_number_kept (has_bit words) (has_bit words) number clear (λ k differs. refl) limit 0)

  -- where no word is left there is no number
  pub least_none : length words ≤ from → None ≡ slice_get (numbers_of words limit) 0
  least_none past =
      rw (kept_none (has_bit words) limit 0 (λ k low below. kept.before k (omega (arith, kept.room)))) refl

  -- the first number stands in the first word that isn't 0
  module _ (inside : from < length words) (fits : get_or words from 0 < 2 ^ 64) where
    lowest : has_bit words (from * 64 + trailing_zeros w64 (get_or words from 0)) ≡ true
    lowest =
        let word = get_or words from 0 in
        let some : 0 < word = let used = kept.used inside in omega arith in
        let lowest = bit_at-trailing_zeros w64 word some fits in
        let at : (from * 64 + trailing_zeros w64 word) / 64 ≡ from = omega (arith, lowest.0) in
        let index : (from * 64 + trailing_zeros w64 word) % 64 ≡ trailing_zeros w64 word = omega (arith, lowest.0) in
        bit_is_set words _ (rw (at, index) lowest.1)

    pub least_below : from * 64 + trailing_zeros w64 (get_or words from 0) < limit
    least_below = number_below _ lowest

    pub least_some : Some (from * 64 + trailing_zeros w64 (get_or words from 0)) ≡ slice_get (numbers_of words limit) 0
    least_some =
        let word = get_or words from 0 in
        let some : 0 < word = let used = kept.used inside in omega arith in
        let first = bit_at-trailing_zeros w64 word some fits in
        sym (kept_first (has_bit words) (from * 64 + trailing_zeros w64 word) limit 0 (omega arith) (omega (arith, least_below)) lowest (λ k earlier.
        elim (cases_lt k (64 * from)) [
          | inl low ↦ kept.before k low
          | inr here ↦
              let at : k / 64 ≡ from = omega (arith, first.0) in
              bit_is_clear words k (rw at (first.2 (k % 64) (omega arith)))
        ]))
