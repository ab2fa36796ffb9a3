-- A striping gives each position its number among as many indices as the numbers sum to.
use Rattle.std.proofs.Common.{◌≡◌, ◌<◌, ◌+◌, ◌*◌, ◌∙◌, ℕ, List, get_or, length, map, sum, arith, ap, sym, add-zero, zero-add, mul-zero}
use Rattle.std.proofs.Math.ListN.{get_or-map}
use Rattle.std.proofs.lemmas.List.FromFn.{get_or-map-range_with_len}
use Rattle.ld_stripe.specs.Striping.{share_at, shares_at, Striping, IsStriping, IsStripingOf}
use Rattle.ld_stripe.proofs.LowestTermsLemmas.{sum_reduced}
use Rattle.ld_stripe.proofs.StripingLaws.{share_by_periods, shares_sum}

-- numbers that are multiples of the weights, position by position
number_at : (d : ℕ) (weights : List ℕ) (j : ℕ) → get_or (map (λ n. d * n) weights) j 0 ≡ d * get_or weights j 0
number_at d weights j = ap (get_or (map (λ n. d * n) weights) j) (sym (mul-zero d)) ∙ get_or-map (λ n. d * n) weights j 0

-- of as many indices as the numbers sum to each position owns its number
pub whole_share : (numbers : List ℕ) (s : Striping) → IsStripingOf numbers s → (j : ℕ) → share_at s.owners j (sum numbers) ≡ get_or numbers j 0
whole_share numbers s of j =
    let terms = of.lowest_terms in
    let period = of.striping.period in
    let total : sum numbers ≡ terms.divisor * sum s.weights = sum_reduced numbers s.weights terms in
    let periods : sum numbers ≡ terms.divisor * length s.owners = total ∙ ap (λ n. terms.divisor * n) (sym period) in
    let at : sum numbers ≡ terms.divisor * length s.owners + 0 = omega arith in
    let shares = share_by_periods s.weights s.owners of.striping j terms.divisor 0 (omega arith) in
    ap (share_at s.owners j) at ∙ shares ∙ add-zero _ ∙ sym (number_at terms.divisor s.weights j) ∙ ap (λ ns. get_or ns j 0) (sym terms.multiples)

-- a rescaled striping gives each position the share of v indices that it had
pub rescaled_share : (s r : Striping) (v : ℕ) → IsStriping s.weights s.owners → 0 < sum s.weights → IsStripingOf (shares_at s v) r →
    (j : ℕ) → j < length s.weights → share_at r.owners j v ≡ share_at s.owners j v
rescaled_share s r v striping some of j inside =
    ap (share_at r.owners j) (sym (shares_sum s.weights s.owners striping some v))
    ∙ whole_share (shares_at s v) r of j
    ∙ get_or-map-range_with_len (λ k. share_at s.owners k v) 0 (length s.weights) j j 0 inside (zero-add j)
