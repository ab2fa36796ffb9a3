-- How many line feeds lines have.
use Rattle.std.proofs.Common.{◌≡◌, ◌+◌, ◌/◌, ◌%◌, ◌∙◌, ◌∷◌, ◌++◌, [], ℕ, zero, suc, Bool, true, false, List, length, cond, arith, ap, ap₂, refl, nat_eq, nat_lt}
use Rattle.std.proofs.lemmas.Bool.{ne_eqb}
use Rattle.std.proofs.lemmas.List.Sums.{sum_by-append, sum_by-cons}
use Rattle.std.specs.Fmt.{digit_glyph, digits, digits_onto}
use Rattle.std.specs.List.{concat}
use Rattle.std.specs.Prelude.{decimal}
use Rattle.ld_line.specs.Line.{joined, line, line_feed, line_feeds, space}

-- a byte counts as one where it is a line feed
abbrev feed : ℕ → ℕ
feed byte = cond (nat_eq byte line_feed) 1 0

pub feeds_append : (xs ys : List ℕ) → line_feeds (xs ++ ys) ≡ line_feeds xs + line_feeds ys
feeds_append xs ys = sum_by-append feed xs ys

feeds_cons : (x : ℕ) (xs : List ℕ) → line_feeds (x ∷ xs) ≡ feed x + line_feeds xs
feeds_cons x xs = sum_by-cons feed x xs

-- another byte in front of a text without line feeds
pub lacks_cons : (x : ℕ) (xs : List ℕ) → (x ≡ line_feed → ⊥) → line_feeds xs ≡ 0 → line_feeds (x ∷ xs) ≡ 0
lacks_cons x xs other lacks = feeds_cons x xs ∙ ap₂ (λ b n. cond b 1 0 + n) (ne_eqb x line_feed other) lacks

lacks_append : (xs ys : List ℕ) → line_feeds xs ≡ 0 → line_feeds ys ≡ 0 → line_feeds (xs ++ ys) ≡ 0
lacks_append xs ys left right = feeds_append xs ys ∙ ap₂ (λ m n. m + n) left right

-- a digit is no line feed
digit_lacks : (below : Bool) (d : ℕ) → cond below (48 + d) (87 + d) ≡ line_feed → ⊥
digit_lacks true d is = absurd (omega arith)
digit_lacks false d is = absurd (omega arith)

glyph_lacks : (d : ℕ) → digit_glyph false d ≡ line_feed → ⊥
glyph_lacks d is = digit_lacks (nat_lt d 10) d is

onto_lacks : (k n : ℕ) (rest : List ℕ) → line_feeds rest ≡ 0 → line_feeds (digits_onto k 10 false n rest) ≡ 0
onto_lacks zero n rest lacks = lacks
onto_lacks (suc k) n rest lacks =
    let more = lacks_cons (digit_glyph false (n % 10)) rest (glyph_lacks (n % 10)) lacks in
    elim (nat_eq (n / 10) 0) as (λ b. line_feeds (cond b (digit_glyph false (n % 10) ∷ rest) (digits_onto k 10 false (n / 10) (digit_glyph false (n % 10) ∷ rest))) ≡ 0) [
      | true ↦ more
      | false ↦ onto_lacks k (n / 10) (digit_glyph false (n % 10) ∷ rest) more
    ]

pub decimal_lacks : (n : ℕ) → line_feeds (decimal n) ≡ 0
unfolding digits
decimal_lacks n = onto_lacks 64 n [] refl

-- no word has a line feed
abbrev pub LackFeeds : List (List ℕ) → Type 0
LackFeeds [] = Unit {0}
LackFeeds (word ∷ words) = (line_feeds word ≡ 0) × LackFeeds words

joined_lacks : (words : List (List ℕ)) → LackFeeds words → line_feeds (joined words) ≡ 0
joined_lacks [] lack = refl
joined_lacks (w ∷ []) lack = lack.0
joined_lacks (w ∷ v ∷ words) lack =
    let more = joined_lacks (v ∷ words) lack.1 in
    lacks_append w (space ∷ joined (v ∷ words)) lack.0
    (lacks_cons space (joined (v ∷ words)) (λ (e : space ≡ line_feed). absurd (omega arith)) more)

-- such words make a line with one line feed
pub one_feed : (words : List (List ℕ)) → LackFeeds words → line_feeds (line words) ≡ 1
one_feed words lack = feeds_append (joined words) (line_feed ∷ []) ∙ ap (λ n. n + 1) (joined_lacks words lack)

-- lines with one line feed each
abbrev pub HaveOneFeed : List (List ℕ) → Type 0
HaveOneFeed [] = Unit {0}
HaveOneFeed (l ∷ ls) = (line_feeds l ≡ 1) × HaveOneFeed ls

pub feeds_of_lines : (ls : List (List ℕ)) → HaveOneFeed ls → line_feeds (concat ls) ≡ length ls
feeds_of_lines [] have = refl
feeds_of_lines (l ∷ ls) have =
    feeds_append l (concat ls) ∙ ap₂ (λ m n. m + n) have.0 (feeds_of_lines ls have.1) ∙ (let e : 1 + length ls ≡ suc (length ls) = omega arith in e)
