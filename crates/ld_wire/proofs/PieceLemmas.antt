-- Heads, size lines and trailers: a text begins with one of each at most.
use Rattle.std.proofs.Common.{rules, ◌≡◌, ◌≢◌, ◌≤◌, ◌+◌, ◌-◌, ◌∙◌, ℕ, List, [], ◌∷◌, ◌++◌, length, take, drop, arith, ap, sym, subst, refl, append_assoc, append-nil, inl, inr}
use Rattle.std.specs.List.{flat_map, AllByRecursion}
use Rattle.std.proofs.Math.Seq.{take-append-add}
use Rattle.httparse.specs.Grammar.{AllPass, LineEnd, crlf, lf, print_end, ResponseHead, print_response, HasNoResponse, ChunkLine, print_chunk_line, HasNoChunkLine}
use Rattle.httparse.proofs.GrammarLemmas.{response_unique}
use Rattle.httparse.proofs.ChunkLemmas.{chunk_line_unique}
use Rattle.httparse.proofs.RunLemmas.{run_unique}
use Rattle.ld_wire.specs.Chunks.{HasBadSize, HasLongTrailer, IsSizeLine, IsTrailer, IsTrailerLine, is_line_byte, size_line_limit}
use Rattle.ld_wire.specs.Head.{IsHead, head_limit}
use Rattle.ld_wire.specs.Response.{HasBadHead}
use Rattle.ld_wire.proofs.ChainLemmas.{AreUnique, Chain, IsEnd, after, chain_unique}

-- the first bytes that are looked at, where a short front stands there
pub take_behind : (most : ℕ) (front rest : List ℕ) → length front ≤ most
    → take most (front ++ rest) ≡ front ++ take (most - length front) rest
take_behind most front rest short =
    let whole : most ≡ length front + (most - length front) = omega arith in
    ap (λ (n : ℕ). take n (front ++ rest)) whole ∙ take-append-add front rest (most - length front)

-- ---- heads

pub head_unique : (a b : ResponseHead) (r q : List ℕ) → IsHead a → IsHead b
    → print_response a ++ r ≡ print_response b ++ q → (a ≡ b) × (r ≡ q)
head_unique a b r q x y same = response_unique (print_response a ++ r) a b r q (x.form, refl) (y.form, same)

-- where no head can come, or none came in the bytes that are looked at, there is none
pub no_head : (head : ResponseHead) (rest : List ℕ) → IsHead head → HasNoResponse (take head_limit (print_response head ++ rest)) → ⊥
no_head head rest is none =
    none head (take (head_limit - length (print_response head)) rest) (is.form, take_behind head_limit (print_response head) rest is.short)

pub none_of_bad_head : (bytes : List ℕ) → HasBadHead bytes → HasNoResponse (take head_limit bytes)
none_of_bad_head bytes bad =
    let P : List ℕ → Type 0 = λ text. HasNoResponse text in
    subst P (append-nil (take head_limit bytes)) (bad [])

-- ---- size lines

pub size_unique : (a b : ChunkLine) (r q : List ℕ) → IsSizeLine a → IsSizeLine b
    → print_chunk_line a ++ r ≡ print_chunk_line b ++ q → (a ≡ b) × (r ≡ q)
size_unique a b r q x y same = chunk_line_unique (print_chunk_line a ++ r) a b r q (x.form, refl) (y.form, same)

-- where no size line can come there is none
pub no_size : (line : ChunkLine) (rest : List ℕ) → IsSizeLine line → HasBadSize (print_chunk_line line ++ rest) → ⊥
no_size line rest is (inl never) =
    let P : List ℕ → Type 0 = λ text. HasNoChunkLine text in
    let window = take size_line_limit (print_chunk_line line ++ rest) in
    subst P (append-nil window) (never []) line (take (size_line_limit - length (print_chunk_line line)) rest)
    (is.form, take_behind size_line_limit (print_chunk_line line) rest is.short)
no_size line rest is (inr none) =
    none.1 line (take (size_line_limit - length (print_chunk_line line)) rest)
    (is.form, take_behind size_line_limit (print_chunk_line line) rest is.short)

-- ---- trailers

-- a line with its line feed
abbrev pub print_line : List ℕ → List ℕ
print_line line = line ++ 10 ∷ []

abbrev pub Line : ℕ → List ℕ → Type 0
Line k line = IsTrailerLine line

abbrev pub same_number : ℕ → List ℕ → ℕ
same_number k line = k

lines_alike : (a b r q : List ℕ) → AllPass is_line_byte a → AllPass is_line_byte b → print_line a ++ r ≡ print_line b ++ q
    → (a ≡ b) × (r ≡ q)
lines_alike a b r q x y same =
    let aligned : a ++ 10 ∷ r ≡ b ++ 10 ∷ q = sym (append_assoc a (10 ∷ []) r) ∙ same ∙ append_assoc b (10 ∷ []) q in
    let both = run_unique is_line_byte a b (10 ∷ r) (10 ∷ q) x y refl refl aligned in
    (both.0, ap (drop 1) both.1)

pub lines_unique : AreUnique print_line Line
lines_unique k a b r q x y same = lines_alike a b r q x.one y.one same

-- the empty line, without its line feed
abbrev pub empty_line : LineEnd → List ℕ
empty_line crlf = 13 ∷ []
empty_line lf = []

pub empty_one : (end : LineEnd) → AllPass is_line_byte (empty_line end)
empty_one crlf = search rules
empty_one lf = search rules

pub end_is : (end : LineEnd) (rest : List ℕ) → print_end end ++ rest ≡ print_line (empty_line end) ++ rest
end_is crlf rest = refl
end_is lf rest = refl

not_empty : (line : List ℕ) (end : LineEnd) → IsTrailerLine line → line ≢ empty_line end
not_empty line crlf is = is.more
not_empty line lf is = is.some

-- no line begins at the empty one
pub lines_end : (k : ℕ) (end : LineEnd) (rest : List ℕ) → IsEnd print_line Line k (print_end end ++ rest)
lines_end k end rest line more is same =
    not_empty line end is (sym (lines_alike (empty_line end) line rest more (empty_one end) is.one (sym (end_is end rest) ∙ same)).0)

pub line_chain : (k : ℕ) (lines : List (List ℕ)) → AllByRecursion IsTrailerLine lines → Chain Line same_number k lines
line_chain k [] are = tt
line_chain k (line ∷ lines) are = (are.0, line_chain k lines are.1)

ends_unique : (a b : LineEnd) (r q : List ℕ) → print_end a ++ r ≡ print_end b ++ q → (print_end a ≡ print_end b) × (r ≡ q)
ends_unique crlf crlf r q same = (refl, ap (drop 2) same)
ends_unique crlf lf r q same = absurd (let e : ◌≡◌ {A = ℕ} 13 10 = cc in omega (arith, e))
ends_unique lf crlf r q same = absurd (let e : ◌≡◌ {A = ℕ} 10 13 = cc in omega (arith, e))
ends_unique lf lf r q same = (refl, ap (drop 1) same)

pub trailer_unique : (a b r q : List ℕ) → IsTrailer a → IsTrailer b → a ++ r ≡ b ++ q → (a ≡ b) × (r ≡ q)
trailer_unique a b r q x y same =
    let left = ap (λ (t : List ℕ). t ++ r) x.text_is ∙ append_assoc (flat_map print_line x.lines) (print_end x.end) r in
    let right = ap (λ (t : List ℕ). t ++ q) y.text_is ∙ append_assoc (flat_map print_line y.lines) (print_end y.end) q in
    let chained = chain_unique print_line Line same_number lines_unique 0 x.lines y.lines (print_end x.end ++ r) (print_end y.end ++ q)
    (line_chain 0 x.lines x.form) (line_chain 0 y.lines y.form) (sym left ∙ same ∙ right)
    (lines_end (after same_number 0 x.lines) x.end r) (lines_end (after same_number 0 y.lines) y.end q) in
    let ended = ends_unique x.end y.end r q chained.1 in (
      x.text_is ∙ ap (λ (lines : List (List ℕ)). flat_map print_line lines ++ print_end x.end) chained.0
          ∙ ap (λ (end : List ℕ). flat_map print_line y.lines ++ end) ended.0 ∙ sym y.text_is,
      ended.1,
    )

-- where a trailer is too long there is none
pub no_trailer : (trailer rest : List ℕ) → IsTrailer trailer → HasLongTrailer (trailer ++ rest) → ⊥
no_trailer trailer rest is long = long.none trailer rest refl is
