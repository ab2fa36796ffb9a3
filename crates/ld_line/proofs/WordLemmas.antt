-- How far the joining of words has come.
use Rattle.std.proofs.Common.{◌≡◌, ◌<◌, ◌+◌, ◌∙◌, ◌∷◌, ◌++◌, [], ℕ, zero, suc, List, true, length, get_or, take, map, arith, ap, sym, refl, append_assoc, nat_lt}
use Rattle.std.proofs.lemmas.Bool.Decides.{nat_tests}
use Rattle.ld_line.specs.declared.word.Word.{Word}
use Rattle.ld_line.specs.Line.{joined, next_text, space, word_text}

-- the words' text
abbrev texts : List Word → List ℕ
texts words = joined (map word_text words)

more_text : (ws : List Word) (i : ℕ) (d : Word) → suc i < length ws →
    texts (take (suc (suc i)) ws) ≡ texts (take (suc i) ws) ++ space ∷ word_text (get_or ws (suc i) d)
more_text [] i d below = absurd (omega arith)
more_text (p ∷ []) i d below = absurd (omega arith)
more_text (p ∷ q ∷ ws) zero d below = refl
more_text (p ∷ q ∷ ws) (suc i) d below =
    ap (λ t. word_text p ++ space ∷ t) (more_text (q ∷ ws) i d (omega arith))
    ∙ sym (append_assoc (word_text p) (space ∷ texts (take (suc i) (q ∷ ws))) (space ∷ word_text (get_or (q ∷ ws) (suc i) d)))

first_text : (ws : List Word) (d : Word) → 0 < length ws → texts (take 1 ws) ≡ word_text (get_or ws 0 d)
first_text [] d some = absurd (omega arith)
first_text (p ∷ ws) d some = refl

follows_one : (i : ℕ) → nat_lt 0 (suc i) ≡ true
follows_one i = grind (arith, nat_tests)

text_more : (ws : List Word) (i : ℕ) (d : Word) → i < length ws →
    texts (take (i + 1) ws) ≡ texts (take i ws) ++ next_text (nat_lt 0 i) (word_text (get_or ws i d))
text_more ws zero d below = first_text ws d below
text_more ws (suc i) d below =
    ap (λ n. texts (take n ws)) (let e : suc i + 1 ≡ suc (suc i) = omega arith in e)
    ∙ more_text ws i d below
    ∙ ap (λ b. texts (take (suc i) ws) ++ next_text b (word_text (get_or ws (suc i) d))) (sym (follows_one i))

-- one word more
pub text_step : (before into now : List ℕ) (ws : List Word) (i : ℕ) (d : Word) → i < length ws →
    into ≡ before ++ joined (map word_text (take i ws)) → now ≡ into ++ next_text (nat_lt 0 i) (word_text (get_or ws i d)) →
    now ≡ before ++ joined (map word_text (take (i + 1) ws))
text_step before into now ws i d below so_far is =
    is
    ∙ ap (λ t. t ++ next_text (nat_lt 0 i) (word_text (get_or ws i d))) so_far
    ∙ append_assoc before (texts (take i ws)) (next_text (nat_lt 0 i) (word_text (get_or ws i d)))
    ∙ ap (λ t. before ++ t) (sym (text_more ws i d below))
