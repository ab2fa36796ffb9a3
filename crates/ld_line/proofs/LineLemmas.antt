-- How far the writing of lines has come, for crates that write texts line by line.
use Rattle.std.proofs.Common.{◌≡◌, ◌<◌, ◌+◌, ◌∙◌, ◌∷◌, ◌++◌, [], ℕ, zero, suc, List, length, get_or, take, map, arith, ap, sym, append_assoc}
use Rattle.std.specs.List.{concat, flat_map}
use Rattle.std.specs.Prelude.{Some, slice_get}
use Rattle.std.proofs.lemmas.List.{append-nil}
use Rattle.std.proofs.lemmas.List.Concat.{flat_map_single}
use Rattle.std.proofs.lemmas.Option.{get_or_from_slice_get, slice_get_within}
use Rattle.std.proofs.lemmas.List.Folds.{concat-append}

-- more lines behind some
pub lines_added : (a b c : List ℕ) (lines more : List (List ℕ)) → b ≡ a ++ concat lines → c ≡ b ++ concat more →
    c ≡ a ++ concat (lines ++ more)
lines_added a b c lines more so_far is =
    is
    ∙ ap (λ t. t ++ concat more) so_far
    ∙ append_assoc a (concat lines) (concat more)
    ∙ ap (λ t. a ++ t) (sym (concat-append lines more))

-- one line behind some
pub line_added : (a b c : List ℕ) (lines : List (List ℕ)) (x : List ℕ) → b ≡ a ++ concat lines → c ≡ b ++ x →
    c ≡ a ++ concat (lines ++ x ∷ [])
line_added a b c lines x so_far is = lines_added a b c lines (x ∷ []) so_far (is ∙ ap (λ t. b ++ t) (sym (append-nil x)))

-- the lines of one element more
flat_more : {X : Type 0} (f : X → List (List ℕ)) (xs : List X) (i : ℕ) (d : X) → i < length xs →
    flat_map f (take (i + 1) xs) ≡ flat_map f (take i xs) ++ f (get_or xs i d)
flat_more f [] i d below = absurd (omega arith)
flat_more f (x ∷ xs) zero d below = append-nil (f x)
flat_more f (x ∷ xs) (suc i) d below =
    ap (λ n. flat_map f (take n (x ∷ xs))) (let e : suc i + 1 ≡ suc (i + 1) = omega arith in e)
    ∙ ap (λ t. f x ++ t) (flat_more f xs i d (omega arith))
    ∙ sym (append_assoc (f x) (flat_map f (take i xs)) (f (get_or xs i d)))

-- the lines of each element so far, and then those of the next
pub element_added : {X : Type 0} (f : X → List (List ℕ)) (a b c : List ℕ) (xs : List X) (i : ℕ) (x : X) → slice_get xs i ≡ Some x →
    b ≡ a ++ concat (flat_map f (take i xs)) → c ≡ b ++ concat (f x) → c ≡ a ++ concat (flat_map f (take (i + 1) xs))
element_added f a b c xs i x at so_far is =
    lines_added a b c (flat_map f (take i xs)) (f x) so_far is
    ∙ ap (λ y. a ++ concat (flat_map f (take i xs) ++ f y)) (sym (get_or_from_slice_get xs i x x at))
    ∙ ap (λ ls. a ++ concat ls) (sym (flat_more f xs i x (slice_get_within xs i x at)))

-- one line for each element so far, and then that of the next
pub one_added : {X : Type 0} (f : X → List ℕ) (a b c : List ℕ) (xs : List X) (i : ℕ) (x : X) → slice_get xs i ≡ Some x →
    b ≡ a ++ concat (map f (take i xs)) → c ≡ b ++ f x → c ≡ a ++ concat (map f (take (i + 1) xs))
one_added f a b c xs i x at so_far is =
    element_added (λ y. f y ∷ []) a b c xs i x at
    (so_far ∙ ap (λ ls. a ++ concat ls) (sym (flat_map_single f (take i xs))))
    (is ∙ ap (λ t. b ++ t) (sym (append-nil (f x))))
    ∙ ap (λ ls. a ++ concat ls) (flat_map_single f (take (i + 1) xs))
