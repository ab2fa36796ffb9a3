-- Weights: whether a word is weights, and that they are the word's only ones.
use Rattle.std.proofs.Common.{◌≡◌, ◌≢◌, ◌∙◌, ◌∷◌, [], inl, inr, ℕ, List, map, true, refl, ap, sym}
use Rattle.std.specs.Prelude.{◌&&◌, Bool, IsTrue, Option, Some, None, is_some}
use Rattle.std.specs.List.{list_all}
use Rattle.ld_words.specs.Number.{number_of}
use Rattle.ld_words.specs.Weights.{parts_of, AreWeights}

abbrev pub are_numbers : List (List ℕ) → Bool
are_numbers texts = list_all (λ (part : List ℕ). is_some (number_of part)) texts

-- texts that are numbers have their values, and texts that have values are numbers
numbers_step : (text : List ℕ) (texts : List (List ℕ)) (n : Option ℕ) → number_of text ≡ n → (is_some n && are_numbers texts) ≡ true →
    (are_numbers texts ≡ true → (ns : List ℕ) × (map number_of texts ≡ map Some ns)) →
    (ns : List ℕ) × (number_of text ∷ map number_of texts ≡ map Some ns)
numbers_step text texts None is all more = absurd cc
numbers_step text texts (Some n) is all more = let rest = more all in (n ∷ rest.0, let tail = rest.1 in cc)

numbers_from : (texts : List (List ℕ)) → are_numbers texts ≡ true → (ns : List ℕ) × (map number_of texts ≡ map Some ns)
numbers_from [] all = ([], refl)
numbers_from (t ∷ ts) all = numbers_step t ts (number_of t) refl all (numbers_from ts)

all_numbers : (texts : List (List ℕ)) (ns : List ℕ) → map number_of texts ≡ map Some ns → are_numbers texts ≡ true
all_numbers [] ns e = refl
all_numbers (t ∷ ts) [] e = absurd cc
all_numbers (t ∷ ts) (n ∷ ns) e =
    let head : number_of t ≡ Some n = cc in
    let rest = all_numbers ts ns cc in
    ap (λ b. is_some b && are_numbers ts) head ∙ rest

-- what the test of its parts says of a word that isn't empty
pub weights_test : (text : List ℕ) (test : Bool) → text ≢ [] → test ≡ are_numbers (parts_of text) →
    (IsTrue test → (weights : List ℕ) × AreWeights text weights) × ((weights : List ℕ) × AreWeights text weights → IsTrue test)
weights_test text test some is = (
  λ yes_is. let found = numbers_from (parts_of text) (sym is ∙ yes_is) in (found.0, inr found.1),
  λ are. step are.0 are.1,
)
  where
    step : (weights : List ℕ) → AreWeights text weights → test ≡ true
    step weights (inl empty) = absurd (some empty.0)
    step weights (inr numbers) = is ∙ all_numbers (parts_of text) weights numbers

some_injective : (a b : List ℕ) → map Some a ≡ map Some b → a ≡ b
some_injective [] [] e = refl
some_injective [] (y ∷ ys) e = cc
some_injective (x ∷ xs) [] e = cc
some_injective (x ∷ xs) (y ∷ ys) e =
    let head : x ≡ y = cc in
    let tail = some_injective xs ys cc in
    cc

-- an empty word isn't numbers joined by commas
empty_no_numbers : (weights : List ℕ) → map number_of (parts_of []) ≡ map Some weights → ⊥
empty_no_numbers [] e = cc
empty_no_numbers (w ∷ weights) e = cc

-- a word is at most one list of weights
pub weights_once : (text a b : List ℕ) → AreWeights text a → AreWeights text b → a ≡ b
weights_once text a b (inl x) (inl y) = x.1 ∙ sym y.1
weights_once text a b (inl x) (inr y) = absurd (empty_no_numbers b (ap (λ t. map number_of (parts_of t)) (sym x.0) ∙ y))
weights_once text a b (inr x) (inl y) = absurd (empty_no_numbers a (ap (λ t. map number_of (parts_of t)) (sym y.0) ∙ x))
weights_once text a b (inr x) (inr y) = some_injective a b (sym x ∙ y)
