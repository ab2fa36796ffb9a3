-- Texts that are items, one behind another, up to a place where no item begins.
use Rattle.std.proofs.Common.{◌≡◌, ℕ, List, [], ◌∷◌, ◌++◌, refl, sym, ap₂, ◌∙◌, subst, append_assoc}
use Rattle.std.specs.Prelude.{⊤}
use Rattle.std.specs.List.{flat_map}

-- each item is one where it stands, where a number is kept along the way
abbrev pub Chain : {A : Type 0} → (ℕ → A → Type 0) → (ℕ → A → ℕ) → ℕ → List A → Type 0
Chain Item next k [] = ⊤
Chain Item next k (a ∷ xs) = Item k a × Chain Item next (next k a) xs

-- the number behind the items
abbrev pub after : {A : Type 0} → (ℕ → A → ℕ) → ℕ → List A → ℕ
after next k [] = k
after next k (a ∷ xs) = after next (next k a) xs

-- no item begins the text
abbrev pub IsEnd : {A : Type 0} → (A → List ℕ) → (ℕ → A → Type 0) → ℕ → List ℕ → Type 0
IsEnd {A} print Item k text = (a : A) (rest : List ℕ) → Item k a → text ≡ print a ++ rest → ⊥

-- a text begins with one item at most
abbrev pub AreUnique : {A : Type 0} → (A → List ℕ) → (ℕ → A → Type 0) → Type 0
AreUnique {A} print Item =
    (k : ℕ) (a b : A) (r q : List ℕ) → Item k a → Item k b → print a ++ r ≡ print b ++ q → (a ≡ b) × (r ≡ q)

-- so it is cut into items in one way only
pub chain_unique : {A : Type 0} (print : A → List ℕ) (Item : ℕ → A → Type 0) (next : ℕ → A → ℕ) → AreUnique print Item
    → (k : ℕ) (xs ys : List A) (r q : List ℕ) → Chain Item next k xs → Chain Item next k ys
    → flat_map print xs ++ r ≡ flat_map print ys ++ q
    → IsEnd print Item (after next k xs) r → IsEnd print Item (after next k ys) q → (xs ≡ ys) × (r ≡ q)
chain_unique print Item next unique k [] [] r q x y same u v = (refl, same)
chain_unique print Item next unique k [] (b ∷ ys) r q x y same u v =
    absurd (u b (flat_map print ys ++ q) y.0 (same ∙ append_assoc (print b) (flat_map print ys) q))
chain_unique print Item next unique k (a ∷ xs) [] r q x y same u v =
    absurd (v a (flat_map print xs ++ r) x.0 (sym same ∙ append_assoc (print a) (flat_map print xs) r))
chain_unique {A} print Item next unique k (a ∷ xs) (b ∷ ys) r q x y same u v =
    let aligned = sym (append_assoc (print a) (flat_map print xs) r) ∙ same ∙ append_assoc (print b) (flat_map print ys) q in
    let one = unique k a b (flat_map print xs ++ r) (flat_map print ys ++ q) x.0 y.0 aligned in
    let P : A → Type 0 = λ c. Chain Item next (next k c) ys in
    let Q : A → Type 0 = λ c. IsEnd print Item (after next (next k c) ys) q in
    let rest = chain_unique print Item next unique (next k a) xs ys r q x.1 (subst P (sym one.0) y.1) one.1 u
    (subst Q (sym one.0) v) in
    (ap₂ (λ (c : A) (cs : List A). c ∷ cs) one.0 rest.0, rest.1)
