-- A name has one number.
use Rattle.std.proofs.Common.{◌≡◌, ◌≢◌, ◌<◌, ◌∙◌, ℕ, zero, suc, List, [], ◌∷◌, Some, Less, slice_get, nat_cmp, true≢false, arith, ap, sym, subst, refl}
use Rattle.std.specs.Cmp.Lexicographic.{slice_cmp}
use Rattle.std.specs.List.{AllByRecursion, AllPairs}
use Rattle.std.specs.List.Sorted.{IsStrictlySortedBy}
use Rattle.std.specs.Ordering.{is_eq}
use Rattle.std.proofs.lemmas.Map.Text.{is_eq-slice_cmp}
use Rattle.std.proofs.lemmas.Option.{get_or_from_slice_get, none-some, slice_get_within}
use Rattle.std.proofs.lemmas.Slice.Eq.{bytes_eq-Decides}
use Rattle.std.proofs.Math.Decide.{dec_lt}
use Rattle.ld_script.specs.ScriptsView.{AreOrdered}
use Rattle.ld_script.proofs.NamesLemmas.{some_is}

-- no name stands before itself
not_before_itself : (name : List ℕ) → slice_cmp nat_cmp name name ≡ Less → ⊥
not_before_itself name less = true≢false (sym ((bytes_eq-Decides name name).1 refl) ∙ sym (is_eq-slice_cmp name name) ∙ ap is_eq less)

all_at : {X : Type 0} (P : X → Type 0) → (xs : List X) (k : ℕ) (x : X) → AllByRecursion P xs → slice_get xs k ≡ Some x → P x
all_at P [] k x all is = absurd (none-some x is)
all_at P (y ∷ ys) zero x all is = subst P (some_is (Some y) y x refl is) all.0
all_at P (y ∷ ys) (suc k) x all is = all_at P ys k x all.1 is

not_again : (name : List ℕ) (names : List (List ℕ)) (k : ℕ) (text : List ℕ) → AllByRecursion (λ y. slice_cmp nat_cmp name y ≡ Less) names → Some name ≡ Some text → slice_get names k ≡ Some text → ⊥
not_again name names k text before is again =
    not_before_itself name
    (subst (λ t. slice_cmp nat_cmp name t ≡ Less) (some_is (Some text) text name refl (sym is)) (all_at (λ y. slice_cmp nat_cmp name y ≡ Less) names k text before again))

pub ordered_number : (names : List (List ℕ)) → AreOrdered names → (name : List ℕ) (j k : ℕ) → slice_get names j ≡ Some name → slice_get names k ≡ Some name → j ≡ k
unfolding IsStrictlySortedBy
ordered_number [] ordered name j k left right = absurd (none-some name left)
ordered_number (x ∷ xs) ordered name zero zero left right = refl
ordered_number (x ∷ xs) ordered name zero (suc k) left right = absurd (not_again x xs k name ordered.0 left right)
ordered_number (x ∷ xs) ordered name (suc j) zero left right = absurd (not_again x xs j name ordered.0 right left)
ordered_number (x ∷ xs) ordered name (suc j) (suc k) left right = ap suc (ordered_number xs ordered.1 name j k left right)

-- texts of which no two are equal
not_two : (texts : List (List ℕ)) → AllPairs (λ x y. x ≢ y) texts → (name : List ℕ) (j k : ℕ) → j < k → slice_get texts j ≡ Some name → slice_get texts k ≡ Some name → ⊥
not_two texts apart name j k before left right =
    apart j k name before (slice_get_within texts k name right) (get_or_from_slice_get texts j name name left ∙ sym (get_or_from_slice_get texts k name name right))

pub apart_number : (texts : List (List ℕ)) → AllPairs (λ x y. x ≢ y) texts → (name : List ℕ) (j k : ℕ) → slice_get texts j ≡ Some name → slice_get texts k ≡ Some name → j ≡ k
apart_number texts apart name j k left right =
    elim (dec_lt j k) [
      | yes before ↦ absurd (not_two texts apart name j k before left right)
      | no not_before ↦
          elim (dec_lt k j) [
            | yes behind ↦ absurd (not_two texts apart name k j behind right left)
            | no not_behind ↦ omega arith
          ]
    ]
