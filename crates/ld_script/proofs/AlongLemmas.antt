-- Rules that are looked at along a list.
use Rattle.std.proofs.Common.{◌≡◌, List, [], ◌∷◌, ◌++◌, inl, inr, refl}
use Rattle.ld_json.specs.Rules.{Accepts}
use Rattle.ld_json.proofs.RulesLemmas.{then_accepts}
use Rattle.ld_script.specs.Along.{FirstAlong, after}

module _ {S X F : Type 0} (rule : S → X → F → Type 0) (next : S → X → S) where
  -- what is known after a list and one behind it
  pub after_both : (known : S) (xs ys : List X) → after next known (xs ++ ys) ≡ after next (after next known xs) ys
  after_both known [] ys = refl
  after_both known (x ∷ xs) ys = after_both (next known x) xs ys

  -- what is refused of a list is refused where more stands behind it
  pub along_front : (known : S) (xs ys : List X) (fault : F) → FirstAlong rule next known xs fault → FirstAlong rule next known (xs ++ ys) fault
  along_front known [] ys fault refused = absurd refused
  along_front known (x ∷ xs) ys fault (inl refused) = inl refused
  along_front known (x ∷ xs) ys fault (inr refused) = inr (refused.0, along_front (next known x) xs ys fault refused.1)

  rest_accepts : (known : S) (x : X) (xs : List X) → Accepts (FirstAlong rule next known (x ∷ xs)) → Accepts (rule known x) → Accepts (FirstAlong rule next (next known x) xs)
  rest_accepts known x xs accepts one fault refused = accepts fault (inr (one, refused))

  first_accepts : (known : S) (x : X) (xs : List X) → Accepts (FirstAlong rule next known (x ∷ xs)) → Accepts (rule known x)
  first_accepts known x xs accepts fault refused = accepts fault (inl refused)

  -- what is refused behind a list that is accepted
  pub along_behind : (known : S) (xs ys : List X) → Accepts (FirstAlong rule next known xs) → (fault : F) → FirstAlong rule next (after next known xs) ys fault → FirstAlong rule next known (xs ++ ys) fault
  along_behind known [] ys accepts fault refused = refused
  along_behind known (x ∷ xs) ys accepts fault refused =
      let one = first_accepts known x xs accepts in
      inr (one, along_behind (next known x) xs ys (rest_accepts known x xs accepts one) fault refused)

  -- two lists that are accepted, one behind the other
  pub along_both : (known : S) (xs ys : List X) → Accepts (FirstAlong rule next known xs) → Accepts (FirstAlong rule next (after next known xs) ys) → Accepts (FirstAlong rule next known (xs ++ ys))
  along_both known [] ys left right = right
  along_both known (x ∷ xs) ys left right =
      let one = first_accepts known x xs left in
      then_accepts _ _ one (along_both (next known x) xs ys (rest_accepts known x xs left one) right)
