-- The numbers that a position owns, one number after another.
use Rattle.std.proofs.Common.{◌≡◌, ◌<◌, ◌+◌, ◌==◌, ◌∙◌, ℕ, suc, true, false, cond, List, [], ◌∷◌, ◌++◌, filter, arith, append-nil, refl, ap, sym}
use Rattle.std.specs.List.{range_with_len}
use Rattle.std.proofs.lemmas.Bool.{lt-ltb}
use Rattle.std.proofs.lemmas.List.Elements.{filter-append}
use Rattle.ld_machine.proofs.FreeLemmas.{range_in}
use Rattle.ld_machine.proofs.ListLemmas.{In, here, there, In-filter}
use Rattle.ld_set.specs.SetView.{with_number}
use Rattle.ld_stripe.specs.Striping.{owned_indices, owner_at}
use Rattle.ld_stripe.proofs.StripingLaws.{range_more}

-- a number above all of a set comes last
with_last : (number : ℕ) (numbers : List ℕ) → ((y : ℕ) → In y numbers → y < number) → with_number number numbers ≡ numbers ++ number ∷ []
with_last number [] above = refl
with_last number (k ∷ rest) above =
    rw (lt-ltb k number (above k here)) (ap (λ (more : List ℕ). k ∷ more) (with_last number rest (λ y at. above y (there at))))

module _ (owners : List ℕ) (position number : ℕ) where
  next : owned_indices owners position (number + 1)
      ≡ owned_indices owners position number ++ cond (owner_at owners number == position) (number ∷ []) []
  next =
      let one : number + 1 ≡ suc number = omega arith in
      let place : 0 + number ≡ number = omega arith in
      let range : range_with_len 0 (number + 1) ≡ range_with_len 0 number ++ number ∷ [] =
      ap (range_with_len 0) one ∙ range_more 0 number ∙ ap (λ (k : ℕ). range_with_len 0 number ++ k ∷ []) place in
      ap (filter (λ k. owner_at owners k == position)) range
      ∙ filter-append (λ k. owner_at owners k == position) (range_with_len 0 number) (number ∷ [])

  -- the owned ones below the next number, where the position owns this one
  pub owned_one : (owner_at owners number == position) ≡ true →
      with_number number (owned_indices owners position number) ≡ owned_indices owners position (number + 1)
  owned_one mine =
      let below : (y : ℕ) → In y (owned_indices owners position number) → y < number = λ y at.
      let kept = In-filter (λ k. owner_at owners k == position) y (range_with_len 0 number) at in
      let range = range_in y 0 number kept.0 in omega arith in
      with_last number (owned_indices owners position number) below ∙ sym (rw mine at next)

  -- and where it doesn't
  pub owned_none : (owner_at owners number == position) ≡ false → owned_indices owners position number ≡ owned_indices owners position (number + 1)
  owned_none other = sym (append-nil (owned_indices owners position number)) ∙ sym (rw other at next)
