-- A line of numbers grows at its end.
use Rattle.std.proofs.Common.{◌≡◌, ◌∙◌, ◌+◌, ◌++◌, ◌∷◌, [], ℕ, List, Bool, true, false, cond, map, add-one, zero-add, refl, ap, ap₂, sym, nat_eq, eq-eqb}
use Rattle.std.specs.Prelude.{filter, decimal}
use Rattle.std.specs.List.{join_with_byte, range_with_len}
use Rattle.std.proofs.lemmas.List.{append_assoc, append-nil, map-append}
use Rattle.std.proofs.lemmas.List.Elements.{filter-append}
use Rattle.std.proofs.lemmas.Bool.{ne_eqb}
use Rattle.ld_stripe.proofs.StripingLaws.{range_more}
use Rattle.ld_stripe.specs.Striping.{owned_indices, owner_at}
use Rattle.ld_answer.specs.Indices.{item, spaced}

-- whether a list has an element
abbrev pub is_some_of : List ℕ → Bool
is_some_of [] = false
is_some_of (x ∷ xs) = true

-- the text so far is what was there before, with that of the numbers so far behind it
pub record IsLineSoFar (before numbers text : List ℕ) (follows : Bool) : Type 0 where
  pub text_is : text ≡ before ++ spaced numbers
  pub follows_is : follows ≡ is_some_of numbers

-- joining with one more piece at the end
join-push : (c : ℕ) (x : List ℕ) (xs : List (List ℕ)) (y : List ℕ) →
    join_with_byte c ((x ∷ xs) ++ y ∷ []) ≡ join_with_byte c (x ∷ xs) ++ (c ∷ y)
join-push c x [] y = refl
join-push c x (z ∷ zs) y = ap (λ ws. x ++ (c ∷ ws)) (join-push c z zs y) ∙ sym (append_assoc x (c ∷ join_with_byte c (z ∷ zs)) (c ∷ y))

spaced-push : (numbers : List ℕ) (n : ℕ) → spaced (numbers ++ n ∷ []) ≡ spaced numbers ++ item (is_some_of numbers) n
spaced-push [] n = refl
spaced-push (m ∷ ms) n = ap (λ ws. join_with_byte 32 (decimal m ∷ ws)) (map-append decimal ms (n ∷ [])) ∙ join-push 32 (decimal m) (map decimal ms) (decimal n)

is_some-push : (numbers : List ℕ) (n : ℕ) → is_some_of (numbers ++ n ∷ []) ≡ true
is_some-push [] n = refl
is_some-push (m ∷ ms) n = refl

-- one number more
pub line_more : (before numbers text : List ℕ) (follows : Bool) (n : ℕ) → IsLineSoFar before numbers text follows →
    IsLineSoFar before (numbers ++ n ∷ []) (text ++ item follows n) true
line_more before numbers text follows n so_far = record {
  text_is =
      ap₂ (λ t f. t ++ item f n) so_far.text_is so_far.follows_is
      ∙ append_assoc before (spaced numbers) (item (is_some_of numbers) n)
      ∙ ap (λ t. before ++ t) (sym (spaced-push numbers n));
  follows_is = sym (is_some-push numbers n);
}

-- an index more: it is kept where the position owns it
owned-more : (owners : List ℕ) (position count : ℕ) (is_owner : Bool) →
    nat_eq (owner_at owners count) position ≡ is_owner →
    owned_indices owners position (count + 1) ≡ owned_indices owners position count ++ cond is_owner (count ∷ []) []
owned-more owners position count is_owner is =
    let test = λ (x : ℕ). nat_eq (owner_at owners x) position in
    ap (λ n. filter test (range_with_len 0 n)) (add-one count)
    ∙ ap (λ xs. filter test xs) (range_more 0 count ∙ ap (λ x. range_with_len 0 count ++ x ∷ []) (zero-add count))
    ∙ filter-append test (range_with_len 0 count) (count ∷ [])
    ∙ ap (λ b. owned_indices owners position count ++ cond b (count ∷ []) []) is

pub owned-yes : (owners : List ℕ) (position count : ℕ) → owner_at owners count ≡ position →
    owned_indices owners position (count + 1) ≡ owned_indices owners position count ++ count ∷ []
owned-yes owners position count is = owned-more owners position count true (eq-eqb _ _ is)

pub owned-no : (owners : List ℕ) (position count : ℕ) → (owner_at owners count ≡ position → ⊥) →
    owned_indices owners position (count + 1) ≡ owned_indices owners position count
owned-no owners position count other = owned-more owners position count false (ne_eqb _ _ other) ∙ append-nil _
