-- Words are read back from where they are joined.
use Rattle.std.proofs.Common.{◌≡◌, ◌<◌, ◌∙◌, ◌∷◌, [], ℕ, Bool, false, List, length, arith, ap, refl, nat_eq}
use Rattle.std.proofs.lemmas.Bool.{ne_eqb}
use Rattle.std.proofs.lemmas.List.Elements.{recursion_from_All}
use Rattle.std.proofs.lemmas.List.Splits.{slice_split_at, slice_split_none}
use Rattle.std.specs.List.{AllByRecursion, slice_split}
use Rattle.std.specs.Prelude.{All, ◌≢◌}
use Rattle.ld_line.specs.Line.{joined, space}

-- a byte is the space
abbrev pub is_space : ℕ → Bool
is_space byte = nat_eq byte space

none_is : (word : List ℕ) → All (λ byte. byte ≢ space) word → All (λ byte. is_space byte ≡ false) word
none_is word lack k d below = ne_eqb _ _ (lack k d below)

again : (words : List (List ℕ)) → 0 < length words → AllByRecursion (All (λ byte. byte ≢ space)) words →
    slice_split is_space (joined words) ≡ words
again [] some lack = absurd (omega arith)
again (w ∷ []) some lack = slice_split_none is_space w (none_is w lack.0)
again (w ∷ v ∷ words) some lack =
    slice_split_at is_space w space (joined (v ∷ words)) (none_is w lack.0) refl
    ∙ ap (λ ws. w ∷ ws) (again (v ∷ words) (omega arith) lack.1)

pub words_again : (words : List (List ℕ)) → 0 < length words → All (All (λ byte. byte ≢ space)) words →
    slice_split is_space (joined words) ≡ words
words_again words some lack = again words some (recursion_from_All (All (λ byte. byte ≢ space)) words lack)
