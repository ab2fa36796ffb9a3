-- How far the printing of points has come.
use Rattle.std.proofs.Common.{◌≡◌, ◌<◌, ◌+◌, ◌∙◌, ◌∷◌, ◌++◌, [], ℕ, zero, suc, List, true, length, get_or, take, arith, ap, sym, refl, append_assoc, nat_lt}
use Rattle.std.proofs.lemmas.Bool.Decides.{nat_tests}
use Rattle.ld_num.specs.declared.fraction.Frac.{Frac}
use Rattle.ld_segment.specs.Values.{comma}
use Rattle.ld_segment.specs.Printed.{next_text, point_text, sequence_text}

more_text : (ps : List Frac) (i : ℕ) (d : Frac) → suc i < length ps →
    sequence_text (take (suc (suc i)) ps) ≡ sequence_text (take (suc i) ps) ++ comma ∷ point_text (get_or ps (suc i) d)
more_text [] i d below = absurd (omega arith)
more_text (p ∷ []) i d below = absurd (omega arith)
more_text (p ∷ q ∷ ps) zero d below = refl
more_text (p ∷ q ∷ ps) (suc i) d below =
    ap (λ t. point_text p ++ comma ∷ t) (more_text (q ∷ ps) i d (omega arith))
    ∙ sym (append_assoc (point_text p) (comma ∷ sequence_text (take (suc i) (q ∷ ps))) (comma ∷ point_text (get_or (q ∷ ps) (suc i) d)))

first_text : (ps : List Frac) (d : Frac) → 0 < length ps → sequence_text (take 1 ps) ≡ point_text (get_or ps 0 d)
first_text [] d some = absurd (omega arith)
first_text (p ∷ ps) d some = refl

follows_one : (i : ℕ) → nat_lt 0 (suc i) ≡ true
follows_one i = grind (arith, nat_tests)

pub text_more : (ps : List Frac) (i : ℕ) (d : Frac) → i < length ps →
    sequence_text (take (i + 1) ps) ≡ sequence_text (take i ps) ++ next_text (nat_lt 0 i) (get_or ps i d)
text_more ps zero d below = first_text ps d below
text_more ps (suc i) d below =
    ap (λ n. sequence_text (take n ps)) (let e : suc i + 1 ≡ suc (suc i) = omega arith in e)
    ∙ more_text ps i d below
    ∙ ap (λ b. sequence_text (take (suc i) ps) ++ next_text b (get_or ps (suc i) d)) (sym (follows_one i))

pub text_step : (before into now : List ℕ) (ps : List Frac) (i : ℕ) (p : Frac) → i < length ps → p ≡ get_or ps i p →
    into ≡ before ++ sequence_text (take i ps) → now ≡ into ++ next_text (nat_lt 0 i) p →
    now ≡ before ++ sequence_text (take (i + 1) ps)
text_step before into now ps i p below p_is so_far is =
    is
    ∙ ap (λ t. t ++ next_text (nat_lt 0 i) p) so_far
    ∙ append_assoc before (sequence_text (take i ps)) (next_text (nat_lt 0 i) p)
    ∙ ap (λ (q : Frac). before ++ (sequence_text (take i ps) ++ next_text (nat_lt 0 i) q)) p_is
    ∙ ap (λ t. before ++ t) (sym (text_more ps i p below))
