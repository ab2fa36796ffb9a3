-- A text that is put together from pieces.
use Rattle.std.proofs.Common.{◌≡◌, ◌∙◌, ◌++◌, ℕ, List, ap}
use Rattle.std.proofs.lemmas.List.{append_assoc}

-- a piece and a number behind what was joined before
joined : (old s t a f n : List ℕ) → s ≡ old ++ a → t ≡ (s ++ f) ++ n → t ≡ old ++ ((a ++ f) ++ n)
joined old s t a f n first second =
    second ∙ ap (λ x. (x ++ f) ++ n) first ∙ ap (λ x. x ++ n) (append_assoc old a f) ∙ append_assoc old (a ++ f) n

-- a piece, five pieces with a number behind each, and a piece
pub pieces : (old s1 s2 s3 s4 s5 s6 s7 a f1 n1 f2 n2 f3 n3 f4 n4 f5 n5 g : List ℕ) → s1 ≡ old ++ a →
    s2 ≡ (s1 ++ f1) ++ n1 → s3 ≡ (s2 ++ f2) ++ n2 → s4 ≡ (s3 ++ f3) ++ n3 → s5 ≡ (s4 ++ f4) ++ n4 → s6 ≡ (s5 ++ f5) ++ n5 → s7 ≡ s6 ++ g →
    s7 ≡ old ++ (((((((((((a ++ f1) ++ n1) ++ f2) ++ n2) ++ f3) ++ n3) ++ f4) ++ n4) ++ f5) ++ n5) ++ g)
pieces old s1 s2 s3 s4 s5 s6 s7 a f1 n1 f2 n2 f3 n3 f4 n4 f5 n5 g e1 e2 e3 e4 e5 e6 e7 =
    let j2 = joined old s1 s2 a f1 n1 e1 e2 in
    let j3 = joined old s2 s3 _ f2 n2 j2 e3 in
    let j4 = joined old s3 s4 _ f3 n3 j3 e4 in
    let j5 = joined old s4 s5 _ f4 n4 j4 e5 in
    let j6 = joined old s5 s6 _ f5 n5 j5 e6 in
    e7 ∙ ap (λ x. x ++ g) j6 ∙ append_assoc old _ g
