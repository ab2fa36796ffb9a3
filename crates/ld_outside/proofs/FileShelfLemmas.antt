-- A piece is written to a file front by front.
use Rattle.std.proofs.Common.{◌≡◌, ◌≤◌, ◌+◌, ◌++◌, ◌∙◌, ℕ, List, length, take, drop, arith, ap, sym, subst}
use Rattle.std.specs.Prelude.{Option}
use Rattle.std.specs.Io.KnownBytes.{Appends}
use Rattle.std.proofs.KnownBytes.{Appends-trans}
use Rattle.std.proofs.Math.Seq.{take-add}
use Rattle.std.proofs.lemmas.List.{length-drop}

-- one write more
pub write_more : (first now next : Option (List ℕ)) (piece rest : List ℕ) (done n : ℕ) →
    (done ≤ length piece) × Appends first now (take done piece) → rest ≡ drop done piece → n ≤ length rest →
    Appends now next (take n rest) → (done + n ≤ length piece) × Appends first next (take (done + n) piece)
write_more first now next piece rest done n so_far is within took =
    let length_left : length rest ≡ length (drop done piece) = ap length is in
    let left = length-drop done piece in
    let before = so_far.0 in (
      omega arith,
      subst (λ bytes. Appends first next bytes)
          (ap (λ p. take done piece ++ take n p) is ∙ sym (take-add done n piece))
          (Appends-trans first now next (take done piece) (take n rest) so_far.1 took),
    )
