-- Steps of a body in chunks, one behind another.
use Rattle.std.proofs.Common.{◌≡◌, ◌+◌, ◌∙◌, ℕ, List, ◌++◌, take, drop, ap, sym, subst, append_assoc}
use Rattle.std.proofs.lemmas.List.{take-append-drop}
use Rattle.std.proofs.Math.Seq.{take-add}
use Rattle.ld_wire.specs.Chunks.{ChunksRefuse}
use Rattle.ld_wire.specs.Standing.{StandsAt, Steps}
use Rattle.ld_wire.specs.declared.fault.WireFault.{WireFault}
use Rattle.ld_wire.specs.declared.place.ChunkStep.{ChunkStep}

-- the text behind more bytes of a piece
pub behind_more : (text piece : List ℕ) (used more : ℕ) → text ++ take (used + more) piece ≡ (text ++ take used piece) ++ take more (drop used piece)
behind_more text piece used more =
    ap (λ (t : List ℕ). text ++ t) (take-add used more piece) ∙ sym (append_assoc text (take used piece) (take more (drop used piece)))

-- and behind all of them
pub behind_all : (text piece : List ℕ) (used : ℕ) → (text ++ take used piece) ++ drop used piece ≡ text ++ piece
behind_all text piece used =
    append_assoc text (take used piece) (drop used piece) ∙ ap (λ (t : List ℕ). text ++ t) (take-append-drop used piece)

-- one step more
pub step_behind : (step : ChunkStep) (held body text piece rest : List ℕ) (used : ℕ) → rest ≡ drop used piece
    → Steps step held body (text ++ take used piece) rest → StandsAt step.place held body (text ++ take (used + step.used) piece)
step_behind step held body text piece rest used same steps =
    let P : List ℕ → Type 0 = λ t. StandsAt step.place held body ((text ++ take used piece) ++ take step.used t) in
    let Q : List ℕ → Type 0 = λ t. StandsAt step.place held body t in
    subst Q (sym (behind_more text piece used step.used)) (subst P same steps.stands)

-- one that is refused
pub refused_behind : (text piece rest : List ℕ) (used : ℕ) (fault : WireFault) → rest ≡ drop used piece
    → ChunksRefuse ((text ++ take used piece) ++ rest) fault → ChunksRefuse (text ++ piece) fault
refused_behind text piece rest used fault same refuses =
    let P : List ℕ → Type 0 = λ t. ChunksRefuse t fault in
    subst P (ap (λ (t : List ℕ). (text ++ take used piece) ++ t) same ∙ behind_all text piece used) refuses
