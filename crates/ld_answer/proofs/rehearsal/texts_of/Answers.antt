use Rattle.std.proofs.Common.{◌∙◌, ℕ, List, ap₂}
use Rattle.ld_answer.proofs.rehearsal.texts_of.Goals as goal

pub returns : goal.returns
returns c =
    record {
      file = ap₂ (λ (name bytes : List ℕ). record { name = name; bytes = bytes }) (c.of-name.ensures ∙ c.in_ok-from_slice.ensures.items ∙ c.as_slice.ensures) c.in_ok-bytes.ensures;
      summary = c.in_ok-summary.ensures;
    }
