-- Sinks and lines: what was said, and what wasn't touched.
use Rattle.std.proofs.Common.{◌≡◌, ◌⊎◌, ◌++◌, [], ℕ, List, inl, inr, length, append-nil, refl, subst, sym}
use Rattle.std.specs.Prelude.{Option, Some, None, IfSome, IsSomeAnd}
use Rattle.std.proofs.Math.Seq.{take-length}
use Rattle.ld_outside.specs.SinkView.{SinkView, Took, TookFront}
use Rattle.ld_run.specs.Saying.{Says, IsSaid, Untouched}

-- what was taken whole is a front
pub whole_front : (old new : SinkView) (line : List ℕ) → Took old line new → TookFront old line new
whole_front old new line took = (length line, subst (λ l. Took old l new) (sym (take-length line)) took)

-- a line that was said is a front that was taken
pub said_front : (old new : SinkView) (line : List ℕ) → Says old line new → TookFront old line new
said_front old new line (inl said) = whole_front old new line said.0
said_front old new line (inr failed) = failed.0

-- where the status is that of want of memory, it is so whatever `err` did
pub said_memory : (line : List ℕ) (result : ℕ) (err err' : SinkView) → IsSaid line 9 result err err' →
    (result ≡ 9) × TookFront err line err'
said_memory line result err err' said = cases said.said
  where
    cases : ((result ≡ 9) × Says err line err') ⊎ ((result ≡ 9) × TookFront err line err') → (result ≡ 9) × TookFront err line err'
    cases (inl s) = (s.0, said_front err err' line s.1)
    cases (inr f) = f

-- a sink that no call was made of
pub untouched : (out : SinkView) → Untouched out out
untouched out = (same out.told, refl)
  where
    same : (told : Option (List ℕ)) → IfSome told (λ now. IsSomeAnd told (λ before. now ≡ before ++ []))
    same None = tt
    same (Some bytes) = sym (append-nil bytes)
