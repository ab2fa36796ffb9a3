-- What a sink does with a piece of text.
use Rattle.std.specs.Prelude.{◌≡◌, ◌<◌, ◌≤◌, ℕ, List, [], Result, Ok, Err, IfOk, OnOk, OnErr, MatchResult, length, take}
use Rattle.ld_outside.specs.SinkView.{SinkView, Took, TookFront, Rose}
use Rattle.ld_outside.specs.declared.sink.SinkFault.{SinkFault}
use Rattle.ld_outside.specs.declared.sink.SinkFault.TheVariants.{Failed, Memory}

-- the count of faults rises with each failure, and with nothing else
abbrev pub CountsFailure : {T : Type 0} → ℕ → Result T SinkFault → ℕ → Type 0
CountsFailure before (Ok x) after = after ≡ before
CountsFailure before (Err Failed) after = Rose before after
CountsFailure before (Err Memory) after = after ≡ before

-- One put: the sink takes as many bytes of the piece as it answers, at least one where there is
-- one, or it takes nothing and fails.
pub record IsPut (old : SinkView) (piece : List ℕ) (result : Result ℕ SinkFault) (new : SinkView) : Type 0 where
  pub took : MatchResult result (λ n. Took old (take n piece) new) (λ e. Took old [] new)
  pub within : IfOk result (λ n. n ≤ length piece)
  pub some : IfOk result (λ n. 0 < length piece → 0 < n)
  pub faults : CountsFailure old.faults result new.faults

-- A whole text is put: all of it was taken, or a front of it up to the first fault.
pub record IsPutAll {T : Type 0} (old : SinkView) (text : List ℕ) (result : Result T SinkFault) (new : SinkView) : Type 0 where
  pub whole : OnOk result (Took old text new)
  pub front : OnErr result (TookFront old text new)
  pub faults : CountsFailure old.faults result new.faults
