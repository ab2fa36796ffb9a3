-- What the desk puts on its two sinks.
use Rattle.std.specs.Prelude.{◌≡◌, ◌≤◌, ◌⊎◌, [], ℕ, List, codes}
use Rattle.ld_outside.specs.SinkView.{SinkView, Took, TookFront, Rose}
use Rattle.ld_answer.specs.RefusalLine.{line_of, memory_line, status_of}
use Rattle.ld_answer.specs.declared.refusal.Refusal.{Refusal}

-- nothing was put on the sink, and no fault of it was counted
abbrev pub Untouched : SinkView → SinkView → Type 0
Untouched old new = Took old [] new × (new.faults ≡ old.faults)

-- the whole line was taken, or a fault was counted and a front of it was taken
abbrev pub Says : SinkView → List ℕ → SinkView → Type 0
Says old line new =
    (Took old line new × (new.faults ≡ old.faults)) ⊎ (TookFront old line new × Rose old.faults new.faults)

-- the line for a fault of writing
abbrev pub write_line : List ℕ
write_line = codes "error write\n"

-- A line was put on `err`: the status stays whatever `err` did, but for want of memory.
pub record IsSaid (line : List ℕ) (status result : ℕ) (err err' : SinkView) : Type 0 where
  pub said : ((result ≡ status) × Says err line err') ⊎ ((result ≡ 9) × TookFront err line err')
  pub count : err.faults ≤ err'.faults

-- A refusal was put on `err`.
pub record IsRefusalSaid (refusal : Refusal) (status : ℕ) (err err' : SinkView) : Type 0 where
  pub said : ((status ≡ status_of refusal) × Says err (line_of refusal) err')
      ⊎ ((status ≡ 9) × (TookFront err (line_of refusal) err' ⊎ TookFront err memory_line err'))
  pub count : err.faults ≤ err'.faults
