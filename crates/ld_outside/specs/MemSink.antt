-- A sink in memory, call by call.
use Rattle.std.specs.Prelude.{◌≡◌, ◌+◌, ◌++◌, ℕ, List, Some, Result, Ok, Err, Contains, length, min}
use Rattle.ld_outside.specs.SinkView.{SinkView, last_count}
use Rattle.ld_outside.specs.declared.sink.SinkFault.{SinkFault}
use Rattle.ld_outside.specs.declared.sink.SinkFault.TheVariants.{Failed, Memory}

-- the bytes taken, the numbers of the calls that are to fail, and the calls and faults so far
pub record MemSinkState : Type 0 where
  pub taken : List ℕ
  pub failing : List ℕ
  pub calls : ℕ
  pub faults : ℕ

-- a sink in memory tells what it took
abbrev pub seen_of : MemSinkState → SinkView
seen_of s = record { told = Some s.taken; faults = s.faults }

-- a sure sink tells what it took, and has no faults
abbrev pub seen_of_sure : List ℕ → SinkView
seen_of_sure taken = record { told = Some taken; faults = 0 }

-- one more, up to the last value of a count
abbrev pub count_on : ℕ → ℕ
count_on n = min (n + 1) last_count

-- this call is one of those that are to fail
abbrev pub IsToFail : MemSinkState → Type 0
IsToFail old = Contains old.failing (count_on old.calls)

-- A put is the next call. It fails exactly where it is to fail, and takes the whole piece else.
abbrev pub IsMemPut : MemSinkState → List ℕ → Result ℕ SinkFault → MemSinkState → Type 0
IsMemPut old piece (Ok n) new =
    (¬ IsToFail old) × (n ≡ length piece)
    × (new ≡ record old { taken = old.taken ++ piece; calls = count_on old.calls })
IsMemPut old piece (Err Failed) new =
    IsToFail old × (new ≡ record old { calls = count_on old.calls; faults = count_on old.faults })
IsMemPut old piece (Err Memory) new =
    (¬ IsToFail old) × (new ≡ record old { calls = count_on old.calls })
