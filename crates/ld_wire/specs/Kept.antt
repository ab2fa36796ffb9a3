-- What a reader keeps, and how it is seen.
use Rattle.std.specs.Prelude.{Bool, List, ℕ}
use Rattle.ld_wire.specs.Heads.{KeepsHeaders, heads_view}
use Rattle.ld_wire.specs.Reader.{FedAt}
use Rattle.ld_wire.specs.ReaderView.{ReaderView}
use Rattle.ld_wire.specs.declared.heads.Heads.{Heads}
use Rattle.ld_wire.specs.declared.stage.Stage.{Stage}

abbrev pub reader_view : Heads → Stage → List ℕ → List ℕ → ReaderView
reader_view heads stage held body = record { heads = heads_view heads; stage = stage; held = held; body = body }

-- there is room for headers, and it stands where some bytes lead
pub record IsKept (heads : Heads) (stage : Stage) (held body : List ℕ) : Type 0 where
  pub room : KeepsHeaders heads
  pub ended : Bool
  pub bytes : List ℕ
  pub fed : FedAt stage (heads_view heads) held body ended bytes
