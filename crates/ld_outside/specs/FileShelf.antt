-- A shelf over the files of the machine.
use Rattle.std.specs.Prelude.{◌<◌, ℕ, List, Option, None, length}
use Rattle.std.specs.Io.KnownBytes.{Appends, Consumes, IsAtEnd}
use Rattle.ld_outside.specs.ShelfView.{ShelfView}

-- a shelf that tells nothing, with its faults at reads and at writes
abbrev pub untold : ℕ → ℕ → ShelfView
untold reads writes = record { told = None; read_faults = reads; write_faults = writes }

-- A file was opened, and took this piece: where it tells its bytes, the piece is behind them.
abbrev pub HasWritten : {File : Type 0} → (File → Option (List ℕ)) → List ℕ → Type 0
HasWritten {File} contents piece = (before : File) × (after : File) × Appends (contents before) (contents after) piece

-- A file was opened, and gave these bytes up to its end: where it tells the bytes that it has left, they
-- were these, and none are left.
abbrev pub HasRead : {File : Type 0} → (File → Option (List ℕ)) → List ℕ → Type 0
HasRead {File} remaining bytes =
    (before : File) × (after : File) × Consumes (remaining before) (remaining after) bytes × IsAtEnd (remaining after)

-- A file was opened, and gave more than `cap` bytes: where it tells the bytes that it has left, they began
-- with these.
abbrev pub HasMore : {File : Type 0} → (File → Option (List ℕ)) → ℕ → Type 0
HasMore {File} remaining cap =
    (before : File) × (after : File) × (bytes : List ℕ) × Consumes (remaining before) (remaining after) bytes × (cap < length bytes)
