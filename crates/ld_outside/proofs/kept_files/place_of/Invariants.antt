use Rattle.std.proofs.Common.{◌≡◌, None, take}
use Rattle.ld_outside.specs.ShelfView.{file_of}
use Rattle.ld_outside.proofs.kept_files.place_of.Given as goal

abbrev pub invariant-loop-at : goal.invariant-loop-at
invariant-loop-at l = file_of l.name (take l.at l.files) ≡ None
