use Rattle.std.proofs.Common.{◌≡◌, ◌++◌, take}
use Rattle.ld_json.specs.Pointer.{escaped}
use Rattle.ld_json.proofs.path.put_name.Given as goal

abbrev pub invariant-loop-byte : goal.invariant-loop-byte
invariant-loop-byte l = l.into.items ≡ l.fn.into.items ++ escaped (take l.byte-index l.name)
