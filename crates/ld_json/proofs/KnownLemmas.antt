-- What an object with a member of an unknown name is answered.
use Rattle.std.proofs.Common.{◌≡◌, List, ℕ, Some, Err, refl}
use Rattle.ld_json.specs.Known.{allowed, first_unknown, pieces}
use Rattle.ld_json.specs.Node.{NodeView}
use Rattle.ld_json.specs.Pointer.{member_path}
use Rattle.ld_json.specs.declared.fault.JsonFault.TheVariants.{Unknown}
use Rattle.serde_json.specs.Data.{Members}
use Rattle.serde_json.specs.Find.{as_object}

pub unknown_is_refused : (node : NodeView) (names name path : List ℕ) (ms : Members) (known : List (List ℕ)) → Some ms ≡ as_object node.value → known ≡ pieces names → Some name ≡ first_unknown known ms
    → (path ≡ member_path node.path name) → allowed node names ≡ Err (Unknown path)
unknown_is_refused node names name path ms known kind split found at = rw (← kind, ← split, ← found, at) refl
