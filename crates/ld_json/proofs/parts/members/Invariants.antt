use Rattle.std.proofs.Common.{◌≡◌, ◌++◌}
use Rattle.serde_json.specs.View.{members_view}
use Rattle.ld_json.specs.Node.{named}
use Rattle.ld_json.proofs.parts.members.Given as goal

abbrev pub invariant-loop-key : goal.invariant-loop-key
invariant-loop-key l = l.pairs.items ++ named l.path (members_view l.key-iterator) ≡ named l.path (members_view l.members.entries)
