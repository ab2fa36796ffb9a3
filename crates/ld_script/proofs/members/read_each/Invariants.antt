use Rattle.std.proofs.Common.{take}
use Rattle.ld_script.proofs.ScriptLemmas.{ReadSoFar}
use Rattle.ld_script.proofs.members.read_each.Given as goal

abbrev pub invariant-loop-name : goal.invariant-loop-name
invariant-loop-name l = ReadSoFar (take l.name-index l.members) l.scripts.items l.draft.known.names
