use Rattle.std.proofs.Common.{take}
use Rattle.ld_options.proofs.ScenarioLemmas.{ReadSoFar}
use Rattle.ld_options.proofs.document.scenarios.Given as goal

abbrev pub invariant-loop-name : goal.invariant-loop-name
invariant-loop-name l = ReadSoFar l.scripts.names (take l.name-index l.members) l.list.items
