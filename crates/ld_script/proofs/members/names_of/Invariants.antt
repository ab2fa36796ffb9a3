use Rattle.std.proofs.Common.{◌≡◌, ◌++◌, map}
use Rattle.ld_script.specs.Scripts.{name_of}
use Rattle.ld_script.proofs.members.names_of.Given as goal

abbrev pub invariant-loop-name : goal.invariant-loop-name
invariant-loop-name l = l.names.items ++ map name_of l.name-iterator.rest.items ≡ map name_of l.fn.members.items
