use Rattle.ld_machine.proofs.FirstOfAllLemmas.{In-of}
use Rattle.ld_machine.proofs.PlayingLemmas.{legal_matches, busy_plays}
use Rattle.ld_machine.proofs.playing.busy_turns.Goals as goal

pub returns-clause-out : goal.returns-clause-out
returns-clause-out c plan history user play legal is = (legal_matches plan history user legal).out play is

pub returns-clause-playing : goal.returns-clause-playing
returns-clause-playing c plan history thread stint legal out =
    (legal_matches plan history stint.user legal).playing thread stint.scenario stint.item stint.until out

pub returns-clause-busy : goal.returns-clause-busy
returns-clause-busy c plan history n share h legal stands held busy = busy_plays plan history n share h legal stands (In-of held) busy
