use Rattle.ld_wire.proofs.FramingLemmas.{no_coding, one_connection, one_host, told_length, untold_length}
use Rattle.ld_wire.proofs.laws.content_framed.Goals as goal

pub returns-clause-host : goal.returns-clause-host
returns-clause-host c = one_host

pub returns-clause-connection : goal.returns-clause-connection
returns-clause-connection c = one_connection

pub returns-clause-coding : goal.returns-clause-coding
returns-clause-coding c = no_coding

pub returns-clause-told : goal.returns-clause-told
returns-clause-told c = told_length

pub returns-clause-untold : goal.returns-clause-untold
returns-clause-untold c = untold_length
