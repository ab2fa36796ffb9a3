use Rattle.ld_wire.specs.Request.{sent_headers}
use Rattle.ld_wire.proofs.ReadingLemmas.{headers_read, read_alone, read_back}
use Rattle.ld_wire.proofs.laws.request_read_back.Goals as goal

pub returns-clause-reads : goal.returns-clause-reads
returns-clause-reads c = read_back

pub returns-clause-alone : goal.returns-clause-alone
returns-clause-alone c = read_alone

pub returns-clause-headers : goal.returns-clause-headers
returns-clause-headers c = λ spec. headers_read (sent_headers spec)
