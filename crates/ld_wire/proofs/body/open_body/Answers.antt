use Rattle.ld_wire.proofs.BodyLemmas.{chunks_begin}
use Rattle.ld_wire.proofs.body.open_body.Goals as goal

pub returns-in-Chunks : goal.returns-in-Chunks
returns-in-Chunks c = (c.in-Chunks.is, λ e. absurd (cc), chunks_begin)
