-- What is found at the front of the first bytes of a head or of a size line: a whole one, or none yet.
use Rattle.std.specs.Prelude.{◌<◌, ℕ, List, length}
use Rattle.httparse.specs.Grammar.{ChunkLine, HasNoResponse, MayBecomeResponse, HasNoChunkLine, MayBecomeChunkLine}
use Rattle.httparse.specs.Spans.{IsChunkLineAt}
use Rattle.ld_wire.specs.Chunks.{size_line_limit}
use Rattle.ld_wire.specs.Head.{head_limit}

-- there is no whole head yet, and one can still come
pub record IsOpenHead (bytes : List ℕ) : Type 0 where
  pub none : HasNoResponse bytes
  pub more : MayBecomeResponse bytes
  pub short : length bytes < head_limit

-- the first bytes are a size line of this length, which says this size
abbrev pub IsSizeAt : List ℕ → ℕ → ℕ → Type 0
IsSizeAt bytes len size = (line : ChunkLine) × IsChunkLineAt bytes len size line

-- there is no whole size line yet, and one can still come
pub record IsOpenSize (bytes : List ℕ) : Type 0 where
  pub none : HasNoChunkLine bytes
  pub more : MayBecomeChunkLine bytes
  pub short : length bytes < size_line_limit
