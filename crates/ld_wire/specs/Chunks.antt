-- A body in chunks (RFC 9112, section 7.1): its grammar, and where no body in chunks can come of it any more.
use Rattle.std.specs.Prelude.{◌≡◌, ◌≢◌, ◌<◌, ◌≤◌, ◌⊎◌, ℕ, zero, suc, ◌+◌, Bool, not, ◌==◌, List, [], ◌∷◌, ◌++◌, length, take}
use Rattle.std.specs.List.{flat_map, AllByRecursion}
use Rattle.httparse.specs.Ascii.{line_feed, carriage_return, crlf_bytes}
use Rattle.httparse.specs.Grammar.{AllPass, LineEnd, print_end, ChunkLine, IsChunkLine, print_chunk_line, chunk_size, HasNoChunkLine, NeverHasChunkLine}
use Rattle.ld_wire.specs.Head.{body_limit}
use Rattle.ld_wire.specs.declared.fault.WireFault.{WireFault}
use Rattle.ld_wire.specs.declared.fault.WireFault.TheVariants.{BadChunk, BodyTooLong}

-- how many bytes a size line and a trailer have at most
abbrev pub size_line_limit : ℕ
size_line_limit = 4096

abbrev pub trailer_limit : ℕ
trailer_limit = 65536

-- a size line of at most so many bytes
pub record IsSizeLine (line : ChunkLine) : Type 0 where
  pub form : IsChunkLine line
  pub short : length (print_chunk_line line) ≤ size_line_limit

-- a chunk with bytes: its size line, the bytes and a line's end
pub record Chunk : Type 0 where
  pub line : ChunkLine
  pub bytes : List ℕ

abbrev pub print_chunk : Chunk → List ℕ
print_chunk chunk = print_chunk_line chunk.line ++ (chunk.bytes ++ crlf_bytes)

-- the line says how many bytes there are, and there are some
pub record IsChunk (chunk : Chunk) : Type 0 where
  pub line : IsSizeLine chunk.line
  pub sized : length chunk.bytes ≡ chunk_size chunk.line
  pub some : 0 < length chunk.bytes

abbrev pub print_chunks : List Chunk → List ℕ
print_chunks chunks = flat_map print_chunk chunks

-- the bytes that chunks carry
abbrev pub carried : List Chunk → List ℕ
carried chunks = flat_map (λ (chunk : Chunk). chunk.bytes) chunks

-- a byte of a line of a trailer: any but a line feed
abbrev pub is_line_byte : ℕ → Bool
is_line_byte byte = not (byte == line_feed)

-- a line of a trailer, which isn't the empty line
pub record IsTrailerLine (line : List ℕ) : Type 0 where
  pub one : AllPass is_line_byte line
  pub some : line ≢ []
  pub more : line ≢ carriage_return ∷ []

-- a trailer: its lines up to the empty one
abbrev pub print_trailer : List (List ℕ) → LineEnd → List ℕ
print_trailer lines end = flat_map (λ line. line ++ line_feed ∷ []) lines ++ print_end end

-- the text is a trailer of at most so many bytes
pub record IsTrailer (text : List ℕ) : Type 0 where
  pub lines : List (List ℕ)
  pub end : LineEnd
  pub form : AllByRecursion IsTrailerLine lines
  pub text_is : text ≡ print_trailer lines end
  pub short : length text ≤ trailer_limit

-- the text is a whole body in chunks, which carry these bytes
pub record IsChunked (text body : List ℕ) : Type 0 where
  pub chunks : List Chunk
  pub last : ChunkLine
  pub trailer : List ℕ
  pub form : AllByRecursion IsChunk chunks
  pub line : IsSizeLine last
  pub ends : chunk_size last ≡ 0
  pub behind : IsTrailer trailer
  pub text_is : text ≡ print_chunks chunks ++ (print_chunk_line last ++ trailer)
  pub body_is : body ≡ carried chunks
  pub short : length body ≤ body_limit

-- the text begins with no front that the fact holds of
abbrev pub HasNo : (List ℕ → Type 0) → List ℕ → Type 0
HasNo Fact text = (front rest : List ℕ) → text ≡ front ++ rest → ¬ (Fact front)

-- no size line can come of the text
abbrev pub HasBadSize : List ℕ → Type 0
HasBadSize text =
    NeverHasChunkLine (take size_line_limit text)
    ⊎ ((size_line_limit ≤ length text) × HasNoChunkLine (take size_line_limit text))

-- the fault of a text of which no size line can come
abbrev pub HasSizeFault : List ℕ → WireFault → Type 0
HasSizeFault text fault = (fault ≡ BadChunk) × HasBadSize text

-- the text isn't the end of a chunk, nor may it become one
abbrev pub IsNoEnd : List ℕ → Type 0
IsNoEnd [] = ⊥
IsNoEnd (byte ∷ []) = byte ≢ carriage_return
IsNoEnd (byte ∷ next ∷ more) = (byte ≢ carriage_return) ⊎ (next ≢ line_feed)

-- so many bytes have no whole trailer
pub record HasLongTrailer (text : List ℕ) : Type 0 where
  pub long : trailer_limit ≤ length text
  pub none : HasNo IsTrailer text

-- behind its size line the text is at fault: the bytes of the chunk aren't followed by a line's end, or, behind the
-- line of size 0, the trailer is too long
abbrev pub HasBadRest : ℕ → List ℕ → Type 0
HasBadRest zero text = HasLongTrailer text
HasBadRest (suc size) text =
    (bytes : List ℕ) × (rest : List ℕ) × (length bytes ≡ suc size) × (text ≡ bytes ++ rest) × IsNoEnd rest

-- behind chunks that carry so many bytes, the text begins with a size line that is at fault, or whose chunk is
pub record LineRefuses (total : ℕ) (text : List ℕ) (fault : WireFault) : Type 0 where
  pub line : ChunkLine
  pub rest : List ℕ
  pub form : IsSizeLine line
  pub text_is : text ≡ print_chunk_line line ++ rest
  pub why :
      ((fault ≡ BodyTooLong) × (body_limit < total + chunk_size line))
      ⊎ ((fault ≡ BadChunk) × (total + chunk_size line ≤ body_limit) × HasBadRest (chunk_size line) rest)

-- behind whole chunks, the text is at fault
pub record ChunksRefuse (text : List ℕ) (fault : WireFault) : Type 0 where
  pub chunks : List Chunk
  pub rest : List ℕ
  pub form : AllByRecursion IsChunk chunks
  pub short : length (carried chunks) ≤ body_limit
  pub text_is : text ≡ print_chunks chunks ++ rest
  pub why : HasSizeFault rest fault ⊎ LineRefuses (length (carried chunks)) rest fault
