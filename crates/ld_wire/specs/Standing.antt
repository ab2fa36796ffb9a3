-- A body in chunks as far as it came.
use Rattle.std.specs.Prelude.{◌≡◌, ◌≢◌, ◌<◌, ◌≤◌, ℕ, zero, suc, ◌+◌, List, [], ◌∷◌, ◌++◌, length, take}
use Rattle.std.specs.List.{AllByRecursion}
use Rattle.httparse.specs.Ascii.{carriage_return}
use Rattle.httparse.specs.Grammar.{ChunkLine, print_chunk_line, chunk_size}
use Rattle.ld_wire.specs.Chunks.{Chunk, IsChunk, IsChunked, IsSizeLine, carried, print_chunks, trailer_limit}
use Rattle.ld_wire.specs.Found.{IsOpenSize}
use Rattle.ld_wire.specs.Head.{body_limit}
use Rattle.ld_wire.specs.Trailer.{IsTrailerSoFar}
use Rattle.ld_wire.specs.declared.place.ChunkPlace.{ChunkPlace}
use Rattle.ld_wire.specs.declared.place.ChunkPlace.TheVariants.{Size, Data, Return, Feed, Trailer, Whole}
use Rattle.ld_wire.specs.declared.place.ChunkStep.{ChunkStep}
use Rattle.ld_wire.specs.declared.trailer.LineSoFar.{LineSoFar}
use Rattle.ld_wire.specs.declared.trailer.LineSoFar.TheVariants.{Empty}

-- whole chunks, and a size line as far as it came
pub record InSize (held body text : List ℕ) : Type 0 where
  pub chunks : List Chunk
  pub form : AllByRecursion IsChunk chunks
  pub short : length (carried chunks) ≤ body_limit
  pub text_is : text ≡ print_chunks chunks ++ held
  pub body_is : body ≡ carried chunks
  pub more : IsOpenSize held

-- whole chunks, and one as far as it came: its size line, and bytes of which so many are still to come
pub record InData (left : ℕ) (body text : List ℕ) : Type 0 where
  pub chunks : List Chunk
  pub line : ChunkLine
  pub bytes : List ℕ
  pub form : AllByRecursion IsChunk chunks
  pub line_form : IsSizeLine line
  pub count : length bytes + left ≡ chunk_size line
  pub some : 0 < chunk_size line
  pub short : length (carried chunks) + chunk_size line ≤ body_limit
  pub text_is : text ≡ print_chunks chunks ++ (print_chunk_line line ++ bytes)
  pub body_is : body ≡ carried chunks ++ bytes

-- whole chunks, and one without its end, of which this part came
pub record InEnd (part body text : List ℕ) : Type 0 where
  pub before : List ℕ
  pub filled : InData 0 body before
  pub text_is : text ≡ before ++ part

-- whole chunks, the last size line, and the trailer as far as it came
pub record InTrailer (line : LineSoFar) (seen : ℕ) (body text : List ℕ) : Type 0 where
  pub chunks : List Chunk
  pub last : ChunkLine
  pub trailer : List ℕ
  pub form : AllByRecursion IsChunk chunks
  pub last_form : IsSizeLine last
  pub ends : chunk_size last ≡ 0
  pub short : length (carried chunks) ≤ body_limit
  pub so_far : IsTrailerSoFar line trailer
  pub count : length trailer ≡ seen
  pub few : seen < trailer_limit
  pub text_is : text ≡ print_chunks chunks ++ (print_chunk_line last ++ trailer)
  pub body_is : body ≡ carried chunks

-- the text of a body, of which these bytes were carried so far, stands there; these bytes of a size line are held
abbrev pub StandsAt : ChunkPlace → List ℕ → List ℕ → List ℕ → Type 0
StandsAt Size held body text = InSize held body text
StandsAt (Data left) held body text = (0 < left) × InData left body text
StandsAt Return held body text = InEnd [] body text
StandsAt Feed held body text = InEnd (carriage_return ∷ []) body text
StandsAt (Trailer line seen) held body text = InTrailer line seen body text
StandsAt Whole held body text = IsChunked text body

-- where it stands behind a size line of this size
abbrev pub place_of : ℕ → ChunkPlace
place_of zero = Trailer Empty 0
place_of (suc size) = Data (suc size)

-- a step over some of the bytes of a piece, or over none where the piece has none
pub record Steps (step : ChunkStep) (held body text piece : List ℕ) : Type 0 where
  pub inside : step.used ≤ length piece
  pub some : 0 < length piece → 0 < step.used
  pub stands : StandsAt step.place held body (text ++ take step.used piece)

-- steps over bytes of a piece up to its end, or to the end of the body
pub record Takes (step : ChunkStep) (held body text piece : List ℕ) : Type 0 where
  pub inside : step.used ≤ length piece
  pub all : step.place ≢ Whole → step.used ≡ length piece
  pub stands : StandsAt step.place held body (text ++ take step.used piece)
