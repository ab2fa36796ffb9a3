-- A trailer as far as it came.
use Rattle.std.specs.Prelude.{◌≡◌, ◌≢◌, ◌<◌, ◌≤◌, ◌==◌, ℕ, List, [], ◌∷◌, ◌++◌, if◌then◌else◌, length, take}
use Rattle.std.specs.List.{flat_map, AllByRecursion}
use Rattle.httparse.specs.Ascii.{line_feed, carriage_return}
use Rattle.httparse.specs.Grammar.{AllPass}
use Rattle.ld_wire.specs.Chunks.{IsTrailer, IsTrailerLine, is_line_byte, trailer_limit}
use Rattle.ld_wire.specs.declared.trailer.LineSoFar.{LineSoFar}
use Rattle.ld_wire.specs.declared.trailer.LineSoFar.TheVariants.{Empty, Return, Filled}
use Rattle.ld_wire.specs.declared.trailer.Passed.{Passed}
use Rattle.ld_wire.specs.declared.trailer.Passed.TheVariants as passes

-- the last line behind one byte more
abbrev pub line_behind : LineSoFar → ℕ → LineSoFar
line_behind Empty byte = if byte == line_feed then Empty else if byte == carriage_return then Return else Filled
line_behind Return byte = if byte == line_feed then Empty else Filled
line_behind Filled byte = if byte == line_feed then Empty else Filled

-- the bytes of a line that has no line feed yet
abbrev pub IsPart : LineSoFar → List ℕ → Type 0
IsPart Empty part = part ≡ []
IsPart Return part = part ≡ carriage_return ∷ []
IsPart Filled part = (part ≢ []) × (part ≢ carriage_return ∷ [])

-- the lines of a trailer, of which none is the empty one, and the last as far as it came
pub record IsTrailerSoFar (line : LineSoFar) (text : List ℕ) : Type 0 where
  pub lines : List (List ℕ)
  pub part : List ℕ
  pub form : AllByRecursion IsTrailerLine lines
  pub one : AllPass is_line_byte part
  pub is : IsPart line part
  pub text_is : text ≡ flat_map (λ line. line ++ line_feed ∷ []) lines ++ part

-- what bytes behind such a text made of it
abbrev pub HasPassed : List ℕ → List ℕ → Passed → Type 0
HasPassed text piece (passes.All line) = IsTrailerSoFar line (text ++ piece) × (length (text ++ piece) < trailer_limit)
HasPassed text piece (passes.Whole used) = (0 < used) × (used ≤ length piece) × IsTrailer (text ++ take used piece)
