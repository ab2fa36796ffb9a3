-- A body as far as it came, by its framing.
use Rattle.std.specs.Prelude.{◌≡◌, ◌≢◌, ◌<◌, ◌≤◌, ℕ, ◌+◌, Bool, List, ◌++◌, length, take}
use Rattle.ld_wire.specs.Head.{body_limit}
use Rattle.ld_wire.specs.Response.{IsBody}
use Rattle.ld_wire.specs.Standing.{StandsAt}
use Rattle.ld_wire.specs.declared.body_place.BodyPlace.{BodyPlace}
use Rattle.ld_wire.specs.declared.body_place.BodyPlace.TheVariants as places
use Rattle.ld_wire.specs.declared.body_place.BodyStep.{BodyStep}
use Rattle.ld_wire.specs.declared.framing.Follows.{Follows}
use Rattle.ld_wire.specs.declared.framing.Follows.TheVariants.{Bytes, Chunks, Close}
use Rattle.ld_wire.specs.declared.place.ChunkPlace.TheVariants.{Whole}

-- the text of a body, which is the same as far as it came, of a length of which so many bytes are still to come
pub record InBytes (framing : Follows) (left : ℕ) (body text : List ℕ) : Type 0 where
  pub number : ℕ
  pub framed : framing ≡ Bytes number
  pub count : length text + left ≡ number
  pub some : 0 < left
  pub body_is : body ≡ text

-- the text of a body that ends with the close
pub record InClose (framing : Follows) (body text : List ℕ) : Type 0 where
  pub framed : framing ≡ Close
  pub short : length text ≤ body_limit
  pub body_is : body ≡ text

-- the text of a body of this framing, of which these bytes were carried so far, stands there; these bytes of a size line
-- are held
abbrev pub BodyStands : Follows → BodyPlace → List ℕ → List ℕ → List ℕ → Type 0
BodyStands framing (places.Bytes left) held body text = InBytes framing left body text
BodyStands framing (places.Chunks at) held body text = (framing ≡ Chunks) × (at ≢ Whole) × StandsAt at held body text
BodyStands framing places.Close held body text = InClose framing body text
BodyStands framing places.Whole held body text = IsBody framing Bool.false text body

-- a step over bytes of a piece up to its end, or to the end of the body
pub record BodyTakes (framing : Follows) (step : BodyStep) (held body text piece : List ℕ) : Type 0 where
  pub inside : step.used ≤ length piece
  pub all : step.place ≢ places.Whole → step.used ≡ length piece
  pub stands : BodyStands framing step.place held body (text ++ take step.used piece)
