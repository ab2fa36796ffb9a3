-- What a reader of a response was fed, where it then stands, and what it answers.
use Rattle.std.specs.Prelude.{◌≡◌, ◌≢◌, ◌≤◌, ◌⊎◌, ◌+◌, ℕ, Bool, IsTrue, List, [], ◌++◌, length, if◌then◌else◌, Result, Ok, Err}
use Rattle.ld_wire.specs.Body.{BodyStands}
use Rattle.ld_wire.specs.Heads.{BehindHead, HeadsView, InHead, ShowsRefused}
use Rattle.ld_wire.specs.Response.{Begins, IsResponse, Refuses, Response}
use Rattle.ld_wire.specs.declared.body_place.BodyPlace.{BodyPlace}
use Rattle.ld_wire.specs.declared.body_place.BodyPlace.TheVariants as places
use Rattle.ld_wire.specs.declared.fault.WireFault.{WireFault}
use Rattle.ld_wire.specs.declared.fault.WireFault.TheVariants.{CutShort, Memory}
use Rattle.ld_wire.specs.declared.feed.Feed.{Feed}
use Rattle.ld_wire.specs.declared.feed.Feed.TheVariants as feeds
use Rattle.ld_wire.specs.declared.framing.Follows.{Follows}
use Rattle.ld_wire.specs.declared.stage.Advance.{Advance}
use Rattle.ld_wire.specs.declared.stage.Stage.{Stage}
use Rattle.ld_wire.specs.declared.stage.Stage.TheVariants as stages

-- the bytes so far with more, of which none come behind the end
abbrev pub with_piece : Bool → List ℕ → List ℕ → List ℕ
with_piece ended bytes piece = if ended then bytes else bytes ++ piece

-- so many of the bytes are a whole response: they begin with one, or all of them are one that ends with the close
abbrev pub IsWhole : Bool → Bool → List ℕ → ℕ → Response → Type 0
IsWhole for_head ended bytes used response =
    Begins for_head bytes used response
    ⊎ (IsTrue ended × (used ≡ length bytes) × IsResponse for_head Bool.true bytes response)

-- they begin with no whole response, and are refused for no fault
pub record IsOpen (for_head : Bool) (bytes : List ℕ) : Type 0 where
  pub none : (used : ℕ) (response : Response) → ¬ (Begins for_head bytes used response)
  pub sound : (fault : WireFault) → ¬ (Refuses for_head bytes fault)

-- the peer ended behind them, and they are no whole response
pub record IsCutShort (for_head : Bool) (bytes : List ℕ) : Type 0 where
  pub unfinished : IsOpen for_head bytes
  pub none : (response : Response) → ¬ (IsResponse for_head Bool.true bytes response)

-- the fault of the bytes, behind which the peer ended or not
abbrev pub HasFault : Bool → Bool → List ℕ → WireFault → Type 0
HasFault for_head ended bytes fault =
    Refuses for_head bytes fault ⊎ ((fault ≡ CutShort) × IsTrue ended × IsCutShort for_head bytes)

-- this was read of a response
pub record ShowsResponse (heads : HeadsView) (body : List ℕ) (response : Response) : Type 0 where
  pub status : heads.status ≡ response.status
  pub headers : heads.headers ≡ response.headers
  pub body_is : body ≡ response.body

-- the heads, and behind them a body as far as it came
pub record InBody (place : BodyPlace) (heads : HeadsView) (held body bytes : List ℕ) : Type 0 where
  pub framing : Follows
  pub front : List ℕ
  pub text : List ℕ
  pub behind : BehindHead heads framing front
  pub stands : BodyStands framing place held body text
  pub unfinished : place ≢ places.Whole
  pub bytes_are : bytes ≡ front ++ text

-- where a response stands whose body stands there
abbrev pub stage_of : BodyPlace → Stage
stage_of (places.Bytes left) = stages.Body (places.Bytes left)
stage_of (places.Chunks at) = stages.Body (places.Chunks at)
stage_of places.Close = stages.Body places.Close
stage_of places.Whole = stages.Whole

-- the bytes were fed, behind which the peer ended or not, and the reading stands there; want of memory leaves it open
-- what was fed
abbrev pub FedAt : Stage → HeadsView → List ℕ → List ℕ → Bool → List ℕ → Type 0
FedAt stages.Head heads held body ended bytes =
    (ended ≡ Bool.false) × InHead heads bytes × (held ≡ []) × (body ≡ [])
FedAt (stages.Body place) heads held body ended bytes = (ended ≡ Bool.false) × InBody place heads held body bytes
FedAt stages.Whole heads held body ended bytes =
    (used : ℕ) × (response : Response) × IsWhole heads.for_head ended bytes used response × ShowsResponse heads body response
FedAt (stages.Refused fault) heads held body ended bytes =
    fault ≢ Memory → HasFault heads.for_head ended bytes fault × ShowsRefused heads bytes

-- so many bytes of a piece were taken behind the bytes, and the reading stands there
abbrev pub AdvancesTo : Stage → ℕ → HeadsView → List ℕ → List ℕ → List ℕ → List ℕ → Type 0
AdvancesTo stages.Head used heads held body bytes piece = FedAt stages.Head heads held body Bool.false (bytes ++ piece)
AdvancesTo (stages.Body place) used heads held body bytes piece =
    FedAt (stages.Body place) heads held body Bool.false (bytes ++ piece)
AdvancesTo stages.Whole used heads held body bytes piece =
    (used ≤ length piece) × (response : Response)
    × Begins heads.for_head (bytes ++ piece) (length bytes + used) response × ShowsResponse heads body response
AdvancesTo (stages.Refused fault) used heads held body bytes piece = ⊥

-- where the reading stands behind a step, and what is answered then
abbrev pub stage_behind : Result Advance WireFault → Stage
stage_behind (Ok advance) = advance.stage
stage_behind (Err fault) = stages.Refused fault

abbrev pub feed_at : Stage → ℕ → Feed
feed_at stages.Head used = feeds.Again
feed_at (stages.Body place) used = feeds.Again
feed_at stages.Whole used = feeds.Whole used
feed_at (stages.Refused fault) used = feeds.Again

abbrev pub feed_of : Result Advance WireFault → Result Feed WireFault
feed_of (Ok advance) = Ok (feed_at advance.stage advance.used)
feed_of (Err fault) = Err fault
