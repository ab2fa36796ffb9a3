-- A reader of a response, as it is seen.
use Rattle.std.specs.Prelude.{◌≡◌, ◌≢◌, ◌-◌, ℕ, Bool, List, Result, Ok, Err}
use Rattle.ld_wire.specs.Heads.{HeadsView, ShowsRefused}
use Rattle.ld_wire.specs.Reader.{FedAt, HasFault, ShowsResponse, IsOpen, IsWhole}
use Rattle.ld_wire.specs.Response.{Response}
use Rattle.ld_wire.specs.declared.fault.WireFault.{WireFault}
use Rattle.ld_wire.specs.declared.fault.WireFault.TheVariants.{Memory}
use Rattle.ld_wire.specs.declared.feed.Feed.{Feed}
use Rattle.ld_wire.specs.declared.feed.Feed.TheVariants as feeds
use Rattle.ld_wire.specs.declared.stage.Stage.{Stage}

-- a reader: what it keeps of the heads, where it stands, the bytes of a size line that isn't whole, and the body so far
pub record ReaderView : Type 0 where
  pub heads : HeadsView
  pub stage : Stage
  pub held : List ℕ
  pub body : List ℕ

-- the reader was fed these bytes, behind which the peer ended or not
abbrev pub IsFed : ReaderView → Bool → List ℕ → Type 0
IsFed reader ended bytes = FedAt reader.stage reader.heads reader.held reader.body ended bytes

-- what is answered of all bytes that were fed, of which so many were fed before: want of memory says nothing of them
abbrev pub FeedAnswers : Result Feed WireFault → ReaderView → Bool → ℕ → List ℕ → Type 0
FeedAnswers (Ok feeds.Again) reader ended before bytes = (ended ≡ Bool.false) × IsOpen reader.heads.for_head bytes
FeedAnswers (Ok (feeds.Whole used)) reader ended before bytes =
    (whole : ℕ) × (response : Response) × IsWhole reader.heads.for_head ended bytes whole response
    × ShowsResponse reader.heads reader.body response × (used ≡ whole - before)
FeedAnswers (Err fault) reader ended before bytes =
    fault ≢ Memory → HasFault reader.heads.for_head ended bytes fault × ShowsRefused reader.heads bytes

-- what is answered where the peer ended behind all bytes that were fed
abbrev pub EndAnswers : Result (Unit {0}) WireFault → ReaderView → List ℕ → Type 0
EndAnswers (Ok done) reader bytes =
    (whole : ℕ) × (response : Response) × IsWhole reader.heads.for_head Bool.true bytes whole response
    × ShowsResponse reader.heads reader.body response
EndAnswers (Err fault) reader bytes =
    fault ≢ Memory → HasFault reader.heads.for_head Bool.true bytes fault × ShowsRefused reader.heads bytes
