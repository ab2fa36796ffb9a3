-- Responses (RFC 9112): which bytes are a whole one, and which bytes none can come of any more.
use Rattle.std.specs.Prelude.{◌≡◌, ◌<◌, ◌≤◌, ◌⊎◌, ℕ, ◌+◌, Bool, IsTrue, List, [], ◌∷◌, ◌++◌, length, take, Result, Ok, Err, ⊤}
use Rattle.std.specs.List.{flat_map}
use Rattle.httparse.specs.Grammar.{ResponseHead, print_response, status_code, HasNoResponse, NeverHasResponse}
use Rattle.ld_wire.specs.Chunks.{IsChunked, ChunksRefuse}
use Rattle.ld_wire.specs.Head.{Header, IsHead, body_limit, follows_head, head_limit, headers_of}
use Rattle.ld_wire.specs.declared.fault.WireFault.{WireFault}
use Rattle.ld_wire.specs.declared.fault.WireFault.TheVariants.{BadHead, HeadTooLong, BodyTooLong}
use Rattle.ld_wire.specs.declared.framing.Follows.{Follows}
use Rattle.ld_wire.specs.declared.framing.Follows.TheVariants.{Head, Nothing, Bytes, Chunks, Close}

-- a response: its status, its headers and its body
pub record Response : Type 0 where
  pub status : ℕ
  pub headers : List Header
  pub body : List ℕ

-- each is the head of an interim response, behind so many of them
abbrev pub AreInterims : Bool → ℕ → List ResponseHead → Type 0
AreInterims for_head before [] = ⊤
AreInterims for_head before (head ∷ heads) =
    IsHead head × (follows_head for_head before head ≡ Ok Head) × AreInterims for_head (before + 1) heads

abbrev pub print_heads : List ResponseHead → List ℕ
print_heads heads = flat_map print_response heads

-- the text is a whole body of this framing, where the peer ended behind it or not
abbrev pub IsBody : Follows → Bool → List ℕ → List ℕ → Type 0
IsBody Head ended text body = ⊥
IsBody Nothing ended text body = (text ≡ []) × (body ≡ [])
IsBody (Bytes number) ended text body = (length text ≡ number) × (body ≡ text)
IsBody Chunks ended text body = IsChunked text body
IsBody Close ended text body = IsTrue ended × (length text ≤ body_limit) × (body ≡ text)

-- the bytes are a whole response: interim heads, the final head and the body
pub record IsResponse (for_head ended : Bool) (bytes : List ℕ) (response : Response) : Type 0 where
  pub interims : List ResponseHead
  pub final : ResponseHead
  pub framing : Follows
  pub text : List ℕ
  pub before : AreInterims for_head 0 interims
  pub head : IsHead final
  pub framed : follows_head for_head (length interims) final ≡ Ok framing
  pub bytes_are : bytes ≡ print_heads interims ++ (print_response final ++ text)
  pub body : IsBody framing ended text response.body
  pub status : response.status ≡ status_code final
  pub headers : response.headers ≡ headers_of final

-- no head can come of the first bytes that are looked at
abbrev pub HasBadHead : List ℕ → Type 0
HasBadHead bytes = NeverHasResponse (take head_limit bytes)

-- these are all that are looked at, and they have no whole head
pub record HasLongHead (bytes : List ℕ) : Type 0 where
  pub long : head_limit ≤ length bytes
  pub none : HasNoResponse (take head_limit bytes)
  pub unsure : ¬ (HasBadHead bytes)

-- the fault of bytes of which no head can come
abbrev pub HasHeadFault : List ℕ → WireFault → Type 0
HasHeadFault bytes fault =
    ((fault ≡ BadHead) × HasBadHead bytes) ⊎ ((fault ≡ HeadTooLong) × HasLongHead bytes)

-- a text of this framing is at fault
abbrev pub BodyRefuses : Follows → List ℕ → WireFault → Type 0
BodyRefuses Head text fault = ⊥
BodyRefuses Nothing text fault = ⊥
BodyRefuses (Bytes number) text fault = ⊥
BodyRefuses Chunks text fault = ChunksRefuse text fault
BodyRefuses Close text fault = (fault ≡ BodyTooLong) × (body_limit < length text)

-- a whole head is at fault, or the body behind it is
abbrev pub FollowedBy : Result Follows WireFault → List ℕ → WireFault → Type 0
FollowedBy (Err found) text fault = fault ≡ found
FollowedBy (Ok framing) text fault = BodyRefuses framing text fault

-- behind so many interim heads, the bytes begin with a whole head that is at fault, or whose body is
pub record HeadRefuses (for_head : Bool) (before : ℕ) (bytes : List ℕ) (fault : WireFault) : Type 0 where
  pub head : ResponseHead
  pub text : List ℕ
  pub form : IsHead head
  pub bytes_are : bytes ≡ print_response head ++ text
  pub why : FollowedBy (follows_head for_head before head) text fault

-- no whole response begins with the bytes: behind whole interim heads they have this fault
pub record Refuses (for_head : Bool) (bytes : List ℕ) (fault : WireFault) : Type 0 where
  pub interims : List ResponseHead
  pub rest : List ℕ
  pub before : AreInterims for_head 0 interims
  pub bytes_are : bytes ≡ print_heads interims ++ rest
  pub why : HeadRefuses for_head (length interims) rest fault ⊎ HasHeadFault rest fault

-- the bytes begin with a whole response of so many bytes, which the peer needn't end
pub record Begins (for_head : Bool) (bytes : List ℕ) (used : ℕ) (response : Response) : Type 0 where
  pub inside : used ≤ length bytes
  pub whole : IsResponse for_head Bool.false (take used bytes) response
