-- The heads of a response as far as they came.
use Rattle.std.specs.Prelude.{◌≡◌, ◌<◌, ◌≤◌, ◌⊎◌, All, ℕ, Bool, IsTrue, List, [], ◌++◌, length, map, take, Ok}
use Rattle.httparse.specs.Grammar.{ResponseHead, print_response, status_code}
use Rattle.httparse.specs.Spans.{IsHeaderWithin, header_bytes}
use Rattle.httparse.specs.declared.spans.HeaderSpan.{HeaderSpan}
use Rattle.httparse.specs.declared.spans.ResponseSpans.{ResponseSpans}
use Rattle.ld_wire.specs.Found.{IsOpenHead}
use Rattle.ld_wire.specs.Head.{Header, IsHead, follows_head, headers_of, is_told}
use Rattle.ld_wire.specs.Response.{AreInterims, print_heads}
use Rattle.ld_wire.specs.declared.framing.Follows.{Follows}
use Rattle.ld_wire.specs.declared.framing.Follows.TheVariants.{Head, Nothing, Bytes, Chunks, Close}
use Rattle.ld_wire.specs.declared.heads.Heads.{Heads}

-- a head ends behind so many bytes of a piece, and its parts were found there
pub record HeadEnds (old new : List ℕ) (room : List HeaderSpan) (piece : List ℕ) (used : ℕ) (found : ResponseSpans) : Type 0 where
  pub head : ResponseHead
  pub form : IsHead head
  pub some : 0 < used
  pub inside : used ≤ length piece
  pub new_is : new ≡ old ++ take used piece
  pub print : new ≡ print_response head
  pub code : found.code ≡ status_code head
  pub count : found.headers ≤ length room
  pub within : All (IsHeaderWithin (length new)) (take found.headers room)
  pub headers : map (header_bytes new) (take found.headers room) ≡ headers_of head

-- a whole head was found in the bytes, with its parts
pub record IsFound (bytes : List ℕ) (room : List HeaderSpan) (found : ResponseSpans) (head : ResponseHead) : Type 0 where
  pub form : IsHead head
  pub print : bytes ≡ print_response head
  pub code : found.code ≡ status_code head
  pub count : found.headers ≤ length room
  pub within : All (IsHeaderWithin (length bytes)) (take found.headers room)
  pub headers : map (header_bytes bytes) (take found.headers room) ≡ headers_of head

-- what is kept of heads: for a HEAD request or not, how many interim ones came, the bytes of the last, and the status and
-- the headers of the final one
pub record HeadsView : Type 0 where
  pub for_head : Bool
  pub interims : ℕ
  pub bytes : List ℕ
  pub status : ℕ
  pub headers : List Header

abbrev pub heads_view : Heads → HeadsView
heads_view heads = record {
  for_head = heads.for_head;
  interims = heads.interims;
  bytes = heads.bytes.items;
  status = heads.status;
  headers = map (header_bytes heads.bytes.items) (take heads.headers heads.room.items);
}

-- the headers that are kept lie in the bytes of their head
pub record KeepsHeaders (heads : Heads) : Type 0 where
  pub count : heads.headers ≤ length heads.room.items
  pub within : All (IsHeaderWithin (length heads.bytes.items)) (take heads.headers heads.room.items)

-- whole interim heads, and the next head as far as it came
pub record InHead (heads : HeadsView) (bytes : List ℕ) : Type 0 where
  pub before : List ResponseHead
  pub form : AreInterims heads.for_head 0 before
  pub count : length before ≡ heads.interims
  pub bytes_are : bytes ≡ print_heads before ++ heads.bytes
  pub more : IsOpenHead heads.bytes
  pub status : heads.status ≡ 0
  pub headers : heads.headers ≡ []

-- whole interim heads and the final one, which is followed so
pub record BehindHead (heads : HeadsView) (framing : Follows) (bytes : List ℕ) : Type 0 where
  pub before : List ResponseHead
  pub final : ResponseHead
  pub form : AreInterims heads.for_head 0 before
  pub final_form : IsHead final
  pub framed : follows_head heads.for_head (length before) final ≡ Ok framing
  pub bytes_are : bytes ≡ print_heads before ++ print_response final
  pub status : heads.status ≡ status_code final
  pub headers : heads.headers ≡ headers_of final

-- the heads stand there, behind which this follows
abbrev pub HeadsStand : Follows → HeadsView → List ℕ → Type 0
HeadsStand Head heads bytes = InHead heads bytes
HeadsStand Nothing heads bytes = BehindHead heads Nothing bytes
HeadsStand (Bytes number) heads bytes = BehindHead heads (Bytes number) bytes
HeadsStand Chunks heads bytes = BehindHead heads Chunks bytes
HeadsStand Close heads bytes = BehindHead heads Close bytes

-- a step over some of the bytes of a piece, or over none where the piece has none
pub record HeadsStep (used : ℕ) (follows : Follows) (heads : HeadsView) (bytes piece : List ℕ) : Type 0 where
  pub inside : used ≤ length piece
  pub some : 0 < length piece → 0 < used
  pub stands : HeadsStand follows heads (bytes ++ take used piece)

-- steps over bytes of a piece up to its end, or to the end of the final head
pub record HeadsTake (used : ℕ) (follows : Follows) (heads : HeadsView) (bytes piece : List ℕ) : Type 0 where
  pub inside : used ≤ length piece
  pub all : follows ≡ Head → used ≡ length piece
  pub stands : HeadsStand follows heads (bytes ++ take used piece)

-- the bytes tell of this head: it is whole, behind whole interim heads, and is no interim one or has the status 101
pub record TellsOf (for_head : Bool) (bytes : List ℕ) (head : ResponseHead) : Type 0 where
  pub interims : List ResponseHead
  pub rest : List ℕ
  pub before : AreInterims for_head 0 interims
  pub form : IsHead head
  pub told : IsTrue (is_told (status_code head))
  pub bytes_are : bytes ≡ print_heads interims ++ (print_response head ++ rest)

-- what is shown of bytes that are refused: the status and the headers of the head that they tell of; or, where they tell
-- of none, the status 0 and no headers
abbrev pub ShowsRefused : HeadsView → List ℕ → Type 0
ShowsRefused heads bytes =
    ((head : ResponseHead) × TellsOf heads.for_head bytes head
    × (heads.status ≡ status_code head) × (heads.headers ≡ headers_of head))
    ⊎ (((head : ResponseHead) → ¬ (TellsOf heads.for_head bytes head))
    × (heads.status ≡ 0) × (heads.headers ≡ []))
