-- How the text of a request is read: by the grammar of heads.
use Rattle.std.specs.Prelude.{List, ℕ, [], ◌∷◌, ◌<◌, ◌≤◌, All, length, map, ◌≡◌, Bool, false, codes}
use Rattle.std.specs.Str.{str_eq_ignore_ascii_case}
use Rattle.httparse.specs.Ascii.{space}
use Rattle.httparse.specs.Grammar.{IsToken, RequestHead, Field, crlf, trim_ows}
use Rattle.ld_base.specs.declared.request.RequestSpec.{RequestSpec}
use Rattle.ld_wire.specs.Order.{Header}
use Rattle.ld_wire.specs.Request.{sent_headers}

-- a visible byte of ASCII, and one that may also be the space
abbrev pub IsVisible : ℕ → Type 0
IsVisible byte = (33 ≤ byte) × (byte ≤ 126)

abbrev pub IsPrintable : ℕ → Type 0
IsPrintable byte = (32 ≤ byte) × (byte ≤ 126)

-- a name that is a token (RFC 9110, section 5.6.2), and a value of printable bytes
abbrev pub IsPlainHeader : Header → Type 0
IsPlainHeader header = IsToken header.0 × All IsPrintable header.1

-- the method is a token, the target visible bytes, the authority and the headers' values are printable, and their names
-- tokens
pub record IsPlainSpec (spec : RequestSpec) : Type 0 where
  pub method : IsToken spec.method
  pub target : (0 < length spec.target) × All IsVisible spec.target
  pub authority : All IsPrintable spec.authority
  pub headers : All IsPlainHeader spec.headers

-- the field line of a header
abbrev pub field_of : Header → Field
field_of header = record { name = header.0; raw = space ∷ header.1; end = crlf }

-- the head of a request: HTTP/1.1, with just these headers
abbrev pub head_of : RequestSpec → RequestHead
head_of spec = record {
  blank = [];
  method = spec.method;
  target = spec.target;
  minor = 1;
  line_end = crlf;
  fields = map field_of (sent_headers spec);
  last = crlf;
}

-- a header as it is read: without the white space around its value
abbrev pub as_read : Header → Header
as_read header = (header.0, trim_ows header.1)

-- the header has this name, letters' case aside (RFC 9110, section 5.1)
abbrev pub is_called : List ℕ → Header → Bool
is_called name header = str_eq_ignore_ascii_case name header.0

-- the names that the text of a request gives itself, and the one that would frame its content otherwise
-- (RFC 9112, section 6)
abbrev pub kept_names : List (List ℕ)
kept_names = codes "host" ∷ codes "connection" ∷ codes "content-length" ∷ codes "transfer-encoding" ∷ []

-- a header that has none of these names
abbrev pub IsOwnHeader : Header → Type 0
IsOwnHeader header = All (λ name. is_called name header ≡ false) kept_names
