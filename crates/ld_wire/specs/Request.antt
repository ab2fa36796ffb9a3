-- The text of a request (RFC 9112, sections 2.1, 3 and 5), line by line.
use Rattle.std.specs.Prelude.{Bool, ◌||◌, ℕ, List, [], ◌∷◌, ◌++◌, codes, decimal, length, map, bytes_eq, if◌then◌else◌}
use Rattle.std.specs.List.{concat, list_any}
use Rattle.std.specs.Option.{is_some, unwrap_or}
use Rattle.httparse.specs.Ascii.{crlf_bytes}
use Rattle.ld_base.specs.declared.request.RequestSpec.{RequestSpec}
use Rattle.ld_line.specs.Line.{joined}
use Rattle.ld_wire.specs.Order.{Header, in_order}

-- the first line: the method, the target and the version
abbrev pub request_line : RequestSpec → List ℕ
request_line spec = joined (spec.method ∷ spec.target ∷ codes "HTTP/1.1" ∷ [])

-- the line of a header
abbrev pub header_line : Header → List ℕ
header_line header = header.0 ++ codes ": " ++ header.1

-- the content, which is empty where there is none
abbrev pub content_of : RequestSpec → List ℕ
content_of spec = unwrap_or spec.body []

-- the methods that say how much content a request has, also where it has none (RFC 9110, section 8.6)
abbrev pub content_methods : List (List ℕ)
content_methods = codes "POST" ∷ codes "PUT" ∷ codes "PATCH" ∷ []

-- the length of the content is told: where there is content, and with those methods
abbrev pub tells_length : RequestSpec → Bool
tells_length spec = is_some spec.body || list_any (bytes_eq spec.method) content_methods

-- the header that tells it, if there is one
abbrev pub length_headers : RequestSpec → List Header
length_headers spec =
    if tells_length spec then (codes "Content-Length", decimal (length (content_of spec))) ∷ [] else []

-- the headers in the order in which they are sent
abbrev pub sent_headers : RequestSpec → List Header
sent_headers spec =
    (codes "Host", spec.authority)
    ∷ (codes "Connection", codes "close")
    ∷ in_order spec.headers
    ++ length_headers spec

-- a line with its end
abbrev pub ended : List ℕ → List ℕ
ended line = line ++ crlf_bytes

-- the line of a header with its end
abbrev pub ended_header : Header → List ℕ
ended_header header = ended (header_line header)

-- the lines of the head, with the empty one at its end
abbrev pub head_lines : RequestSpec → List (List ℕ)
head_lines spec = ended (request_line spec) ∷ map ended_header (sent_headers spec) ++ ended [] ∷ []

-- the head, and behind it the content
abbrev pub request_text : RequestSpec → List ℕ
request_text spec = concat (head_lines spec) ++ content_of spec
