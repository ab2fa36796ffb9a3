-- What a response's head says (RFC 9112, section 6): which faults it has, and what follows it.
use Rattle.std.specs.Prelude.{◌/◌, ◌==◌, ◌≤◌, ◌&&◌, ◌||◌, not, nat_le, nat_lt, Bool, ℕ, List, map, length, find, codes, if◌then◌else◌, Option, Some, None, Result, Ok, Err}
use Rattle.std.specs.Char.{is_ascii_digit}
use Rattle.std.specs.List.{list_all, list_any}
use Rattle.std.specs.Option.{option_map}
use Rattle.std.specs.Str.{str_eq_ignore_ascii_case}
use Rattle.std.specs.Str.Parse.{digits_value}
use Rattle.httparse.specs.Grammar.{ResponseHead, IsResponseHead, print_response, status_code}
use Rattle.httparse.specs.Spans.{name_and_value}
use Rattle.ld_wire.specs.declared.fault.WireFault.{WireFault}
use Rattle.ld_wire.specs.declared.fault.WireFault.TheVariants.{BadHead, TooManyHeaders, BadLength, BadCoding, BodyTooLong, TooManyInterims}
use Rattle.ld_wire.specs.declared.framing.Follows.{Follows}
use Rattle.ld_wire.specs.declared.framing.Follows.TheVariants.{Head, Nothing, Bytes, Chunks, Close}

-- how many bytes a head has at most, how many headers, and how many interim heads a response
abbrev pub head_limit : ℕ
head_limit = 65536

abbrev pub header_limit : ℕ
header_limit = 100

abbrev pub interim_limit : ℕ
interim_limit = 10

-- how many bytes a body has at most
abbrev pub body_limit : ℕ
body_limit = 16777216

-- a header: its name, and its value without the blanks around it
abbrev pub Header : Type 0
Header = List ℕ × List ℕ

-- the headers of a head
abbrev pub headers_of : ResponseHead → List Header
headers_of head = map name_and_value head.fields

-- the header has this name, letters' case aside
abbrev pub is_named : List ℕ → Header → Bool
is_named name header = str_eq_ignore_ascii_case header.0 name

-- the value of the first header of this name
abbrev pub first_value : List ℕ → List Header → Option (List ℕ)
first_value name headers = option_map (λ (header : Header). header.1) (find (is_named name) headers)

-- the header has this name, and another value than this word, letters' case aside
abbrev pub is_other : List ℕ → List ℕ → Header → Bool
is_other name word header = is_named name header && not (str_eq_ignore_ascii_case header.1 word)

-- the header codes the body in another way than in plain chunks
abbrev pub is_coding : Header → Bool
is_coding header =
    is_other (codes "transfer-encoding") (codes "chunked") header
    || is_other (codes "content-encoding") (codes "identity") header

-- 1 to 19 digits
abbrev pub is_length : List ℕ → Bool
is_length value = nat_lt 0 (length value) && (nat_le (length value) 19 && list_all is_ascii_digit value)

-- 1 to 19 digits of this number
abbrev pub is_length_of : ℕ → List ℕ → Bool
is_length_of number value = is_length value && (digits_value 10 value == number)

-- the header is none of a length, or one of this length
abbrev pub has_length : ℕ → Header → Bool
has_length number header = not (is_named (codes "content-length") header) || is_length_of number header.1

-- a body of this length
abbrev pub sized : ℕ → Result Follows WireFault
sized number = if nat_lt body_limit number then Err BodyTooLong else Ok (Bytes number)

-- a body by the first header of a length, where there is one: all of them are numbers, and the same one
abbrev pub by_length : List Header → Option (List ℕ) → Result Follows WireFault
by_length headers None = Ok Close
by_length headers (Some value) =
    if is_length value && list_all (has_length (digits_value 10 value)) headers then sized (digits_value 10 value)
    else Err BadLength

-- a body by its headers: chunks come before a length
abbrev pub by_headers : List Header → Result Follows WireFault
by_headers headers =
    if list_any (is_named (codes "transfer-encoding")) headers then Ok Chunks
    else by_length headers (first_value (codes "content-length") headers)

-- a final response without a body
abbrev pub has_no_body : Bool → ℕ → Bool
has_no_body for_head status = for_head || ((status == 204) || (status == 304))

-- an interim response
abbrev pub is_interim : ℕ → Bool
is_interim status = status / 100 == 1

-- a head whose status is told: no interim one, or one that leaves HTTP
abbrev pub is_told : ℕ → Bool
is_told status = not (is_interim status) || (status == 101)

-- what follows a head of this status and these headers, behind so many interim heads, for a HEAD request or not; or
-- the first of its faults
abbrev pub follows : Bool → ℕ → ℕ → List Header → Result Follows WireFault
follows for_head interims status headers =
    if nat_lt header_limit (length headers) then Err TooManyHeaders
    else if status == 101 then Err BadHead
    else if is_interim status && nat_le interim_limit interims then Err TooManyInterims
    else if list_any is_coding headers then Err BadCoding
    else if is_interim status then Ok Head
    else if has_no_body for_head status then Ok Nothing
    else by_headers headers

-- the same of a head
abbrev pub follows_head : Bool → ℕ → ResponseHead → Result Follows WireFault
follows_head for_head interims head = follows for_head interims (status_code head) (headers_of head)

-- a head of at most so many bytes
pub record IsHead (head : ResponseHead) : Type 0 where
  pub form : IsResponseHead head
  pub short : length (print_response head) ≤ head_limit
