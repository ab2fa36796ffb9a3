-- What the first bytes of a head or of a size line have where the parsers find no whole one.
use Rattle.std.proofs.Common.{◌≡◌, ◌≢◌, ◌≤◌, ◌+◌, ◌*◌, ℕ, List, [], ◌∷◌, ◌++◌, length, arith, ap, sym, subst, refl, inl, inr, Ok}
use Rattle.std.specs.List.{flat_map}
use Rattle.std.proofs.lemmas.List.{take_all, length-append}
use Rattle.std.specs.List.{AllByRecursion}
use Rattle.std.proofs.lemmas.List.Elements.{recursion_from_All}
use Rattle.httparse.specs.declared.Error.{Error}
use Rattle.httparse.specs.declared.Error.TheVariants as errors
use Rattle.httparse.specs.Grammar.{LineEnd, crlf, lf, print_end, Field, IsField, print_field, print_section, ResponseHead, IsResponseHead, print_response, print_blank, print_version, print_reason, HasNoResponse, NeverHasResponse, MayBecomeResponse, HasNoChunkLine, NeverHasChunkLine}
use Rattle.httparse.specs.declared.Status.{Status}
use Rattle.httparse.specs.declared.Status.TheVariants.{Complete, Partial}
use Rattle.httparse.specs.Outcome.{OnPartial}
use Rattle.httparse.specs.Spans.{ResponseExceeds}
use Rattle.ld_wire.specs.Chunks.{HasBadSize, size_line_limit}
use Rattle.ld_wire.specs.Head.{head_limit}
use Rattle.ld_wire.specs.Response.{HasHeadFault}
use Rattle.ld_wire.specs.declared.fault.WireFault.TheVariants.{BadHead, HeadTooLong}

-- ---- each field line has three bytes or more

length_end : (end : LineEnd) → 1 ≤ length (print_end end)
length_end crlf = omega arith
length_end lf = omega arith

length_field : (field : Field) → IsField field → 3 ≤ length (print_field field)
length_field field is =
    let named = is.name.0 in
    let end = length_end field.end in
    let whole = length-append (field.name ++ 58 ∷ field.raw) (print_end field.end) in
    let front = length-append field.name (58 ∷ field.raw) in
    omega arith

length_fields : (fields : List Field) → AllByRecursion IsField fields → 3 * length fields ≤ length (flat_map print_field fields)
length_fields [] are = omega arith
length_fields (field ∷ fields) are =
    let one = length_field field are.0 in
    let more = length_fields fields are.1 in
    let whole = length-append (print_field field) (flat_map print_field fields) in
    omega arith

length_section : (fields : List Field) (last : LineEnd) → AllByRecursion IsField fields
    → 3 * length fields + 1 ≤ length (print_section fields last)
length_section fields last are =
    let more = length_fields fields are in
    let end = length_end last in
    let whole = length-append (flat_map print_field fields) (print_end last) in
    omega arith

length_head : (head : ResponseHead) → IsResponseHead head → 3 * length head.fields + 1 ≤ length (print_response head)
unfolding print_response
length_head head is =
    let section = length_section head.fields head.last (recursion_from_All IsField head.fields is.fields) in
    let front = print_blank head.blank ++ print_version head.minor ++ 32 ∷ head.digits ++ print_reason head.reason ++ print_end head.line_end in
    let whole = length-append front (print_section head.fields head.last) in
    omega arith

-- so a head has no more headers than there is room for
few_headers : (room : ℕ) (bytes : List ℕ) → length bytes ≤ 3 * room → ResponseExceeds room bytes → ⊥
few_headers room bytes many exceeds =
    let front = exceeds.0 in
    let rest = exceeds.1 in
    let head = exceeds.3 in
    let reads = exceeds.4 in
    let long = length_head head reads.0 in
    let same : length (front ++ print_end lf) ≡ length (print_response head ++ []) = ap length reads.1 in
    let left = length-append front (print_end lf) in
    let right = length-append (print_response head) [] in
    let whole : length bytes ≡ length (front ++ rest) = ap length exceeds.2 in
    let parts = length-append front rest in
    let over = exceeds.5 in
    omega arith

-- ---- heads

never_head : (bytes : List ℕ) → length bytes ≤ head_limit → NeverHasResponse bytes → HasHeadFault bytes BadHead
never_head bytes short never =
    let window = take_all head_limit bytes short in
    let P : List ℕ → Type 0 = λ text. NeverHasResponse text in
    inl (refl, subst P (sym window) never)

-- an error of the parser means that no head can come
pub bad_head : (bytes : List ℕ) (room : ℕ) (error : Error) → length bytes ≤ 3 * room → length bytes ≤ head_limit
    → (error ≢ errors.TooManyHeaders → NeverHasResponse bytes) → (error ≡ errors.TooManyHeaders → ResponseExceeds room bytes)
    → HasHeadFault bytes BadHead
bad_head bytes room errors.HeaderName many short never exceeds = never_head bytes short (never (λ e. absurd (cc)))
bad_head bytes room errors.HeaderValue many short never exceeds = never_head bytes short (never (λ e. absurd (cc)))
bad_head bytes room errors.NewLine many short never exceeds = never_head bytes short (never (λ e. absurd (cc)))
bad_head bytes room errors.Status many short never exceeds = never_head bytes short (never (λ e. absurd (cc)))
bad_head bytes room errors.Token many short never exceeds = never_head bytes short (never (λ e. absurd (cc)))
bad_head bytes room errors.TooManyHeaders many short never exceeds = absurd (few_headers room bytes many (exceeds refl))
bad_head bytes room errors.Version many short never exceeds = never_head bytes short (never (λ e. absurd (cc)))

-- as many bytes as are looked at, which may still become a head, have a head that is too long
pub long_head : (bytes : List ℕ) → length bytes ≤ head_limit → head_limit ≤ length bytes
    → HasNoResponse bytes → MayBecomeResponse bytes → HasHeadFault bytes HeadTooLong
long_head bytes short full none more =
    let window = take_all head_limit bytes short in
    let P : List ℕ → Type 0 = λ text. HasNoResponse text in
    let Q : List ℕ → Type 0 = λ text. NeverHasResponse text in
    inr (
      refl,
      record {
        long = full;
        none = subst P (sym window) none;
        unsure = λ bad. subst Q window bad more.0 more.1 [] more.2;
      },
    )

-- what holds where a parser's answer is partial
pub partial_of : {A P : Type 0} (E : Type 0) (status : Status A) → status ≡ Partial → OnPartial {A = A} {E = E} (Ok status) P → P
partial_of E Partial is holds = holds
partial_of E (Complete found) is holds = absurd (cc)

-- ---- size lines

pub bad_size : (bytes : List ℕ) → length bytes ≤ size_line_limit → NeverHasChunkLine bytes → HasBadSize bytes
bad_size bytes short never =
    let P : List ℕ → Type 0 = λ text. NeverHasChunkLine text in
    inl (subst P (sym (take_all size_line_limit bytes short)) never)

pub long_size : (bytes : List ℕ) → length bytes ≤ size_line_limit → size_line_limit ≤ length bytes
    → HasNoChunkLine bytes → HasBadSize bytes
long_size bytes short full none =
    let P : List ℕ → Type 0 = λ text. HasNoChunkLine text in
    inr (full, subst P (sym (take_all size_line_limit bytes short)) none)
