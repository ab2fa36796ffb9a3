-- Which headers of a request say how it is framed.
use Rattle.std.proofs.Common.{◌≡◌, ◌∙◌, ◌∷◌, ◌++◌, [], ℕ, suc, Bool, true, false, List, length, get_or, cond, filter, arith, ap, codes, refl}
use Rattle.std.proofs.lemmas.Bool.{cond-false}
use Rattle.std.proofs.lemmas.List.Elements.{filter-append}
use Rattle.std.proofs.lemmas.List.Sorted.{All-permutation}
use Rattle.std.specs.Option.{is_some, unwrap_or}
use Rattle.std.specs.Prelude.{◌||◌, All, Option, None, Some, decimal}
use Rattle.ld_base.specs.declared.request.RequestSpec.{RequestSpec}
use Rattle.ld_wire.specs.Order.{Header, in_order}
use Rattle.ld_wire.specs.Reading.{IsOwnHeader, is_called}
use Rattle.ld_wire.specs.Request.{content_of, length_headers, sent_headers, tells_length}
use Rattle.ld_wire.proofs.OrderLemmas.{has_all}

none_called : (name : List ℕ) (hs : List Header) → All (λ (h : Header). is_called name h ≡ false) hs → filter (is_called name) hs ≡ []
none_called name [] lack = refl
none_called name (h ∷ hs) lack = cond-false _ _ _ (lack 0 h (omega arith)) ∙ none_called name hs (λ k d below. lack (suc k) d (omega arith))

-- where no own header has a name, those of it are among the ones that tell the length
rest_called : (spec : RequestSpec) (name : List ℕ) → ((h : Header) → IsOwnHeader h → is_called name h ≡ false) → All IsOwnHeader spec.headers →
    filter (is_called name) (in_order spec.headers ++ length_headers spec) ≡ filter (is_called name) (length_headers spec)
rest_called spec name other own =
    let sent = All-permutation IsOwnHeader spec.headers (in_order spec.headers) (has_all spec.headers) own in
    filter-append (is_called name) (in_order spec.headers) (length_headers spec)
    ∙ ap (λ l. l ++ filter (is_called name) (length_headers spec))
    (none_called name (in_order spec.headers) (λ k d below. other (get_or (in_order spec.headers) k d) (sent k d below)))

-- the header that tells the length
abbrev told : RequestSpec → Header
told spec = (codes "Content-Length", decimal (length (content_of spec)))

not_told : (spec : RequestSpec) (name : List ℕ) → is_called name (told spec) ≡ false → filter (is_called name) (length_headers spec) ≡ []
not_told spec name other =
    elim (tells_length spec) as (λ b. filter (is_called name) (cond b (told spec ∷ []) []) ≡ []) [
      | true ↦ cond-false _ _ _ other
      | false ↦ refl
    ]

pub one_host : (spec : RequestSpec) → All IsOwnHeader spec.headers →
    filter (is_called (codes "host")) (sent_headers spec) ≡ (codes "Host", spec.authority) ∷ []
one_host spec own =
    ap (λ l. (codes "Host", spec.authority) ∷ l)
    (rest_called spec (codes "host") (λ h mine. mine 0 [] (omega arith)) own ∙ not_told spec (codes "host") refl)

pub one_connection : (spec : RequestSpec) → All IsOwnHeader spec.headers →
    filter (is_called (codes "connection")) (sent_headers spec) ≡ (codes "Connection", codes "close") ∷ []
one_connection spec own =
    ap (λ l. (codes "Connection", codes "close") ∷ l)
    (rest_called spec (codes "connection") (λ h mine. mine 1 [] (omega arith)) own ∙ not_told spec (codes "connection") refl)

pub no_coding : (spec : RequestSpec) → All IsOwnHeader spec.headers → filter (is_called (codes "transfer-encoding")) (sent_headers spec) ≡ []
no_coding spec own =
    rest_called spec (codes "transfer-encoding") (λ h mine. mine 3 [] (omega arith)) own ∙ not_told spec (codes "transfer-encoding") refl

pub told_length : (spec : RequestSpec) → All IsOwnHeader spec.headers →
    filter (is_called (codes "content-length")) (sent_headers spec) ≡ length_headers spec
told_length spec own =
    rest_called spec (codes "content-length") (λ h mine. mine 2 [] (omega arith)) own
    ∙ elim (tells_length spec) as (λ b. filter (is_called (codes "content-length")) (cond b (told spec ∷ []) []) ≡ cond b (told spec ∷ []) []) [
      | true ↦ refl
      | false ↦ refl
    ]

untold : (body : Option (List ℕ)) (asks : Bool) (h : Header) → cond (is_some body || asks) (h ∷ []) [] ≡ [] → unwrap_or body [] ≡ []
untold None asks h is = refl
untold (Some bytes) asks h is = cc

pub untold_length : (spec : RequestSpec) → length_headers spec ≡ [] → content_of spec ≡ []
untold_length spec is = untold spec.body _ (told spec) is
