-- A response from its heads to its body.
use Rattle.std.proofs.Common.{◌≡◌, ◌≢◌, ◌≤◌, ◌+◌, ◌∙◌, ℕ, Bool, false, inl, List, [], ◌++◌, length, take, drop, arith, ap, sym, subst, refl, append_assoc, append-nil, Result}
use Rattle.std.proofs.lemmas.List.{length-append, length-take-le, take_all, take-append-drop}
use Rattle.std.proofs.Math.Seq.{take-append-add}
use Rattle.httparse.specs.Grammar.{print_response}
use Rattle.ld_wire.specs.Body.{BodyStands}
use Rattle.ld_wire.specs.Heads.{BehindHead, HeadsStand, HeadsView}
use Rattle.ld_wire.specs.Reader.{AdvancesTo, FedAt, InBody, stage_of}
use Rattle.ld_wire.specs.Response.{Begins, BodyRefuses, FollowedBy, IsResponse, Refuses, print_heads}
use Rattle.ld_wire.specs.declared.body_place.BodyPlace.{BodyPlace}
use Rattle.ld_wire.specs.declared.body_place.BodyPlace.TheVariants as places
use Rattle.ld_wire.specs.declared.fault.WireFault.{WireFault}
use Rattle.ld_wire.specs.declared.framing.Follows.{Follows}
use Rattle.ld_wire.specs.declared.framing.Follows.TheVariants as framings
use Rattle.ld_wire.specs.declared.stage.Stage.{Stage}
use Rattle.ld_wire.specs.declared.stage.Stage.TheVariants as stages
use Rattle.ld_wire.proofs.ChunkStepLemmas.{behind_all}

-- ---- behind the final head

-- the heads' bytes with a text behind them
heads_bytes : (heads : HeadsView) (framing : Follows) (front text : List ℕ) (is : BehindHead heads framing front)
    → front ++ text ≡ print_heads is.before ++ (print_response is.final ++ text)
heads_bytes heads framing front text is =
    ap (λ (t : List ℕ). t ++ text) is.bytes_are ∙ append_assoc (print_heads is.before) (print_response is.final) text

-- a whole response
whole_response : (heads : HeadsView) (framing : Follows) (front text body : List ℕ) (is : BehindHead heads framing front)
    → BodyStands framing places.Whole [] body text
    → IsResponse heads.for_head false (front ++ text) (record { status = heads.status; headers = heads.headers; body = body })
whole_response heads framing front text body is stands = record {
  interims = is.before;
  final = is.final;
  framing = framing;
  text = text;
  before = is.form;
  head = is.final_form;
  framed = is.framed;
  bytes_are = heads_bytes heads framing front text is;
  body = stands;
  status = is.status;
  headers = is.headers;
}

-- a body that isn't whole yet
goes : (heads : HeadsView) (framing : Follows) (used : ℕ) (place : BodyPlace) (held body front text piece : List ℕ) → BehindHead heads framing front
    → used ≡ length piece → place ≢ places.Whole → BodyStands framing place held body (text ++ take used piece)
    → InBody place heads held body ((front ++ text) ++ piece)
goes heads framing used place held body front text piece is all other stands =
    let whole : take used piece ≡ piece = take_all used piece (omega arith) in
    let P : List ℕ → Type 0 = λ t. BodyStands framing place held body (text ++ t) in
    record {
      framing = framing;
      front = front;
      text = text ++ piece;
      behind = is;
      stands = subst P whole stands;
      unfinished = other;
      bytes_are = append_assoc front text piece;
    }

pub advances : (heads : HeadsView) (framing : Follows) (used : ℕ) (place : BodyPlace) (held body front text piece : List ℕ) → BehindHead heads framing front
    → used ≤ length piece → (place ≢ places.Whole → used ≡ length piece) → BodyStands framing place held body (text ++ take used piece)
    → AdvancesTo (stage_of place) used heads held body (front ++ text) piece
advances heads framing used places.Whole held body front text piece is inside all stands =
    let P : List ℕ → Type 0 = λ t. IsResponse heads.for_head false t (record { status = heads.status; headers = heads.headers; body = body }) in
    let whole = length-append (front ++ text) piece in (
      inside,
      record { status = heads.status; headers = heads.headers; body = body },
      record {
        inside = omega arith;
        whole = subst P (sym (append_assoc front text (take used piece)) ∙ sym (take-append-add (front ++ text) piece used))
            (whole_response heads framing front (text ++ take used piece) body is stands);
      },
      record { status = refl; headers = refl; body_is = refl },
    )
advances heads framing used (places.Bytes left) held body front text piece is inside all stands =
    (refl, goes heads framing used (places.Bytes left) held body front text piece is (all (λ e. absurd (cc))) (λ e. absurd (cc)) stands)
advances heads framing used (places.Chunks at) held body front text piece is inside all stands =
    (refl, goes heads framing used (places.Chunks at) held body front text piece is (all (λ e. absurd (cc))) (λ e. absurd (cc)) stands)
advances heads framing used places.Close held body front text piece is inside all stands =
    (refl, goes heads framing used places.Close held body front text piece is (all (λ e. absurd (cc))) (λ e. absurd (cc)) stands)

pub body_refused : (heads : HeadsView) (framing : Follows) (front text piece : List ℕ) (fault : WireFault) → BehindHead heads framing front
    → BodyRefuses framing (text ++ piece) fault → Refuses heads.for_head ((front ++ text) ++ piece) fault
body_refused heads framing front text piece fault is refuses =
    let P : Result Follows WireFault → Type 0 = λ r. FollowedBy r (text ++ piece) fault in
    record {
      interims = is.before;
      rest = print_response is.final ++ (text ++ piece);
      before = is.form;
      bytes_are = append_assoc front text piece ∙ heads_bytes heads framing front (text ++ piece) is;
      why = inl (record {
        head = is.final;
        text = text ++ piece;
        form = is.final_form;
        bytes_are = refl;
        why = subst P (sym is.framed) refuses;
      });
    }

-- ---- from a head on

-- behind the whole final head
pub at_body : (follows : Follows) (heads : HeadsView) (bytes : List ℕ) → follows ≢ framings.Head → HeadsStand follows heads bytes
    → BehindHead heads follows bytes
at_body framings.Head heads bytes other stands = absurd (other refl)
at_body framings.Nothing heads bytes other stands = stands
at_body (framings.Bytes number) heads bytes other stands = stands
at_body framings.Chunks heads bytes other stands = stands
at_body framings.Close heads bytes other stands = stands

same_bytes : (bytes piece rest : List ℕ) (used : ℕ) → rest ≡ drop used piece → ((bytes ++ take used piece) ++ []) ++ rest ≡ bytes ++ piece
same_bytes bytes piece rest used same =
    ap (λ (t : List ℕ). t ++ rest) (append-nil (bytes ++ take used piece))
    ∙ ap (λ (t : List ℕ). (bytes ++ take used piece) ++ t) same ∙ behind_all bytes piece used

pub advances_behind : (stage : Stage) (used more count : ℕ) (heads : HeadsView) (held body bytes piece rest : List ℕ) → used ≤ length piece → rest ≡ drop used piece
    → (used + more ≤ length piece → count ≡ used + more) → AdvancesTo stage more heads held body ((bytes ++ take used piece) ++ []) rest
    → AdvancesTo stage count heads held body bytes piece
advances_behind stages.Head used more count heads held body bytes piece rest inside same counted is =
    let P : List ℕ → Type 0 = λ t. FedAt stages.Head heads held body false t in
    subst P (same_bytes bytes piece rest used same) is
advances_behind (stages.Body place) used more count heads held body bytes piece rest inside same counted is =
    let P : List ℕ → Type 0 = λ t. FedAt (stages.Body place) heads held body false t in
    subst P (same_bytes bytes piece rest used same) is
advances_behind stages.Whole used more count heads held body bytes piece rest inside same counted is =
    let P : List ℕ → Type 0 = λ t. Begins heads.for_head t (length bytes + count) is.1 in
    let Q : ℕ → Type 0 = λ n. Begins heads.for_head (((bytes ++ take used piece) ++ []) ++ rest) n is.1 in
    let few = is.0 in
    let front = length-take-le used piece inside in
    let whole = length-append bytes (take used piece) in
    let none = ap length (append-nil (bytes ++ take used piece)) in
    let parts = length-append (take used piece) (drop used piece) in
    let both = ap length (take-append-drop used piece) in
    let rests = ap length same in
    let count_is = counted (omega arith) in
    let number : length ((bytes ++ take used piece) ++ []) + more ≡ length bytes + count = omega arith in
    (omega arith, is.1, subst P (same_bytes bytes piece rest used same) (subst Q number is.2), is.3)
advances_behind (stages.Refused fault) used more count heads held body bytes piece rest inside same counted is = absurd is

pub refused_start : (for_head same_head : Bool) (bytes piece rest : List ℕ) (used : ℕ) (fault : WireFault) → rest ≡ drop used piece
    → for_head ≡ same_head → Refuses for_head (((bytes ++ take used piece) ++ []) ++ rest) fault → Refuses same_head (bytes ++ piece) fault
refused_start for_head same_head bytes piece rest used fault same heads refuses =
    let P : List ℕ → Type 0 = λ t. Refuses same_head t fault in
    let Q : Bool → Type 0 = λ b. Refuses b (((bytes ++ take used piece) ++ []) ++ rest) fault in
    subst P (same_bytes bytes piece rest used same) (subst Q heads refuses)

-- where nothing of a body came yet
pub stands_empty : (framing : Follows) (place : BodyPlace) (held body : List ℕ) → held ≡ [] → body ≡ []
    → BodyStands framing place [] [] [] → BodyStands framing place held body []
stands_empty framing place held body no_held no_body stands =
    let P : List ℕ → Type 0 = λ t. BodyStands framing place t [] [] in
    let Q : List ℕ → Type 0 = λ t. BodyStands framing place held t [] in
    subst Q (sym no_body) (subst P (sym no_held) stands)
