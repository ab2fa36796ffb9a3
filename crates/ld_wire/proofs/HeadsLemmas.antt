-- The heads of a response, one more at a time.
use Rattle.std.proofs.Common.{rules, ◌≡◌, ◌<◌, ◌≤◌, ◌+◌, ◌∙◌, ℕ, Bool, inl, inr, None, List, [], ◌∷◌, ◌++◌, length, map, take, drop, arith, ap, ap₂, sym, subst, refl, append_assoc, append-nil, Result, Ok, Err}
use Rattle.std.proofs.lemmas.List.{length-append, length-map, length-take-le}
use Rattle.std.proofs.lemmas.List.Elements.{All-nil}
use Rattle.httparse.specs.Grammar.{IsField, ResponseHead, HasNoResponse, MayBecomeResponse, lf, print_end, print_response, print_section, print_blank, print_version, print_reason}
use Rattle.httparse.specs.Spans.{header_bytes}
use Rattle.httparse.specs.declared.spans.HeaderSpan.{HeaderSpan}
use Rattle.httparse.specs.declared.spans.ResponseSpans.{ResponseSpans}
use Rattle.ld_wire.specs.Found.{IsOpenHead}
use Rattle.ld_wire.specs.Head.{IsHead, follows, follows_head}
use Rattle.ld_wire.specs.Heads.{KeepsHeaders, HeadsStand, HeadsStep, HeadsView, InHead, IsFound, heads_view}
use Rattle.ld_wire.specs.Response.{AreInterims, FollowedBy, HasHeadFault, Refuses, print_heads}
use Rattle.ld_wire.specs.declared.fault.WireFault.{WireFault}
use Rattle.ld_wire.specs.declared.framing.Follows.{Follows}
use Rattle.ld_wire.specs.declared.framing.Follows.TheVariants.{Head}
use Rattle.ld_wire.specs.declared.heads.Heads.{Heads}
use Rattle.ld_wire.proofs.ChunkStepLemmas.{behind_all, behind_more}

-- ---- a head can come where nothing came yet

no_head_there : HasNoResponse []
unfolding print_response
no_head_there head rest is =
    let long = ap length is.1 in
    let front = print_blank head.blank ++ print_version head.minor ++ 32 ∷ head.digits ++ print_reason head.reason ++ print_end head.line_end in
    let whole = length-append (front ++ print_section head.fields head.last) rest in
    let parts = length-append front (print_section head.fields head.last) in
    let first = length-append (print_blank head.blank ++ print_version head.minor ++ 32 ∷ head.digits ++ print_reason head.reason) (print_end head.line_end) in
    let second = length-append (print_blank head.blank ++ print_version head.minor ++ 32 ∷ head.digits) (print_reason head.reason) in
    let third = length-append (print_blank head.blank ++ print_version head.minor) (32 ∷ head.digits) in
    omega arith

least : ResponseHead
least = record { blank = []; minor = 0; digits = 50 ∷ 48 ∷ 48 ∷ []; reason = None; line_end = lf; fields = []; last = lf }

head_may_come : MayBecomeResponse []
unfolding least
head_may_come = (
  print_response least ++ [],
  least,
  (record { minor = omega arith; digits = (refl, search rules); reason = search rules; fields = All-nil IsField }, refl),
)

pub head_begins : IsOpenHead []
head_begins = record { none = no_head_there; more = head_may_come; short = omega arith }

pub first_head : (heads : HeadsView) → heads.bytes ≡ [] → heads.interims ≡ 0 → heads.status ≡ 0 → heads.headers ≡ [] → InHead heads []
first_head heads bytes interims status headers =
    let P : List ℕ → Type 0 = λ t. IsOpenHead t in
    record {
      before = [];
      form = tt;
      count = sym interims;
      bytes_are = sym bytes;
      more = subst P (sym bytes) head_begins;
      status = status;
      headers = headers;
    }

-- ---- room

-- while no final head is whole, no headers are kept
pub none_kept : (heads : Heads) (bytes : List ℕ) → KeepsHeaders heads → InHead (heads_view heads) bytes → heads.headers ≡ 0
none_kept heads bytes room is =
    let kept = ap length is.headers in
    let mapped = length-map (take heads.headers heads.room.items) (header_bytes heads.bytes.items) in
    let taken = length-take-le heads.headers heads.room.items room.count in
    omega arith

pub room_is : (heads : Heads) → heads.headers ≡ 0 → KeepsHeaders heads
room_is heads none =
    let P : ℕ → Type 0 = λ n. KeepsHeaders (record {
      for_head = heads.for_head;
      interims = heads.interims;
      bytes = heads.bytes;
      room = heads.room;
      headers = n;
      status = heads.status;
    }) in
    subst P (sym none) (record { count = omega arith; within = search rules })

pub no_headers : (bytes : List ℕ) (count : ℕ) (room : List HeaderSpan) → count ≡ 0 → map (header_bytes bytes) (take count room) ≡ []
no_headers bytes count room none = ap (λ (n : ℕ). map (header_bytes bytes) (take n room)) none

-- ---- a head isn't whole yet

pub head_goes_on : (old new : Heads) (used : ℕ) (bytes piece : List ℕ) → new.for_head ≡ old.for_head → new.interims ≡ old.interims
    → new.status ≡ old.status → new.headers ≡ 0 → used ≤ length piece → (0 < length piece → 0 < used)
    → new.bytes.items ≡ old.bytes.items ++ take used piece → IsOpenHead new.bytes.items → InHead (heads_view old) bytes → HeadsStep used Head (heads_view new) bytes piece
head_goes_on old new used bytes piece for_head interims status none inside some same more is =
    let P : Bool → Type 0 = λ b. AreInterims b 0 is.before in
    record {
      inside = inside;
      some = some;
      stands = record {
        before = is.before;
        form = subst P (sym for_head) is.form;
        count = is.count ∙ sym interims;
        bytes_are = ap (λ (t : List ℕ). t ++ take used piece) is.bytes_are
            ∙ append_assoc (print_heads is.before) old.bytes.items (take used piece) ∙ ap (λ (t : List ℕ). print_heads is.before ++ t) (sym same);
        more = more;
        status = status ∙ is.status;
        headers = no_headers new.bytes.items new.headers new.room.items none;
      };
    }

-- ---- or it is, and its fault is that of its form

pub form_refused : (heads : HeadsView) (bytes piece : List ℕ) (fault : WireFault) → HasHeadFault (heads.bytes ++ piece) fault → InHead heads bytes
    → Refuses heads.for_head (bytes ++ piece) fault
form_refused heads bytes piece fault bad is = record {
  interims = is.before;
  rest = heads.bytes ++ piece;
  before = is.form;
  bytes_are = ap (λ (t : List ℕ). t ++ piece) is.bytes_are ∙ append_assoc (print_heads is.before) heads.bytes piece;
  why = inr bad;
}

-- or of what it says
pub head_is_refused : (heads : HeadsView) (new bytes piece : List ℕ) (used : ℕ) (head : ResponseHead) (fault : WireFault) → IsHead head
    → new ≡ print_response head → new ≡ heads.bytes ++ take used piece → follows_head heads.for_head heads.interims head ≡ Err fault → InHead heads bytes
    → Refuses heads.for_head (bytes ++ piece) fault
head_is_refused heads new bytes piece used head fault form print new_is followed is =
    let P : Result Follows WireFault → Type 0 = λ r. FollowedBy r (drop used piece) fault in
    let counted = ap (λ (n : ℕ). follows_head heads.for_head n head) is.count ∙ followed in
    record {
      interims = is.before;
      rest = heads.bytes ++ piece;
      before = is.form;
      bytes_are = ap (λ (t : List ℕ). t ++ piece) is.bytes_are ∙ append_assoc (print_heads is.before) heads.bytes piece;
      why = inl (record {
        head = head;
        text = drop used piece;
        form = form;
        bytes_are = sym (behind_all heads.bytes piece used) ∙ ap (λ (t : List ℕ). t ++ drop used piece) (sym new_is ∙ print);
        why = subst P (sym counted) refl;
      });
    }

-- ---- an interim head more

interims_more : (for_head : Bool) (count : ℕ) (before : List ResponseHead) (head : ResponseHead) → AreInterims for_head count before → IsHead head
    → follows_head for_head (count + length before) head ≡ Ok Head → AreInterims for_head count (before ++ head ∷ [])
interims_more for_head count [] head are form goes =
    let same : count + 0 ≡ count = omega arith in
    (form, ap (λ (n : ℕ). follows_head for_head n head) (sym same) ∙ goes, tt)
interims_more for_head count (first ∷ before) head are form goes =
    let same : count + length (first ∷ before) ≡ (count + 1) + length before = omega arith in
    (are.0, are.1, interims_more for_head (count + 1) before head are.2 form (ap (λ (n : ℕ). follows_head for_head n head) (sym same) ∙ goes))

heads_more : (before : List ResponseHead) (head : ResponseHead) → print_heads (before ++ head ∷ []) ≡ print_heads before ++ print_response head
heads_more [] head = append-nil (print_response head)
heads_more (first ∷ before) head =
    ap (λ (t : List ℕ). print_response first ++ t) (heads_more before head)
    ∙ sym (append_assoc (print_response first) (print_heads before) (print_response head))

-- what follows by the parts that were found
pub followed : (result : Result Follows WireFault) (for_head : Bool) (interims : ℕ) (bytes : List ℕ) (room spans : List HeaderSpan) (found : ResponseSpans)
    (head : ResponseHead) → result ≡ follows for_head interims found.code (map (header_bytes bytes) spans) → spans ≡ take found.headers room
    → IsFound bytes room found head → result ≡ follows_head for_head interims head
followed result for_head interims bytes room spans found head is same found_is =
    is ∙ ap₂ (λ (s : ℕ) (hs : List (List ℕ × List ℕ)). follows for_head interims s hs) found_is.code
    (ap (map (header_bytes bytes)) same ∙ found_is.headers)

pub interim_behind : (heads : Heads) (before : List ResponseHead) (head : ResponseHead) → AreInterims heads.for_head 0 before → IsHead head
    → follows_head heads.for_head (length before) head ≡ Ok Head → heads.interims ≡ length before + 1 → heads.bytes.items ≡ []
    → heads.status ≡ 0 → heads.headers ≡ 0 → InHead (heads_view heads) (print_heads before ++ print_response head)
interim_behind heads before head are form goes interims none status headers =
    let long = length-append before (head ∷ []) in
    let P : List ℕ → Type 0 = λ t. IsOpenHead t in
    record {
      before = before ++ head ∷ [];
      form = interims_more heads.for_head 0 before head are form (let same : 0 + length before ≡ length before = omega arith in
          ap (λ (n : ℕ). follows_head heads.for_head n head) same ∙ goes);
      count = omega arith;
      bytes_are = sym (heads_more before head) ∙ sym (append-nil (print_heads (before ++ head ∷ [])))
          ∙ ap (λ (t : List ℕ). print_heads (before ++ head ∷ []) ++ t) (sym none);
      more = subst P (sym none) head_begins;
      status = status;
      headers = no_headers heads.bytes.items heads.headers heads.room.items headers;
    }

-- ---- heads one behind another

pub at_head : (follows : Follows) (heads : HeadsView) (bytes : List ℕ) → follows ≡ Head → HeadsStand follows heads bytes → InHead heads bytes
at_head follows heads bytes is stands =
    let P : Follows → Type 0 = λ f. HeadsStand f heads bytes in
    subst P is stands

pub heads_behind : (more : ℕ) (follows : Follows) (heads : HeadsView) (bytes piece rest : List ℕ) (used : ℕ) → rest ≡ drop used piece
    → HeadsStep more follows heads (bytes ++ take used piece) rest → HeadsStand follows heads (bytes ++ take (used + more) piece)
heads_behind more follows heads bytes piece rest used same steps =
    let P : List ℕ → Type 0 = λ t. HeadsStand follows heads ((bytes ++ take used piece) ++ take more t) in
    let Q : List ℕ → Type 0 = λ t. HeadsStand follows heads t in
    subst Q (sym (behind_more bytes piece used more)) (subst P same steps.stands)

pub heads_refused_behind : (for_head same_head : Bool) (bytes piece rest : List ℕ) (used : ℕ) (fault : WireFault) → rest ≡ drop used piece
    → for_head ≡ same_head → Refuses for_head ((bytes ++ take used piece) ++ rest) fault → Refuses same_head (bytes ++ piece) fault
heads_refused_behind for_head same_head bytes piece rest used fault same heads refuses =
    let P : List ℕ → Type 0 = λ t. Refuses same_head t fault in
    let Q : Bool → Type 0 = λ b. Refuses b ((bytes ++ take used piece) ++ rest) fault in
    subst P (ap (λ (t : List ℕ). (bytes ++ take used piece) ++ t) same ∙ behind_all bytes piece used) (subst Q heads refuses)
