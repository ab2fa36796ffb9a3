-- What is shown of a refused response: the head that its bytes tell of, which is one, or none.
use Rattle.std.proofs.Common.{◌≡◌, ◌≢◌, ◌∙◌, ◌||◌, ◌&&◌, ◌==◌, not, nat_le, nat_lt, ℕ, Bool, true, false, List, [], ◌++◌, length, map, ap, sym, subst, refl, append_assoc, append-nil, inl, inr, ◌⊎◌, if◌then◌else◌, take, drop, codes, Result, Ok, Err, Option, None, Some}
use Rattle.std.specs.Prelude.{IsTrue}
use Rattle.std.specs.List.{list_all, list_any}
use Rattle.std.specs.Str.Parse.{digits_value}
use Rattle.httparse.specs.Grammar.{ResponseHead, print_response, status_code}
use Rattle.httparse.specs.declared.spans.ResponseSpans.{ResponseSpans}
use Rattle.httparse.specs.Spans.{header_bytes}
use Rattle.ld_wire.specs.Head.{Header, IsHead, by_headers, by_length, first_value, has_length, is_length, is_named, follows_head, has_no_body, headers_of, is_coding, is_interim, is_told, sized, header_limit, interim_limit, body_limit}
use Rattle.ld_wire.specs.Heads.{BehindHead, HeadsView, InHead, IsFound, ShowsRefused, TellsOf, heads_view}
use Rattle.ld_wire.specs.Reader.{InBody}
use Rattle.ld_wire.specs.Response.{AreInterims, FollowedBy, HasHeadFault, HeadRefuses, Refuses, print_heads}
use Rattle.ld_wire.specs.declared.body_place.BodyPlace.{BodyPlace}
use Rattle.ld_wire.specs.declared.fault.WireFault.{WireFault}
use Rattle.ld_wire.specs.declared.fault.WireFault.TheVariants.{BadHead, BadCoding, BadLength, BodyTooLong, TooManyHeaders, TooManyInterims}
use Rattle.ld_wire.specs.declared.framing.Follows.{Follows}
use Rattle.ld_wire.specs.declared.framing.Follows.TheVariants.{Head, Nothing, Bytes, Chunks}
use Rattle.ld_wire.specs.declared.heads.Heads.{Heads}
use Rattle.ld_wire.proofs.ChainLemmas.{after, chain_unique}
use Rattle.ld_wire.proofs.ChunkStepLemmas.{behind_all}
use Rattle.ld_wire.proofs.HeadsLemmas.{no_headers}
use Rattle.ld_wire.proofs.OpenLemmas.{behind_heads, no_head_at, ok_is, stands_framed}
use Rattle.ld_wire.proofs.PieceLemmas.{head_unique}
use Rattle.ld_wire.proofs.ResponseLemmas.{Interim, IsFinal, chain_of_interims, fault_end, final_end, final_here, interims_unique, no_head_fault, one_more, why_final}
use Rattle.ld_wire.proofs.StayLemmas.{head_fault_stays, why_stays}

-- ---- which heads are told of

-- what follows a head, by the choices of which it is made
abbrev chosen : Bool → Bool → Bool → Bool → Bool → Bool → Result Follows WireFault → Result Follows WireFault
chosen many leaves full coded interim none last =
    if many then Err TooManyHeaders else if leaves then Err BadHead else if interim && full then Err TooManyInterims
    else if coded then Err BadCoding else if interim then Ok Head else if none then Ok Nothing else last

chosen_final : (many leaves full coded interim none : Bool) (last : Result Follows WireFault) → last ≢ Ok Head → (not interim || leaves) ≡ true
    → chosen many leaves full coded interim none last ≢ Ok Head
chosen_final true leaves full coded interim none last other told same = cc
chosen_final false true full coded interim none last other told same = cc
chosen_final false false full coded true none last other told same = cc
chosen_final false false full true false none last other told same = cc
chosen_final false false full false false true last other told same = cc
chosen_final false false full false false false last other told same = other same

chosen_told : (many leaves full coded interim none : Bool) (last : Result Follows WireFault) (framing : Follows)
    → chosen many leaves full coded interim none last ≡ Ok framing → framing ≢ Head → (not interim || leaves) ≡ true
chosen_told true leaves full coded interim none last framing same other = cc
chosen_told false true full coded interim none last framing same other = cc
chosen_told false false full coded false none last framing same other = refl
chosen_told false false true coded true none last framing same other = cc
chosen_told false false false true true none last framing same other = cc
chosen_told false false false false true none last framing same other = absurd (other (ok_is framing Head (sym same)))

-- a body is no next head
sized_final : (number : ℕ) → sized number ≢ Ok Head
sized_final number = sized_by (nat_lt body_limit number)
  where
    sized_by : (over : Bool) → (if over then Err BodyTooLong else Ok (Bytes number)) ≢ Ok Head
    sized_by true same = cc
    sized_by false same = cc

length_final : (headers : List Header) (value : Option (List ℕ)) → by_length headers value ≢ Ok Head
length_final headers None = λ same. cc
length_final headers (Some value) =
    number_by (is_length value && list_all (has_length (digits_value 10 value)) headers) (digits_value 10 value)
  where
    number_by : (good : Bool) (number : ℕ) → (if good then sized number else Err BadLength) ≢ Ok Head
    number_by true number same = sized_final number same
    number_by false number same = cc

headers_final : (headers : List Header) → by_headers headers ≢ Ok Head
headers_final headers =
    chunks_by (list_any (is_named (codes "transfer-encoding")) headers) (by_length headers (first_value (codes "content-length") headers))
    (length_final headers (first_value (codes "content-length") headers))
  where
    chunks_by : (chunks : Bool) (other : Result Follows WireFault) → other ≢ Ok Head → (if chunks then Ok Chunks else other) ≢ Ok Head
    chunks_by true other final same = cc
    chunks_by false other final same = final same

-- a head that is told of is followed by no other head
told_final : (for_head : Bool) (before : ℕ) (head : ResponseHead) → IsTrue (is_told (status_code head)) → follows_head for_head before head ≢ Ok Head
told_final for_head before head told =
    let status = status_code head in
    let headers = headers_of head in
    chosen_final (nat_lt header_limit (length headers)) (status == 101) (nat_le interim_limit before) (list_any is_coding headers) (is_interim status)
    (has_no_body for_head status) (by_headers headers) (headers_final headers) told

-- and one that a body follows, or nothing, is told of
final_told : (for_head : Bool) (before : ℕ) (head : ResponseHead) (framing : Follows) → follows_head for_head before head ≡ Ok framing → framing ≢ Head
    → IsTrue (is_told (status_code head))
final_told for_head before head framing same other =
    let status = status_code head in
    let headers = headers_of head in
    chosen_told (nat_lt header_limit (length headers)) (status == 101) (nat_le interim_limit before) (list_any is_coding headers) (is_interim status)
    (has_no_body for_head status) (by_headers headers) framing same other

-- ---- bytes tell of one head

told_end : (for_head : Bool) (bytes : List ℕ) (head : ResponseHead) (is : TellsOf for_head bytes head)
    → IsFinal for_head (after one_more 0 is.interims) (print_response head ++ is.rest)
told_end for_head bytes head is =
    final_here for_head is.interims (print_response head ++ is.rest)
    (final_end for_head (length is.interims) head is.rest is.form (told_final for_head (length is.interims) head is.told))

-- it begins where the interim heads end
told_there : (for_head : Bool) (before : List ResponseHead) (bytes rest : List ℕ) (head : ResponseHead) → AreInterims for_head 0 before
    → bytes ≡ print_heads before ++ rest → IsFinal for_head (after one_more 0 before) rest → (is : TellsOf for_head bytes head)
    → rest ≡ print_response head ++ is.rest
told_there for_head before bytes rest head are same end is =
    (chain_unique print_response (Interim for_head) one_more (interims_unique for_head) 0 before is.interims rest (print_response head ++ is.rest)
    (chain_of_interims for_head 0 before are) (chain_of_interims for_head 0 is.interims is.before) (sym same ∙ is.bytes_are)
    end (told_end for_head bytes head is)).1

pub one_told : (for_head : Bool) (bytes : List ℕ) (a b : ResponseHead) → TellsOf for_head bytes a → TellsOf for_head bytes b → a ≡ b
one_told for_head bytes a b x y =
    (head_unique a b x.rest y.rest x.form y.form
    (told_there for_head x.interims bytes (print_response a ++ x.rest) b x.before x.bytes_are (told_end for_head bytes a x) y)).0

-- so one thing is shown of them
pub one_shown : (a b : HeadsView) (bytes : List ℕ) → a.for_head ≡ b.for_head → ShowsRefused a bytes → ShowsRefused b bytes
    → (a.status ≡ b.status) × (a.headers ≡ b.headers)
one_shown a b bytes same (inl x) (inl y) =
    let P : Bool → Type 0 = λ h. TellsOf h bytes x.0 in
    let heads = one_told b.for_head bytes x.0 y.0 (subst P same x.1) y.1 in
    (x.2 ∙ ap status_code heads ∙ sym y.2, x.3 ∙ ap headers_of heads ∙ sym y.3)
one_shown a b bytes same (inl x) (inr y) =
    let P : Bool → Type 0 = λ h. TellsOf h bytes x.0 in
    absurd (y.0 x.0 (subst P same x.1))
one_shown a b bytes same (inr x) (inl y) =
    let P : Bool → Type 0 = λ h. TellsOf h bytes y.0 in
    absurd (x.0 y.0 (subst P (sym same) y.1))
one_shown a b bytes same (inr x) (inr y) = (x.1 ∙ sym y.1, x.2 ∙ sym y.2)

-- ---- with more bytes

pub told_stays : (for_head : Bool) (bytes more : List ℕ) (head : ResponseHead) → TellsOf for_head bytes head → TellsOf for_head (bytes ++ more) head
told_stays for_head bytes more head is = record {
  interims = is.interims;
  rest = is.rest ++ more;
  before = is.before;
  form = is.form;
  told = is.told;
  bytes_are = ap (λ (t : List ℕ). t ++ more) is.bytes_are ∙ append_assoc (print_heads is.interims) (print_response head ++ is.rest) more
      ∙ ap (λ (t : List ℕ). print_heads is.interims ++ t) (append_assoc (print_response head) is.rest more);
}

-- where bytes are refused, no head comes to be told of
pub told_before : (for_head : Bool) (bytes more : List ℕ) (fault : WireFault) (head : ResponseHead) → Refuses for_head bytes fault
    → TellsOf for_head (bytes ++ more) head → TellsOf for_head bytes head
told_before for_head bytes more fault head is told =
    let rest = is.rest ++ more in
    let whole : bytes ++ more ≡ print_heads is.interims ++ rest =
    ap (λ (t : List ℕ). t ++ more) is.bytes_are ∙ append_assoc (print_heads is.interims) is.rest more in
    let end = final_here for_head is.interims rest
    (why_final for_head (length is.interims) rest fault (why_stays for_head (length is.interims) is.rest more fault is.why)) in
    why_told for_head bytes is.rest more is.interims fault head told.rest is.before is.bytes_are told.form told.told
    (told_there for_head is.interims (bytes ++ more) rest head is.before whole end told) is.why
  where
    why_told : (for_head : Bool) (bytes rest more : List ℕ) (interims : List ResponseHead) (fault : WireFault) (head : ResponseHead) (behind : List ℕ)
        → AreInterims for_head 0 interims → bytes ≡ print_heads interims ++ rest → IsHead head → IsTrue (is_told (status_code head))
        → rest ++ more ≡ print_response head ++ behind → HeadRefuses for_head (length interims) rest fault ⊎ HasHeadFault rest fault
        → TellsOf for_head bytes head
    why_told for_head bytes rest more interims fault head behind are bytes_are form told same (inl refuses) =
        let long = ap (λ (t : List ℕ). t ++ more) refuses.bytes_are ∙ append_assoc (print_response refuses.head) refuses.text more in
        let heads = head_unique refuses.head head (refuses.text ++ more) behind refuses.form form (sym long ∙ same) in
        record {
          interims = interims;
          rest = refuses.text;
          before = are;
          form = form;
          told = told;
          bytes_are = bytes_are ∙ ap (λ (t : List ℕ). print_heads interims ++ t)
              (refuses.bytes_are ∙ ap (λ (h : ResponseHead). print_response h ++ refuses.text) heads.0);
        }
    why_told for_head bytes rest more interims fault head behind are bytes_are form told same (inr bad) =
        let P : List ℕ → Type 0 = λ t. HasHeadFault t fault in
        absurd (no_head_fault head behind fault form (subst P same (head_fault_stays rest more fault bad)))

pub shown_stays : (heads : HeadsView) (bytes more : List ℕ) (fault : WireFault) → Refuses heads.for_head bytes fault → ShowsRefused heads bytes
    → ShowsRefused heads (bytes ++ more)
shown_stays heads bytes more fault refuses (inl is) = inl (is.0, told_stays heads.for_head bytes more is.0 is.1, is.2, is.3)
shown_stays heads bytes more fault refuses (inr is) =
    inr (λ head told. is.0 head (told_before heads.for_head bytes more fault head refuses told), is.1, is.2)

-- ---- in a head

-- no head is told of that isn't whole
pub head_shown : (heads : HeadsView) (bytes : List ℕ) → InHead heads bytes → ShowsRefused heads bytes
head_shown heads bytes is =
    inr (
      λ head told. is.more.none head told.rest (
        told.form.form,
        told_there heads.for_head is.before bytes heads.bytes head is.form is.bytes_are
            (no_head_at heads.for_head (after one_more 0 is.before) heads.bytes is.more) told,
      ),
      is.status,
      is.headers,
    )

-- nor one that can't become whole
pub form_shown : (old new : HeadsView) (bytes piece : List ℕ) (fault : WireFault) → new.for_head ≡ old.for_head → new.status ≡ 0 → new.headers ≡ []
    → HasHeadFault (old.bytes ++ piece) fault → InHead old bytes → ShowsRefused new (bytes ++ piece)
form_shown old new bytes piece fault same status headers bad is =
    let rest = old.bytes ++ piece in
    let whole : bytes ++ piece ≡ print_heads is.before ++ rest =
    ap (λ (t : List ℕ). t ++ piece) is.bytes_are ∙ append_assoc (print_heads is.before) old.bytes piece in
    let P : List ℕ → Type 0 = λ t. HasHeadFault t fault in
    let none : (head : ResponseHead) → TellsOf old.for_head (bytes ++ piece) head → ⊥ =
    λ head told. no_head_fault head told.rest fault told.form
    (subst P (told_there old.for_head is.before (bytes ++ piece) rest head is.form whole
    (fault_end old.for_head (after one_more 0 is.before) rest fault bad) told) bad) in
    let Q : Bool → Type 0 = λ h. (head : ResponseHead) → TellsOf h (bytes ++ piece) head → ⊥ in
    inr (subst Q (sym same) none, status, headers)

-- ---- behind a head that is at fault

pub told_shown : (heads : Heads) (before : List ResponseHead) (found : ResponseSpans) (head : ResponseHead) → AreInterims heads.for_head 0 before
    → heads.status ≡ found.code → heads.headers ≡ found.headers → IsTrue (is_told found.code)
    → IsFound heads.bytes.items heads.room.items found head → ShowsRefused (heads_view heads) (print_heads before ++ print_response head)
told_shown heads before found head are status headers told is =
    let P : ℕ → Type 0 = λ s. IsTrue (is_told s) in
    inl (
      head,
      record {
        interims = before;
        rest = [];
        before = are;
        form = is.form;
        told = subst P is.code told;
        bytes_are = ap (λ (t : List ℕ). print_heads before ++ t) (sym (append-nil (print_response head)));
      },
      status ∙ is.code,
      ap (λ (n : ℕ). map (header_bytes heads.bytes.items) (take n heads.room.items)) headers ∙ is.headers,
    )

pub untold_shown : (heads : Heads) (before : List ResponseHead) (found : ResponseSpans) (head : ResponseHead) (fault : WireFault)
    → AreInterims heads.for_head 0 before → follows_head heads.for_head (length before) head ≡ Err fault → heads.status ≡ 0 → heads.headers ≡ 0
    → is_told found.code ≡ false → IsFound heads.bytes.items heads.room.items found head
    → ShowsRefused (heads_view heads) (print_heads before ++ print_response head)
untold_shown heads before found head fault are followed status headers untold is =
    let bytes = print_heads before ++ print_response head in
    let whole : bytes ≡ print_heads before ++ (print_response head ++ []) =
    ap (λ (t : List ℕ). print_heads before ++ t) (sym (append-nil (print_response head))) in
    let end = final_here heads.for_head before (print_response head ++ [])
    (final_end heads.for_head (length before) head [] is.form (λ same. absurd (let e = sym followed ∙ same in cc))) in
    inr (
      λ other told.
          let at = told_there heads.for_head before bytes (print_response head ++ []) other are whole end told in
          let heads = head_unique head other [] told.rest is.form told.form at in
          let code = ap is_told (is.code ∙ ap status_code heads.0) in
          let both : true ≡ false = sym told.told ∙ sym code ∙ untold in
          cc,
      status,
      no_headers heads.bytes.items heads.headers heads.room.items headers,
    )

-- the bytes behind it change nothing
pub settled_shown : (old new : HeadsView) (seen bytes piece : List ℕ) (used : ℕ) (head : ResponseHead) (fault : WireFault) → new.for_head ≡ old.for_head
    → IsHead head → seen ≡ print_response head → seen ≡ old.bytes ++ take used piece → (is : InHead old bytes)
    → follows_head old.for_head old.interims head ≡ Err fault
    → ShowsRefused new (print_heads is.before ++ print_response head) → ShowsRefused new (bytes ++ piece)
settled_shown old new seen bytes piece used head fault same form print seen_is is followed shown =
    let front = print_heads is.before ++ print_response head in
    let counted : follows_head old.for_head (length is.before) head ≡ Err fault = ap (λ (n : ℕ). follows_head old.for_head n head) is.count ∙ followed in
    let P : Result Follows WireFault → Type 0 = λ r. FollowedBy r [] fault in
    let Q : Bool → Type 0 = λ h. Refuses h front fault in
    let refuses : Refuses old.for_head front fault = record {
      interims = is.before;
      rest = print_response head;
      before = is.form;
      bytes_are = refl;
      why = inl (record {
        head = head;
        text = [];
        form = form;
        bytes_are = sym (append-nil (print_response head));
        why = subst P (sym counted) refl;
      });
    } in
    let whole : front ++ drop used piece ≡ bytes ++ piece =
    append_assoc (print_heads is.before) (print_response head) (drop used piece)
    ∙ ap (λ (t : List ℕ). print_heads is.before ++ (t ++ drop used piece)) (sym print ∙ seen_is)
    ∙ ap (λ (t : List ℕ). print_heads is.before ++ t) (behind_all old.bytes piece used)
    ∙ sym (append_assoc (print_heads is.before) old.bytes piece) ∙ ap (λ (t : List ℕ). t ++ piece) (sym is.bytes_are) in
    let R : List ℕ → Type 0 = λ t. ShowsRefused new t in
    subst R whole (shown_stays new front (drop used piece) fault (subst Q (sym same) refuses) shown)

-- ---- behind the bytes that were taken

pub shown_behind : (heads : HeadsView) (bytes piece rest : List ℕ) (used : ℕ) → rest ≡ drop used piece
    → ShowsRefused heads ((bytes ++ take used piece) ++ rest) → ShowsRefused heads (bytes ++ piece)
shown_behind heads bytes piece rest used same shown =
    let P : List ℕ → Type 0 = λ t. ShowsRefused heads t in
    subst P (ap (λ (t : List ℕ). (bytes ++ take used piece) ++ t) same ∙ behind_all bytes piece used) shown

-- ---- behind the final head

pub behind_shown : (heads : HeadsView) (framing : Follows) (front text : List ℕ) → BehindHead heads framing front → framing ≢ Head
    → ShowsRefused heads (front ++ text)
behind_shown heads framing front text is other =
    inl (
      is.final,
      record {
        interims = is.before;
        rest = text;
        before = is.form;
        form = is.final_form;
        told = final_told heads.for_head (length is.before) is.final framing is.framed other;
        bytes_are = behind_heads heads framing front text is;
      },
      is.status,
      is.headers,
    )

pub body_shown : (place : BodyPlace) (heads : HeadsView) (held body bytes piece : List ℕ) → InBody place heads held body bytes
    → ShowsRefused heads (bytes ++ piece)
body_shown place heads held body bytes piece is =
    let framed = stands_framed is.framing place held body is.text is.unfinished is.stands in
    let P : List ℕ → Type 0 = λ t. ShowsRefused heads t in
    let whole = ap (λ (t : List ℕ). t ++ piece) is.bytes_are ∙ append_assoc is.front is.text piece in
    subst P (sym whole) (behind_shown heads is.framing is.front (is.text ++ piece) is.behind framed)

pub cut_shown : (place : BodyPlace) (heads : HeadsView) (held body bytes : List ℕ) → InBody place heads held body bytes → ShowsRefused heads bytes
cut_shown place heads held body bytes is =
    let P : List ℕ → Type 0 = λ t. ShowsRefused heads t in
    subst P (append-nil bytes) (body_shown place heads held body bytes [] is)
