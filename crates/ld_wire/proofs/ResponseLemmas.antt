-- Responses: bytes begin with one whole response at most, and then have no fault; and they have one fault at most.
use Rattle.std.proofs.Common.{◌≡◌, ◌≢◌, ◌⊎◌, ◌+◌, ◌∙◌, ℕ, Bool, true, false, List, [], ◌∷◌, ◌++◌, length, take, drop, arith, ap, ap₂, sym, subst, refl, append_assoc, append-nil, inl, inr, Result, Ok, Err}
use Rattle.std.specs.Prelude.{IsTrue}
use Rattle.std.proofs.lemmas.List.{append_cancel_left, take-append-drop, length-take-le}
use Rattle.httparse.specs.Grammar.{ResponseHead, print_response, HasNoResponse, status_code}
use Rattle.ld_wire.specs.Head.{IsHead, follows_head, head_limit, headers_of}
use Rattle.ld_wire.specs.Response.{AreInterims, Begins, FollowedBy, HasHeadFault, HeadRefuses, IsBody, IsResponse, Refuses, Response, print_heads}
use Rattle.ld_wire.specs.declared.fault.WireFault.{WireFault}
use Rattle.ld_wire.specs.declared.framing.Follows.{Follows}
use Rattle.ld_wire.specs.declared.framing.Follows.TheVariants.{Head, Nothing, Bytes, Chunks, Close}
use Rattle.ld_wire.proofs.ChainLemmas.{AreUnique, Chain, IsEnd, after, chain_unique}
use Rattle.ld_wire.proofs.ChunkLemmas.{chunked_refuses, chunked_unique, chunks_fault_unique, front_unique}
use Rattle.ld_wire.proofs.PieceLemmas.{head_unique, no_head, none_of_bad_head}

-- ---- interim heads one behind another, with how many there are

abbrev pub Interim : Bool → ℕ → ResponseHead → Type 0
Interim for_head before head = IsHead head × (follows_head for_head before head ≡ Ok Head)

abbrev pub one_more : ℕ → ResponseHead → ℕ
one_more before head = before + 1

abbrev pub IsFinal : Bool → ℕ → List ℕ → Type 0
IsFinal for_head before bytes = IsEnd print_response (Interim for_head) before bytes

pub interims_unique : (for_head : Bool) → AreUnique print_response (Interim for_head)
interims_unique for_head k a b r q x y same = head_unique a b r q x.0 y.0 same

pub chain_of_interims : (for_head : Bool) (before : ℕ) (heads : List ResponseHead) → AreInterims for_head before heads
    → Chain (Interim for_head) one_more before heads
chain_of_interims for_head before [] are = tt
chain_of_interims for_head before (head ∷ heads) are = ((are.0, are.1), chain_of_interims for_head (before + 1) heads are.2)

count_behind : (before : ℕ) (heads : List ResponseHead) → after one_more before heads ≡ before + length heads
count_behind before [] = omega arith
count_behind before (head ∷ heads) = let more = count_behind (before + 1) heads in omega arith

-- ---- what stands behind them

-- the text is a whole body, where the head before it has no fault
abbrev pub Framed : Result Follows WireFault → Bool → List ℕ → List ℕ → Type 0
Framed (Ok framing) ended text body = IsBody framing ended text body
Framed (Err fault) ended text body = ⊥

-- a final head is no interim one
framed_final : (r : Result Follows WireFault) (ended : Bool) (text body : List ℕ) → Framed r ended text body → r ≢ Ok Head
framed_final r ended text body framed is =
    let P : Result Follows WireFault → Type 0 = λ s. Framed s ended text body in
    subst P is framed

-- nor is one that is at fault, or whose body is
followed_final : (r : Result Follows WireFault) (text : List ℕ) (fault : WireFault) → FollowedBy r text fault → r ≢ Ok Head
followed_final r text fault followed is =
    let P : Result Follows WireFault → Type 0 = λ s. FollowedBy s text fault in
    subst P is followed

pub final_end : (for_head : Bool) (before : ℕ) (head : ResponseHead) (rest : List ℕ) → IsHead head
    → follows_head for_head before head ≢ Ok Head → IsFinal for_head before (print_response head ++ rest)
final_end for_head before head rest is final other more interim same =
    let heads = head_unique head other rest more is interim.0 same in
    final (ap (follows_head for_head before) heads.0 ∙ interim.1)

pub fault_none : (bytes : List ℕ) (fault : WireFault) → HasHeadFault bytes fault → HasNoResponse (take head_limit bytes)
fault_none bytes fault (inl bad) = none_of_bad_head bytes bad.1
fault_none bytes fault (inr long) = long.1.none

pub fault_end : (for_head : Bool) (before : ℕ) (bytes : List ℕ) (fault : WireFault) → HasHeadFault bytes fault → IsFinal for_head before bytes
fault_end for_head before bytes fault is head rest interim same =
    let P : List ℕ → Type 0 = λ text. HasNoResponse (take head_limit text) in
    no_head head rest interim.0 (subst P same (fault_none bytes fault is))

-- ---- bodies

-- a body that the close doesn't end is one in any text; one that it ends is the whole text
framed_unique : (r : Result Follows WireFault) (ended : Bool) (a b x y ra rb : List ℕ) → Framed r ended a x → Framed r ended b y
    → (IsTrue ended → (ra ≡ []) × (rb ≡ [])) → a ++ ra ≡ b ++ rb → (a ≡ b) × (x ≡ y)
framed_unique (Ok Head) ended a b x y ra rb f g all same = absurd f
framed_unique (Ok Nothing) ended a b x y ra rb f g all same = (f.0 ∙ sym g.0, f.1 ∙ sym g.1)
framed_unique (Ok (Bytes number)) ended a b x y ra rb f g all same =
    let both = front_unique a b ra rb (f.0 ∙ sym g.0) same in
    (both.0, f.1 ∙ both.0 ∙ sym g.1)
framed_unique (Ok Chunks) ended a b x y ra rb f g all same = chunked_unique a b x y ra rb f g same
framed_unique (Ok Close) ended a b x y ra rb f g all same =
    let none = all f.0 in
    let left : a ++ ra ≡ a = ap (λ (t : List ℕ). a ++ t) none.0 ∙ append-nil a in
    let right : b ++ rb ≡ b = ap (λ (t : List ℕ). b ++ t) none.1 ∙ append-nil b in
    let whole : a ≡ b = sym left ∙ same ∙ right in
    (whole, f.2 ∙ whole ∙ sym g.2)
framed_unique (Err fault) ended a b x y ra rb f g all same = absurd f

-- such a body has no fault
framed_refuses : (r : Result Follows WireFault) (ended : Bool) (a x ra : List ℕ) (fault : WireFault) → Framed r ended a x
    → (IsTrue ended → ra ≡ []) → FollowedBy r (a ++ ra) fault → ⊥
framed_refuses (Ok Head) ended a x ra fault f all refuses = f
framed_refuses (Ok Nothing) ended a x ra fault f all refuses = refuses
framed_refuses (Ok (Bytes number)) ended a x ra fault f all refuses = refuses
framed_refuses (Ok Chunks) ended a x ra fault f all refuses = chunked_refuses a x ra fault f refuses
framed_refuses (Ok Close) ended a x ra fault f all refuses =
    let left : a ++ ra ≡ a = ap (λ (t : List ℕ). a ++ t) (all f.0) ∙ append-nil a in
    let long = ap length left in
    let short = f.1 in
    let over = refuses.1 in
    omega arith
framed_refuses (Err found) ended a x ra fault f all refuses = f

-- a text has one fault
followed_unique : (r : Result Follows WireFault) (text : List ℕ) (f g : WireFault) → FollowedBy r text f → FollowedBy r text g → f ≡ g
followed_unique (Ok Head) text f g x y = absurd x
followed_unique (Ok Nothing) text f g x y = absurd x
followed_unique (Ok (Bytes number)) text f g x y = absurd x
followed_unique (Ok Chunks) text f g x y = chunks_fault_unique text f g x y
followed_unique (Ok Close) text f g x y = x.0 ∙ sym y.0
followed_unique (Err found) text f g x y = x ∙ sym y

-- ---- whole responses

-- bytes that begin with a whole response, which the close ends or not
pub record Fronts (for_head ended : Bool) (bytes : List ℕ) (response : Response) : Type 0 where
  pub front : List ℕ
  pub rest : List ℕ
  pub whole : IsResponse for_head ended front response
  pub bytes_are : bytes ≡ front ++ rest
  pub all : IsTrue ended → rest ≡ []

-- the bytes from the final head on
behind_interims : (for_head ended : Bool) (bytes : List ℕ) (response : Response) (is : Fronts for_head ended bytes response)
    → bytes ≡ print_heads is.whole.interims ++ (print_response is.whole.final ++ (is.whole.text ++ is.rest))
behind_interims for_head ended bytes response is =
    let w = is.whole in
    is.bytes_are ∙ ap (λ (t : List ℕ). t ++ is.rest) w.bytes_are
    ∙ append_assoc (print_heads w.interims) (print_response w.final ++ w.text) is.rest
    ∙ ap (λ (t : List ℕ). print_heads w.interims ++ t) (append_assoc (print_response w.final) w.text is.rest)

framed_of : (for_head ended : Bool) (bytes : List ℕ) (response : Response) (is : IsResponse for_head ended bytes response)
    → Framed (follows_head for_head (length is.interims) is.final) ended is.text response.body
framed_of for_head ended bytes response is =
    let P : Result Follows WireFault → Type 0 = λ r. Framed r ended is.text response.body in
    subst P (sym is.framed) is.body

-- the count of interim heads, as it is counted
pub final_here : (for_head : Bool) (heads : List ResponseHead) (bytes : List ℕ) → IsFinal for_head (length heads) bytes
    → IsFinal for_head (after one_more 0 heads) bytes
final_here for_head heads bytes is =
    let P : ℕ → Type 0 = λ k. IsFinal for_head k bytes in
    let same : length heads ≡ after one_more 0 heads = let t = count_behind 0 heads in omega arith in
    subst P same is

pub final_of : (for_head ended : Bool) (bytes : List ℕ) (response : Response) (is : IsResponse for_head ended bytes response) (rest : List ℕ)
    → IsFinal for_head (after one_more 0 is.interims) (print_response is.final ++ rest)
final_of for_head ended bytes response is rest =
    final_here for_head is.interims (print_response is.final ++ rest)
    (final_end for_head (length is.interims) is.final rest is.head
    (framed_final (follows_head for_head (length is.interims) is.final) ended is.text response.body
    (framed_of for_head ended bytes response is)))

response_alike : (a b : Response) → a.status ≡ b.status → a.headers ≡ b.headers → a.body ≡ b.body → a ≡ b
response_alike a b status headers body = λ i. record { status = status i; headers = headers i; body = body i }

-- there is one at most
pub one_front : (for_head ended : Bool) (bytes : List ℕ) (a b : Response) (x : Fronts for_head ended bytes a) (y : Fronts for_head ended bytes b)
    → (x.front ≡ y.front) × (a ≡ b)
one_front for_head ended bytes a b x y =
    let v = x.whole in
    let w = y.whole in
    let left = print_response v.final ++ (v.text ++ x.rest) in
    let right = print_response w.final ++ (w.text ++ y.rest) in
    let chained = chain_unique print_response (Interim for_head) one_more (interims_unique for_head) 0 v.interims w.interims left right
    (chain_of_interims for_head 0 v.interims v.before) (chain_of_interims for_head 0 w.interims w.before)
    (sym (behind_interims for_head ended bytes a x) ∙ behind_interims for_head ended bytes b y)
    (final_of for_head ended x.front a v (v.text ++ x.rest)) (final_of for_head ended y.front b w (w.text ++ y.rest)) in
    let heads = head_unique v.final w.final (v.text ++ x.rest) (w.text ++ y.rest) v.head w.head chained.1 in
    let counts : length v.interims ≡ length w.interims = ap length chained.0 in
    let framing = ap₂ (follows_head for_head) counts heads.0 in
    let P : Result Follows WireFault → Type 0 = λ r. Framed r ended w.text b.body in
    let bodies = framed_unique (follows_head for_head (length v.interims) v.final) ended v.text w.text a.body b.body x.rest y.rest
    (framed_of for_head ended x.front a v) (subst P (sym framing) (framed_of for_head ended y.front b w))
    (λ is. (x.all is, y.all is)) heads.1 in (
      v.bytes_are ∙ ap (λ (hs : List ResponseHead). print_heads hs ++ (print_response v.final ++ v.text)) chained.0
          ∙ ap₂ (λ (h : ResponseHead) (t : List ℕ). print_heads w.interims ++ (print_response h ++ t)) heads.0 bodies.0 ∙ sym w.bytes_are,
      response_alike a b (v.status ∙ ap status_code heads.0 ∙ sym w.status) (v.headers ∙ ap headers_of heads.0 ∙ sym w.headers) bodies.1,
    )

-- ---- faults

pub why_final : (for_head : Bool) (before : ℕ) (bytes : List ℕ) (fault : WireFault)
    → HeadRefuses for_head before bytes fault ⊎ HasHeadFault bytes fault → IsFinal for_head before bytes
why_final for_head before bytes fault (inl refuses) =
    let P : List ℕ → Type 0 = λ t. IsFinal for_head before t in
    subst P (sym refuses.bytes_are)
    (final_end for_head before refuses.head refuses.text refuses.form
    (followed_final (follows_head for_head before refuses.head) refuses.text fault refuses.why))
why_final for_head before bytes fault (inr is) = fault_end for_head before bytes fault is

pub refuses_final : (for_head : Bool) (bytes : List ℕ) (fault : WireFault) (is : Refuses for_head bytes fault)
    → IsFinal for_head (after one_more 0 is.interims) is.rest
refuses_final for_head bytes fault is =
    final_here for_head is.interims is.rest (why_final for_head (length is.interims) is.rest fault is.why)

-- a head that is there isn't at fault in its own form
pub no_head_fault : (head : ResponseHead) (rest : List ℕ) (fault : WireFault) → IsHead head → HasHeadFault (print_response head ++ rest) fault → ⊥
no_head_fault head rest fault is bad = no_head head rest is (fault_none (print_response head ++ rest) fault bad)

-- bytes that begin with a whole response have no fault
pub front_refuses : (for_head ended : Bool) (bytes : List ℕ) (response : Response) (fault : WireFault)
    → Fronts for_head ended bytes response → Refuses for_head bytes fault → ⊥
front_refuses for_head ended bytes response fault x y =
    let v = x.whole in
    let left = print_response v.final ++ (v.text ++ x.rest) in
    let chained = chain_unique print_response (Interim for_head) one_more (interims_unique for_head) 0 v.interims y.interims left y.rest
    (chain_of_interims for_head 0 v.interims v.before) (chain_of_interims for_head 0 y.interims y.before)
    (sym (behind_interims for_head ended bytes response x) ∙ y.bytes_are)
    (final_of for_head ended x.front response v (v.text ++ x.rest)) (refuses_final for_head bytes fault y) in
    let counts : length v.interims ≡ length y.interims = ap length chained.0 in
    let P : ℕ → Type 0 = λ k. HeadRefuses for_head k y.rest fault ⊎ HasHeadFault y.rest fault in
    at_head for_head ended (length v.interims) v.final v.text response.body x.rest y.rest fault v.head
    (framed_of for_head ended x.front response v) x.all chained.1 (subst P (sym counts) y.why)
  where
    at_head : (for_head ended : Bool) (before : ℕ) (head : ResponseHead) (text body rest bytes : List ℕ) (fault : WireFault) → IsHead head
        → Framed (follows_head for_head before head) ended text body → (IsTrue ended → rest ≡ [])
        → print_response head ++ (text ++ rest) ≡ bytes → HeadRefuses for_head before bytes fault ⊎ HasHeadFault bytes fault → ⊥
    at_head for_head ended before head text body rest bytes fault is framed all same (inl refuses) =
        let heads = head_unique head refuses.head (text ++ rest) refuses.text is refuses.form (same ∙ refuses.bytes_are) in
        let P : ResponseHead → Type 0 = λ h. FollowedBy (follows_head for_head before h) (text ++ rest) fault in
        let Q : List ℕ → Type 0 = λ t. FollowedBy (follows_head for_head before refuses.head) t fault in
        framed_refuses (follows_head for_head before head) ended text body rest fault framed all
        (subst P (sym heads.0) (subst Q (sym heads.1) refuses.why))
    at_head for_head ended before head text body rest bytes fault is framed all same (inr bad) =
        let P : List ℕ → Type 0 = λ t. HasHeadFault t fault in
        no_head_fault head (text ++ rest) fault is (subst P (sym same) bad)

one_head_fault : (bytes : List ℕ) (f g : WireFault) → HasHeadFault bytes f → HasHeadFault bytes g → f ≡ g
one_head_fault bytes f g (inl x) (inl y) = x.0 ∙ sym y.0
one_head_fault bytes f g (inl x) (inr y) = absurd (y.1.unsure x.1)
one_head_fault bytes f g (inr x) (inl y) = absurd (x.1.unsure y.1)
one_head_fault bytes f g (inr x) (inr y) = x.0 ∙ sym y.0

-- a fault behind a whole head is none of the head's form
apart : (for_head : Bool) (before : ℕ) (bytes : List ℕ) (f g : WireFault) → HeadRefuses for_head before bytes f → HasHeadFault bytes g → ⊥
apart for_head before bytes f g x y =
    let P : List ℕ → Type 0 = λ t. HasHeadFault t g in
    no_head_fault x.head x.text g x.form (subst P x.bytes_are y)

one_why : (for_head : Bool) (before : ℕ) (bytes : List ℕ) (f g : WireFault) → HeadRefuses for_head before bytes f ⊎ HasHeadFault bytes f
    → HeadRefuses for_head before bytes g ⊎ HasHeadFault bytes g → f ≡ g
one_why for_head before bytes f g (inl x) (inl y) =
    let heads = head_unique x.head y.head x.text y.text x.form y.form (sym x.bytes_are ∙ y.bytes_are) in
    let P : ResponseHead → Type 0 = λ h. FollowedBy (follows_head for_head before h) x.text g in
    let Q : List ℕ → Type 0 = λ t. FollowedBy (follows_head for_head before y.head) t g in
    followed_unique (follows_head for_head before x.head) x.text f g x.why (subst P (sym heads.0) (subst Q (sym heads.1) y.why))
one_why for_head before bytes f g (inl x) (inr y) = absurd (apart for_head before bytes f g x y)
one_why for_head before bytes f g (inr x) (inl y) = absurd (apart for_head before bytes g f y x)
one_why for_head before bytes f g (inr x) (inr y) = one_head_fault bytes f g x y

-- bytes have one fault at most
pub one_fault : (for_head : Bool) (bytes : List ℕ) (f g : WireFault) → Refuses for_head bytes f → Refuses for_head bytes g → f ≡ g
one_fault for_head bytes f g x y =
    let chained = chain_unique print_response (Interim for_head) one_more (interims_unique for_head) 0 x.interims y.interims x.rest y.rest
    (chain_of_interims for_head 0 x.interims x.before) (chain_of_interims for_head 0 y.interims y.before)
    (sym x.bytes_are ∙ y.bytes_are) (refuses_final for_head bytes f x) (refuses_final for_head bytes g y) in
    let counts : length x.interims ≡ length y.interims = ap length chained.0 in
    let P : ℕ → Type 0 = λ k. HeadRefuses for_head k y.rest g ⊎ HasHeadFault y.rest g in
    let Q : List ℕ → Type 0 = λ t. HeadRefuses for_head (length x.interims) t g ⊎ HasHeadFault t g in
    one_why for_head (length x.interims) x.rest f g x.why (subst Q (sym chained.1) (subst P (sym counts) y.why))

-- ---- the same of bytes so far, and of all bytes behind which the peer ended

pub false_is : IsTrue false → ⊥
false_is is = cc

abbrev pub front_of_begins : (for_head : Bool) (bytes : List ℕ) (used : ℕ) (response : Response) → Begins for_head bytes used response
    → Fronts for_head false bytes response
front_of_begins for_head bytes used response is = record {
  front = take used bytes;
  rest = drop used bytes;
  whole = is.whole;
  bytes_are = sym (take-append-drop used bytes);
  all = λ no_end. absurd (false_is no_end);
}

abbrev pub front_of_ended : (for_head : Bool) (bytes : List ℕ) (response : Response) → IsResponse for_head true bytes response
    → Fronts for_head true bytes response
front_of_ended for_head bytes response is = record {
  front = bytes;
  rest = [];
  whole = is;
  bytes_are = sym (append-nil bytes);
  all = λ _. refl;
}

pub one_begin : (for_head : Bool) (bytes : List ℕ) (used other : ℕ) (a b : Response) → Begins for_head bytes used a
    → Begins for_head bytes other b → (used ≡ other) × (a ≡ b)
one_begin for_head bytes used other a b x y =
    let both = one_front for_head false bytes a b (front_of_begins for_head bytes used a x) (front_of_begins for_head bytes other b y) in
    (sym (length-take-le used bytes x.inside) ∙ ap length both.0 ∙ length-take-le other bytes y.inside, both.1)

-- no proper front of a whole response is whole, unless the close ends it
pub same_end : (for_head : Bool) (bytes more : List ℕ) (a b : Response) → IsResponse for_head false bytes a
    → IsResponse for_head false (bytes ++ more) b → more ≡ []
same_end for_head bytes more a b x y =
    let left : Fronts for_head false (bytes ++ more) a = record {
      front = bytes;
      rest = more;
      whole = x;
      bytes_are = refl;
      all = λ no_end. absurd (false_is no_end);
    } in
    let right : Fronts for_head false (bytes ++ more) b = record {
      front = bytes ++ more;
      rest = [];
      whole = y;
      bytes_are = sym (append-nil (bytes ++ more));
      all = λ no_end. absurd (false_is no_end);
    } in
    let both = one_front for_head false (bytes ++ more) a b left right in
    sym (append_cancel_left bytes [] more (append-nil bytes ∙ both.0))
