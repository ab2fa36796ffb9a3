-- A response that isn't whole yet: the bytes so far begin with no whole one, and have no fault.
use Rattle.std.proofs.Common.{◌≡◌, ◌≢◌, ◌⊎◌, ◌∙◌, ℕ, Bool, true, false, List, [], ◌++◌, length, take, drop, arith, ap, ap₂, sym, subst, refl, append_assoc, append-nil, inl, inr, Result, Ok, Err}
use Rattle.std.specs.Prelude.{IsTrue}
use Rattle.std.proofs.lemmas.List.{length-append, take_all, take-append-drop}
use Rattle.httparse.specs.Grammar.{ResponseHead, NeverHasResponse, print_response}
use Rattle.ld_wire.specs.Body.{BodyStands}
use Rattle.ld_wire.specs.Found.{IsOpenHead}
use Rattle.ld_wire.specs.Head.{IsHead, follows_head, head_limit}
use Rattle.ld_wire.specs.Heads.{BehindHead, HeadsView, InHead}
use Rattle.ld_wire.specs.Reader.{InBody, IsCutShort, IsOpen}
use Rattle.ld_wire.specs.Response.{BodyRefuses, FollowedBy, HasHeadFault, HeadRefuses, IsBody, IsResponse, Refuses, Response, print_heads}
use Rattle.ld_wire.specs.declared.body_place.BodyPlace.{BodyPlace}
use Rattle.ld_wire.specs.declared.body_place.BodyPlace.TheVariants as places
use Rattle.ld_wire.specs.declared.fault.WireFault.{WireFault}
use Rattle.ld_wire.specs.declared.framing.Follows.{Follows}
use Rattle.ld_wire.specs.declared.framing.Follows.TheVariants.{Head}
use Rattle.ld_wire.proofs.ChainLemmas.{after, chain_unique}
use Rattle.ld_wire.proofs.OpenChunkLemmas.{open_chunks, open_unfinished, open_unrefused}
use Rattle.ld_wire.proofs.PieceLemmas.{head_unique}
use Rattle.ld_wire.proofs.ResponseLemmas.{Interim, IsFinal, chain_of_interims, false_is, final_end, final_here, final_of, interims_unique, no_head_fault, one_more, refuses_final}

-- ---- in a head

-- no head begins there
pub no_head_at : (for_head : Bool) (k : ℕ) (text : List ℕ) → IsOpenHead text → IsFinal for_head k text
no_head_at for_head k text is head rest interim same = is.none head rest (interim.0.form, same)

head_unfinished : (heads : HeadsView) (bytes front rest : List ℕ) (ended : Bool) (response : Response) → InHead heads bytes → bytes ≡ front ++ rest
    → IsResponse heads.for_head ended front response → ⊥
head_unfinished heads bytes front rest ended response is same w =
    let right = print_response w.final ++ (w.text ++ rest) in
    let whole : front ++ rest ≡ print_heads w.interims ++ right =
    ap (λ (t : List ℕ). t ++ rest) w.bytes_are ∙ append_assoc (print_heads w.interims) (print_response w.final ++ w.text) rest
    ∙ ap (λ (t : List ℕ). print_heads w.interims ++ t) (append_assoc (print_response w.final) w.text rest) in
    let chained = chain_unique print_response (Interim heads.for_head) one_more (interims_unique heads.for_head) 0 is.before w.interims heads.bytes right
    (chain_of_interims heads.for_head 0 is.before is.form) (chain_of_interims heads.for_head 0 w.interims w.before)
    (sym is.bytes_are ∙ same ∙ whole)
    (no_head_at heads.for_head (after one_more 0 is.before) heads.bytes is.more) (final_of heads.for_head ended front response w (w.text ++ rest)) in
    is.more.none w.final (w.text ++ rest) (w.head.form, chained.1)

no_form_fault : (text : List ℕ) (fault : WireFault) → IsOpenHead text → HasHeadFault text fault → ⊥
no_form_fault text fault is (inl bad) =
    let short = is.short in
    let P : List ℕ → Type 0 = λ t. NeverHasResponse t in
    subst P (take_all head_limit text (omega arith)) bad.1 is.more.0 is.more.1 [] is.more.2
no_form_fault text fault is (inr long) = let short = is.short in let full = long.1.long in omega arith

head_unrefused : (heads : HeadsView) (bytes : List ℕ) (fault : WireFault) → InHead heads bytes → Refuses heads.for_head bytes fault → ⊥
head_unrefused heads bytes fault is y =
    let chained = chain_unique print_response (Interim heads.for_head) one_more (interims_unique heads.for_head) 0 is.before y.interims heads.bytes y.rest
    (chain_of_interims heads.for_head 0 is.before is.form) (chain_of_interims heads.for_head 0 y.interims y.before)
    (sym is.bytes_are ∙ y.bytes_are)
    (no_head_at heads.for_head (after one_more 0 is.before) heads.bytes is.more) (refuses_final heads.for_head bytes fault y) in
    no_why heads.for_head (length y.interims) heads.bytes y.rest fault is.more (sym chained.1) y.why
  where
    no_why : (for_head : Bool) (k : ℕ) (text rest : List ℕ) (fault : WireFault) → IsOpenHead text → rest ≡ text
        → HeadRefuses for_head k rest fault ⊎ HasHeadFault rest fault → ⊥
    no_why for_head k text rest fault is same (inl refuses) = is.none refuses.head refuses.text (refuses.form.form, sym same ∙ refuses.bytes_are)
    no_why for_head k text rest fault is same (inr bad) =
        let P : List ℕ → Type 0 = λ t. HasHeadFault t fault in
        no_form_fault text fault is (subst P same bad)

pub open_head : (heads : HeadsView) (bytes : List ℕ) → InHead heads bytes → IsOpen heads.for_head bytes
open_head heads bytes is = record {
  none = λ used response begins.
      head_unfinished heads bytes (take used bytes) (drop used bytes) false response is (sym (take-append-drop used bytes)) begins.whole;
  sound = λ fault refuses. head_unrefused heads bytes fault is refuses;
}

pub cut_head : (heads : HeadsView) (bytes : List ℕ) → InHead heads bytes → IsCutShort heads.for_head bytes
cut_head heads bytes is = record {
  unfinished = open_head heads bytes is;
  none = λ response whole. head_unfinished heads bytes bytes [] true response is (sym (append-nil bytes)) whole;
}

-- ---- in a body

pub stands_framed : (framing : Follows) (place : BodyPlace) (held body text : List ℕ) → place ≢ places.Whole → BodyStands framing place held body text → framing ≢ Head
stands_framed framing (places.Bytes left) held body text other is same = absurd (let e = sym is.framed ∙ same in cc)
stands_framed framing (places.Chunks at) held body text other is same = absurd (let e = sym is.0 ∙ same in cc)
stands_framed framing places.Close held body text other is same = absurd (let e = sym is.framed ∙ same in cc)
stands_framed framing places.Whole held body text other is same = absurd (other refl)

pub ok_is : (a b : Follows) → ◌≡◌ {A = Result Follows WireFault} (Ok a) (Ok b) → a ≡ b
ok_is a b same = ap value same
  where
    value : Result Follows WireFault → Follows
    value (Ok framing) = framing
    value (Err fault) = Head

-- the final head is followed by no other head
final_behind : (heads : HeadsView) (framing : Follows) (front text : List ℕ) (is : BehindHead heads framing front) → framing ≢ Head
    → IsFinal heads.for_head (after one_more 0 is.before) (print_response is.final ++ text)
final_behind heads framing front text is other =
    final_here heads.for_head is.before (print_response is.final ++ text)
    (final_end heads.for_head (length is.before) is.final text is.final_form (λ same. other (ok_is framing Head (sym is.framed ∙ same))))

pub behind_heads : (heads : HeadsView) (framing : Follows) (front text : List ℕ) (is : BehindHead heads framing front)
    → front ++ text ≡ print_heads is.before ++ (print_response is.final ++ text)
behind_heads heads framing front text is =
    ap (λ (t : List ℕ). t ++ text) is.bytes_are ∙ append_assoc (print_heads is.before) (print_response is.final) text

-- a whole response in the bytes has the same final head
pub same_body : (heads : HeadsView) (framing : Follows) (front text whole rest : List ℕ) (ended : Bool) (response : Response) → BehindHead heads framing front
    → framing ≢ Head → front ++ text ≡ whole ++ rest → (w : IsResponse heads.for_head ended whole response) → (w.framing ≡ framing) × (text ≡ w.text ++ rest)
same_body heads framing front text whole rest ended response is other same w =
    let right = print_response w.final ++ (w.text ++ rest) in
    let parts : whole ++ rest ≡ print_heads w.interims ++ right =
    ap (λ (t : List ℕ). t ++ rest) w.bytes_are ∙ append_assoc (print_heads w.interims) (print_response w.final ++ w.text) rest
    ∙ ap (λ (t : List ℕ). print_heads w.interims ++ t) (append_assoc (print_response w.final) w.text rest) in
    let chained = chain_unique print_response (Interim heads.for_head) one_more (interims_unique heads.for_head) 0 is.before w.interims
    (print_response is.final ++ text) right
    (chain_of_interims heads.for_head 0 is.before is.form) (chain_of_interims heads.for_head 0 w.interims w.before)
    (sym (behind_heads heads framing front text is) ∙ same ∙ parts)
    (final_behind heads framing front text is other) (final_of heads.for_head ended whole response w (w.text ++ rest)) in
    let both = head_unique is.final w.final text (w.text ++ rest) is.final_form w.head chained.1 in
    let counts : length is.before ≡ length w.interims = ap length chained.0 in
    (ok_is w.framing framing (sym w.framed ∙ sym (ap₂ (follows_head heads.for_head) counts both.0) ∙ is.framed), both.1)

-- and a fault in them is one of the body
same_fault : (heads : HeadsView) (framing : Follows) (front text : List ℕ) (fault : WireFault) → BehindHead heads framing front
    → framing ≢ Head → Refuses heads.for_head (front ++ text) fault → BodyRefuses framing text fault
same_fault heads framing front text fault is other y =
    let chained = chain_unique print_response (Interim heads.for_head) one_more (interims_unique heads.for_head) 0 is.before y.interims
    (print_response is.final ++ text) y.rest
    (chain_of_interims heads.for_head 0 is.before is.form) (chain_of_interims heads.for_head 0 y.interims y.before)
    (sym (behind_heads heads framing front text is) ∙ y.bytes_are)
    (final_behind heads framing front text is other) (refuses_final heads.for_head (front ++ text) fault y) in
    let counts : length y.interims ≡ length is.before = ap length (sym chained.0) in
    why_is heads.for_head (length is.before) (length y.interims) is.final text y.rest framing fault is.final_form is.framed counts (sym chained.1) y.why
  where
    why_is : (for_head : Bool) (k other : ℕ) (head : ResponseHead) (text rest : List ℕ) (framing : Follows) (fault : WireFault) → IsHead head
        → follows_head for_head k head ≡ Ok framing → other ≡ k → rest ≡ print_response head ++ text
        → HeadRefuses for_head other rest fault ⊎ HasHeadFault rest fault → BodyRefuses framing text fault
    why_is for_head k other head text rest framing fault form framed count same (inl refuses) =
        let heads = head_unique refuses.head head refuses.text text refuses.form form (sym refuses.bytes_are ∙ same) in
        let P : Result Follows WireFault → Type 0 = λ r. FollowedBy r refuses.text fault in
        let Q : List ℕ → Type 0 = λ t. BodyRefuses framing t fault in
        subst Q heads.1 (subst P (ap₂ (follows_head for_head) count heads.0 ∙ framed) refuses.why)
    why_is for_head k other head text rest framing fault form framed count same (inr bad) =
        let P : List ℕ → Type 0 = λ t. HasHeadFault t fault in
        absurd (no_head_fault head text fault form (subst P same bad))

-- a body that isn't whole yet has no fault
body_unrefused : (framing : Follows) (place : BodyPlace) (held body text : List ℕ) (fault : WireFault) → place ≢ places.Whole
    → BodyStands framing place held body text → BodyRefuses framing text fault → ⊥
body_unrefused framing (places.Bytes left) held body text fault other is refuses =
    let P : Follows → Type 0 = λ f. BodyRefuses f text fault in
    subst P is.framed refuses
body_unrefused framing (places.Chunks at) held body text fault other is refuses =
    let P : Follows → Type 0 = λ f. BodyRefuses f text fault in
    open_unrefused text fault (open_chunks at held body text is.1 is.2) (subst P is.0 refuses)
body_unrefused framing places.Close held body text fault other is refuses =
    let P : Follows → Type 0 = λ f. BodyRefuses f text fault in
    let over = subst P is.framed refuses in
    let long = over.1 in
    let short = is.short in
    omega arith
body_unrefused framing places.Whole held body text fault other is refuses = other refl

-- no front of it is a whole one, where the close doesn't end it
body_unfinished : (framing : Follows) (place : BodyPlace) (held body text front rest all : List ℕ) (ended : Bool) → place ≢ places.Whole
    → (IsTrue ended → place ≢ places.Close) → BodyStands framing place held body text → text ≡ front ++ rest → IsBody framing ended front all → ⊥
body_unfinished framing (places.Bytes left) held body text front rest all ended other end is same whole =
    let P : Follows → Type 0 = λ f. IsBody f ended front all in
    let sized = subst P is.framed whole in
    let long = sized.0 in
    let count = is.count in
    let some = is.some in
    let parts = ap length same ∙ length-append front rest in
    omega arith
body_unfinished framing (places.Chunks at) held body text front rest all ended other end is same whole =
    let P : Follows → Type 0 = λ f. IsBody f ended front all in
    open_unfinished text front rest all (open_chunks at held body text is.1 is.2) same (subst P is.0 whole)
body_unfinished framing places.Close held body text front rest all ended other end is same whole =
    let P : Follows → Type 0 = λ f. IsBody f ended front all in
    end (subst P is.framed whole).0 refl
body_unfinished framing places.Whole held body text front rest all ended other end is same whole = other refl

unfinished : (place : BodyPlace) (heads : HeadsView) (held body bytes front rest : List ℕ) (ended : Bool) (response : Response) → (IsTrue ended → place ≢ places.Close)
    → InBody place heads held body bytes → bytes ≡ front ++ rest → IsResponse heads.for_head ended front response → ⊥
unfinished place heads held body bytes front rest ended response end is same w =
    let framed = stands_framed is.framing place held body is.text is.unfinished is.stands in
    let both = same_body heads is.framing is.front is.text front rest ended response is.behind framed (sym is.bytes_are ∙ same) w in
    let P : Follows → Type 0 = λ f. IsBody f ended w.text response.body in
    body_unfinished is.framing place held body is.text w.text rest response.body ended is.unfinished end is.stands both.1 (subst P both.0 w.body)

pub open_body : (place : BodyPlace) (heads : HeadsView) (held body bytes : List ℕ) → InBody place heads held body bytes → IsOpen heads.for_head bytes
open_body place heads held body bytes is =
    let framed = stands_framed is.framing place held body is.text is.unfinished is.stands in
    record {
      none = λ used response begins.
          unfinished place heads held body bytes (take used bytes) (drop used bytes) false response (λ no_end. absurd (false_is no_end)) is
          (sym (take-append-drop used bytes)) begins.whole;
      sound = λ fault refuses.
          let Q : List ℕ → Type 0 = λ t. Refuses heads.for_head t fault in
          body_unrefused is.framing place held body is.text fault is.unfinished is.stands
          (same_fault heads is.framing is.front is.text fault is.behind framed (subst Q is.bytes_are refuses));
    }

pub cut_body : (place : BodyPlace) (heads : HeadsView) (held body bytes : List ℕ) → place ≢ places.Close → InBody place heads held body bytes
    → IsCutShort heads.for_head bytes
cut_body place heads held body bytes other is = record {
  unfinished = open_body place heads held body bytes is;
  none = λ response whole.
      unfinished place heads held body bytes bytes [] true response (λ _. other) is (sym (append-nil bytes)) whole;
}
