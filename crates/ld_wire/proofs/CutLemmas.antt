-- Readers that were fed the same bytes stand at the same answer, however the bytes were cut.
use Rattle.std.proofs.Common.{◌≡◌, ◌≢◌, ◌⊎◌, ◌∙◌, ℕ, Bool, true, false, List, [], ◌++◌, length, take, drop, ap, sym, subst, refl, append_assoc, inl, inr, arith}
use Rattle.std.specs.Prelude.{IsTrue}
use Rattle.std.proofs.lemmas.List.{take-append-drop, take_all}
use Rattle.httparse.specs.Grammar.{print_response}
use Rattle.ld_wire.specs.Heads.{BehindHead, HeadsView, ShowsRefused}
use Rattle.ld_wire.specs.Reader.{FedAt, HasFault, IsOpen, IsWhole, ShowsResponse}
use Rattle.ld_wire.specs.ReaderView.{IsFed, ReaderView}
use Rattle.ld_wire.specs.Response.{Begins, IsBody, IsResponse, Response, print_heads}
use Rattle.ld_wire.specs.declared.fault.WireFault.{WireFault}
use Rattle.ld_wire.specs.declared.fault.WireFault.TheVariants.{Memory}
use Rattle.ld_wire.specs.declared.framing.Follows.{Follows}
use Rattle.ld_wire.specs.declared.framing.Follows.TheVariants.{Head, Nothing, Bytes, Chunks, Close}
use Rattle.ld_wire.specs.declared.stage.Stage.{Stage}
use Rattle.ld_wire.specs.declared.stage.Stage.TheVariants as stages
use Rattle.ld_wire.proofs.OpenLemmas.{open_body, open_head, same_body}
use Rattle.ld_wire.proofs.ResponseLemmas.{false_is, front_of_begins, front_of_ended, front_refuses, one_begin, one_fault, one_front}
use Rattle.ld_wire.proofs.ShownLemmas.{one_shown}

-- ---- a whole response is one

-- one that the peer ended is one without that, or the close ends it
close_or_not : (framing : Follows) (text body : List ℕ) → IsBody framing true text body → (framing ≡ Close) ⊎ IsBody framing false text body
close_or_not Head text body is = absurd is
close_or_not Nothing text body is = inr is
close_or_not (Bytes number) text body is = inr is
close_or_not Chunks text body is = inr is
close_or_not Close text body is = inl refl

-- the close ends none that needn't be ended so
not_close : (for_head : Bool) (bytes : List ℕ) (used : ℕ) (a b : Response) → Begins for_head bytes used a → (w : IsResponse for_head true bytes b)
    → w.framing ≡ Close → ⊥
not_close for_head bytes used a b begins w close =
    let front = print_heads w.interims ++ print_response w.final in
    let heads : HeadsView = record { for_head = for_head; interims = 0; bytes = []; status = b.status; headers = b.headers } in
    let behind : BehindHead heads w.framing front = record {
      before = w.interims;
      final = w.final;
      form = w.before;
      final_form = w.head;
      framed = w.framed;
      bytes_are = refl;
      status = w.status;
      headers = w.headers;
    } in
    let whole : front ++ w.text ≡ bytes = append_assoc (print_heads w.interims) (print_response w.final) w.text ∙ sym w.bytes_are in
    let both = same_body heads w.framing front w.text (take used bytes) (drop used bytes) false a behind
    (λ head. absurd (let e = sym close ∙ head in cc)) (whole ∙ sym (take-append-drop used bytes)) begins.whole in
    let P : Follows → Type 0 = λ f. IsBody f false begins.whole.text a.body in
    false_is (subst P (both.0 ∙ close) begins.whole.body).0

-- such a one begins the bytes
begins_all : (for_head : Bool) (bytes : List ℕ) (b : Response) (w : IsResponse for_head true bytes b) → IsBody w.framing false w.text b.body
    → Begins for_head bytes (length bytes) b
begins_all for_head bytes b w body =
    let all : take (length bytes) bytes ≡ bytes = take_all (length bytes) bytes (omega arith) in
    let P : List ℕ → Type 0 = λ t. IsResponse for_head false t b in
    record {
      inside = omega arith;
      whole = subst P (sym all) (record {
        interims = w.interims;
        final = w.final;
        framing = w.framing;
        text = w.text;
        before = w.before;
        head = w.head;
        framed = w.framed;
        bytes_are = w.bytes_are;
        body = body;
        status = w.status;
        headers = w.headers;
      });
    }

same_whole : (for_head : Bool) (bytes : List ℕ) (used : ℕ) (a b : Response) → Begins for_head bytes used a → IsResponse for_head true bytes b → a ≡ b
same_whole for_head bytes used a b begins w =
    elim (close_or_not w.framing w.text b.body w.body) [
      | inl close ↦ absurd (not_close for_head bytes used a b begins w close)
      | inr body ↦ (one_begin for_head bytes used (length bytes) a b begins (begins_all for_head bytes b w body)).1
    ]

one_whole : (for_head ended : Bool) (bytes : List ℕ) (used other : ℕ) (a b : Response) → IsWhole for_head ended bytes used a
    → IsWhole for_head ended bytes other b → a ≡ b
one_whole for_head ended bytes used other a b (inl x) (inl y) = (one_begin for_head bytes used other a b x y).1
one_whole for_head ended bytes used other a b (inl x) (inr y) = same_whole for_head bytes used a b x y.2
one_whole for_head ended bytes used other a b (inr x) (inl y) = sym (same_whole for_head bytes other b a y x.2)
one_whole for_head ended bytes used other a b (inr x) (inr y) =
    (one_front for_head true bytes a b (front_of_ended for_head bytes a x.2) (front_of_ended for_head bytes b y.2)).1

whole_sound : (for_head ended : Bool) (bytes : List ℕ) (used : ℕ) (response : Response) (fault : WireFault) → IsWhole for_head ended bytes used response
    → HasFault for_head ended bytes fault → ⊥
whole_sound for_head ended bytes used response fault (inl x) (inl y) =
    front_refuses for_head false bytes response fault (front_of_begins for_head bytes used response x) y
whole_sound for_head ended bytes used response fault (inl x) (inr y) = y.2.unfinished.none used response x
whole_sound for_head ended bytes used response fault (inr x) (inl y) =
    front_refuses for_head true bytes response fault (front_of_ended for_head bytes response x.2) y
whole_sound for_head ended bytes used response fault (inr x) (inr y) = y.2.none response x.2

same_fault : (for_head ended : Bool) (bytes : List ℕ) (f g : WireFault) → HasFault for_head ended bytes f → HasFault for_head ended bytes g → f ≡ g
same_fault for_head ended bytes f g (inl x) (inl y) = one_fault for_head bytes f g x y
same_fault for_head ended bytes f g (inl x) (inr y) = absurd (y.2.unfinished.sound f x)
same_fault for_head ended bytes f g (inr x) (inl y) = absurd (x.2.unfinished.sound g y)
same_fault for_head ended bytes f g (inr x) (inr y) = x.0 ∙ sym y.0

-- ---- where it isn't whole yet

not_ended : (ended : Bool) → ended ≡ false → IsTrue ended → ⊥
not_ended ended is true_is = false_is (subst (λ (e : Bool). IsTrue e) is true_is)

open_whole : (for_head ended : Bool) (bytes : List ℕ) (used : ℕ) (response : Response) → ended ≡ false → IsOpen for_head bytes
    → IsWhole for_head ended bytes used response → ⊥
open_whole for_head ended bytes used response is unfinished (inl x) = unfinished.none used response x
open_whole for_head ended bytes used response is unfinished (inr x) = not_ended ended is x.0

open_fault : (for_head ended : Bool) (bytes : List ℕ) (fault : WireFault) → ended ≡ false → IsOpen for_head bytes → HasFault for_head ended bytes fault → ⊥
open_fault for_head ended bytes fault is unfinished (inl x) = unfinished.sound fault x
open_fault for_head ended bytes fault is unfinished (inr x) = not_ended ended is x.1

-- ---- two readers

abbrev Alike : Stage → HeadsView → List ℕ → Response → Type 0
Alike stage heads body response = (stage ≡ stages.Whole) × ShowsResponse heads body response

whole_alike : (stage : Stage) (heads : HeadsView) (held body : List ℕ) (ended : Bool) (bytes : List ℕ) (used : ℕ) (response : Response)
    → IsWhole heads.for_head ended bytes used response → stage ≢ stages.Refused Memory → FedAt stage heads held body ended bytes → Alike stage heads body response
whole_alike stages.Head heads held body ended bytes used response is other fed =
    absurd (open_whole heads.for_head ended bytes used response fed.0 (open_head heads bytes fed.1) is)
whole_alike (stages.Body place) heads held body ended bytes used response is other fed =
    absurd (open_whole heads.for_head ended bytes used response fed.0 (open_body place heads held body bytes fed.1) is)
whole_alike stages.Whole heads held body ended bytes used response is other fed =
    let P : Response → Type 0 = λ r. ShowsResponse heads body r in
    (refl, subst P (one_whole heads.for_head ended bytes fed.0 used fed.1 response fed.2 is) fed.3)
whole_alike (stages.Refused fault) heads held body ended bytes used response is other fed =
    absurd (whole_sound heads.for_head ended bytes used response fault is (fed (λ same. other (ap stages.Refused same))).0)

refused_alike : (stage : Stage) (heads : HeadsView) (held body : List ℕ) (ended : Bool) (bytes : List ℕ) (fault : WireFault)
    → HasFault heads.for_head ended bytes fault → stage ≢ stages.Refused Memory → FedAt stage heads held body ended bytes
    → (stage ≡ stages.Refused fault) × ShowsRefused heads bytes
refused_alike stages.Head heads held body ended bytes fault is other fed =
    absurd (open_fault heads.for_head ended bytes fault fed.0 (open_head heads bytes fed.1) is)
refused_alike (stages.Body place) heads held body ended bytes fault is other fed =
    absurd (open_fault heads.for_head ended bytes fault fed.0 (open_body place heads held body bytes fed.1) is)
refused_alike stages.Whole heads held body ended bytes fault is other fed =
    absurd (whole_sound heads.for_head ended bytes fed.0 fed.1 fault fed.2 is)
refused_alike (stages.Refused found) heads held body ended bytes fault is other fed =
    let both = fed (λ same. other (ap stages.Refused same)) in
    (ap stages.Refused (same_fault heads.for_head ended bytes found fault both.0 is), both.1)

pub both_whole : (a b : ReaderView) (ended : Bool) (bytes : List ℕ) → a.heads.for_head ≡ b.heads.for_head → IsFed a ended bytes → IsFed b ended bytes
    → a.stage ≡ stages.Whole → b.stage ≢ stages.Refused Memory
    → (b.stage ≡ stages.Whole) × (a.heads.status ≡ b.heads.status) × (a.heads.headers ≡ b.heads.headers) × (a.body ≡ b.body)
both_whole a b ended bytes same x y whole other =
    let P : Stage → Type 0 = λ s. FedAt s a.heads a.held a.body ended bytes in
    let at = subst P whole x in
    let Q : Bool → Type 0 = λ h. IsWhole h ended bytes at.0 at.1 in
    let alike = whole_alike b.stage b.heads b.held b.body ended bytes at.0 at.1 (subst Q same at.2) other y in (
      alike.0,
      at.3.status ∙ sym alike.1.status,
      at.3.headers ∙ sym alike.1.headers,
      at.3.body_is ∙ sym alike.1.body_is,
    )

pub both_refused : (a b : ReaderView) (ended : Bool) (bytes : List ℕ) (fault : WireFault) → a.heads.for_head ≡ b.heads.for_head → IsFed a ended bytes
    → IsFed b ended bytes → a.stage ≡ stages.Refused fault → fault ≢ Memory → b.stage ≢ stages.Refused Memory
    → (b.stage ≡ stages.Refused fault) × (a.heads.status ≡ b.heads.status) × (a.heads.headers ≡ b.heads.headers)
both_refused a b ended bytes fault same x y refused sound other =
    let P : Stage → Type 0 = λ s. FedAt s a.heads a.held a.body ended bytes in
    let Q : Bool → Type 0 = λ h. HasFault h ended bytes fault in
    let left = subst P refused x sound in
    let right = refused_alike b.stage b.heads b.held b.body ended bytes fault (subst Q same left.0) other y in
    let shown = one_shown a.heads b.heads bytes same left.1 right.1 in
    (right.0, shown.0, shown.1)
