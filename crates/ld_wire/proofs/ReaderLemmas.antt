-- What a reader answers, and where it then stands.
use Rattle.std.proofs.Common.{◌≡◌, ◌≢◌, ◌≤◌, ◌+◌, ◌-◌, ◌∙◌, ℕ, Bool, true, false, List, ◌++◌, length, arith, sym, subst, refl, inl, inr, Result, Ok, Err}
use Rattle.std.specs.Prelude.{IfErr, IfOk}
use Rattle.ld_wire.specs.Body.{BodyStands}
use Rattle.ld_wire.specs.Heads.{BehindHead, HeadsView, InHead, ShowsRefused, heads_view}
use Rattle.ld_wire.specs.Kept.{reader_view}
use Rattle.ld_wire.specs.Reader.{AdvancesTo, FedAt, HasFault, ShowsResponse, InBody, IsOpen, IsWhole, feed_at, feed_of, stage_behind, with_piece}
use Rattle.ld_wire.specs.ReaderView.{FeedAnswers, IsFed, ReaderView}
use Rattle.ld_wire.specs.Response.{IsBody, IsResponse, Refuses, Response}
use Rattle.ld_wire.specs.declared.body_place.BodyPlace.{BodyPlace}
use Rattle.ld_wire.specs.declared.body_place.BodyPlace.TheVariants as places
use Rattle.ld_wire.specs.declared.fault.WireFault.{WireFault}
use Rattle.ld_wire.specs.declared.fault.WireFault.TheVariants.{CutShort, Memory}
use Rattle.ld_wire.specs.declared.feed.Feed.{Feed}
use Rattle.ld_wire.specs.declared.framing.Follows.{Follows}
use Rattle.ld_wire.specs.declared.framing.Follows.TheVariants.{Close}
use Rattle.ld_wire.specs.declared.heads.Heads.{Heads}
use Rattle.ld_wire.specs.declared.stage.Advance.{Advance}
use Rattle.ld_wire.specs.declared.stage.Stage.{Stage}
use Rattle.ld_wire.specs.declared.stage.Stage.TheVariants as stages
use Rattle.ld_wire.proofs.OpenLemmas.{behind_heads, cut_body, cut_head, open_body, open_head}
use Rattle.ld_wire.proofs.ResponseLemmas.{false_is}
use Rattle.ld_wire.proofs.ShownLemmas.{body_shown, cut_shown, head_shown, shown_stays}
use Rattle.ld_wire.proofs.StayLemmas.{begin_stays, fault_stays}

-- ---- what a reader was fed, by its fields

pub fed_inside : (view : ReaderView) (heads : Heads) (stage at : Stage) (held body : List ℕ) (ended : Bool) (bytes : List ℕ)
    → reader_view heads stage held body ≡ view → stage ≡ at → IsFed view ended bytes → FedAt at (heads_view heads) held body ended bytes
fed_inside view heads stage at held body ended bytes same is fed =
    let P : ReaderView → Type 0 = λ v. IsFed v ended bytes in
    let Q : Stage → Type 0 = λ s. FedAt s (heads_view heads) held body ended bytes in
    subst Q is (subst P (sym same) fed)

pub fed_outside : (view : ReaderView) (heads : Heads) (stage at : Stage) (held body : List ℕ) (ended : Bool) (bytes : List ℕ)
    → reader_view heads stage held body ≡ view → stage ≡ at → FedAt at (heads_view heads) held body ended bytes → IsFed view ended bytes
fed_outside view heads stage at held body ended bytes same is fed =
    let P : ReaderView → Type 0 = λ v. IsFed v ended bytes in
    let Q : Stage → Type 0 = λ s. FedAt s (heads_view heads) held body ended bytes in
    subst P same (subst Q (sym is) fed)

-- ---- behind a whole response, and behind a refusal

whole_more : (for_head ended : Bool) (bytes piece : List ℕ) (used : ℕ) (response : Response) → IsWhole for_head ended bytes used response
    → IsWhole for_head ended (with_piece ended bytes piece) used response
whole_more for_head true bytes piece used response is = is
whole_more for_head false bytes piece used response (inl begins) = inl (begin_stays for_head bytes piece used response begins)
whole_more for_head false bytes piece used response (inr ends) = absurd (false_is ends.0)

whole_inside : (for_head ended : Bool) (bytes : List ℕ) (used : ℕ) (response : Response) → IsWhole for_head ended bytes used response → used ≤ length bytes
whole_inside for_head ended bytes used response (inl begins) = begins.inside
whole_inside for_head ended bytes used response (inr ends) = let all = ends.1 in omega arith

pub whole_stays : (heads : HeadsView) (held body : List ℕ) (ended : Bool) (bytes piece : List ℕ) → FedAt stages.Whole heads held body ended bytes
    → FedAt stages.Whole heads held body ended (with_piece ended bytes piece)
whole_stays heads held body ended bytes piece is = (is.0, is.1, whole_more heads.for_head ended bytes piece is.0 is.1 is.2, is.3)

pub whole_again : (heads : HeadsView) (held body : List ℕ) (ended : Bool) (bytes piece : List ℕ) → FedAt stages.Whole heads held body ended bytes
    → (whole : ℕ) × (response : Response) × IsWhole heads.for_head ended (with_piece ended bytes piece) whole response × ShowsResponse heads body response
    × (0 ≡ whole - length bytes)
whole_again heads held body ended bytes piece is =
    let inside = whole_inside heads.for_head ended bytes is.0 is.1 is.2 in
    (is.0, is.1, whole_more heads.for_head ended bytes piece is.0 is.1 is.2, is.3, omega arith)

fault_more : (for_head ended : Bool) (bytes piece : List ℕ) (fault : WireFault) → HasFault for_head ended bytes fault
    → HasFault for_head ended (with_piece ended bytes piece) fault
fault_more for_head true bytes piece fault is = is
fault_more for_head false bytes piece fault (inl refuses) = inl (fault_stays for_head bytes piece fault refuses)
fault_more for_head false bytes piece fault (inr cut) = absurd (false_is cut.1)

shown_more : (heads : HeadsView) (ended : Bool) (bytes piece : List ℕ) (fault : WireFault) → HasFault heads.for_head ended bytes fault
    → ShowsRefused heads bytes → ShowsRefused heads (with_piece ended bytes piece)
shown_more heads true bytes piece fault is shown = shown
shown_more heads false bytes piece fault (inl refuses) shown = shown_stays heads bytes piece fault refuses shown
shown_more heads false bytes piece fault (inr cut) shown = absurd (false_is cut.1)

pub refused_more : (heads : HeadsView) (ended : Bool) (bytes piece : List ℕ) (fault : WireFault)
    → HasFault heads.for_head ended bytes fault × ShowsRefused heads bytes
    → HasFault heads.for_head ended (with_piece ended bytes piece) fault × ShowsRefused heads (with_piece ended bytes piece)
refused_more heads ended bytes piece fault is =
    (fault_more heads.for_head ended bytes piece fault is.0, shown_more heads ended bytes piece fault is.0 is.1)

-- ---- behind a step

-- what the step says of the bytes
pub record Steps (result : Result Advance WireFault) (heads : HeadsView) (held body bytes piece : List ℕ) : Type 0 where
  pub ok : IfOk result (λ step. AdvancesTo step.stage step.used heads held body bytes piece)
  pub err : IfErr result (λ fault. fault ≢ Memory → Refuses heads.for_head (bytes ++ piece) fault × ShowsRefused heads (bytes ++ piece))

fed_at : (stage : Stage) (used : ℕ) (heads : HeadsView) (held body bytes piece : List ℕ) → AdvancesTo stage used heads held body bytes piece
    → FedAt stage heads held body false (bytes ++ piece)
fed_at stages.Head used heads held body bytes piece is = is
fed_at (stages.Body place) used heads held body bytes piece is = is
fed_at stages.Whole used heads held body bytes piece is = (length bytes + used, is.1, inl is.2, is.3)
fed_at (stages.Refused fault) used heads held body bytes piece is = absurd is

pub step_fed : (result : Result Advance WireFault) (heads : HeadsView) (held body bytes piece : List ℕ) → Steps result heads held body bytes piece
    → FedAt (stage_behind result) heads held body false (bytes ++ piece)
step_fed (Ok step) heads held body bytes piece is = fed_at step.stage step.used heads held body bytes piece is.ok
step_fed (Err fault) heads held body bytes piece is = λ other. let both = is.err other in (inl both.0, both.1)

answer_at : (stage : Stage) (used : ℕ) (heads : HeadsView) (held body bytes piece : List ℕ) (reader : ReaderView) → reader.heads ≡ heads → reader.body ≡ body
    → AdvancesTo stage used heads held body bytes piece → FeedAnswers (Ok (feed_at stage used)) reader false (length bytes) (bytes ++ piece)
answer_at stages.Head used heads held body bytes piece reader same same_body is =
    let P : HeadsView → Type 0 = λ h. IsOpen h.for_head (bytes ++ piece) in
    (refl, subst P (sym same) (open_head heads (bytes ++ piece) is.1))
answer_at (stages.Body place) used heads held body bytes piece reader same same_body is =
    let P : HeadsView → Type 0 = λ h. IsOpen h.for_head (bytes ++ piece) in
    (refl, subst P (sym same) (open_body place heads held body (bytes ++ piece) is.1))
answer_at stages.Whole used heads held body bytes piece reader same same_body is =
    let P : HeadsView → Type 0 = λ h. IsWhole h.for_head false (bytes ++ piece) (length bytes + used) is.1 in
    let Q : HeadsView → Type 0 = λ h. ShowsResponse h body is.1 in
    let R : List ℕ → Type 0 = λ b. ShowsResponse reader.heads b is.1 in
    (length bytes + used, is.1, subst P (sym same) (inl is.2), subst R (sym same_body) (subst Q (sym same) is.3), omega arith)
answer_at (stages.Refused fault) used heads held body bytes piece reader same same_body is = absurd is

pub step_answer : (result : Result Advance WireFault) (heads : HeadsView) (held body bytes piece : List ℕ) (reader : ReaderView) → reader.heads ≡ heads
    → reader.body ≡ body → Steps result heads held body bytes piece → FeedAnswers (feed_of result) reader false (length bytes) (bytes ++ piece)
step_answer (Ok step) heads held body bytes piece reader same same_body is = answer_at step.stage step.used heads held body bytes piece reader same same_body is.ok
step_answer (Err fault) heads held body bytes piece reader same same_body is =
    let P : HeadsView → Type 0 = λ h. HasFault h.for_head false (bytes ++ piece) fault × ShowsRefused h (bytes ++ piece) in
    λ other. let both = is.err other in subst P (sym same) (inl both.0, both.1)

-- ---- the steps of a head and of a body

pub head_steps : (result : Result Advance WireFault) (old heads : HeadsView) (held body bytes piece : List ℕ) → heads.for_head ≡ old.for_head
    → IfOk result (λ step. (bytes : List ℕ) → InHead old bytes → AdvancesTo step.stage step.used heads held body bytes piece)
    → IfErr result (λ fault. fault ≢ Memory → (bytes : List ℕ) → InHead old bytes → Refuses old.for_head (bytes ++ piece) fault)
    → IfErr result (λ fault. fault ≢ Memory → (bytes : List ℕ) → InHead old bytes → ShowsRefused heads (bytes ++ piece))
    → InHead old bytes → Steps result heads held body bytes piece
head_steps (Ok step) old heads held body bytes piece same ok err shown is = record { ok = ok bytes is; err = tt }
head_steps (Err fault) old heads held body bytes piece same ok err shown is =
    let P : Bool → Type 0 = λ b. Refuses b (bytes ++ piece) fault in
    record { ok = tt; err = λ other. (subst P (sym same) (err other bytes is), shown other bytes is) }

pub body_steps : (result : Result Advance WireFault) (place : BodyPlace) (heads : HeadsView) (old_held old_body held body bytes piece : List ℕ)
    → IfOk result (λ step. (heads : HeadsView) (framing : Follows) (front text : List ℕ) → BehindHead heads framing front
    → BodyStands framing place old_held old_body text → AdvancesTo step.stage step.used heads held body (front ++ text) piece)
    → IfErr result (λ fault. fault ≢ Memory → (heads : HeadsView) (framing : Follows) (front text : List ℕ) → BehindHead heads framing front
    → BodyStands framing place old_held old_body text → Refuses heads.for_head ((front ++ text) ++ piece) fault)
    → InBody place heads old_held old_body bytes → Steps result heads held body bytes piece
body_steps (Ok step) place heads old_held old_body held body bytes piece ok err is =
    let P : List ℕ → Type 0 = λ t. AdvancesTo step.stage step.used heads held body t piece in
    record { ok = subst P (sym is.bytes_are) (ok heads is.framing is.front is.text is.behind is.stands); err = tt }
body_steps (Err fault) place heads old_held old_body held body bytes piece ok err is =
    let P : List ℕ → Type 0 = λ t. Refuses heads.for_head (t ++ piece) fault in
    record {
      ok = tt;
      err = λ other. (
        subst P (sym is.bytes_are) (err other heads is.framing is.front is.text is.behind is.stands),
        body_shown place heads old_held old_body bytes piece is,
      );
    }

-- the same, where the peer didn't end
pub fed_more : (stage : Stage) (heads : HeadsView) (held body : List ℕ) (ended : Bool) (bytes piece : List ℕ) → ended ≡ false
    → FedAt stage heads held body false (bytes ++ piece) → FedAt stage heads held body ended (with_piece ended bytes piece)
fed_more stage heads held body ended bytes piece is fed =
    let P : Bool → Type 0 = λ e. FedAt stage heads held body e (with_piece e bytes piece) in
    subst P (sym is) fed

pub answer_more : (result : Result Feed WireFault) (reader : ReaderView) (ended : Bool) (before : ℕ) (bytes piece : List ℕ) → ended ≡ false
    → FeedAnswers result reader false before (bytes ++ piece) → FeedAnswers result reader ended before (with_piece ended bytes piece)
answer_more result reader ended before bytes piece is answer =
    let P : Bool → Type 0 = λ e. FeedAnswers result reader e before (with_piece e bytes piece) in
    subst P (sym is) answer

-- ---- where the peer ends

whole_ended : (for_head ended : Bool) (bytes : List ℕ) (used : ℕ) (response : Response) → IsWhole for_head ended bytes used response
    → IsWhole for_head true bytes used response
whole_ended for_head ended bytes used response (inl begins) = inl begins
whole_ended for_head ended bytes used response (inr ends) = inr (refl, ends.1, ends.2)

pub whole_end : (heads : HeadsView) (held body : List ℕ) (ended : Bool) (bytes : List ℕ) → FedAt stages.Whole heads held body ended bytes
    → FedAt stages.Whole heads held body true bytes
whole_end heads held body ended bytes is = (is.0, is.1, whole_ended heads.for_head ended bytes is.0 is.1 is.2, is.3)

fault_end : (for_head ended : Bool) (bytes : List ℕ) (fault : WireFault) → HasFault for_head ended bytes fault → HasFault for_head true bytes fault
fault_end for_head ended bytes fault (inl refuses) = inl refuses
fault_end for_head ended bytes fault (inr cut) = inr (cut.0, refl, cut.2)

pub refused_end : (heads : HeadsView) (ended : Bool) (bytes : List ℕ) (fault : WireFault)
    → HasFault heads.for_head ended bytes fault × ShowsRefused heads bytes → HasFault heads.for_head true bytes fault × ShowsRefused heads bytes
refused_end heads ended bytes fault is = (fault_end heads.for_head ended bytes fault is.0, is.1)

pub cut_in_head : (heads : HeadsView) (held body : List ℕ) (ended : Bool) (bytes : List ℕ) → FedAt stages.Head heads held body ended bytes
    → HasFault heads.for_head true bytes CutShort × ShowsRefused heads bytes
cut_in_head heads held body ended bytes is = (inr (refl, refl, cut_head heads bytes is.1), head_shown heads bytes is.1)

pub cut_in_body : (place : BodyPlace) (heads : HeadsView) (held body : List ℕ) (ended : Bool) (bytes : List ℕ) → place ≢ places.Close
    → FedAt (stages.Body place) heads held body ended bytes → HasFault heads.for_head true bytes CutShort × ShowsRefused heads bytes
cut_in_body place heads held body ended bytes other is =
    (inr (refl, refl, cut_body place heads held body bytes other is.1), cut_shown place heads held body bytes is.1)

-- a body that ends with the close is whole
close_ends : (heads : HeadsView) (held body bytes : List ℕ) → InBody places.Close heads held body bytes
    → IsResponse heads.for_head true bytes (record { status = heads.status; headers = heads.headers; body = body })
close_ends heads held body bytes is =
    let b = is.behind in
    let s = is.stands in
    record {
      interims = b.before;
      final = b.final;
      framing = is.framing;
      text = is.text;
      before = b.form;
      head = b.final_form;
      framed = b.framed;
      bytes_are = is.bytes_are ∙ behind_heads heads is.framing is.front is.text b;
      body = close_body is.framing is.text body s.framed s.short s.body_is;
      status = b.status;
      headers = b.headers;
    }
  where
    close_body : (framing : Follows) (text body : List ℕ) → framing ≡ Close → length text ≤ 16777216 → body ≡ text → IsBody framing true text body
    close_body framing text body same short is =
        let P : Follows → Type 0 = λ f. IsBody f true text body in
        subst P (sym same) (refl, short, is)

pub ended_body : (place : BodyPlace) (heads : HeadsView) (held body : List ℕ) (ended : Bool) (bytes : List ℕ) → place ≡ places.Close
    → FedAt (stages.Body place) heads held body ended bytes → FedAt stages.Whole heads held body true bytes
ended_body place heads held body ended bytes same is =
    let P : BodyPlace → Type 0 = λ p. InBody p heads held body bytes in (
      length bytes,
      record { status = heads.status; headers = heads.headers; body = body },
      inr (refl, refl, close_ends heads held body bytes (subst P same is.1)),
      record { status = refl; headers = refl; body_is = refl },
    )

-- ---- what is fed behind a step

abbrev HeadOk : Result Advance WireFault → HeadsView → HeadsView → List ℕ → List ℕ → List ℕ → Type 0
HeadOk result old heads held body piece =
    IfOk result (λ step. (bytes : List ℕ) → InHead old bytes → AdvancesTo step.stage step.used heads held body bytes piece)

abbrev HeadErr : Result Advance WireFault → HeadsView → List ℕ → Type 0
HeadErr result old piece = IfErr result (λ fault. fault ≢ Memory → (bytes : List ℕ) → InHead old bytes → Refuses old.for_head (bytes ++ piece) fault)

abbrev HeadShown : Result Advance WireFault → HeadsView → HeadsView → List ℕ → Type 0
HeadShown result old heads piece =
    IfErr result (λ fault. fault ≢ Memory → (bytes : List ℕ) → InHead old bytes → ShowsRefused heads (bytes ++ piece))

abbrev BodyOk : Result Advance WireFault → BodyPlace → List ℕ → List ℕ → List ℕ → List ℕ → List ℕ → Type 0
BodyOk result place old_held old_body held body piece =
    IfOk result (λ step. (heads : HeadsView) (framing : Follows) (front text : List ℕ) → BehindHead heads framing front
    → BodyStands framing place old_held old_body text → AdvancesTo step.stage step.used heads held body (front ++ text) piece)

abbrev BodyErr : Result Advance WireFault → BodyPlace → List ℕ → List ℕ → List ℕ → Type 0
BodyErr result place old_held old_body piece =
    IfErr result (λ fault. fault ≢ Memory → (heads : HeadsView) (framing : Follows) (front text : List ℕ) → BehindHead heads framing front
    → BodyStands framing place old_held old_body text → Refuses heads.for_head ((front ++ text) ++ piece) fault)

pub head_fed : (result : Result Advance WireFault) (stage : Stage) (old heads : HeadsView) (old_held old_body held body : List ℕ) (ended : Bool) (bytes piece : List ℕ)
    → stage ≡ stage_behind result → heads.for_head ≡ old.for_head → HeadOk result old heads held body piece → HeadErr result old piece
    → HeadShown result old heads piece → FedAt stages.Head old old_held old_body ended bytes → FedAt stage heads held body ended (with_piece ended bytes piece)
head_fed result stage old heads old_held old_body held body ended bytes piece stage_is same ok err shown is =
    let P : Stage → Type 0 = λ s. FedAt s heads held body ended (with_piece ended bytes piece) in
    subst P (sym stage_is)
    (fed_more (stage_behind result) heads held body ended bytes piece is.0
    (step_fed result heads held body bytes piece (head_steps result old heads held body bytes piece same ok err shown is.1)))

pub head_answer : (result : Result Advance WireFault) (feed : Result Feed WireFault) (reader : ReaderView) (old : HeadsView) (old_held old_body : List ℕ) (ended : Bool)
    (bytes piece : List ℕ) → feed ≡ feed_of result → reader.heads.for_head ≡ old.for_head → HeadOk result old reader.heads reader.held reader.body piece → HeadErr result old piece
    → HeadShown result old reader.heads piece → FedAt stages.Head old old_held old_body ended bytes → FeedAnswers feed reader ended (length bytes) (with_piece ended bytes piece)
head_answer result feed reader old old_held old_body ended bytes piece feed_is same ok err shown is =
    let P : Result Feed WireFault → Type 0 = λ r. FeedAnswers r reader ended (length bytes) (with_piece ended bytes piece) in
    subst P (sym feed_is)
    (answer_more (feed_of result) reader ended (length bytes) bytes piece is.0
    (step_answer result reader.heads reader.held reader.body bytes piece reader refl refl
    (head_steps result old reader.heads reader.held reader.body bytes piece same ok err shown is.1)))

pub body_fed : (result : Result Advance WireFault) (stage : Stage) (place : BodyPlace) (heads : HeadsView) (old_held old_body held body : List ℕ) (ended : Bool)
    (bytes piece : List ℕ) → stage ≡ stage_behind result → BodyOk result place old_held old_body held body piece
    → BodyErr result place old_held old_body piece → FedAt (stages.Body place) heads old_held old_body ended bytes
    → FedAt stage heads held body ended (with_piece ended bytes piece)
body_fed result stage place heads old_held old_body held body ended bytes piece stage_is ok err is =
    let P : Stage → Type 0 = λ s. FedAt s heads held body ended (with_piece ended bytes piece) in
    subst P (sym stage_is)
    (fed_more (stage_behind result) heads held body ended bytes piece is.0
    (step_fed result heads held body bytes piece (body_steps result place heads old_held old_body held body bytes piece ok err is.1)))

pub body_answer : (result : Result Advance WireFault) (feed : Result Feed WireFault) (reader : ReaderView) (place : BodyPlace) (old_held old_body : List ℕ) (ended : Bool)
    (bytes piece : List ℕ) → feed ≡ feed_of result → BodyOk result place old_held old_body reader.held reader.body piece
    → BodyErr result place old_held old_body piece → FedAt (stages.Body place) reader.heads old_held old_body ended bytes
    → FeedAnswers feed reader ended (length bytes) (with_piece ended bytes piece)
body_answer result feed reader place old_held old_body ended bytes piece feed_is ok err is =
    let P : Result Feed WireFault → Type 0 = λ r. FeedAnswers r reader ended (length bytes) (with_piece ended bytes piece) in
    subst P (sym feed_is)
    (answer_more (feed_of result) reader ended (length bytes) bytes piece is.0
    (step_answer result reader.heads reader.held reader.body bytes piece reader refl refl
    (body_steps result place reader.heads old_held old_body reader.held reader.body bytes piece ok err is.1)))
