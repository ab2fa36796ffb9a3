use Rattle.std.proofs.Common.{rules, ◌≡◌, ◌≢◌, ℕ, true, subst}
use Rattle.ld_wire.specs.Heads.{ShowsRefused, heads_view}
use Rattle.ld_wire.specs.Reader.{FedAt, HasFault, ShowsResponse, IsWhole}
use Rattle.ld_wire.specs.ReaderView.{ReaderView}
use Rattle.ld_wire.specs.Response.{Response}
use Rattle.ld_wire.specs.declared.body_place.BodyPlace.TheVariants as places
use Rattle.ld_wire.specs.declared.stage.Stage.{Stage}
use Rattle.ld_wire.specs.declared.stage.Stage.TheVariants as stages
use Rattle.ld_wire.proofs.ReaderLemmas.{cut_in_body, cut_in_head, ended_body, refused_end, fed_inside, fed_outside, whole_end}
use Rattle.ld_wire.proofs.reader.ResponseReader.end.Goals as goal

pub invariant_of-self : goal.invariant_of-self
invariant_of-self c =
    let i = c.self.inside in
    let k = c.self.invariant in
    let P : Stage → Type 0 = λ at. FedAt at (heads_view i.heads) i.held.items i.body.items k.ended k.bytes in
    record {
      room = k.room;
      ended = true;
      bytes = k.bytes;
      fed = λ other. cut_in_head (heads_view i.heads) i.held.items i.body.items k.ended k.bytes (subst P c.in-Head.is k.fed);
    }

pub invariant_of-self-then-eq : goal.invariant_of-self-then-eq
invariant_of-self-then-eq c =
    let i = c.self.inside in
    let k = c.self.invariant in
    let place = c.in-Body.place in
    let close : place ≡ places.Close = search rules in
    let P : Stage → Type 0 = λ at. FedAt at (heads_view i.heads) i.held.items i.body.items k.ended k.bytes in
    record {
      room = k.room;
      ended = true;
      bytes = k.bytes;
      fed = ended_body place (heads_view i.heads) i.held.items i.body.items k.ended k.bytes close (subst P c.in-Body.is k.fed);
    }

pub invariant_of-self-in-Body : goal.invariant_of-self-in-Body
invariant_of-self-in-Body c =
    let i = c.self.inside in
    let k = c.self.invariant in
    let place = c.in-Body.place in
    let other : place ≢ places.Close = search rules in
    let P : Stage → Type 0 = λ at. FedAt at (heads_view i.heads) i.held.items i.body.items k.ended k.bytes in
    record {
      room = k.room;
      ended = true;
      bytes = k.bytes;
      fed = λ _. cut_in_body place (heads_view i.heads) i.held.items i.body.items k.ended k.bytes other (subst P c.in-Body.is k.fed);
    }

pub returns-in-Refused-clause-fed : goal.returns-in-Refused-clause-fed
returns-in-Refused-clause-fed c ended bytes fed =
    let view = c.args.self.now in
    let i = c.self.inside in
    let at = stages.Refused c.in-Refused.fault in
    let is = fed_inside view i.heads i.stage at i.held.items i.body.items ended bytes c.self.view_is c.in-Refused.is fed in
    fed_outside view i.heads i.stage at i.held.items i.body.items true bytes c.self.view_is c.in-Refused.is
    (λ other. refused_end (heads_view i.heads) ended bytes c.in-Refused.fault (is other))

pub returns-in-Refused-clause-answer : goal.returns-in-Refused-clause-answer
returns-in-Refused-clause-answer c ended bytes fed other =
    let view = c.args.self.now in
    let i = c.self.inside in
    let at = stages.Refused c.in-Refused.fault in
    let is = fed_inside view i.heads i.stage at i.held.items i.body.items ended bytes c.self.view_is c.in-Refused.is fed in
    let P : ReaderView → Type 0 = λ v. HasFault v.heads.for_head true bytes c.in-Refused.fault × ShowsRefused v.heads bytes in
    subst P c.self.view_is (refused_end (heads_view i.heads) ended bytes c.in-Refused.fault (is other))

pub returns-in-Whole-clause-fed : goal.returns-in-Whole-clause-fed
returns-in-Whole-clause-fed c ended bytes fed =
    let view = c.args.self.now in
    let i = c.self.inside in
    let is = fed_inside view i.heads i.stage stages.Whole i.held.items i.body.items ended bytes c.self.view_is c.in-Whole.is fed in
    fed_outside view i.heads i.stage stages.Whole i.held.items i.body.items true bytes c.self.view_is c.in-Whole.is
    (whole_end (heads_view i.heads) i.held.items i.body.items ended bytes is)

pub returns-in-Whole-clause-answer : goal.returns-in-Whole-clause-answer
returns-in-Whole-clause-answer c ended bytes fed =
    let view = c.args.self.now in
    let i = c.self.inside in
    let is = fed_inside view i.heads i.stage stages.Whole i.held.items i.body.items ended bytes c.self.view_is c.in-Whole.is fed in
    let P : ReaderView → Type 0 = λ v. (whole : ℕ) × (response : Response)
    × IsWhole v.heads.for_head true bytes whole response × ShowsResponse v.heads v.body response in
    subst P c.self.view_is (whole_end (heads_view i.heads) i.held.items i.body.items ended bytes is)

pub returns-in-Head-clause-fed : goal.returns-in-Head-clause-fed
returns-in-Head-clause-fed c ended bytes fed other =
    let i = c.self.inside in
    cut_in_head (heads_view i.heads) i.held.items i.body.items ended bytes
    (fed_inside c.args.self.now i.heads i.stage stages.Head i.held.items i.body.items ended bytes c.self.view_is c.in-Head.is fed)

pub returns-in-Head-clause-answer : goal.returns-in-Head-clause-answer
returns-in-Head-clause-answer c ended bytes fed other =
    let i = c.self.inside in
    cut_in_head (heads_view i.heads) i.held.items i.body.items ended bytes
    (fed_inside c.args.self.now i.heads i.stage stages.Head i.held.items i.body.items ended bytes c.self.view_is c.in-Head.is fed)

pub returns-then-eq-clause-fed : goal.returns-then-eq-clause-fed
returns-then-eq-clause-fed c ended bytes fed =
    let i = c.self.inside in
    let place = c.in-Body.place in
    let close : place ≡ places.Close = search rules in
    ended_body place (heads_view i.heads) i.held.items i.body.items ended bytes close
    (fed_inside c.args.self.now i.heads i.stage (stages.Body place) i.held.items i.body.items ended bytes c.self.view_is c.in-Body.is fed)

pub returns-then-eq-clause-answer : goal.returns-then-eq-clause-answer
returns-then-eq-clause-answer c ended bytes fed =
    let i = c.self.inside in
    let place = c.in-Body.place in
    let close : place ≡ places.Close = search rules in
    ended_body place (heads_view i.heads) i.held.items i.body.items ended bytes close
    (fed_inside c.args.self.now i.heads i.stage (stages.Body place) i.held.items i.body.items ended bytes c.self.view_is c.in-Body.is fed)

pub returns-else-eq-clause-fed : goal.returns-else-eq-clause-fed
returns-else-eq-clause-fed c ended bytes fed cut =
    let i = c.self.inside in
    let place = c.in-Body.place in
    let other : place ≢ places.Close = search rules in
    cut_in_body place (heads_view i.heads) i.held.items i.body.items ended bytes other
    (fed_inside c.args.self.now i.heads i.stage (stages.Body place) i.held.items i.body.items ended bytes c.self.view_is c.in-Body.is fed)

pub returns-else-eq-clause-answer : goal.returns-else-eq-clause-answer
returns-else-eq-clause-answer c ended bytes fed cut =
    let i = c.self.inside in
    let place = c.in-Body.place in
    let other : place ≢ places.Close = search rules in
    cut_in_body place (heads_view i.heads) i.held.items i.body.items ended bytes other
    (fed_inside c.args.self.now i.heads i.stage (stages.Body place) i.held.items i.body.items ended bytes c.self.view_is c.in-Body.is fed)
