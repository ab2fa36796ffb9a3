use Rattle.std.proofs.Common.{◌≡◌, ◌-◌, ℕ, length, subst}
use Rattle.ld_wire.specs.Heads.{ShowsRefused, heads_view}
use Rattle.ld_wire.specs.Kept.{reader_view}
use Rattle.ld_wire.specs.Reader.{FedAt, HasFault, ShowsResponse, IsWhole, with_piece}
use Rattle.ld_wire.specs.ReaderView.{ReaderView}
use Rattle.ld_wire.specs.Response.{Response}
use Rattle.ld_wire.specs.declared.stage.Stage.{Stage}
use Rattle.ld_wire.specs.declared.stage.Stage.TheVariants as stages
use Rattle.ld_wire.proofs.ReaderLemmas.{body_answer, body_fed, refused_more, fed_inside, fed_outside, head_answer, head_fed, whole_again, whole_stays}
use Rattle.ld_wire.proofs.reader.ResponseReader.feed.Goals as goal

pub returns-in-Refused-clause-fed : goal.returns-in-Refused-clause-fed
returns-in-Refused-clause-fed c ended bytes fed =
    let view = c.args.self.now in
    let i = c.self.inside in
    let at = stages.Refused c.in-Refused.fault in
    let is = fed_inside view i.heads i.stage at i.held.items i.body.items ended bytes c.self.view_is c.in-Refused.is fed in
    fed_outside view i.heads i.stage at i.held.items i.body.items ended (with_piece ended bytes c.args.piece.now) c.self.view_is c.in-Refused.is
    (λ other. refused_more (heads_view i.heads) ended bytes c.args.piece.now c.in-Refused.fault (is other))

pub returns-in-Refused-clause-answer : goal.returns-in-Refused-clause-answer
returns-in-Refused-clause-answer c ended bytes fed other =
    let view = c.args.self.now in
    let i = c.self.inside in
    let at = stages.Refused c.in-Refused.fault in
    let is = fed_inside view i.heads i.stage at i.held.items i.body.items ended bytes c.self.view_is c.in-Refused.is fed in
    let P : ReaderView → Type 0 = λ v. HasFault v.heads.for_head ended (with_piece ended bytes c.args.piece.now) c.in-Refused.fault
    × ShowsRefused v.heads (with_piece ended bytes c.args.piece.now) in
    subst P c.self.view_is (refused_more (heads_view i.heads) ended bytes c.args.piece.now c.in-Refused.fault (is other))

pub returns-in-Whole-clause-fed : goal.returns-in-Whole-clause-fed
returns-in-Whole-clause-fed c ended bytes fed =
    let view = c.args.self.now in
    let i = c.self.inside in
    let is = fed_inside view i.heads i.stage stages.Whole i.held.items i.body.items ended bytes c.self.view_is c.in-Whole.is fed in
    fed_outside view i.heads i.stage stages.Whole i.held.items i.body.items ended (with_piece ended bytes c.args.piece.now) c.self.view_is c.in-Whole.is
    (whole_stays (heads_view i.heads) i.held.items i.body.items ended bytes c.args.piece.now is)

pub returns-in-Whole-clause-answer : goal.returns-in-Whole-clause-answer
returns-in-Whole-clause-answer c ended bytes fed =
    let view = c.args.self.now in
    let i = c.self.inside in
    let is = fed_inside view i.heads i.stage stages.Whole i.held.items i.body.items ended bytes c.self.view_is c.in-Whole.is fed in
    let P : ReaderView → Type 0 = λ v. (whole : ℕ) × (response : Response)
    × IsWhole v.heads.for_head ended (with_piece ended bytes c.args.piece.now) whole response
    × ShowsResponse v.heads v.body response × (0 ≡ whole - length bytes) in
    subst P c.self.view_is (whole_again (heads_view i.heads) i.held.items i.body.items ended bytes c.args.piece.now is)

pub returns-in-Head-clause-fed : goal.returns-in-Head-clause-fed
returns-in-Head-clause-fed c ended bytes fed =
    let i = c.self.inside in
    let s = c.start-step in
    let is = fed_inside c.args.self.now i.heads i.stage stages.Head i.held.items i.body.items ended bytes c.self.view_is c.in-Head.is fed in
    head_fed s.result c.stage_behind-self-inside.result (heads_view i.heads) (heads_view s.new.heads) i.held.items i.body.items s.new.held.items s.new.body.items
    ended bytes c.args.piece.now c.stage_behind-self-inside.ensures s.ensures.same s.ensures.ok s.ensures.err s.ensures.shown is

pub returns-in-Head-clause-answer : goal.returns-in-Head-clause-answer
returns-in-Head-clause-answer c ended bytes fed =
    let i = c.self.inside in
    let s = c.start-step in
    let is = fed_inside c.args.self.now i.heads i.stage stages.Head i.held.items i.body.items ended bytes c.self.view_is c.in-Head.is fed in
    let reader = reader_view s.new.heads c.stage_behind-self-inside.result s.new.held.items s.new.body.items in
    head_answer s.result c.feed_of.result reader (heads_view i.heads) i.held.items i.body.items
    ended bytes c.args.piece.now c.feed_of.ensures s.ensures.same s.ensures.ok s.ensures.err s.ensures.shown is

pub returns-in-Body-clause-fed : goal.returns-in-Body-clause-fed
returns-in-Body-clause-fed c ended bytes fed =
    let i = c.self.inside in
    let s = c.follow-step in
    let place = c.in-Body.place in
    let is = fed_inside c.args.self.now i.heads i.stage (stages.Body place) i.held.items i.body.items ended bytes c.self.view_is c.in-Body.is fed in
    body_fed s.result c.stage_behind-self-inside-in-Body.result place (heads_view i.heads) i.held.items i.body.items s.new.held.items s.new.body.items
    ended bytes c.args.piece.now c.stage_behind-self-inside-in-Body.ensures s.ensures.ok s.ensures.err is

pub returns-in-Body-clause-answer : goal.returns-in-Body-clause-answer
returns-in-Body-clause-answer c ended bytes fed =
    let i = c.self.inside in
    let s = c.follow-step in
    let place = c.in-Body.place in
    let is = fed_inside c.args.self.now i.heads i.stage (stages.Body place) i.held.items i.body.items ended bytes c.self.view_is c.in-Body.is fed in
    let reader = reader_view i.heads c.stage_behind-self-inside-in-Body.result s.new.held.items s.new.body.items in
    body_answer s.result c.feed_of-in-Body.result reader place i.held.items i.body.items
    ended bytes c.args.piece.now c.feed_of-in-Body.ensures s.ensures.ok s.ensures.err is

pub invariant_of-self : goal.invariant_of-self
invariant_of-self c =
    let i = c.self.inside in
    let s = c.start-step in
    let k = c.self.invariant in
    let P : Stage → Type 0 = λ at. FedAt at (heads_view i.heads) i.held.items i.body.items k.ended k.bytes in
    record {
      room = s.ensures.room;
      ended = k.ended;
      bytes = with_piece k.ended k.bytes c.args.piece.now;
      fed = head_fed s.result c.stage_behind-self-inside.result (heads_view i.heads) (heads_view s.new.heads) i.held.items i.body.items s.new.held.items
          s.new.body.items k.ended k.bytes c.args.piece.now c.stage_behind-self-inside.ensures s.ensures.same s.ensures.ok s.ensures.err s.ensures.shown (subst P c.in-Head.is k.fed);
    }

pub invariant_of-self-in-Body : goal.invariant_of-self-in-Body
invariant_of-self-in-Body c =
    let i = c.self.inside in
    let s = c.follow-step in
    let k = c.self.invariant in
    let place = c.in-Body.place in
    let P : Stage → Type 0 = λ at. FedAt at (heads_view i.heads) i.held.items i.body.items k.ended k.bytes in
    record {
      room = k.room;
      ended = k.ended;
      bytes = with_piece k.ended k.bytes c.args.piece.now;
      fed = body_fed s.result c.stage_behind-self-inside-in-Body.result place (heads_view i.heads) i.held.items i.body.items s.new.held.items
          s.new.body.items k.ended k.bytes c.args.piece.now c.stage_behind-self-inside-in-Body.ensures s.ensures.ok s.ensures.err (subst P c.in-Body.is k.fed);
    }
