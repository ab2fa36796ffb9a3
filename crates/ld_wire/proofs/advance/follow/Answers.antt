use Rattle.std.proofs.Common.{◌++◌, sym, subst}
use Rattle.ld_wire.specs.Reader.{AdvancesTo}
use Rattle.ld_wire.specs.declared.stage.Stage.{Stage}
use Rattle.ld_wire.proofs.AdvanceLemmas.{advances, body_refused}
use Rattle.ld_wire.proofs.advance.follow.Goals as goal

pub returns-in-Ok-clause-ok : goal.returns-in-Ok-clause-ok
returns-in-Ok-clause-ok c heads framing front text is stands =
    let step = c.in-Ok.step in
    let held = c.take_body.new.held.items in
    let body = c.take_body.new.body.items in
    let takes = c.in-Ok.ensures.ok framing text stands in
    let P : Stage → Type 0 = λ s. AdvancesTo s step.used heads held body (front ++ text) c.args.piece.now in
    subst P (sym c.stage_of.ensures)
    (advances heads framing step.used step.place held body front text c.args.piece.now is takes.inside takes.all takes.stands)

pub returns-in-Err-clause-err : goal.returns-in-Err-clause-err
returns-in-Err-clause-err c other heads framing front text is stands =
    body_refused heads framing front text c.args.piece.now c.in-Err.fault is (c.in-Err.ensures.err other framing text stands)
