use Rattle.std.proofs.Common.{◌∙◌, ◌++◌, List, ap, ap₂, sym}
use Rattle.std.proofs.lemmas.List.{append_assoc}
use Rattle.ld_ramping.specs.declared.interval.Interval.{Interval}
use Rattle.ld_ramping.specs.Intervals.{spans}
use Rattle.ld_ramping.specs.Turns.{listed}
use Rattle.ld_ramping.proofs.SpanLemmas.{span_kept, span_left_out}
use Rattle.ld_ramping.proofs.ramp.turned.Goals as goal

pub returns-in_ok-push : goal.returns-in_ok-push
returns-in_ok-push c rest =
    let on = c.in-Some-since.on in
    let off = c.in-Some.moment in
    let found = c.args.found.now.items in
    let items = c.in_ok-push.ensures.items in
    ap₂ (λ since turn. found ++ spans (listed since ++ (listed turn ++ rest))) c.in-Some-since.is c.in-Some.is
    ∙ ap (λ (later : List _). found ++ later) (span_kept on off rest c.if-on-moment.true)
    ∙ sym (append_assoc found _ (spans rest))
    ∙ ap (λ (later : List Interval). later ++ spans rest) (sym items)

pub returns-else-on-moment : goal.returns-else-on-moment
returns-else-on-moment c rest =
    let found = c.args.found.now.items in
    ap₂ (λ since turn. found ++ spans (listed since ++ (listed turn ++ rest))) c.in-Some-since.is c.in-Some.is
    ∙ ap (λ (later : List _). found ++ later)
    (span_left_out c.in-Some-since.on c.in-Some.moment rest c.if-on-moment.false)
