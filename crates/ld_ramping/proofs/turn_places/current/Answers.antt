use Rattle.std.proofs.Common.{◌≡◌, ◌∙◌, ◌≤◌, ◌<◌, ap, sym, ltb-true, refl, rules, None, Some, slice_get}
use Rattle.std.proofs.lemmas.Bool.{le-leb, lt-leb}
use Rattle.std.proofs.lemmas.Option.{slice_get_past, slice_get_read}
use Rattle.ld_machine.specs.Moment.{moment_after}
use Rattle.ld_ramping.proofs.PlaceLemmas.{found_lying, lying}
use Rattle.ld_ramping.proofs.turn_places.current.Goals as goal

pub returns-in_err-interval : goal.returns-in_err-interval
returns-in_err-interval c =
    let there_is : slice_get c.args.intervals.now c.place.result ≡ None = slice_get_past c.args.intervals.now c.place.result (search rules) in
    c.from_residual.ensures
    ∙ sym (found_lying c.args.begin c.args.reading c.args.intervals.now c.place.result c.requires c.place.ensures
    ∙ ap (lying c.args.begin c.args.reading) there_is)

pub returns-then-saturating_add-reading : goal.returns-then-saturating_add-reading
returns-then-saturating_add-reading c =
    let there_is : slice_get c.args.intervals.now c.place.result ≡ Some c.in_ok-interval.field-0.now =
    slice_get_read c.args.intervals.now _ c.place.result c.in_ok-interval.field-0.now refl (ltb-true _ _ (sym c.in_ok-interval.ensures.lookup.0)) c.in_ok-interval.ensures.lookup.1 in
    let when : moment_after c.args.begin c.in_ok-interval.field-0.now.on ≤ c.args.reading = search rules in
    let is = found_lying c.args.begin c.args.reading c.args.intervals.now c.place.result c.requires c.place.ensures
    ∙ ap (lying c.args.begin c.args.reading) there_is in
    sym (rw (le-leb (moment_after c.args.begin c.in_ok-interval.field-0.now.on) c.args.reading when) at is)

pub returns-else-saturating_add-reading : goal.returns-else-saturating_add-reading
returns-else-saturating_add-reading c =
    let there_is : slice_get c.args.intervals.now c.place.result ≡ Some c.in_ok-interval.field-0.now =
    slice_get_read c.args.intervals.now _ c.place.result c.in_ok-interval.field-0.now refl (ltb-true _ _ (sym c.in_ok-interval.ensures.lookup.0)) c.in_ok-interval.ensures.lookup.1 in
    let when : c.args.reading < moment_after c.args.begin c.in_ok-interval.field-0.now.on = search rules in
    let is = found_lying c.args.begin c.args.reading c.args.intervals.now c.place.result c.requires c.place.ensures
    ∙ ap (lying c.args.begin c.args.reading) there_is in
    sym (rw (lt-leb (moment_after c.args.begin c.in_ok-interval.field-0.now.on) c.args.reading when) at is)
