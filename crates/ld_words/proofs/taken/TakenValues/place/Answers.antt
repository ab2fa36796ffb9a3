use Rattle.std.proofs.Common.{◌≡◌, ◌∙◌, ap, ltb-true, refl, sym, Some}
use Rattle.std.proofs.lemmas.Option.{slice_get_read}
use Rattle.std.specs.Prelude.{slice_get}
use Rattle.clap.specs.Matches.{found_of}
use Rattle.clap.specs.Walk.{rows_of}
use Rattle.clap.proofs.WalkLemmas.{first_value-rows}
use Rattle.ld_words.specs.Taken.{text_at}
use Rattle.ld_words.proofs.ParsedLemmas.{place_read}
use Rattle.ld_words.proofs.taken.TakenValues.place.Goals as goal

pub returns : goal.returns
returns c =
    let found = found_of c.self.inside.matches in
    let at : slice_get c.place_names.result.now c.args.place ≡ Some c.in_ok-get.field-0.now =
    slice_get_read c.place_names.result.now _ c.args.place c.in_ok-get.field-0.now refl (ltb-true _ _ (sym c.in_ok-get.ensures.lookup.0)) c.in_ok-get.ensures.lookup.1 in
    c.get_str.ensures ∙ first_value-rows found _ ∙ sym (place_read (rows_of found) c.place_names.result.now c.args.place c.in_ok-get.field-0.now c.place_names.ensures at)
    ∙ ap (text_at c.args.place) c.self.view_is
