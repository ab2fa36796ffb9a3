use Rattle.std.proofs.Common.{◌∙◌, Some, add-one, ap, sym, take}
use Rattle.std.specs.Prelude.{bytes_eq}
use Rattle.std.proofs.lemmas.Option.{slice_get-get_or}
use Rattle.ld_outside.proofs.FileLemmas.{pass_one}
use Rattle.ld_outside.specs.ShelfView.{file_of}
use Rattle.ld_outside.proofs.kept_files.place_of.Goals as goal

pub loop-at-preserved : goal.loop-at-preserved
loop-at-preserved c =
    let here = slice_get-get_or c.args.files.now c.loop-at.at c.index-files-at.result c.loop-at-test.true
    ∙ ap Some (sym c.index-files-at.is) in
    let other = ap (λ n. bytes_eq c.args.name.now n) (sym c.as_slice.ensures) ∙ sym c.eq.ensures ∙ c.if-eq.false in
    ap (λ n. file_of c.args.name.now (take n c.args.files.now)) (add-one c.loop-at.at)
    ∙ pass_one c.args.name.now c.args.files.now c.loop-at.at c.loop-at.invariant c.index-files-at.result here other
