use Rattle.std.proofs.Common.{◌∙◌, Some, ap, subst, sym}
use Rattle.ld_outside.specs.MemShelf.{IsPlace}
use Rattle.ld_outside.proofs.FileLemmas.{file_here}
use Rattle.ld_outside.proofs.kept_files.find_file.Goals as goal

pub returns-clause-some : goal.returns-clause-some
returns-clause-some c =
    let place = subst (λ name. IsPlace name c.args.files.now c.in_ok-at.at) c.as_bytes.ensures.value c.in_ok-at.ensures.some in
    file_here c.args.name.now c.args.files.now c.in_ok-at.at c.index-files-at.result place c.index-files-at.is
    ∙ ap (λ file. Some file.1) c.index-files-at.is ∙ ap (λ bytes. Some bytes) (sym c.as_slice.ensures)
