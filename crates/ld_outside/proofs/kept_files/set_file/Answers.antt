use Rattle.std.proofs.Common.{◌≡◌, ◌∙◌, ◌++◌, ◌∷◌, [], None, ap, subst}
use Rattle.std.specs.Prelude.{if◌then◌else◌, is_ok}
use Rattle.ld_outside.specs.MemShelf.{IsPlace}
use Rattle.ld_outside.specs.ShelfView.{file_of}
use Rattle.ld_outside.proofs.FileLemmas.{set_here, added}
use Rattle.ld_outside.proofs.kept_files.set_file.Goals as goal

pub returns-in-Some : goal.returns-in-Some
returns-in-Some c =
    let named = subst (λ name. IsPlace name c.deref.result.now c.in-Some.at) c.as_slice.ensures c.in-Some.ensures.some in
    let place = subst (λ files. IsPlace c.args.name files c.in-Some.at) c.deref.ensures.value named in
    set_here c.args.name c.args.bytes c.args.files.now.items c.in-Some.at c.index_mut.result.now place c.index_mut.ensures.value

pub returns-in-None : goal.returns-in-None
returns-in-None c =
    let files = c.args.files.now.items in
    let named = subst (λ name. file_of name c.deref.result.now ≡ None) c.as_slice.ensures c.in-None.ensures.none in
    let none = subst (λ files. file_of c.args.name files ≡ None) c.deref.ensures.value named in
    c.push.ensures.items
    ∙ ap (λ r. if is_ok r then files ++ (c.args.name, c.args.bytes) ∷ [] else files) c.unwrap.ensures
    ∙ added c.args.name c.args.bytes files none
