use Rattle.std.proofs.Common.{◌≡◌, ◌∙◌, Some, slice_get, ap, sym, subst, is_some}
use Rattle.ld_script.specs.Name.{Lacks}
use Rattle.ld_script.specs.Names.{NamesView}
use Rattle.ld_script.proofs.NamesLemmas.{name_at, name_lacks}
use Rattle.ld_script.proofs.names.Names.find.Goals as goal

pub returns-in-Some : goal.returns-in-Some
returns-in-Some c =
    subst (λ (n : NamesView). slice_get n.texts c.in-Some.at ≡ Some c.args.name.now) c.self.view_is
    (name_at c.args.name.now c.self.inside.texts.keys c.in-Some.at (sym c.get_index_of.ensures.index ∙ c.in-Some.is))

pub returns-in-None : goal.returns-in-None
returns-in-None c =
    subst (λ (n : NamesView). Lacks n.texts c.args.name.now) c.self.view_is
    (name_lacks c.args.name.now c.self.inside.texts.keys (sym c.get_index_of.ensures.found ∙ ap is_some c.in-None.is))
