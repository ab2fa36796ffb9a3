use Rattle.std.proofs.Common.{◌∙◌, map, string_bytes, sym, subst}
use Rattle.ld_script.specs.Names.{AreNames}
use Rattle.ld_script.proofs.NamesLemmas.{same_bytes, same_names}
use Rattle.ld_script.proofs.names.Names.copy.Goals as goal

pub invariant_of-result : goal.invariant_of-result
invariant_of-result c =
    subst AreNames
    (sym (same_names (map string_bytes c.in_ok-texts.texts.keys) (map string_bytes c.self.inside.texts.keys) c.in_ok-specs.specs.items c.self.inside.specs.items
    (same_bytes c.self.inside.texts.keys c.in_ok-texts.texts.keys c.in_ok-texts.ensures.cases)
    (c.in_ok-specs.ensures.items ∙ c.as_slice.ensures.value)))
    c.self.invariant

pub returns-clause-value : goal.returns-clause-value
returns-clause-value c =
    same_names (map string_bytes c.in_ok-texts.texts.keys) (map string_bytes c.self.inside.texts.keys) c.in_ok-specs.specs.items c.self.inside.specs.items
    (same_bytes c.self.inside.texts.keys c.in_ok-texts.texts.keys c.in_ok-texts.ensures.cases)
    (c.in_ok-specs.ensures.items ∙ c.as_slice.ensures.value)
    ∙ c.self.view_is
