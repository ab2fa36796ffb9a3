use Rattle.std.proofs.Common.{rules, ◌≡◌, ◌∙◌, ◌++◌, ◌∷◌, [], sym, subst}
use Rattle.ld_script.specs.Names.{AreNames}
use Rattle.ld_script.proofs.NamesLemmas.{names_more, named_last, noted_new, noted_there, stands_at}
use Rattle.ld_script.proofs.names.Names.note.Goals as goal

pub invariant_of-self-2 : goal.invariant_of-self-2
invariant_of-self-2 c =
    let pushed : c.push.new.self.items ≡ c.self.inside.specs.items ++ c.args.spec ∷ [] = search rules in
    subst AreNames
    (sym (named_last c.args.self.now c.self.inside.texts.keys c.insert_full.new.self.keys c.in_ok-text.text c.self.inside.specs.items c.push.new.self.items c.args.name.now c.args.spec
    c.self.view_is c.in_default.ensures c.in_ok-text.ensures.ok c.in-Ok.ensures.keys pushed))
    (names_more c.args.self.now c.args.name.now c.args.spec (subst AreNames c.self.view_is c.self.invariant) c.in_default.ensures (c.requires c.in_default.ensures))

pub returns-clause-number : goal.returns-clause-number
returns-clause-number c =
    let stored = c.in-Ok.ensures.stored in
    stands_at c.insert_full.new.self.keys c.in-Ok.at c.in_ok-text.text stored.0 c.args.name.now c.in_ok-text.ensures.ok stored.1 stored.2

pub returns-clause-names : goal.returns-clause-names
returns-clause-names c =
    let pushed : c.push.new.self.items ≡ c.self.inside.specs.items ++ c.args.spec ∷ [] = search rules in
    named_last c.args.self.now c.self.inside.texts.keys c.insert_full.new.self.keys c.in_ok-text.text c.self.inside.specs.items c.push.new.self.items c.args.name.now c.args.spec
    c.self.view_is c.in_default.ensures c.in_ok-text.ensures.ok c.in-Ok.ensures.keys pushed
    ∙ sym (noted_new c.args.self.now c.args.name.now c.args.spec c.in_default.ensures)

pub returns-in-Some-clause-names : goal.returns-in-Some-clause-names
returns-in-Some-clause-names c = noted_there c.args.self.now c.args.name.now c.args.spec c.in-Some.at c.in-Some.ensures
