use Rattle.std.proofs.Common.{◌∙◌, ap}
use Rattle.ld_words.specs.OptionWords.{given_by}
use Rattle.ld_words.proofs.GivenLemmas.{given_by_more}
use Rattle.ld_words.proofs.OptionsLemmas.{is_found, name_begins_none, none_from_is_some, refused_value, refused_word, step_named}
use Rattle.ld_words.proofs.options.read_named.Goals as goal

pub returns-then-is_some : goal.returns-then-is_some
returns-then-is_some c _ =
    refused_word _ _ _ _ _ c.requires.read c.requires.name
    (name_begins_none _ _ _ (is_found c.args.name c.args.given.now.items _ _ _ _ c.deref.ensures.value c.value_under.ensures c.is_some.ensures c.if-is_some.true))

pub returns-in_default : goal.returns-in_default
returns-in_default c _ =
    refused_value _ _ _ _ _ c.requires.read c.requires.known c.requires.name
    (none_from_is_some _ (is_found c.args.name c.args.given.now.items _ _ _ _ c.deref.ensures.value c.value_under.ensures c.is_some.ensures c.if-is_some.false))
    c.in_default.ensures

pub returns : goal.returns
returns c =
    step_named _ _ _ _ c.args.given.now.items c.push.new.self.items c.args.name c.in-Some.found.value.now c.requires.read c.requires.known c.requires.name c.in-Some.ensures
    (none_from_is_some _ (is_found c.args.name c.args.given.now.items _ _ _ _ c.deref.ensures.value c.value_under.ensures c.is_some.ensures c.if-is_some.false))
    (ap given_by c.in-Ok.ensures.items ∙ given_by_more _ _)
