use Rattle.std.proofs.Common.{◌≡◌, ◌⊎◌, ◌∙◌, ap, inl, inr, sym, true}
use Rattle.std.specs.Prelude.{Some, is_some, string_bytes}
use Rattle.ld_words.specs.Options.{kind_of, value_of}
use Rattle.ld_words.specs.OptionWords.{given_by}
use Rattle.ld_words.specs.Values.{IsValueOf}
use Rattle.ld_words.proofs.GivenLemmas.{given_by_more}
use Rattle.ld_words.proofs.OptionsLemmas.{is_found, joined_begins_none, none_from_is_some, other_begins_none, refused_word, step_joined, word_at}
use Rattle.ld_words.proofs.ValueLemmas.{no_value, valid_value}
use Rattle.ld_words.proofs.options.read_option.Goals as goal
use Rattle.ld_words.proofs.options.read_option.Goals.{then-is_some-via-then-is_some, then-is_some-via-else-is_some+then-not-is_value_of}

pub returns-then-is_some : goal.returns-then-is_some
returns-then-is_some c _ =
    let word = word_at _ string_bytes _ _ c.requires.within c.index-words-place.is in
    let joined = ap Some (sym c.as_str.ensures.value ∙ c.in-Joined.ensures.1) in
    let why : (is_some (value_of c.in-Joined.name (given_by c.args.given.now.items)) ≡ true) ⊎ (IsValueOf (kind_of c.in-Joined.name) c.in-Joined.value.now → ⊥) =
    elim c.then-is_some.branch [
      | then-is_some-via-then-is_some w ↦ inl (is_found c.in-Joined.name c.args.given.now.items _ _ _ _ c.deref.ensures.value c.value_under.ensures c.is_some.ensures w.if-is_some.true)
      | then-is_some-via-else-is_some+then-not-is_value_of w ↦ inr (no_value _ _ _ _ w.kind.ensures w.is_value_of.ensures w.if-not-is_value_of.true)
    ]
    in
    refused_word _ _ _ _ _ c.requires.read (word ∙ joined) (joined_begins_none _ c.in-Joined.name c.in-Joined.value.now _ why)

pub returns-in-Ok : goal.returns-in-Ok
returns-in-Ok c =
    let word = word_at _ string_bytes _ _ c.requires.within c.index-words-place.is in
    let joined = ap Some (sym c.as_str.ensures.value ∙ c.in-Joined.ensures.1) in
    step_joined _ _ _ c.args.given.now.items c.push.new.self.items c.in-Joined.name c.in-Joined.value.now c.requires.read c.in-Joined.ensures.0 (word ∙ joined)
    (none_from_is_some _ (is_found c.in-Joined.name c.args.given.now.items _ _ _ _ c.deref.ensures.value c.value_under.ensures c.is_some.ensures c.if-is_some.false))
    (valid_value _ _ _ _ c.kind.ensures c.is_value_of.ensures c.if-not-is_value_of.false)
    (ap given_by c.in-Ok.ensures.items ∙ given_by_more _ _)

pub returns-in-Other : goal.returns-in-Other
returns-in-Other c _ =
    let word = word_at _ string_bytes _ _ c.requires.within c.index-words-place.is in
    refused_word _ _ _ _ _ c.requires.read (word ∙ ap Some (sym c.as_str.ensures.value)) (other_begins_none _ _ _ c.in-Other.ensures)
