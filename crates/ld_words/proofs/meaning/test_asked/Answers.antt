use Rattle.std.proofs.Common.{refl}
use Rattle.ld_words.specs.declared.value.ValueKind.TheVariants.{Plain}
use Rattle.ld_words.proofs.MeaningLemmas.{has_span, has_text, meant_by, only_text, only_word}
use Rattle.ld_words.proofs.meaning.test_asked.Goals as goal

pub text_at-requires : goal.text_at-requires
text_at-requires c = only_text _ _ Plain refl c.requires

pub needed_span-requires : goal.needed_span-requires
needed_span-requires c = has_span _ _ 0 _ c.requires refl refl

pub needed_text-requires : goal.needed_text-requires
needed_text-requires c = has_text _ _ 1 _ c.requires refl

pub returns : goal.returns
returns c =
    meant_by _ _ _ c.requires refl (
      record {
        places_are = only_word _ _ Plain _ refl c.requires c.in_ok-text_at.ensures;
        segment_is = c.in_ok-text_under.ensures;
        sequence_is = c.in_ok-text_under-2.ensures;
        entries_is = c.number_under.ensures;
      },
      record { iteration_is = c.needed_span.ensures; journal_is = c.in_ok-needed_text.ensures },
    )
