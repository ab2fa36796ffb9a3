use Rattle.std.proofs.Common.{refl}
use Rattle.ld_words.specs.declared.value.ValueKind.TheVariants.{Plain}
use Rattle.ld_words.proofs.MeaningLemmas.{meant_by, only_text, only_word}
use Rattle.ld_words.proofs.meaning.plan_asked.Goals as goal

pub text_at-requires : goal.text_at-requires
text_at-requires c = only_text _ _ Plain refl c.requires

pub returns : goal.returns
returns c =
    meant_by _ _ _ c.requires refl (
      record {
        places_are = only_word _ _ Plain _ refl c.requires c.in_ok-text_at.ensures;
        segment_is = c.in_ok-text_under.ensures;
        sequence_is = c.in_ok-text_under-2.ensures;
        entries_is = c.number_under.ensures;
      },
      c.is_given.ensures,
    )
