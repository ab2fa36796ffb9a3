use Rattle.std.proofs.Common.{refl}
use Rattle.ld_words.proofs.MeaningLemmas.{has_number, has_span, has_text, meant_by}
use Rattle.ld_words.proofs.meaning.rate_asked.Goals as goal

pub needed_number-requires : goal.needed_number-requires
needed_number-requires c = has_number _ _ 0 _ c.requires refl refl

pub needed_span-requires : goal.needed_span-requires
needed_span-requires c = has_span _ _ 1 _ c.requires refl refl

pub needed_span-requires-2 : goal.needed_span-requires-2
needed_span-requires-2 c = has_span _ _ 2 _ c.requires refl refl

pub needed_number-requires-2 : goal.needed_number-requires-2
needed_number-requires-2 c = has_number _ _ 3 _ c.requires refl refl

pub needed_number-requires-3 : goal.needed_number-requires-3
needed_number-requires-3 c = has_number _ _ 4 _ c.requires refl refl

pub needed_span-requires-3 : goal.needed_span-requires-3
needed_span-requires-3 c = has_span _ _ 5 _ c.requires refl refl

pub needed_text-requires : goal.needed_text-requires
needed_text-requires c = has_text _ _ 6 _ c.requires refl

pub returns : goal.returns
returns c =
    meant_by _ _ _ c.requires refl (
      record {
        rate_is = c.needed_number.ensures;
        unit_is = c.needed_span.ensures;
        duration_is = c.needed_span-2.ensures;
        pre_is = c.needed_number-2.ensures;
        max_is = c.needed_number-3.ensures;
      },
      record { iteration_is = c.needed_span-3.ensures; journal_is = c.in_ok-needed_text.ensures },
      c.number_under.ensures,
    )
