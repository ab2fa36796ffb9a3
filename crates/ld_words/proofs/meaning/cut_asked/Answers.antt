use Rattle.ld_words.proofs.MeaningLemmas.{cut_meant, only_count}
use Rattle.ld_words.proofs.meaning.cut_asked.Goals as goal

pub number_at-requires : goal.number_at-requires
number_at-requires c = only_count _ c.requires

pub returns : goal.returns
returns c = cut_meant _ _ _ _ c.requires c.number_at.ensures c.in_ok-text_under.ensures c.in_ok-text_under-2.ensures
