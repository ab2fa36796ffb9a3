use Rattle.ld_words.proofs.MeaningLemmas.{asks}
use Rattle.ld_words.proofs.words.read_words.Goals as goal

pub want_of_memory-requires : goal.want_of_memory-requires
want_of_memory-requires c =
    let are = c.in_ok-read_form.ensures in
    c.in-Err.ensures.memory are.places are.given are.are

pub returns-in-Ok-meaning-clause-asked : goal.returns-in-Ok-meaning-clause-asked
returns-in-Ok-meaning-clause-asked c =
    let are = c.in_ok-read_form.ensures in
    asks _ _ _ _ c.form_read-form.ensures are (c.in-Ok.ensures.taken are.places are.given are.are) c.in-Ok-meaning.ensures
