use Rattle.std.proofs.Common.{sym}
use Rattle.ld_words.proofs.GivenLemmas.{span_found}
use Rattle.ld_words.proofs.meaning.span_under.Goals as goal

pub returns : goal.returns
returns c = span_found c.args.name c.args.taken.now.given _ _ (sym c.in_ok-option.ensures) c.read_span.ensures
