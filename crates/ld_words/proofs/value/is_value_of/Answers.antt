use Rattle.ld_words.proofs.ValueLemmas.{span_test}
use Rattle.ld_words.proofs.value.is_value_of.Goals as goal

pub returns-in-Span : goal.returns-in-Span
returns-in-Span c = span_test c.args.kind c.args.text.now _ _ c.in-Span.is c.is_some-in-Span.ensures c.read_span.ensures
