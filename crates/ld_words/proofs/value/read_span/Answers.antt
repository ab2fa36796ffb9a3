use Rattle.ld_words.proofs.ValueLemmas.{refused_no_span, zero_no_span}
use Rattle.ld_words.proofs.value.read_span.Goals as goal

pub returns-in-Ok-eq0 : goal.returns-in-Ok-eq0
returns-in-Ok-eq0 c = zero_no_span c.args.text.now c.as_bytes.result.now _ c.as_bytes.ensures.value c.in-Ok-eq0.field-0-test c.in-Ok-eq0.ensures.value

pub returns-in-Err : goal.returns-in-Err
returns-in-Err c = refused_no_span c.args.text.now c.as_bytes.result.now _ c.as_bytes.ensures.value c.in-Err.ensures.refused
