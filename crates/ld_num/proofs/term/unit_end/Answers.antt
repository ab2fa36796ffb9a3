use Rattle.std.proofs.Common.{◌∙◌, ap, length}
use Rattle.std.specs.Prelude.{unwrap_or}
use Rattle.ld_num.specs.Duration.{is_number_byte}
use Rattle.ld_num.proofs.ShapeLemmas.{place_or_end, place_within}
use Rattle.ld_num.proofs.term.unit_end.Goals as goal

pub returns-clause-end : goal.returns-clause-end
returns-clause-end c =
    c.unwrap_or.ensures
    ∙ ap (λ o. unwrap_or o (length c.args.text.now)) c.first_of_number.ensures
    ∙ place_or_end is_number_byte c.args.text.now

pub returns-clause-within : goal.returns-clause-within
returns-clause-within c =
    rw (c.unwrap_or.ensures, c.first_of_number.ensures, place_or_end is_number_byte c.args.text.now) (place_within is_number_byte c.args.text.now)
