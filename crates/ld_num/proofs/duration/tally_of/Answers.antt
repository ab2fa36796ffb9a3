use Rattle.std.proofs.Common.{[], ◌∷◌, refl, inr}
use Rattle.ld_num.specs.Duration.{milliseconds}
use Rattle.ld_num.proofs.duration.tally_of.Goals as goal

pub returns-then-is_number : goal.returns-then-is_number
returns-then-is_number c =
    (milliseconds c.args.text.now ∷ [], inr (c.is_number.ensures.0 c.if-is_number.true, refl), c.with.ensures [] c.new.ensures)
