use Rattle.std.proofs.Common.{true}
use Rattle.ld_wire.proofs.ResponseLemmas.{front_of_ended, one_begin, one_front, same_end}
use Rattle.ld_wire.proofs.feed_laws.one_response.Goals as goal

pub returns-clause-begins : goal.returns-clause-begins
returns-clause-begins c = one_begin

pub returns-clause-ended : goal.returns-clause-ended
returns-clause-ended c for_head bytes a b x y =
    (one_front for_head true bytes a b (front_of_ended for_head bytes a x) (front_of_ended for_head bytes b y)).1

pub returns-clause-no_front : goal.returns-clause-no_front
returns-clause-no_front c = same_end
