use Rattle.std.proofs.Common.{◌-◌, ◌∙◌}
use Rattle.std.proofs.lemmas.List.{set-get_or, set-set}
use Rattle.ld_pool.proofs.UserLemmas.{user_at_place}
use Rattle.ld_pool.proofs.laws.taken_back.Goals as goal

pub returns : goal.returns
returns c users number before after is =
    let place = user_at_place users number before is in
    let same = set-get_or users (number - 1) before in
    set-set users (number - 1) after before ∙ rw place.2 at same
