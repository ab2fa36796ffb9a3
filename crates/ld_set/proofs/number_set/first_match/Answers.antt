use Rattle.std.proofs.Common.{◌≡◌, get_or, arith, rules}
use Rattle.ld_set.proofs.MatchLemmas.{AreMatching, first_in_word, none_behind, none_in_word}
use Rattle.ld_set.proofs.number_set.first_match.Goals as goal

pub returns-then-bits-ne0-clause-some : goal.returns-then-bits-ne0-clause-some
returns-then-bits-ne0-clause-some c =
    let other : c.unwrap_or-other.result ≡ get_or c.args.others.now c.loop-at.at 0 = search rules in
    let agree : AreMatching c.args.words.now c.args.others.now c.args.wanted c.loop-at.at c.matching_bits-bits.result = rw (← other) c.matching_bits-bits.ensures in
    first_in_word c.args.words.now c.args.others.now c.args.wanted c.loop-at.at c.matching_bits-bits.result agree c.if-bits-ne0.true (search rules) c.loop-at.invariant

pub loop-at-preserved : goal.loop-at-preserved
loop-at-preserved c =
    let other : c.unwrap_or-other.result ≡ get_or c.args.others.now c.loop-at.at 0 = search rules in
    let agree : AreMatching c.args.words.now c.args.others.now c.args.wanted c.loop-at.at c.matching_bits-bits.result = rw (← other) c.matching_bits-bits.ensures in
    none_in_word c.args.words.now c.args.others.now c.args.wanted c.loop-at.at c.matching_bits-bits.result agree (omega arith) c.loop-at.invariant

pub returns-clause-none : goal.returns-clause-none
returns-clause-none c = none_behind c.args.words.now c.args.others.now c.args.wanted c.loop-at.at (omega arith) c.loop-at.invariant
