use Rattle.std.proofs.Common.{◌≡◌, ◌/◌, ◌∙◌, sym, slice_index}
use Rattle.std.proofs.lemmas.Bool.{le-ltb}
use Rattle.std.proofs.lemmas.List.{get_or_default}
use Rattle.std.proofs.lemmas.Nat.Bits.{shr_and_one}
use Rattle.ld_set.specs.Words.{has_bit}
use Rattle.ld_set.proofs.WordLemmas.{among_is_bit, word_within}
use Rattle.ld_set.proofs.number_set.NumberSet.contains.Goals as goal

pub returns-then-number-self : goal.returns-then-number-self
unfolding has_bit
returns-then-number-self c =
    let within = word_within _ _ _ _ c.self.invariant c.args.number c.if-number-self.true in
    let word : c.index.result.now ≡ slice_index c.self.inside.words.items (c.args.number / 64) =
    c.index.ensures ∙ get_or_default _ _ _ 0 within in
    rw (shr_and_one, word, ← c.self.view_is) (record { among = sym (among_is_bit _ _ _ _ c.self.invariant c.args.number) })

pub returns-else-number-self : goal.returns-else-number-self
returns-else-number-self c =
    let past = le-ltb c.args.number c.self.inside.limit c.if-number-self.false in
    let clear = c.self.invariant.within c.args.number c.if-number-self.false in
    rw (past, ← c.self.view_is) (record { among = sym (among_is_bit _ _ _ _ c.self.invariant c.args.number ∙ clear) })
