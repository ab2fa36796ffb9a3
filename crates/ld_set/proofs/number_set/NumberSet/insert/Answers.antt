use Rattle.std.proofs.Common.{◌≡◌, ◌/◌, ◌<◌, slice_index, arith, sym, ◌∙◌}
use Rattle.std.proofs.lemmas.List.{get_or_default}
use Rattle.ld_set.proofs.WordLemmas.{among_is_bit, count_few, put_again, put_kept, put_numbers, word_within}
use Rattle.ld_set.proofs.number_set.NumberSet.insert.Goals as goal

pub overflow_add-self : goal.overflow_add-self
overflow_add-self c =
    let below : c.args.number < c.self.inside.limit = rw (← c.self.view_is) at c.requires.below in
    let clear = sym (among_is_bit _ _ _ _ c.self.invariant c.args.number) ∙ sym (rw (← c.self.view_is) at c.if-not-contains.ensures.among) in
    let kept = put_kept _ _ _ _ c.self.invariant c.args.number below clear in
    omega (arith, count_few _ _ _ _ kept, c.self.invariant.small)

pub invariant_of-self : goal.invariant_of-self
invariant_of-self c =
    let below : c.args.number < c.self.inside.limit = rw (← c.self.view_is) at c.requires.below in
    let word : c.index_mut.result.now ≡ slice_index c.self.inside.words.items (c.args.number / 64) =
    c.index_mut.ensures.value ∙ get_or_default _ _ _ 0 (word_within _ _ _ _ c.self.invariant c.args.number below) in
    let clear = sym (among_is_bit _ _ _ _ c.self.invariant c.args.number) ∙ sym (rw (← c.self.view_is) at c.if-not-contains.ensures.among) in
    rw (word, c.min-self-inside.ensures) (put_kept _ _ _ _ c.self.invariant c.args.number below clear)

pub returns-then-not-contains-clause-numbers : goal.returns-then-not-contains-clause-numbers
returns-then-not-contains-clause-numbers c =
    let below : c.args.number < c.self.inside.limit = rw (← c.self.view_is) at c.requires.below in
    let word : c.index_mut.result.now ≡ slice_index c.self.inside.words.items (c.args.number / 64) =
    c.index_mut.ensures.value ∙ get_or_default _ _ _ 0 (word_within _ _ _ _ c.self.invariant c.args.number below) in
    rw (word, ← c.self.view_is) (put_numbers _ _ _ _ c.self.invariant c.args.number below)

pub returns-else-not-contains-clause-numbers : goal.returns-else-not-contains-clause-numbers
returns-else-not-contains-clause-numbers c =
    let below : c.args.number < c.self.inside.limit = rw (← c.self.view_is) at c.requires.below in
    let there = sym (among_is_bit _ _ _ _ c.self.invariant c.args.number) ∙ sym (rw (← c.self.view_is) at c.if-not-contains.ensures.among) in
    rw (← c.self.view_is) (put_again _ _ _ _ c.self.invariant c.args.number below there)
