use Rattle.std.proofs.Common.{◌≡◌, ◌/◌, ◌<◌, slice_index, arith, sym, ◌∙◌}
use Rattle.std.proofs.lemmas.List.{get_or_default}
use Rattle.ld_set.proofs.WordLemmas.{among_is_bit, number_below, taken_again, taken_kept, taken_numbers, word_within}
use Rattle.ld_set.proofs.number_set.NumberSet.remove.Goals as goal

pub index_mut-requires : goal.index_mut-requires
index_mut-requires c =
    let there = sym (among_is_bit _ _ _ _ c.self.invariant c.args.number) ∙ sym (rw (← c.self.view_is) at c.if-contains.ensures.among) in
    let below : c.args.number < c.self.inside.limit = number_below _ _ _ _ c.self.invariant c.args.number there in
    omega (arith, word_within _ _ _ _ c.self.invariant c.args.number below)

pub invariant_of-self : goal.invariant_of-self
invariant_of-self c =
    let there = sym (among_is_bit _ _ _ _ c.self.invariant c.args.number) ∙ sym (rw (← c.self.view_is) at c.if-contains.ensures.among) in
    let below : c.args.number < c.self.inside.limit = number_below _ _ _ _ c.self.invariant c.args.number there in
    let word : c.index_mut.result.now ≡ slice_index c.self.inside.words.items (c.args.number / 64) =
    c.index_mut.ensures.value ∙ get_or_default _ _ _ 0 (word_within _ _ _ _ c.self.invariant c.args.number below) in
    let first = rw (c.deref.ensures.value, word) at c.first_used-self-inside.ensures in
    rw word (taken_kept _ _ _ _ c.self.invariant c.args.number below there _ first.within first.before first.used)

pub returns-then-contains-clause-numbers : goal.returns-then-contains-clause-numbers
returns-then-contains-clause-numbers c =
    let there = sym (among_is_bit _ _ _ _ c.self.invariant c.args.number) ∙ sym (rw (← c.self.view_is) at c.if-contains.ensures.among) in
    let below : c.args.number < c.self.inside.limit = number_below _ _ _ _ c.self.invariant c.args.number there in
    let word : c.index_mut.result.now ≡ slice_index c.self.inside.words.items (c.args.number / 64) =
    c.index_mut.ensures.value ∙ get_or_default _ _ _ 0 (word_within _ _ _ _ c.self.invariant c.args.number below) in
    rw (word, ← c.self.view_is) (taken_numbers _ _ _ _ c.self.invariant c.args.number below)

pub returns-else-contains-clause-numbers : goal.returns-else-contains-clause-numbers
returns-else-contains-clause-numbers c =
    let clear = sym (among_is_bit _ _ _ _ c.self.invariant c.args.number) ∙ sym (rw (← c.self.view_is) at c.if-contains.ensures.among) in
    rw (← c.self.view_is) (taken_again _ _ _ _ c.self.invariant c.args.number clear)
