use Rattle.std.proofs.Common.{◌≡◌, ◌^◌, ◌<◌, ◌≤◌, length, slice_index, arith, rules}
use Rattle.ld_set.proofs.WordLemmas.{least_below, least_none, least_some}
use Rattle.ld_set.proofs.number_set.NumberSet.least.Goals as goal

pub returns-in_err-word : goal.returns-in_err-word
returns-in_err-word c =
    let past : length c.self.inside.words.items ≤ c.self.inside.from = search (rules, c.in_err-word.ensures) in
    rw (c.from_residual.ensures, ← c.self.view_is) (record { first = least_none _ _ _ _ c.self.invariant past })

pub overflow_cast-result : goal.overflow_cast-result
overflow_cast-result c =
    let inside : c.self.inside.from < length c.self.inside.words.items = search (rules, c.in_ok-word.ensures) in
    let fits : slice_index c.self.inside.words.items c.self.inside.from < 2 ^ 64 = search (rules, c.in_ok-word.ensures) in
    omega (arith, least_below _ _ _ _ c.self.invariant inside fits, c.self.invariant.small)

pub overflow_mul-result : goal.overflow_mul-result
overflow_mul-result c =
    let inside : c.self.inside.from < length c.self.inside.words.items = search (rules, c.in_ok-word.ensures) in
    let fits : slice_index c.self.inside.words.items c.self.inside.from < 2 ^ 64 = search (rules, c.in_ok-word.ensures) in
    omega (arith, least_below _ _ _ _ c.self.invariant inside fits, c.self.invariant.small)

pub overflow_add-result : goal.overflow_add-result
overflow_add-result c =
    let inside : c.self.inside.from < length c.self.inside.words.items = search (rules, c.in_ok-word.ensures) in
    let fits : slice_index c.self.inside.words.items c.self.inside.from < 2 ^ 64 = search (rules, c.in_ok-word.ensures) in
    let word : c.in_ok-word.field-0.now ≡ slice_index c.self.inside.words.items c.self.inside.from = search (rules, c.in_ok-word.ensures) in
    rw word (omega (arith, least_below _ _ _ _ c.self.invariant inside fits, c.self.invariant.small))

pub returns : goal.returns
returns c =
    let inside : c.self.inside.from < length c.self.inside.words.items = search (rules, c.in_ok-word.ensures) in
    let word : c.in_ok-word.field-0.now ≡ slice_index c.self.inside.words.items c.self.inside.from = search (rules, c.in_ok-word.ensures) in
    let fits : slice_index c.self.inside.words.items c.self.inside.from < 2 ^ 64 = search (rules, c.in_ok-word.ensures) in
    rw (word, ← c.self.view_is) (record { first = least_some _ _ _ _ c.self.invariant inside fits })
