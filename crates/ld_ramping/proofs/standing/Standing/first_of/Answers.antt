use Rattle.std.proofs.Common.{◌≡◌, ◌∙◌, true, false, not, filter, slice_get, rules, sym}
use Rattle.ld_set.specs.SetView.{is_among}
use Rattle.ld_ramping.proofs.StandingLemmas.{none_stands, not_back, not_to, seen_on, some_among, some_least, some_stands}
use Rattle.ld_ramping.proofs.standing.Standing.first_of.Goals as goal

pub returns-then-on-clause-among : goal.returns-then-on-clause-among
returns-then-on-clause-among c =
    let at : c.self.inside.reading ≡ c.args.reading = search rules in
    let each = seen_on _ c.args.self.now c.self.inside.reading c.args.reading c.self.inside.on.numbers c.self.view_is at c.self.invariant.each in
    let is : c.args.on ≡ true = search rules in
    let first : c.least_with.result ≡ slice_get (filter (is_among c.self.inside.on.numbers) c.args.among.now.numbers) 0 = search rules in
    some_among c.args.self.now c.args.reading c.args.on c.args.among.now.numbers (is_among c.self.inside.on.numbers)
    (λ k passes. sym (each k) ∙ passes ∙ sym is) (λ k stands. each k ∙ stands ∙ is)
    c.least_with.result first

pub returns-then-on-clause-stands : goal.returns-then-on-clause-stands
returns-then-on-clause-stands c =
    let at : c.self.inside.reading ≡ c.args.reading = search rules in
    let each = seen_on _ c.args.self.now c.self.inside.reading c.args.reading c.self.inside.on.numbers c.self.view_is at c.self.invariant.each in
    let is : c.args.on ≡ true = search rules in
    let first : c.least_with.result ≡ slice_get (filter (is_among c.self.inside.on.numbers) c.args.among.now.numbers) 0 = search rules in
    some_stands c.args.self.now c.args.reading c.args.on c.args.among.now.numbers (is_among c.self.inside.on.numbers)
    (λ k passes. sym (each k) ∙ passes ∙ sym is) (λ k stands. each k ∙ stands ∙ is)
    c.least_with.result first

pub returns-then-on-clause-least : goal.returns-then-on-clause-least
returns-then-on-clause-least c =
    let at : c.self.inside.reading ≡ c.args.reading = search rules in
    let each = seen_on _ c.args.self.now c.self.inside.reading c.args.reading c.self.inside.on.numbers c.self.view_is at c.self.invariant.each in
    let is : c.args.on ≡ true = search rules in
    let first : c.least_with.result ≡ slice_get (filter (is_among c.self.inside.on.numbers) c.args.among.now.numbers) 0 = search rules in
    some_least c.args.self.now c.args.reading c.args.on c.args.among.now.numbers (is_among c.self.inside.on.numbers)
    (λ k passes. sym (each k) ∙ passes ∙ sym is) (λ k stands. each k ∙ stands ∙ is)
    c.least_with.result first

pub returns-then-on-clause-none : goal.returns-then-on-clause-none
returns-then-on-clause-none c =
    let at : c.self.inside.reading ≡ c.args.reading = search rules in
    let each = seen_on _ c.args.self.now c.self.inside.reading c.args.reading c.self.inside.on.numbers c.self.view_is at c.self.invariant.each in
    let is : c.args.on ≡ true = search rules in
    let first : c.least_with.result ≡ slice_get (filter (is_among c.self.inside.on.numbers) c.args.among.now.numbers) 0 = search rules in
    none_stands c.args.self.now c.args.reading c.args.on c.args.among.now.numbers (is_among c.self.inside.on.numbers)
    (λ k passes. sym (each k) ∙ passes ∙ sym is) (λ k stands. each k ∙ stands ∙ is)
    c.least_with.result first

pub returns-else-on-clause-among : goal.returns-else-on-clause-among
returns-else-on-clause-among c =
    let at : c.self.inside.reading ≡ c.args.reading = search rules in
    let each = seen_on _ c.args.self.now c.self.inside.reading c.args.reading c.self.inside.on.numbers c.self.view_is at c.self.invariant.each in
    let is : c.args.on ≡ false = search rules in
    let first : c.least_without.result ≡ slice_get (filter (λ k. not (is_among c.self.inside.on.numbers k)) c.args.among.now.numbers) 0 = search rules in
    some_among c.args.self.now c.args.reading c.args.on c.args.among.now.numbers (λ k. not (is_among c.self.inside.on.numbers k))
    (λ k passes. sym (each k) ∙ not_to (is_among c.self.inside.on.numbers k) passes ∙ sym is) (λ k stands. not_back (is_among c.self.inside.on.numbers k) (each k ∙ stands ∙ is))
    c.least_without.result first

pub returns-else-on-clause-stands : goal.returns-else-on-clause-stands
returns-else-on-clause-stands c =
    let at : c.self.inside.reading ≡ c.args.reading = search rules in
    let each = seen_on _ c.args.self.now c.self.inside.reading c.args.reading c.self.inside.on.numbers c.self.view_is at c.self.invariant.each in
    let is : c.args.on ≡ false = search rules in
    let first : c.least_without.result ≡ slice_get (filter (λ k. not (is_among c.self.inside.on.numbers k)) c.args.among.now.numbers) 0 = search rules in
    some_stands c.args.self.now c.args.reading c.args.on c.args.among.now.numbers (λ k. not (is_among c.self.inside.on.numbers k))
    (λ k passes. sym (each k) ∙ not_to (is_among c.self.inside.on.numbers k) passes ∙ sym is) (λ k stands. not_back (is_among c.self.inside.on.numbers k) (each k ∙ stands ∙ is))
    c.least_without.result first

pub returns-else-on-clause-least : goal.returns-else-on-clause-least
returns-else-on-clause-least c =
    let at : c.self.inside.reading ≡ c.args.reading = search rules in
    let each = seen_on _ c.args.self.now c.self.inside.reading c.args.reading c.self.inside.on.numbers c.self.view_is at c.self.invariant.each in
    let is : c.args.on ≡ false = search rules in
    let first : c.least_without.result ≡ slice_get (filter (λ k. not (is_among c.self.inside.on.numbers k)) c.args.among.now.numbers) 0 = search rules in
    some_least c.args.self.now c.args.reading c.args.on c.args.among.now.numbers (λ k. not (is_among c.self.inside.on.numbers k))
    (λ k passes. sym (each k) ∙ not_to (is_among c.self.inside.on.numbers k) passes ∙ sym is) (λ k stands. not_back (is_among c.self.inside.on.numbers k) (each k ∙ stands ∙ is))
    c.least_without.result first

pub returns-else-on-clause-none : goal.returns-else-on-clause-none
returns-else-on-clause-none c =
    let at : c.self.inside.reading ≡ c.args.reading = search rules in
    let each = seen_on _ c.args.self.now c.self.inside.reading c.args.reading c.self.inside.on.numbers c.self.view_is at c.self.invariant.each in
    let is : c.args.on ≡ false = search rules in
    let first : c.least_without.result ≡ slice_get (filter (λ k. not (is_among c.self.inside.on.numbers k)) c.args.among.now.numbers) 0 = search rules in
    none_stands c.args.self.now c.args.reading c.args.on c.args.among.now.numbers (λ k. not (is_among c.self.inside.on.numbers k))
    (λ k passes. sym (each k) ∙ not_to (is_among c.self.inside.on.numbers k) passes ∙ sym is) (λ k stands. not_back (is_among c.self.inside.on.numbers k) (each k ∙ stands ∙ is))
    c.least_without.result first
