use Rattle.std.proofs.Common.{◌≡◌, ◌∙◌, ap, sym, filter, not, slice_get, rules}
use Rattle.ld_set.specs.SetView.{is_among}
use Rattle.ld_seats.specs.declared.which.Which.TheVariants.{Any, Among, Others}
use Rattle.ld_seats.proofs.ChoiceLemmas.{least_meant, none_meant, some_meant}
use Rattle.ld_seats.proofs.NumbersLemmas.{all_pass}
use Rattle.ld_seats.proofs.seating.Seating.chosen_slot.Goals as goal

pub returns-in-Any-clause-some : goal.returns-in-Any-clause-some
returns-in-Any-clause-some c =
    let first : c.least.result ≡ slice_get c.args.self.now.idle 0 = search rules in
    rw c.in-Any.is (some_meant Any c.args.self.now c.least.result (first ∙ ap (λ numbers. slice_get numbers 0) (sym (all_pass c.args.self.now.idle))))

pub returns-in-Any-clause-none : goal.returns-in-Any-clause-none
returns-in-Any-clause-none c =
    let first : c.least.result ≡ slice_get c.args.self.now.idle 0 = search rules in
    rw c.in-Any.is (none_meant Any c.args.self.now c.least.result (first ∙ ap (λ numbers. slice_get numbers 0) (sym (all_pass c.args.self.now.idle))))

pub returns-in-Among-clause-some : goal.returns-in-Among-clause-some
returns-in-Among-clause-some c =
    let first : c.least_with.result ≡ slice_get (filter (is_among c.in-Among.set.now.numbers) c.args.self.now.idle) 0 = search rules in
    rw c.in-Among.is (some_meant (Among c.in-Among.set) c.args.self.now c.least_with.result first)

pub returns-in-Among-clause-none : goal.returns-in-Among-clause-none
returns-in-Among-clause-none c =
    let first : c.least_with.result ≡ slice_get (filter (is_among c.in-Among.set.now.numbers) c.args.self.now.idle) 0 = search rules in
    rw c.in-Among.is (none_meant (Among c.in-Among.set) c.args.self.now c.least_with.result first)

pub returns-in-Others-clause-some : goal.returns-in-Others-clause-some
returns-in-Others-clause-some c =
    let first : c.least_without.result ≡ slice_get (filter (λ k. not (is_among c.in-Others.set.now.numbers k)) c.args.self.now.idle) 0 = search rules in
    rw c.in-Others.is (some_meant (Others c.in-Others.set) c.args.self.now c.least_without.result first)

pub returns-in-Others-clause-none : goal.returns-in-Others-clause-none
returns-in-Others-clause-none c =
    let first : c.least_without.result ≡ slice_get (filter (λ k. not (is_among c.in-Others.set.now.numbers k)) c.args.self.now.idle) 0 = search rules in
    rw c.in-Others.is (none_meant (Others c.in-Others.set) c.args.self.now c.least_without.result first)

pub returns-in-Any-clause-least : goal.returns-in-Any-clause-least
returns-in-Any-clause-least c =
    let first : c.least.result ≡ slice_get c.args.self.now.idle 0 = search rules in
    rw c.in-Any.is (least_meant Any c.args.self.now c.args.prefer c.least.result (first ∙ ap (λ numbers. slice_get numbers 0) (sym (all_pass c.args.self.now.idle))))

pub returns-in-Among-clause-least : goal.returns-in-Among-clause-least
returns-in-Among-clause-least c =
    let first : c.least_with.result ≡ slice_get (filter (is_among c.in-Among.set.now.numbers) c.args.self.now.idle) 0 = search rules in
    rw c.in-Among.is (least_meant (Among c.in-Among.set) c.args.self.now c.args.prefer c.least_with.result first)

pub returns-in-Others-clause-least : goal.returns-in-Others-clause-least
returns-in-Others-clause-least c =
    let first : c.least_without.result ≡ slice_get (filter (λ k. not (is_among c.in-Others.set.now.numbers k)) c.args.self.now.idle) 0 = search rules in
    rw c.in-Others.is (least_meant (Others c.in-Others.set) c.args.self.now c.args.prefer c.least_without.result first)
