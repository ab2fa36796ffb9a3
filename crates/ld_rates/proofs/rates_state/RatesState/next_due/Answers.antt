use Rattle.std.proofs.Common.{◌≡◌, ◌∙◌, ℕ, Option, None, Some, filter, nat_lt, slice_get, ap, sym, rules}
use Rattle.std.specs.Prelude.{option_map, option_to_list}
use Rattle.ld_machine.specs.Moment.{moment_after}
use Rattle.ld_machine.specs.Wait.{least_of}
use Rattle.ld_rates.proofs.KeptLemmas.{least_again, own_moments_shown}
use Rattle.ld_rates.proofs.rates_state.RatesState.next_due.Goals as goal

pub returns-in_err-moment : goal.returns-in_err-moment
returns-in_err-moment c s shows =
    let own = c.args.self.now in
    let first : slice_get own.waiting 0 ≡ None = search rules in
    let moments = own_moments_shown own s shows in
    c.from_residual.ensures ∙ sym (rw first at (ap (λ xs. least_of (filter (nat_lt c.args.reading) xs)) moments))

pub returns : goal.returns
returns c s shows =
    let own = c.args.self.now in
    let least = λ (o : Option ℕ). least_of (filter (nat_lt c.args.reading) (option_to_list o)) in
    let first : slice_get own.waiting 0 ≡ Some (c.in_ok-moment.field-0-0, c.in_ok-moment.moment) = search rules in
    let due : c.saturating_add.result ≡ moment_after own.course.begin c.in_ok-moment.moment = search rules in
    sym (least_again c.above.result)
    ∙ ap least_of c.above.ensures
    ∙ ap (λ (m : ℕ). least (Some m)) due
    ∙ ap (λ (o : Option (ℕ × ℕ)). least (option_map (λ (pair : ℕ × ℕ). moment_after own.course.begin pair.1) o)) (sym first)
    ∙ ap (λ xs. least_of (filter (nat_lt c.args.reading) xs)) (sym (own_moments_shown own s shows))
