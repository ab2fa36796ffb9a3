use Rattle.std.proofs.Common.{◌≡◌, true, false, nat_le, Some, None, slice_get, ◌∙◌, rules}
use Rattle.ld_machine.specs.Moment.{moment_after}
use Rattle.ld_machine.specs.Scenario.{runs}
use Rattle.ld_rates.proofs.KeptLemmas.{none_due, due_shown}
use Rattle.ld_rates.proofs.rates_state.RatesState.due_arrival.Goals as goal

pub returns-in_err-item-clause-shown : goal.returns-in_err-item-clause-shown
returns-in_err-item-clause-shown c s shows =
    let first : slice_get c.args.self.now.waiting 0 ≡ None = search rules in
    c.from_residual.ensures ∙ none_due c.args.self.now s c.args.reading shows first

pub returns-then-saturating_add-reading-clause-shown : goal.returns-then-saturating_add-reading-clause-shown
returns-then-saturating_add-reading-clause-shown c s shows =
    let first : slice_get c.args.self.now.waiting 0 ≡ Some (c.in_ok-item.item, c.in_ok-item.moment) = search rules in
    let running : runs s ≡ true = search rules in
    let now : nat_le (moment_after c.args.self.now.course.begin c.in_ok-item.moment) c.args.reading ≡ true = search rules in
    let shown = due_shown c.args.self.now s c.args.reading (c.in_ok-item.item, c.in_ok-item.moment) shows running first in
    rw now at shown

pub returns-else-saturating_add-reading-clause-shown : goal.returns-else-saturating_add-reading-clause-shown
returns-else-saturating_add-reading-clause-shown c s shows =
    let first : slice_get c.args.self.now.waiting 0 ≡ Some (c.in_ok-item.item, c.in_ok-item.moment) = search rules in
    let running : runs s ≡ true = search rules in
    let later : nat_le (moment_after c.args.self.now.course.begin c.in_ok-item.moment) c.args.reading ≡ false = search rules in
    let shown = due_shown c.args.self.now s c.args.reading (c.in_ok-item.item, c.in_ok-item.moment) shows running first in
    rw later at shown
