use Rattle.std.proofs.Common.{rules}
use Rattle.ld_rates.proofs.KeptLemmas.{open_shown, count_shown}
use Rattle.ld_rates.proofs.rates_state.RatesState.may_close.Goals as goal

pub returns-then-is_none : goal.returns-then-is_none
returns-then-is_none c s shows =
    let items = open_shown c.args.self.now s shows in
    let count = count_shown c.args.self.now s shows in
    search rules

pub returns-else-is_none : goal.returns-else-is_none
returns-else-is_none c s shows =
    let items = open_shown c.args.self.now s shows in
    let count = count_shown c.args.self.now s shows in
    search rules
