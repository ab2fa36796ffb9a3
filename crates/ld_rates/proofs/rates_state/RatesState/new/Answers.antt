use Rattle.std.proofs.Common.{ap}
use Rattle.ld_set.specs.SetView.{SetView}
use Rattle.ld_rates.proofs.KeptLemmas.{opening_shown}
use Rattle.ld_rates.proofs.rates_state.RatesState.new.Goals as goal

pub returns-clause-opens : goal.returns-clause-opens
returns-clause-opens c s share part distinct =
    let own = c.args.part in
    let opens =
    opening_shown own.begin own.end own.grace own.pre own.max c.opening.result own.ticker s c.opening.ensures c.requires share part.begin part.end part.grace part.executor
    distinct in
    rw (c.new-2.ensures, ap (λ (set : SetView). set.numbers) c.in_ok-idle.ensures.empty) opens
