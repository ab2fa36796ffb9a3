use Rattle.std.proofs.Common.{◌≡◌, ap, ◌∙◌, rules}
use Rattle.ld_rates.specs.Applies.{next_item}
use Rattle.ld_rates.proofs.KeptLemmas.{next_item_kept}
use Rattle.ld_rates.proofs.rates_state.RatesState.open_item.Goals as goal

pub returns-clause-least : goal.returns-clause-least
returns-clause-least c s shows =
    let kept : c.map.result ≡ next_item c.args.self.now = search rules in
    kept ∙ ap next_item shows.kept ∙ next_item_kept s shows.rates
