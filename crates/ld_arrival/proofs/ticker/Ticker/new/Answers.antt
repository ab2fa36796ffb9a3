use Rattle.std.proofs.Common.{◌∙◌, ap}
use Rattle.ld_arrival.specs.Schedule.{owned_between}
use Rattle.ld_arrival.proofs.TickerLemmas.{all_left}
use Rattle.ld_arrival.proofs.ticker.Ticker.new.Goals as goal

pub returns-clause-pairs : goal.returns-clause-pairs
returns-clause-pairs c =
    let counted = c.count-count.ensures.count in
    let limits = c.count-count.ensures.limits in
    ap (owned_between c.args.arrivals c.args.stripe.owners c.args.position 0) counted
    ∙ all_left c.args.arrivals limits c.args.stripe.owners c.args.position
