use Rattle.std.proofs.Common.{◌≡◌, ◌<◌, ◌+◌, ◌∙◌, ℕ, [], ◌∷◌, arith, ap, refl, sym}
use Rattle.std.proofs.lemmas.Bool.{false≢true}
use Rattle.ld_arrival.specs.Schedule.{owned_between}
use Rattle.ld_arrival.proofs.TickerLemmas.{from_first, none_left, owned_first}
use Rattle.ld_arrival.proofs.ticker.TickerIndexSource.next.Goals as goal

pub returns-then-k-self-clause-first : goal.returns-then-k-self-clause-first
returns-then-k-self-clause-first c =
    let s = c.self.inside in
    let found = c.first_owned-k.ensures in
    sym c.self.view_is ∙ from_first s.arrivals s.stripe.owners s.position s.next c.first_owned-k.result s.count found.within.0 found.within.1 found.first

pub returns-then-k-self-clause-ended : goal.returns-then-k-self-clause-ended
returns-then-k-self-clause-ended c =
    let s = c.self.inside in
    let found = c.first_owned-k.ensures in
    let none : c.args.self.now ≡ [] =
    sym c.self.view_is
    ∙ from_first s.arrivals s.stripe.owners s.position s.next c.first_owned-k.result s.count found.within.0 found.within.1 found.first
    ∙ ap (λ k. owned_between s.arrivals s.stripe.owners s.position k s.count) c.if-k-self.true
    ∙ none_left s.arrivals s.stripe.owners s.position s.count in
    (λ _. none, λ _. refl)

pub returns-clause-first : goal.returns-clause-first
returns-clause-first c =
    let s = c.self.inside in
    let k = c.first_owned-k.result in
    let found = c.first_owned-k.ensures in
    let within = found.within in
    let past = c.if-k-self.false in
    let below : k < s.count = omega arith in
    sym c.self.view_is
    ∙ from_first s.arrivals s.stripe.owners s.position s.next k s.count found.within.0 found.within.1 found.first
    ∙ owned_first s.arrivals s.stripe.owners s.position k s.count below (found.owned below)
    ∙ ap (λ (moment : ℕ). (k, moment) ∷ owned_between s.arrivals s.stripe.owners s.position (k + 1) s.count) (sym c.moment.ensures.moment)

pub returns-clause-ended : goal.returns-clause-ended
returns-clause-ended c =
    let s = c.self.inside in
    let first : c.args.self.now ≡ (c.first_owned-k.result, c.moment.result) ∷ owned_between s.arrivals s.stripe.owners s.position (c.first_owned-k.result + 1) s.count = returns-clause-first c in
    (λ is. absurd (false≢true (sym is)), λ is. absurd (cc (first, is)))
