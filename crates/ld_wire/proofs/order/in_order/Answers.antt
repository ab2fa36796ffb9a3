use Rattle.std.proofs.Common.{◌∙◌, ap, rules}
use Rattle.std.proofs.lemmas.List.Sorted.{answers_always}
use Rattle.ld_wire.specs.Order.{in_order}
use Rattle.ld_wire.proofs.OrderLemmas.{lent_below, lent_order, order_sorted}
use Rattle.ld_wire.proofs.order.in_order.Goals as goal

pub returns-clause-order : goal.returns-clause-order
returns-clause-order c =
    let compares = answers_always _ _ _ (λ f a r g called. search rules) in
    order_sorted _ _ (c.in_ok-sort_by.ensures.sorted lent_below lent_order compares) (c.sort_by.ensures.stable lent_below lent_order compares)
    ∙ ap in_order c.in_ok-sent.ensures.list
