use Rattle.std.proofs.Common.{◌≡◌, ◌∙◌, ℕ, List, true, Some, None, ap, subst, sym, rules}
use Rattle.std.specs.Prelude.{is_some}
use Rattle.ld_machine.specs.Scenario.{is_live, item_to_start}
use Rattle.ld_set.specs.SetView.{is_among}
use Rattle.ld_seats.specs.Choice.{IsChosen}
use Rattle.ld_seats.specs.Seating.{IsSeating}
use Rattle.ld_seats.proofs.ChoiceLemmas.{chosen_as, owned_in}
use Rattle.ld_iters.specs.Work.{next_item}
use Rattle.ld_iters.proofs.SlotsLemmas.{chosen_starts, none_starts, starts_where}
use Rattle.ld_iters.proofs.slot_iters.SlotIters.to_start.Goals as goal

pub returns-in_err-user-clause-none : goal.returns-in_err-user-clause-none
returns-in_err-user-clause-none c =
    rw c.from_residual.ensures (λ s h shows idle.
    let seats : IsSeating c.self.inside.seating s = search (rules, shows.seating) in
    let going : c.self.inside.going.numbers ≡ c.args.self.now.going = search rules in
    none_starts c.args.self.now s shows h.slot c.args.reading (owned_in c.self.inside.seating s seats h idle)
    (sym (ap (λ (k : List ℕ). is_among k h.slot) going) ∙ c.in_err-user.ensures.none s h seats idle))

pub returns-in_err-item-clause-none : goal.returns-in_err-item-clause-none
returns-in_err-item-clause-none c =
    rw c.from_residual-in_err-item.ensures (λ s h shows idle.
    let seats : IsSeating c.self.inside.seating s = search (rules, shows.seating) in
    let going : c.self.inside.going.numbers ≡ c.args.self.now.going = search rules in
    let live : is_live s c.args.reading ≡ true = search rules in
    let none : next_item c.args.self.now.work c.in_ok-user.slot ≡ None = search rules in
    let chosen = subst (λ (k : List ℕ). IsChosen s (is_among k) c.args.prefer c.in_ok-user.user c.in_ok-user.slot) going (c.in_ok-user.ensures.some s seats) in
    let starts = chosen_starts c.args.self.now s shows c.args.reading c.args.prefer c.in_ok-user.user c.in_ok-user.slot live chosen in
    absurd (starts.1 (starts.0 ∙ none)))

pub returns-clause-some : goal.returns-clause-some
returns-clause-some c s shows =
    let seats : IsSeating c.self.inside.seating s = search (rules, shows.seating) in
    let going : c.self.inside.going.numbers ≡ c.args.self.now.going = search rules in
    let live : is_live s c.args.reading ≡ true = search rules in
    let item : next_item c.args.self.now.work c.in_ok-user.slot ≡ Some c.in_ok-item.item = search rules in
    let chosen = subst (λ (k : List ℕ). IsChosen s (is_among k) c.args.prefer c.in_ok-user.user c.in_ok-user.slot) going (c.in_ok-user.ensures.some s seats) in
    let starts = chosen_starts c.args.self.now s shows c.args.reading c.args.prefer c.in_ok-user.user c.in_ok-user.slot live chosen in (
      c.in_ok-user.slot,
      chosen_as s (is_among c.args.self.now.going) (λ k. is_some (item_to_start s k c.args.reading)) c.args.prefer c.in_ok-user.user c.in_ok-user.slot
          (λ h idle. starts_where c.args.self.now s shows h.slot c.args.reading (owned_in c.self.inside.seating s seats h idle) live) chosen,
      starts.0 ∙ item,
    )
