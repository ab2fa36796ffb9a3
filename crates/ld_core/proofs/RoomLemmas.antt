-- Room in the history, by what a core's parts tell.
use Rattle.std.proofs.Common.{◌≡◌, ◌≤◌, ◌<◌, ◌+◌, nat_lt, ℕ, true, false, None, Some, length, arith, refl, ap, ◌∙◌}
use Rattle.std.proofs.lemmas.Grind.{common_steps}
use Rattle.ld_base.specs.declared.reply.Reply.TheVariants.{Full}
use Rattle.ld_base.specs.declared.reply.Room.TheVariants.{Entries}
use Rattle.ld_machine.specs.Room.{entries_refusal, entries_with}
use Rattle.ld_pool.specs.Users as pools
use Rattle.ld_core.specs.Core.{IsCore, core_view}
use Rattle.ld_core.specs.CoreView.{CoreView, plan_of, state_of}
use Rattle.ld_core.specs.declared.machine.Core.TheInside.{Inside}
use Rattle.ld_core.proofs.StateLemmas.{entries_counted}

module _ (c : Inside) (is : IsCore c) (now : CoreView) (view : core_view c ≡ now) (len count limit added more : ℕ) (long : len ≡ length c.history.entries)
    (counted : count ≡ pools.busy_count c.pool.users) (most : limit ≡ c.plan.plan.entry_limit) where
  -- how many entries are needed with so many more
  needed : len + count + added + more ≡ entries_with (state_of (core_view c)) added more
  needed =
      let total = entries_counted c.plan.plan c.history.entries in
      let shown = is.shows.busy in
      omega arith

  pub refusal_shown : limit < len + count + added + more → Some (Full Entries (len + count + added + more) limit) ≡ entries_refusal (plan_of now) (state_of now) added more
  refusal_shown beyond =
      let sum = needed in
      let above : nat_lt c.plan.plan.entry_limit (entries_with (state_of (core_view c)) added more) ≡ true = grind (arith, common_steps) in
      let inside : Some (Full Entries (len + count + added + more) limit) ≡ entries_refusal (plan_of (core_view c)) (state_of (core_view c)) added more = rw (above, sum, most) refl in
      inside ∙ ap (λ (v : CoreView). entries_refusal (plan_of v) (state_of v) added more) view

  pub room_shown : len + count + added + more ≤ limit → None ≡ entries_refusal (plan_of now) (state_of now) added more
  room_shown enough =
      let sum = needed in
      let within : nat_lt c.plan.plan.entry_limit (entries_with (state_of (core_view c)) added more) ≡ false = grind (arith, common_steps) in
      let inside : None ≡ entries_refusal (plan_of (core_view c)) (state_of (core_view c)) added more = rw within refl in
      inside ∙ ap (λ (v : CoreView). entries_refusal (plan_of v) (state_of v) added more) view
