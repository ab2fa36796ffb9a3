-- Whoever plays was made, within the plan's limit.
use Rattle.std.proofs.Common.{◌≡◌, ◌≤◌, ◌==◌, ◌&&◌, ℕ, true, List, [], ◌∷◌, Some, arith, inl, inr}
use Rattle.ld_base.specs.declared.entry.Entry.{Entry}
use Rattle.ld_machine.specs.Plan.{Plan}
use Rattle.ld_machine.specs.State.{HeldUser, State, opening}
use Rattle.ld_machine.specs.Effect.{after_entry, after_entries, state_after}
use Rattle.ld_machine.specs.Step.{is_busy_with}
use Rattle.ld_machine.specs.History.{adds_one, adds_two, are_steps, IsLegal}
use Rattle.ld_machine.specs.Playing.{Play, play_of}
use Rattle.ld_machine.proofs.ListLemmas.{any-from_In, both_true, some_true}
use Rattle.ld_machine.proofs.DropLemmas.{one_within, two_within}
use Rattle.ld_machine.proofs.FreeStepLemmas.{share_held}
use Rattle.ld_machine.proofs.WellHeldLemmas.{steps_well, opening_well}
use Rattle.ld_machine.proofs.PlayingLemmas.{legal_matches, held_as, user_passes}

-- no history makes more users than the limit
steps_within : (plan : Plan) (history : List Entry) (state : State) → state.made ≤ plan.limit → are_steps plan state history ≡ true →
    (after_entries plan state history).made ≤ plan.limit
steps_within plan [] state within h = within
steps_within plan (one ∷ []) state within h = one_within plan state one within h
steps_within plan (one ∷ two ∷ rest) state within h =
    elim (some_true (adds_one plan state one && are_steps plan (after_entry plan state one) (two ∷ rest)) _ h) [
      | inl first ↦
          let both = both_true (adds_one plan state one) _ first in
          steps_within plan (two ∷ rest) (after_entry plan state one) (one_within plan state one within both.0) both.1
      | inr second ↦
          let both = both_true (adds_two plan state one two) _ second in
          steps_within plan rest (after_entry plan (after_entry plan state one) two) (two_within plan state one two within both.0) both.1
    ]

pub player_made : (plan : Plan) (history : List Entry) (user : ℕ) (play : Play) → plan.planned ≤ plan.limit → IsLegal plan history →
    play_of user history ≡ Some play → (1 ≤ user) × (user ≤ plan.limit)
player_made plan history user play planned legal plays =
    let out = (legal_matches plan history user legal).out play plays in
    let f = held_as (state_after plan history) play.scenario user (λ c. is_busy_with c play.thread play.item play.until) out in
    let within_share = any-from_In (λ (h : HeldUser). h.user == user) f.holder f.held (user_passes f.holder.user user f.user_is) in
    let held = share_held (state_after plan history) play.scenario user f.share f.stands within_share in
    let made = (steps_well plan history (opening plan) legal (opening_well plan) user).1 held in
    let to : user ≤ (state_after plan history).made = made.1 in
    let bound : (state_after plan history).made ≤ plan.limit = steps_within plan history (opening plan) planned legal in
    (made.0, omega arith)
