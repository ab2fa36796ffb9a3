-- Waiting goes on, and rehearsed entries command no stop.
use Rattle.std.proofs.Common.{◌≡◌, ◌<◌, ℕ, Bool, true, false, cond, ◌==◌, List, [], ◌∷◌, Option, None, Some, min, arith, refl, ◌∙◌}
use Rattle.std.specs.Prelude.{unwrap_or}
use Rattle.std.specs.List.{list_all}
use Rattle.std.specs.Option.{option_map_or}
use Rattle.ld_base.specs.declared.act.Act.{Act}
use Rattle.ld_base.specs.declared.act.Act.TheVariants.{Take, Grow, Start, Drop, Late, Return, Release, Stop, Close, Control}
use Rattle.ld_base.specs.declared.entry.Entry.{Entry}
use Rattle.ld_machine.specs.Moment.{moment_after, last_moment}
use Rattle.ld_machine.specs.Plan.{Plan}
use Rattle.ld_machine.specs.State.{Busy, State}
use Rattle.ld_machine.specs.Effect.{put_condition, change_share, after_entry, after_entries}
use Rattle.ld_machine.specs.Rehearsal.{is_rehearsed_act, is_rehearsed_entry}
use Rattle.ld_machine.specs.Wait.{candidates, next_candidate, short_wait, is_external_open, wait_moment}
use Rattle.ld_machine.proofs.ListLemmas.{both_true}
use Rattle.ld_machine.proofs.CandidateLemmas.{above_tells}
use Rattle.ld_machine.proofs.SettlesShareLemmas.{end_of_stop}

-- ---- waiting

short_later : (t : ℕ) → t < last_moment → t < moment_after t short_wait
short_later t before = omega arith

-- the moment to wait for is later
pub wait_later : (plan : Plan) (state : State) (t : ℕ) → t < last_moment → t < wait_moment plan state t
wait_later plan state t before =
    let short = short_later t before in
    let P : Option ℕ → Type 0 = λ o. next_candidate plan state t ≡ o →
    t < cond (is_external_open plan state) (option_map_or (min (moment_after t short_wait)) o (moment_after t short_wait)) (unwrap_or o (moment_after t short_wait)) in
    let later : P (next_candidate plan state t) = elim (next_candidate plan state t) as P [
      | None ↦ λ e. either_later (is_external_open plan state) (moment_after t short_wait) (moment_after t short_wait) short short
      | Some m ↦ λ e.
          let above : t < m = (above_tells t (candidates plan state) m e).1 in
          either_later (is_external_open plan state) (min (moment_after t short_wait) m) m (lesser_later (moment_after t short_wait) m short above) above
    ] in later refl
  where
    either_later : (b : Bool) (x y : ℕ) → t < x → t < y → t < cond b x y
    either_later true x y below_x below_y = below_x
    either_later false x y below_x below_y = below_y

    lesser_later : (x y : ℕ) → t < x → t < y → t < min x y
    lesser_later x y below_x below_y = omega arith

-- ---- commands

-- behind a rehearsed act the same is commanded as before
rehearsed_stop : (plan : Plan) (state : State) (at thread t : ℕ) (act : Act) → is_rehearsed_act act ≡ true →
    (after_entry plan state (record { turn = at; thread = thread; act = act; reading = t })).stop_commanded ≡ state.stop_commanded
rehearsed_stop plan state at thread t (Take n user slot) h = refl
rehearsed_stop plan state at thread t (Grow n user slot) h = refl
rehearsed_stop plan state at thread t (Start n user item until) h = end_of_stop plan n item (change_share state n (put_condition user (Busy thread item until)))
rehearsed_stop plan state at thread t (Drop n item) h = end_of_stop plan n item state
rehearsed_stop plan state at thread t (Late n item) h = end_of_stop plan n item state
rehearsed_stop plan state at thread t (Return n user item outcome tally) h = refl
rehearsed_stop plan state at thread t (Release n user) h = refl
rehearsed_stop plan state at thread t (Stop n) h = refl
rehearsed_stop plan state at thread t (Close n) h = refl
rehearsed_stop plan state at thread t (Control command) h = absurd (cc)

-- rehearsed entries command no stop
pub rehearsed_unstopped : (plan : Plan) (history : List Entry) (state : State) → list_all is_rehearsed_entry history ≡ true → state.stop_commanded ≡ false →
    (after_entries plan state history).stop_commanded ≡ false
rehearsed_unstopped plan [] state h unstopped = unstopped
rehearsed_unstopped plan (one ∷ rest) state h unstopped =
    let both = both_true (is_rehearsed_entry one) (list_all is_rehearsed_entry rest) h in
    let act = (both_true (one.thread == 0) (is_rehearsed_act one.act) both.0).1 in
    rehearsed_unstopped plan rest (after_entry plan state one) both.1
    (rehearsed_stop plan state one.turn one.thread one.reading one.act act ∙ unstopped)
