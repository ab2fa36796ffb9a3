-- The stage goes on to a later moment, or the rehearsal has ended.
use Rattle.std.proofs.Common.{◌≡◌, ◌<◌, ◌≤◌, ◌+◌, ℕ, Bool, true, false, min, List, [], ◌∷◌, Option, None, Some, arith, ap, length, refl, sym, subst, ◌∙◌}
use Rattle.std.specs.Prelude.{option_map, replicate}
use Rattle.std.specs.Option.{option_map_or, option_or}
use Rattle.std.proofs.Math.Decide.{dec_lt}
use Rattle.std.proofs.lemmas.List.{length-replicate}
use Rattle.ld_base.specs.declared.entry.Entry.{Entry}
use Rattle.ld_base.specs.declared.reply.Reply.{Reply}
use Rattle.ld_core.specs.CoreView.{CoreView}
use Rattle.ld_machine.specs.Effect.{state_after}
use Rattle.ld_machine.specs.Moment.{last_moment, moment_after}
use Rattle.ld_machine.specs.Moves.{Move, enabled}
use Rattle.ld_machine.specs.Order.{first_moves}
use Rattle.ld_machine.specs.Playing.{Play, play_of}
use Rattle.ld_machine.specs.Rehearsal.{nothing_late, FirstRefusal, IsRefusedAt, IsRehearsed, NothingEnabled}
use Rattle.ld_machine.specs.Settled.{IsSettled}
use Rattle.ld_machine.specs.State.{all_closed, opening}
use Rattle.ld_machine.specs.Wait.{least_of, wait_moment}
use Rattle.ld_machine.specs.WellTimed.{WellTimed}
use Rattle.ld_machine.proofs.FirstOfAllLemmas.{In-of, act_open}
use Rattle.ld_machine.proofs.LatenessLemmas.{opening_answered, steps_on_time}
use Rattle.ld_machine.proofs.ListLemmas.{In, here, Contains-from_In, some_not_none}
use Rattle.ld_machine.proofs.OrderLemmas.{none_first}
use Rattle.ld_machine.proofs.PlayingLemmas.{busy_plays}
use Rattle.ld_machine.proofs.SettledLemmas.{settled_returned}
use Rattle.ld_machine.proofs.SettlesLemmas.{is_settled_where_closed}
use Rattle.ld_machine.proofs.SomeonePlaysLemmas.{plays_at_the_end}
use Rattle.ld_machine.proofs.StepLemmas.{first_enabled}
use Rattle.ld_machine.proofs.WaitsOnLemmas.{rehearsed_unstopped, wait_later}
use Rattle.ld_plan.specs.PlanView.{PlanView}
use Rattle.ld_rehearsal.specs.Dues.{due_at, due_in, due_of, ends_of}
use Rattle.ld_rehearsal.specs.Played.{may_come, IsPlayed}
use Rattle.ld_rehearsal.specs.Stage.{full_reply, playing, stage_plan, stage_state, IsActing, IsEnded, IsOpened, IsPause, IsReturning, IsSameMoment, IsSameRun, MayReturn}
use Rattle.ld_rehearsal.specs.declared.due.Due.{Due}
use Rattle.ld_rehearsal.specs.declared.full.FullJournal.{FullJournal}
use Rattle.ld_rehearsal.specs.declared.stage.Said.TheVariants as said
use Rattle.ld_rehearsal.specs.declared.stage.Stage.{Stage}
use Rattle.ld_rehearsal.proofs.DueLemmas.{least_end, nobody_at, none_ends, some_end}
use Rattle.ld_rehearsal.proofs.GrowLemmas.{later_may_come}
use Rattle.ld_rehearsal.proofs.PlayedLemmas.{played_blocked, played_full, played_later, played_over}

-- ---- the opening

-- the stage of a plan with an empty history
pub opened : (core : CoreView) (limit long : ℕ) → core.entries ≡ [] → WellTimed core.plan.plan → core.plan.plan.planned ≤ core.plan.plan.limit → 1 ≤ long →
    limit ≡ core.plan.plan.limit → IsReturning (record { core = core; dues = replicate limit None; moment = 0; length = long; full = None }) 0 false
opened core limit long empty timed planned lasts most =
    let plan = core.plan.plan in
    let quiet : NothingEnabled plan (opening plan) 0 0 = λ t low high. absurd (omega arith) in
    let start : IsPlayed plan long [] 0 None false = record {
      legal = refl;
      entries = refl;
      readings = refl;
      past = omega arith;
      returned = refl;
      order = refl;
      waits = quiet;
      refusal = quiet;
    } in
    let nobody : (user : ℕ) (due : Due) → due_in long core.entries user ≡ Some due → ⊥ =
    λ user due is. some_not_none (sym is ∙ ap (λ (es : List Entry). due_in long es user) empty) in
    let users : List (Option Due) = replicate limit None in
    let size : length users ≡ limit = length-replicate limit None in
    record {
      stage_is = record {
        timed = timed;
        planned = planned;
        lasts = lasts;
        played = subst (λ (es : List Entry). IsPlayed plan long es 0 None false) (sym empty) start;
        dues = record { count = size ∙ most; each = λ user. nobody_at limit user ∙ sym (ap (λ (es : List Entry). due_in long es user) empty) };
      };
      ends = λ user due is. absurd (nobody user due is);
      below = λ user due is less. absurd (nobody user due is);
      order = λ e now back above. subst (λ (es : List Entry). may_come es e ≡ true) (sym empty) refl;
      ended = λ b. absurd (cc);
    }

-- ---- a later moment

module _ (stage : Stage) (acting : IsActing stage) where
  in_table : (user : ℕ) (due : Due) → playing stage user ≡ Some due → due_at stage.dues user ≡ Some due
  in_table user due is = acting.stage_is.dues.each user ∙ is

  -- whoever plays ends at the last moment at the latest
  ends_within : (user : ℕ) (due : Due) → playing stage user ≡ Some due → due.end ≤ last_moment
  ends_within user due is =
      let P : Option Play → Type 0 = λ o. option_map (due_of stage.length) o ≡ Some due → due.end ≤ last_moment in
      let go : P (play_of user stage.core.entries) = elim (play_of user stage.core.entries) as P [
        | None ↦ λ at. absurd (some_not_none (sym at))
        | Some play ↦ λ at.
            let ends : min (moment_after play.start stage.length) play.until ≡ due.end = ap (λ (o : Option Due). option_map_or (λ (d : Due). d.end) o 0) at in omega arith
      ] in go is

  nobody_past : (user : ℕ) (due : Due) → playing stage user ≡ Some due → last_moment ≤ stage.moment → ⊥
  nobody_past user due is late =
      let later : stage.moment < due.end = acting.ends user due is in
      let within = ends_within user due is in absurd (omega arith)

  unstopped : (stage_state stage).stop_commanded ≡ false
  unstopped = rehearsed_unstopped (stage_plan stage) stage.core.entries (opening (stage_plan stage)) acting.stage_is.played.entries refl

  -- a wait is for a later moment
  waits_later : (m : ℕ) → IsPause stage (said.Waits m) → stage.moment < m
  waits_later m pause =
      let is : m ≡ wait_moment (stage_plan stage) (stage_state stage) stage.moment = pause.1 in
      elim (dec_lt stage.moment last_moment) [
        | yes before ↦ let later = wait_later (stage_plan stage) (stage_state stage) stage.moment before in omega arith
        | no late ↦
            let past : last_moment ≤ stage.moment = omega arith in
            let legal = acting.stage_is.played.legal in
            let busy = plays_at_the_end (stage_plan stage) stage.core.entries stage.moment acting.stage_is.timed legal unstopped pause.0 past pause.3 in
            let plays = busy_plays (stage_plan stage) stage.core.entries busy.0 busy.1 busy.2 legal busy.3 (In-of busy.4) busy.5 in
            absurd (nobody_past busy.2.user (due_of stage.length plays.0) (ap (λ (o : Option Play). option_map (due_of stage.length) o) plays.1) past)
      ]

  -- at a later moment, no later than any end, iterations may be returned
  goes_on : (next : ℕ) (full : Option FullJournal) (blocked : Bool) → stage.moment < next → ((user : ℕ) (due : Due) → playing stage user ≡ Some due → next ≤ due.end) →
      IsPlayed (stage_plan stage) stage.length stage.core.entries next (option_map full_reply full) blocked →
      (blocked ≡ true → (user : ℕ) × (due : Due) × (0 ≤ user) × (playing stage user ≡ Some due) × (due.end ≡ next)) →
      IsReturning (record stage { moment = next; full = full }) 0 blocked
  goes_on next full blocked later least played ended =
      let is = acting.stage_is in
      let past = is.played.past in
      record {
        stage_is = record { timed = is.timed; planned = is.planned; lasts = is.lasts; played = played; dues = is.dues };
        ends = least;
        below = λ user due at less. absurd (omega arith);
        order = λ e now back above. later_may_come 0 stage.core.entries e (omega arith);
        ended = ended;
      }

  -- behind a wait
  pub goes_on_waiting : (m next : ℕ) → IsPause stage (said.Waits m) → next ≡ option_map_or (min m) (least_of (ends_of stage.dues)) m →
      (stage.moment < next) × MayReturn (record stage { moment = next }) 0
  goes_on_waiting m next pause is =
      let later = waits_later m pause in
      let Q : Option ℕ → Type 0 = λ o. least_of (ends_of stage.dues) ≡ o → next ≡ option_map_or (min m) o m →
      (stage.moment < next) × (next ≤ m) × ((user : ℕ) (due : Due) → playing stage user ≡ Some due → next ≤ due.end) in
      let facts : Q (least_of (ends_of stage.dues)) = elim (least_of (ends_of stage.dues)) as Q [
        | None ↦ λ none same. (omega arith, omega arith, (λ user due at. absurd (none_ends stage.dues none user due (in_table user due at))))
        | Some k ↦ λ some same.
            let one = some_end stage.dues k some in
            let after : stage.moment < one.1.end = acting.ends one.0 one.1 (sym (acting.stage_is.dues.each one.0) ∙ one.2) in
            let end : one.1.end ≡ k = one.3 in
            (omega arith, omega arith, (λ user due at. let least = least_end stage.dues k some user due (in_table user due at) in omega arith))
      ] in
      let fact = facts refl is in
      let before : stage.moment < next = fact.0 in
      let within : next ≤ m = fact.1 in
      let quiet : NothingEnabled (stage_plan stage) (stage_state stage) stage.moment next = λ t low high. pause.2 t low (omega arith) in
      let played = played_later (stage_plan stage) stage.length stage.core.entries stage.moment next (option_map full_reply stage.full) acting.stage_is.played (omega arith) quiet in
      (before, (false, goes_on next stage.full false before fact.2 played (λ b. absurd (cc))))

  -- ---- without room

  full_first : (o : Option FullJournal) (full : FullJournal) → option_map full_reply (option_or o (Some full)) ≡ option_or (option_map full_reply o) (Some (full_reply full))
  full_first None full = refl
  full_first (Some other) full = refl

  blocked_at : (full : FullJournal) (next : ℕ) → IsRefusedAt (stage_plan stage) (stage_state stage) stage.moment (full_reply full) → stage.moment < next →
      IsPlayed (stage_plan stage) stage.length stage.core.entries next (option_map full_reply (option_or stage.full (Some full))) true
  blocked_at full next refused later =
      subst (λ (o : Option Reply). IsPlayed (stage_plan stage) stage.length stage.core.entries next o true) (sym (full_first stage.full full))
      (played_blocked (stage_plan stage) stage.length stage.core.entries stage.moment next (option_map full_reply stage.full) (full_reply full) acting.stage_is.played later refused)

  -- somebody plays
  pub goes_on_full : (full : FullJournal) (end : ℕ) → IsRefusedAt (stage_plan stage) (stage_state stage) stage.moment (full_reply full) → least_of (ends_of stage.dues) ≡ Some end →
      (stage.moment < end) × (end ≤ last_moment) × MayReturn (record stage { moment = end; full = option_or stage.full (Some full) }) 0
  goes_on_full full end refused some =
      let one = some_end stage.dues end some in
      let plays : playing stage one.0 ≡ Some one.1 = sym (acting.stage_is.dues.each one.0) ∙ one.2 in
      let after : stage.moment < one.1.end = acting.ends one.0 one.1 plays in
      let same : one.1.end ≡ end = one.3 in
      let later : stage.moment < end = omega arith in
      let high : one.1.end ≤ last_moment = ends_within one.0 one.1 plays in
      let within : end ≤ last_moment = omega arith in (
        later,
        within,
        (
          true,
          goes_on end (option_or stage.full (Some full)) true later (λ user due at. least_end stage.dues end some user due (in_table user due at)) (blocked_at full end refused later)
              (λ b. (one.0, one.1, omega arith, plays, same)),
        ),
      )

  some_first : (o : Option FullJournal) (full : FullJournal) → (first : FullJournal) × (option_or o (Some full) ≡ Some first)
  some_first None full = (full, refl)
  some_first (Some other) full = (other, refl)

  -- nobody plays
  pub ends_full : (full : FullJournal) → IsRefusedAt (stage_plan stage) (stage_state stage) stage.moment (full_reply full) → least_of (ends_of stage.dues) ≡ None →
      IsEnded (record stage { full = option_or stage.full (Some full) })
  ends_full full refused none =
      let first = some_first stage.full full in
      let reply : option_map full_reply (option_or stage.full (Some full)) ≡ Some (full_reply first.0) = ap (λ (o : Option FullJournal). option_map full_reply o) first.1 in
      let played = subst (λ (o : Option Reply). IsPlayed (stage_plan stage) stage.length stage.core.entries (stage.moment + 1) o true) reply (blocked_at full (stage.moment + 1) refused (omega arith)) in
      let whole = played_full (stage_plan stage) stage.length stage.core.entries (stage.moment + 1) (full_reply first.0) played
      (λ user play at. none_ends stage.dues none user (due_of stage.length play) (in_table user _ (ap (λ (o : Option Play). option_map (due_of stage.length) o) at))) in
      record {
        rehearsed = whole.0;
        first = subst (λ (o : Option Reply). FirstRefusal (stage_plan stage) stage.core.entries o) (sym reply) whole.1;
        closed = λ empty. absurd (some_not_none (sym first.1 ∙ empty));
      }

  -- ---- the end

  closed_quiet : all_closed (stage_state stage) ≡ true → (t : ℕ) → enabled (stage_plan stage) (stage_state stage) t ≡ []
  closed_quiet closed t =
      let P : List Move → Type 0 = λ moves. (first_moves (stage_plan stage) (stage_state stage) t ≡ moves) → moves ≡ [] in
      let go : P (first_moves (stage_plan stage) (stage_state stage) t) = elim (first_moves (stage_plan stage) (stage_state stage) t) as P [
        | [] ↦ λ is. refl
        | m ∷ ms ↦ λ is. absurd (
            let at = first_enabled (stage_plan stage) (stage_state stage) t m (subst (λ (xs : List Move). In m xs) (sym is) here) in
            let open_one = act_open (stage_plan stage) (stage_state stage) t at.number m (at.scenario, at.stands, Contains-from_In m at.enabled) in
            true_not_false (sym closed ∙ open_one)
            )
      ] in none_first (enabled (stage_plan stage) (stage_state stage) t) (go refl)
    where
      true_not_false : true ≡ false → ⊥
      true_not_false e = cc

  pub ends_over : IsPause stage said.Over → IsEnded stage
  ends_over closed =
      let played = acting.stage_is.played in
      let settled : IsSettled (stage_plan stage) stage.core.entries = is_settled_where_closed (stage_plan stage) stage.core.entries played.legal unstopped closed in
      let whole = played_over (stage_plan stage) stage.length stage.core.entries stage.moment (option_map full_reply stage.full) played
      (settled_returned (stage_plan stage) stage.core.entries settled) (λ t low. closed_quiet closed t) in
      record { rehearsed = whole.0; first = whole.1; closed = λ none. closed }

-- the run of two steps at one moment
pub same_run : (a b c : Stage) → IsSameMoment a b → IsSameMoment b c → IsSameRun a c
same_run a b c one two = record { plan = two.run.plan ∙ one.run.plan; length = two.run.length ∙ one.run.length }

-- and to a later moment
pub same_later : (a b c : Stage) (next : ℕ) → IsSameMoment a b → IsSameMoment b c → IsSameRun a (record c { moment = next })
same_later a b c next one two = record { plan = two.run.plan ∙ one.run.plan; length = two.run.length ∙ one.run.length }

-- a round whose next moment is later than that of a stage at the same moment
pub later_round : (a b c : Stage) (next : ℕ) → IsSameMoment a b → IsSameMoment b c → c.moment < next → a.moment < next
later_round a b c next one two later =
    let first : b.moment ≡ a.moment = one.moment in
    let second : c.moment ≡ b.moment = two.moment in omega arith

-- ---- the whole rehearsal

module _ (plan : PlanView) (long : ℕ) (stage new : Stage) (history : List Entry) (opening_is : IsOpened plan long stage) (run : IsSameRun stage new) (end : IsEnded new)
    (same : history ≡ new.core.entries) where
  plans : new.core.plan ≡ plan
  plans = run.plan ∙ opening_is.plan_is

  pub whole_rehearsed : IsRehearsed plan.plan long history
  whole_rehearsed =
      let lengths : new.length ≡ long = run.length ∙ opening_is.length_is in
      rw (same, ← plans, ← lengths) end.rehearsed

  pub whole_settled : new.full ≡ None → IsSettled plan.plan history
  whole_settled empty =
      let closed : all_closed (state_after plan.plan history) ≡ true = rw (same, ← plans) (end.closed empty) in
      let rehearsed = whole_rehearsed in
      is_settled_where_closed plan.plan history rehearsed.legal (rehearsed_unstopped plan.plan history (opening plan.plan) rehearsed.entries refl) closed

  pub whole_in_time : WellTimed plan.plan → new.full ≡ None → nothing_late history ≡ true
  whole_in_time timed empty =
      let rehearsed = whole_rehearsed in
      let first : FirstRefusal plan.plan history None =
      rw (same, ← plans) (subst (λ (o : Option FullJournal). FirstRefusal (stage_plan new) new.core.entries (option_map full_reply o)) empty end.first) in
      steps_on_time plan.plan timed history (opening plan.plan) 0 rehearsed.legal first (opening_answered plan.plan timed)
