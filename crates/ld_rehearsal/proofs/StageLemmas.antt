-- The stage behind an act that was performed, and where none was.
use Rattle.std.proofs.Common.{◌≡◌, ◌<◌, ◌≤◌, ◌+◌, ◌-◌, ◌==◌, if◌then◌else◌, ℕ, Bool, true, false, min, List, [], ◌∷◌, ◌++◌, Option, None, Some, Contains, arith, ap, length, refl, set, sym, subst, append-nil, ◌∙◌}
use Rattle.std.specs.Prelude.{option_map}
use Rattle.std.specs.Option.{option_map_or}
use Rattle.std.proofs.lemmas.List.{length-append}
use Rattle.ld_base.specs.Stint.{StintView}
use Rattle.ld_base.specs.declared.act.Act.TheVariants.{Start}
use Rattle.ld_base.specs.declared.ask.Ask.TheVariants as asks
use Rattle.ld_base.specs.declared.entry.Entry.{Entry}
use Rattle.ld_base.specs.declared.reply.Reply.{Reply}
use Rattle.ld_base.specs.declared.reply.Reply.TheVariants.{Run, Wait, Over, Full}
use Rattle.ld_base.specs.declared.reply.Room.{Room}
use Rattle.ld_core.specs.CoreView.{CoreView, IsAsked}
use Rattle.ld_machine.specs.Acts.{acts_of}
use Rattle.ld_machine.specs.Effect.{state_after}
use Rattle.ld_machine.specs.History.{IsLegal}
use Rattle.ld_machine.specs.Moment.{last_moment, moment_after}
use Rattle.ld_machine.specs.Moves.{Answer, CountLate, StartOn, GrowAndStart, TakeAndStart, DropArrival, Move, StopScenario, ReleaseUser, TakeUser, AnswerArrival, StartIteration, DropIteration, CloseScenario}
use Rattle.ld_machine.specs.Order.{first_moves}
use Rattle.ld_machine.specs.Plan.{Plan}
use Rattle.ld_machine.specs.Playing.{Play, play_after, play_of}
use Rattle.ld_machine.specs.Replies.{reply_to}
use Rattle.ld_machine.specs.Step.{Result, IsStep, entries_of, performed}
use Rattle.ld_machine.specs.WellTimed.{WellTimed}
use Rattle.ld_machine.proofs.LegalLemmas.{goes_on_legally}
use Rattle.ld_machine.proofs.ListLemmas.{here, there, Contains-from_In, number_itself, some_not_none}
use Rattle.ld_machine.proofs.PlayersLemmas.{player_made}
use Rattle.ld_machine.proofs.StartsLastLemmas.{start_in_step}
use Rattle.ld_plan.specs.PlanView.{PlanView}
use Rattle.ld_rehearsal.specs.Dues.{due_at, due_of, play_at}
use Rattle.ld_rehearsal.specs.Played.{IsPlayed}
use Rattle.ld_rehearsal.specs.Stage.{full_reply, stage_plan, stage_state, IsActing, IsAnswered}
use Rattle.ld_rehearsal.specs.declared.due.Due.{Due}
use Rattle.ld_rehearsal.specs.declared.stage.Said.TheVariants as said
use Rattle.ld_rehearsal.specs.declared.stage.Stage.{Stage}
use Rattle.ld_rehearsal.proofs.DueLemmas.{due_changed}
use Rattle.ld_rehearsal.proofs.PlayLemmas.{play_appended}
use Rattle.ld_rehearsal.proofs.PlayedLemmas.{played_act}
use Rattle.ld_rehearsal.proofs.ReplyLemmas.{ActStep, act_plays, act_step, act_writes, kind, on_act, on_full, on_over, on_wait, play_by, quiet_to, stint_in}

-- ---- the stage with another history and table

abbrev pub with_entries : Stage → List Entry → Stage
with_entries stage entries = record stage { core = record { plan = stage.core.plan; entries = stage.core.entries ++ entries } }

pub core_is : (core : CoreView) (plan : PlanView) (entries : List Entry) → core.plan ≡ plan → core.entries ≡ entries → core ≡ record { plan = plan; entries = entries }
core_is core plan entries p e = rw (← p, ← e) refl

-- ---- a stint that is handed out

in_first : (e : Entry) (rest : List Entry) → Contains (e ∷ rest) e
in_first e rest = Contains-from_In e here

in_second : (one e : Entry) (rest : List Entry) → Contains (one ∷ e ∷ rest) e
in_second one e rest = Contains-from_In e (there here)

-- the entries have the Start of a stint
abbrev pub IsStarted : List Entry → StintView → Type 0
IsStarted entries stint = (e : Entry) × Contains entries e × (e.act ≡ Start stint.scenario stint.user stint.item stint.until)

started_by : (at t scenario user item until : ℕ) (stint : StintView) → Some (record { scenario = scenario; user = user; item = item; until = until }) ≡ Some stint →
    Start scenario user item until ≡ Start stint.scenario stint.user stint.item stint.until
started_by at t scenario user item until stint is =
    ap (λ (o : Option StintView). option_map_or (λ (s : StintView). Start s.scenario s.user s.item s.until) o (Start 0 0 0 0)) is

answer_hands_out : (at t n due item until : ℕ) (answer : Answer) (stint : StintView) → stint_in (reply_to (AnswerArrival n due item until answer)) ≡ Some stint →
    IsStarted (entries_of at 0 t (acts_of (AnswerArrival n due item until answer))) stint
answer_hands_out at t n due item until CountLate stint is = absurd (some_not_none (sym is))
answer_hands_out at t n due item until (StartOn user) stint is = (_, in_first _ [], started_by at t n user item until stint is)
answer_hands_out at t n due item until (GrowAndStart user slot) stint is = (_, in_second _ _ [], started_by at t n user item until stint is)
answer_hands_out at t n due item until (TakeAndStart user slot) stint is = (_, in_second _ _ [], started_by at t n user item until stint is)
answer_hands_out at t n due item until DropArrival stint is = absurd (some_not_none (sym is))

hands_out : (at t : ℕ) (move : Move) (stint : StintView) → stint_in (reply_to move) ≡ Some stint → IsStarted (entries_of at 0 t (acts_of move)) stint
hands_out at t (StopScenario n) stint is = absurd (some_not_none (sym is))
hands_out at t (ReleaseUser n user) stint is = absurd (some_not_none (sym is))
hands_out at t (TakeUser n user slot) stint is = absurd (some_not_none (sym is))
hands_out at t (AnswerArrival n due item until answer) stint is = answer_hands_out at t n due item until answer stint is
hands_out at t (StartIteration n user item until) stint is = (_, in_first _ [], started_by at t n user item until stint is)
hands_out at t (DropIteration n item) stint is = absurd (some_not_none (sym is))
hands_out at t (CloseScenario n) stint is = absurd (some_not_none (sym is))

-- ---- what an act that was performed tells

module _ (plan : Plan) (history : List Entry) (t : ℕ) (r : Result) (step : IsStep plan (state_after plan history) 0 asks.Act t r) (acts : kind r.reply ≡ 3) where
  done : (move : Move) × Contains (first_moves plan (state_after plan history) t) move × (r ≡ performed plan (state_after plan history) 0 t (reply_to move) (acts_of move))
  done = on_act plan (state_after plan history) t r (act_step plan (state_after plan history) t r step) acts

  wrote : r.entries ≡ entries_of ((state_after plan history).entries + 1) 0 t (acts_of done.0)
  wrote = ap (λ (x : Result). x.entries) done.2

  replied : r.reply ≡ reply_to done.0
  replied = ap (λ (x : Result). x.reply) done.2

  -- what each user plays
  pub acted_plays : (user : ℕ) → play_of user (history ++ r.entries) ≡ play_by t r.reply user (play_of user history)
  acted_plays user =
      play_appended user None history r.entries
      ∙ ap (λ (es : List Entry). play_after user (play_of user history) es) wrote
      ∙ act_plays ((state_after plan history).entries + 1) t done.0 user (play_of user history)
      ∙ ap (λ (x : Reply). play_by t x user (play_of user history)) (sym replied)

  -- it added something
  pub acted_writes : 1 ≤ length r.entries
  acted_writes = subst (λ (es : List Entry). 1 ≤ length es) (sym wrote) (act_writes ((state_after plan history).entries + 1) t done.0)

  -- a stint that was handed out lasts for some time
  pub acted_lasts : (stint : StintView) → WellTimed plan → stint_in r.reply ≡ Some stint → t < stint.until
  acted_lasts stint timed is =
      let started = hands_out ((state_after plan history).entries + 1) t done.0 stint (ap stint_in (sym replied) ∙ is) in
      start_in_step plan (state_after plan history) 0 t r started.0 stint.scenario stint.user stint.item stint.until timed step
      (subst (λ (es : List Entry). Contains es started.0) (sym wrote) started.1) started.2

  pub acted_played : (long : ℕ) (first : Option Reply) → IsPlayed plan long history t first false → IsPlayed plan long (history ++ r.entries) t first false
  acted_played long first p = played_act plan long history t first done.0 r p step done.2

-- ---- an act was performed

-- what a table behind an act shows: who is handed out, and all others as before
abbrev pub ShowsReply : Stage → Reply → List (Option Due) → Type 0
ShowsReply old reply dues =
    (user : ℕ) → due_at dues user ≡ option_map (due_of old.length) (play_by old.moment reply user (play_of user old.core.entries))

-- what is played behind a reply ends later, where what was played before does, and what is handed out does
ends_by : (t long user : ℕ) (handed : Option StintView) (before : Option Play) (due : Due) → 1 ≤ long →
    ((d : Due) → option_map (due_of long) before ≡ Some d → t < d.end) →
    ((stint : StintView) → handed ≡ Some stint → (t < stint.until) × (stint.until ≤ last_moment)) →
    option_map (due_of long) (option_map_or (λ (stint : StintView). if stint.user == user then Some (play_at t stint) else before) handed before) ≡ Some due → t < due.end
ends_by t long user None before due lasts old new is = old due is
ends_by t long user (Some stint) before due lasts old new is =
    let P : Bool → Type 0 = λ b. option_map (due_of long) (if b then Some (play_at t stint) else before) ≡ Some due → t < due.end in
    let go : P (stint.user == user) = elim (stint.user == user) as P [
      | true ↦ λ at.
          let ends : min (moment_after t long) stint.until ≡ due.end = ap (λ (o : Option Due). option_map_or (λ (d : Due). d.end) o 0) at in
          let later = new stint refl in
          let after : t < stint.until = later.0 in
          let within : stint.until ≤ last_moment = later.1 in
          omega arith
      | false ↦ λ at. old due at
    ] in go is

acted_stage : (old : Stage) (r : Result) (dues : List (Option Due)) → IsActing old → IsStep (stage_plan old) (stage_state old) 0 asks.Act old.moment r → kind r.reply ≡ 3 →
    ShowsReply old r.reply dues → length dues ≡ length old.dues → ((stint : StintView) → stint_in r.reply ≡ Some stint → stint.until ≤ last_moment) →
    IsAnswered old (record (with_entries old r.entries) { dues = dues }) said.Acted
acted_stage old r dues acting step acts shows count within =
    let plan = stage_plan old in
    let history = old.core.entries in
    let stage = acting.stage_is in
    let plays = acted_plays plan history old.moment r step acts in
    let writes = acted_writes plan history old.moment r step acts in
    record {
      same = record { run = record { plan = refl; length = refl }; moment = refl; full = refl };
      acting = record {
        stage_is = record {
          timed = stage.timed;
          planned = stage.planned;
          lasts = stage.lasts;
          played = acted_played plan history old.moment r step acts old.length (option_map full_reply old.full) stage.played;
          dues = record {
            count = count ∙ stage.dues.count;
            each = λ user. shows user ∙ ap (λ (o : Option Play). option_map (due_of old.length) o) (sym (plays user));
          };
        };
        ends = λ user due is.
            ends_by old.moment old.length user (stint_in r.reply) (play_of user history) due stage.lasts
            (λ d at. acting.ends user d at)
            (λ stint at. (acted_lasts plan history old.moment r step acts stint stage.timed at, within stint at))
            (ap (λ (o : Option Play). option_map (due_of old.length) o) (sym (plays user)) ∙ is);
      };
      answer = let more : length (history ++ r.entries) ≡ length history + length r.entries = length-append history r.entries in omega arith;
    }

-- the core behind an ask, in terms of its step
asked_core : (old core : CoreView) (t : ℕ) (reply : Reply) (asked : IsAsked old core 0 asks.Act t reply) →
    core ≡ record { plan = old.plan; entries = old.entries ++ asked.result.entries }
asked_core old core t reply asked = core_is core old.plan (old.entries ++ asked.result.entries) asked.plan asked.entries

pub acted : (old : Stage) (core : CoreView) (reply : Reply) (dues : List (Option Due)) → IsActing old → IsAsked old.core core 0 asks.Act old.moment reply → kind reply ≡ 3 →
    ShowsReply old reply dues → length dues ≡ length old.dues → ((stint : StintView) → stint_in reply ≡ Some stint → stint.until ≤ last_moment) →
    IsAnswered old (record old { core = core; dues = dues }) said.Acted
acted old core reply dues acting asked acts shows count within =
    let is : reply ≡ asked.result.reply = asked.reply_is in
    subst (λ (c : CoreView). IsAnswered old (record old { core = c; dues = dues }) said.Acted) (sym (asked_core old.core core old.moment reply asked))
    (acted_stage old asked.result dues acting asked.step (rw (← is) acts)
    (rw (← is) shows) count (rw (← is) within))

-- no stint is handed out: the table stays
pub shows_still : (old : Stage) (reply : Reply) → IsActing old → stint_in reply ≡ None → ShowsReply old reply old.dues
shows_still old reply acting none user = acting.stage_is.dues.each user ∙ rw none refl

-- a stint is handed out: its user plays it
pub shows_begun : (old : Stage) (stint : StintView) → IsActing old → 1 ≤ stint.user → stint.user ≤ length old.dues →
    ShowsReply old (Run stint) (set old.dues (stint.user - 1) (Some (due_of old.length (play_at old.moment stint))))
shows_begun old stint acting some within user =
    let due = due_of old.length (play_at old.moment stint) in
    let changed = due_changed old.dues stint.user (Some due) user some within in
    let P : Bool → Type 0 = λ b. (if b then Some due else due_at old.dues user)
    ≡ option_map (due_of old.length) (if b then Some (play_at old.moment stint) else play_of user old.core.entries) in
    let go : P (stint.user == user) = elim (stint.user == user) as P [ true ↦ refl | false ↦ acting.stage_is.dues.each user ] in
    changed ∙ go

-- a stint that is handed out is of a user in the table
pub begins_within : (old : Stage) (core : CoreView) (stint : StintView) → IsActing old → IsAsked old.core core 0 asks.Act old.moment (Run stint) →
    (1 ≤ stint.user) × (stint.user ≤ length old.dues)
begins_within old core stint acting asked =
    let plan = stage_plan old in
    let history = old.core.entries in
    let stage = acting.stage_is in
    let r = asked.result in
    let legal : IsLegal plan (history ++ r.entries) = goes_on_legally plan history 0 asks.Act old.moment r stage.played.legal asked.step in
    let acts : kind r.reply ≡ 3 = ap kind (sym asked.reply_is) in
    let plays = acted_plays plan history old.moment r asked.step acts stint.user in
    let is : play_by old.moment r.reply stint.user (play_of stint.user history) ≡ Some (play_at old.moment stint) =
    rw (← asked.reply_is, number_itself stint.user) refl in
    let made = player_made plan (history ++ r.entries) stint.user (play_at old.moment stint) stage.planned legal (plays ∙ is) in
    let count = stage.dues.count in
    let low : 1 ≤ stint.user = made.0 in
    let high : stint.user ≤ plan.limit = made.1 in
    (low, omega arith)

-- ---- no act was performed

module _ (old : Stage) (core : CoreView) (acting : IsActing old) where
  -- the stage is as it was
  paused : (reply : Reply) (asked : IsAsked old.core core 0 asks.Act old.moment reply) → asked.result.entries ≡ [] → record old { core = core } ≡ old
  paused reply asked none =
      let same : core ≡ old.core =
      core_is core old.core.plan old.core.entries asked.plan (asked.entries ∙ ap (λ (es : List Entry). old.core.entries ++ es) none ∙ append-nil old.core.entries) in
      ap (λ (c : CoreView). record old { core = c }) same

  step_of : (reply : Reply) (asked : IsAsked old.core core 0 asks.Act old.moment reply) → ActStep (stage_plan old) (stage_state old) old.moment asked.result
  step_of reply asked = act_step (stage_plan old) (stage_state old) old.moment asked.result asked.step

  pub waited : (m : ℕ) → IsAsked old.core core 0 asks.Act old.moment (Wait m) → IsAnswered old (record old { core = core }) (said.Waits m)
  waited m asked =
      let told = on_wait (stage_plan old) (stage_state old) old.moment m asked.result (step_of (Wait m) asked) asked.reply_is in
      let quiet = quiet_to (stage_plan old) (stage_state old) old.moment m asked.result asked.step asked.reply_is in
      subst (λ (new : Stage). IsAnswered old new (said.Waits m)) (sym (paused (Wait m) asked told.3))
      (record { same = record { run = record { plan = refl; length = refl }; moment = refl; full = refl }; acting = acting; answer = (refl, (told.0, told.1, quiet, told.2)) })

  pub ended : IsAsked old.core core 0 asks.Act old.moment Over → IsAnswered old (record old { core = core }) said.Over
  ended asked =
      let told = on_over (stage_plan old) (stage_state old) old.moment asked.result (step_of Over asked) asked.reply_is in
      subst (λ (new : Stage). IsAnswered old new said.Over) (sym (paused Over asked told.1))
      (record { same = record { run = record { plan = refl; length = refl }; moment = refl; full = refl }; acting = acting; answer = (refl, told.0) })

  pub refused : (room : Room) (needed limit : ℕ) → IsAsked old.core core 0 asks.Act old.moment (Full room needed limit) →
      IsAnswered old (record old { core = core }) (said.Full (record { room = room; needed = needed; limit = limit }))
  refused room needed limit asked =
      let told = on_full (stage_plan old) (stage_state old) old.moment room needed limit asked.result (step_of (Full room needed limit) asked) asked.reply_is in
      subst (λ (new : Stage). IsAnswered old new (said.Full (record { room = room; needed = needed; limit = limit }))) (sym (paused (Full room needed limit) asked told.1))
      (record { same = record { run = record { plan = refl; length = refl }; moment = refl; full = refl }; acting = acting; answer = (refl, told.0) })
