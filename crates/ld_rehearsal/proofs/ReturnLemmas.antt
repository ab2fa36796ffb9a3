-- The stage behind a Return, and where nothing is to be returned.
use Rattle.std.proofs.Common.{◌≡◌, ◌≢◌, ◌<◌, ◌≤◌, ◌+◌, ◌-◌, ◌==◌, ◌&&◌, ◌||◌, not, nat_le, nat_lt, if◌then◌else◌, ℕ, Bool, true, false, List, [], ◌∷◌, ◌++◌, Option, None, Some, arith, ap, length, length-set, refl, set, sym, subst, ◌∙◌}
use Rattle.std.specs.Prelude.{option_map}
use Rattle.std.specs.List.{list_all}
use Rattle.std.specs.Option.{option_map_or}
use Rattle.std.proofs.Math.Decide.{dec_lt}
use Rattle.std.proofs.lemmas.Grind.{common_steps}
use Rattle.ld_base.specs.Stint.{StintView, stint_of}
use Rattle.ld_base.specs.Tally.{TallyView}
use Rattle.ld_base.specs.declared.act.Act.{Act}
use Rattle.ld_base.specs.declared.act.Act.TheVariants.{Take, Grow, Start, Drop, Late, Return, Release, Stop, Close, Control}
use Rattle.ld_base.specs.declared.ask.Ask.TheVariants as asks
use Rattle.ld_base.specs.declared.entry.Entry.{Entry}
use Rattle.ld_base.specs.declared.reply.Reply.{Reply}
use Rattle.ld_base.specs.declared.reply.Reply.TheVariants.{Noted}
use Rattle.ld_core.specs.Changes.{IsReturn}
use Rattle.ld_core.specs.CoreView.{CoreView, IsAsked}
use Rattle.ld_machine.specs.History.{IsLegal}
use Rattle.ld_machine.specs.Playing.{Play, play_after, play_behind, play_of, stint_of_play}
use Rattle.ld_machine.specs.Rehearsal.{is_rehearsed_entry, is_return, may_follow, returned_user}
use Rattle.ld_machine.specs.Room.{script_room}
use Rattle.ld_machine.specs.State.{busy_count}
use Rattle.ld_machine.specs.Step.{Result, is_out}
use Rattle.ld_machine.proofs.KeepsRoomLemmas.{legal_room}
use Rattle.ld_machine.proofs.LegalLemmas.{goes_on_legally}
use Rattle.ld_machine.proofs.ListLemmas.{both_true, some_not_none}
use Rattle.ld_machine.proofs.PlayersLemmas.{player_made}
use Rattle.ld_machine.proofs.PlayingLemmas.{legal_matches}
use Rattle.ld_plan.specs.PlanView.{PlanView}
use Rattle.ld_rehearsal.specs.Dues.{due_at, due_in, due_of, EndsLater}
use Rattle.ld_rehearsal.specs.Stage.{full_reply, playing, stage_plan, stage_state, IsActing, IsAnswered, IsDue, IsReturning, IsSameMoment, IsStage, MayReturn}
use Rattle.ld_rehearsal.specs.declared.due.Due.{Due}
use Rattle.ld_rehearsal.specs.declared.stage.Said.TheVariants.{Acted}
use Rattle.ld_rehearsal.specs.declared.stage.Stage.{Stage}
use Rattle.ld_rehearsal.proofs.DueLemmas.{due_changed}
use Rattle.ld_rehearsal.proofs.GrowLemmas.{may_come_behind}
use Rattle.ld_rehearsal.proofs.PlayLemmas.{play_grown}
use Rattle.ld_rehearsal.proofs.PlayedLemmas.{play_return, played_return}
use Rattle.ld_rehearsal.proofs.ReplyLemmas.{return_step}
use Rattle.ld_rehearsal.proofs.StageLemmas.{core_is}

-- ---- who plays

begins_zero : (user t : ℕ) (thread : ℕ) (act : Act) (before : Option Play) (play : Play) → thread ≡ 0 → ((p : Play) → before ≡ Some p → p.thread ≡ 0) →
    play_behind user thread t act before ≡ Some play → play.thread ≡ 0
begins_zero user t thread (Start n other item until) before play zeroth old is =
    let P : Bool → Type 0 = λ b. (if b then Some (record { thread = thread; start = t; scenario = n; item = item; until = until }) else before) ≡ Some play → play.thread ≡ 0 in
    let go : P (other == user) = elim (other == user) as P [
      | true ↦ λ at. sym (ap (λ (o : Option Play). option_map_or (λ (p : Play). p.thread) o 0) at) ∙ zeroth
      | false ↦ λ at. old play at
    ] in go is
begins_zero user t thread (Return n other item outcome tally) before play zeroth old is =
    let P : Bool → Type 0 = λ b. (if b then None else before) ≡ Some play → play.thread ≡ 0 in
    let go : P (other == user) = elim (other == user) as P [ true ↦ λ at. absurd (some_not_none (sym at)) | false ↦ λ at. old play at ] in go is
begins_zero user t thread (Take n other slot) before play zeroth old is = old play is
begins_zero user t thread (Grow n other slot) before play zeroth old is = old play is
begins_zero user t thread (Drop n item) before play zeroth old is = old play is
begins_zero user t thread (Late n item) before play zeroth old is = old play is
begins_zero user t thread (Release n other) before play zeroth old is = old play is
begins_zero user t thread (Stop n) before play zeroth old is = old play is
begins_zero user t thread (Close n) before play zeroth old is = old play is
begins_zero user t thread (Control command) before play zeroth old is = old play is

thread_zero : (user : ℕ) (history : List Entry) (before : Option Play) (play : Play) → list_all is_rehearsed_entry history ≡ true → ((p : Play) → before ≡ Some p → p.thread ≡ 0) →
    play_after user before history ≡ Some play → play.thread ≡ 0
thread_zero user [] before play all old is = old play is
thread_zero user (x ∷ rest) before play all old is =
    let both = both_true (is_rehearsed_entry x) (list_all is_rehearsed_entry rest) all in
    let zeroth : x.thread ≡ 0 = let one = (both_true (x.thread == 0) _ both.0).0 in grind (arith, common_steps) in
    thread_zero user rest (play_behind user x.thread x.reading x.act before) play both.1
    (λ p at. begins_zero user x.reading x.thread x.act before p zeroth old at) is

-- what is in the table is played
pub due_played : (long : ℕ) (o : Option Play) (due : Due) → option_map (due_of long) o ≡ Some due → (play : Play) × (o ≡ Some play) × (due_of long play ≡ due)
due_played long None due is = absurd (some_not_none (sym is))
due_played long (Some play) due is = (play, refl, ap (λ (o : Option Due). option_map_or (λ (d : Due). d) o due) is)

-- ---- a Return

nothing_fits : (room : ℕ) → (nat_le 0 room && true) ≡ true
nothing_fits room = let low : nat_le 0 room ≡ true = grind (arith, common_steps) in rw low refl

module _ (stage : Stage) (user : ℕ) (play : Play) (blocked : Bool) (returning : IsReturning stage user blocked) (plays : play_of user stage.core.entries ≡ Some play) where
  abbrev history : List Entry
  history = stage.core.entries

  legal : IsLegal (stage_plan stage) history
  legal = returning.stage_is.played.legal

  made : (1 ≤ user) × (user ≤ (stage_plan stage).limit)
  made = player_made (stage_plan stage) history user play returning.stage_is.planned legal plays

  -- it is a user of the table
  pub plays_within : (1 ≤ user) × (user ≤ length stage.dues)
  plays_within =
      let count = returning.stage_is.dues.count in
      let high : user ≤ (stage_plan stage).limit = made.1 in (made.0, omega arith)

  -- its stint may be returned
  pub may_return : IsReturn stage.core 0 (stint_of_play user play) (record { samples = []; room = 0 })
  may_return =
      let zeroth : play.thread ≡ 0 = thread_zero user history None play returning.stage_is.played.entries (λ p at. absurd (some_not_none (sym at))) plays in
      let out = (legal_matches (stage_plan stage) history user legal).out play plays in
      record { out = subst (λ (t : ℕ). is_out (stage_state stage) t (stint_of_play user play) ≡ true) zeroth out; fits = nothing_fits (script_room (stage_plan stage) play.scenario) }

  abbrev entry : Entry
  entry = record { turn = (stage_state stage).entries + 1; thread = 0; act = play_return stage.length user play stage.moment; reading = stage.moment }

  -- behind the entry of its Return it plays nothing, and all others play as before
  plays_behind : (other : ℕ) → due_in stage.length (history ++ entry ∷ []) other ≡ (if user == other then None else playing stage other)
  plays_behind other =
      let P : Bool → Type 0 = λ b. option_map (due_of stage.length) (if b then None else play_of other history) ≡ (if b then None else playing stage other) in
      let go : P (user == other) = elim (user == other) as P [ true ↦ refl | false ↦ refl ] in
      ap (λ (o : Option Play). option_map (due_of stage.length) o) (play_grown other history entry) ∙ go

  -- what another user plays then, it played before
  pub played_before : (other : ℕ) (due : Due) → due_in stage.length (history ++ entry ∷ []) other ≡ Some due → (user ≢ other) × (playing stage other ≡ Some due)
  played_before other due is =
      let P : Bool → Type 0 = λ b. (user == other) ≡ b → (if b then None else playing stage other) ≡ Some due → (user ≢ other) × (playing stage other ≡ Some due) in
      let go : P (user == other) = elim (user == other) as P [
        | true ↦ λ e at. absurd (some_not_none (sym at))
        | false ↦ λ e at. ((λ same. absurd (grind (arith, common_steps))), at)
      ] in go refl (sym (plays_behind other) ∙ is)

  abbrev pub behind : Stage
  behind = record stage { core = record { plan = stage.core.plan; entries = history ++ entry ∷ [] }; dues = set stage.dues (user - 1) None }

  may_follow_it : (e : Entry) → e.reading ≡ stage.moment → is_return e.act ≡ true → user + 1 ≤ returned_user e.act → may_follow entry e ≡ true
  may_follow_it e now back above =
      let less : nat_lt user (returned_user e.act) ≡ true = grind (arith, common_steps) in
      let P : Bool → Type 0 = λ b. (not b || not (is_return e.act) || (true && nat_lt user (returned_user e.act))) ≡ true in
      let go : P (stage.moment == e.reading) = elim (stage.moment == e.reading) as P [ true ↦ rw (back, less) refl | false ↦ refl ] in go

  pub returned : IsLegal (stage_plan stage) (history ++ entry ∷ []) → (due_of stage.length play).end ≡ stage.moment → IsReturning behind (user + 1) false
  returned later ends =
      let is = returning.stage_is in
      let within = plays_within in
      record {
        stage_is = record {
          timed = is.timed;
          planned = is.planned;
          lasts = is.lasts;
          played = played_return (stage_plan stage) stage.length history stage.moment (option_map full_reply stage.full) blocked ((stage_state stage).entries + 1) user play
              is.played later plays ends (returning.order entry refl refl (omega arith));
          dues = record {
            count = length-set stage.dues (user - 1) None ∙ is.dues.count;
            each = λ other. due_changed stage.dues user None other within.0 within.1
                ∙ ap (λ (o : Option Due). if user == other then None else o) (is.dues.each other) ∙ sym (plays_behind other);
          };
        };
        ends = λ other due at. returning.ends other due (played_before other due at).1;
        below = λ other due at less.
            let before = played_before other due at in
            let apart : user ≢ other = before.0 in
            returning.below other due before.1 (grind (arith, common_steps));
        order = λ e now back above. may_come_behind history entry e ∙ may_follow_it e now back above;
        ended = λ b. absurd (cc);
      }

-- ---- a Return of what is in the table

module _ (stage : Stage) (user : ℕ) (due : Due) (blocked : Bool) (returning : IsReturning stage user blocked) (is_due : IsDue stage user due) where
  found : (play : Play) × (play_of user stage.core.entries ≡ Some play) × (due_of stage.length play ≡ due)
  found = due_played stage.length (play_of user stage.core.entries) due (sym (returning.stage_is.dues.each user) ∙ is_due.is)

  now : due.end ≡ stage.moment
  now =
      let early : stage.moment ≤ due.end = returning.ends user due (sym (returning.stage_is.dues.each user) ∙ is_due.is) in
      let late = is_due.now in omega arith

  pub due_within : (1 ≤ user) × (user ≤ length stage.dues)
  due_within = plays_within stage user found.0 blocked returning found.1

  pub may_return_due : IsReturn stage.core 0 (stint_of due.scenario user due.item due.until) (record { samples = []; room = 0 })
  may_return_due =
      subst (λ (d : Due). IsReturn stage.core 0 (stint_of d.scenario user d.item d.until) (record { samples = []; room = 0 })) found.2
      (may_return stage user found.0 blocked returning found.1)

  pub returned_due : (core : CoreView) (reply : Reply) →
      IsAsked stage.core core 0 (asks.Return (stint_of due.scenario user due.item due.until) due.finished (record { samples = []; room = 0 })) stage.moment reply →
      IsReturning (record stage { core = core; dues = set stage.dues (user - 1) None }) (user + 1) false
  returned_due core reply asked =
      let play = found.0 in
      let ask : Due → Type 0 = λ d. IsAsked stage.core core 0 (asks.Return (stint_of d.scenario user d.item d.until) d.finished (record { samples = []; room = 0 })) stage.moment reply in
      let played : ask (due_of stage.length play) = subst ask (sym found.2) asked in
      let r = played.result in
      let is = return_step (stage_plan stage) (stage_state stage) stage.moment (stint_of_play user play) (due_of stage.length play).finished (record { samples = []; room = 0 }) r played.step in
      let wrote : r.entries ≡ entry stage user play blocked returning found.1 ∷ [] = ap (λ (x : Result). x.entries) is in
      let more : IsLegal (stage_plan stage) (stage.core.entries ++ r.entries) =
      goes_on_legally (stage_plan stage) stage.core.entries 0 (asks.Return (stint_of_play user play) (due_of stage.length play).finished (record { samples = []; room = 0 })) stage.moment r
      returning.stage_is.played.legal played.step in
      let later = subst (λ (es : List Entry). IsLegal (stage_plan stage) (stage.core.entries ++ es)) wrote more in
      let same : core ≡ record { plan = stage.core.plan; entries = stage.core.entries ++ entry stage user play blocked returning found.1 ∷ [] } =
      core_is core stage.core.plan _ played.plan (played.entries ∙ ap (λ (es : List Entry). stage.core.entries ++ es) wrote) in
      subst (λ (c : CoreView). IsReturning (record stage { core = c; dues = set stage.dues (user - 1) None }) (user + 1) false) (sym same)
      (returned stage user play blocked returning found.1 later (ap (λ (d : Due). d.end) found.2 ∙ now))

-- a Return is noted
pub return_noted : (stage : Stage) (stint : StintView) (finished : Bool) (tally : TallyView) (core : CoreView) (reply : Reply) →
    IsAsked stage.core core 0 (asks.Return stint finished tally) stage.moment reply → reply ≡ Noted
return_noted stage stint finished tally core reply asked =
    asked.reply_is ∙ ap (λ (x : Result). x.reply) (return_step (stage_plan stage) (stage_state stage) stage.moment stint finished tally asked.result asked.step)

-- ---- where nothing is returned

-- a later user may be returned, where whatever those before it play ends later
pub passed_to : (stage : Stage) (from to : ℕ) → from ≤ to → ((user : ℕ) → from ≤ user → user < to → EndsLater stage.dues stage.moment user) →
    MayReturn stage from → MayReturn stage to
passed_to stage from to order later may =
    let blocked = may.0 in
    let returning = may.1 in
    let each = returning.stage_is.dues.each in (
      blocked,
      record {
        stage_is = returning.stage_is;
        ends = returning.ends;
        below = λ other due is less. elim (dec_lt other from) [
          | yes before ↦ returning.below other due is before
          | no behind ↦ later other (omega arith) less due (each other ∙ is)
        ];
        order = λ e now back above. returning.order e now back (omega arith);
        ended = λ b.
            let one = returning.ended b in
            let low : from ≤ one.0 = one.2 in
            let now : one.1.end ≡ stage.moment = one.4 in
            let high : to ≤ one.0 = elim (dec_lt one.0 to) [
              | yes before ↦ let late : stage.moment < one.1.end = later one.0 low before one.1 (each one.0 ∙ one.3) in absurd (omega arith)
              | no behind ↦ omega arith
            ] in
            (one.0, one.1, high, one.3, one.4);
      },
    )

-- nobody is user 0
pub nobody_first : (stage : Stage) → MayReturn stage 0 → MayReturn stage 1
nobody_first stage may =
    passed_to stage 0 1 (omega arith) (λ user low high due is. let first : user ≡ 0 = omega arith in absurd (some_not_none (sym is ∙ ap (λ (u : ℕ). due_at stage.dues u) first))) may

-- the next user who plays what ends by now may be returned
pub next_returned : (stage : Stage) (last user : ℕ) → last < user → ((other : ℕ) → last < other → other < user → EndsLater stage.dues stage.moment other) →
    MayReturn stage (last + 1) → MayReturn stage user
next_returned stage last user further later = passed_to stage (last + 1) user (omega arith) (λ other low high. later other (omega arith) high)

-- and fewer users are left behind it
pub fewer_left : (old new : Stage) (last user : ℕ) (due : Due) → MayReturn old user → IsDue old user due → IsSameMoment old new → last < user →
    (stage_plan new).limit - user < (stage_plan old).limit - last
fewer_left old new last user due may is_due same further =
    let within = due_within old user due may.0 may.1 is_due in
    let high : user ≤ length old.dues = within.1 in
    let count : length old.dues ≡ (stage_plan old).limit = may.1.stage_is.dues.count in
    let plans : (stage_plan new).limit ≡ (stage_plan old).limit = ap (λ (p : PlanView). p.plan.limit) same.run.plan in
    omega arith

-- behind all users acts may be asked for
all_returned : (stage : Stage) (to : ℕ) → (stage_plan stage).limit < to → MayReturn stage to → IsActing stage
all_returned stage to behind may =
    let returning = may.1 in
    let within : (user : ℕ) (due : Due) → playing stage user ≡ Some due → user < to =
    λ user due is.
    let played = due_played stage.length (play_of user stage.core.entries) due is in
    let made = player_made (stage_plan stage) stage.core.entries user played.0 returning.stage_is.planned returning.stage_is.played.legal played.1 in
    let high : user ≤ (stage_plan stage).limit = made.1 in omega arith in
    let P : Bool → Type 0 = λ b. IsReturning stage to b → IsStage stage false in
    let unblocked : P may.0 = elim may.0 as P [
      | true ↦ λ at. absurd (let one = at.ended refl in let low : to ≤ one.0 = one.2 in let high : one.0 < to = within one.0 one.1 one.3 in omega arith)
      | false ↦ λ at. at.stage_is
    ] in
    record { stage_is = unblocked returning; ends = λ user due is. returning.below user due is (within user due is) }

-- and where nobody else plays what ends by now
pub nobody_due : (stage : Stage) (from : ℕ) → ((user : ℕ) → from ≤ user → EndsLater stage.dues stage.moment user) → MayReturn stage from → IsActing stage
nobody_due stage from later may =
    let to = from + (stage_plan stage).limit + 1 in
    all_returned stage to (omega arith) (passed_to stage from to (omega arith) (λ user low high. later user low) may)

pub same_moments : (a b c : Stage) → IsSameMoment a b → IsSameMoment b c → IsSameMoment a c
same_moments a b c one two =
    record { run = record { plan = two.run.plan ∙ one.run.plan; length = two.run.length ∙ one.run.length }; moment = two.moment ∙ one.moment; full = two.full ∙ one.full }

-- each act leaves less room
pub acts_end : (old new : Stage) → IsAnswered old new Acted → (stage_plan new).entry_limit - length new.core.entries < (stage_plan old).entry_limit - length old.core.entries
acts_end old new answered =
    let more : length old.core.entries < length new.core.entries = answered.answer in
    let room : length new.core.entries + busy_count (stage_state new) ≤ (stage_plan new).entry_limit = legal_room (stage_plan new) new.core.entries answered.acting.stage_is.played.legal in
    let plans : (stage_plan new).entry_limit ≡ (stage_plan old).entry_limit = ap (λ (p : PlanView). p.plan.entry_limit) answered.same.run.plan in
    omega arith
