-- What was played goes on: with the entries of a step, and up to a later moment.
use Rattle.std.proofs.Common.{◌≡◌, ◌≤◌, ◌<◌, ◌+◌, ◌==◌, ◌&&◌, nat_le, ℕ, Bool, true, false, min, List, [], ◌∷◌, ◌++◌, Option, Some, arith, refl, sym, ap, subst, ◌∙◌}
use Rattle.std.specs.List.{list_all}
use Rattle.std.specs.Option.{option_map_or, option_or}
use Rattle.std.proofs.lemmas.Grind.{common_steps}
use Rattle.std.proofs.lemmas.List.{append-nil, append_assoc}
use Rattle.std.proofs.lemmas.List.Folds.{list_all-append}
use Rattle.ld_base.specs.Tally.{TallyView}
use Rattle.ld_base.specs.declared.act.Act.{Act}
use Rattle.ld_base.specs.declared.act.Act.TheVariants.{Take, Grow, Start, Drop, Late, Return, Release, Stop, Close, Control}
use Rattle.ld_base.specs.declared.ask.Ask.TheVariants as asks
use Rattle.ld_base.specs.declared.entry.Entry.{Entry}
use Rattle.ld_base.specs.declared.reply.Reply.{Reply}
use Rattle.ld_machine.specs.Acts.{acts_of}
use Rattle.ld_machine.specs.Effect.{state_after}
use Rattle.ld_machine.specs.History.{IsLegal}
use Rattle.ld_machine.specs.Moment.{moment_after}
use Rattle.ld_machine.specs.Moves.{Move}
use Rattle.ld_machine.specs.OnTime.{is_asked_act, last_reading, readings_rise}
use Rattle.ld_machine.specs.Plan.{Plan}
use Rattle.ld_machine.specs.Playing.{Play, play_of, stint_of_play}
use Rattle.ld_machine.specs.Rehearsal.{is_done_as, is_rehearsed_act, is_rehearsed_entry, is_return, returns_at, returns_first, FirstRefusal, IsRefusedAt, IsRehearsed, NothingEnabled, NothingEnabledFrom}
use Rattle.ld_machine.specs.Replies.{reply_to}
use Rattle.ld_machine.specs.Settled.{is_turn_of, is_its_return, all_returned}
use Rattle.ld_machine.specs.State.{opening}
use Rattle.ld_machine.specs.Step.{Result, IsStep, entries_of, outcome_of, performed, return_of}
use Rattle.ld_machine.specs.Turns.{starts_alternate}
use Rattle.ld_machine.proofs.HolderLemmas.{opening_holds}
use Rattle.ld_machine.proofs.LegalLemmas.{goes_on_legally}
use Rattle.ld_machine.proofs.ListLemmas.{both_true, number_itself, some_not_none}
use Rattle.ld_machine.proofs.TurnLemmas.{steps_alternate}
use Rattle.ld_rehearsal.specs.Dues.{due_of}
use Rattle.ld_rehearsal.specs.Played.{all_returned_so_far, may_come, IsPlayed, RefusalUpTo, WaitsSoFar}
use Rattle.ld_rehearsal.proofs.GapLemmas.{refusal_full, refusal_grown, refusal_later, refusal_noted, refusal_over, waits_so_far_blocked, waits_so_far_full, waits_so_far_grown, waits_so_far_later, waits_so_far_over}
use Rattle.ld_rehearsal.proofs.GrowLemmas.{act_may_come, last_grown, no_return, order_grown, readings_grown, returned_closed, returned_grown, returned_quiet}
use Rattle.ld_rehearsal.proofs.PlayLemmas.{alternate_front, no_return_of, turn_returns}
use Rattle.ld_rehearsal.proofs.ReplyLemmas.{acts_asked}

-- what was played, but for being legal
pub record Told (plan : Plan) (long : ℕ) (history : List Entry) (to : ℕ) (first : Option Reply) (blocked : Bool) : Type 0 where
  pub entries : list_all is_rehearsed_entry history ≡ true
  pub readings : readings_rise 0 history ≡ true
  pub past : last_reading 0 history ≤ to
  pub returned : all_returned_so_far long history ≡ true
  pub order : returns_first history ≡ true
  pub waits : WaitsSoFar plan history to blocked
  pub refusal : RefusalUpTo plan (opening plan) 0 history to first

told : (plan : Plan) (long : ℕ) (history : List Entry) (to : ℕ) (first : Option Reply) (blocked : Bool) → IsPlayed plan long history to first blocked →
    Told plan long history to first blocked
told plan long history to first blocked p =
    record { entries = p.entries; readings = p.readings; past = p.past; returned = p.returned; order = p.order; waits = p.waits; refusal = p.refusal }

played : (plan : Plan) (long : ℕ) (history : List Entry) (to : ℕ) (first : Option Reply) (blocked : Bool) → IsLegal plan history →
    Told plan long history to first blocked → IsPlayed plan long history to first blocked
played plan long history to first blocked legal p =
    record { legal = legal; entries = p.entries; readings = p.readings; past = p.past; returned = p.returned; order = p.order; waits = p.waits; refusal = p.refusal }

pub alternates : (plan : Plan) (history : List Entry) → IsLegal plan history → starts_alternate history ≡ true
alternates plan history legal = steps_alternate plan history (opening plan) legal (opening_holds plan)

-- ---- one entry more

-- an entry that may come, and that a rehearsal may have; where it is a turn of a user who plays, it is the
-- Return of what that user plays, at the moment at which it ends
pub record Fits (long : ℕ) (history : List Entry) (to : ℕ) (blocked : Bool) (e : Entry) : Type 0 where
  pub now : e.reading ≡ to
  pub rehearsed : is_rehearsed_entry e ≡ true
  pub may : may_come history e ≡ true
  pub ends : (user : ℕ) (play : Play) → play_of user history ≡ Some play → is_turn_of user e.act ≡ true →
      (is_its_return play.scenario user play.item e.act && returns_at long play.start play.until e) ≡ true
  pub unblocks : blocked ≡ true → (is_return e.act ≡ true) × (history ≡ [] → ⊥)

told_one : (plan : Plan) (long : ℕ) (history : List Entry) (to : ℕ) (first : Option Reply) (blocked : Bool) (e : Entry) → Told plan long history to first blocked →
    Fits long history to blocked e → Told plan long (history ++ e ∷ []) to first false
told_one plan long history to first blocked e p fits =
    let last = last_grown 0 history e in
    let now = fits.now in
    let past = p.past in
    record {
      entries = list_all-append is_rehearsed_entry history (e ∷ []) ∙ rw (p.entries, fits.rehearsed) refl;
      readings = readings_grown 0 history e p.readings (omega arith);
      past = omega arith;
      returned = returned_grown long history e p.returned fits.ends;
      order = order_grown history e p.order fits.may;
      waits = waits_so_far_grown plan history e to blocked p.waits fits.now fits.unblocks;
      refusal = refusal_grown plan (opening plan) 0 history e to first p.refusal fits.now;
    }

-- ---- acts

asked_rehearsed : (act : Act) → is_asked_act act ≡ true → is_rehearsed_act act ≡ true
asked_rehearsed (Take n user slot) e = refl
asked_rehearsed (Grow n user slot) e = refl
asked_rehearsed (Start n user item until) e = refl
asked_rehearsed (Drop n item) e = refl
asked_rehearsed (Late n item) e = refl
asked_rehearsed (Return n user item outcome tally) e = absurd (cc)
asked_rehearsed (Release n user) e = refl
asked_rehearsed (Stop n) e = refl
asked_rehearsed (Close n) e = refl
asked_rehearsed (Control command) e = absurd (cc)

-- an act's entry, where turns alternate
act_fits : (long : ℕ) (history : List Entry) (to at : ℕ) (act : Act) → is_asked_act act ≡ true →
    let e : Entry = record { turn = at; thread = 0; act = act; reading = to } in
    starts_alternate (history ++ e ∷ []) ≡ true → Fits long history to false e
act_fits long history to at act asked alternate =
    let e : Entry = record { turn = at; thread = 0; act = act; reading = to } in
    record {
      now = refl;
      rehearsed = asked_rehearsed act asked;
      may = act_may_come history e (no_return act asked);
      ends = λ user play h turn. absurd (
          let its = turn_returns history e user play alternate h turn in
          let none = no_return_of play.scenario user play.item act asked in
          true_not_false (sym its ∙ none)
          );
      unblocks = λ b. absurd (true_not_false (sym b));
    } where
      true_not_false : true ≡ false → ⊥
      true_not_false e = cc

told_acts : (plan : Plan) (long : ℕ) (history : List Entry) (to : ℕ) (first : Option Reply) (at : ℕ) (acts : List Act) → list_all is_asked_act acts ≡ true →
    starts_alternate (history ++ entries_of at 0 to acts) ≡ true → Told plan long history to first false → Told plan long (history ++ entries_of at 0 to acts) to first false
told_acts plan long history to first at [] asked alternate p = subst (λ (h : List Entry). Told plan long h to first false) (sym (append-nil history)) p
told_acts plan long history to first at (act ∷ rest) asked alternate p =
    let e : Entry = record { turn = at; thread = 0; act = act; reading = to } in
    let more = entries_of (at + 1) 0 to rest in
    let both = both_true (is_asked_act act) (list_all is_asked_act rest) asked in
    let grown : (history ++ e ∷ []) ++ more ≡ history ++ e ∷ more = append_assoc history (e ∷ []) more in
    let whole : starts_alternate ((history ++ e ∷ []) ++ more) ≡ true = rw grown alternate in
    let front = alternate_front (history ++ e ∷ []) more whole in
    let one = told_one plan long history to first false e p (act_fits long history to at act both.0 front) in
    subst (λ (h : List Entry). Told plan long h to first false) grown (told_acts plan long (history ++ e ∷ []) to first (at + 1) rest both.1 whole one)

-- the entries of an act that was performed
pub played_act : (plan : Plan) (long : ℕ) (history : List Entry) (to : ℕ) (first : Option Reply) (move : Move) (r : Result) → IsPlayed plan long history to first false →
    IsStep plan (state_after plan history) 0 asks.Act to r → r ≡ performed plan (state_after plan history) 0 to (reply_to move) (acts_of move) →
    IsPlayed plan long (history ++ r.entries) to first false
played_act plan long history to first move r p step is =
    let at = (state_after plan history).entries + 1 in
    let legal : IsLegal plan (history ++ r.entries) = goes_on_legally plan history 0 asks.Act to r p.legal step in
    let wrote : r.entries ≡ entries_of at 0 to (acts_of move) = ap (λ (x : Result). x.entries) is in
    let alternate : starts_alternate (history ++ entries_of at 0 to (acts_of move)) ≡ true = subst (λ (es : List Entry). starts_alternate (history ++ es) ≡ true) wrote (alternates plan (history ++ r.entries) legal) in
    let on = told_acts plan long history to first at (acts_of move) (acts_asked move) alternate (told plan long history to first false p) in
    played plan long (history ++ r.entries) to first false legal (subst (λ (es : List Entry). Told plan long (history ++ es) to first false) (sym wrote) on)

-- ---- returns

done_as : (n user item to until : ℕ) (finished : Bool) (tally : TallyView) → to ≤ until → is_done_as (Return n user item (outcome_of finished to until) tally) finished ≡ true
done_as n user item to until true tally within = let at : nat_le to until ≡ true = grind (arith, common_steps) in rw at refl
done_as n user item to until false tally within = refl

-- the act of a Return of what a user plays
abbrev pub play_return : ℕ → ℕ → Play → ℕ → Act
play_return long user play to =
    return_of (stint_of_play user play) (outcome_of (due_of long play).finished to play.until) (record { samples = []; room = 0 })

return_fits : (long : ℕ) (history : List Entry) (to : ℕ) (blocked : Bool) (at user : ℕ) (play : Play) → play_of user history ≡ Some play → (due_of long play).end ≡ to →
    let e : Entry = record { turn = at; thread = 0; act = play_return long user play to; reading = to } in
    may_come history e ≡ true → Fits long history to blocked e
return_fits long history to blocked at user play plays ends may =
    record {
      now = refl;
      rehearsed = refl;
      may = may;
      ends = λ other its h turn.
          let same : user ≡ other = grind (arith, common_steps) in
          let one : Some its ≡ Some play = sym h ∙ ap (λ (u : ℕ). play_of u history) (sym same) ∙ plays in
          let within : to ≤ play.until = omega arith in
          let done = done_as play.scenario user play.item to play.until (nat_le (moment_after play.start long) play.until) (record { samples = []; room = 0 }) within in
          let there : (to == min (moment_after play.start long) play.until) ≡ true = rw ends (number_itself to) in
          let here : (is_its_return play.scenario user play.item (play_return long user play to)
          && returns_at long play.start play.until (record { turn = at; thread = 0; act = play_return long user play to; reading = to })) ≡ true =
          rw (number_itself play.scenario, number_itself user, number_itself play.item, there) done in
          let P : Option Play → Type 0 = λ o. option_map_or (λ (q : Play). is_its_return q.scenario other q.item (play_return long user play to)
          && returns_at long q.start q.until (record { turn = at; thread = 0; act = play_return long user play to; reading = to })) o false ≡ true in
          subst P (sym one) (rw (← same) here);
      unblocks = λ b. (refl, λ empty. some_not_none (sym plays ∙ ap (λ (es : List Entry). play_of user es) empty));
    }

-- the entry of a Return of what ends now
pub played_return : (plan : Plan) (long : ℕ) (history : List Entry) (to : ℕ) (first : Option Reply) (blocked : Bool) (at user : ℕ) (play : Play) →
    let e : Entry = record { turn = at; thread = 0; act = play_return long user play to; reading = to } in
    IsPlayed plan long history to first blocked → IsLegal plan (history ++ e ∷ []) → play_of user history ≡ Some play → (due_of long play).end ≡ to →
    may_come history e ≡ true → IsPlayed plan long (history ++ e ∷ []) to first false
played_return plan long history to first blocked at user play p legal plays ends may =
    let e : Entry = record { turn = at; thread = 0; act = play_return long user play to; reading = to } in
    played plan long (history ++ e ∷ []) to first false legal
    (told_one plan long history to first blocked e (told plan long history to first blocked p) (return_fits long history to blocked at user play plays ends may))

-- ---- a later moment

pub played_later : (plan : Plan) (long : ℕ) (history : List Entry) (to later : ℕ) (first : Option Reply) → IsPlayed plan long history to first false → to ≤ later →
    NothingEnabled plan (state_after plan history) to later → IsPlayed plan long history later first false
played_later plan long history to later first p more quiet =
    let past = p.past in
    record {
      legal = p.legal;
      entries = p.entries;
      readings = p.readings;
      past = omega arith;
      returned = p.returned;
      order = p.order;
      waits = waits_so_far_later plan history to later p.waits quiet;
      refusal = refusal_later plan (opening plan) 0 history to later first more p.refusal quiet;
    }

pub played_blocked : (plan : Plan) (long : ℕ) (history : List Entry) (to later : ℕ) (first : Option Reply) (refusal : Reply) → IsPlayed plan long history to first false → to < later →
    IsRefusedAt plan (state_after plan history) to refusal → IsPlayed plan long history later (option_or first (Some refusal)) true
played_blocked plan long history to later first refusal p more at =
    let past = p.past in
    record {
      legal = p.legal;
      entries = p.entries;
      readings = p.readings;
      past = omega arith;
      returned = p.returned;
      order = p.order;
      waits = waits_so_far_blocked plan history to later refusal p.waits p.past more at;
      refusal = refusal_noted plan (opening plan) 0 history to later first refusal p.refusal p.past more at;
    }

-- ---- the end

-- where each Start is returned and nothing more is enabled, it is rehearsed
pub played_over : (plan : Plan) (long : ℕ) (history : List Entry) (to : ℕ) (first : Option Reply) → IsPlayed plan long history to first false →
    all_returned history ≡ true → NothingEnabledFrom plan (state_after plan history) to → IsRehearsed plan long history × FirstRefusal plan history first
played_over plan long history to first p some quiet = (
  record {
    legal = p.legal;
    entries = p.entries;
    readings = p.readings;
    returned = returned_closed long history some p.returned;
    order = p.order;
    waits = waits_so_far_over plan history to p.waits quiet;
  },
  refusal_over plan (opening plan) 0 history to first p.refusal quiet,
)

-- the same where nobody plays, and a first act has no room
pub played_full : (plan : Plan) (long : ℕ) (history : List Entry) (to : ℕ) (refusal : Reply) → IsPlayed plan long history to (Some refusal) true →
    ((user : ℕ) (play : Play) → play_of user history ≡ Some play → ⊥) → IsRehearsed plan long history × FirstRefusal plan history (Some refusal)
played_full plan long history to refusal p nobody = (
  record {
    legal = p.legal;
    entries = p.entries;
    readings = p.readings;
    returned = returned_quiet long history nobody p.returned;
    order = p.order;
    waits = waits_so_far_full plan history to p.waits;
  },
  refusal_full plan (opening plan) 0 history to refusal p.refusal,
)
