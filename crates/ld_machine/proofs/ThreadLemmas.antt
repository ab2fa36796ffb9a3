-- What a thread may ask, by its own entries.
use Rattle.std.proofs.Common.{Contains, ◌≡◌, ◌≢◌, ◌↔◌, ◌⊎◌, inl, inr, ◌<◌, ◌+◌, ◌==◌, ◌∙◌, ℕ, Bool, true, false, cond, ◌&&◌, List, [], ◌∷◌, ◌++◌, Option, None, Some, length, arith, refl, sym, ap, subst, slice_get}
use Rattle.std.specs.Option.{option_map_or}
use Rattle.std.proofs.lemmas.Bool.{true≢false}
use Rattle.std.proofs.lemmas.List.{append_assoc, append-nil}
use Rattle.std.proofs.lemmas.List.Elements.{filter-append}
use Rattle.std.proofs.lemmas.Option.{slice_get_within, slice_get_cases}
use Rattle.ld_base.specs.Stint.{StintView, stint_of}
use Rattle.ld_base.specs.Tally.{TallyView}
use Rattle.ld_base.specs.declared.act.Act.{Act}
use Rattle.ld_base.specs.declared.act.Act.TheVariants.{Take, Grow, Start, Drop, Late, Return, Release, Stop, Close, Control}
use Rattle.ld_base.specs.declared.act.Outcome.{Outcome}
use Rattle.ld_base.specs.declared.ask.Ask.{Ask}
use Rattle.ld_base.specs.declared.ask.Ask.TheVariants as asks
use Rattle.ld_base.specs.declared.entry.Entry.{Entry}
use Rattle.ld_base.specs.declared.reply.Reply.{Reply}
use Rattle.ld_base.specs.declared.reply.Reply.TheVariants.{Noted, Denied, Over, Wait}
use Rattle.ld_machine.specs.Plan.{Plan}
use Rattle.ld_machine.specs.State.{Share, State, opening, all_closed, is_idle_condition}
use Rattle.ld_machine.specs.Moves.{Move}
use Rattle.ld_machine.specs.Order.{first_moves}
use Rattle.ld_machine.specs.Acts.{acts_of}
use Rattle.ld_machine.specs.Replies.{reply_to}
use Rattle.ld_machine.specs.Room.{entries_refusal, room_refusal, script_room}
use Rattle.ld_machine.specs.Wait.{wait_moment}
use Rattle.ld_machine.specs.Commands.{is_denied}
use Rattle.ld_machine.specs.Effect.{after_entry, state_after}
use Rattle.ld_machine.specs.Samples.{tally_fits}
use Rattle.ld_machine.specs.History.{adds_one, adds_two, are_steps, until_in, is_done, IsLegal}
use Rattle.ld_machine.specs.Step.{Result, answered, performed, entries_of, move_result, open_results, act_results, is_busy_with, is_out, outcome_of, return_of, return_results, check_reply, check_results, look_reply, control_result, results, IsStep}
use Rattle.ld_machine.specs.Playing.{Play, play_behind, play_after, play_of, stint_of_play}
use Rattle.ld_machine.specs.Threads.{own_entries, returns_user, IsBegun, MayAsk}
use Rattle.ld_machine.proofs.ListLemmas.{In, here, there, nothing_in, both_true, some_true, In-append, In-map, In-one, Contains-from_In, number_itself, some_not_none}
use Rattle.ld_machine.proofs.WaitLemmas.{In-left, In-right}
use Rattle.ld_machine.proofs.FirstOfAllLemmas.{In-of, false_unless}
use Rattle.ld_machine.proofs.BusyLemmas.{same_number}
use Rattle.ld_machine.proofs.HolderLemmas.{Holds, two_hold, opening_holds}
use Rattle.ld_machine.proofs.TurnLemmas.{HeldAs, one_finds, one_holds, pair_of, return_out}
use Rattle.ld_machine.proofs.ScenarioListLemmas.{length-entries, length-opening}
use Rattle.ld_machine.proofs.PlayingLemmas.{Matches, held_as, one_holder, idle_or_busy, user_passes, gained_idle, one_matches, first_matches, two_match, opening_matches, legal_matches}

-- ---- the last of some entries

-- a list with an element isn't empty
not_empty : {A : Type 0} (xs : List A) (y : A) (ys : List A) → [] ≡ xs ++ y ∷ ys → ⊥
not_empty [] y ys e = cc
not_empty (x ∷ xs) y ys e = cc

-- an element of a list is the last one, or stands before it
split_last : {A : Type 0} (xs : List A) (last : A) (before : List A) (x : A) (behind : List A) → xs ++ last ∷ [] ≡ before ++ x ∷ behind →
    ((x ≡ last) × (behind ≡ [])) ⊎ ((rest : List A) × (behind ≡ rest ++ last ∷ []) × (xs ≡ before ++ x ∷ rest))
split_last [] last [] x behind e = inl (cc, cc)
split_last [] last (b ∷ bs) x behind e = absurd (not_empty bs x behind (cc))
split_last (y ∷ ys) last [] x behind e = let same : y ≡ x = cc in inr (ys, cc, ap (λ z. z ∷ ys) same)
split_last (y ∷ ys) last (b ∷ bs) x behind e =
    let same : y ≡ b = cc in
    elim (split_last ys last bs x behind (cc)) [
      | inl it ↦ inl it
      | inr it ↦ inr (it.0, it.1, ap (λ z. z ∷ ys) same ∙ ap (λ zs. b ∷ zs) it.2)
    ]

-- ---- one own entry more

-- the entry's act is the Start of the stint
abbrev Starts : Entry → StintView → Type 0
Starts entry stint = entry.act ≡ Start stint.scenario stint.user stint.item stint.until

-- a stint is begun behind its Start; it stays so behind what doesn't return its user; and what is begun behind an entry
-- begins with it, or was begun before it
begun_now : (own : List Entry) (entry : Entry) (stint : StintView) → Starts entry stint → IsBegun (own ++ entry ∷ []) stint
begun_now own entry stint starts = record {
  before = own;
  start = entry;
  behind = [];
  parts = refl;
  starts = starts;
  unreturned = λ e at. absurd (nothing_in (In-of at));
}

begun_on : (own : List Entry) (entry : Entry) (stint : StintView) → IsBegun own stint → returns_user stint.user entry.act ≡ false →
    IsBegun (own ++ entry ∷ []) stint
begun_on own entry stint b other = record {
  before = b.before;
  start = b.start;
  behind = b.behind ++ entry ∷ [];
  parts = ap (λ es. es ++ entry ∷ []) b.parts ∙ append_assoc b.before (b.start ∷ b.behind) (entry ∷ []);
  starts = b.starts;
  unreturned = λ e at. elim (In-append e b.behind (entry ∷ []) (In-of at)) [
    | inl old ↦ b.unreturned e (Contains-from_In e old)
    | inr new ↦ subst (λ (it : Entry). returns_user stint.user it.act ≡ false) (In-one e entry new) other
  ];
}

begun_back : (own : List Entry) (entry : Entry) (stint : StintView) → IsBegun (own ++ entry ∷ []) stint →
    Starts entry stint ⊎ (IsBegun own stint × (returns_user stint.user entry.act ≡ false))
begun_back own entry stint b = elim (split_last own entry b.before b.start b.behind b.parts) [
  | inl it ↦ inl (subst (λ (e : Entry). Starts e stint) it.0 b.starts)
  | inr it ↦
      let unreturned : (e : Entry) → In e (it.0 ++ entry ∷ []) → returns_user stint.user e.act ≡ false =
      λ e at. b.unreturned e (Contains-from_In e (subst (λ es. In e es) (sym it.1) at)) in
      inr (
        record {
          before = b.before;
          start = b.start;
          behind = it.0;
          parts = it.2;
          starts = b.starts;
          unreturned = λ e at. unreturned e (In-left e (entry ∷ []) (In-of at));
        },
        unreturned entry (In-right entry it.0 here),
      )
]

-- ---- one entry more, of any thread

-- it is the last own entry of its thread, and none of another thread
own_with : (thread : ℕ) (front : List Entry) (entry : Entry) →
    own_entries thread (front ++ entry ∷ []) ≡ own_entries thread front ++ own_entries thread (entry ∷ [])
own_with thread front entry = filter-append (λ (e : Entry). e.thread == thread) front (entry ∷ [])

own_mine : (thread : ℕ) (front : List Entry) (entry : Entry) → (entry.thread == thread) ≡ true →
    own_entries thread (front ++ entry ∷ []) ≡ own_entries thread front ++ entry ∷ []
own_mine thread front entry mine = own_with thread front entry ∙ ap (λ b. own_entries thread front ++ cond b (entry ∷ []) []) mine

own_others : (thread : ℕ) (front : List Entry) (entry : Entry) → (entry.thread == thread) ≡ false →
    own_entries thread (front ++ entry ∷ []) ≡ own_entries thread front
own_others thread front entry others =
    own_with thread front entry ∙ ap (λ b. own_entries thread front ++ cond b (entry ∷ []) []) others ∙ append-nil (own_entries thread front)

-- the thread has begun the stint by these entries and hasn't returned it
abbrev Begun : ℕ → List Entry → StintView → Type 0
Begun thread front stint = IsBegun (own_entries thread front) stint

-- the same of a thread's own entries
begins_now : (front : List Entry) (entry : Entry) (stint : StintView) → Starts entry stint → Begun entry.thread (front ++ entry ∷ []) stint
begins_now front entry stint starts =
    subst (λ own. IsBegun own stint) (sym (own_mine entry.thread front entry (number_itself entry.thread)))
    (begun_now (own_entries entry.thread front) entry stint starts)

begins_on : (thread : ℕ) (front : List Entry) (entry : Entry) (stint : StintView) → Begun thread front stint →
    returns_user stint.user entry.act ≡ false → Begun thread (front ++ entry ∷ []) stint
begins_on thread front entry stint b other =
    let P : Bool → Type 0 = λ v. (entry.thread == thread) ≡ v → Begun thread (front ++ entry ∷ []) stint in
    let on : P (entry.thread == thread) = elim (entry.thread == thread) as P [
      | true ↦ λ e. subst (λ own. IsBegun own stint) (sym (own_mine thread front entry e)) (begun_on (own_entries thread front) entry stint b other)
      | false ↦ λ e. subst (λ own. IsBegun own stint) (sym (own_others thread front entry e)) b
    ] in on refl

-- what is begun behind an entry begins with it, or was begun before it, and the thread hasn't returned it with the entry
begins_back : (thread : ℕ) (front : List Entry) (entry : Entry) (stint : StintView) → Begun thread (front ++ entry ∷ []) stint →
    ((entry.thread ≡ thread) × Starts entry stint) ⊎ (Begun thread front stint × (entry.thread ≡ thread → returns_user stint.user entry.act ≡ false))
begins_back thread front entry stint b =
    let P : Bool → Type 0 = λ v. (entry.thread == thread) ≡ v →
    ((entry.thread ≡ thread) × Starts entry stint) ⊎ (Begun thread front stint × (entry.thread ≡ thread → returns_user stint.user entry.act ≡ false)) in
    let back : P (entry.thread == thread) = elim (entry.thread == thread) as P [
      | true ↦ λ e.
          elim (begun_back (own_entries thread front) entry stint (subst (λ own. IsBegun own stint) (own_mine thread front entry e) b)) [
            | inl now ↦ inl (same_number entry.thread thread e, now)
            | inr old ↦ inr (old.0, λ mine. old.1)
          ]
      | false ↦ λ e. inr (
        subst (λ own. IsBegun own stint) (own_others thread front entry e) b,
        λ mine. absurd (true≢false (sym (user_passes entry.thread thread mine) ∙ e)),
      )
    ] in back refl

-- ---- what a user plays, and what was begun

-- of the user exactly what it plays was begun by a thread's own entries and not returned
record Begins (front : List Entry) (user : ℕ) (played : Option Play) : Type 0 where
  begun : (play : Play) → played ≡ Some play → Begun play.thread front (stint_of_play user play)
  plays : (thread n item until : ℕ) → Begun thread front (stint_of n user item until) →
      (play : Play) × (played ≡ Some play) × (play.thread ≡ thread) × (stint_of n user item until ≡ stint_of_play user play)

-- a Start of the user finds that it plays nothing, a Return of it by a thread at most what this thread began
abbrev Suits : ℕ → ℕ → Act → Option Play → Type 0
Suits user thread (Start _ one _ _) played = (one == user) ≡ true → played ≡ None
Suits user thread (Return _ one _ _ _) played = (one == user) ≡ true → (play : Play) → played ≡ Some play → play.thread ≡ thread
Suits user thread _ played = Unit {0}

-- the act is a Start of the user
abbrev starts_user : ℕ → Act → Bool
starts_user user (Start _ one _ _) = one == user
starts_user user _ = false

-- two Starts are one where their stints are
same_start : (n user item until m i u : ℕ) → Start n user item until ≡ Start m user i u → stint_of m user i u ≡ stint_of n user item until
same_start n user item until m i u e = cc

module _ (front : List Entry) (at thread t : ℕ) where
  abbrev entry : Act → Entry
  entry act = record { turn = at; thread = thread; act = act; reading = t }

  abbrev with : Act → List Entry
  with act = front ++ entry act ∷ []

  -- an act that neither starts nor returns the user, a Start of it, a Return of it, and any act
  other_begins : (act : Act) (user : ℕ) (played : Option Play) → starts_user user act ≡ false → returns_user user act ≡ false →
      Begins front user played → Begins (with act) user played
  other_begins act user played no_start no_return b = record {
    begun = λ play is. begins_on play.thread front (entry act) (stint_of_play user play) (b.begun play is) no_return;
    plays = λ th n item until is. elim (begins_back th front (entry act) (stint_of n user item until) is) [
      | inl now ↦
          let starts : starts_user user act ≡ true = subst (λ a. starts_user user a ≡ true) (sym now.1) (number_itself user) in
          absurd (true≢false (sym starts ∙ no_start))
      | inr old ↦ b.plays th n item until old.0
    ];
  }

  start_begins : (n user item until : ℕ) → Begins front user None →
      Begins (with (Start n user item until)) user (Some (record { thread = thread; start = t; scenario = n; item = item; until = until }))
  start_begins n user item until b =
      let new : Play = record { thread = thread; start = t; scenario = n; item = item; until = until } in
      record {
        begun = λ play is.
            let same : new ≡ play = cc in
            subst (λ (it : Play). Begun it.thread (with (Start n user item until)) (stint_of_play user it)) same
            (begins_now front (entry (Start n user item until)) (stint_of n user item until) refl);
        plays = λ th m i u is. elim (begins_back th front (entry (Start n user item until)) (stint_of m user i u) is) [
          | inl now ↦ (new, refl, now.0, same_start n user item until m i u now.1)
          | inr old ↦ let before = b.plays th m i u old.0 in absurd (some_not_none (sym before.1))
        ];
      }

  return_begins : (n user item : ℕ) (outcome : Outcome) (tally : TallyView) (played : Option Play) →
      ((play : Play) → played ≡ Some play → play.thread ≡ thread) → Begins front user played → Begins (with (Return n user item outcome tally)) user None
  return_begins n user item outcome tally played own b = record {
    begun = λ play is. absurd (some_not_none (sym is));
    plays = λ th m i u is. elim (begins_back th front (entry (Return n user item outcome tally)) (stint_of m user i u) is) [
      | inl now ↦ absurd (cc)
      | inr old ↦
          let before = b.plays th m i u old.0 in
          let kept = old.1 (sym (own before.0 before.1) ∙ before.2) in
          absurd (true≢false (sym (number_itself user) ∙ kept))
    ];
  }

  act_begins : (act : Act) (user : ℕ) (played : Option Play) → Suits user thread act played → Begins front user played →
      Begins (with act) user (play_behind user thread t act played)
  act_begins (Start n one item until) user played suits b =
      let new : Play = record { thread = thread; start = t; scenario = n; item = item; until = until } in
      let P : Bool → Type 0 = λ v. (one == user) ≡ v → Begins (with (Start n one item until)) user (cond v (Some new) played) in
      let now : P (one == user) = elim (one == user) as P [
        | true ↦ λ e.
            let same = same_number one user e in
            let before : Begins front one None = subst (λ u. Begins front u None) (sym same) (subst (λ o. Begins front user o) (suits e) b) in
            subst (λ u. Begins (with (Start n one item until)) u (Some new)) same (start_begins n one item until before)
        | false ↦ λ e. other_begins (Start n one item until) user played e refl b
      ] in now refl
  act_begins (Return n one item outcome tally) user played suits b =
      let P : Bool → Type 0 = λ v. (one == user) ≡ v → Begins (with (Return n one item outcome tally)) user (cond v None played) in
      let now : P (one == user) = elim (one == user) as P [
        | true ↦ λ e.
            let same = same_number one user e in
            subst (λ u. Begins (with (Return n one item outcome tally)) u None) same
            (return_begins n one item outcome tally played (suits e) (subst (λ u. Begins front u played) (sym same) b))
        | false ↦ λ e. other_begins (Return n one item outcome tally) user played refl e b
      ] in now refl
  act_begins (Take n one slot) user played suits b = other_begins (Take n one slot) user played refl refl b
  act_begins (Grow n one slot) user played suits b = other_begins (Grow n one slot) user played refl refl b
  act_begins (Drop n item) user played suits b = other_begins (Drop n item) user played refl refl b
  act_begins (Late n item) user played suits b = other_begins (Late n item) user played refl refl b
  act_begins (Release n one) user played suits b = other_begins (Release n one) user played refl refl b
  act_begins (Stop n) user played suits b = other_begins (Stop n) user played refl refl b
  act_begins (Close n) user played suits b = other_begins (Close n) user played refl refl b
  act_begins (Control command) user played suits b = other_begins (Control command) user played refl refl b

-- ---- steps

-- an idle user plays nothing
idle_plays : (state : State) (n user : ℕ) (played : Option Play) → Holds state → HeldAs state n user is_idle_condition →
    Matches state user played → played ≡ None
idle_plays state n user None holds f matches = refl
idle_plays state n user (Some play) holds f matches =
    let other = held_as state play.scenario user (λ c. is_busy_with c play.thread play.item play.until) (matches.out play refl) in
    let both = one_holder state user n play.scenario is_idle_condition (λ c. is_busy_with c play.thread play.item play.until) holds f other in
    absurd (idle_or_busy both.1.0 play.thread play.item play.until both.1.1 both.1.2)

-- so its Start suits
start_suits : (state : State) (thread n one item until user : ℕ) (played : Option Play) → Holds state →
    HeldAs state n one is_idle_condition → Matches state user played → Suits user thread (Start n one item until) played
start_suits state thread n one item until user played holds f matches e =
    idle_plays state n user played holds (subst (λ u. HeldAs state n u is_idle_condition) (same_number one user e) f) matches

-- what a Return ends was begun by its thread
return_suits : (state : State) (thread n one item until user : ℕ) (played : Option Play) →
    is_out state thread (stint_of n one item until) ≡ true → Matches state user played → (one == user) ≡ true →
    (play : Play) → played ≡ Some play → play.thread ≡ thread
return_suits state thread n one item until user played out matches e play is =
    let found = matches.playing thread n item until (subst (λ u. is_out state thread (stint_of n u item until) ≡ true) (same_number one user e) out) in
    let same : found.0 ≡ play = same_play found.0 play (sym found.1 ∙ is) in
    subst (λ (it : Play). it.thread ≡ thread) same found.2
  where
    same_play : (a b : Play) → Some a ≡ Some b → a ≡ b
    same_play a b e = cc

-- the only act of a step suits, and so does the first of two, which takes or grows a user
act_suits : (plan : Plan) (state : State) (at thread t : ℕ) (act : Act) (user : ℕ) (played : Option Play) → Holds state →
    adds_one plan state (record { turn = at; thread = thread; act = act; reading = t }) ≡ true → Matches state user played →
    Suits user thread act played
act_suits plan state at thread t (Start n one item until) user played holds h matches =
    start_suits state thread n one item until user played holds
    (one_finds plan state (record { turn = at; thread = thread; act = Start n one item until; reading = t }) h) matches
act_suits plan state at thread t (Return n one item outcome tally) user played holds h matches =
    return_suits state thread n one item (until_in state n one) user played
    (return_out plan state thread t n one item (until_in state n one) (is_done outcome) tally
    (record { turn = at; thread = thread; act = Return n one item outcome tally; reading = t } ∷ []) h) matches
act_suits plan state at thread t (Take n one slot) user played holds h matches = tt
act_suits plan state at thread t (Grow n one slot) user played holds h matches = tt
act_suits plan state at thread t (Drop n item) user played holds h matches = tt
act_suits plan state at thread t (Late n item) user played holds h matches = tt
act_suits plan state at thread t (Release n one) user played holds h matches = tt
act_suits plan state at thread t (Stop n) user played holds h matches = tt
act_suits plan state at thread t (Close n) user played holds h matches = tt
act_suits plan state at thread t (Control command) user played holds h matches = tt

gain_suits : (n one slot user thread : ℕ) (act : Act) (played : Option Play) → (Take n one slot ≡ act) ⊎ (Grow n one slot ≡ act) →
    Suits user thread act played
gain_suits n one slot user thread act played gains = elim gains [
  | inl e ↦ subst (λ a. Suits user thread a played) e tt
  | inr e ↦ subst (λ a. Suits user thread a played) e tt
]

-- behind the entries of a step, and of many
one_begins : (plan : Plan) (front : List Entry) (state : State) (one : Entry) (user : ℕ) (played : Option Play) → Holds state →
    adds_one plan state one ≡ true → Matches state user played → Begins front user played →
    Begins (front ++ one ∷ []) user (play_behind user one.thread one.reading one.act played)
one_begins plan front state one user played holds h matches b =
    act_begins front one.turn one.thread one.reading one.act user played
    (act_suits plan state one.turn one.thread one.reading one.act user played holds h matches) b

two_begin : (plan : Plan) (front : List Entry) (state : State) (one two : Entry) (user : ℕ) (played : Option Play) → Holds state →
    adds_two plan state one two ≡ true → Matches state user played → Begins front user played →
    Begins (front ++ one ∷ two ∷ []) user (play_behind user two.thread two.reading two.act (play_behind user one.thread one.reading one.act played))
two_begin plan front state one two user played holds h matches b =
    let between = first_matches plan state one two user played holds h matches in
    let p = pair_of plan state one two h in
    let first = act_begins front one.turn one.thread one.reading one.act user played
    (gain_suits p.scenario p.user p.slot user one.thread one.act played p.gains) b in
    let idle = gained_idle plan state one.turn one.thread one.reading one.act p.scenario p.user p.slot p.share p.stands p.gains in
    let suits = subst (λ act. Suits user two.thread act (play_behind user one.thread one.reading one.act played)) p.starts
    (start_suits (after_entry plan state one) two.thread p.scenario p.user p.item p.until user (play_behind user one.thread one.reading one.act played)
    between.0 idle between.1) in
    subst (λ es. Begins es user (play_behind user two.thread two.reading two.act (play_behind user one.thread one.reading one.act played)))
    (append_assoc front (one ∷ []) (two ∷ []))
    (act_begins (front ++ one ∷ []) two.turn two.thread two.reading two.act user (play_behind user one.thread one.reading one.act played) suits first)

steps_begin : (plan : Plan) (user : ℕ) (history front : List Entry) (state : State) (played : Option Play) →
    are_steps plan state history ≡ true → Holds state → Matches state user played → Begins front user played →
    Begins (front ++ history) user (play_after user played history)
steps_begin plan user [] front state played h holds matches b = subst (λ es. Begins es user played) (sym (append-nil front)) b
steps_begin plan user (one ∷ []) front state played h holds matches b = one_begins plan front state one user played holds h matches b
steps_begin plan user (one ∷ two ∷ rest) front state played h holds matches b =
    elim (some_true (adds_one plan state one && are_steps plan (after_entry plan state one) (two ∷ rest)) _ h) [
      | inl first ↦
          let both = both_true (adds_one plan state one) _ first in
          let behind = play_behind user one.thread one.reading one.act played in
          subst (λ es. Begins es user (play_after user behind (two ∷ rest))) (append_assoc front (one ∷ []) (two ∷ rest))
          (steps_begin plan user (two ∷ rest) (front ++ one ∷ []) (after_entry plan state one) behind both.1 (one_holds plan state one holds both.0)
          (one_matches plan state one user played holds both.0 matches) (one_begins plan front state one user played holds both.0 matches b))
      | inr second ↦
          let both = both_true (adds_two plan state one two) _ second in
          let behind = play_behind user two.thread two.reading two.act (play_behind user one.thread one.reading one.act played) in
          subst (λ es. Begins es user (play_after user behind rest)) (append_assoc front (one ∷ two ∷ []) rest)
          (steps_begin plan user rest (front ++ one ∷ two ∷ []) (after_entry plan (after_entry plan state one) two) behind both.1
          (two_hold plan state one two holds both.0) (two_match plan state one two user played holds both.0 matches)
          (two_begin plan front state one two user played holds both.0 matches b))
    ]

-- ---- whole histories

legal_begins : (plan : Plan) (history : List Entry) (user : ℕ) → IsLegal plan history → Begins history user (play_of user history)
legal_begins plan history user h =
    steps_begin plan user history [] (opening plan) None h (opening_holds plan) (opening_matches plan user)
    (record {
      begun = λ play is. absurd (some_not_none (sym is));
      plays = λ thread n item until b. absurd (not_empty b.before b.start b.behind b.parts);
    })

-- behind a legal history the stints that are out at a thread are those that it began and didn't return
pub out_begun : (plan : Plan) (history : List Entry) (thread : ℕ) (stint : StintView) → IsLegal plan history →
    (is_out (state_after plan history) thread stint ≡ true) ↔ IsBegun (own_entries thread history) stint
out_begun plan history thread stint legal =
    let matches = legal_matches plan history stint.user legal in
    let begins = legal_begins plan history stint.user legal in (
      λ out.
          let found = matches.playing thread stint.scenario stint.item stint.until out in
          let b = begins.begun found.0 found.1 in
          subst (λ (it : StintView). Begun thread history it) (sym found.3)
          (subst (λ th. Begun th history (stint_of_play stint.user found.0)) found.2 b),
      λ b.
          let found = begins.plays thread stint.scenario stint.item stint.until b in
          let out = matches.out found.0 found.1 in
          subst (λ (it : StintView). is_out (state_after plan history) thread it ≡ true) (sym found.3)
          (subst (λ th. is_out (state_after plan history) th (stint_of_play stint.user found.0) ≡ true) found.2 out),
    )

-- ---- what a thread may ask

-- where every ask gives something
act_gives : (plan : Plan) (state : State) (thread t : ℕ) → (r : Result) × In r (act_results plan state thread t)
act_gives plan state thread t =
    let P : Bool → Type 0 = λ b. (r : Result) × In r (cond b (answered state Over ∷ []) (open_results plan state thread t (first_moves plan state t))) in
    elim (all_closed state) as P [ true ↦ (answered state Over, here) | false ↦ open_gives (first_moves plan state t) ]
  where
    open_gives : (moves : List Move) → (r : Result) × In r (open_results plan state thread t moves)
    open_gives [] = (answered state (Wait (wait_moment plan state t)), here)
    open_gives (m ∷ ms) = (move_result plan state thread t m, here)

-- a Return gives something exactly where its stint is out and its tally fits
return_gives : (plan : Plan) (state : State) (thread t : ℕ) (stint : StintView) (finished : Bool) (tally : TallyView) →
    is_out state thread stint ≡ true → tally_fits plan.names (script_room plan stint.scenario) tally ≡ true →
    (r : Result) × In r (return_results plan state thread t stint finished tally)
return_gives plan state thread t stint finished tally out fits =
    let noted = performed plan state thread t Noted (return_of stint (outcome_of finished t stint.until) tally ∷ []) in
    let both : (is_out state thread stint && tally_fits plan.names (script_room plan stint.scenario) tally) ≡ true = rw (out, fits) refl in
    (noted, subst (λ b. In noted (cond b (noted ∷ []) [])) (sym both) here)

-- and the other way round
return_given : (plan : Plan) (state : State) (thread t : ℕ) (stint : StintView) (finished : Bool) (tally : TallyView) (r : Result) →
    In r (return_results plan state thread t stint finished tally) →
    (is_out state thread stint ≡ true) × (tally_fits plan.names (script_room plan stint.scenario) tally ≡ true)
return_given plan state thread t stint finished tally r h =
    let noted = performed plan state thread t Noted (return_of stint (outcome_of finished t stint.until) tally ∷ []) in
    let P : Bool → Type 0 = λ b. In r (cond b (noted ∷ []) []) → b ≡ true in
    let given : P (is_out state thread stint && tally_fits plan.names (script_room plan stint.scenario) tally) =
    elim (is_out state thread stint && tally_fits plan.names (script_room plan stint.scenario) tally) as P [
      | true ↦ λ at. refl
      | false ↦ λ at. absurd (nothing_in at)
    ] in both_true (is_out state thread stint) (tally_fits plan.names (script_room plan stint.scenario) tally) (given h)

-- a Check gives something exactly where the scenario has a share
check_gives : (state : State) (n : ℕ) → n < length state.shares → (r : Result) × In r (check_results state n)
check_gives state n below = elim (slice_get_cases state.shares n).1 [
  | inl it ↦ (
    answered state (check_reply it.0),
    subst (λ o. In (answered state (check_reply it.0)) (option_map_or (λ (share : Share). answered state (check_reply share) ∷ []) o []))
        (sym it.2) here,
  )
  | inr none ↦ let past = none.0 in absurd (omega arith)
]

-- and what it gives has one
check_given : (state : State) (n : ℕ) (r : Result) → In r (check_results state n) → n < length state.shares
check_given state n r h =
    let P : Option Share → Type 0 = λ o. slice_get state.shares n ≡ o →
    In r (option_map_or (λ (share : Share). answered state (check_reply share) ∷ []) o []) → n < length state.shares in
    let given : P (slice_get state.shares n) = elim (slice_get state.shares n) as P [
      | None ↦ λ e at. absurd (nothing_in at)
      | Some share ↦ λ e at. slice_get_within state.shares n share e
    ] in given refl h

-- there are as many shares as parts
shares_of_parts : (plan : Plan) (history : List Entry) → length (state_after plan history).shares ≡ length plan.parts
shares_of_parts plan history = length-entries plan history (opening plan) ∙ length-opening plan.parts

-- what gives something has a step
gives_step : (plan : Plan) (state : State) (thread : ℕ) (ask : Ask) (t : ℕ) → ((r : Result) × In r (results plan state thread ask t)) →
    (r : Result) × IsStep plan state thread ask t r
gives_step plan state thread ask t given = (given.0, Contains-from_In given.0 given.1)

-- by its own entries a thread may ask exactly what has a step
pub may_ask : (plan : Plan) (history : List Entry) (thread : ℕ) (ask : Ask) (t : ℕ) → IsLegal plan history →
    MayAsk plan (own_entries thread history) ask ↔ ((r : Result) × IsStep plan (state_after plan history) thread ask t r)
may_ask plan history thread asks.Act t legal =
    (λ may. gives_step plan (state_after plan history) thread asks.Act t (act_gives plan (state_after plan history) thread t), λ step. refl)
may_ask plan history thread (asks.Return stint finished tally) t legal =
    let begun = out_begun plan history thread stint legal in (
      λ may. gives_step plan (state_after plan history) thread (asks.Return stint finished tally) t
          (return_gives plan (state_after plan history) thread t stint finished tally (begun.1 may.0) may.1),
      λ step.
          let given = return_given plan (state_after plan history) thread t stint finished tally step.0 (In-of step.1) in
          (begun.0 given.0, given.1),
    )
may_ask plan history thread (asks.Check n) t legal =
    let same = shares_of_parts plan history in (
      λ may. gives_step plan (state_after plan history) thread (asks.Check n) t
          (check_gives (state_after plan history) n (subst (λ k. n < k) (sym same) may)),
      λ step. subst (λ k. n < k) same (check_given (state_after plan history) n step.0 (In-of step.1)),
    )
may_ask plan history thread asks.Look t legal =
    let state = state_after plan history in
    (λ may. gives_step plan state thread asks.Look t (answered state (look_reply state), here), λ step. refl)
may_ask plan history thread (asks.Control command) t legal = (
  λ may. gives_step plan (state_after plan history) thread (asks.Control command) t
      (control_result plan (state_after plan history) thread t command, here),
  λ step. refl,
)

-- ---- entries of other threads

-- where all are of other threads, none is the thread's own
none_own : (thread : ℕ) (entries : List Entry) → ((entry : Entry) → In entry entries → entry.thread ≢ thread) → own_entries thread entries ≡ []
none_own thread [] others = refl
none_own thread (entry ∷ rest) others =
    let apart : (entry.thread == thread) ≡ false = false_unless (entry.thread == thread) (λ e. others entry here (same_number entry.thread thread e)) in
    ap (λ b. cond b (entry ∷ own_entries thread rest) (own_entries thread rest)) apart ∙ none_own thread rest (λ one at. others one (there at))

-- entries of other threads take nothing away that a thread may ask
pub may_still : (plan : Plan) (history more : List Entry) (thread : ℕ) (ask : Ask) → MayAsk plan (own_entries thread history) ask →
    ((entry : Entry) → Contains more entry → entry.thread ≢ thread) → MayAsk plan (own_entries thread (history ++ more)) ask
may_still plan history more thread ask may others =
    let none = none_own thread more (λ entry at. others entry (Contains-from_In entry at)) in
    let same : own_entries thread (history ++ more) ≡ own_entries thread history =
    filter-append (λ (entry : Entry). entry.thread == thread) history more ∙ ap (λ es. own_entries thread history ++ es) none
    ∙ append-nil (own_entries thread history) in
    subst (λ own. MayAsk plan own ask) (sym same) may

-- ---- entries of one step

-- each of these entries is the thread's, at this reading
abbrev AllOwn : ℕ → ℕ → List Entry → Type 0
AllOwn thread t entries = (entry : Entry) → In entry entries → (entry.thread ≡ thread) × (entry.reading ≡ t)

-- so it is where there is none, of the entries of acts, and of a reply to an ask
none_own_entries : (thread t : ℕ) → AllOwn thread t []
none_own_entries thread t entry h = absurd (nothing_in h)

entries_own : (at thread t : ℕ) (acts : List Act) → AllOwn thread t (entries_of at thread t acts)
entries_own at thread t [] entry h = absurd (nothing_in h)
entries_own at thread t (act ∷ rest) entry here = (refl, refl)
entries_own at thread t (act ∷ rest) entry (there more) = entries_own (at + 1) thread t rest entry more

module _ (plan : Plan) (state : State) (thread t : ℕ) where
  one_own : (r one : Result) → In r (one ∷ []) → AllOwn thread t one.entries → AllOwn thread t r.entries
  one_own r one h own = subst (λ (q : Result). AllOwn thread t q.entries) (In-one r one h) own

  room_own : (reply : Reply) (acts : List Act) (refusal : Option Reply) →
      AllOwn thread t (option_map_or (answered state) refusal (performed plan state thread t reply acts)).entries
  room_own reply acts None = entries_own (state.entries + 1) thread t acts
  room_own reply acts (Some other) = none_own_entries thread t

  open_own : (moves : List Move) (r : Result) → In r (open_results plan state thread t moves) → AllOwn thread t r.entries
  open_own [] r h = one_own r (answered state (Wait (wait_moment plan state t))) h (none_own_entries thread t)
  open_own (m ∷ ms) r h =
      let found = In-map (move_result plan state thread t) r (m ∷ ms) h in
      subst (λ (q : Result). AllOwn thread t q.entries) found.2 (room_own (reply_to found.0) (acts_of found.0) (room_refusal plan state found.0))

  -- each entry of a step is the asking thread's, at the reading of the ask
  pub step_own : (ask : Ask) (r : Result) → In r (results plan state thread ask t) → AllOwn thread t r.entries
  step_own asks.Act r h =
      let P : Bool → Type 0 = λ b. In r (cond b (answered state Over ∷ []) (open_results plan state thread t (first_moves plan state t))) →
      AllOwn thread t r.entries in
      let own : P (all_closed state) = elim (all_closed state) as P [
        | true ↦ λ at. one_own r (answered state Over) at (none_own_entries thread t)
        | false ↦ λ at. open_own (first_moves plan state t) r at
      ] in own h
  step_own (asks.Return stint finished tally) r h =
      let acts = return_of stint (outcome_of finished t stint.until) tally ∷ [] in
      let P : Bool → Type 0 = λ b. In r (cond b (performed plan state thread t Noted acts ∷ []) []) → AllOwn thread t r.entries in
      let own : P (is_out state thread stint && tally_fits plan.names (script_room plan stint.scenario) tally) =
      elim (is_out state thread stint && tally_fits plan.names (script_room plan stint.scenario) tally) as P [
        | true ↦ λ at. one_own r (performed plan state thread t Noted acts) at (entries_own (state.entries + 1) thread t acts)
        | false ↦ λ at. absurd (nothing_in at)
      ] in own h
  step_own (asks.Check n) r h =
      let P : Option Share → Type 0 = λ o. In r (option_map_or (λ (share : Share). answered state (check_reply share) ∷ []) o []) →
      AllOwn thread t r.entries in
      let own : P (slice_get state.shares n) = elim (slice_get state.shares n) as P [
        | None ↦ λ at. absurd (nothing_in at)
        | Some share ↦ λ at. one_own r (answered state (check_reply share)) at (none_own_entries thread t)
      ] in own h
  step_own asks.Look r h = one_own r (answered state (look_reply state)) h (none_own_entries thread t)
  step_own (asks.Control command) r h =
      let noted = option_map_or (answered state) (entries_refusal plan state 1 0) (performed plan state thread t Noted (Control command ∷ [])) in
      let P : Bool → Type 0 = λ b. AllOwn thread t (cond b (answered state Denied) noted).entries in
      let own : P (is_denied plan state command) = elim (is_denied plan state command) as P [
        | true ↦ none_own_entries thread t
        | false ↦ room_own Noted (Control command ∷ []) (entries_refusal plan state 1 0)
      ] in one_own r (control_result plan state thread t command) h own
