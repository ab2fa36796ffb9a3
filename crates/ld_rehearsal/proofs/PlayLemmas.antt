-- Who plays behind a history with one entry more, and how the turns of users alternate.
use Rattle.std.proofs.Common.{◌≡◌, ◌==◌, ℕ, Bool, true, false, cond, List, [], ◌∷◌, ◌++◌, Option, None, Some, find, arith, refl, sym, ap, subst, ◌∙◌}
use Rattle.std.specs.Option.{option_map_or, option_or}
use Rattle.std.proofs.lemmas.List.Folds.{find-append}
use Rattle.std.proofs.lemmas.Grind.{common_steps}
use Rattle.ld_base.specs.declared.act.Act.{Act}
use Rattle.ld_base.specs.declared.act.Act.TheVariants.{Take, Grow, Start, Drop, Late, Return, Release, Stop, Close, Control}
use Rattle.ld_base.specs.declared.entry.Entry.{Entry}
use Rattle.ld_machine.specs.OnTime.{is_asked_act}
use Rattle.ld_machine.specs.Playing.{Play, play_behind, play_after, play_of}
use Rattle.ld_machine.specs.Settled.{is_turn_of, is_its_return}
use Rattle.ld_machine.specs.Turns.{is_played_alone, starts_alternate}
use Rattle.ld_machine.proofs.ListLemmas.{both_true, some_not_none}

-- the next turn of a user among entries
abbrev next_turn : ℕ → List Entry → Option Entry
next_turn user rest = find (λ (entry : Entry). is_turn_of user entry.act) rest

-- ---- acts

pub not_turned : (user thread t : ℕ) (act : Act) (before : Option Play) → is_turn_of user act ≡ false → play_behind user thread t act before ≡ before
not_turned user thread t (Start n other item until) before e = rw e refl
not_turned user thread t (Return n other item outcome tally) before e = rw e refl
not_turned user thread t (Take n other slot) before e = refl
not_turned user thread t (Grow n other slot) before e = refl
not_turned user thread t (Drop n item) before e = refl
not_turned user thread t (Late n item) before e = refl
not_turned user thread t (Release n other) before e = refl
not_turned user thread t (Stop n) before e = refl
not_turned user thread t (Close n) before e = refl
not_turned user thread t (Control command) before e = refl

turned : (user thread t : ℕ) (act : Act) (a b : Option Play) → is_turn_of user act ≡ true → play_behind user thread t act a ≡ play_behind user thread t act b
turned user thread t (Start n other item until) a b e = rw e refl
turned user thread t (Return n other item outcome tally) a b e = rw e refl
turned user thread t (Take n other slot) a b e = absurd (cc)
turned user thread t (Grow n other slot) a b e = absurd (cc)
turned user thread t (Drop n item) a b e = absurd (cc)
turned user thread t (Late n item) a b e = absurd (cc)
turned user thread t (Release n other) a b e = absurd (cc)
turned user thread t (Stop n) a b e = absurd (cc)
turned user thread t (Close n) a b e = absurd (cc)
turned user thread t (Control command) a b e = absurd (cc)

-- an act that was asked for is no Return
pub no_return_of : (n user item : ℕ) (act : Act) → is_asked_act act ≡ true → is_its_return n user item act ≡ false
no_return_of n user item (Take m other slot) e = refl
no_return_of n user item (Grow m other slot) e = refl
no_return_of n user item (Start m other i until) e = refl
no_return_of n user item (Drop m i) e = refl
no_return_of n user item (Late m i) e = refl
no_return_of n user item (Return m other i outcome tally) e = absurd (cc)
no_return_of n user item (Release m other) e = refl
no_return_of n user item (Stop m) e = refl
no_return_of n user item (Close m) e = refl
no_return_of n user item (Control command) e = refl

-- ---- entries

pub untouched : (user : ℕ) (before : Option Play) (rest : List Entry) → next_turn user rest ≡ None → play_after user before rest ≡ before
untouched user before [] none = refl
untouched user before (x ∷ rest) none =
    let P : Bool → Type 0 = λ b. is_turn_of user x.act ≡ b → cond b (Some x) (next_turn user rest) ≡ None →
    play_after user (play_behind user x.thread x.reading x.act before) rest ≡ before in
    let go : P (is_turn_of user x.act) = elim (is_turn_of user x.act) as P [
      | true ↦ λ e at. absurd (some_not_none at)
      | false ↦ λ e at. ap (λ (o : Option Play). play_after user o rest) (not_turned user x.thread x.reading x.act before e) ∙ untouched user before rest at
    ] in go refl none

-- where a turn stands among entries, what was played before doesn't matter
settled_by_turn : (user : ℕ) (a b : Option Play) (rest : List Entry) (found : Entry) → next_turn user rest ≡ Some found → play_after user a rest ≡ play_after user b rest
settled_by_turn user a b [] found some = absurd (some_not_none (sym some))
settled_by_turn user a b (x ∷ rest) found some =
    let P : Bool → Type 0 = λ c. is_turn_of user x.act ≡ c → cond c (Some x) (next_turn user rest) ≡ Some found →
    play_after user (play_behind user x.thread x.reading x.act a) rest ≡ play_after user (play_behind user x.thread x.reading x.act b) rest in
    let go : P (is_turn_of user x.act) = elim (is_turn_of user x.act) as P [
      | true ↦ λ e at. ap (λ (o : Option Play). play_after user o rest) (turned user x.thread x.reading x.act a b e)
      | false ↦ λ e at.
          ap (λ (o : Option Play). play_after user o rest) (not_turned user x.thread x.reading x.act a e)
          ∙ settled_by_turn user a b rest found at
          ∙ sym (ap (λ (o : Option Play). play_after user o rest) (not_turned user x.thread x.reading x.act b e))
    ] in go refl some

-- what is begun among entries is played, whatever was played before
pub begun_after : (user : ℕ) (rest : List Entry) (play : Play) (before : Option Play) → play_after user None rest ≡ Some play → play_after user before rest ≡ Some play
begun_after user rest play before h =
    let P : Option Entry → Type 0 = λ o. next_turn user rest ≡ o → play_after user before rest ≡ Some play in
    let go : P (next_turn user rest) = elim (next_turn user rest) as P [
      | None ↦ λ e. absurd (some_not_none (sym h ∙ untouched user None rest e))
      | Some found ↦ λ e. settled_by_turn user before None rest found e ∙ h
    ] in go refl

grown_after : (user : ℕ) (before : Option Play) (history : List Entry) (e : Entry) →
    play_after user before (history ++ e ∷ []) ≡ play_behind user e.thread e.reading e.act (play_after user before history)
grown_after user before [] e = refl
grown_after user before (x ∷ rest) e = grown_after user (play_behind user x.thread x.reading x.act before) rest e

-- what a user plays behind one entry more
pub play_grown : (user : ℕ) (history : List Entry) (e : Entry) → play_of user (history ++ e ∷ []) ≡ play_behind user e.thread e.reading e.act (play_of user history)
play_grown user history e = grown_after user None history e

pub play_appended : (user : ℕ) (before : Option Play) (history more : List Entry) → play_after user before (history ++ more) ≡ play_after user (play_after user before history) more
play_appended user before [] more = refl
play_appended user before (x ∷ rest) more = play_appended user (play_behind user x.thread x.reading x.act before) rest more

-- ---- turns alternate

-- what an entry begins for a user that it starts, behind nothing
begun_by : (user thread t : ℕ) (act : Act) (play : Play) (next : Entry) (rest : List Entry) → play_behind user thread t act None ≡ Some play →
    is_played_alone act rest ≡ true → next_turn user rest ≡ Some next → is_its_return play.scenario user play.item next.act ≡ true
begun_by user thread t (Start n other item until) play next rest h alone some =
    let P : Bool → Type 0 = λ b. (other == user) ≡ b → cond b (Some (record { thread = thread; start = t; scenario = n; item = item; until = until })) None ≡ Some play →
    is_its_return play.scenario user play.item next.act ≡ true in
    let go : P (other == user) = elim (other == user) as P [
      | true ↦ λ e at.
          let same : other ≡ user = grind (arith, common_steps) in
          let found : option_map_or (λ (entry : Entry). is_its_return n user item entry.act) (next_turn user rest) true ≡ true = subst (λ (u : ℕ). option_map_or (λ (entry : Entry). is_its_return n u item entry.act) (next_turn u rest) true ≡ true) same alone in
          let its : is_its_return n user item next.act ≡ true = subst (λ (o : Option Entry). option_map_or (λ (entry : Entry). is_its_return n user item entry.act) o true ≡ true) some found in
          let scenario : n ≡ play.scenario = ap (λ (o : Option Play). option_map_or (λ (p : Play). p.scenario) o 0) at in
          let number : item ≡ play.item = ap (λ (o : Option Play). option_map_or (λ (p : Play). p.item) o 0) at in
          rw (← scenario, ← number) its
      | false ↦ λ e at. absurd (some_not_none (sym at))
    ] in go refl h
begun_by user thread t (Return n other item outcome tally) play next rest h alone some =
    let P : Bool → Type 0 = λ b. cond b None None ≡ Some play → ⊥ in
    let go : P (other == user) = elim (other == user) as P [ true ↦ λ at. some_not_none (sym at) | false ↦ λ at. some_not_none (sym at) ] in absurd (go h)
begun_by user thread t (Take n other slot) play next rest h alone some = absurd (some_not_none (sym h))
begun_by user thread t (Grow n other slot) play next rest h alone some = absurd (some_not_none (sym h))
begun_by user thread t (Drop n item) play next rest h alone some = absurd (some_not_none (sym h))
begun_by user thread t (Late n item) play next rest h alone some = absurd (some_not_none (sym h))
begun_by user thread t (Release n other) play next rest h alone some = absurd (some_not_none (sym h))
begun_by user thread t (Stop n) play next rest h alone some = absurd (some_not_none (sym h))
begun_by user thread t (Close n) play next rest h alone some = absurd (some_not_none (sym h))
begun_by user thread t (Control command) play next rest h alone some = absurd (some_not_none (sym h))

-- the next turn, where one entry is added behind others without one
added_turn : (user : ℕ) (rest : List Entry) (e : Entry) → next_turn user rest ≡ None → is_turn_of user e.act ≡ true → next_turn user (rest ++ e ∷ []) ≡ Some e
added_turn user rest e none turn =
    find-append (λ (entry : Entry). is_turn_of user entry.act) rest (e ∷ []) ∙ rw (none, turn) refl

-- a turn of a user who plays is the Return of what it plays
pub turn_returns : (history : List Entry) (e : Entry) (user : ℕ) (play : Play) → starts_alternate (history ++ e ∷ []) ≡ true → play_of user history ≡ Some play →
    is_turn_of user e.act ≡ true → is_its_return play.scenario user play.item e.act ≡ true
turn_returns [] e user play alternate h turn = absurd (some_not_none (sym h))
turn_returns (x ∷ rest) e user play alternate h turn =
    let both = both_true (is_played_alone x.act (rest ++ e ∷ [])) (starts_alternate (rest ++ e ∷ [])) alternate in
    let P : Option Entry → Type 0 = λ o. next_turn user rest ≡ o → is_its_return play.scenario user play.item e.act ≡ true in
    let go : P (next_turn user rest) = elim (next_turn user rest) as P [
      | None ↦ λ none.
          let begun = sym (untouched user (play_behind user x.thread x.reading x.act None) rest none) ∙ h in
          begun_by user x.thread x.reading x.act play e (rest ++ e ∷ []) begun both.0 (added_turn user rest e none turn)
      | Some found ↦ λ some.
          turn_returns rest e user play both.1 (settled_by_turn user None (play_behind user x.thread x.reading x.act None) rest found some ∙ h) turn
    ] in go refl

alone_front : (act : Act) (rest back : List Entry) → is_played_alone act (rest ++ back) ≡ true → is_played_alone act rest ≡ true
alone_front (Start n user item until) rest back h =
    let its : Entry → Bool = λ entry. is_its_return n user item entry.act in
    let P : Option Entry → Type 0 = λ o. option_map_or its (option_or o (next_turn user back)) true ≡ true → option_map_or its o true ≡ true in
    let go : P (next_turn user rest) = elim (next_turn user rest) as P [ None ↦ λ at. refl | Some found ↦ λ at. at ] in
    go (subst (λ (o : Option Entry). option_map_or its o true ≡ true) (find-append (λ (entry : Entry). is_turn_of user entry.act) rest back) h)
alone_front (Take n user slot) rest back h = refl
alone_front (Grow n user slot) rest back h = refl
alone_front (Drop n item) rest back h = refl
alone_front (Late n item) rest back h = refl
alone_front (Return n user item outcome tally) rest back h = refl
alone_front (Release n user) rest back h = refl
alone_front (Stop n) rest back h = refl
alone_front (Close n) rest back h = refl
alone_front (Control command) rest back h = refl

-- turns alternate in a front of a history
pub alternate_front : (front back : List Entry) → starts_alternate (front ++ back) ≡ true → starts_alternate front ≡ true
alternate_front [] back h = refl
alternate_front (x ∷ rest) back h =
    let both = both_true (is_played_alone x.act (rest ++ back)) (starts_alternate (rest ++ back)) h in
    rw (alone_front x.act rest back both.0) (alternate_front rest back both.1)
