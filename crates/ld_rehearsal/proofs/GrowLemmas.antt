-- What holds of a history holds of it with one entry more.
use Rattle.std.proofs.Common.{◌≡◌, ◌≤◌, ◌<◌, ◌==◌, ◌&&◌, ◌||◌, not, nat_le, nat_lt, ℕ, Bool, true, false, cond, List, [], ◌∷◌, ◌++◌, Option, None, Some, find, arith, refl, ap, ◌∙◌}
use Rattle.std.specs.Option.{option_map_or, option_or}
use Rattle.std.proofs.lemmas.List.Folds.{find-append}
use Rattle.std.proofs.lemmas.Grind.{common_steps}
use Rattle.ld_base.specs.declared.act.Act.{Act}
use Rattle.ld_base.specs.declared.act.Act.TheVariants.{Take, Grow, Start, Drop, Late, Return, Release, Stop, Close, Control}
use Rattle.ld_base.specs.declared.entry.Entry.{Entry}
use Rattle.ld_machine.specs.OnTime.{is_asked_act, last_reading, readings_rise}
use Rattle.ld_machine.specs.Playing.{Play, play_behind, play_after, play_of}
use Rattle.ld_machine.specs.Rehearsal.{is_return, may_follow, returned_user, returns_at, returns_first, is_returned_at, all_returned_at}
use Rattle.ld_machine.specs.Settled.{is_turn_of, is_its_return, is_returned, all_returned}
use Rattle.ld_machine.proofs.ListLemmas.{both_true, number_itself}
use Rattle.ld_rehearsal.specs.Played.{is_returned_so_far, all_returned_so_far, may_come}
use Rattle.ld_rehearsal.proofs.PlayLemmas.{begun_after, untouched}

-- ---- readings

pub last_grown : (since : ℕ) (history : List Entry) (e : Entry) → last_reading since (history ++ e ∷ []) ≡ e.reading
last_grown since [] e = refl
last_grown since (x ∷ rest) e = last_grown x.reading rest e

pub readings_grown : (since : ℕ) (history : List Entry) (e : Entry) → readings_rise since history ≡ true → last_reading since history ≤ e.reading →
    readings_rise since (history ++ e ∷ []) ≡ true
readings_grown since [] e rise low = grind (arith, common_steps)
readings_grown since (x ∷ rest) e rise low =
    let both = both_true (nat_le since x.reading) (readings_rise x.reading rest) rise in
    rw both.0 (readings_grown x.reading rest e both.1 low)

-- ---- returns

returned_alone : (long start : ℕ) (act : Act) → is_returned_so_far long start act [] ≡ true
returned_alone long start (Start n user item until) = refl
returned_alone long start (Take n user slot) = refl
returned_alone long start (Grow n user slot) = refl
returned_alone long start (Drop n item) = refl
returned_alone long start (Late n item) = refl
returned_alone long start (Return n user item outcome tally) = refl
returned_alone long start (Release n user) = refl
returned_alone long start (Stop n) = refl
returned_alone long start (Close n) = refl
returned_alone long start (Control command) = refl

returned_start : (long start n user item until : ℕ) (rest : List Entry) (e : Entry) → is_returned_so_far long start (Start n user item until) rest ≡ true →
    (find (λ (entry : Entry). is_turn_of user entry.act) rest ≡ None → is_turn_of user e.act ≡ true → (is_its_return n user item e.act && returns_at long start until e) ≡ true) →
    is_returned_so_far long start (Start n user item until) (rest ++ e ∷ []) ≡ true
returned_start long start n user item until rest e ok ends =
    let turn : Entry → Bool = λ entry. is_turn_of user entry.act in
    let test : Entry → Bool = λ entry. is_its_return n user item entry.act && returns_at long start until entry in
    let Q : Bool → Type 0 = λ b. (turn e ≡ b) → (find turn rest ≡ None) → option_map_or test (cond b (Some e) None) true ≡ true in
    let last : Q (turn e) = elim (turn e) as Q [ true ↦ λ is none. ends none is | false ↦ λ is none. refl ] in
    let P : Option Entry → Type 0 = λ o. (find turn rest ≡ o) → option_map_or test o true ≡ true → option_map_or test (option_or o (find turn (e ∷ []))) true ≡ true in
    let go : P (find turn rest) = elim (find turn rest) as P [ None ↦ λ none at. last refl none | Some found ↦ λ some at. at ] in
    rw (find-append turn rest (e ∷ [])) (go refl ok)

returned_act : (long start thread : ℕ) (act : Act) (rest : List Entry) (e : Entry) → is_returned_so_far long start act rest ≡ true →
    ((user : ℕ) (play : Play) → play_after user (play_behind user thread start act None) rest ≡ Some play → is_turn_of user e.act ≡ true →
    (is_its_return play.scenario user play.item e.act && returns_at long play.start play.until e) ≡ true) →
    is_returned_so_far long start act (rest ++ e ∷ []) ≡ true
returned_act long start thread (Start n user item until) rest e ok ends =
    let play : Play = record { thread = thread; start = start; scenario = n; item = item; until = until } in
    let begun : play_behind user thread start (Start n user item until) None ≡ Some play = rw (number_itself user) refl in
    returned_start long start n user item until rest e ok
    (λ none turn. ends user play (ap (λ (o : Option Play). play_after user o rest) begun ∙ untouched user (Some play) rest none) turn)
returned_act long start thread (Take n user slot) rest e ok ends = refl
returned_act long start thread (Grow n user slot) rest e ok ends = refl
returned_act long start thread (Drop n item) rest e ok ends = refl
returned_act long start thread (Late n item) rest e ok ends = refl
returned_act long start thread (Return n user item outcome tally) rest e ok ends = refl
returned_act long start thread (Release n user) rest e ok ends = refl
returned_act long start thread (Stop n) rest e ok ends = refl
returned_act long start thread (Close n) rest e ok ends = refl
returned_act long start thread (Control command) rest e ok ends = refl

-- where a turn of a user who plays is the Return of what it plays, at the moment at which it ends
pub returned_grown : (long : ℕ) (history : List Entry) (e : Entry) → all_returned_so_far long history ≡ true →
    ((user : ℕ) (play : Play) → play_of user history ≡ Some play → is_turn_of user e.act ≡ true →
    (is_its_return play.scenario user play.item e.act && returns_at long play.start play.until e) ≡ true) →
    all_returned_so_far long (history ++ e ∷ []) ≡ true
returned_grown long [] e ok ends = rw (returned_alone long e.reading e.act) refl
returned_grown long (x ∷ rest) e ok ends =
    let both = both_true (is_returned_so_far long x.reading x.act rest) (all_returned_so_far long rest) ok in
    let now = returned_act long x.reading x.thread x.act rest e both.0 ends in
    let later = returned_grown long rest e both.1
    (λ user play h turn. ends user play (begun_after user rest play (play_behind user x.thread x.reading x.act None) h) turn) in
    rw (now, later) refl

-- ---- returns at the end

found_both : (its at : Entry → Bool) (o : Option Entry) → option_map_or its o false ≡ true → option_map_or (λ (e : Entry). its e && at e) o true ≡ true →
    option_map_or (λ (e : Entry). its e && at e) o false ≡ true
found_both its at None some all = absurd (cc)
found_both its at (Some e) some all = all

closed_act : (long start : ℕ) (act : Act) (rest : List Entry) → is_returned act rest ≡ true → is_returned_so_far long start act rest ≡ true → is_returned_at long start act rest ≡ true
closed_act long start (Start n user item until) rest some all =
    found_both (λ (e : Entry). is_its_return n user item e.act) (returns_at long start until) (find (λ (entry : Entry). is_turn_of user entry.act) rest) some all
closed_act long start (Take n user slot) rest some all = refl
closed_act long start (Grow n user slot) rest some all = refl
closed_act long start (Drop n item) rest some all = refl
closed_act long start (Late n item) rest some all = refl
closed_act long start (Return n user item outcome tally) rest some all = refl
closed_act long start (Release n user) rest some all = refl
closed_act long start (Stop n) rest some all = refl
closed_act long start (Close n) rest some all = refl
closed_act long start (Control command) rest some all = refl

-- each Start is returned where it should, if each one is returned
pub returned_closed : (long : ℕ) (history : List Entry) → all_returned history ≡ true → all_returned_so_far long history ≡ true → all_returned_at long history ≡ true
returned_closed long [] some all = refl
returned_closed long (x ∷ rest) some all =
    let found = both_true (is_returned x.act rest) (all_returned rest) some in
    let timed = both_true (is_returned_so_far long x.reading x.act rest) (all_returned_so_far long rest) all in
    rw (closed_act long x.reading x.act rest found.0 timed.0, returned_closed long rest found.1 timed.1) refl

quiet_start : (long start n user item until : ℕ) (rest : List Entry) → (find (λ (entry : Entry). is_turn_of user entry.act) rest ≡ None → ⊥) →
    is_returned_so_far long start (Start n user item until) rest ≡ true → is_returned_at long start (Start n user item until) rest ≡ true
quiet_start long start n user item until rest some all =
    let test : Entry → Bool = λ entry. is_its_return n user item entry.act && returns_at long start until entry in
    let P : Option Entry → Type 0 = λ o. (o ≡ None → ⊥) → option_map_or test o true ≡ true → option_map_or test o false ≡ true in
    let go : P (find (λ (entry : Entry). is_turn_of user entry.act) rest) = elim (find (λ (entry : Entry). is_turn_of user entry.act) rest) as P [
      | None ↦ λ there at. absurd (there refl)
      | Some found ↦ λ there at. at
    ] in go some all

quiet_act : (long start thread : ℕ) (act : Act) (rest : List Entry) → ((user : ℕ) (play : Play) → play_after user (play_behind user thread start act None) rest ≡ Some play → ⊥) →
    is_returned_so_far long start act rest ≡ true → is_returned_at long start act rest ≡ true
quiet_act long start thread (Start n user item until) rest nobody all =
    let play : Play = record { thread = thread; start = start; scenario = n; item = item; until = until } in
    let begun : play_behind user thread start (Start n user item until) None ≡ Some play = rw (number_itself user) refl in
    quiet_start long start n user item until rest
    (λ none. nobody user play (ap (λ (o : Option Play). play_after user o rest) begun ∙ untouched user (Some play) rest none)) all
quiet_act long start thread (Take n user slot) rest nobody all = refl
quiet_act long start thread (Grow n user slot) rest nobody all = refl
quiet_act long start thread (Drop n item) rest nobody all = refl
quiet_act long start thread (Late n item) rest nobody all = refl
quiet_act long start thread (Return n user item outcome tally) rest nobody all = refl
quiet_act long start thread (Release n user) rest nobody all = refl
quiet_act long start thread (Stop n) rest nobody all = refl
quiet_act long start thread (Close n) rest nobody all = refl
quiet_act long start thread (Control command) rest nobody all = refl

-- the same where nobody plays
pub returned_quiet : (long : ℕ) (history : List Entry) → ((user : ℕ) (play : Play) → play_of user history ≡ Some play → ⊥) →
    all_returned_so_far long history ≡ true → all_returned_at long history ≡ true
returned_quiet long [] nobody all = refl
returned_quiet long (x ∷ rest) nobody all =
    let timed = both_true (is_returned_so_far long x.reading x.act rest) (all_returned_so_far long rest) all in
    let later = returned_quiet long rest (λ user play h. nobody user play (begun_after user rest play (play_behind user x.thread x.reading x.act None) h)) timed.1 in
    rw (quiet_act long x.reading x.thread x.act rest nobody timed.0, later) refl

-- ---- order

pub order_grown : (history : List Entry) (e : Entry) → returns_first history ≡ true → may_come history e ≡ true → returns_first (history ++ e ∷ []) ≡ true
order_grown [] e first may = refl
order_grown (one ∷ []) e first may = rw may refl
order_grown (one ∷ two ∷ rest) e first may =
    let both = both_true (may_follow one two) (returns_first (two ∷ rest)) first in
    rw both.0 (order_grown (two ∷ rest) e both.1 may)

-- an act that was asked for is no Return
pub no_return : (act : Act) → is_asked_act act ≡ true → is_return act ≡ false
no_return (Take n user slot) e = refl
no_return (Grow n user slot) e = refl
no_return (Start n user item until) e = refl
no_return (Drop n item) e = refl
no_return (Late n item) e = refl
no_return (Return n user item outcome tally) e = absurd (cc)
no_return (Release n user) e = refl
no_return (Stop n) e = refl
no_return (Close n) e = refl
no_return (Control command) e = refl

-- what is no Return may always come
pub act_may_come : (history : List Entry) (e : Entry) → is_return e.act ≡ false → may_come history e ≡ true
act_may_come [] e plain = refl
act_may_come (one ∷ []) e plain =
    let P : Bool → Type 0 = λ b. (not b || true || (is_return one.act && nat_lt (returned_user one.act) (returned_user e.act))) ≡ true in
    let go : P (one.reading == e.reading) = elim (one.reading == e.reading) as P [ true ↦ refl | false ↦ refl ] in
    rw plain go
act_may_come (one ∷ two ∷ rest) e plain = act_may_come (two ∷ rest) e plain

-- what comes at a later reading may come
pub later_may_come : (since : ℕ) (history : List Entry) (e : Entry) → last_reading since history < e.reading → may_come history e ≡ true
later_may_come since [] e later = refl
later_may_come since (one ∷ []) e later =
    let other : (one.reading == e.reading) ≡ false = grind (arith, common_steps) in rw other refl
later_may_come since (one ∷ two ∷ rest) e later = later_may_come one.reading (two ∷ rest) e later

-- behind a last entry it may come as it may follow that one
pub may_come_behind : (history : List Entry) (last e : Entry) → may_come (history ++ last ∷ []) e ≡ may_follow last e
may_come_behind [] last e = refl
may_come_behind (one ∷ []) last e = refl
may_come_behind (one ∷ two ∷ rest) last e = may_come_behind (two ∷ rest) last e
