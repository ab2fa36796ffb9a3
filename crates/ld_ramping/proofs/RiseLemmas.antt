-- Turns climb, and spans of turns that climb rise.
use Rattle.std.proofs.Common.{◌≡◌, Bool, true, false, if◌then◌else◌, ◌<◌, ◌≤◌, ◌+◌, ◌++◌, ℕ, List, [], ◌∷◌, All, AllPairs, Option, Some, None, arith, filter, nat_le, nat_lt, sum_by, subst}
use Rattle.std.proofs.lemmas.Bool.{ltb-true}
use Rattle.std.proofs.lemmas.List.Elements.{All-cons, All-filter, All-nil, All-weaker, filter_passes}
use Rattle.std.proofs.lemmas.List.Kept.{AllPairs-cons, AllPairs-filter}
use Rattle.std.proofs.lemmas.List.Sums.{sum_by-cons}
use Rattle.ld_base.specs.declared.stage.Stage.{Stage}
use Rattle.ld_ramping.specs.declared.interval.Interval.{Interval}
use Rattle.ld_ramping.specs.Intervals.{intervals_of, paired}
use Rattle.ld_ramping.specs.Rising.{AreRising, EndBy}
use Rattle.ld_ramping.specs.Turns.{listed, turn_in, turns, turns_in}
use Rattle.ld_ramping.proofs.TurnLemmas.{Turned, up, down, stays, lacks, turn_case, turn_on-within, turn_off-within}

-- the moments don't fall, and lie between these two
abbrev pub Climb : (low high : ℕ) → List ℕ → Type 0
Climb low high [] = low ≤ high
Climb low high (moment ∷ later) = (low ≤ moment) × Climb moment high later

pub Climb-lower : (less low high : ℕ) (moments : List ℕ) → less ≤ low → Climb low high moments → Climb less high moments
Climb-lower less low high [] le climb = omega arith
Climb-lower less low high (moment ∷ later) le climb = (omega arith, climb.1)

-- the turns of a stage climb, before those of later ones
stage_climbs : (user begin users high : ℕ) (stage : Stage) (turn : Option ℕ) (rest : List ℕ) →
    Turned user begin users stage turn → Climb (begin + stage.length) high rest → Climb begin high (listed turn ++ rest)
stage_climbs user begin users high stage _ rest (up out below) climb =
    let within = turn_on-within user begin users stage out below in
    (within.0, Climb-lower _ (begin + stage.length) high rest within.1 climb)
stage_climbs user begin users high stage _ rest (down above among) climb =
    let within = turn_off-within user begin users stage above among in
    (within.0, Climb-lower _ (begin + stage.length) high rest within.1 climb)
stage_climbs user begin users high stage _ rest (stays among below) climb =
    Climb-lower begin (begin + stage.length) high rest (omega arith) climb
stage_climbs user begin users high stage _ rest (lacks out above) climb =
    Climb-lower begin (begin + stage.length) high rest (omega arith) climb

-- so does the turn of a user that is among so many, or isn't
among_climbs : (is_among : Bool) (moment high : ℕ) (rest : List ℕ) → Climb moment high rest →
    Climb moment high (listed (if is_among then Some moment else None) ++ rest)
among_climbs true moment high rest climb = (omega arith, climb)
among_climbs false moment high rest climb = climb

end_climbs : (is_among : Bool) (moment : ℕ) → Climb moment (moment + 0) (listed (if is_among then Some moment else None))
end_climbs true moment = (omega arith, omega arith)
end_climbs false moment = omega arith

pub turns_climb : (user begin users : ℕ) (stages : List Stage) →
    Climb begin (begin + sum_by (λ stage. stage.length) stages) (turns_in user begin users stages)
unfolding turns_in
turns_climb user begin users [] = end_climbs (nat_le user users) begin
turns_climb user begin users (stage ∷ later) =
    let sum = sum_by-cons (λ (s : Stage). s.length) stage later in
    let same : begin + stage.length + sum_by (λ (s : Stage). s.length) later ≡ begin + sum_by (λ (s : Stage). s.length) (stage ∷ later) =
    omega arith in
    stage_climbs user begin users _ stage (turn_in user begin users stage) _ (turn_case user begin users stage)
    (subst (λ high. Climb (begin + stage.length) high (turns_in user (begin + stage.length) stage.target later)) same
    (turns_climb user (begin + stage.length) stage.target later))

-- in pairs of turns that climb each begins at or behind the least one, ends at or before the greatest, and is over when
-- a later one begins
pairs_begin : (low high : ℕ) (moments : List ℕ) → Climb low high moments → All (λ (i : Interval). low ≤ i.on) (paired moments)
unfolding paired
pairs_begin low high [] climb = All-nil (λ (i : Interval). low ≤ i.on)
pairs_begin low high (_ ∷ []) climb = All-nil (λ (i : Interval). low ≤ i.on)
pairs_begin low high (on ∷ off ∷ later) climb =
    All-cons (λ (i : Interval). low ≤ i.on) (record { on = on; off = off }) (paired later) climb.0
    (pairs_begin low high later (Climb-lower low off high later (omega arith) climb.1.1))

climb_high : (low high : ℕ) (moments : List ℕ) → Climb low high moments → low ≤ high
climb_high low high [] climb = climb
climb_high low high (moment ∷ later) climb = let high = climb_high moment high later climb.1 in omega arith

pairs_end : (low high : ℕ) (moments : List ℕ) → Climb low high moments → All (λ (i : Interval). i.off ≤ high) (paired moments)
unfolding paired
pairs_end low high [] climb = All-nil (λ (i : Interval). i.off ≤ high)
pairs_end low high (_ ∷ []) climb = All-nil (λ (i : Interval). i.off ≤ high)
pairs_end low high (on ∷ off ∷ later) climb =
    All-cons (λ (i : Interval). i.off ≤ high) (record { on = on; off = off }) (paired later) (climb_high off high later climb.1.1)
    (pairs_end off high later climb.1.1)

pairs_rise : (low high : ℕ) (moments : List ℕ) → Climb low high moments →
    AllPairs (λ (early late : Interval). early.off ≤ late.on) (paired moments)
unfolding paired
pairs_rise low high [] climb = λ i j d less within. absurd (omega arith)
pairs_rise low high (_ ∷ []) climb = λ i j d less within. absurd (omega arith)
pairs_rise low high (on ∷ off ∷ later) climb =
    AllPairs-cons (λ (early late : Interval). early.off ≤ late.on) (record { on = on; off = off }) (paired later)
    (pairs_begin off high later climb.1.1) (pairs_rise off high later climb.1.1)

-- all turns of a user climb
all_climb : (user start : ℕ) (stages : List Stage) →
    Climb 0 (sum_by (λ stage. stage.length) stages) (turns user start stages)
all_climb user start stages =
    let total = sum_by (λ (stage : Stage). stage.length) stages in
    let same : 0 + total ≡ total = omega arith in
    among_climbs (nat_le user start) 0 total (turns_in user 0 start stages)
    (subst (λ high. Climb 0 high (turns_in user 0 start stages)) same (turns_climb user 0 start stages))

kept : Interval → Bool
kept i = nat_lt i.on i.off

pub intervals_are_rising : (user start : ℕ) (stages : List Stage) → AreRising (intervals_of user start stages)
unfolding kept
intervals_are_rising user start stages =
    let pairs = paired (turns user start stages) in
    record {
      some = All-weaker (λ (i : Interval). kept i ≡ true) (λ i. i.on < i.off) (λ i passes. ltb-true i.on i.off passes)
          (filter kept pairs) (filter_passes kept pairs);
      order = AllPairs-filter (λ (early late : Interval). early.off ≤ late.on) kept pairs
          (pairs_rise 0 _ (turns user start stages) (all_climb user start stages));
    }

pub intervals_end : (user start : ℕ) (stages : List Stage) →
    EndBy (sum_by (λ stage. stage.length) stages) (intervals_of user start stages)
unfolding kept
intervals_end user start stages =
    let high = sum_by (λ (stage : Stage). stage.length) stages in
    All-filter kept (λ (i : Interval). i.off ≤ high) (paired (turns user start stages))
    (pairs_end 0 high (turns user start stages) (all_climb user start stages))
