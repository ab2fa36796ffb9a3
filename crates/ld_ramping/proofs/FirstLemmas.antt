-- At each moment the users that are on are the first ones: this is so within each stage.
use Rattle.std.proofs.Common.{◌≡◌, ◌∙◌, ◌<◌, ◌≤◌, ◌+◌, ◌||◌, ◌↔◌, Bool, true, false, cond, ℕ, zero, suc, true≢false, List, [], ◌∷◌, Option, ap, arith, count_by, fold, map, max, nat_lt, refl, sym, ⊎_elim}
use Rattle.std.specs.List.{list_any, range_with_len}
use Rattle.std.proofs.lemmas.Bool.{cases_Bool, cases_lt, le-leb}
use Rattle.std.proofs.lemmas.Bool.Decides.{nat_tests}
use Rattle.std.proofs.lemmas.List.Elements.{All-head}
use Rattle.std.proofs.lemmas.List.Sums.{sum_by-cons}
use Rattle.ld_base.specs.declared.stage.Stage.{Stage}
use Rattle.ld_ramping.specs.Active.{active, has_moment, is_on, ramp_users}
use Rattle.ld_ramping.specs.declared.interval.Interval.{Interval}
use Rattle.ld_ramping.specs.Intervals.{intervals_of}
use Rattle.ld_ramping.specs.Rising.{AreRising}
use Rattle.ld_ramping.proofs.TurnLemmas.{Turned, up, down, stays, lacks, turn_case, turn_on-le, turn_off-le}
use Rattle.ld_ramping.proofs.OnLemmas.{on_in, on_within, is_on-stages}
use Rattle.ld_ramping.proofs.RiseLemmas.{intervals_are_rising}

-- the lower user of two is on where the other one is
lower_within : (user other begin users moment : ℕ) (stage : Stage) (turn late : Option ℕ) → user ≤ other →
    Turned user begin users stage turn → Turned other begin users stage late →
    on_within other users moment late ≡ true → on_within user users moment turn ≡ true
lower_within user other begin users moment stage _ _ le (up out below) (up out' below') on =
    let order = turn_on-le user other begin users stage out le below' in grind (arith, nat_tests)
lower_within user other begin users moment stage _ _ le (up out below) (down above among) on = absurd (omega arith)
lower_within user other begin users moment stage _ _ le (up out below) (stays among below') on = absurd (omega arith)
lower_within user other begin users moment stage _ _ le (up out below) (lacks out' above) on = absurd (grind (arith, nat_tests))
lower_within user other begin users moment stage _ _ le (down above among) (up out below) on = absurd (omega arith)
lower_within user other begin users moment stage _ _ le (down above among) (down above' among') on =
    let order = turn_off-le user other begin users stage above le among' in grind (arith, nat_tests)
lower_within user other begin users moment stage _ _ le (down above among) (stays among' below) on = absurd (omega arith)
lower_within user other begin users moment stage _ _ le (down above among) (lacks out above') on = absurd (grind (arith, nat_tests))
lower_within user other begin users moment stage _ _ le (stays among below) late on = le-leb user users among
lower_within user other begin users moment stage _ _ le (lacks out above) (up out' below) on = absurd (omega arith)
lower_within user other begin users moment stage _ _ le (lacks out above) (down above' among) on = absurd (omega arith)
lower_within user other begin users moment stage _ _ le (lacks out above) (stays among below) on = absurd (omega arith)
lower_within user other begin users moment stage _ _ le (lacks out above) (lacks out' above') on = absurd (grind (arith, nat_tests))

-- one of two tests, each of which carries over
either_true : (test a b c d : Bool) → (a ≡ true → c ≡ true) → (b ≡ true → d ≡ true) → cond test a b ≡ true → cond test c d ≡ true
either_true true a b c d first second on = first on
either_true false a b c d first second on = second on

lower_in : (user other begin users moment : ℕ) (stages : List Stage) → user ≤ other →
    on_in other begin users moment stages ≡ true → on_in user begin users moment stages ≡ true
lower_in user other begin users moment [] le on = on
lower_in user other begin users moment (stage ∷ later) le on =
    either_true (nat_lt moment (begin + stage.length)) _ _ _ _
    (lower_within user other begin users moment stage _ _ le (turn_case user begin users stage) (turn_case other begin users stage))
    (lower_in user other (begin + stage.length) stage.target moment later le) on

pub is_on-lower : (user other start moment : ℕ) (stages : List Stage) → user ≤ other →
    is_on other start stages moment ≡ true → is_on user start stages moment ≡ true
is_on-lower user other start moment stages le on =
    is_on-stages user start moment stages
    ∙ lower_in user other 0 start moment stages le (sym (is_on-stages other start moment stages) ∙ on)

-- a user that is on at some moment is one of the greatest number of users
few_within : (user begin users moment : ℕ) (stage : Stage) (turn : Option ℕ) → Turned user begin users stage turn →
    on_within user users moment turn ≡ true → user ≤ max users stage.target
few_within user begin users moment stage _ (up out below) on = omega arith
few_within user begin users moment stage _ (down above among) on = omega arith
few_within user begin users moment stage _ (stays among below) on = omega arith
few_within user begin users moment stage _ (lacks out above) on = absurd (grind (arith, nat_tests))

le-fold_max : (most : ℕ) (numbers : List ℕ) → most ≤ fold max most numbers
le-fold_max most [] = omega arith
le-fold_max most (n ∷ numbers) = let rest = le-fold_max (max most n) numbers in omega arith

one_true : (test a b : Bool) (P : Type 0) → (a ≡ true → P) → (b ≡ true → P) → cond test a b ≡ true → P
one_true true a b P first second on = first on
one_true false a b P first second on = second on

few_in : (user begin users moment most : ℕ) (stages : List Stage) → users ≤ most → on_in user begin users moment stages ≡ true →
    user ≤ fold max most (map (λ stage. stage.target) stages)
few_in user begin users moment most [] le on = cc
few_in user begin users moment most (stage ∷ later) le on =
    let numbers = map (λ (s : Stage). s.target) later in
    one_true (nat_lt moment (begin + stage.length)) _ _ (user ≤ fold max (max most stage.target) numbers)
    (λ within.
    let few = few_within user begin users moment stage _ (turn_case user begin users stage) within in
    let more = le-fold_max (max most stage.target) numbers in
    omega arith)
    (few_in user (begin + stage.length) stage.target moment (max most stage.target) later (omega arith))
    on

pub is_on-few : (user start moment : ℕ) (stages : List Stage) → is_on user start stages moment ≡ true → user ≤ ramp_users start stages
is_on-few user start moment stages on =
    few_in user 0 start moment start stages (omega arith) (sym (is_on-stages user start moment stages) ∙ on)

-- Numbers of which the first ones pass a test, and only below `a + n`, pass it exactly up to as many as pass it.
pub first_pass : (p : ℕ → Bool) → ((u v : ℕ) → u ≤ v → p v ≡ true → p u ≡ true) → (a n : ℕ) →
    ((u : ℕ) → p u ≡ true → u < a + n) → (u : ℕ) → a ≤ u → (p u ≡ true) ↔ (u < a + count_by p (range_with_len a n))
first_pass p lower a zero few u from = (λ on. let less = few u on in absurd (omega arith), λ less. absurd (omega arith))
first_pass p lower a (suc n) few u from =
    let sum = sum_by-cons (λ v. cond (p v) 1 0) a (range_with_len (a + 1) n) in
    let so = first_pass p lower (a + 1) n (λ v on. let less = few v on in omega arith) in
    let some = count_by p (range_with_len (a + 1) n) in
    ⊎_elim
    (λ (yes : p a ≡ true).
    let count : count_by p (range_with_len a (suc n)) ≡ 1 + some = sum ∙ ap (λ test. cond test 1 0 + some) yes in
    ⊎_elim
    (λ (behind : a < u).
    let same = so u (omega arith) in (
      λ on. let less : u < a + 1 + some = same.0 on in omega arith,
      λ less. same.1 (omega arith),
    ))
    (λ (here_or_before : u ≤ a). (λ on. omega arith, λ less. lower u a here_or_before yes))
    (cases_lt a u))
    (λ (fails : p a ≡ false).
    let count : count_by p (range_with_len a (suc n)) ≡ 0 + some = sum ∙ ap (λ test. cond test 1 0 + some) fails in
    let next = so (a + 1) (omega arith) in (
      λ on. absurd (true≢false (sym (lower a u from on) ∙ fails)),
      λ less. absurd (true≢false (sym (lower a (a + 1) (omega arith) (next.1 (omega arith))) ∙ fails)),
    ))
    (cases_Bool (p a))

pub are_first_ones : (user start : ℕ) (stages : List Stage) (moment : ℕ) → 0 < user →
    (is_on user start stages moment ≡ true) ↔ (user ≤ active start stages moment)
are_first_ones user start stages moment from =
    let p = λ (u : ℕ). is_on u start stages moment in
    let same = first_pass p (λ u v. is_on-lower u v start moment stages) 1 (ramp_users start stages)
    (λ u on. let few = is_on-few u start moment stages on in omega arith) user (omega arith) in (
      λ on. let less : user < 1 + active start stages moment = same.0 on in omega arith,
      λ le. same.1 (omega arith),
    )

-- a user above the greatest number has no interval: it would be on when that begins
none_kept : (intervals : List Interval) (most user : ℕ) → AreRising intervals → most < user →
    ((moment : ℕ) → list_any (has_moment moment) intervals ≡ true → user ≤ most) → intervals ≡ []
none_kept [] most user rising above few = refl
none_kept (interval ∷ later) most user rising above few =
    let some = All-head (λ (i : Interval). i.on < i.off) interval later rising.some in
    let begins : has_moment interval.on interval ≡ true = grind (arith, nat_tests) in
    let le = few interval.on (ap (λ test. test || list_any (has_moment interval.on) later) begins) in
    absurd (omega arith)

pub none_above : (user start : ℕ) (stages : List Stage) → ramp_users start stages < user → intervals_of user start stages ≡ []
none_above user start stages above =
    none_kept (intervals_of user start stages) (ramp_users start stages) user (intervals_are_rising user start stages) above
    (λ moment. is_on-few user start moment stages)
