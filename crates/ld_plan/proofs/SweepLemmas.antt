-- Going along stays by their begins and by their ends finds the most users that they have at one moment.
use Rattle.std.proofs.Common.{◌≡◌, ◌<◌, ◌≤◌, ◌+◌, ◌-◌, ◌∙◌, ℕ, zero, suc, Bool, true, false, List, [], ◌∷◌, cond, length, max, take, get_or, arith, ap, refl, sym, subst}
use Rattle.std.specs.Prelude.{◌&&◌, All, IsPermutation, nat_le, nat_lt, sum_by}
use Rattle.std.specs.List.Sorted.{IsNonDecreasingBy}
use Rattle.std.proofs.Math.Decide.{dec_lt}
use Rattle.std.proofs.lemmas.Bool.Decides.{nat_tests}
use Rattle.std.proofs.lemmas.List.{get_or_default}
use Rattle.std.proofs.lemmas.List.Elements.{All-get_or, All-head, All-tail}
use Rattle.std.proofs.lemmas.List.Sorted.{sum_by-IsPermutation}
use Rattle.std.proofs.lemmas.List.Sums.{sum_by-cons, sum_by-take-le, sum_by_more, sum_by_more_le}
use Rattle.ld_machine.specs.Requirement.{IsGreatest}
use Rattle.ld_plan.specs.Stay.{AreCounted, HoldSometime, held_at, holds}
use Rattle.ld_plan.specs.declared.stay.Stay.{Stay}

-- ---- sums of those that pass a test

-- the amount of one that passes it
abbrev pub passed : (Stay → Bool) → (Stay → ℕ) → Stay → ℕ
passed p amount stay = cond (p stay) (amount stay) 0

at_most : (b : Bool) (n : ℕ) → cond b n 0 ≤ n
at_most true n = omega arith
at_most false n = omega arith

-- none passes it from place i on: the others are those before it
upto : (p : Stay → Bool) (amount : Stay → ℕ) (stays : List Stay) (i : ℕ) →
    ((k : ℕ) (d : Stay) → i ≤ k → k < length stays → p (get_or stays k d) ≡ false) → sum_by (passed p amount) stays ≤ sum_by amount (take i stays)
upto p amount [] i none = omega arith
upto p amount (s ∷ stays) zero none =
    let rest = upto p amount stays zero (λ k d past inside. none (suc k) d (omega arith) (omega arith)) in
    let here : cond (p s) (amount s) 0 ≡ 0 = ap (λ b. cond b (amount s) 0) (none 0 s (omega arith) (omega arith)) in
    let left = sum_by-cons (passed p amount) s stays in
    omega arith
upto p amount (s ∷ stays) (suc i) none =
    let rest = upto p amount stays i (λ k d past inside. none (suc k) d (omega arith) (omega arith)) in
    let here = at_most (p s) (amount s) in
    let left = sum_by-cons (passed p amount) s stays in
    let right = sum_by-cons amount s (take i stays) in
    omega arith

-- all before place i pass it
all_before : (p : Stay → Bool) (amount : Stay → ℕ) (stays : List Stay) (i : ℕ) →
    ((k : ℕ) (d : Stay) → k < i → k < length stays → p (get_or stays k d) ≡ true) → sum_by amount (take i stays) ≤ sum_by (passed p amount) stays
all_before p amount [] zero pass = omega arith
all_before p amount [] (suc i) pass = omega arith
all_before p amount (s ∷ stays) zero pass = omega arith
all_before p amount (s ∷ stays) (suc i) pass =
    let rest = all_before p amount stays i (λ k d past inside. pass (suc k) d (omega arith) (omega arith)) in
    let here : cond (p s) (amount s) 0 ≡ amount s = ap (λ b. cond b (amount s) 0) (pass 0 s (omega arith) (omega arith)) in
    let left = sum_by-cons (passed p amount) s stays in
    let right = sum_by-cons amount s (take i stays) in
    omega arith

-- ---- stays that have begun, and stays that are over

abbrev pub has_begun : ℕ → Stay → Bool
has_begun t stay = nat_le stay.from t

abbrev pub is_over : ℕ → Stay → Bool
is_over t stay = nat_le stay.until t

is_at_most : (m n : ℕ) → m ≤ n → nat_le m n ≡ true
is_at_most m n is = grind (arith, nat_tests)

is_above : (m n : ℕ) → n < m → nat_le m n ≡ false
is_above m n is = grind (arith, nat_tests)

-- one that holds has begun and isn't over
one_split : (s : Stay) (n t : ℕ) → s.from < s.until → cond (holds t s) n 0 + cond (is_over t s) n 0 ≡ cond (has_begun t s) n 0
one_split s n t some =
    elim (dec_lt t s.from) [
      | yes ahead ↦
          let begun : has_begun t s ≡ false = is_above s.from t ahead in
          let over : is_over t s ≡ false = is_above s.until t (omega arith) in
          rw (begun, over) refl
      | no begins ↦
          let begun : has_begun t s ≡ true = is_at_most s.from t (omega arith) in
          elim (dec_lt t s.until) [
            | yes inside ↦
                let over : is_over t s ≡ false = is_above s.until t inside in
                let before : nat_lt t s.until ≡ true = grind (arith, nat_tests) in
                rw (begun, over, before) (omega arith)
            | no past ↦
                let over : is_over t s ≡ true = is_at_most s.until t (omega arith) in
                let before : nat_lt t s.until ≡ false = grind (arith, nat_tests) in
                rw (begun, over, before) (omega arith)
          ]
    ]

split : (amount : Stay → ℕ) (stays : List Stay) (t : ℕ) → HoldSometime stays →
    held_at amount stays t + sum_by (passed (is_over t) amount) stays ≡ sum_by (passed (has_begun t) amount) stays
split amount [] t some = refl
split amount (s ∷ stays) t some =
    let P : Stay → Type 0 = λ (stay : Stay). stay.from < stay.until in
    let rest = split amount stays t (All-tail P s stays some) in
    let here = one_split s (amount s) t (All-head P s stays some) in
    let held = sum_by-cons (passed (holds t) amount) s stays in
    let over = sum_by-cons (passed (is_over t) amount) s stays in
    let begun = sum_by-cons (passed (has_begun t) amount) s stays in
    omega arith

-- ---- the sweep

-- stays in order of their begins, and the same in order of their ends
pub record AreInOrder (begins ends : List Stay) : Type 0 where
  pub same : IsPermutation begins ends
  pub by_begin : IsNonDecreasingBy (λ (stay : Stay). stay.from) begins
  pub by_end : IsNonDecreasingBy (λ (stay : Stay). stay.until) ends
  pub sometime : HoldSometime begins

-- so many of them have begun and so many are over: those over end before the next one begins
pub record AreOver (begins ends : List Stay) (i j : ℕ) : Type 0 where
  pub begun : i ≤ length begins
  pub ended : j ≤ length ends
  pub before : (k : ℕ) (d : Stay) → k < j → i < length begins → (get_or ends k d).until ≤ (get_or begins i d).from

-- the users that are there then, and the most so far: as many are reached, and no more before the next one begins
pub record IsSwept (amount : Stay → ℕ) (begins ends : List Stay) (i j users most : ℕ) : Type 0 where
  pub balance : users + sum_by amount (take j ends) ≡ sum_by amount (take i begins)
  pub moment : ℕ
  pub reached : most ≤ held_at amount begins moment
  pub at_most : (t : ℕ) → ((d : Stay) → i < length begins → t < (get_or begins i d).from) → held_at amount begins t ≤ most

-- at the start
pub over_start : (begins ends : List Stay) → AreOver begins ends 0 0
over_start begins ends = record { begun = omega arith; ended = omega arith; before = λ k d below inside. absurd (omega arith) }

pub swept_start : (amount : Stay → ℕ) (begins ends : List Stay) → AreInOrder begins ends → IsSwept amount begins ends 0 0 0 0
swept_start amount begins ends order =
    record {
      balance = refl;
      moment = 0;
      reached = omega arith;
      at_most = λ t ahead.
          let none =
          upto (has_begun t) amount begins 0
          (λ k d past inside.
          let first = ahead d (omega arith) in
          let sorted = order.by_begin 0 k d past inside in
          is_above (get_or begins k d).from t (omega arith)) in
          let both = split amount begins t order.sometime in
          omega arith;
    }

-- one more is over
pub over_end : (begins ends : List Stay) (i j : ℕ) (d : Stay) → AreOver begins ends i j → i < length begins → j < length ends →
    (get_or ends j d).until ≤ (get_or begins i d).from → AreOver begins ends i (j + 1)
over_end begins ends i j d over left inside here =
    record {
      begun = over.begun;
      ended = omega arith;
      before = λ k e below inside_too. elim (dec_lt k j) [
        | yes early ↦ over.before k e early left
        | no late ↦
            let at : k ≡ j = omega arith in
            let of_end : get_or ends j e ≡ get_or ends j d = get_or_default ends j e d inside in
            let of_begin : get_or begins i e ≡ get_or begins i d = get_or_default begins i e d left in
            rw (at, of_end, of_begin) here
      ];
    }

-- its users are among those that are there
pub leaves : (amount : Stay → ℕ) (begins ends : List Stay) (i j users most : ℕ) (d : Stay) → AreInOrder begins ends →
    AreOver begins ends i (j + 1) → i < length begins → j < length ends → IsSwept amount begins ends i j users most →
    amount (get_or ends j d) ≤ users
leaves amount begins ends i j users most d order over left inside swept =
    let t = (get_or begins i d).from in
    let P : Stay → Type 0 = λ (stay : Stay). stay.from < stay.until in
    let gone =
    all_before (is_over t) amount ends (j + 1)
    (λ k e below within.
    let is : (get_or ends k d).until ≤ t = over.before k d below left in
    let same : get_or ends k e ≡ get_or ends k d = get_or_default ends k e d within in
    rw same (is_at_most (get_or ends k d).until t is)) in
    let moved = sum_by-IsPermutation (passed (is_over t) amount) begins ends order.same in
    let there =
    upto (is_over t) amount begins i
    (λ k e past within.
    let same : get_or begins k e ≡ get_or begins k d = get_or_default begins k e d within in
    let sorted = order.by_begin i k d past within in
    let some : (get_or begins k d).from < (get_or begins k d).until = All-get_or P begins k d within order.sometime in
    rw same (is_above (get_or begins k d).until t (omega arith))) in
    let more = sum_by_more amount ends j d inside in
    let balance = swept.balance in
    omega arith

pub swept_end : (amount : Stay → ℕ) (begins ends : List Stay) (i j users most less : ℕ) (d : Stay) → j < length ends →
    amount (get_or ends j d) ≤ users → less ≡ users - amount (get_or ends j d) → IsSwept amount begins ends i j users most →
    IsSwept amount begins ends i (j + 1) less most
swept_end amount begins ends i j users most less d inside leave is swept =
    let more = sum_by_more amount ends j d inside in
    let balance = swept.balance in
    record { balance = omega arith; moment = swept.moment; reached = swept.reached; at_most = swept.at_most }

-- one more begins
pub over_begin : (begins ends : List Stay) (i j : ℕ) → AreInOrder begins ends → i < length begins → AreOver begins ends i j →
    AreOver begins ends (i + 1) j
over_begin begins ends i j order inside over =
    record {
      begun = omega arith;
      ended = over.ended;
      before = λ k d below left.
          let before = over.before k d below inside in
          let sorted = order.by_begin i (i + 1) d (omega arith) left in
          omega arith;
    }

-- its users still fit
pub fits : (amount : Stay → ℕ) (begins ends : List Stay) (i j users most : ℕ) (d : Stay) → i < length begins →
    IsSwept amount begins ends i j users most → users + amount (get_or begins i d) ≤ sum_by amount begins
fits amount begins ends i j users most d inside swept =
    let more = sum_by_more_le amount begins i d inside in
    let balance = swept.balance in
    omega arith

-- as many as are there then are held where it begins
held_there : (amount : Stay → ℕ) (begins ends : List Stay) (i j users most : ℕ) (d : Stay) → AreInOrder begins ends → i < length begins →
    (j < length ends → (get_or begins i d).from < (get_or ends j d).until) → IsSwept amount begins ends i j users most →
    users + amount (get_or begins i d) ≤ held_at amount begins (get_or begins i d).from
held_there amount begins ends i j users most d order inside stay swept =
    let t = (get_or begins i d).from in
    let begun =
    all_before (has_begun t) amount begins (i + 1)
    (λ k e below within.
    let same : get_or begins k e ≡ get_or begins k d = get_or_default begins k e d within in
    let sorted = order.by_begin k i d (omega arith) inside in
    rw same (is_at_most (get_or begins k d).from t sorted)) in
    let over =
    upto (is_over t) amount ends j
    (λ k e past within.
    let same : get_or ends k e ≡ get_or ends k d = get_or_default ends k e d within in
    let sorted = order.by_end j k d past within in
    let first = stay (omega arith) in
    rw same (is_above (get_or ends k d).until t (omega arith))) in
    let moved = sum_by-IsPermutation (passed (is_over t) amount) begins ends order.same in
    let both = split amount begins t order.sometime in
    let more = sum_by_more amount begins i d inside in
    let balance = swept.balance in
    omega arith

-- and no more are held before the next one begins
held_within : (amount : Stay → ℕ) (begins ends : List Stay) (i j users most t : ℕ) (d : Stay) → AreInOrder begins ends → i < length begins →
    AreOver begins ends i j → (get_or begins i d).from ≤ t → ((e : Stay) → i + 1 < length begins → t < (get_or begins (i + 1) e).from) →
    IsSwept amount begins ends i j users most → held_at amount begins t ≤ users + amount (get_or begins i d)
held_within amount begins ends i j users most t d order inside over begins_at ahead swept =
    let begun =
    upto (has_begun t) amount begins (i + 1)
    (λ k e past within.
    let next = ahead e (omega arith) in
    let sorted = order.by_begin (i + 1) k e past within in
    is_above (get_or begins k e).from t (omega arith)) in
    let gone =
    all_before (is_over t) amount ends j
    (λ k e below within.
    let same : get_or ends k e ≡ get_or ends k d = get_or_default ends k e d within in
    let before = over.before k d below inside in
    rw same (is_at_most (get_or ends k d).until t (omega arith))) in
    let moved = sum_by-IsPermutation (passed (is_over t) amount) begins ends order.same in
    let both = split amount begins t order.sometime in
    let more = sum_by_more amount begins i d inside in
    let balance = swept.balance in
    omega arith

pub swept_begin : (amount : Stay → ℕ) (begins ends : List Stay) (i j users most now greatest : ℕ) (d : Stay) → AreInOrder begins ends →
    i < length begins → AreOver begins ends i j → (j < length ends → (get_or begins i d).from < (get_or ends j d).until) →
    now ≡ users + amount (get_or begins i d) → greatest ≡ max most now → IsSwept amount begins ends i j users most →
    IsSwept amount begins ends (i + 1) j now greatest
swept_begin amount begins ends i j users most now greatest d order inside over stay is max_is swept =
    let more = sum_by_more amount begins i d inside in
    let balance = swept.balance in
    let there = held_there amount begins ends i j users most d order inside stay swept in
    let old = swept.reached in
    let at_most : (t : ℕ) → ((e : Stay) → i + 1 < length begins → t < (get_or begins (i + 1) e).from) → held_at amount begins t ≤ greatest =
    λ t ahead. elim (dec_lt t (get_or begins i d).from) [
      | yes before ↦
          let within =
          swept.at_most t
          (λ e left.
          let same : get_or begins i e ≡ get_or begins i d = get_or_default begins i e d inside in
          rw same before) in
          omega arith
      | no later ↦
          let within = held_within amount begins ends i j users most t d order inside over (omega arith) ahead swept in
          omega arith
    ] in
    elim (dec_lt most now) [
      | yes over_it ↦ record { balance = omega arith; moment = (get_or begins i d).from; reached = omega arith; at_most = at_most }
      | no not_over ↦ record { balance = omega arith; moment = swept.moment; reached = omega arith; at_most = at_most }
    ]

-- when all have begun
pub swept_all : (amount : Stay → ℕ) (begins ends : List Stay) (i j users most : ℕ) → length begins ≤ i →
    IsSwept amount begins ends i j users most → IsGreatest (held_at amount begins) most
swept_all amount begins ends i j users most past swept =
    let within = swept.at_most swept.moment (λ d left. absurd (omega arith)) in
    let reached = swept.reached in
    record {
      moment = swept.moment;
      reached = omega arith;
      at_most = λ t. swept.at_most t (λ d left. absurd (omega arith));
    }

-- ---- sorted stays

-- the same stays hold the same users in any order
held_same : (amount : Stay → ℕ) (stays sorted : List Stay) → IsPermutation stays sorted → (t : ℕ) → held_at amount sorted t ≡ held_at amount stays t
held_same amount stays sorted same t = sum_by-IsPermutation (passed (holds t) amount) stays sorted same

pub greatest_same : (amount : Stay → ℕ) (stays sorted : List Stay) (n : ℕ) → IsPermutation stays sorted →
    IsGreatest (held_at amount sorted) n → IsGreatest (held_at amount stays) n
greatest_same amount stays sorted n same greatest =
    record {
      moment = greatest.moment;
      reached = sym (held_same amount stays sorted same greatest.moment) ∙ greatest.reached;
      at_most = λ t. let here = held_same amount stays sorted same t in let most = greatest.at_most t in omega arith;
    }

pub counted_same : (stays sorted : List Stay) → IsPermutation stays sorted → AreCounted stays → AreCounted sorted
counted_same stays sorted same counted =
    let planned = sum_by-IsPermutation (λ (stay : Stay). stay.planned) stays sorted same in
    let limit = sum_by-IsPermutation (λ (stay : Stay). stay.limit) stays sorted same in
    let few_planned = counted.planned in
    let few_limit = counted.limit in
    record { planned = omega arith; limit = omega arith }
