-- The owned pairs of arrivals in a row: those that a position doesn't own are left out.
use Rattle.std.proofs.Common.{◌≡◌, ◌≢◌, ◌<◌, ◌≤◌, ◌+◌, ◌-◌, ◌∙◌, ℕ, List, zero, suc, [], ◌∷◌, cond, map, arith, ap, sym}
use Rattle.std.specs.List.{range_with_len}
use Rattle.std.proofs.lemmas.Bool.{eq-eqb, ne_eqb}
use Rattle.ld_stripe.specs.Striping.{owner_at}
use Rattle.ld_arrival.specs.Limits.{IsWithinLimits}
use Rattle.ld_arrival.specs.Schedule.{arrival_at, owned_between, owned_pairs, schedule}
use Rattle.ld_arrival.specs.Timetable.{Timetable, planned_count}
use Rattle.ld_arrival.proofs.CountLemmas.{counted}

-- the owned pairs of n arrivals from a on
abbrev owned_row : Timetable → List ℕ → ℕ → ℕ → ℕ → List (ℕ × ℕ)
owned_row timetable owners j a n = owned_pairs owners j (map (arrival_at timetable) (range_with_len a n))

-- arrivals of others in front are left out
others_left_out : (timetable : Timetable) (owners : List ℕ) (j a n m : ℕ) → ((k : ℕ) → a ≤ k → k < a + n → owner_at owners k ≢ j) →
    owned_row timetable owners j a (n + m) ≡ owned_row timetable owners j (a + n) m
others_left_out timetable owners j a zero m others =
    let none : 0 + m ≡ m = omega arith in
    let here : a ≡ a + 0 = omega arith in
    ap (owned_row timetable owners j a) none ∙ ap (λ x. owned_row timetable owners j x m) here
others_left_out timetable owners j a (suc n) m others =
    let one : suc n + m ≡ suc (n + m) = omega arith in
    let at : a + 1 + n ≡ a + suc n = omega arith in
    ap (owned_row timetable owners j a) one ∙
    ap (λ b. cond b (arrival_at timetable a ∷ owned_row timetable owners j (a + 1) (n + m)) (owned_row timetable owners j (a + 1) (n + m)))
    (ne_eqb _ _ (others a (omega arith) (omega arith)))
    ∙ others_left_out timetable owners j (a + 1) n m (λ k above below. others k (omega arith) (omega arith))
    ∙ ap (λ x. owned_row timetable owners j x m) at

-- what is left from a on is left from k on, where the position owns none between
pub from_first : (timetable : Timetable) (owners : List ℕ) (j a k b : ℕ) → a ≤ k → k ≤ b →
    ((x : ℕ) → a ≤ x → x < k → owner_at owners x ≢ j) → owned_between timetable owners j a b ≡ owned_between timetable owners j k b
from_first timetable owners j a k b behind within others =
    let split : b - a ≡ (k - a) + (b - k) = omega arith in
    let at : a + (k - a) ≡ k = omega arith in
    ap (owned_row timetable owners j a) split
    ∙ others_left_out timetable owners j a (k - a) (b - k) (λ x above below. others x above (omega arith))
    ∙ ap (λ x. owned_row timetable owners j x (b - k)) at

-- an owned arrival comes first
pub owned_first : (timetable : Timetable) (owners : List ℕ) (j k b : ℕ) → k < b → owner_at owners k ≡ j →
    owned_between timetable owners j k b ≡ arrival_at timetable k ∷ owned_between timetable owners j (k + 1) b
owned_first timetable owners j k b below owned =
    let more : b - k ≡ suc (b - (k + 1)) = omega arith in
    ap (owned_row timetable owners j k) more
    ∙ ap (λ t. cond t (arrival_at timetable k ∷ owned_between timetable owners j (k + 1) b) (owned_between timetable owners j (k + 1) b))
    (eq-eqb _ _ owned)

-- nothing is left at the end
pub none_left : (timetable : Timetable) (owners : List ℕ) (j b : ℕ) → owned_between timetable owners j b b ≡ []
none_left timetable owners j b =
    let none : b - b ≡ 0 = omega arith in
    ap (owned_row timetable owners j b) none

-- in the beginning all that the position owns of the schedule is left
pub all_left : (timetable : Timetable) → IsWithinLimits timetable → (owners : List ℕ) (j : ℕ) →
    owned_between timetable owners j 0 (planned_count timetable) ≡ owned_pairs owners j (schedule timetable)
all_left timetable limits owners j =
    let whole : planned_count timetable - 0 ≡ planned_count timetable = omega arith in
    ap (owned_row timetable owners j 0) whole
    ∙ ap (λ (ks : List ℕ). owned_pairs owners j (map (arrival_at timetable) ks)) (sym (counted timetable limits).all)
