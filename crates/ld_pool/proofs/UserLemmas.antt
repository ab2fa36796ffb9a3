-- Users by their numbers, and how many are of a kind.
use Rattle.std.specs.Prelude.{◌≡◌, ◌≢◌, ◌+◌, ◌-◌, ◌<◌, ℕ, zero, suc, Bool, true, cond, List, [], ◌∷◌, Option, Some, None, IsSomeAnd, IsTrue, length, count_by, slice_get}
use Rattle.std.proofs.Common.{arith, ap, get_or, get_or-set_same, length-set, refl, set, ◌∙◌}
use Rattle.std.proofs.lemmas.Option.{slice_get-get_or, slice_get_within, get_or_from_slice_get}
use Rattle.std.proofs.lemmas.List.Sums.{sum_by-set, sum_by-cons}
use Rattle.ld_pool.specs.Users.{busy_count, free_count, idle_count, is_busy, is_free, is_idle, user_at, with_user}
use Rattle.ld_pool.specs.declared.busy.Busy as playing
use Rattle.ld_pool.specs.declared.user.User.{User}
use Rattle.ld_pool.specs.declared.user.User.TheVariants.{Free, Idle, Busy}

-- a user's place in the list
pub user_at_place : (users : List User) (number : ℕ) (user : User) → user_at users number ≡ Some user →
    (0 < number) × (number - 1 < length users) × (get_or users (number - 1) user ≡ user)
user_at_place users zero user is = absurd (cc is)
user_at_place users (suc index) user is =
    let e : suc index - 1 ≡ index = omega arith in
    rw e (omega arith, slice_get_within users index user is, get_or_from_slice_get users index user user is)

-- where one user changes, the others stay as they were
stays_at : (users : List User) (i j : ℕ) (after : User) → j ≢ i → slice_get (set users i after) j ≡ slice_get users j
stays_at [] i j after other = refl
stays_at (user ∷ users) zero zero after other = absurd (other refl)
stays_at (user ∷ users) zero (suc j) after other = refl
stays_at (user ∷ users) (suc i) zero after other = refl
stays_at (user ∷ users) (suc i) (suc j) after other = stays_at users i j after (λ e. other (ap suc e))

pub user_other : (users : List User) (number other : ℕ) (after : User) → 0 < number → other ≢ number →
    user_at (with_user users number after) other ≡ user_at users other
user_other users number zero after some apart = refl
user_other users number (suc index) after some apart = stays_at users (number - 1) index after (λ e. apart (omega (arith, e)))

-- and the changed one is what it is then
changed_at : (users : List User) (index : ℕ) (after : User) → index < length users → slice_get (set users index after) index ≡ Some after
changed_at users index after within =
    slice_get-get_or (set users index after) index after (omega (arith, length-set users index after))
    ∙ ap Some (get_or-set_same users index after after within)

pub user_changed : (users : List User) (number : ℕ) (after : User) → 0 < number → number - 1 < length users →
    user_at (with_user users number after) number ≡ Some after
user_changed users zero after some within = absurd (omega arith)
user_changed users (suc index) after some within =
    let e : suc index - 1 ≡ index = omega arith in rw e (changed_at users index after (omega arith))

-- a change of one user counts it as what it is then
pub count-with_user : (p : User → Bool) (users : List User) (number : ℕ) (before after : User) → user_at users number ≡ Some before →
    count_by p (with_user users number after) + cond (p before) 1 0 ≡ count_by p users + cond (p after) 1 0
count-with_user p users number before after is =
    let place = user_at_place users number before is in
    let counted = sum_by-set (λ (u : User). cond (p u) 1 0) users (number - 1) after before place.1 in
    rw place.2 at counted

-- where a user is free, not none are
pub some_free : (users : List User) (number : ℕ) → user_at users number ≡ Some Free → 0 < free_count users
some_free users number is =
    let changed = count-with_user is_free users number Free (Idle 0) is in
    omega (arith, changed)

-- where a user is busy, not none are
pub some_busy : (users : List User) (number : ℕ) (busy : playing.Busy) → user_at users number ≡ Some (Busy busy) → 0 < busy_count users
some_busy users number busy is =
    let changed = count-with_user is_busy users number (Busy busy) Free is in
    omega (arith, changed)

-- a user that passes the test is free
pub free_is : (user : User) → is_free user ≡ true → user ≡ Free
free_is Free free = refl
free_is (Idle _) free = absurd (cc free)
free_is (Busy _) free = absurd (cc free)

-- an idle user is one of a scenario
pub idle_is : (user : Option User) → IsSomeAnd user (λ held. IsTrue (is_idle held)) → (scenario : ℕ) × (user ≡ Some (Idle scenario))
idle_is None idle = absurd idle
idle_is (Some Free) idle = absurd (cc idle)
idle_is (Some (Idle scenario)) idle = (scenario, refl)
idle_is (Some (Busy _)) idle = absurd (cc idle)

-- one user more counts as what it is
pub count-cons : (p : User → Bool) (user : User) (users : List User) → count_by p (user ∷ users) ≡ cond (p user) 1 0 + count_by p users
count-cons p user users = sum_by-cons (λ (u : User). cond (p u) 1 0) user users

-- no user behind the first is free, where none at all is
none_behind : (user : User) (users : List User) → ((number : ℕ) → user_at (user ∷ users) number ≢ Some Free) →
    (number : ℕ) → user_at users number ≢ Some Free
none_behind user users none zero free = cc free
none_behind user users none (suc index) free = none (suc (suc index)) free

-- where no user is free, none is counted as free
pub none_counted : (users : List User) → ((number : ℕ) → user_at users number ≢ Some Free) → free_count users ≡ 0
none_counted [] none = refl
none_counted (Free ∷ users) none = absurd (none 1 refl)
none_counted (Idle scenario ∷ users) none =
    let rest = none_counted users (none_behind (Idle scenario) users none) in
    omega (arith, count-cons is_free (Idle scenario) users)
none_counted (Busy busy ∷ users) none =
    let rest = none_counted users (none_behind (Busy busy) users none) in
    omega (arith, count-cons is_free (Busy busy) users)

-- where none is counted as free, no user is
pub counted_none : (users : List User) → free_count users ≡ 0 → (number : ℕ) → user_at users number ≢ Some Free
counted_none users none number free =
    let some = some_free users number free in
    omega arith

-- a user is of just one kind
one_kind : (user : User) (free idle busy all : ℕ) → free + idle + busy ≡ all →
    (cond (is_free user) 1 0 + free) + (cond (is_idle user) 1 0 + idle) + (cond (is_busy user) 1 0 + busy) ≡ suc all
one_kind Free free idle busy all sums = omega arith
one_kind (Idle _) free idle busy all sums = omega arith
one_kind (Busy _) free idle busy all sums = omega arith

-- each user is free, idle or busy
pub kinds_sum : (users : List User) → free_count users + idle_count users + busy_count users ≡ length users
kinds_sum [] = refl
kinds_sum (user ∷ users) =
    rw (count-cons is_free user users, count-cons is_idle user users, count-cons is_busy user users)
    (one_kind user (free_count users) (idle_count users) (busy_count users) (length users) (kinds_sum users))
