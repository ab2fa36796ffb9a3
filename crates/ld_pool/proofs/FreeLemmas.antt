-- Which numbers are those of the free users, and how they change with a user.
use Rattle.std.specs.Prelude.{◌≡◌, ◌≢◌, ◌+◌, ◌-◌, ◌<◌, ◌≤◌, ℕ, zero, suc, Bool, true, false, cond, List, [], ◌∷◌, ◌++◌, Option, Some, None, IfNone, IfSome, length, filter, replicate, slice_get}
use Rattle.std.specs.List.{range_with_len}
use Rattle.std.specs.Option.{option_map_or}
use Rattle.std.proofs.Common.{arith, ap, inl, inr, length-set, refl, subst, sym, ◌∙◌}
use Rattle.std.proofs.lemmas.Bool.{cases_eq, lt-ltb}
use Rattle.std.proofs.lemmas.List.{get_or-replicate, length-append, length-replicate}
use Rattle.std.proofs.lemmas.List.Elements.{All-head, filter_passes}
use Rattle.std.proofs.lemmas.Option.{slice_get-get_or}
use Rattle.ld_set.specs.SetView.{is_among, with_number, without_number}
use Rattle.ld_set.proofs.NumberLemmas.{among_kept, kept_agree, kept_all, with_number_kept, without_number_kept}
use Rattle.ld_pool.specs.Users.{busy_count, free_at, free_count, free_numbers, is_busy, is_free, user_at, with_user}
use Rattle.ld_pool.specs.declared.user.User.{User}
use Rattle.ld_pool.specs.declared.user.User.TheVariants.{Free}
use Rattle.ld_pool.proofs.UserLemmas.{count-cons, free_is, user_at_place, user_changed, user_other}

-- ---- the numbers of a list of users

-- whether what was found is a free user
abbrev passes : Option User → Bool
passes user = option_map_or is_free user false

-- the numbers that pass are as many as the users that do
counted_from : (p : ℕ → Bool) (a : ℕ) (users : List User) → ((k : ℕ) → p (a + k) ≡ passes (slice_get users k)) →
    length (filter p (range_with_len a (length users))) ≡ free_count users
counted_from p a [] each = refl
counted_from p a (user ∷ users) each =
    let first : p a ≡ is_free user = ap p (omega arith) ∙ each 0 in
    let rest = counted_from p (a + 1) users (λ k. ap p (omega arith) ∙ each (suc k)) in
    let more : List ℕ = filter p (range_with_len (a + 1) (length users)) in
    let P : Bool → Type 0 = λ b. length (cond b (a ∷ more) more) ≡ cond b 1 0 + free_count users in
    let by : P (is_free user) = elim (is_free user) as P [
      | true ↦ omega (arith, rest)
      | false ↦ omega (arith, rest)
    ] in
    rw (first, count-cons is_free user users) by

pub numbers_counted : (users : List User) → length (free_numbers users) ≡ free_count users
numbers_counted users =
    counted_from (free_at users) 1 users (λ k. let next : 1 + k ≡ suc k = omega arith in ap (free_at users) next)

-- a number that passes is a free user's
passes_is : (user : Option User) → passes user ≡ true → user ≡ Some Free
passes_is None is = absurd (cc is)
passes_is (Some user) is = ap Some (free_is user is)

-- what is so of a list's head is so of its first number
first_of : (P : ℕ → Type 0) (numbers : List ℕ) (number : ℕ) → slice_get numbers 0 ≡ Some number →
    ((k : ℕ) (rest : List ℕ) → numbers ≡ k ∷ rest → P k) → P number
first_of P [] number first each = absurd (cc first)
first_of P (k ∷ rest) number first each = let same : k ≡ number = cc first in subst P same (each k rest refl)

-- the first number is a free user's
first_is_free : (users : List User) (number : ℕ) → slice_get (free_numbers users) 0 ≡ Some number → user_at users number ≡ Some Free
first_is_free users number first =
    let each = filter_passes (free_at users) (range_with_len 1 (length users)) in
    first_of (λ k. user_at users k ≡ Some Free) (free_numbers users) number first
    (λ k rest is. passes_is (user_at users k) (All-head (λ j. free_at users j ≡ true) k rest (rw is at each)))

-- a list with no first number is empty
empty_is : (numbers : List ℕ) → slice_get numbers 0 ≡ None → numbers ≡ []
empty_is [] none = refl
empty_is (k ∷ rest) none = absurd (cc none)

-- where there is no first number, no user is free
no_first : (users : List User) (number : ℕ) → slice_get (free_numbers users) 0 ≡ None → user_at users number ≢ Some Free
no_first users number none free =
    let place = user_at_place users number Free free in
    let among = among_kept (free_at users) number (length users) 1 (omega arith) (omega arith) in
    let not_among : false ≡ free_at users number = ap (λ numbers. is_among numbers number) (sym (empty_is (free_numbers users) none)) ∙ among in
    let is : free_at users number ≡ true = ap passes free in
    absurd (cc (not_among, is))

-- so a look at the first number finds a free user, if there is one
pub first_found : (users : List User) (found : Option ℕ) → found ≡ slice_get (free_numbers users) 0 →
    IfSome found (λ user. user_at users user ≡ Some Free)
first_found users None is = tt
first_found users (Some number) is = first_is_free users number (sym is)

pub none_found : (users : List User) (found : Option ℕ) → found ≡ slice_get (free_numbers users) 0 →
    IfNone found ((user : ℕ) → user_at users user ≢ Some Free)
none_found users None is = λ user. no_first users user (sym is)
none_found users (Some number) is = tt

-- ---- where one user changes

-- the other users are as free as they were
other_same : (users : List User) (number other : ℕ) (after : User) → 0 < number → other ≢ number →
    free_at (with_user users number after) other ≡ free_at users other
other_same users number other after some apart = ap passes (user_other users number other after some apart)

-- and the changed one is what it is then
changed_is : (users : List User) (number : ℕ) (after : User) → 0 < number → number - 1 < length users →
    free_at (with_user users number after) number ≡ is_free after
changed_is users number after some within = ap passes (user_changed users number after some within)

-- what is left of the numbers
module _ (users : List User) (number : ℕ) (before after : User) (is : user_at users number ≡ Some before) where
  same_length : free_numbers (with_user users number after) ≡ filter (free_at (with_user users number after)) (range_with_len 1 (length users))
  same_length =
      ap (λ n. filter (free_at (with_user users number after)) (range_with_len 1 n)) (length-set users (number - 1) after)

  -- a user that isn't free then has no number among them
  pub numbers_taken : is_free after ≡ false → free_numbers (with_user users number after) ≡ without_number number (free_numbers users)
  numbers_taken held =
      let place = user_at_place users number before is in
      same_length
      ∙ sym (without_number_kept (free_at users) (free_at (with_user users number after)) number
      (changed_is users number after place.0 place.1 ∙ held)
      (λ k other. other_same users number k after place.0 other) (length users) 1)

  -- one that is free then has its number among them
  pub numbers_freed : is_free after ≡ true → free_numbers (with_user users number after) ≡ with_number number (free_numbers users)
  numbers_freed free =
      let place = user_at_place users number before is in
      same_length
      ∙ sym (with_number_kept (free_at users) (free_at (with_user users number after)) number
      (changed_is users number after place.0 place.1 ∙ free)
      (λ k other. other_same users number k after place.0 other) (length users) 1 (omega arith) (omega arith))

  -- and where it is free as before, nothing changes
  pub numbers_same : is_free after ≡ is_free before → free_numbers (with_user users number after) ≡ free_numbers users
  numbers_same same =
      let place = user_at_place users number before is in
      let was : free_at users number ≡ is_free before = ap passes is in
      same_length
      ∙ sym (kept_agree (free_at users) (free_at (with_user users number after)) (length users) 1 (λ k from to. elim (cases_eq k number) [
        | inl e ↦ rw e (changed_is users number after place.0 place.1 ∙ same ∙ sym was)
        | inr other ↦ other_same users number k after place.0 other
      ]))

-- ---- users that are made

-- one number more, which doesn't pass
one_more : (p : ℕ → Bool) (a n : ℕ) → p (a + n) ≡ false → filter p (range_with_len a (suc n)) ≡ filter p (range_with_len a n)
one_more p a zero fails = let last : p a ≡ false = ap p (omega arith) ∙ fails in rw last refl
one_more p a (suc n) fails =
    let rest = one_more p (a + 1) n (ap p (omega arith) ∙ fails) in
    ap (λ (ks : List ℕ). cond (p a) (a ∷ ks) ks) rest

-- an earlier user, and the last
earlier_user : (users : List User) (user : User) (index : ℕ) → index < length users → slice_get (users ++ user ∷ []) index ≡ slice_get users index
earlier_user [] user index within = absurd (omega arith)
earlier_user (first ∷ users) user zero within = refl
earlier_user (first ∷ users) user (suc index) within = earlier_user users user index (omega arith)

last_user : (users : List User) (user : User) → slice_get (users ++ user ∷ []) (length users) ≡ Some user
last_user [] user = refl
last_user (first ∷ users) user = last_user users user

earlier_same : (users : List User) (user : User) (number : ℕ) → number < 1 + length users → free_at (users ++ user ∷ []) number ≡ free_at users number
earlier_same users user zero within = refl
earlier_same users user (suc index) within = ap passes (earlier_user users user index (omega arith))

-- a user more that isn't free has no number among them
pub numbers_grown : (users : List User) (user : User) → is_free user ≡ false → free_numbers (users ++ user ∷ []) ≡ free_numbers users
numbers_grown users user held =
    let behind : 1 + length users ≡ suc (length users) = omega arith in
    let last : free_at (users ++ user ∷ []) (1 + length users) ≡ false = rw behind (ap passes (last_user users user) ∙ held) in
    let longer : length (users ++ user ∷ []) ≡ suc (length users) = omega (arith, length-append users (user ∷ [])) in
    ap (λ n. filter (free_at (users ++ user ∷ [])) (range_with_len 1 n)) longer
    ∙ one_more (free_at (users ++ user ∷ [])) 1 (length users) last
    ∙ sym (kept_agree (free_at users) (free_at (users ++ user ∷ [])) (length users) 1 (λ k from to. earlier_same users user k (omega arith)))

-- each of those that are made at first is free
made_free : (made number : ℕ) → 1 ≤ number → number < 1 + made → free_at (replicate made Free) number ≡ true
made_free made zero from to = absurd (omega arith)
made_free made (suc index) from to =
    ap passes
    (slice_get-get_or (replicate made Free) index Free (omega (arith, length-replicate made Free))
    ∙ ap Some (get_or-replicate made index Free Free (omega arith)))

-- free users alone have all numbers
pub numbers_made : (made : ℕ) → free_numbers (replicate made Free) ≡ range_with_len 1 made
numbers_made made =
    ap (λ n. filter (free_at (replicate made Free)) (range_with_len 1 n)) (length-replicate made Free)
    ∙ kept_all (free_at (replicate made Free)) made 1 (λ k from to. made_free made k from to)

-- the number behind a range is put last
pub number_behind : (a n : ℕ) → with_number (a + n) (range_with_len a n) ≡ range_with_len a (suc n)
number_behind a zero = ap (λ k. k ∷ []) (omega arith)
number_behind a (suc n) =
    let rest = number_behind (a + 1) n in
    let same : (a + 1) + n ≡ a + suc n = omega arith in
    rw (lt-ltb a (a + suc n) (omega arith)) (ap (λ (ks : List ℕ). a ∷ ks) (rw same at rest))

-- no free user is busy
pub made_busy : (made : ℕ) → busy_count (replicate made Free) ≡ 0
made_busy zero = refl
made_busy (suc made) = let rest = made_busy made in omega (arith, count-cons is_busy Free (replicate made Free))
