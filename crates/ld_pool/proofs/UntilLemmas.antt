-- The table of users' `until`s: how it follows the users, and the least above a moment.
use Rattle.std.specs.Prelude.{◌≡◌, ◌≢◌, ◌<◌, ◌≤◌, ◌+◌, ℕ, zero, suc, nat_lt, List, [], ◌∷◌, ◌++◌, Option, Some, None, IfNone, IfSome, filter, length, replicate, slice_get}
use Rattle.std.specs.List.{Contains, cons_option}
use Rattle.std.specs.Option.{option_and_then}
use Rattle.std.proofs.Common.{arith, ap, inl, inr, get_or-set_other, get_or-set_same, length-set, refl, set, sym, ◌∙◌}
use Rattle.std.proofs.lemmas.Bool.{cases_eq}
use Rattle.std.proofs.lemmas.List.{length-replicate}
use Rattle.std.proofs.lemmas.Option.{get_or_from_slice_get, slice_get-get_or, slice_get_within}
use Rattle.ld_machine.specs.Wait.{least_of}
use Rattle.ld_machine.proofs.CandidateLemmas.{above_is, above_none}
use Rattle.ld_machine.proofs.FirstOfAllLemmas.{In-of}
use Rattle.ld_machine.proofs.ListLemmas.{In, here, there, Contains-from_In, In-filter_map, In-from_Contains}
use Rattle.ld_set.specs.Moments.{moment_at}
use Rattle.ld_set.proofs.MomentLemmas.{contained_moment, moment_contained}
use Rattle.ld_pool.specs.Pool.{HasUntils}
use Rattle.ld_pool.specs.Users.{until_at, until_of, untils_of, user_at, with_user}
use Rattle.ld_pool.specs.declared.user.User.{User}
use Rattle.ld_pool.specs.declared.user.User.TheVariants.{Free, Idle}
use Rattle.ld_pool.proofs.UserLemmas.{user_at_place, user_changed, user_other}

-- ---- how the table follows the users

-- until when the iteration of what was found may last
abbrev found_until : Option User → Option ℕ
found_until user = option_and_then until_of user

-- free users have none, and a new table has none
free_until : (made index : ℕ) → found_until (slice_get (replicate made Free) index) ≡ None
free_until zero index = refl
free_until (suc made) zero = refl
free_until (suc made) (suc index) = free_until made index

nobody_until : (made number : ℕ) → until_at (replicate made Free) number ≡ None
nobody_until made zero = refl
nobody_until made (suc index) = free_until made index

nothing_at : (room number : ℕ) → moment_at (replicate room None) number ≡ None
nothing_at zero number = refl
nothing_at (suc room) zero = refl
nothing_at (suc room) (suc number) = nothing_at room number

pub untils_new : (made limit : ℕ) → HasUntils (replicate made Free) limit (replicate (limit + 1) None)
untils_new made limit =
    record {
      room = length-replicate (limit + 1) None;
      each = λ number. nothing_at (limit + 1) number ∙ sym (nobody_until made number);
    }

-- an idle user more has none
idle_until : (users : List User) (scenario index : ℕ) →
    found_until (slice_get (users ++ Idle scenario ∷ []) index) ≡ found_until (slice_get users index)
idle_until [] scenario zero = refl
idle_until [] scenario (suc index) = refl
idle_until (user ∷ users) scenario zero = refl
idle_until (user ∷ users) scenario (suc index) = idle_until users scenario index

grown_until : (users : List User) (scenario number : ℕ) → until_at (users ++ Idle scenario ∷ []) number ≡ until_at users number
grown_until users scenario zero = refl
grown_until users scenario (suc index) = idle_until users scenario index

pub untils_grown : (users : List User) (scenario limit : ℕ) (untils : List (Option ℕ)) → HasUntils users limit untils →
    HasUntils (users ++ Idle scenario ∷ []) limit untils
untils_grown users scenario limit untils has =
    record { room = has.room; each = λ number. has.each number ∙ sym (grown_until users scenario number) }

module _ (users : List User) (number : ℕ) (before after : User) (limit : ℕ) (untils : List (Option ℕ)) (has : HasUntils users limit untils)
    (is : user_at users number ≡ Some before) where
  changed_until : until_at (with_user users number after) number ≡ until_of after
  changed_until = let place = user_at_place users number before is in ap found_until (user_changed users number after place.0 place.1)

  other_until : (other : ℕ) → other ≢ number → until_at (with_user users number after) other ≡ until_at users other
  other_until other apart =
      let place = user_at_place users number before is in ap found_until (user_other users number other after place.0 apart)

  -- the table stays where a user changes that may last as long as before
  pub untils_stay : until_of after ≡ until_of before → HasUntils (with_user users number after) limit untils
  untils_stay same =
      record {
        room = has.room;
        each = λ k. elim (cases_eq k number) [
          | inl e ↦ rw e (has.each number ∙ ap found_until is ∙ sym same ∙ sym changed_until)
          | inr apart ↦ has.each k ∙ sym (other_until k apart)
        ];
      }

  -- and is set where another user does
  pub untils_set : length users ≤ limit → HasUntils (with_user users number after) limit (set untils number (until_of after))
  untils_set within =
      let place = user_at_place users number before is in
      let below : number < length untils = omega (arith, place.0, place.1, has.room) in
      record {
        room = length-set untils number (until_of after) ∙ has.room;
        each = λ k. elim (cases_eq k number) [
          | inl e ↦ rw e (get_or-set_same untils number (until_of after) None below ∙ sym changed_until)
          | inr apart ↦ get_or-set_other untils number k (until_of after) None apart ∙ has.each k ∙ sym (other_until k apart)
        ];
      }

-- ---- the least above a moment

-- a user of whom there is an `until` is one of those that have one
kept-In : (user : User) (m : ℕ) {users : List User} → In user users → until_of user ≡ Some m → In m (untils_of users)
kept-In user m (here {xs = xs}) is = rw is here
kept-In user m (there {y = y} {xs = xs} more) is =
    let P : Option ℕ → Type 0 = λ o. In m (cons_option o (untils_of xs)) in
    elim (until_of y) as P [ None ↦ kept-In user m more is | Some other ↦ there (kept-In user m more is) ]

user_in : (users : List User) (number : ℕ) (user : User) → user_at users number ≡ Some user → In user users
user_in users zero user is = absurd (cc is)
user_in users (suc index) user is =
    In-from_Contains user users index (slice_get_within users index user is) (get_or_from_slice_get users index user user is)

-- a number has it exactly where it is one of all `until`s
until_among : (users : List User) (number m : ℕ) → until_at users number ≡ Some m → Contains (untils_of users) m
until_among users number m is =
    let P : Option User → Type 0 = λ o. user_at users number ≡ o → found_until o ≡ Some m → Contains (untils_of users) m in
    let by : P (user_at users number) = elim (user_at users number) as P [
      | None ↦ λ e at. absurd (cc at)
      | Some user ↦ λ e at. Contains-from_In m (kept-In user m (user_in users number user e) at)
    ] in
    by refl is

among_until : (users : List User) (m : ℕ) → Contains (untils_of users) m → (number : ℕ) × (until_at users number ≡ Some m)
among_until users m at =
    let one = In-filter_map until_of m users (In-of at) in
    let place = Contains-from_In one.0 one.1 in
    (suc place.0, ap found_until (slice_get-get_or users place.0 one.0 place.1 ∙ ap Some place.2) ∙ one.2)

module _ (users : List User) (limit : ℕ) (untils : List (Option ℕ)) (has : HasUntils users limit untils) where
  in_users : (m : ℕ) → Contains untils (Some m) → Contains (untils_of users) m
  in_users m at = let place = contained_moment untils m at in until_among users place.0 m (sym (has.each place.0) ∙ place.2)

  in_table : (m : ℕ) → Contains (untils_of users) m → Contains untils (Some m)
  in_table m at = let one = among_until users m at in moment_contained untils one.0 m (has.each one.0 ∙ one.1)

  -- the least of the table above a moment is the least of the users'
  pub least_until : (t : ℕ) (least : Option ℕ) → IfSome least (λ m. Contains untils (Some m)) → IfSome least (λ m. t < m) →
      IfSome least (λ m. (other : ℕ) → Contains untils (Some other) → t < other → m ≤ other) →
      IfNone least ((other : ℕ) → Contains untils (Some other) → other ≤ t) → least ≡ least_of (filter (nat_lt t) (untils_of users))
  least_until t None among above lower none = sym (above_none t (untils_of users) (λ other at. none other (in_table other at)))
  least_until t (Some m) among above lower none =
      sym (above_is t (untils_of users) m (in_users m among, above, λ other at later. lower other (in_table other at) later))
