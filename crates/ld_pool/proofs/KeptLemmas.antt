-- What a pool keeps true, at first and when its users change.
use Rattle.std.specs.Prelude.{◌≡◌, ◌≢◌, ◌+◌, ◌-◌, ◌≤◌, ℕ, true, false, cond, List, [], ◌∷◌, ◌++◌, Option, None, Some, length, replicate}
use Rattle.std.specs.List.{range_with_len}
use Rattle.std.proofs.Common.{arith, ap, length-set, refl, set, sym, ◌∙◌}
use Rattle.std.proofs.lemmas.List.{length-append, length-replicate}
use Rattle.std.proofs.lemmas.List.Sums.{sum_by-append}
use Rattle.ld_set.specs.SetView.{SetView, with_number, without_number}
use Rattle.ld_pool.specs.Pool.{HasUntils, IsKept}
use Rattle.ld_pool.specs.Users.{busy_count, free_numbers, is_busy, is_free, until_of, user_at, with_user}
use Rattle.ld_pool.specs.declared.user.User.{User}
use Rattle.ld_pool.specs.declared.user.User.TheVariants.{Free, Idle}
use Rattle.ld_pool.proofs.FreeLemmas.{made_busy, numbers_freed, numbers_grown, numbers_made, numbers_same, numbers_taken}
use Rattle.ld_pool.proofs.UntilLemmas.{untils_grown, untils_new, untils_set, untils_stay}
use Rattle.ld_pool.proofs.UserLemmas.{count-with_user}

-- the fields stay kept, where the set, the table and the count of busy users change as the changed user does
kept-with_user : (users : List User) (number : ℕ) (before after : User) (free free' : SetView) (untils untils' : List (Option ℕ)) (busy busy' limit capacity : ℕ) →
    IsKept users free untils busy limit capacity → user_at users number ≡ Some before →
    free'.limit ≡ free.limit → free'.numbers ≡ free_numbers (with_user users number after) →
    HasUntils (with_user users number after) limit untils' →
    busy' + cond (is_busy before) 1 0 ≡ busy + cond (is_busy after) 1 0 →
    IsKept (with_user users number after) free' untils' busy' limit capacity
kept-with_user users number before after free free' untils untils' busy busy' limit capacity kept is below listed timed played =
    let same = length-set users (number - 1) after in
    let playing = count-with_user is_busy users number before after is in
    record {
      room = record { within = omega (arith, kept.room.within); reserved = kept.room.reserved; counted = kept.room.counted };
      few = kept.few;
      below = below ∙ kept.below;
      listed = listed;
      timed = timed;
      playing = omega (arith, kept.playing);
    }

module _ (users : List User) (number : ℕ) (before after : User) (free free' : SetView) (untils : List (Option ℕ)) (busy busy' limit capacity : ℕ)
    (kept : IsKept users free untils busy limit capacity) (is : user_at users number ≡ Some before) where
  -- a user that was taken is out of the set
  pub kept-taken : is_free after ≡ false → free'.numbers ≡ without_number number free.numbers → free'.limit ≡ free.limit →
      until_of after ≡ until_of before → busy' + cond (is_busy before) 1 0 ≡ busy + cond (is_busy after) 1 0 →
      IsKept (with_user users number after) free' untils busy' limit capacity
  kept-taken held out below same_until played =
      kept-with_user users number before after free free' untils untils busy busy' limit capacity kept is below
      (out ∙ ap (without_number number) kept.listed ∙ sym (numbers_taken users number before after is held))
      (untils_stay users number before after limit untils kept.timed is same_until) played

  -- one that was let go is in it
  pub kept-freed : is_free after ≡ true → free'.numbers ≡ with_number number free.numbers → free'.limit ≡ free.limit →
      until_of after ≡ until_of before → busy' + cond (is_busy before) 1 0 ≡ busy + cond (is_busy after) 1 0 →
      IsKept (with_user users number after) free' untils busy' limit capacity
  kept-freed let_go more below same_until played =
      kept-with_user users number before after free free' untils untils busy busy' limit capacity kept is below
      (more ∙ ap (with_number number) kept.listed ∙ sym (numbers_freed users number before after is let_go))
      (untils_stay users number before after limit untils kept.timed is same_until) played

  -- and where it is as free as before, the set stays; its `until` is put into the table
  pub kept-same : is_free after ≡ is_free before → busy' + cond (is_busy before) 1 0 ≡ busy + cond (is_busy after) 1 0 →
      IsKept (with_user users number after) free (set untils number (until_of after)) busy' limit capacity
  kept-same same played =
      kept-with_user users number before after free free untils (set untils number (until_of after)) busy busy' limit capacity kept is refl
      (kept.listed ∙ sym (numbers_same users number before after is same))
      (untils_set users number before after limit untils kept.timed is kept.room.within) played

-- they stay kept where one idle user more is made below the limit
pub kept-grown : (users : List User) (scenario : ℕ) (free : SetView) (untils : List (Option ℕ)) (busy limit capacity : ℕ) →
    IsKept users free untils busy limit capacity → length users ≢ limit → IsKept (users ++ Idle scenario ∷ []) free untils busy limit capacity
kept-grown users scenario free untils busy limit capacity kept room =
    let more = length-append users (Idle scenario ∷ []) in
    let playing : busy_count (users ++ Idle scenario ∷ []) ≡ busy_count users + 0 =
    sum_by-append (λ (u : User). cond (is_busy u) 1 0) users (Idle scenario ∷ []) in
    record {
      room = record { within = omega (arith, kept.room.within); reserved = kept.room.reserved; counted = kept.room.counted };
      few = kept.few;
      below = kept.below;
      listed = kept.listed ∙ sym (numbers_grown users (Idle scenario) refl);
      timed = untils_grown users scenario limit untils kept.timed;
      playing = omega (arith, kept.playing);
    }

-- they are so at first, where all users are free
pub kept-new : (users : List User) (made : ℕ) (free : SetView) (untils : List (Option ℕ)) (limit capacity : ℕ) → made ≤ limit → limit ≤ 1000 →
    limit ≤ capacity → users ≡ replicate made Free → free ≡ record { numbers = range_with_len 1 made; limit = limit + 1 } →
    untils ≡ replicate (limit + 1) None → IsKept users free untils 0 limit capacity
kept-new users made free untils limit capacity within few reserved all first empty =
    let long = ap (λ (us : List User). length us) all ∙ length-replicate made Free in
    let busy = ap busy_count all ∙ made_busy made in
    record {
      room = record { within = omega (arith, long); reserved = reserved; counted = omega arith };
      few = few;
      below = ap (λ (s : SetView). s.limit) first;
      listed = ap (λ (s : SetView). s.numbers) first ∙ sym (ap free_numbers all ∙ numbers_made made);
      timed = rw (all, empty) (untils_new made limit);
      playing = sym busy;
    }
