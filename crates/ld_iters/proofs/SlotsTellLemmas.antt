-- The wishes of users with slots tell their scenario's first acts.
use Rattle.std.proofs.Common.{◌≡◌, ◌≤◌, ◌∙◌, ℕ, Bool, true, List, [], ◌∷◌, Some, filter, slice_get, arith, sym, ap, subst, inl, inr, ◌⊎◌, refl}
use Rattle.std.specs.Prelude.{is_some}
use Rattle.std.specs.List.Sorted.{IsStrictlyIncreasing}
use Rattle.std.proofs.lemmas.List.Kept.{IsStrictlyIncreasing-filter}
use Rattle.ld_base.specs.declared.wish.Wish.TheVariants.{Release, Start, Take}
use Rattle.ld_course.proofs.FirstLemmas.{NoRelease, NoTake, release_tells, start_tells, take_tells}
use Rattle.ld_machine.specs.Plan.{hard_moment}
use Rattle.ld_machine.specs.Scenario.{Scenario, first_of, item_to_start, may_release, may_take, slots_to_take}
use Rattle.ld_machine.specs.Moves.{Users}
use Rattle.ld_machine.specs.Wishes.{TellsFirst}
use Rattle.ld_machine.proofs.FirstOfAllLemmas.{In-of}
use Rattle.ld_machine.proofs.ListLemmas.{In, In-filter, filter-In, here, there, Contains-from_In}
use Rattle.ld_machine.proofs.ValidPlanLemmas.{head_below}
use Rattle.ld_seats.specs.Choice.{IsChosen}
use Rattle.ld_iters.specs.SlotsShows.{Shows, SlotsView}
use Rattle.ld_iters.proofs.SlotsLemmas.{slots_no_arrivals, slots_owned, slots_until}

-- the first of rising numbers is one of them, and at most each of them
first_least : (numbers : List ℕ) (k : ℕ) → IsStrictlyIncreasing numbers → slice_get numbers 0 ≡ Some k → In k numbers × ((j : ℕ) → In j numbers → k ≤ j)
first_least [] k rises first = absurd (cc)
first_least (x ∷ rest) k rises first =
    let same : x ≡ k = cc in
    subst (λ i. In i (x ∷ rest) × ((j : ℕ) → In j (x ∷ rest) → i ≤ j)) same (here, λ j at. at_most j (first_or_later j at))
  where
    first_or_later : (j : ℕ) → In j (x ∷ rest) → (x ≡ j) ⊎ In j rest
    first_or_later j here = inl refl
    first_or_later j (there more) = inr more

    at_most : (j : ℕ) → (x ≡ j) ⊎ In j rest → x ≤ j
    at_most j (inl same) = omega arith
    at_most j (inr more) = let far = head_below x j rest rises (Contains-from_In j more) in omega arith

module _ (v : SlotsView) (s : Scenario) (shows : Shows v s) (n : ℕ) (users : Users) (t prefer : ℕ) where
  pub release_wished : (user slot : ℕ) → IsChosen s (λ k. may_release s k t) prefer user slot → TellsFirst n users s t prefer (Release user)
  release_wished user slot chosen =
      subst (λ k. TellsFirst n users s t prefer (Release k)) chosen.user_is
      (release_tells n users s t prefer chosen.one (In-of chosen.idle) (subst (λ k. may_release s k t ≡ true) (sym chosen.slot_is) chosen.fits)
      (λ g at may same. chosen.user_is ∙ chosen.preferred g (Contains-from_In g at) may same))

  pub take_wished : NoRelease n users s t prefer → (slot : ℕ) → slice_get (filter (λ k. may_take s k t) (slots_to_take s.part.executor s)) 0 ≡ Some slot →
      is_some (first_of users.free) ≡ true → TellsFirst n users s t prefer (Take slot)
  take_wished none slot first free =
      let rises : IsStrictlyIncreasing (slots_to_take s.part.executor s) = subst IsStrictlyIncreasing (sym (slots_owned v s shows)) shows.seating.rising in
      let may : ℕ → Bool = λ k. may_take s k t in
      let least = first_least (filter may (slots_to_take s.part.executor s)) slot (IsStrictlyIncreasing-filter may (slots_to_take s.part.executor s) rises) first in
      let at = In-filter may slot (slots_to_take s.part.executor s) least.0 in
      take_tells n users s t prefer none slot at.0 at.1 (λ other there_is passes. least.1 other (filter-In may other there_is passes)) free

  pub start_wished : NoRelease n users s t prefer → NoTake n users s t prefer → (user slot item until due : ℕ) →
      IsChosen s (λ k. is_some (item_to_start s k t)) prefer user slot → item_to_start s slot t ≡ Some item → hard_moment s.part ≡ until →
      TellsFirst n users s t prefer (Start user item until due)
  start_wished none no_take user slot item until due chosen may lasts =
      subst (λ k. TellsFirst n users s t prefer (Start k item until due)) chosen.user_is
      (subst (λ m. TellsFirst n users s t prefer (Start chosen.one.user item m due)) (slots_until v s shows chosen.one.slot t ∙ lasts)
      (start_tells n users s t prefer (slots_no_arrivals v s shows) none no_take chosen.one item due (In-of chosen.idle)
      (subst (λ k. item_to_start s k t ≡ Some item) (sym chosen.slot_is) may)
      (λ g other at starts same. chosen.user_is ∙ chosen.preferred g (Contains-from_In g at) (ap is_some starts) same)))
