-- The idle user that is chosen by a seating is one of the scenario's.
use Rattle.std.proofs.Common.{Contains, ◌≡◌, ◌≢◌, ◌==◌, ◌∙◌, ℕ, Bool, true, false, Option, None, Some, IfNone, IfSome, filter, slice_get, sym, ap, subst, rules}
use Rattle.std.proofs.lemmas.Bool.{eqb-true}
use Rattle.ld_machine.specs.Plan.{owned_slots}
use Rattle.ld_machine.specs.Scenario.{Scenario}
use Rattle.ld_machine.specs.State.{HeldUser, idle_users, is_idle}
use Rattle.ld_machine.proofs.FirstOfAllLemmas.{In-of}
use Rattle.ld_machine.proofs.ListLemmas.{In, In-filter, In-from_any, any-from_In, both_true, number_itself, Contains-from_In}
use Rattle.ld_set.specs.SetView.{is_among}
use Rattle.ld_seats.specs.Choice.{IsChosen, IsLeastMeant, is_meant, is_of}
use Rattle.ld_seats.specs.Seating.{IsSeating, SeatingView}
use Rattle.ld_seats.specs.Seats.{IsSeat}
use Rattle.ld_seats.specs.declared.which.Which.{Which}
use Rattle.ld_seats.proofs.NumbersLemmas.{first_passes, none_passes}

module _ (v : SeatingView) (s : Scenario) (sits : IsSeating v s) where
  -- an idle user's slot is an owned one
  pub owned_in : (h : HeldUser) → Contains (idle_users s.share) h → In h.slot (owned_slots s.part.executor)
  owned_in h idle =
      let at = In-filter is_idle h s.share.held (In-of idle) in
      In-of (sits.seats h (Contains-from_In h at.0)).owned

  idle_seat : (h : HeldUser) → Contains (idle_users s.share) h → IsSeat v.seats h.user h.slot
  idle_seat h idle =
      let at = In-filter is_idle h s.share.held (In-of idle) in (sits.seats h (Contains-from_In h at.0)).seat

  idle_among : (h : HeldUser) → Contains (idle_users s.share) h → is_among v.idle h.slot ≡ true
  idle_among h idle = sits.idle h.slot ∙ any-from_In (λ (g : HeldUser). g.slot == h.slot) h (In-of idle) (number_itself h.slot)

  idle_on : (slot : ℕ) → is_among v.idle slot ≡ true → (h : HeldUser) × Contains (idle_users s.share) h × (h.slot ≡ slot)
  idle_on slot among =
      let found = In-from_any (λ (g : HeldUser). g.slot == slot) (idle_users s.share) (sym (sits.idle slot) ∙ among) in
      (found.0, Contains-from_In found.0 found.1, eqb-true found.0.slot slot found.2)

  pub has_user : (which : Which) (slot : ℕ) → is_meant which v slot ≡ true → slice_get v.seats.user_of slot ≡ None → ⊥
  has_user which slot meant none =
      let both = both_true (is_among v.idle slot) (is_of which slot) meant in
      let found = idle_on slot both.0 in
      let its : slice_get v.seats.user_of slot ≡ Some found.0.user = ap (slice_get v.seats.user_of) (sym found.2) ∙ (idle_seat found.0 found.1).user_is in
      cc

  pub is_chosen : (which : Which) (prefer user slot : ℕ) → is_meant which v slot ≡ true → slice_get v.seats.user_of slot ≡ Some user →
      ((k : ℕ) → IsSeat v.seats prefer k → is_meant which v k ≡ true → Some slot ≡ Some k) → IsChosen s (is_of which) prefer user slot
  is_chosen which prefer user slot meant its_user preferred =
      let both = both_true (is_among v.idle slot) (is_of which slot) meant in
      let found = idle_on slot both.0 in
      let its : slice_get v.seats.user_of slot ≡ Some found.0.user = ap (slice_get v.seats.user_of) (sym found.2) ∙ (idle_seat found.0 found.1).user_is in
      record {
        one = found.0;
        idle = found.1;
        user_is = cc;
        slot_is = found.2;
        fits = both.1;
        preferred = λ h idle fits same.
            let seat = idle_seat h idle in
            let own : IsSeat v.seats prefer h.slot = subst (λ k. IsSeat v.seats k h.slot) same seat in
            let on : is_meant which v h.slot ≡ true = rw (idle_among h idle) fits in
            let at = preferred h.slot own on in
            let slots : slot ≡ h.slot = cc in
            let users : Some user ≡ Some h.user = sym its_user ∙ ap (slice_get v.seats.user_of) slots ∙ seat.user_is in
            cc;
      }

-- whoever is chosen by one test is by another that agrees with it
pub chosen_as : (s : Scenario) (p q : ℕ → Bool) (prefer user slot : ℕ) →
    ((h : HeldUser) → Contains (idle_users s.share) h → q h.slot ≡ p h.slot) → IsChosen s p prefer user slot → IsChosen s q prefer user slot
chosen_as s p q prefer user slot agree chosen =
    record {
      one = chosen.one;
      idle = chosen.idle;
      user_is = chosen.user_is;
      slot_is = chosen.slot_is;
      fits = subst (λ k. q k ≡ p k) chosen.slot_is (agree chosen.one chosen.idle) ∙ chosen.fits;
      preferred = λ h idle fits same. chosen.preferred h idle (sym (agree h idle) ∙ fits) same;
    }

-- ---- the slot that is chosen

-- the first of the idle users' slots that are meant, or none
pub some_meant : (which : Which) (v : SeatingView) (result : Option ℕ) → result ≡ slice_get (filter (is_of which) v.idle) 0 →
    IfSome result (λ slot. is_meant which v slot ≡ true)
some_meant which v None e = search rules
some_meant which v (Some slot) e = first_passes (is_of which) v.idle slot (sym e)

pub none_meant : (which : Which) (v : SeatingView) (result : Option ℕ) → result ≡ slice_get (filter (is_of which) v.idle) 0 →
    IfNone result ((slot : ℕ) → is_meant which v slot ≡ false)
none_meant which v None e = none_passes (is_of which) v.idle (sym e)
none_meant which v (Some slot) e = search rules

pub least_meant : (which : Which) (v : SeatingView) (prefer : ℕ) (result : Option ℕ) → result ≡ slice_get (filter (is_of which) v.idle) 0 →
    IfSome result (λ slot. slice_get v.seats.user_of slot ≢ Some prefer → IsLeastMeant which v slot)
least_meant which v prefer None e = search rules
least_meant which v prefer (Some slot) e = λ other. sym e
