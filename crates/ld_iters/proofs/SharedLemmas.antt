-- What a state of shared iterations says of the scenario that it shows.
use Rattle.std.proofs.Common.{◌≡◌, ◌∙◌, ℕ, true, false, List, [], ◌∷◌, Option, None, Some, IsTrue, IfNone, slice_get, refl, sym, ap, rules}
use Rattle.ld_course.specs.Chosen.{chosen_of}
use Rattle.ld_course.proofs.FirstLemmas.{first_here, nobody_chosen}
use Rattle.ld_course.proofs.IdleLemmas.{idle_of}
use Rattle.ld_iters.specs.SharedShows.{SharedView, Shows, is_shared}
use Rattle.ld_machine.specs.Plan.{Executor, SharedIterations, PerVuIterations, ConstantVus, RampingVus, ArrivalRate, ExternallyControlled, hard_moment, is_external}
use Rattle.ld_machine.specs.State.{held_count}
use Rattle.ld_machine.specs.Scenario.{Scenario, executor_until, least_open_item, slots_to_take, until_of}
use Rattle.ld_machine.specs.Moves.{releases}
use Rattle.ld_machine.specs.Told.{executor_next_item, users_fit}
use Rattle.ld_machine.specs.Wishes.{has_arrivals}

-- what holds of every executor of shared iterations
pub of_shared : (P : Executor → Type 0) (e : Executor) → IsTrue (is_shared e) → ((users : ℕ) (items : List ℕ) → P (SharedIterations users items)) → P e
of_shared P (SharedIterations users items) h holds = holds users items
of_shared P (PerVuIterations _ _) h holds = absurd (search rules)
of_shared P (ConstantVus _) h holds = absurd (search rules)
of_shared P (RampingVus _ _) h holds = absurd (search rules)
of_shared P (ArrivalRate _ _ _) h holds = absurd (search rules)
of_shared P (ExternallyControlled _ _ _) h holds = absurd (search rules)

module _ (v : SharedView) (s : Scenario) (shows : Shows v s) where
  -- ---- laws

  -- a shown scenario has no arrivals, isn't controlled from outside, and takes no more users at its begin than it may hold
  pub shared_no_arrivals : has_arrivals s.part.executor ≡ false
  shared_no_arrivals = of_shared (λ (e : Executor). has_arrivals e ≡ false) s.part.executor shows.shared (λ users items. refl)

  pub shared_not_external : is_external s.part.executor ≡ false
  shared_not_external = of_shared (λ (e : Executor). is_external e ≡ false) s.part.executor shows.shared (λ users items. refl)

  pub shared_users_fit : users_fit s.part.executor ≡ true
  shared_users_fit = of_shared (λ (e : Executor). users_fit e ≡ true) s.part.executor shows.shared (λ users items. refl)

  -- it is closed where its course says so
  pub shared_closed : v.course.closed ≡ s.share.closed
  shared_closed = ap (λ (w : SharedView). w.course.closed) shows.kept

  -- ---- what is kept

  pub least_shown : slice_get v.left 0 ≡ least_open_item s
  least_shown = ap (λ (w : SharedView). slice_get w.left 0) shows.kept ∙ sym (first_here _)

  pub idle_shown : v.idle ≡ idle_of s.share
  idle_shown = ap (λ (w : SharedView). w.idle) shows.kept

  pub held_shown : v.held ≡ held_count s.share
  held_shown = ap (λ (w : SharedView). w.held) shows.kept

  pub chosen_shown : (prefer : ℕ) → chosen_of prefer (idle_of s.share) ≡ chosen_of prefer v.idle
  chosen_shown prefer = ap (chosen_of prefer) (sym idle_shown)

  -- ---- cells of the machine

  pub shared_slots : slots_to_take s.part.executor s ≡ v.held ∷ []
  shared_slots =
      of_shared (λ (e : Executor). slots_to_take e s ≡ held_count s.share ∷ []) s.part.executor shows.shared (λ users items. refl)
      ∙ ap (λ (k : ℕ). k ∷ []) (sym held_shown)

  pub shared_until : (slot t : ℕ) → until_of s slot t ≡ hard_moment s.part
  shared_until slot t = of_shared (λ (e : Executor). executor_until e s slot t ≡ hard_moment s.part) s.part.executor shows.shared (λ users items. refl)

  pub shared_next : (slot : ℕ) → executor_next_item s.part.executor s slot ≡ least_open_item s
  shared_next slot = of_shared (λ (e : Executor). executor_next_item e s slot ≡ least_open_item s) s.part.executor shows.shared (λ users items. refl)

-- ---- where no idle user is chosen

-- nobody is released
pub none_goes : (v : SharedView) (prefer t : ℕ) (idle : Option ℕ) → idle ≡ chosen_of prefer v.idle →
    IfNone idle ((s : Scenario) (n : ℕ) → Shows v s → releases n s t ≡ [])
none_goes v prefer t None e = λ s n shows. nobody_chosen n s t prefer (chosen_shown v s shows prefer ∙ sym e)
none_goes v prefer t (Some user) e = search rules
