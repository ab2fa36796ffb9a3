-- A scenario whose users have slots at its opening, and the state that shows it.
use Rattle.std.proofs.Common.{◌≡◌, ◌≢◌, ◌<◌, ◌+◌, ◌*◌, ◌==◌, ◌∙◌, ℕ, Bool, true, false, cond, nat_lt, List, [], ◌∷◌, filter, arith, refl, sym, ap, subst}
use Rattle.std.specs.List.{range_with_len}
use Rattle.std.specs.List.Sorted.{IsStrictlyIncreasing}
use Rattle.std.proofs.lemmas.Bool.{le-leb}
use Rattle.std.proofs.lemmas.Grind.{common_steps}
use Rattle.ld_course.specs.Course as courses
use Rattle.ld_course.specs.declared.course.Course.{Course}
use Rattle.ld_machine.specs.Plan.{ConstantVus, PerVuIterations, owned_slots}
use Rattle.ld_machine.specs.Scenario.{Scenario}
use Rattle.ld_machine.specs.SlotItems.{items_of_slots}
use Rattle.ld_machine.specs.Slots.{has_slots}
use Rattle.ld_machine.specs.State as machine
use Rattle.ld_seats.specs.Seating as seats
use Rattle.ld_seats.specs.Seating.{SeatingView}
use Rattle.ld_machine.proofs.FirstOfAllLemmas.{In-of}
use Rattle.ld_machine.proofs.FreeLemmas.{range_in}
use Rattle.ld_machine.proofs.ListLemmas.{In, In-filter}
use Rattle.ld_set.proofs.NumberLemmas.{kept_rises}
use Rattle.ld_stripe.specs.Striping.{owner_at}
use Rattle.ld_iters.specs.ItersPart.{IsPart, executor_of_kind, owned_of}
use Rattle.ld_iters.specs.SlotsOpening.{IsFirstWork, IsFirstWorkOf, first_going, going_of_kind}
use Rattle.ld_iters.specs.SlotsShows.{IsRest, IsWork, Shows, executor_goes_on}
use Rattle.ld_iters.specs.declared.iters_part.IterKind.{IterKind}
use Rattle.ld_iters.specs.declared.iters_part.IterKind.TheVariants.{Shared, PerUser, Constant}
use Rattle.ld_iters.specs.declared.iters_part.ItersPart.{ItersPart}
use Rattle.ld_iters.specs.declared.work.Work.{Work}
use Rattle.ld_iters.specs.declared.work.Work.TheVariants.{Counted, Endless}
use Rattle.ld_seats.proofs.NumbersLemmas.{all_pass, kept_same}
use Rattle.ld_iters.proofs.WorkLemmas.{goes_is}

none_passes : (p : ℕ → Bool) (numbers : List ℕ) → ((k : ℕ) → In k numbers → p k ≡ false) → [] ≡ filter p numbers
none_passes p numbers none = none_left numbers ∙ kept_same (λ k. false) p numbers none
  where
    none_left : (more : List ℕ) → [] ≡ filter (λ k. false) more
    none_left [] = refl
    none_left (k ∷ rest) = none_left rest

all_passes : (p : ℕ → Bool) (numbers : List ℕ) → ((k : ℕ) → In k numbers → p k ≡ true) → numbers ≡ filter p numbers
all_passes p numbers all = sym (all_pass numbers) ∙ kept_same (λ k. true) p numbers all

module _ (part : ItersPart) (s : Scenario) (share : s.share ≡ machine.opening_share) (is : IsPart part s.part) where
  abbrev owned : List ℕ
  owned = owned_of part

  owned_rises : IsStrictlyIncreasing owned
  owned_rises = kept_rises (λ k. owner_at part.stripe.owners k == part.position) part.total 0

  owned_below : (slot : ℕ) → In slot owned → slot < part.total
  owned_below slot at =
      let kept = In-filter (λ k. owner_at part.stripe.owners k == part.position) slot (range_with_len 0 part.total) at in
      let within = range_in slot 0 part.total kept.0 in
      omega arith

  -- each item is open, so that those of a slot are open from its first one on
  rest_first : (n slot : ℕ) → IsRest s n slot (slot * n)
  rest_first n slot =
      record {
        least = omega arith;
        most = omega arith;
        rest = λ item low below. rw share (sym (le-leb (slot * n) item low));
      }

  first_work : (kind : IterKind) (work : Work) → kind ≢ Shared → IsFirstWorkOf kind part work → IsWork (executor_of_kind kind part) s work
  first_work Shared work slots first = absurd (slots refl)
  first_work PerUser (Counted items) slots first = (
    ap (λ n. items_of_slots n owned) (sym first.0),
    λ slot contains. (slot * part.iterations, first.1 slot (owned_below slot (In-of contains)), subst (λ n. IsRest s n slot (slot * part.iterations)) (sym first.0) (rest_first part.iterations slot)),
  )
  first_work PerUser Endless slots first = elim first [ ]
  first_work Constant work slots first = subst (λ w. IsWork (ConstantVus owned) s w) (sym first) tt

  goes_first : (slot : ℕ) → In slot owned → executor_goes_on (PerVuIterations owned (items_of_slots part.iterations owned)) s slot ≡ nat_lt (slot * part.iterations) (slot * part.iterations + part.iterations)
  goes_first slot at = goes_is s part.iterations owned (items_of_slots part.iterations owned) refl owned_rises slot (slot * part.iterations) at (rest_first part.iterations slot)

  first_goes : (kind : IterKind) → kind ≢ Shared → going_of_kind kind part ≡ filter (executor_goes_on (executor_of_kind kind part) s) owned
  first_goes Shared slots = absurd (slots refl)
  first_goes Constant slots = all_passes (executor_goes_on (ConstantVus owned) s) owned (λ k at. refl)
  first_goes PerUser slots =
      let goes = executor_goes_on (PerVuIterations owned (items_of_slots part.iterations owned)) s in
      let P : Bool → Type 0 = λ b. (part.iterations == 0) ≡ b → cond b [] owned ≡ filter goes owned in
      let by : P (part.iterations == 0) = elim (part.iterations == 0) as P [
        | true ↦ λ e. none_passes goes owned (λ k at. goes_first k at ∙ none_more (k * part.iterations) part.iterations e)
        | false ↦ λ e. all_passes goes owned (λ k at. goes_first k at ∙ some_more (k * part.iterations) part.iterations e)
      ] in by refl
    where
      none_more : (first n : ℕ) → (n == 0) ≡ true → nat_lt first (first + n) ≡ false
      none_more first n e = grind (arith, common_steps)

      some_more : (first n : ℕ) → (n == 0) ≡ false → nat_lt first (first + n) ≡ true
      some_more first n e = grind (arith, common_steps)

  kind_slots : (kind : IterKind) → kind ≢ Shared → owned_slots (executor_of_kind kind part) ≡ owned
  kind_slots Shared slots = absurd (slots refl)
  kind_slots PerUser slots = refl
  kind_slots Constant slots = refl

  kind_has : (kind : IterKind) → kind ≢ Shared → has_slots (executor_of_kind kind part) ≡ true
  kind_has Shared slots = absurd (slots refl)
  kind_has PerUser slots = refl
  kind_has Constant slots = refl

  pub opening_shown : (course : Course) (work : Work) (seating : SeatingView) → part.kind ≢ Shared → courses.IsOpening part.begin part.end part.grace course →
      IsFirstWork part work → seats.IsOpening (owned_of part) seating →
      Shows (record { course = course; work = work; going = first_going part; seating = seating }) s
  opening_shown course work seating slots opens first seated =
      let how = is.executor in
      let mine : owned_slots s.part.executor ≡ owned = ap owned_slots how ∙ kind_slots part.kind slots in
      record {
        course = opens s is.begin is.end is.grace share;
        left = record {
          work = subst (λ e. IsWork e s work) (sym how) (first_work part.kind work slots first);
          going =
              first_goes part.kind slots
              ∙ ap (λ e. filter (executor_goes_on e s) owned) (sym how)
              ∙ ap (filter (executor_goes_on s.part.executor s)) (sym mine);
        };
        seating = seated s share (ap has_slots how ∙ kind_has part.kind slots) mine;
      }
