-- A scenario of shared iterations at its opening, and the state that shows it.
use Rattle.std.proofs.Common.{◌≡◌, ◌∙◌, ◌==◌, ℕ, List, [], refl, sym, ap, rules}
use Rattle.ld_course.specs.Course.{IsOpening}
use Rattle.ld_course.specs.declared.course.Course.{Course}
use Rattle.ld_course.proofs.HeldLemmas.{opening_few, opening_order}
use Rattle.ld_course.proofs.IdleLemmas.{idle_of}
use Rattle.ld_iters.specs.ItersPart.{IsPart, executor_of_kind, owned_of}
use Rattle.ld_iters.specs.SharedShows.{SharedView, Shows, sharers_of}
use Rattle.ld_iters.specs.declared.iters_part.IterKind.{IterKind}
use Rattle.ld_iters.specs.declared.iters_part.IterKind.TheVariants.{Shared}
use Rattle.ld_iters.specs.declared.iters_part.ItersPart.{ItersPart}
use Rattle.ld_seats.proofs.NumbersLemmas.{all_pass}
use Rattle.ld_machine.specs.Plan.{SharedIterations}
use Rattle.ld_machine.specs.State as machine
use Rattle.ld_machine.specs.Scenario.{Scenario, open_items}
use Rattle.ld_set.proofs.NumberLemmas.{kept_rises}
use Rattle.ld_stripe.specs.Striping.{owner_at}

-- the state of a course, a number of users and open items, with nobody held
abbrev opening_kept : Course → ℕ → List ℕ → SharedView
opening_kept course users left = record { course = course; users = users; left = left; idle = []; held = 0 }

pub opening_shown : (part : ItersPart) (course : Course) (s : Scenario) → IsOpening part.begin part.end part.grace course → s.share ≡ machine.opening_share →
    IsPart part s.part → part.kind ≡ Shared → Shows (opening_kept course part.users (owned_of part)) s
opening_shown part course s opens share is kind =
    let how : s.part.executor ≡ SharedIterations part.users (owned_of part) = is.executor ∙ ap (λ (k : IterKind). executor_of_kind k part) kind in
    let its_course = opens s is.begin is.end is.grace share in
    let left : owned_of part ≡ open_items s = rw (share, how) (sym (all_pass (owned_of part))) in
    let users : part.users ≡ sharers_of s.part.executor = rw how refl in
    let idle : [] ≡ idle_of s.share = rw share refl in
    let held : 0 ≡ machine.held_count s.share = rw share refl in
    record {
      kept = λ i. record { course = its_course i; users = users i; left = left i; idle = idle i; held = held i };
      shared = rw how (search rules);
      items = rw how (kept_rises (λ k. owner_at part.stripe.owners k == part.position) part.total 0);
      order = opening_order s share;
      few = opening_few s share;
    }
