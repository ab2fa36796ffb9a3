-- What a position owns of each scenario, and that there is one such list of parts.
use Rattle.std.proofs.Common.{◌≡◌, ◌<◌, ◌∙◌, ℕ, List, [], ◌∷◌, length, slice_get, ap, ap₂, refl, sym, subst}
use Rattle.std.specs.Prelude.{Some}
use Rattle.std.specs.List.{AllByRecursion, AllZip}
use Rattle.std.proofs.lemmas.Option.{slice_get_within}
use Rattle.ld_num.specs.declared.fraction.Frac.{Frac}
use Rattle.ld_segment.specs.Refusal.{ends}
use Rattle.ld_segment.specs.Segments.{segments_of}
use Rattle.ld_segment.specs.declared.segment.Segment.{Segment}
use Rattle.ld_segment.proofs.FillingLemmas.{one_position}
use Rattle.ld_stripe.specs.Striping.{Striping, shares_at}
use Rattle.ld_machine.specs.Plan.{Part}
use Rattle.ld_options.specs.Ranges.{IsInRange, IsScenarioInRange}
use Rattle.ld_options.specs.declared.options.Options.{Options}
use Rattle.ld_options.specs.declared.scenario.Scenario.{Scenario}
use Rattle.ld_plan.specs.Executor.{max_of}
use Rattle.ld_plan.specs.IsPlanOf.{AreOwned, AreParts, IsPartOf, IsSound, part_of, sample_room, whole_of}
use Rattle.ld_plan.specs.PartView.{PartView}
use Rattle.ld_plan.specs.PlanView.{Whole}
use Rattle.ld_plan.proofs.ExecutorLemmas.{some_users}
use Rattle.ld_plan.proofs.StripingLemmas.{IsSpread, one_rescaled, one_sequence_striping, sequence_spread, sequence_striping, striping_of}

-- a position owns one part of a scenario
one_part : (room : ℕ) (striping : Striping) (n j : ℕ) (s : Scenario) (a b : PartView) → IsSpread striping n → IsInRange s.executor →
    IsPartOf room striping j s a → IsPartOf room striping j s b → a ≡ b
one_part room striping n j s a b spread ranges of_a of_b =
    let same = one_rescaled striping of_a.items of_b.items n (max_of s.executor) spread (some_users s.executor ranges) of_a.rescaled of_b.rescaled in
    let part = of_a.part_is ∙ ap (λ (items : Striping). part_of room striping items j s) same ∙ sym of_b.part_is in
    let whole = of_a.whole_is ∙ sym of_b.whole_is in
    ap₂ (λ (p : Part) (w : Whole). record { part = p; whole = w }) part whole

-- and so one list of parts of scenarios
one_list : {X Y : Type 0} (P : X → Type 0) (R : X → Y → Type 0) → ((x : X) (a b : Y) → P x → R x a → R x b → a ≡ b) →
    (xs : List X) (ls ms : List Y) → AllByRecursion P xs → AllZip R xs ls → AllZip R xs ms → ls ≡ ms
one_list P R one [] [] [] all of_a of_b = refl
one_list P R one [] [] (b ∷ ms) all of_a of_b = absurd of_b
one_list P R one [] (a ∷ ls) ms all of_a of_b = absurd of_a
one_list P R one (x ∷ xs) [] ms all of_a of_b = absurd of_a
one_list P R one (x ∷ xs) (a ∷ ls) [] all of_a of_b = absurd of_b
one_list P R one (x ∷ xs) (a ∷ ls) (b ∷ ms) all of_a of_b =
    ap₂ (λ y ys. y ∷ ys) (one x a b all.0 of_a.0 of_b.0) (one_list P R one xs ls ms all.1 of_a.1 of_b.1)

one_owned : (options : Options) (striping : Striping) (n j : ℕ) (ls ms : List PartView) → IsSpread striping n → AllByRecursion IsScenarioInRange options.scenarios →
    AreOwned options striping j ls → AreOwned options striping j ms → ls ≡ ms
one_owned options striping n j ls ms spread ranges of_a of_b =
    one_list IsScenarioInRange (λ (s : Scenario). IsPartOf (sample_room options.scripts.scripts s.script) striping j s)
    (λ s a b range in_a in_b. one_part (sample_room options.scripts.scripts s.script) striping n j s a b spread range.executor in_a in_b)
    options.scenarios ls ms ranges of_a of_b

-- a segment has one position
pub one_place : (options : Options) (segment : Segment) (sequence : List Frac) (p q : ℕ) (ls ms : List PartView) → IsSound options sequence →
    AreParts options segment sequence p ls → AreParts options segment sequence q ms → p ≡ q
one_place options segment sequence p q ls ms sound of_a of_b =
    one_position sequence p q (ends segment) sound.is_sequence of_a.stands of_b.stands

-- and so one list of parts
pub one_parts : (options : Options) (segment : Segment) (sequence : List Frac) (p q : ℕ) (ls ms : List PartView) → IsSound options sequence →
    AreParts options segment sequence p ls → AreParts options segment sequence q ms → ls ≡ ms
one_parts options segment sequence p q ls ms sound of_a of_b =
    let place = one_place options segment sequence p q ls ms sound of_a of_b in
    let striping = one_sequence_striping sequence of_a.striping of_b.striping sound.filled of_a.striped of_b.striped in
    let spread = sequence_spread sequence of_b.striping sound.filled of_b.striped in
    let there : AreOwned options of_b.striping q ls =
    subst (λ j. AreOwned options of_b.striping j ls) place
    (subst (λ (s : Striping). AreOwned options s p ls) striping of_a.owned) in
    one_owned options of_b.striping (length (segments_of sequence)) q ls ms spread sound.in_range there of_b.owned

-- there are parts
pub parts_of_scenarios : (options : Options) (striping : Striping) (j : ℕ) (scenarios : List Scenario) →
    (views : List PartView) × AllZip (λ (s : Scenario). IsPartOf (sample_room options.scripts.scripts s.script) striping j s) scenarios views
parts_of_scenarios options striping j [] = ([], tt)
parts_of_scenarios options striping j (s ∷ rest) =
    let items = striping_of (shares_at striping (max_of s.executor)) in
    let room = sample_room options.scripts.scripts s.script in
    let view : PartView = record { part = part_of room striping items.0 j s; whole = whole_of s } in
    let others = parts_of_scenarios options striping j rest in
    (view ∷ others.0, (record { items = items.0; rescaled = items.1; part_is = refl; whole_is = refl }, others.1))

pub some_parts : (options : Options) (segment : Segment) (sequence : List Frac) (j : ℕ) → IsSound options sequence →
    slice_get (segments_of sequence) j ≡ Some (ends segment) → (views : List PartView) × AreParts options segment sequence j views
some_parts options segment sequence j sound stands =
    let striping = sequence_striping sequence sound.filled in
    let found = parts_of_scenarios options striping.0 j options.scenarios in
    (found.0, record { stands = stands; striping = striping.0; striped = striping.1; owned = found.1 })

-- a segment of the sequence has a position of it
pub place_inside : (segment : Segment) (sequence : List Frac) (j : ℕ) → slice_get (segments_of sequence) j ≡ Some (ends segment) → j < length (segments_of sequence)
place_inside segment sequence j stands = slice_get_within (segments_of sequence) j (ends segment) stands
