-- What an act makes of a scenario is what it makes of a state that shows it.
use Rattle.std.proofs.Common.{◌≡◌, ◌+◌, ◌-◌, ℕ, Bool, true, false, not, cond, ◌&&◌, ◌==◌, List, [], ◌∷◌, ◌++◌, Some, map, filter, drop, slice_get, IsTrue, refl, sym, ap, ◌∙◌, subst, arith, rules}
use Rattle.std.specs.Prelude.{option_map}
use Rattle.std.specs.List.{list_any}
use Rattle.std.proofs.lemmas.Grind.{common_steps}
use Rattle.ld_base.specs.Tally.{TallyView}
use Rattle.ld_base.specs.declared.act.Act.{Act}
use Rattle.ld_base.specs.declared.act.Act.TheVariants as acts
use Rattle.ld_base.specs.declared.act.Outcome.{Outcome}
use Rattle.ld_course.specs.Course as courses
use Rattle.ld_course.specs.declared.course.Course.{Course}
use Rattle.ld_course.proofs.EndedLemmas.{item_ended}
use Rattle.ld_course.proofs.HeldLemmas.{few_behind, held_end, held_hold, held_let_go, held_put, idle_end, idle_hold, idle_let_go, idle_return, idle_start}
use Rattle.ld_course.proofs.IdleLemmas.{idle_of}
use Rattle.ld_machine.specs.Plan.{Arrival, Part, owned_items}
use Rattle.ld_machine.specs.State as machine
use Rattle.ld_machine.specs.Scenario.{Scenario, executor_max_vus, is_open_item}
use Rattle.ld_machine.specs.Settled.{is_distinct}
use Rattle.ld_machine.specs.Effect.{put_condition, end_item}
use Rattle.ld_machine.specs.ShareEffect.{share_after}
use Rattle.ld_machine.specs.Told.{MayBeTold}
use Rattle.ld_machine.specs.Wishes.{has_arrivals}
use Rattle.ld_machine.proofs.ToldLemmas.{told_in_order}
use Rattle.ld_set.specs.SetView.{with_number, without_number}
use Rattle.ld_rates.specs.RatesView.{RatesView}
use Rattle.ld_rates.specs.Shows.{Shows, kept_pair, kept_of, open_arrivals, pre_allocated_of}
use Rattle.ld_rates.specs.Applies.{next_item}
use Rattle.ld_rates.proofs.FirstLemmas.{at_rate}
use Rattle.ld_rates.proofs.ShownLemmas.{of_rates}

-- ---- the open arrivals

-- where no arrival has the item, it makes no difference that it ended
ended_elsewhere : (p q : Arrival → Bool) (item : ℕ) (planned : List Arrival) → ((a : Arrival) → q a ≡ (p a && not (item == a.item))) →
    list_any (λ k. k == item) (map (λ (a : Arrival). a.item) planned) ≡ false → filter q planned ≡ filter p planned
ended_elsewhere p q item [] is none = refl
ended_elsewhere p q item (a ∷ rest) is none =
    let other : (item == a.item) ≡ false = grind (arith, common_steps) in
    let later : list_any (λ k. k == item) (map (λ (x : Arrival). x.item) rest) ≡ false = grind (arith, common_steps) in
    let more = ended_elsewhere p q item rest is later in
    let same : q a ≡ p a = let at = is a in grind (arith, common_steps) in
    rw (same, more) refl

-- where the first open arrival ends, the others stay open
first_ended : (p q : Arrival → Bool) (item : ℕ) (planned : List Arrival) → ((a : Arrival) → q a ≡ (p a && not (item == a.item))) →
    is_distinct (map (λ (a : Arrival). a.item) planned) ≡ true → (b : Arrival) → slice_get (filter p planned) 0 ≡ Some b → b.item ≡ item →
    filter q planned ≡ drop 1 (filter p planned)
first_ended p q item [] is distinct b first same = absurd (cc)
first_ended p q item (a ∷ rest) is distinct b first same =
    let later : is_distinct (map (λ (x : Arrival). x.item) rest) ≡ true = grind (arith, common_steps) in
    let apart : list_any (λ k. k == a.item) (map (λ (x : Arrival). x.item) rest) ≡ false = grind (arith, common_steps) in
    let P : Bool → Type 0 = λ c. p a ≡ c → slice_get (cond c (a ∷ filter p rest) (filter p rest)) 0 ≡ Some b →
    cond (q a) (a ∷ filter q rest) (filter q rest) ≡ drop 1 (cond c (a ∷ filter p rest) (filter p rest)) in
    let from : P (p a) = elim (p a) as P [
      | true ↦ λ opens at.
          let here : a ≡ b = cc in
          let its : a.item ≡ item = ap (λ (x : Arrival). x.item) here ∙ same in
          let ends : q a ≡ false = let how = is a in grind (arith, common_steps) in
          let others = ended_elsewhere p q item rest is (subst (λ (k : ℕ). list_any (λ x. x == k) (map (λ (x : Arrival). x.item) rest) ≡ false) its apart) in
          rw (ends, others) (search rules)
      | false ↦ λ opens at.
          let ends : q a ≡ false = let how = is a in grind (arith, common_steps) in
          rw ends (first_ended p q item rest is later b at same)
    ] in
    from refl first

-- the first open item is an owned one
first_owned : (p : Arrival → Bool) (item : ℕ) (planned : List Arrival) (b : Arrival) → slice_get (filter p planned) 0 ≡ Some b → b.item ≡ item →
    list_any (λ k. k == item) (map (λ (a : Arrival). a.item) planned) ≡ true
first_owned p item [] b first same = absurd (cc)
first_owned p item (a ∷ rest) b first same =
    let P : Bool → Type 0 = λ c. slice_get (cond c (a ∷ filter p rest) (filter p rest)) 0 ≡ Some b →
    list_any (λ k. k == item) (map (λ (x : Arrival). x.item) (a ∷ rest)) ≡ true in
    let from : P (p a) = elim (p a) as P [
      | true ↦ λ at.
          let here : a ≡ b = cc in
          let its : a.item ≡ item = ap (λ (x : Arrival). x.item) here ∙ same in
          grind (arith, common_steps)
      | false ↦ λ at. let later = first_owned p item rest b at same in grind (arith, common_steps)
    ] in
    from first

kept_first : (arrivals : List Arrival) (item : ℕ) → option_map (λ (pair : ℕ × ℕ). pair.0) (slice_get (map kept_pair arrivals) 0) ≡ Some item →
    (b : Arrival) × (slice_get arrivals 0 ≡ Some b) × (b.item ≡ item)
kept_first [] item e = absurd (cc)
kept_first (b ∷ rest) item e = (b, refl, cc)

drop_kept : (arrivals : List Arrival) → map kept_pair (drop 1 arrivals) ≡ drop 1 (map kept_pair arrivals)
drop_kept [] = search rules
drop_kept (a ∷ rest) = search rules

-- the open arrivals behind the end of the next one
ended_at : (part : Part) (pre most : ℕ) (planned : List Arrival) (share : machine.Share) (controls : machine.Controls) (item : ℕ) →
    let s : Scenario = at_rate part pre most planned share controls in
    IsTrue (is_distinct (owned_items s.part.executor)) → next_item (kept_of s) ≡ Some item →
    drop 1 (map kept_pair (open_arrivals s)) ≡ map kept_pair (open_arrivals (record s { share = end_item s.part item s.share }))
ended_at part pre most planned share controls item distinct next =
    let s : Scenario = at_rate part pre most planned share controls in
    let opens : Arrival → Bool = λ a. is_open_item s a.item in
    let stays : Arrival → Bool = λ a. not (list_any (λ x. x == a.item) (share.ended ++ item ∷ [])) in
    let first = kept_first (filter opens planned) item next in
    let apart : is_distinct (map (λ (a : Arrival). a.item) planned) ≡ true = search rules in
    let owned = first_owned opens item planned first.0 first.1 first.2 in
    let left = first_ended opens stays item planned (λ a. item_ended share.ended item a.item) apart first.0 first.1 first.2 in
    let waiting : drop 1 (map kept_pair (filter opens planned)) ≡ map kept_pair (filter stays planned) =
    sym (drop_kept (filter opens planned)) ∙ ap (map kept_pair) (sym left) in
    rw owned waiting

waiting_ended : (s : Scenario) → IsTrue (has_arrivals s.part.executor) → IsTrue (is_distinct (owned_items s.part.executor)) → (item : ℕ) →
    next_item (kept_of s) ≡ Some item →
    drop 1 (map kept_pair (open_arrivals s)) ≡ map kept_pair (open_arrivals (record s { share = end_item s.part item s.share }))
waiting_ended s rates distinct item next =
    let P : Scenario → Type 0 = λ s. IsTrue (is_distinct (owned_items s.part.executor)) → next_item (kept_of s) ≡ Some item →
    drop 1 (map kept_pair (open_arrivals s)) ≡ map kept_pair (open_arrivals (record s { share = end_item s.part item s.share })) in
    of_rates P s rates (λ part pre most planned share controls distinct next. ended_at part pre most planned share controls item distinct next) distinct next

-- ---- act by act

-- a state with another course, and with these open arrivals, idle users and number of users
abbrev with_parts : RatesView → Course → List (ℕ × ℕ) → List ℕ → ℕ → RatesView
with_parts v course waiting idle held = record v { course = course; waiting = waiting; idle = idle; held = held }

module _ (old new : RatesView) (after : Course) (t : ℕ) (s : Scenario) (thread : ℕ) (shows : Shows old s) where
  -- the scenario behind an act
  abbrev behind : Act → Scenario
  behind act = record s { share = share_after s.part thread t act s.share }

  -- the new state shows the scenario behind an act that this may be told of, where its course follows the act, and its other
  -- parts are those of the scenario behind it
  shown_behind : (act : Act) → courses.Follows old.course after act t → MayBeTold s act → (waiting : List (ℕ × ℕ)) (idle : List ℕ) (held : ℕ) →
      new ≡ with_parts old after waiting idle held → waiting ≡ map kept_pair (open_arrivals (behind act)) → idle ≡ idle_of (behind act).share →
      held ≡ machine.held_count (behind act).share → Shows new (behind act)
  shown_behind act course told waiting idle held now waiting_is idle_is held_is =
      let its_course = course s thread (ap (λ (v : RatesView). v.course) shows.kept) in
      let pre : old.pre ≡ pre_allocated_of s.part.executor = ap (λ (v : RatesView). v.pre) shows.kept in
      let most : old.max ≡ executor_max_vus s.part.executor = ap (λ (v : RatesView). v.max) shows.kept in
      record {
        kept = now ∙ (λ i. record { course = its_course i; pre = pre i; max = most i; waiting = waiting_is i; idle = idle_is i; held = held_is i });
        rates = shows.rates;
        distinct = shows.distinct;
        fits = shows.fits;
        order = told_in_order s thread t act shows.order told;
        few = few_behind s thread t act shows.few told;
      }

  -- that it shows the scenario behind an act that is this one
  abbrev FollowsAct : Act → Type 0
  FollowsAct act = MayBeTold s act → Shows new (behind act)

  by_act : (act one : Act) → act ≡ one → courses.Follows old.course after act t → (courses.Follows old.course after one t → FollowsAct one) → FollowsAct act
  by_act act one is course follows = subst FollowsAct (sym is) (follows (subst (λ (a : Act). courses.Follows old.course after a t) is course))

  waits : old.waiting ≡ map kept_pair (open_arrivals s)
  waits = ap (λ (v : RatesView). v.waiting) shows.kept

  who : old.idle ≡ idle_of s.share
  who = ap (λ (v : RatesView). v.idle) shows.kept

  many : old.held ≡ machine.held_count s.share
  many = ap (λ (v : RatesView). v.held) shows.kept

  -- ---- users that come and go

  pub taken : (act : Act) (n user slot : ℕ) → act ≡ acts.Take n user slot → courses.Follows old.course after act t →
      new ≡ with_parts old after old.waiting (with_number user old.idle) (old.held + 1) → FollowsAct act
  taken act n user slot is course now = by_act act (acts.Take n user slot) is course (λ its_course told.
      shown_behind (acts.Take n user slot) its_course told old.waiting (with_number user old.idle) (old.held + 1) now waits
      (idle_hold s old.idle old.held who many shows.order user slot told.fresh) (held_hold s old.idle old.held who many shows.order user slot))

  pub grown : (act : Act) (n user slot : ℕ) → act ≡ acts.Grow n user slot → courses.Follows old.course after act t →
      new ≡ with_parts old after old.waiting (with_number user old.idle) (old.held + 1) → FollowsAct act
  grown act n user slot is course now = by_act act (acts.Grow n user slot) is course (λ its_course told.
      shown_behind (acts.Grow n user slot) its_course told old.waiting (with_number user old.idle) (old.held + 1) now waits
      (idle_hold s old.idle old.held who many shows.order user slot told.fresh) (held_hold s old.idle old.held who many shows.order user slot))

  pub released : (act : Act) (n user : ℕ) → act ≡ acts.Release n user → courses.Follows old.course after act t →
      new ≡ with_parts old after old.waiting (without_number user old.idle) (old.held - 1) → FollowsAct act
  released act n user is course now = by_act act (acts.Release n user) is course (λ its_course told.
      shown_behind (acts.Release n user) its_course told old.waiting (without_number user old.idle) (old.held - 1) now waits
      (idle_let_go s old.idle old.held who many shows.order user) (held_let_go s old.idle old.held who many shows.order user told))

  -- ---- arrivals

  -- behind the end of the next open arrival the others are open, whoever is held
  others_wait : (held : List machine.HeldUser) (item : ℕ) → next_item old ≡ Some item →
      let share : machine.Share = record s.share { held = held } in
      drop 1 old.waiting ≡ map kept_pair (open_arrivals (record s { share = end_item s.part item share }))
  others_wait held item next =
      let share : machine.Share = record s.share { held = held } in
      ap (λ (waiting : List (ℕ × ℕ)). drop 1 waiting) waits
      ∙ waiting_ended (record s { share = share }) shows.rates shows.distinct item (ap next_item (sym shows.kept) ∙ next)

  pub dropped : (act : Act) (n item : ℕ) → act ≡ acts.Drop n item → courses.Follows old.course after act t → next_item old ≡ Some item →
      new ≡ with_parts old after (drop 1 old.waiting) old.idle old.held → FollowsAct act
  dropped act n item is course next now = by_act act (acts.Drop n item) is course (λ its_course told.
      shown_behind (acts.Drop n item) its_course told (drop 1 old.waiting) old.idle old.held now (others_wait s.share.held item next)
      (who ∙ idle_end s.part item s.share) (many ∙ held_end s.part item s.share))

  pub counted_late : (act : Act) (n item : ℕ) → act ≡ acts.Late n item → courses.Follows old.course after act t → next_item old ≡ Some item →
      new ≡ with_parts old after (drop 1 old.waiting) old.idle old.held → FollowsAct act
  counted_late act n item is course next now = by_act act (acts.Late n item) is course (λ its_course told.
      shown_behind (acts.Late n item) its_course told (drop 1 old.waiting) old.idle old.held now (others_wait s.share.held item next)
      (who ∙ idle_end s.part item s.share) (many ∙ held_end s.part item s.share))

  pub started : (act : Act) (n user item until : ℕ) → act ≡ acts.Start n user item until → courses.Follows old.course after act t → next_item old ≡ Some item →
      new ≡ with_parts old after (drop 1 old.waiting) (without_number user old.idle) old.held → FollowsAct act
  started act n user item until is course next now = by_act act (acts.Start n user item until) is course (λ its_course told.
      let busy : machine.Condition = machine.Busy thread item until in
      let put = put_condition user busy s.share in
      shown_behind (acts.Start n user item until) its_course told (drop 1 old.waiting) (without_number user old.idle) old.held now
      (others_wait put.held item next)
      (idle_start s old.idle old.held who many shows.order user thread item until ∙ idle_end s.part item put)
      (held_put s old.idle old.held who many shows.order user busy ∙ held_end s.part item put))

  pub returned : (act : Act) (n user item : ℕ) (outcome : Outcome) (tally : TallyView) → act ≡ acts.Return n user item outcome tally →
      courses.Follows old.course after act t → new ≡ with_parts old after old.waiting (with_number user old.idle) old.held → FollowsAct act
  returned act n user item outcome tally is course now = by_act act (acts.Return n user item outcome tally) is course (λ its_course told.
      shown_behind (acts.Return n user item outcome tally) its_course told old.waiting (with_number user old.idle) old.held now waits
      (idle_return s old.idle old.held who many shows.order user item told) (held_put s old.idle old.held who many shows.order user machine.Idle))
