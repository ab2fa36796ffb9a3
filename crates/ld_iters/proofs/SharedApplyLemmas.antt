-- What an act makes of a scenario of shared iterations is what it makes of a state that shows it.
use Rattle.std.proofs.Common.{◌≡◌, ◌≤◌, ◌<◌, ◌+◌, ◌-◌, ◌==◌, ◌∙◌, ℕ, List, IsTrue, Some, slice_get, sym, ap, subst, arith}
use Rattle.std.proofs.lemmas.Bool.{eq-eqb, ltb-true}
use Rattle.ld_base.specs.Tally.{TallyView}
use Rattle.ld_base.specs.declared.act.Act.{Act}
use Rattle.ld_base.specs.declared.act.Act.TheVariants as acts
use Rattle.ld_base.specs.declared.act.Outcome.{Outcome}
use Rattle.ld_course.specs.Course as courses
use Rattle.ld_course.specs.declared.course.Course.{Course}
use Rattle.ld_course.proofs.EndedLemmas.{least_ended}
use Rattle.ld_course.proofs.HeldLemmas.{few_behind, held_end, held_hold, held_let_go, held_put, idle_end, idle_hold, idle_let_go, idle_return, idle_start}
use Rattle.ld_course.proofs.IdleLemmas.{idle_of}
use Rattle.ld_iters.specs.SharedShows.{SharedView, Shows, sharers_of}
use Rattle.ld_iters.proofs.SharedLemmas.{of_shared, held_shown, idle_shown, least_shown, shared_next}
use Rattle.ld_machine.specs.Plan.{Executor}
use Rattle.ld_machine.specs.State.{Busy, Condition, Idle, HeldUser, held_count}
use Rattle.ld_machine.specs.Scenario.{Scenario, least_open_item, open_items}
use Rattle.ld_machine.specs.Effect.{end_item, put_condition}
use Rattle.ld_machine.specs.ShareEffect.{share_after}
use Rattle.ld_machine.specs.Told.{IsNewcomer, MayBeTold, executor_has_place}
use Rattle.ld_machine.proofs.FirstOfAllLemmas.{In-of}
use Rattle.ld_machine.proofs.ListLemmas.{any-from_In}
use Rattle.ld_machine.proofs.ToldLemmas.{told_in_order}
use Rattle.ld_set.specs.SetView.{with_number, without_number}

-- a state with another course, and with these open items, idle users and number of users
abbrev with_parts : SharedView → Course → List ℕ → List ℕ → ℕ → SharedView
with_parts v course left idle held = record v { course = course; left = left; idle = idle; held = held }

module _ (old new : SharedView) (after : Course) (t : ℕ) (s : Scenario) (thread : ℕ) (shows : Shows old s) where
  -- the scenario behind an act
  abbrev behind : Act → Scenario
  behind act = record s { share = share_after s.part thread t act s.share }

  -- the new state shows the scenario behind an act that this may be told of, where its course follows the act, and its other
  -- parts are those of the scenario behind it
  shown_behind : (act : Act) → courses.Follows old.course after act t → MayBeTold s act → (left idle : List ℕ) (held : ℕ) →
      new ≡ with_parts old after left idle held → left ≡ open_items (behind act) → idle ≡ idle_of (behind act).share → held ≡ held_count (behind act).share →
      Shows new (behind act)
  shown_behind act course told left idle held now open_is idle_is held_is =
      let its_course = course s thread (ap (λ (v : SharedView). v.course) shows.kept) in
      let users : old.users ≡ sharers_of s.part.executor = ap (λ (v : SharedView). v.users) shows.kept in
      record {
        kept = now ∙ (λ i. record { course = its_course i; users = users i; left = open_is i; idle = idle_is i; held = held_is i });
        shared = shows.shared;
        items = shows.items;
        order = told_in_order s thread t act shows.order told;
        few = few_behind s thread t act shows.few told;
      }

  -- that it shows the scenario behind an act that is this one
  abbrev FollowsAct : Act → Type 0
  FollowsAct act = MayBeTold s act → Shows new (behind act)

  by_act : (act one : Act) → act ≡ one → courses.Follows old.course after act t → (courses.Follows old.course after one t → FollowsAct one) → FollowsAct act
  by_act act one is course follows = subst FollowsAct (sym is) (follows (subst (λ (a : Act). courses.Follows old.course after a t) is course))

  left_shown : old.left ≡ open_items s
  left_shown = ap (λ (v : SharedView). v.left) shows.kept

  who : old.idle ≡ idle_of s.share
  who = idle_shown old s shows

  many : old.held ≡ held_count s.share
  many = held_shown old s shows

  -- ---- users that come and go

  -- a user that comes finds a place
  place : (user slot : ℕ) → IsNewcomer s user slot → old.held < old.users
  place user slot comes =
      let P : Executor → Type 0 = λ e. IsTrue (executor_has_place e s slot) → held_count s.share < sharers_of e in
      let below = of_shared P s.part.executor shows.shared (λ users items free. ltb-true (held_count s.share) users free) comes.place in
      let held = held_shown old s shows in
      let users : old.users ≡ sharers_of s.part.executor = ap (λ (v : SharedView). v.users) shows.kept in
      omega arith

  -- one user more is held, where it is one of at most 1,000 and there is a place
  abbrev HoldsMore : ℕ → Type 0
  HoldsMore user = user ≤ 1000 → old.held < old.users → new ≡ with_parts old after old.left (with_number user old.idle) (old.held + 1)

  pub taken : (act : Act) (n user slot : ℕ) → act ≡ acts.Take n user slot → courses.Follows old.course after act t → HoldsMore user → FollowsAct act
  taken act n user slot is course more = by_act act (acts.Take n user slot) is course (λ its_course told.
      shown_behind (acts.Take n user slot) its_course told old.left (with_number user old.idle) (old.held + 1) (more told.few (place user slot told))
      left_shown (idle_hold s old.idle old.held who many shows.order user slot told.fresh) (held_hold s old.idle old.held who many shows.order user slot))

  pub grown : (act : Act) (n user slot : ℕ) → act ≡ acts.Grow n user slot → courses.Follows old.course after act t → HoldsMore user → FollowsAct act
  grown act n user slot is course more = by_act act (acts.Grow n user slot) is course (λ its_course told.
      shown_behind (acts.Grow n user slot) its_course told old.left (with_number user old.idle) (old.held + 1) (more told.few (place user slot told))
      left_shown (idle_hold s old.idle old.held who many shows.order user slot told.fresh) (held_hold s old.idle old.held who many shows.order user slot))

  pub released : (act : Act) (n user : ℕ) → act ≡ acts.Release n user → courses.Follows old.course after act t →
      new ≡ with_parts old after old.left (without_number user old.idle) (old.held - 1) → FollowsAct act
  released act n user is course now = by_act act (acts.Release n user) is course (λ its_course told.
      shown_behind (acts.Release n user) its_course told old.left (without_number user old.idle) (old.held - 1) now
      left_shown
      (idle_let_go s old.idle old.held who many shows.order user) (held_let_go s old.idle old.held who many shows.order user told))

  -- ---- items

  -- the least open item ends, if there is one
  abbrev Passes : List ℕ → Type 0
  Passes idle = (item : ℕ) → slice_get old.left 0 ≡ Some item → new ≡ with_parts old after (without_number item old.left) idle old.held

  others_left : (item : ℕ) → least_open_item s ≡ Some item → without_number item old.left ≡ open_items (record s { share = end_item s.part item s.share })
  others_left item least = ap (without_number item) left_shown ∙ sym (least_ended s item least)

  pub dropped : (act : Act) (n item : ℕ) → act ≡ acts.Drop n item → courses.Follows old.course after act t → Passes old.idle → FollowsAct act
  dropped act n item is course passes = by_act act (acts.Drop n item) is course (λ its_course told.
      shown_behind (acts.Drop n item) its_course told (without_number item old.left) old.idle old.held (passes item (least_shown old s shows ∙ told))
      (others_left item told) (who ∙ idle_end s.part item s.share) (many ∙ held_end s.part item s.share))

  pub counted_late : (act : Act) (n item : ℕ) → act ≡ acts.Late n item → courses.Follows old.course after act t → Passes old.idle → FollowsAct act
  counted_late act n item is course passes = by_act act (acts.Late n item) is course (λ its_course told.
      shown_behind (acts.Late n item) its_course told (without_number item old.left) old.idle old.held (passes item (least_shown old s shows ∙ told))
      (others_left item told) (who ∙ idle_end s.part item s.share) (many ∙ held_end s.part item s.share))

  pub started : (act : Act) (n user item until : ℕ) → act ≡ acts.Start n user item until → courses.Follows old.course after act t →
      Passes (without_number user old.idle) → FollowsAct act
  started act n user item until is course passes = by_act act (acts.Start n user item until) is course (λ its_course told.
      let busy : Condition = Busy thread item until in
      let put = put_condition user busy s.share in
      let least : least_open_item s ≡ Some item = sym (shared_next old s shows told.0.slot) ∙ told.3 in
      shown_behind (acts.Start n user item until) its_course told (without_number item old.left) (without_number user old.idle) old.held
      (passes item (least_shown old s shows ∙ least))
      (ap (without_number item) left_shown ∙ sym (least_ended (record s { share = put }) item least))
      (idle_start s old.idle old.held who many shows.order user thread item until ∙ idle_end s.part item put)
      (held_put s old.idle old.held who many shows.order user busy ∙ held_end s.part item put))

  pub returned : (act : Act) (n user item : ℕ) (outcome : Outcome) (tally : TallyView) → act ≡ acts.Return n user item outcome tally →
      courses.Follows old.course after act t →
      (user ≤ 1000 → new ≡ with_parts old after old.left (with_number user old.idle) old.held) → FollowsAct act
  returned act n user item outcome tally is course rests = by_act act (acts.Return n user item outcome tally) is course (λ its_course told.
      let few = shows.few user (any-from_In (λ (h : HeldUser). h.user == user) told.0 (In-of told.1) (eq-eqb told.0.user user told.2)) in
      shown_behind (acts.Return n user item outcome tally) its_course told old.left (with_number user old.idle) old.held (rests few)
      left_shown
      (idle_return s old.idle old.held who many shows.order user item told) (held_put s old.idle old.held who many shows.order user Idle))
