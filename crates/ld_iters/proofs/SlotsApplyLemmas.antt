-- What an act leaves to start is what is left of the scenario behind it.
use Rattle.std.proofs.Common.{◌≡◌, ◌∙◌, if◌then◌else◌, ℕ, Bool, true, false, cond, not, List, Some, filter, slice_get, refl, sym, ap, subst, inl, inr}
use Rattle.std.proofs.lemmas.Bool.{cases_eq}
use Rattle.std.proofs.lemmas.List.Elements.{filter_agree}
use Rattle.ld_base.specs.declared.act.Act.{Act}
use Rattle.ld_base.specs.declared.act.Act.TheVariants as acts
use Rattle.ld_base.specs.declared.command.Command.{Command}
use Rattle.ld_base.specs.declared.command.Command.TheVariants as commands
use Rattle.ld_machine.specs.Commands.{stop_commanded_share}
use Rattle.ld_machine.specs.Effect.{end_item, put_condition}
use Rattle.ld_machine.specs.Plan.{owned_slots}
use Rattle.ld_machine.specs.Scenario.{Scenario, least_open_item}
use Rattle.ld_machine.specs.ShareEffect.{share_after}
use Rattle.ld_machine.specs.State as machine
use Rattle.ld_machine.specs.Told.{IsStarter, MayBeTold, executor_next_item}
use Rattle.ld_machine.proofs.FirstOfAllLemmas.{In-of}
use Rattle.ld_machine.proofs.ListLemmas.{In, In-filter, Contains-from_In}
use Rattle.ld_set.specs.SetView.{without_number}
use Rattle.ld_seats.proofs.NumbersLemmas.{kept_less, kept_same}
use Rattle.ld_iters.specs.SlotsChanges.{HasPassed}
use Rattle.ld_iters.specs.SlotsShows.{IsLeft, Shows, SlotsView, executor_goes_on}
use Rattle.ld_iters.proofs.WorkLemmas.{end_is, ended_with, goes_same, least_next, next_goes_on, passed, work_same}

-- the same is left where the same items have ended
left_same : (v : SlotsView) (s : Scenario) (share : machine.Share) → share.ended ≡ s.share.ended → IsLeft v s → IsLeft v (record s { share = share })
left_same v s share same left =
    let after : Scenario = record s { share = share } in
    record {
      work = work_same s.part.executor s after v.work same left.work;
      going = left.going ∙ filter_agree _ _ (λ k. sym (goes_same s.part.executor s after same k)) (owned_slots s.part.executor);
    }

-- a stop that is commanded ends no item
stop_ends_none : (t : ℕ) (share : machine.Share) → (stop_commanded_share t share).ended ≡ share.ended
stop_ends_none t share =
    let P : Bool → Type 0 = λ b. (cond b share (record share { level = machine.StartsNothing t })).ended ≡ share.ended in
    elim share.closed as P [ true ↦ refl | false ↦ refl ]

module _ (v : SlotsView) (s : Scenario) (shows : Shows v s) where
  -- only what is left changes, to what is left of the scenario with this share
  abbrev pub Leaves : SlotsView → machine.Share → Type 0
  Leaves new share = (new ≡ record v { work = new.work; going = new.going }) × IsLeft new (record s { share = share })

  ended_left : (new : SlotsView) (share : machine.Share) (slot item : ℕ) → In slot (owned_slots s.part.executor) →
      executor_next_item s.part.executor s slot ≡ Some item → share.ended ≡ ended_with s.part.executor item s.share.ended → HasPassed slot v new →
      Leaves new share
  ended_left new share slot item at next ended pass =
      let after : Scenario = record s { share = share } in
      let e = s.part.executor in
      let owned = owned_slots e in
      let by = passed e s after v.work new.work slot item pass.last shows.seating.rising at shows.left.work next pass.work ended in
      let P : Bool → Type 0 = λ b. executor_goes_on e after slot ≡ not b →
      (if b then without_number slot (filter (executor_goes_on e s) owned) else filter (executor_goes_on e s) owned) ≡ filter (executor_goes_on e after) owned in
      let still : P pass.last = elim pass.last as P [
        | true ↦ λ own. kept_less (executor_goes_on e s) (executor_goes_on e after) slot owned own by.others
        | false ↦ λ own. kept_same (executor_goes_on e s) (executor_goes_on e after) owned (λ k there_is. elim (cases_eq k slot) [
          | inl same ↦
              subst (λ j. executor_goes_on e after j ≡ executor_goes_on e s j) (sym same) (own ∙ sym (next_goes_on e s v.work slot item shows.left.work next))
          | inr other ↦ by.others k there_is other
        ])
      ] in
      let going : new.going ≡ (if pass.last then without_number slot v.going else v.going) = ap (λ (w : SlotsView). w.going) pass.going in (
        subst (λ (k : List ℕ). new ≡ record v { work = new.work; going = k }) (sym going) pass.going,
        record {
          work = by.work;
          going = going ∙ ap (λ (k : List ℕ). if pass.last then without_number slot k else k) shows.left.going ∙ still by.own;
        },
      )

  -- what ends where an item ends
  item_ends : (item : ℕ) (share : machine.Share) → (end_item s.part item share).ended ≡ ended_with s.part.executor item share.ended
  item_ends item share = ap (λ (x : machine.Share). x.ended) (end_is s.part item share)

  start_left : (new : SlotsView) (user thread item until : ℕ) →
      ((slot : ℕ) → slice_get v.seating.seats.slot_of user ≡ Some slot → HasPassed slot v new) → IsStarter s user item →
      Leaves new (end_item s.part item (put_condition user (machine.Busy thread item until) s.share))
  start_left new user thread item until how starter =
      let h = starter.0 in
      let at = (In-filter machine.is_idle h s.share.held (In-of starter.1)).0 in
      let its = shows.seating.seats h (Contains-from_In h at) in
      let own : slice_get v.seating.seats.slot_of user ≡ Some h.slot = ap (slice_get v.seating.seats.slot_of) (sym starter.2) ∙ its.seat.slot_is in
      let put = put_condition user (machine.Busy thread item until) s.share in
      ended_left new (end_item s.part item put) h.slot item (In-of its.owned) starter.3 (item_ends item put) (how h.slot own)

  drop_left : (new : SlotsView) (item : ℕ) → ((slot : ℕ) → slice_get v.going 0 ≡ Some slot → HasPassed slot v new) → least_open_item s ≡ Some item →
      Leaves new (end_item s.part item s.share)
  drop_left new item how least =
      let first = least_next s.part.executor s v.work item shows.seating.rising shows.left.work least in
      let pass = how first.0 (ap (λ (k : List ℕ). slice_get k 0) shows.left.going ∙ first.1) in
      ended_left new (end_item s.part item s.share) first.0 item first.2 first.3 (item_ends item s.share) pass

  kept_left : (share : machine.Share) → share.ended ≡ s.share.ended → Leaves v share
  kept_left share same = (refl, left_same v s share same shows.left)

  -- ---- one act

  -- where the scenario may be told of the act, the new state has what is left behind it
  abbrev pub EndsItemOf : SlotsView → ℕ → ℕ → Act → Type 0
  EndsItemOf new thread t act = MayBeTold s act → Leaves new (share_after s.part thread t act s.share)

  by_act : (new : SlotsView) (thread t : ℕ) (act one : Act) → act ≡ one → EndsItemOf new thread t one → EndsItemOf new thread t act
  by_act new thread t act one is ends = subst (EndsItemOf new thread t) (sym is) ends

  pub started : (new : SlotsView) (thread t : ℕ) (act : Act) (n user item until : ℕ) → act ≡ acts.Start n user item until →
      ((slot : ℕ) → slice_get v.seating.seats.slot_of user ≡ Some slot → HasPassed slot v new) → EndsItemOf new thread t act
  started new thread t act n user item until is how =
      by_act new thread t act (acts.Start n user item until) is (λ told. start_left new user thread item until how told)

  pub dropped : (new : SlotsView) (thread t : ℕ) (act : Act) (n item : ℕ) → act ≡ acts.Drop n item →
      ((slot : ℕ) → slice_get v.going 0 ≡ Some slot → HasPassed slot v new) → EndsItemOf new thread t act
  dropped new thread t act n item is how = by_act new thread t act (acts.Drop n item) is (λ told. drop_left new item how told)

  pub counted_late : (new : SlotsView) (thread t : ℕ) (act : Act) (n item : ℕ) → act ≡ acts.Late n item →
      ((slot : ℕ) → slice_get v.going 0 ≡ Some slot → HasPassed slot v new) → EndsItemOf new thread t act
  counted_late new thread t act n item is how = by_act new thread t act (acts.Late n item) is (λ told. drop_left new item how told)

  -- an act that ends no item
  pub ends_none : (thread t : ℕ) (act one : Act) → act ≡ one → (share_after s.part thread t one s.share).ended ≡ s.share.ended → EndsItemOf v thread t act
  ends_none thread t act one is same = by_act v thread t act one is (λ told. kept_left (share_after s.part thread t one s.share) same)

  pub controlled : (thread t : ℕ) (act : Act) (command : Command) → act ≡ acts.Control command → EndsItemOf v thread t act
  controlled thread t act command is = ends_none thread t act (acts.Control command) is (by command)
    where
      by : (one : Command) → (share_after s.part thread t (acts.Control one) s.share).ended ≡ s.share.ended
      by commands.Stop = stop_ends_none t s.share
      by (commands.Pause paused) = refl
      by (commands.Vus vus) = refl
      by (commands.VusMax most) = refl
