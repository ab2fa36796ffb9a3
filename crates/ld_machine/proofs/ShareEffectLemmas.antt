-- What an act does to the shares of a state.
use Rattle.std.proofs.Common.{true, ◌≡◌, ◌≢◌, ℕ, zero, suc, List, [], ◌∷◌, Option, None, Some, refl, ap, ◌∙◌, slice_get}
use Rattle.std.specs.Prelude.{option_map}
use Rattle.std.specs.Option.{option_map_or}
use Rattle.std.proofs.lemmas.Option.{slice_get-map}
use Rattle.ld_base.specs.declared.act.Act.{Act}
use Rattle.ld_base.specs.declared.act.Act.TheVariants.{Take, Grow, Start, Drop, Late, Return, Release, Stop, Close, Control}
use Rattle.ld_base.specs.declared.command.Command.{Command}
use Rattle.ld_base.specs.declared.command.Command.TheVariants as commands
use Rattle.ld_machine.specs.Plan.{Part, Plan}
use Rattle.ld_machine.specs.State.{Halted, Idle, Busy, Share, State}
use Rattle.ld_machine.specs.Commands.{stop_commanded_share}
use Rattle.ld_machine.specs.Effect.{hold, put_condition, let_go, end_item, end_item_of, change_at, change_share, after_act}
use Rattle.ld_machine.specs.ShareEffect.{scenario_of_act, share_after}

-- a change of one share: that one, and the others
get_changed : (n : ℕ) (change : Share → Share) (shares : List Share) → slice_get (change_at n change shares) n ≡ option_map change (slice_get shares n)
get_changed n change [] = refl
get_changed zero change (share ∷ rest) = refl
get_changed (suc n) change (share ∷ rest) = get_changed n change rest

get_other : (n m : ℕ) (change : Share → Share) (shares : List Share) → m ≢ n → slice_get (change_at n change shares) m ≡ slice_get shares m
get_other n m change [] other = refl
get_other zero zero change (share ∷ rest) other = absurd (other refl)
get_other zero (suc m) change (share ∷ rest) other = refl
get_other (suc n) zero change (share ∷ rest) other = refl
get_other (suc n) (suc m) change (share ∷ rest) other = get_other n m change rest (λ e. other (ap suc e))

changed_to : (n : ℕ) (change : Share → Share) (shares : List Share) (share : Share) → slice_get shares n ≡ Some share →
    slice_get (change_at n change shares) n ≡ Some (change share)
changed_to n change shares share at = get_changed n change shares ∙ ap (option_map change) at

module _ (plan : Plan) where
  ended_to : (n item : ℕ) (state : State) (part : Part) (share : Share) → slice_get plan.parts n ≡ Some part → slice_get state.shares n ≡ Some share →
      slice_get (end_item_of plan n item state).shares n ≡ Some (end_item part item share)
  ended_to n item state part share stands at = rw stands (changed_to n (end_item part item) state.shares share at)

  ended_other : (n m item : ℕ) (state : State) → m ≢ n → slice_get (end_item_of plan n item state).shares m ≡ slice_get state.shares m
  ended_other n m item state other =
      let P : Option Part → Type 0 = λ o. slice_get (option_map_or (λ part. change_share state n (end_item part item)) o state).shares m ≡ slice_get state.shares m in
      elim (slice_get plan.parts n) as P [ None ↦ refl | Some part ↦ get_other n m (end_item part item) state.shares other ]

  pub own_share : (state : State) (thread t : ℕ) (act : Act) (n : ℕ) (part : Part) (share : Share) →
      scenario_of_act act ≡ Some n → slice_get plan.parts n ≡ Some part → slice_get state.shares n ≡ Some share →
      slice_get (after_act plan state thread t act).shares n ≡ Some (share_after part thread t act share)
  own_share state thread t (Take k user slot) n part share of stands at =
      let same : k ≡ n = cc in rw same (changed_to n (hold user slot) state.shares share at)
  own_share state thread t (Grow k user slot) n part share of stands at =
      let same : k ≡ n = cc in rw same (changed_to n (hold user slot) state.shares share at)
  own_share state thread t (Start k user item until) n part share of stands at =
      let same : k ≡ n = cc in
      let busy = changed_to n (put_condition user (Busy thread item until)) state.shares share at in
      rw same (ended_to n item (change_share state n (put_condition user (Busy thread item until))) part (put_condition user (Busy thread item until) share) stands busy)
  own_share state thread t (Drop k item) n part share of stands at =
      let same : k ≡ n = cc in rw same (ended_to n item state part share stands at)
  own_share state thread t (Late k item) n part share of stands at =
      let same : k ≡ n = cc in rw same (ended_to n item state part share stands at)
  own_share state thread t (Return k user item outcome tally) n part share of stands at =
      let same : k ≡ n = cc in rw same (changed_to n (put_condition user Idle) state.shares share at)
  own_share state thread t (Release k user) n part share of stands at =
      let same : k ≡ n = cc in rw same (changed_to n (let_go user) state.shares share at)
  own_share state thread t (Stop k) n part share of stands at =
      let same : k ≡ n = cc in rw same (changed_to n (λ (x : Share). record x { level = Halted }) state.shares share at)
  own_share state thread t (Close k) n part share of stands at =
      let same : k ≡ n = cc in rw same (changed_to n (λ (x : Share). record x { closed = true }) state.shares share at)
  own_share state thread t (Control command) n part share of stands at = absurd (cc)

  pub other_share : (state : State) (thread t : ℕ) (act : Act) (n m : ℕ) → scenario_of_act act ≡ Some n → m ≢ n →
      slice_get (after_act plan state thread t act).shares m ≡ slice_get state.shares m
  other_share state thread t (Take k user slot) n m of other =
      let same : k ≡ n = cc in rw same (get_other n m (hold user slot) state.shares other)
  other_share state thread t (Grow k user slot) n m of other =
      let same : k ≡ n = cc in rw same (get_other n m (hold user slot) state.shares other)
  other_share state thread t (Start k user item until) n m of other =
      let same : k ≡ n = cc in
      rw same
      (ended_other n m item (change_share state n (put_condition user (Busy thread item until))) other
      ∙ get_other n m (put_condition user (Busy thread item until)) state.shares other)
  other_share state thread t (Drop k item) n m of other =
      let same : k ≡ n = cc in rw same (ended_other n m item state other)
  other_share state thread t (Late k item) n m of other =
      let same : k ≡ n = cc in rw same (ended_other n m item state other)
  other_share state thread t (Return k user item outcome tally) n m of other =
      let same : k ≡ n = cc in rw same (get_other n m (put_condition user Idle) state.shares other)
  other_share state thread t (Release k user) n m of other =
      let same : k ≡ n = cc in rw same (get_other n m (let_go user) state.shares other)
  other_share state thread t (Stop k) n m of other =
      let same : k ≡ n = cc in rw same (get_other n m (λ (x : Share). record x { level = Halted }) state.shares other)
  other_share state thread t (Close k) n m of other =
      let same : k ≡ n = cc in rw same (get_other n m (λ (x : Share). record x { closed = true }) state.shares other)
  other_share state thread t (Control command) n m of other = absurd (cc)

  pub commanded_share : (state : State) (thread t : ℕ) (command : Command) (n : ℕ) (part : Part) (share : Share) →
      slice_get state.shares n ≡ Some share →
      slice_get (after_act plan state thread t (Control command)).shares n ≡ Some (share_after part thread t (Control command) share)
  commanded_share state thread t commands.Stop n part share at =
      slice_get-map (stop_commanded_share t) state.shares n ∙ ap (option_map (stop_commanded_share t)) at
  commanded_share state thread t (commands.Pause b) n part share at = at
  commanded_share state thread t (commands.Vus k) n part share at = at
  commanded_share state thread t (commands.VusMax k) n part share at = at
