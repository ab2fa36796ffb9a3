-- Which stints are out, by what the pool says.
use Rattle.std.proofs.Common.{◌≡◌, ◌==◌, ◌&&◌, ℕ, Bool, true, false, Option, None, Some, slice_get, arith, refl, ap, sym, subst, ◌∙◌}
use Rattle.std.specs.List.{list_any}
use Rattle.std.specs.Option.{option_and_then, option_map_or}
use Rattle.ld_base.specs.Stint.{StintView}
use Rattle.ld_machine.specs.Holders.{holder_of}
use Rattle.ld_machine.specs.State.{Condition, Idle, Busy, HeldUser, Share}
use Rattle.ld_machine.specs.Step.{is_busy_with, is_out}
use Rattle.ld_machine.proofs.BusyLemmas.{same_number}
use Rattle.ld_machine.proofs.FirstOfAllLemmas.{In-of}
use Rattle.ld_machine.proofs.ListLemmas.{any-from_In, both_true, number_itself}
use Rattle.ld_machine.proofs.WhoHoldsLemmas.{holder_in_share}
use Rattle.ld_pool.specs.Users as pools
use Rattle.ld_pool.specs.declared.busy.Busy as playing
use Rattle.ld_pool.specs.declared.user.User.{User}
use Rattle.ld_pool.specs.declared.user.User.TheVariants as users
use Rattle.ld_pool.proofs.UserLemmas.{user_at_place}
use Rattle.ld_core.specs.Core.{IsCore, core_view}
use Rattle.ld_core.specs.CoreView.{CoreView, state_of}
use Rattle.ld_core.specs.Shows.{condition_user, user_held, user_of}
use Rattle.ld_core.specs.declared.machine.Core.TheInside.{Inside}
use Rattle.ld_core.proofs.CoreLemmas.{out_found, state_behind}
use Rattle.ld_core.proofs.ShownLemmas.{user_found, user_said, users_long}

-- what a user plays, if anything, is the play of this stint
abbrev pub plays_this : ℕ → StintView → Option playing.Busy → Bool
plays_this thread stint None = false
plays_this thread stint (Some busy) = pools.plays busy thread stint

both_ways : (a b : Bool) → (a ≡ true → b ≡ true) → (b ≡ true → a ≡ true) → a ≡ b
both_ways true b to from = sym (to refl)
both_ways false true to from = from refl
both_ways false false to from = refl

-- a user that plays is a busy one
found_busy : (o : Option User) (busy : playing.Busy) → option_and_then pools.busy_of o ≡ Some busy → o ≡ Some (users.Busy busy)
found_busy None busy e = absurd (cc)
found_busy (Some users.Free) busy e = absurd (cc)
found_busy (Some (users.Idle scenario)) busy e = absurd (cc)
found_busy (Some (users.Busy other)) busy e = cc

-- and its holder holds it so
record Plays (o : Option (ℕ × HeldUser)) (busy : playing.Busy) : Type 0 where
  h : HeldUser
  holder : o ≡ Some (busy.scenario, h)
  is : h.condition ≡ Busy busy.thread busy.item busy.until

condition_is : (n : ℕ) (condition : Condition) (busy : playing.Busy) → condition_user n condition ≡ users.Busy busy → (n ≡ busy.scenario) × (condition ≡ Busy busy.thread busy.item busy.until)
condition_is n Idle busy e = absurd (cc)
condition_is n (Busy thread item until) busy e =
    let same : record { thread = thread; scenario = n; item = item; until = until } ≡ busy = cc in
    (ap (λ (b : playing.Busy). b.scenario) same, ap (λ (b : playing.Busy). Busy b.thread b.item b.until) same)

holder_plays : (o : Option (ℕ × HeldUser)) (busy : playing.Busy) → user_held o ≡ users.Busy busy → Plays o busy
holder_plays None busy e = absurd (cc)
holder_plays (Some p) busy e =
    let is = condition_is p.0 p.1.condition busy e in
    record { h = p.1; holder = ap (λ (n : ℕ). Some (n, p.1)) is.0; is = is.1 }

module _ (c : Inside) (is : IsCore c) (thread : ℕ) (stint : StintView) where
  out_plays : is_out (state_behind c) thread stint ≡ true → plays_this thread stint (option_and_then pools.busy_of (pools.user_at c.pool.users stint.user)) ≡ true
  out_plays out =
      let found = user_found is.shows stint.scenario stint.user (Busy thread stint.item stint.until) (out_found c is thread stint out) in
      ap (λ (o : Option User). plays_this thread stint (option_and_then pools.busy_of o)) found
      ∙ rw (number_itself thread, number_itself stint.scenario, number_itself stint.item, number_itself stint.until) refl

  plays_out : (busy : playing.Busy) → option_and_then pools.busy_of (pools.user_at c.pool.users stint.user) ≡ Some busy → pools.plays busy thread stint ≡ true →
      is_out (state_behind c) thread stint ≡ true
  plays_out busy found plays =
      let first = both_true ((busy.thread == thread) && (busy.scenario == stint.scenario) && (busy.item == stint.item)) (busy.until == stint.until) plays in
      let second = both_true ((busy.thread == thread) && (busy.scenario == stint.scenario)) (busy.item == stint.item) first.0 in
      let third = both_true (busy.thread == thread) (busy.scenario == stint.scenario) second.0 in
      let at = found_busy (pools.user_at c.pool.users stint.user) busy found in
      let place = user_at_place c.pool.users stint.user (users.Busy busy) at in
      let long = users_long is.shows in
      let said = user_said is.shows stint.user (omega arith) (omega (arith, place.1, long)) in
      let user : user_of (state_behind c) stint.user ≡ users.Busy busy = some_same (sym said ∙ at) in
      let p = holder_plays (holder_of (state_behind c) stint.user) busy user in
      let held = (holder_in_share (state_behind c) stint.user busy.scenario p.h is.shows.well).0 p.holder in
      let numbers : (busy.thread ≡ thread) × (busy.item ≡ stint.item) × (busy.until ≡ stint.until) =
      (same_number busy.thread thread third.0, same_number busy.item stint.item second.1, same_number busy.until stint.until first.1) in
      let condition : p.h.condition ≡ Busy thread stint.item stint.until = p.is ∙ rw (numbers.0, numbers.1, numbers.2) refl in
      let passes : ((p.h.user == stint.user) && is_busy_with p.h.condition thread stint.item stint.until) ≡ true =
      rw (held.3, condition, number_itself stint.user, number_itself thread, number_itself stint.item, number_itself stint.until) refl in
      let stands : slice_get (state_behind c).shares stint.scenario ≡ Some held.0 =
      subst (λ (n : ℕ). slice_get (state_behind c).shares n ≡ Some held.0) (same_number busy.scenario stint.scenario third.1) held.1 in
      ap (λ (o : Option Share). option_map_or (λ (share : Share). list_any (λ (h : HeldUser). (h.user == stint.user) && is_busy_with h.condition thread stint.item stint.until) share.held) o false) stands
      ∙ any-from_In (λ (h : HeldUser). (h.user == stint.user) && is_busy_with h.condition thread stint.item stint.until) p.h (In-of held.2) passes
    where
      some_same : {A : Type 0} {x y : A} → Some x ≡ Some y → x ≡ y
      some_same e = cc

  found_out : (o : Option playing.Busy) → option_and_then pools.busy_of (pools.user_at c.pool.users stint.user) ≡ o → plays_this thread stint o ≡ true → is_out (state_behind c) thread stint ≡ true
  found_out None found plays = absurd (cc)
  found_out (Some busy) found plays = plays_out busy found plays

  pub out_inside : plays_this thread stint (option_and_then pools.busy_of (pools.user_at c.pool.users stint.user)) ≡ is_out (state_behind c) thread stint
  out_inside = both_ways _ _ (found_out _ refl) out_plays

-- what the pool finds of the stint's user tells whether it is out
pub out_shown : (c : Inside) → IsCore c → (now : CoreView) → core_view c ≡ now → (thread : ℕ) (stint : StintView) (found : Option playing.Busy) →
    found ≡ option_and_then pools.busy_of (pools.user_at c.pool.users stint.user) → plays_this thread stint found ≡ is_out (state_of now) thread stint
out_shown c is now view thread stint found shown =
    ap (plays_this thread stint) shown ∙ out_inside c is thread stint ∙ ap (λ (v : CoreView). is_out (state_of v) thread stint) view
