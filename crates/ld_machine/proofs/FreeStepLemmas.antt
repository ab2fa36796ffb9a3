-- Who is free behind a step.
use Rattle.std.proofs.Common.{Contains, ◌≡◌, ◌≢◌, ◌↔◌, ◌⊎◌, inl, inr, ◌==◌, ◌||◌, ◌∙◌, ℕ, zero, suc, Bool, true, false, List, [], ◌∷◌, Option, None, Some, refl, sym, ap, subst, slice_get}
use Rattle.std.specs.List.{list_any}
use Rattle.ld_base.specs.declared.act.Act.TheVariants.{Take, Grow}
use Rattle.ld_base.specs.declared.reply.Reply.{Reply}
use Rattle.ld_machine.specs.Plan.{Plan}
use Rattle.ld_machine.specs.State.{HeldUser, Share, State, is_idle, is_held, free_users}
use Rattle.ld_machine.specs.Moves.{CountLate, StartOn, GrowAndStart, TakeAndStart, DropArrival, Move, StopScenario, ReleaseUser, TakeUser, AnswerArrival, StartIteration, DropIteration, CloseScenario}
use Rattle.ld_machine.specs.Acts.{acts_of}
use Rattle.ld_machine.specs.Effect.{count_entry, after_act}
use Rattle.ld_machine.specs.Step.{performed}
use Rattle.ld_machine.specs.Together.{IsActOf, HoldsOnce, holds, WellHeld, free_user_of, released_user_of}
use Rattle.ld_machine.proofs.ListLemmas.{any-from_In, number_itself, some_not_none}
use Rattle.ld_machine.proofs.FirstOfAllLemmas.{In-of}
use Rattle.ld_machine.proofs.FreeLemmas.{take_free, grow_free, release_free, start_free, end_free, stop_free, close_free}
use Rattle.ld_machine.proofs.BusyStepLemmas.{idle_of_act, grown_of_act, share_at}

-- who is held once is held, by the share and so by some share
pub once_holds : (passes : HeldUser → Bool) (share : Share) (user : ℕ) → HoldsOnce passes share user → holds user share ≡ true
once_holds passes share user h =
    let holder = h.1.0 in
    let same_user : holder.user ≡ user = h.1.2 in
    any-from_In (λ (g : HeldUser). g.user == user) holder (In-of h.1.1) (subst (λ u. (holder.user == u) ≡ true) same_user (number_itself holder.user))

share_any : (p : Share → Bool) (n : ℕ) (share : Share) (shares : List Share) → slice_get shares n ≡ Some share → p share ≡ true → list_any p shares ≡ true
share_any p n share [] at h = absurd (cc)
share_any p zero share (x ∷ rest) at h = let same : x ≡ share = cc in let now : p x ≡ true = subst (λ s. p s ≡ true) (sym same) h in rw now refl
share_any p (suc n) share (x ∷ rest) at h = ap (λ b. p x || b) (share_any p n share rest at h) ∙ or_true (p x)
  where
    or_true : (a : Bool) → (a || true) ≡ true
    or_true true = refl
    or_true false = refl

pub share_held : (state : State) (n user : ℕ) (share : Share) → slice_get state.shares n ≡ Some share → holds user share ≡ true → is_held state user ≡ true
share_held state n user share at h = share_any (holds user) n share state.shares at h

-- the same are free
unchanged : (after before : List ℕ) (other : ℕ) → after ≡ before → Contains after other ↔ ((Contains before other × (◌≢◌ {A = Option ℕ} None (Some other))) ⊎ (◌≡◌ {A = Option ℕ} None (Some other)))
unchanged after before other same = (
  λ h. inl (subst (λ us. Contains us other) same h, λ e. some_not_none (sym e)),
  λ h. elim h [
    | inl free ↦ subst (λ us. Contains us other) (sym same) free.0
    | inr e ↦ absurd (some_not_none (sym e))
  ],
)

is_some_of : (a b : ℕ) → Some a ≡ Some b → b ≡ a
is_some_of a b h = let same : a ≡ b = cc in sym same

module _ (plan : Plan) (state : State) (thread t : ℕ) (reply : Reply) (well : WellHeld state) where
  -- all but the user are free
  taken : (n k user slot other : ℕ) (m : Move) (act : IsActOf plan state t n m) (at : slice_get state.shares k ≡ Some act.0.share) →
      Contains (free_users (after_act plan state thread t (Take k user slot))) other
      ↔ ((Contains (free_users state) other × (Some user ≢ Some other)) ⊎ (◌≡◌ {A = Option ℕ} None (Some other)))
  taken n k user slot other m act at =
      let told = take_free plan state thread t k user slot other act.0.share at in (
        λ h. let free = told.0 h in inl (free.0, λ e. free.1 (is_some_of user other e)),
        λ h. elim h [
          | inl free ↦ told.1 (free.0, λ e. free.1 (ap Some (sym e)))
          | inr e ↦ absurd (some_not_none (sym e))
        ],
      )

  pub free_behind_act : (n : ℕ) (m : Move) (other : ℕ) → IsActOf plan state t n m →
      Contains (free_users (performed plan state thread t reply (acts_of m)).state) other
      ↔ ((Contains (free_users state) other × (free_user_of m ≢ Some other)) ⊎ (released_user_of m ≡ Some other))
  free_behind_act n (StopScenario k) other act = unchanged _ (free_users state) other (stop_free plan state thread t k)
  free_behind_act n (ReleaseUser k user) other act =
      let at = share_at plan state thread t reply well n (ReleaseUser k user) act in
      let once = idle_of_act plan state t n (ReleaseUser k user) act user well refl in
      let held = once_holds is_idle act.0.share user once in
      let made = (well user).1 (share_held state k user act.0.share at held) in
      let told = release_free plan state thread t k user other act.0.share at held (well user).0 made.0 made.1 in (
        λ h. elim (told.0 h) [ inl free ↦ inl (free, λ e. some_not_none (sym e)) | inr same ↦ inr (ap Some (sym same)) ],
        λ h. elim h [ inl free ↦ told.1 (inl free.0) | inr e ↦ told.1 (inr (is_some_of user other e)) ],
      )
  free_behind_act n (TakeUser k user slot) other act =
      taken n k user slot other (TakeUser k user slot) act (share_at plan state thread t reply well n (TakeUser k user slot) act)
  free_behind_act n (StartIteration k user item until) other act = unchanged _ (free_users state) other (start_free plan state thread t k user item until)
  free_behind_act n (DropIteration k item) other act = unchanged _ (free_users state) other (end_free plan state thread t k item)
  free_behind_act n (CloseScenario k) other act = unchanged _ (free_users state) other (close_free plan state thread t k)
  free_behind_act n (AnswerArrival k due item until CountLate) other act = unchanged _ (free_users state) other (end_free plan state thread t k item)
  free_behind_act n (AnswerArrival k due item until DropArrival) other act = unchanged _ (free_users state) other (end_free plan state thread t k item)
  free_behind_act n (AnswerArrival k due item until (StartOn user)) other act = unchanged _ (free_users state) other (start_free plan state thread t k user item until)
  free_behind_act n (AnswerArrival k due item until (GrowAndStart user slot)) other act =
      let m : Move = AnswerArrival k due item until (GrowAndStart user slot) in
      unchanged _ (free_users state) other
      (start_free plan (count_entry (after_act plan state thread t (Grow k user slot))) thread t k user item until
      ∙ grow_free plan state thread t k user slot act.0.share (share_at plan state thread t reply well n m act) (grown_of_act plan state t n m act user refl))
  free_behind_act n (AnswerArrival k due item until (TakeAndStart user slot)) other act =
      let m : Move = AnswerArrival k due item until (TakeAndStart user slot) in
      let told = taken n k user slot other m act (share_at plan state thread t reply well n m act) in
      let same = start_free plan (count_entry (after_act plan state thread t (Take k user slot))) thread t k user item until in
      (λ h. told.0 (subst (λ us. Contains us other) same h), λ h. subst (λ us. Contains us other) (sym same) (told.1 h))
