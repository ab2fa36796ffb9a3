-- Whom a scenario holds, and that their numbers stay at most 1,000.
use Rattle.std.proofs.Common.{◌≡◌, ◌≤◌, ◌==◌, ◌+◌, ◌-◌, ℕ, true, false, List, length, inl, inr, sym, ap, ◌∙◌, subst, arith}
use Rattle.std.proofs.lemmas.List.{length-map}
use Rattle.std.proofs.lemmas.Bool.{cases_eq, eqb-true, true≢false}
use Rattle.ld_base.specs.declared.act.Act.{Act}
use Rattle.ld_base.specs.declared.act.Act.TheVariants as acts
use Rattle.ld_base.specs.declared.command.Command.TheVariants as commands
use Rattle.ld_machine.specs.Plan.{Part}
use Rattle.ld_machine.specs.State as machine
use Rattle.ld_machine.specs.Scenario.{Scenario}
use Rattle.ld_machine.specs.Commands.{stop_commanded_share}
use Rattle.ld_machine.specs.Effect.{hold, if_user, put_condition, let_go, end_item}
use Rattle.ld_machine.specs.ShareEffect.{share_after}
use Rattle.ld_machine.specs.Together.{holds}
use Rattle.ld_machine.specs.Told.{IsIdleOf, IsPlayerOf, IsHeldInOrder, MayBeTold}
use Rattle.ld_machine.proofs.ListLemmas.{In, In-filter, map-In, some_true}
use Rattle.ld_machine.proofs.BusyLemmas.{held_end_item, held_stop}
use Rattle.ld_machine.proofs.FirstOfAllLemmas.{In-of}
use Rattle.ld_machine.proofs.FreeLemmas.{holds_hold, holds_put, holds_let_go, holds_itself, holds_same}
use Rattle.ld_set.specs.SetView.{with_number, without_number}
use Rattle.ld_course.proofs.IdleLemmas.{count_with, count_without, idle_busy, idle_numbers, idle_of, idle_put, idle_with, idle_without, numbers_of}

-- a held user has its number among the held ones
held_number : (s : Scenario) (h : machine.HeldUser) (user : ℕ) → In h s.share.held → h.user ≡ user → In user (numbers_of s.share.held)
held_number s h user at same = subst (λ k. In k (numbers_of s.share.held)) same (map-In (λ (g : machine.HeldUser). g.user) h at)

pub idle_held : (s : Scenario) (user : ℕ) → IsIdleOf s user → In user (numbers_of s.share.held)
idle_held s user idle = held_number s idle.0 user (In-filter machine.is_idle idle.0 s.share.held (In-of idle.1)).0 idle.2

pub player_held : (s : Scenario) (user item : ℕ) → IsPlayerOf s user item → In user (numbers_of s.share.held)
player_held s user item plays = held_number s plays.0 user (In-of plays.1) plays.2

-- ---- whose numbers are few

-- whoever the share holds has a number up to 1,000
abbrev pub AreFew : machine.Share → Type 0
AreFew share = (user : ℕ) → holds user share ≡ true → user ≤ 1000

few_as : (a b : machine.Share) → ((user : ℕ) → holds user b ≡ holds user a) → AreFew a → AreFew b
few_as a b same few user held = few user (sym (same user) ∙ held)

few_hold : (user slot : ℕ) (share : machine.Share) → user ≤ 1000 → AreFew share → AreFew (hold user slot share)
few_hold user slot share most few other held =
    elim (some_true (user == other) (holds other share) (sym (holds_hold user slot other share) ∙ held)) [
      | inl itself ↦ subst (λ k. k ≤ 1000) (eqb-true user other itself) most
      | inr before ↦ few other before
    ]

few_let_go : (user : ℕ) (share : machine.Share) → AreFew share → AreFew (let_go user share)
few_let_go user share few other held =
    elim (cases_eq other user) [
      | inl same ↦ absurd (true≢false (sym held ∙ ap (λ k. holds k (let_go user share)) same ∙ holds_itself user share))
      | inr apart ↦ few other (sym (holds_let_go user other share apart) ∙ held)
    ]

pub few_behind : (s : Scenario) (thread t : ℕ) (act : Act) → AreFew s.share → MayBeTold s act → AreFew (share_after s.part thread t act s.share)
few_behind s thread t (acts.Take n user slot) few told = few_hold user slot s.share told.few few
few_behind s thread t (acts.Grow n user slot) few told = few_hold user slot s.share told.few few
few_behind s thread t (acts.Start n user item until) few told =
    let put = put_condition user (machine.Busy thread item until) s.share in
    few_as s.share (end_item s.part item put) (λ other. holds_same other (end_item s.part item put) put (held_end_item s.part item put)
    ∙ holds_put user other (machine.Busy thread item until) s.share) few
few_behind s thread t (acts.Drop n item) few told =
    few_as s.share (end_item s.part item s.share) (λ other. holds_same other (end_item s.part item s.share) s.share (held_end_item s.part item s.share)) few
few_behind s thread t (acts.Late n item) few told =
    few_as s.share (end_item s.part item s.share) (λ other. holds_same other (end_item s.part item s.share) s.share (held_end_item s.part item s.share)) few
few_behind s thread t (acts.Return n user item outcome tally) few told =
    few_as s.share (put_condition user machine.Idle s.share) (λ other. holds_put user other machine.Idle s.share) few
few_behind s thread t (acts.Release n user) few told = few_let_go user s.share few
few_behind s thread t (acts.Stop n) few told = few
few_behind s thread t (acts.Close n) few told = few
few_behind s thread t (acts.Control commands.Stop) few told =
    few_as s.share (stop_commanded_share t s.share) (λ other. holds_same other (stop_commanded_share t s.share) s.share (held_stop t s.share)) few
few_behind s thread t (acts.Control (commands.Pause b)) few told = few
few_behind s thread t (acts.Control (commands.Vus v)) few told = few
few_behind s thread t (acts.Control (commands.VusMax v)) few told = few

-- at the opening nobody is held
pub opening_few : (s : Scenario) → s.share ≡ machine.opening_share → (user : ℕ) → holds user s.share ≡ true → user ≤ 1000
opening_few s share user held = absurd (let none : holds user s.share ≡ false = ap (holds user) share in cc)

pub opening_order : (s : Scenario) → s.share ≡ machine.opening_share → IsHeldInOrder s
opening_order s share = rw share (λ k below. absurd (omega arith))

-- ---- the idle users' numbers, and how many are held, behind a change

module _ (s : Scenario) (idle : List ℕ) (held : ℕ) (who : idle ≡ idle_of s.share) (many : held ≡ machine.held_count s.share) (order : IsHeldInOrder s) where
  -- where one user more is held
  pub idle_hold : (user slot : ℕ) → holds user s.share ≡ false → with_number user idle ≡ idle_of (hold user slot s.share)
  idle_hold user slot fresh = ap (with_number user) who ∙ sym (idle_with user slot s.share.held order fresh)

  pub held_hold : (user slot : ℕ) → held + 1 ≡ machine.held_count (hold user slot s.share)
  held_hold user slot =
      ap (λ (k : ℕ). k + 1) many ∙ sym (count_with (record { user = user; slot = slot; condition = machine.Idle }) s.share.held)

  -- where an idle user is let go
  pub idle_let_go : (user : ℕ) → without_number user idle ≡ idle_of (let_go user s.share)
  idle_let_go user = ap (without_number user) who ∙ sym (idle_without user s.share.held)

  pub held_let_go : (user : ℕ) → IsIdleOf s user → held - 1 ≡ machine.held_count (let_go user s.share)
  held_let_go user is = ap (λ (k : ℕ). k - 1) many ∙ sym (count_without user s.share.held order (idle_held s user is))

  -- where a user starts to play
  pub idle_start : (user thread item until : ℕ) → without_number user idle ≡ idle_of (put_condition user (machine.Busy thread item until) s.share)
  idle_start user thread item until = ap (without_number user) who ∙ sym (idle_busy user thread item until s.share.held)

  -- where one that plays is idle again
  pub idle_return : (user item : ℕ) → IsPlayerOf s user item → with_number user idle ≡ idle_of (put_condition user machine.Idle s.share)
  idle_return user item plays = ap (with_number user) who ∙ sym (idle_put user s.share.held order (player_held s user item plays))

  -- as many are held where a user is under another condition
  pub held_put : (user : ℕ) (condition : machine.Condition) → held ≡ machine.held_count (put_condition user condition s.share)
  held_put user condition = many ∙ sym (length-map s.share.held (if_user user condition))

-- the same are held where an item ends
pub idle_end : (part : Part) (item : ℕ) (share : machine.Share) → idle_of share ≡ idle_of (end_item part item share)
idle_end part item share = ap idle_numbers (sym (held_end_item part item share))

pub held_end : (part : Part) (item : ℕ) (share : machine.Share) → machine.held_count share ≡ machine.held_count (end_item part item share)
held_end part item share = ap (λ (held : List machine.HeldUser). length held) (sym (held_end_item part item share))
