-- A commanded stop is told to one scenario after another.
use Rattle.std.proofs.Common.{◌≡◌, ◌≢◌, ◌<◌, ◌≤◌, ◌+◌, ◌==◌, ℕ, Bool, true, false, List, Some, length, set, slice_get, arith, refl, sym, subst, ◌∙◌}
use Rattle.std.proofs.lemmas.List.{length-set}
use Rattle.std.proofs.lemmas.Option.{slice_get_within}
use Rattle.ld_base.specs.declared.act.Act.TheVariants.{Control}
use Rattle.ld_base.specs.declared.command.Command.TheVariants.{Stop}
use Rattle.ld_machine.proofs.BusyLemmas.{same_number}
use Rattle.ld_machine.proofs.ListLemmas.{number_itself}
use Rattle.ld_executor.specs.declared.executor_state.ExecutorState.{ExecutorState}
use Rattle.ld_executor.specs.Shows.{Follows, MayTell}
use Rattle.ld_machine.specs.Plan.{Plan}
use Rattle.ld_machine.specs.State.{State}
use Rattle.ld_pool.specs.Pool.{PoolView}
use Rattle.ld_core.specs.Changes.{AllFollow, AllMayTell}
use Rattle.ld_core.specs.Shows.{Shows}
use Rattle.ld_core.proofs.ShownLemmas.{set_itself, set_others, shown_there}

-- the scenarios of the numbers below i were told, and the others not yet
pub record Told (old new : List ExecutorState) (i reading : ℕ) : Type 0 where
  pub count : length new ≡ length old
  pub told : (n : ℕ) (before after : ExecutorState) → n < i → slice_get old n ≡ Some before → slice_get new n ≡ Some after → Follows before after (Control Stop) reading
  pub rest : (n : ℕ) → i ≤ n → slice_get new n ≡ slice_get old n

pub none_told : (old : List ExecutorState) (reading : ℕ) → Told old old 0 reading
none_told old reading = record { count = refl; told = λ n before after below. absurd (omega arith); rest = λ n above. refl }

pub one_told : (old new : List ExecutorState) (i reading : ℕ) (k after : ExecutorState) → Told old new i reading → slice_get new i ≡ Some k → Follows k after (Control Stop) reading →
    Told old (set new i after) (i + 1) reading
one_told old new i reading k after so_far at follows =
    record {
      count = length-set new i after ∙ so_far.count;
      told = λ n before seen below old_at new_at.
          let P : Bool → Type 0 = λ b. (n == i) ≡ b → Follows before seen (Control Stop) reading in
          let both : P (n == i) = elim (n == i) as P [
            | true ↦ λ e.
                let same : n ≡ i = same_number n i e in
                let old_here : slice_get old i ≡ Some before = subst (λ (m : ℕ). slice_get old m ≡ Some before) same old_at in
                let k_is : k ≡ before = some_same (sym at ∙ so_far.rest i (omega arith) ∙ old_here) in
                let after_is : after ≡ seen = set_itself new i after seen (subst (λ (m : ℕ). slice_get (set new i after) m ≡ Some seen) same new_at) in
                subst (λ (v : ExecutorState). Follows v seen (Control Stop) reading) k_is (subst (λ (v : ExecutorState). Follows k v (Control Stop) reading) after_is follows)
            | false ↦ λ e.
                let apart : n ≢ i = λ q. (let t : (n == i) ≡ true = rw q (number_itself i) in absurd (cc)) in
                so_far.told n before seen (less n i below apart) old_at (sym (set_others new i n after apart) ∙ new_at)
          ] in both refl;
      rest = λ n above. set_others new i n after (past n i above) ∙ so_far.rest n (omega arith);
    }
  where
    some_same : {A : Type 0} {x y : A} → Some x ≡ Some y → x ≡ y
    some_same e = cc

    less : (n i : ℕ) → n < i + 1 → n ≢ i → n < i
    less n i below apart = omega arith

    past : (n i : ℕ) → i + 1 ≤ n → n ≢ i
    past n i above e = omega arith

pub all_told : (old new : List ExecutorState) (i reading : ℕ) → length old ≤ i → Told old new i reading → AllFollow old new (Control Stop) reading
all_told old new i reading all so_far =
    record {
      count = so_far.count;
      each = λ n before after old_at new_at. so_far.told n before after (let within = slice_get_within old n before old_at in omega arith) old_at new_at;
    }

-- a scenario that wasn't told yet may be
pub may_still : (old new : List ExecutorState) (i reading : ℕ) (k : ExecutorState) → Told old new i reading → AllMayTell old (Control Stop) → slice_get new i ≡ Some k →
    MayTell k (Control Stop)
may_still old new i reading k so_far may at = may i k (sym (so_far.rest i (omega arith)) ∙ at)

-- each state of a core shows a scenario, which may be told of a stop at any time
pub stop_may : {plan : Plan} {pool : PoolView} {kept : List ExecutorState} {stopped : Bool} {state : State} → Shows plan pool kept stopped state →
    AllMayTell kept (Control Stop)
stop_may shows n k at = let found = shown_there shows n k at in (found.0, found.2, tt)
