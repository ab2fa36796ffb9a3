-- From a reading up to and without a scenario's next candidate the same acts are enabled of it.
use Rattle.std.proofs.Common.{◌≡◌, ◌<◌, ◌≤◌, ◌∙◌, ℕ, Bool, nat_le, List, None, Some, arith, sym, subst}
use Rattle.std.proofs.Math.Decide.{dec_lt}
use Rattle.std.proofs.lemmas.Grind.{common_steps}
use Rattle.ld_base.specs.declared.wish.Wish.{Wish}
use Rattle.ld_machine.specs.Scenario.{Scenario}
use Rattle.ld_machine.specs.Moves.{Move, Users, moves_of}
use Rattle.ld_machine.specs.Wait.{scenario_moments}
use Rattle.ld_machine.specs.Wishes.{later_moves, IsFirstOf, TellsFirst, WishesFirst}
use Rattle.ld_machine.specs.Together.{least_above}
use Rattle.ld_machine.proofs.ListLemmas.{Contains-from_In}
use Rattle.ld_machine.proofs.WaitLemmas.{Agree, later_moves_same, moves_same}
use Rattle.ld_machine.proofs.CandidateLemmas.{above_tells, none_above}

-- ---- no moment is passed

not_passed : (t later c : ℕ) → t ≤ later → c ≤ t → nat_le c t ≡ nat_le c later
not_passed t later c from at = let then : c ≤ later = omega arith in grind (arith, common_steps)

-- up to the least moment above t, none of the moments is passed
agree_before : (t m later : ℕ) (moments : List ℕ) → least_above t moments ≡ Some m → t ≤ later → later < m → Agree moments t later
agree_before t m later moments next from to c at =
    elim (dec_lt t c) [
      | yes above ↦
          let least : m ≤ c = (above_tells t moments m next).2 c (Contains-from_In c at) above in
          let behind : later < c = omega arith in
          grind (arith, common_steps)
      | no notabove ↦ not_passed t later c from (omega arith)
    ]

-- and none at all behind the last one
agree_behind : (t later : ℕ) (moments : List ℕ) → least_above t moments ≡ None → t ≤ later → Agree moments t later
agree_behind t later moments none_left from c at = not_passed t later c from (none_above t moments none_left c (Contains-from_In c at))

-- ---- the acts, and the wish

pub steady_next : (s : Scenario) (t m later : ℕ) → least_above t (scenario_moments s) ≡ Some m → t ≤ later → later < m →
    (n : ℕ) (users : Users) → moves_of users n s later ≡ moves_of users n s t
steady_next s t m later next from to n users = sym (moves_same users n s t later (agree_before t m later (scenario_moments s) next from to))

pub steady_last : (s : Scenario) (t later : ℕ) → least_above t (scenario_moments s) ≡ None → t ≤ later →
    (n : ℕ) (users : Users) → moves_of users n s later ≡ moves_of users n s t
steady_last s t later none_left from n users = sym (moves_same users n s t later (agree_behind t later (scenario_moments s) none_left from))

-- a wish that tells the first acts tells them wherever the acts are the same
tells_same : (n : ℕ) (users : Users) (s : Scenario) (t x prefer : ℕ) (wish : Wish) → later_moves n users s t ≡ later_moves n users s x →
    TellsFirst n users s t prefer wish → TellsFirst n users s x prefer wish
tells_same n users s t x prefer wish same told =
    record {
      first = λ (move : Move) at. subst (λ (moves : List Move). IsFirstOf moves move) same (told.first move at);
      something = told.something;
      nothing = λ e. sym same ∙ told.nothing e;
      preferred = λ (other : Wish) named stands.
          told.preferred other named (λ (move : Move) at. subst (λ (moves : List Move). IsFirstOf moves move) (sym same) (stands move at));
    }

pub steady_wish : (s : Scenario) (t m later : ℕ) → least_above t (scenario_moments s) ≡ Some m → t ≤ later → later < m →
    (free : Bool) (prefer : ℕ) (wish : Wish) → WishesFirst s t free prefer wish → WishesFirst s later free prefer wish
steady_wish s t m later next from to free prefer wish told n users is_free =
    tells_same n users s t later prefer wish (later_moves_same users n s t later (agree_before t m later (scenario_moments s) next from to))
    (told n users is_free)
