-- The numbers of an instance's slots, one after another, as a set.
use Rattle.std.proofs.Common.{◌≡◌, ◌∙◌, ◌<◌, ◌+◌, ℕ, List, [], ◌∷◌, ◌++◌, drop, length, slice_index_or, refl, sym, ap, subst}
use Rattle.std.specs.List.Sorted.{IsStrictlyIncreasing}
use Rattle.std.proofs.lemmas.Bool.{lt-ltb}
use Rattle.ld_machine.proofs.ListLemmas.{here, Contains-from_In}
use Rattle.ld_machine.proofs.ValidPlanLemmas.{head_below, tail_rises}
use Rattle.ld_machine.proofs.WaitLemmas.{In-right}
use Rattle.ld_set.specs.SetView.{with_number}
use Rattle.ld_ramping.specs.Standing.{numbers_of}
use Rattle.ld_ramping.specs.declared.slot.Slot.{Slot}
use Rattle.ld_ramping.proofs.StandingLemmas.{item_first}

-- a number before which all of a set come, and that others follow
with_next : (number : ℕ) (numbers rest : List ℕ) → IsStrictlyIncreasing (numbers ++ number ∷ rest) → with_number number numbers ++ rest ≡ numbers ++ number ∷ rest
with_next number [] rest rises = refl
with_next number (k ∷ more) rest rises =
    let below : k < number = head_below k number (more ++ number ∷ rest) rises (Contains-from_In number (In-right number more (here {xs = rest}))) in
    rw (lt-ltb k number below) (ap (λ (all : List ℕ). k ∷ all) (with_next number more rest (tail_rises k (more ++ number ∷ rest) rises)))

pub one_more : (slots : List Slot) (i : ℕ) (x : Slot) (numbers : List ℕ) → IsStrictlyIncreasing (numbers_of slots) → i < length slots →
    x ≡ slice_index_or slots i x → numbers ++ numbers_of (drop i slots) ≡ numbers_of slots →
    with_number x.number numbers ++ numbers_of (drop (i + 1) slots) ≡ numbers_of slots
one_more slots i x numbers rises below is so =
    let all : numbers ++ x.number ∷ numbers_of (drop (i + 1) slots) ≡ numbers_of slots =
    ap (λ (more : List Slot). numbers ++ numbers_of more) (sym (item_first slots i x below is)) ∙ so in
    with_next x.number numbers (numbers_of (drop (i + 1) slots)) (subst IsStrictlyIncreasing (sym all) rises) ∙ all
