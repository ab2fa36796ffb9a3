-- The leasts of the blocks of a table of moments, what the least of all tells, and numbers that are due.
use Rattle.std.specs.Prelude.{◌≡◌, ◌+◌, ◌*◌, ◌/◌, ◌<◌, ◌≤◌, ℕ, true, false, min, nat_le, List, Option, None, Some, IfNone, IfSome, length}
use Rattle.std.specs.Int.{div_ceil}
use Rattle.std.specs.List.{Contains}
use Rattle.std.proofs.Common.{◌⊎◌, arith, ap, refl, sym, ◌∙◌, inl, inr, set, length-set, get_or-set_same, get_or-set_other}
use Rattle.std.proofs.lemmas.Bool.{cases_eq, cases_lt, lt-ltb}
use Rattle.std.proofs.lemmas.Grind.{common_steps}
use Rattle.std.proofs.lemmas.List.{get_or_default, get_or_past}
use Rattle.ld_set.specs.Moments.{comes_by, is_above, is_by, is_due, lesser_of, moment_at, IsFirstDue, IsKept, IsLeastAmong}

-- ---- one moment

-- none is no moment, and a moment is one alone
none_is_some : {m : ℕ} → None ≡ Some m → ⊥
none_is_some is = absurd (cc is)

some_is : (a b : ℕ) → Some a ≡ Some b → a ≡ b
some_is a b is = cc is

-- a moment at a number has its number within the table
moment_within : (moments : List (Option ℕ)) (k m : ℕ) → moment_at moments k ≡ Some m → k < length moments
moment_within moments k m is =
    elim (cases_lt k (length moments)) [
      | inl below ↦ below
      | inr past ↦ absurd (none_is_some (sym (get_or_past moments k None past) ∙ is))
    ]

-- what the table has at a number it contains, and the other way round
pub moment_contained : (moments : List (Option ℕ)) (k m : ℕ) → moment_at moments k ≡ Some m → Contains moments (Some m)
moment_contained moments k m is =
    let within = moment_within moments k m is in (k, within, get_or_default moments k (Some m) None within ∙ is)

pub contained_moment : (moments : List (Option ℕ)) (m : ℕ) → Contains moments (Some m) →
    (k : ℕ) × (k < length moments) × (moment_at moments k ≡ Some m)
contained_moment moments m at = (at.0, at.1, get_or_default moments at.0 None (Some m) at.1 ∙ at.2)

-- ---- blocks

-- the least of the leasts of all blocks is the least of all moments
pub least_of_leasts : (moments leasts : List (Option ℕ)) (least : Option ℕ) → IsKept moments leasts →
    IsLeastAmong leasts None 0 (length leasts) least → IsLeastAmong moments None 0 (length moments) least
least_of_leasts moments leasts least kept is =
    record {
      there = λ m some.
          let block = is.there m some in
          let at = (kept.each block.0).there m block.3 in (at.0, omega arith, moment_within moments at.0 m at.3, at.3, refl);
      each = λ k m low high at _.
          let block = (kept.each (k / 32)).each k m (omega arith) (omega arith) at refl in
          let all = is.each (k / 32) block.0 (omega arith) (omega (arith, kept.room)) block.1 refl in
          let lower : block.0 ≤ m = block.2 in
          let lowest : all.0 ≤ block.0 = all.2 in (all.0, all.1, omega arith);
    }

-- a range keeps its least where its moments stay
least_same : (moments new : List (Option ℕ)) (from to : ℕ) (least : Option ℕ) →
    ((k : ℕ) → from ≤ k → k < to → moment_at new k ≡ moment_at moments k) → IsLeastAmong moments None from to least →
    IsLeastAmong new None from to least
least_same moments new from to least same is =
    record {
      there = λ m some.
          let at = is.there m some in (at.0, at.1, at.2, same at.0 at.1 at.2 ∙ at.3, refl);
      each = λ k m low high at _. is.each k m low high (sym (same k low high) ∙ at) refl;
    }

-- a table stays kept where one moment changes, and the least of its block is taken anew
pub kept_set : (moments leasts : List (Option ℕ)) (number : ℕ) (moment least : Option ℕ) → IsKept moments leasts → number < length moments →
    IsLeastAmong (set moments number moment) None (32 * (number / 32)) (32 * (number / 32) + 32) least →
    IsKept (set moments number moment) (set leasts (number / 32) least)
kept_set moments leasts number moment least kept below is =
    let new = set moments number moment in
    let long = length-set moments number moment in
    record {
      small = omega (arith, long, kept.small);
      room = length-set leasts (number / 32) least ∙ kept.room ∙ ap (λ n. div_ceil n 32) (sym long);
      each = λ block. elim (cases_eq block (number / 32)) [
        | inl same ↦
            rw (same, get_or-set_same leasts (number / 32) least None (omega (arith, kept.room))) is
        | inr apart ↦
            rw (get_or-set_other leasts (number / 32) block least None apart)
            (least_same moments new (32 * block) (32 * block + 32) (moment_at leasts block)
            (λ k low high. get_or-set_other moments number k moment None (λ e. apart (omega arith))) (kept.each block))
      ];
    }

-- ---- where one moment changes that wasn't the least of its range

-- the lesser of two is one of them, and at most each
lesser_one : (a b : Option ℕ) (m : ℕ) → lesser_of a b ≡ Some m → (a ≡ Some m) ⊎ (b ≡ Some m)
lesser_one None b m is = inr is
lesser_one (Some a) None m is = inl is
lesser_one (Some a) (Some b) m is =
    let least : min a b ≡ m = cc is in
    elim (cases_lt a b) [ inl below ↦ inl (ap Some (omega arith)) | inr notbelow ↦ inr (ap Some (omega arith)) ]

lesser_first : (b : Option ℕ) (l : ℕ) → (n : ℕ) × (lesser_of (Some l) b ≡ Some n) × (n ≤ l)
lesser_first None l = (l, refl, omega arith)
lesser_first (Some b) l = (min l b, refl, omega arith)

lesser_second : (a : Option ℕ) (m : ℕ) → (n : ℕ) × (lesser_of a (Some m) ≡ Some n) × (n ≤ m)
lesser_second None m = (m, refl, omega arith)
lesser_second (Some a) m = (min a m, refl, omega arith)

-- a moment that isn't by the least of its range is later than that
later_than : (moments : List (Option ℕ)) (from to number m : ℕ) (least : Option ℕ) → IsLeastAmong moments None from to least →
    from ≤ number → number < to → is_by (moment_at moments number) least ≡ false → moment_at moments number ≡ Some m →
    least ≡ Some m → ⊥
later_than moments from to number m least is low high late at same =
    let by : is_by (Some m) (Some m) ≡ false = ap (λ (o : Option ℕ). is_by o (Some m)) (sym at) ∙ ap (is_by (moment_at moments number)) (sym same) ∙ late in
    let self : nat_le m m ≡ true = grind (arith, common_steps) in absurd (cc (by, self))

pub least_with : (moments : List (Option ℕ)) (from to number : ℕ) (moment least : Option ℕ) → IsLeastAmong moments None from to least →
    number < length moments → from ≤ number → number < to → is_by (moment_at moments number) least ≡ false →
    IsLeastAmong (set moments number moment) None from to (lesser_of least moment)
least_with moments from to number moment least is below low high late =
    let new = set moments number moment in
    let here : moment_at new number ≡ moment = get_or-set_same moments number moment None below in
    let others : (k : ℕ) → (k ≡ number → ⊥) → moment_at new k ≡ moment_at moments k = λ k apart. get_or-set_other moments number k moment None apart in
    record {
      there = λ m some. elim (lesser_one least moment m some) [
        | inl old ↦
            let at = is.there m old in
            let apart : at.0 ≡ number → ⊥ = λ e. later_than moments from to number m least is low high late (rw e at at.3) old in
            (at.0, at.1, at.2, others at.0 apart ∙ at.3, refl)
        | inr new_one ↦ (number, low, high, here ∙ new_one, refl)
      ];
      each = λ k m from_k to_k at _. elim (cases_eq k number) [
        | inl e ↦
            let is_moment : moment ≡ Some m = sym here ∙ ap (moment_at new) (sym e) ∙ at in
            rw is_moment (lesser_second least m)
        | inr apart ↦
            let old = is.each k m from_k to_k (sym (others k apart) ∙ at) refl in
            let less = lesser_first moment old.0 in
            let low_one : old.0 ≤ m = old.2 in
            let lower : less.0 ≤ old.0 = less.2 in
            (less.0, ap (λ (o : Option ℕ). lesser_of o moment) old.1 ∙ less.1, omega arith)
      ];
    }

-- ---- what the least of all tells

-- what is so of an option's value, and what is so where it has none
some_so : (P Q : ℕ → Type 0) (o : Option ℕ) → ((m : ℕ) → P m → Q m) → IfSome o P → IfSome o Q
some_so P Q None so is = tt
some_so P Q (Some m) so is = so m is

none_so : (P Q : Type 0) (o : Option ℕ) → (P → Q) → IfNone o P → IfNone o Q
none_so P Q None so is = so is
none_so P Q (Some m) so is = tt

passes_above : (reading m : ℕ) → is_above (Some reading) m ≡ true → reading < m
passes_above reading m above = grind (arith, common_steps)

module _ (moments : List (Option ℕ)) (reading : Option ℕ) where
  -- the table has it, and it is above the reading
  there : (to : ℕ) (least : Option ℕ) → IsLeastAmong moments reading 0 to least →
      IfSome least (λ m. Contains moments (Some m) × (is_above reading m ≡ true))
  there to None is = tt
  there to (Some m) is = let at = is.there m refl in (moment_contained moments at.0 m at.3, at.4)

  -- it is at most each other that is above the reading
  below : (to : ℕ) (least : Option ℕ) → IsLeastAmong moments reading 0 to least → length moments ≤ to →
      IfSome least (λ m. (other : ℕ) → Contains moments (Some other) → is_above reading other ≡ true → m ≤ other)
  below to None is all = tt
  below to (Some m) is all = λ other at above.
      let place = contained_moment moments other at in
      let within : place.0 < length moments = place.1 in
      let lower = is.each place.0 other (omega arith) (omega arith) place.2 above in
      let same = some_is m lower.0 lower.1 in
      let less : lower.0 ≤ other = lower.2 in omega arith

  -- where there is none, no moment is above the reading
  nowhere : (to : ℕ) (least : Option ℕ) → IsLeastAmong moments reading 0 to least → length moments ≤ to →
      IfNone least ((other : ℕ) → Contains moments (Some other) → is_above reading other ≡ true → ⊥)
  nowhere to None is all = λ other at above.
      let place = contained_moment moments other at in
      let within : place.0 < length moments = place.1 in
      let lower = is.each place.0 other (omega arith) (omega arith) place.2 above in none_is_some lower.1
  nowhere to (Some m) is all = tt

-- so it is with the least moment above a reading
module _ (moments : List (Option ℕ)) (reading to : ℕ) (least : Option ℕ) (is : IsLeastAmong moments (Some reading) 0 to least)
    (all : length moments ≤ to) where
  pub above_there : IfSome least (λ m. Contains moments (Some m))
  above_there = some_so (λ m. Contains moments (Some m) × (is_above (Some reading) m ≡ true)) (λ m. Contains moments (Some m)) least (λ m at. at.0)
      (there moments (Some reading) to least is)

  pub above_passes : IfSome least (λ m. reading < m)
  above_passes = some_so (λ m. Contains moments (Some m) × (is_above (Some reading) m ≡ true)) (λ m. reading < m) least
      (λ m at. passes_above reading m at.1)
      (there moments (Some reading) to least is)

  pub above_least : IfSome least (λ m. (other : ℕ) → Contains moments (Some other) → reading < other → m ≤ other)
  above_least = some_so (λ m. (other : ℕ) → Contains moments (Some other) → is_above (Some reading) other ≡ true → m ≤ other)
      (λ m. (other : ℕ) → Contains moments (Some other) → reading < other → m ≤ other) least
      (λ m so other at above. so other at (lt-ltb reading other above)) (below moments (Some reading) to least is all)

  pub above_none : IfNone least ((other : ℕ) → Contains moments (Some other) → other ≤ reading)
  above_none = none_so ((other : ℕ) → Contains moments (Some other) → is_above (Some reading) other ≡ true → ⊥)
      ((other : ℕ) → Contains moments (Some other) → other ≤ reading) least
      (λ so other at. elim (cases_lt reading other) [
        | inl above ↦ absurd (so other at (lt-ltb reading other above))
        | inr notabove ↦ notabove
      ]) (nowhere moments (Some reading) to least is all)

-- and with the least of all
module _ (moments : List (Option ℕ)) (least : Option ℕ) (is : IsLeastAmong moments None 0 (length moments) least) where
  pub all_there : IfSome least (λ m. Contains moments (Some m))
  all_there = some_so (λ m. Contains moments (Some m) × (is_above None m ≡ true)) (λ m. Contains moments (Some m)) least (λ m at. at.0)
      (there moments None (length moments) least is)

  pub all_least : IfSome least (λ m. (other : ℕ) → Contains moments (Some other) → m ≤ other)
  all_least = some_so (λ m. (other : ℕ) → Contains moments (Some other) → is_above None other ≡ true → m ≤ other)
      (λ m. (other : ℕ) → Contains moments (Some other) → m ≤ other) least (λ m so other at. so other at refl)
      (below moments None (length moments) least is (omega arith))

  pub all_none : IfNone least ((other : ℕ) → Contains moments (Some other) → ⊥)
  all_none = none_so ((other : ℕ) → Contains moments (Some other) → is_above None other ≡ true → ⊥)
      ((other : ℕ) → Contains moments (Some other) → ⊥) least (λ so other at. so other at refl)
      (nowhere moments None (length moments) least is (omega arith))

-- ---- due numbers

-- a number without a moment isn't due, and one with a later moment isn't
not_due : (moments : List (Option ℕ)) (moment k : ℕ) → ((m : ℕ) → moment_at moments k ≡ Some m → moment < m) → is_due moments moment k ≡ false
not_due moments moment k later =
    let P : Option ℕ → Type 0 = λ o. moment_at moments k ≡ o → comes_by moment o ≡ false in
    let by : P (moment_at moments k) = elim (moment_at moments k) as P [
      | None ↦ λ e. refl
      | Some m ↦ λ e. let above = later m e in grind (arith, common_steps)
    ] in
    by refl

-- numbers behind the last aren't due
pub first_to : (moments : List (Option ℕ)) (moment from to : ℕ) (first : Option ℕ) →
    IsFirstDue moments moment from (min (length moments) to) first → IsFirstDue moments moment from to first
first_to moments moment from to first is =
    record {
      there = λ n some. let at = is.there n some in let high : n < min (length moments) to = at.1 in (at.0, omega arith, at.2, at.3);
      none = λ e k low high. elim (cases_lt k (length moments)) [
        | inl below ↦ is.none e k low (omega arith)
        | inr past ↦ not_due moments moment k (λ m at. absurd (none_is_some (sym (get_or_past moments k None past) ∙ at)))
      ];
    }

-- a due number has a moment, so it is within the table
pub due_within : (moments : List (Option ℕ)) (moment k : ℕ) → is_due moments moment k ≡ true → k < length moments
due_within moments moment k due =
    elim (cases_lt k (length moments)) [
      | inl below ↦ below
      | inr past ↦
          let late : is_due moments moment k ≡ false = ap (comes_by moment) (get_or_past moments k None past) in absurd (cc (due, late))
    ]
