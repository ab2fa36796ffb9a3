-- The table of iterations under way, when one of them changes, and the least of their ends.
use Rattle.std.proofs.Common.{◌≡◌, ◌<◌, ◌≤◌, ◌+◌, ◌-◌, ◌==◌, if◌then◌else◌, ℕ, zero, suc, Bool, true, false, List, [], ◌∷◌, Option, None, Some, arith, ap, get_or, length, length-set, map, refl, set, sym, subst, ◌∙◌}
use Rattle.std.specs.Prelude.{◌^◌, IfNone, IfSome, replicate, slice_get, unwrap_or}
use Rattle.std.specs.List.{Contains}
use Rattle.std.specs.Option.{option_map_or}
use Rattle.std.proofs.Math.Decide.{dec_lt}
use Rattle.std.proofs.lemmas.Grind.{common_steps}
use Rattle.std.proofs.lemmas.List.{get_or-set_same, get_or-replicate, get_or-set_other, get_or_default, length-map, length-replicate, map-set}
use Rattle.std.proofs.lemmas.Option.{unwrap_or-slice_get, slice_get_past}
use Rattle.ld_machine.specs.Wait.{least_of}
use Rattle.ld_machine.proofs.CandidateLemmas.{least_is, least_tells, no_least}
use Rattle.ld_machine.proofs.FirstOfAllLemmas.{In-of}
use Rattle.ld_machine.proofs.ListLemmas.{In, here, there, Contains-from_In, nothing_in, some_not_none}
use Rattle.ld_set.specs.Moments.{comes_by, is_due, moment_at}
use Rattle.ld_set.proofs.MomentLemmas.{contained_moment, moment_contained}
use Rattle.ld_rehearsal.specs.Dues.{due_at, end_of, ends_of, EndsLater, IsKept}
use Rattle.ld_rehearsal.specs.declared.due.Due.{Due}

-- what the table has of a user, by its place
due_place : (users : List (Option Due)) (user : ℕ) → 1 ≤ user → due_at users user ≡ get_or users (user - 1) None
due_place users zero some = absurd (omega arith)
due_place users (suc index) some = let e : suc index - 1 ≡ index = omega arith in rw e (unwrap_or-slice_get users index None)

-- a user that changes, and no other
pub due_changed : (users : List (Option Due)) (user : ℕ) (due : Option Due) (other : ℕ) → 1 ≤ user → user ≤ length users →
    due_at (set users (user - 1) due) other ≡ (if user == other then due else due_at users other)
due_changed users user due zero some within = let e : (user == 0) ≡ false = grind (arith, common_steps) in rw e refl
due_changed users user due (suc index) some within =
    let P : Bool → Type 0 = λ b. (user == suc index) ≡ b → due_at (set users (user - 1) due) (suc index) ≡ (if b then due else due_at users (suc index)) in
    let go : P (user == suc index) = elim (user == suc index) as P [
      | true ↦ λ e.
          let same : user - 1 ≡ index = grind (arith, common_steps) in
          unwrap_or-slice_get (set users (user - 1) due) index None
          ∙ ap (λ (k : ℕ). get_or (set users (user - 1) due) k None) (sym same)
          ∙ get_or-set_same users (user - 1) due None (omega arith)
      | false ↦ λ e.
          unwrap_or-slice_get (set users (user - 1) due) index None
          ∙ get_or-set_other users (user - 1) index due None (λ same. absurd (grind (arith, common_steps)))
          ∙ sym (unwrap_or-slice_get users index None)
    ] in go refl

-- nobody is in a new table
pub nobody_at : (limit user : ℕ) → due_at (replicate limit None) user ≡ None
nobody_at limit zero = refl
nobody_at limit (suc index) = elim (dec_lt index limit) [
  | yes within ↦ unwrap_or-slice_get (replicate limit None) index None ∙ get_or-replicate limit index None None within
  | no past ↦
      let empty : List (Option Due) = replicate limit None in
      let size : length empty ≡ limit = length-replicate limit None in
      let above : limit ≤ index = omega arith in
      ap (λ (o : Option (Option Due)). unwrap_or o None) (slice_get_past empty index (rw size above))
]

-- ---- the least end

-- the ends of all are those of somebody
in_ends : (users : List (Option Due)) (index : ℕ) (due : Due) → unwrap_or (slice_get users index) None ≡ Some due → In due.end (ends_of users)
in_ends [] zero due is = absurd (some_not_none (sym is))
in_ends [] (suc index) due is = absurd (some_not_none (sym is))
in_ends (None ∷ rest) zero due is = absurd (some_not_none (sym is))
in_ends (Some d ∷ rest) zero due is =
    let same : d.end ≡ due.end = ap (λ (o : Option Due). option_map_or (λ (x : Due). x.end) o 0) is in
    subst (λ (m : ℕ). In m (ends_of (Some d ∷ rest))) same here
in_ends (None ∷ rest) (suc index) due is = in_ends rest index due is
in_ends (Some d ∷ rest) (suc index) due is = there (in_ends rest index due is)

ends_in : (users : List (Option Due)) (m : ℕ) → In m (ends_of users) → (index : ℕ) × (due : Due) × (unwrap_or (slice_get users index) None ≡ Some due) × (due.end ≡ m)
ends_in [] m at = absurd (nothing_in at)
ends_in (None ∷ rest) m at = let later = ends_in rest m at in (suc later.0, later.1, later.2, later.3)
ends_in (Some d ∷ rest) m here = (0, d, refl, refl)
ends_in (Some d ∷ rest) m (there at) = let later = ends_in rest m at in (suc later.0, later.1, later.2, later.3)

in_table : (users : List (Option Due)) (user : ℕ) (due : Due) → due_at users user ≡ Some due → In due.end (ends_of users)
in_table users zero due is = absurd (some_not_none (sym is))
in_table users (suc index) due is = in_ends users index due is

-- where there is no least end, nobody is in the table
pub none_ends : (users : List (Option Due)) → least_of (ends_of users) ≡ None → (user : ℕ) (due : Due) → due_at users user ≡ Some due → ⊥
none_ends users none user due is = nothing_in (subst (λ (xs : List ℕ). In due.end xs) (no_least (ends_of users) none) (in_table users user due is))

-- the least end is that of somebody, and at most each other
pub least_end : (users : List (Option Due)) (m : ℕ) → least_of (ends_of users) ≡ Some m → (user : ℕ) (due : Due) → due_at users user ≡ Some due → m ≤ due.end
least_end users m least user due is = (least_tells (ends_of users) m least).1 due.end (Contains-from_In due.end (in_table users user due is))

pub some_end : (users : List (Option Due)) (m : ℕ) → least_of (ends_of users) ≡ Some m → (user : ℕ) × (due : Due) × (due_at users user ≡ Some due) × (due.end ≡ m)
some_end users m least = let at = ends_in users m (In-of (least_tells (ends_of users) m least).0) in (suc at.0, at.1, at.2, at.3)

-- ---- the table of ends

-- what is so is told where there is none
pub told_none : {A : Type 0} (o : Option A) (P : Type 0) → P → IfNone o P
told_none None P is = is
told_none (Some x) P is = tt

-- nobody's iteration ends in a new table
nobody_ends : (limit : ℕ) → replicate limit None ≡ map end_of (replicate limit None)
nobody_ends zero = refl
nobody_ends (suc limit) = ap (λ (os : List (Option ℕ)). None ∷ os) (nobody_ends limit)

pub kept_new : (limit : ℕ) → limit < 2 ^ 32 → IsKept (replicate limit None) (replicate limit None)
kept_new limit small =
    let empty : List (Option Due) = replicate limit None in
    let size : length empty ≡ limit = length-replicate limit None in
    record { small = omega arith; ended = nobody_ends limit }

-- the tables change together
pub kept_changed : (users : List (Option Due)) (ends : List (Option ℕ)) (index : ℕ) (due : Option Due) → IsKept users ends →
    IsKept (set users index due) (set ends index (end_of due))
kept_changed users ends index due kept =
    let size : length (set users index due) ≡ length users = length-set users index due in
    record {
      small = omega (arith, kept.small);
      ended = ap (λ (os : List (Option ℕ)). set os index (end_of due)) kept.ended ∙ sym (map-set end_of users index due);
    }

-- a user's number less 1 is its place
end_at : (users : List (Option Due)) (index : ℕ) → moment_at (map end_of users) index ≡ end_of (due_at users (suc index))
end_at [] index = refl
end_at (user ∷ users) zero = refl
end_at (user ∷ users) (suc index) = end_at users index

-- what ends at a moment
ends_then : (o : Option Due) (m : ℕ) → end_of o ≡ Some m → (due : Due) × (o ≡ Some due) × (due.end ≡ m)
ends_then None m is = absurd (some_not_none (sym is))
ends_then (Some due) m is = (due, refl, ap (λ (o : Option ℕ). option_map_or (λ (k : ℕ). k) o 0) is)

module _ (users : List (Option Due)) (ends : List (Option ℕ)) (kept : IsKept users ends) where
  end_of_user : (index : ℕ) → moment_at ends index ≡ end_of (due_at users (suc index))
  end_of_user index = ap (λ (os : List (Option ℕ)). moment_at os index) kept.ended ∙ end_at users index

  -- the table of ends has the ends of all
  table_ends : (m : ℕ) → Contains ends (Some m) → Contains (ends_of users) m
  table_ends m at =
      let place = contained_moment ends m at in
      let one = ends_then (due_at users (suc place.0)) m (sym (end_of_user place.0) ∙ place.2) in
      subst (λ (k : ℕ). Contains (ends_of users) k) one.2 (Contains-from_In one.0.end (in_table users (suc place.0) one.0 one.1))

  ends_table : (m : ℕ) → Contains (ends_of users) m → Contains ends (Some m)
  ends_table m at =
      let one = ends_in users m (In-of at) in
      moment_contained ends one.0 m (end_of_user one.0 ∙ ap end_of one.2 ∙ ap Some one.3)

  -- so its least is the least of all
  pub least_of_table : (least : Option ℕ) → IfSome least (λ m. Contains ends (Some m)) →
      IfSome least (λ m. (other : ℕ) → Contains ends (Some other) → m ≤ other) →
      IfNone least ((other : ℕ) → Contains ends (Some other) → ⊥) → least ≡ least_of (ends_of users)
  least_of_table (Some m) among lower none =
      sym (least_is (ends_of users) m (table_ends m among, λ other at. lower other (ends_table other at)))
  least_of_table None among lower none =
      let P : Option ℕ → Type 0 = λ o. least_of (ends_of users) ≡ o → None ≡ o in
      let go : P (least_of (ends_of users)) = elim (least_of (ends_of users)) as P [
        | None ↦ λ e. refl
        | Some m ↦ λ e. absurd (none m (ends_table m (least_tells (ends_of users) m e).0))
      ] in go refl

  -- where no end is due, what is played ends later
  pub ends_later : (moment user : ℕ) → 0 < user → is_due ends moment (user - 1) ≡ false → EndsLater users moment user
  ends_later moment zero some late due is = absurd (omega arith)
  ends_later moment (suc index) some late due is =
      let place : suc index - 1 ≡ index = omega arith in
      let end : moment_at ends index ≡ Some due.end = end_of_user index ∙ ap end_of is in
      let later : comes_by moment (Some due.end) ≡ false = ap (comes_by moment) (sym end) ∙ rw place at late in
      grind (arith, common_steps)

  -- what stands at a place, its user plays
  pub plays_at : (index : ℕ) (found : Option Due) (due : Due) → index < length ends → get_or users index found ≡ found → found ≡ Some due →
      due_at users (index + 1) ≡ Some due
  plays_at index found due within at is =
      let size : length ends ≡ length users = ap (λ (os : List (Option ℕ)). length os) kept.ended ∙ length-map users end_of in
      let place : (index + 1) - 1 ≡ index = omega arith in
      due_place users (index + 1) (omega arith)
      ∙ ap (λ (k : ℕ). get_or users k None) place
      ∙ get_or_default users index None found (omega arith)
      ∙ at
      ∙ is
