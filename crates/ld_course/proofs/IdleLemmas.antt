-- Which users are idle, and how many are held, behind each change of held users.
use Rattle.std.proofs.Common.{◌≡◌, ◌≤◌, ◌<◌, ◌+◌, ◌-◌, ◌==◌, ◌∙◌, ℕ, Bool, true, false, cond, not, nat_lt, List, [], ◌∷◌, map, filter, length, arith, refl, sym, ap, subst}
use Rattle.std.specs.List.{list_any}
use Rattle.std.specs.List.Sorted.{IsStrictlyIncreasing}
use Rattle.std.proofs.lemmas.Bool.{ltb-true, ltb-false, lt-ltb, le-ltb, eqb-true, eqb-false, ne_eqb, or_parts}
use Rattle.ld_machine.specs.State.{Condition, Idle, Busy, HeldUser, Share, idle_users, is_idle}
use Rattle.ld_machine.specs.Effect.{with_user, if_user}
use Rattle.ld_machine.proofs.ListLemmas.{In, here, there, nothing_in, In-map, map-In, In-filter, Contains-from_In}
use Rattle.ld_machine.proofs.ValidPlanLemmas.{head_below, tail_rises}
use Rattle.ld_set.specs.SetView.{with_number, without_number}

-- the numbers of held users, and of the idle ones
abbrev pub numbers_of : List HeldUser → List ℕ
numbers_of held = map (λ (h : HeldUser). h.user) held

abbrev pub idle_numbers : List HeldUser → List ℕ
idle_numbers held = numbers_of (filter is_idle held)

-- those of a scenario's idle users
abbrev pub idle_of : Share → List ℕ
idle_of share = numbers_of (idle_users share)

idle_in : (y : ℕ) (held : List HeldUser) → In y (idle_numbers held) → In y (numbers_of held)
idle_in y held at =
    let found = In-map (λ (h : HeldUser). h.user) y (filter is_idle held) at in
    let kept = In-filter is_idle found.0 held found.1 in
    subst (λ k. In k (numbers_of held)) found.2 (map-In (λ (h : HeldUser). h.user) found.0 kept.0)

-- the users behind the first have numbers above its own
behind_first : (g : HeldUser) (rest : List HeldUser) → IsStrictlyIncreasing (numbers_of (g ∷ rest)) → (y : ℕ) → In y (numbers_of rest) → g.user < y
behind_first g rest rises y at = head_below g.user y (numbers_of rest) rises (Contains-from_In y at)

-- a number below all of a set comes first
with_front : (user : ℕ) (numbers : List ℕ) → ((y : ℕ) → In y numbers → user < y) → with_number user numbers ≡ user ∷ numbers
with_front user [] below = refl
with_front user (k ∷ rest) below =
    let first : user < k = below k here in
    rw (le-ltb k user (omega arith), ne_eqb k user (λ e. omega arith)) refl

-- a user that isn't the first of these is one of the others, above the first
above_first : (g : HeldUser) (rest : List HeldUser) (user : ℕ) → IsStrictlyIncreasing (numbers_of (g ∷ rest)) → In user (numbers_of (g ∷ rest)) →
    (g.user == user) ≡ false → In user (numbers_of rest) × (g.user < user)
above_first g rest user rises at apart = split (g.user) (numbers_of rest) at (eqb-false g.user user apart) (behind_first g rest rises)
  where
    split : (x : ℕ) (xs : List ℕ) → In user (x ∷ xs) → (x ≡ user → ⊥) → ((y : ℕ) → In y xs → x < y) → In user xs × (x < user)
    split x xs here other above = absurd (other refl)
    split x xs (there more) other above = (more, above user more)

-- ---- one user more, which is idle

pub idle_with : (user slot : ℕ) (held : List HeldUser) → IsStrictlyIncreasing (numbers_of held) → list_any (λ (g : HeldUser). g.user == user) held ≡ false →
    idle_numbers (with_user (record { user = user; slot = slot; condition = Idle }) held) ≡ with_number user (idle_numbers held)
idle_with user slot [] rises fresh = refl
idle_with user slot (g ∷ rest) rises fresh =
    let h : HeldUser = record { user = user; slot = slot; condition = Idle } in
    let parts = or_parts (g.user == user) (list_any (λ (f : HeldUser). f.user == user) rest) fresh in
    let behind = behind_first g rest rises in
    let more = with_user h rest in
    let P : Bool → Type 0 = λ b. nat_lt user g.user ≡ b → idle_numbers (cond b (h ∷ g ∷ rest) (g ∷ more)) ≡ with_number user (idle_numbers (g ∷ rest)) in
    let Q : Bool → Type 0 = λ c. numbers_of (cond c (g ∷ filter is_idle more) (filter is_idle more))
    ≡ with_number user (numbers_of (cond c (g ∷ filter is_idle rest) (filter is_idle rest))) in
    let by : P (nat_lt user g.user) = elim (nat_lt user g.user) as P [
      | true ↦ λ e.
          let first : user < g.user = ltb-true user g.user e in
          sym (with_front user (idle_numbers (g ∷ rest)) (λ y at. above user g.user (numbers_of rest) first behind y (idle_in y (g ∷ rest) at)))
      | false ↦ λ e.
          let most : g.user ≤ user = ltb-false user g.user e in
          let other = eqb-false g.user user parts.0 in
          let below : g.user < user = omega (arith, strictly g.user user most other) in
          let later = idle_with user slot rest (tail_rises g.user (numbers_of rest) rises) parts.1 in
          let kept : Q (is_idle g) = elim (is_idle g) as Q [
            | true ↦ rw (lt-ltb g.user user below) (ap (λ (ks : List ℕ). g.user ∷ ks) later)
            | false ↦ later
          ] in kept
    ] in by refl
  where
    above : (x z : ℕ) (zs : List ℕ) → x < z → ((y : ℕ) → In y zs → z < y) → (y : ℕ) → In y (z ∷ zs) → x < y
    above x z zs first behind y here = first
    above x z zs first behind y (there at) = let far : z < y = behind y at in omega arith

    strictly : (a b : ℕ) → a ≤ b → (a ≡ b → ⊥) → a < b
    strictly a b most other = omega arith

pub count_with : (h : HeldUser) (held : List HeldUser) → length (with_user h held) ≡ length held + 1
count_with h [] = refl
count_with h (g ∷ rest) =
    let later = count_with h rest in
    let P : Bool → Type 0 = λ b. length (cond b (h ∷ g ∷ rest) (g ∷ with_user h rest)) ≡ length (g ∷ rest) + 1 in
    elim (nat_lt h.user g.user) as P [ true ↦ omega arith | false ↦ omega arith ]

-- ---- a user under another condition

-- users above this one aren't this one
others_put : (user : ℕ) (condition : Condition) (held : List HeldUser) → ((y : ℕ) → In y (numbers_of held) → user < y) →
    map (if_user user condition) held ≡ held
others_put user condition [] above = refl
others_put user condition (g ∷ rest) above =
    let first : user < g.user = above g.user here in
    rw (ne_eqb g.user user (λ e. omega arith), others_put user condition rest (λ y at. above y (there at))) refl

-- a user that plays isn't idle
pub idle_busy : (user thread item until : ℕ) (held : List HeldUser) →
    idle_numbers (map (if_user user (Busy thread item until)) held) ≡ without_number user (idle_numbers held)
idle_busy user thread item until [] = refl
idle_busy user thread item until (g ∷ rest) =
    let condition : Condition = Busy thread item until in
    let later = idle_busy user thread item until rest in
    let more = filter is_idle (map (if_user user condition) rest) in
    let P : Bool → Type 0 = λ b. (g.user == user) ≡ b →
    idle_numbers (cond b (record g { condition = condition }) g ∷ map (if_user user condition) rest) ≡ without_number user (idle_numbers (g ∷ rest)) in
    let Q : Bool → Type 0 = λ c. numbers_of more ≡ without_number user (numbers_of (cond c (g ∷ filter is_idle rest) (filter is_idle rest))) in
    let R : Bool → Type 0 = λ c. numbers_of (cond c (g ∷ more) more) ≡ without_number user (numbers_of (cond c (g ∷ filter is_idle rest) (filter is_idle rest))) in
    let by : P (g.user == user) = elim (g.user == user) as P [
      | true ↦ λ e. let gone : Q (is_idle g) = elim (is_idle g) as Q [ true ↦ rw e later | false ↦ later ] in gone
      | false ↦ λ e.
          let stays : R (is_idle g) = elim (is_idle g) as R [ true ↦ rw e (ap (λ (ks : List ℕ). g.user ∷ ks) later) | false ↦ later ] in stays
    ] in by refl

-- a held user that plays nothing any more is idle
pub idle_put : (user : ℕ) (held : List HeldUser) → IsStrictlyIncreasing (numbers_of held) → In user (numbers_of held) →
    idle_numbers (map (if_user user Idle) held) ≡ with_number user (idle_numbers held)
idle_put user [] rises at = absurd (nothing_in at)
idle_put user (g ∷ rest) rises at =
    let more = filter is_idle (map (if_user user Idle) rest) in
    let behind = behind_first g rest rises in
    let P : Bool → Type 0 = λ b. (g.user == user) ≡ b →
    idle_numbers (cond b (record g { condition = Idle }) g ∷ map (if_user user Idle) rest) ≡ with_number user (idle_numbers (g ∷ rest)) in
    let Q : Bool → Type 0 = λ c. g.user ∷ numbers_of more ≡ with_number user (numbers_of (cond c (g ∷ filter is_idle rest) (filter is_idle rest))) in
    let R : Bool → Type 0 = λ c. numbers_of (cond c (g ∷ more) more) ≡ with_number user (numbers_of (cond c (g ∷ filter is_idle rest) (filter is_idle rest))) in
    let by : P (g.user == user) = elim (g.user == user) as P [
      | true ↦ λ e.
          let same : g.user ≡ user = eqb-true g.user user e in
          let above : (y : ℕ) → In y (numbers_of rest) → user < y = λ y there_is. subst (λ k. k < y) same (behind y there_is) in
          let left : idle_numbers (map (if_user user Idle) rest) ≡ idle_numbers rest = ap idle_numbers (others_put user Idle rest above) in
          let first : g.user ∷ numbers_of more ≡ user ∷ idle_numbers rest = cong_cons g.user user (numbers_of more) (idle_numbers rest) same left in
          let now : Q (is_idle g) = elim (is_idle g) as Q [
            | true ↦ rw (le-ltb g.user user (omega arith), e) (ap (λ (ks : List ℕ). g.user ∷ ks) left)
            | false ↦ first ∙ sym (with_front user (idle_numbers rest) (λ y there_is. above y (idle_in y rest there_is)))
          ] in now
      | false ↦ λ e.
          let found = above_first g rest user rises at e in
          let later = idle_put user rest (tail_rises g.user (numbers_of rest) rises) found.0 in
          let stays : R (is_idle g) = elim (is_idle g) as R [
            | true ↦ rw (lt-ltb g.user user found.1) (ap (λ (ks : List ℕ). g.user ∷ ks) later)
            | false ↦ later
          ] in stays
    ] in by refl
  where
    cong_cons : (x y : ℕ) (xs ys : List ℕ) → x ≡ y → xs ≡ ys → x ∷ xs ≡ y ∷ ys
    cong_cons x y xs ys one more = cc

-- ---- one user less

-- a held user is another one
abbrev is_other : ℕ → HeldUser → Bool
is_other user h = not (h.user == user)

pub idle_without : (user : ℕ) (held : List HeldUser) → idle_numbers (filter (is_other user) held) ≡ without_number user (idle_numbers held)
idle_without user [] = refl
idle_without user (g ∷ rest) =
    let later = idle_without user rest in
    let more = filter (is_other user) rest in
    let P : Bool → Type 0 = λ b. (g.user == user) ≡ b → idle_numbers (cond (not b) (g ∷ more) more) ≡ without_number user (idle_numbers (g ∷ rest)) in
    let Q : Bool → Type 0 = λ c. idle_numbers more ≡ without_number user (numbers_of (cond c (g ∷ filter is_idle rest) (filter is_idle rest))) in
    let R : Bool → Type 0 = λ c. numbers_of (cond c (g ∷ filter is_idle more) (filter is_idle more))
    ≡ without_number user (numbers_of (cond c (g ∷ filter is_idle rest) (filter is_idle rest))) in
    let by : P (g.user == user) = elim (g.user == user) as P [
      | true ↦ λ e. let gone : Q (is_idle g) = elim (is_idle g) as Q [ true ↦ rw e later | false ↦ later ] in gone
      | false ↦ λ e.
          let stays : R (is_idle g) = elim (is_idle g) as R [ true ↦ rw e (ap (λ (ks : List ℕ). g.user ∷ ks) later) | false ↦ later ] in stays
    ] in by refl

-- users above this one stay
others_stay : (user : ℕ) (held : List HeldUser) → ((y : ℕ) → In y (numbers_of held) → user < y) → filter (is_other user) held ≡ held
others_stay user [] above = refl
others_stay user (g ∷ rest) above =
    let first : user < g.user = above g.user here in
    rw (ne_eqb g.user user (λ e. omega arith)) (ap (λ (more : List HeldUser). g ∷ more) (others_stay user rest (λ y at. above y (there at))))

some_held : (user : ℕ) (held : List HeldUser) → In user (numbers_of held) → 1 ≤ length held
some_held user [] at = absurd (nothing_in at)
some_held user (g ∷ rest) at = omega arith

pub count_without : (user : ℕ) (held : List HeldUser) → IsStrictlyIncreasing (numbers_of held) → In user (numbers_of held) →
    length (filter (is_other user) held) ≡ length held - 1
count_without user [] rises at = absurd (nothing_in at)
count_without user (g ∷ rest) rises at =
    let behind = behind_first g rest rises in
    let more = filter (is_other user) rest in
    let P : Bool → Type 0 = λ b. (g.user == user) ≡ b → length (cond (not b) (g ∷ more) more) ≡ length (g ∷ rest) - 1 in
    let by : P (g.user == user) = elim (g.user == user) as P [
      | true ↦ λ e.
          let same : g.user ≡ user = eqb-true g.user user e in
          let stay = ap (λ (held : List HeldUser). length held) (others_stay user rest (λ y there_is. subst (λ k. k < y) same (behind y there_is))) in
          omega (arith, stay)
      | false ↦ λ e.
          let found = above_first g rest user rises at e in
          let later = count_without user rest (tail_rises g.user (numbers_of rest) rises) found.0 in
          let some = some_held user rest found.0 in
          omega (arith, later, some)
    ] in by refl
