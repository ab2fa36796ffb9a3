-- Which slots are held, and which by idle users, behind each change of held users.
use Rattle.std.proofs.Common.{◌≡◌, ◌==◌, ◌&&◌, ◌||◌, ◌∙◌, ◌⊎◌, ℕ, Bool, true, false, cond, not, nat_lt, List, [], ◌∷◌, filter, map, arith, refl, sym, ap, subst, inl, inr}
use Rattle.std.specs.List.{list_any}
use Rattle.std.proofs.lemmas.Bool.{eqb-true, eqb-false}
use Rattle.std.proofs.lemmas.Grind.{common_steps}
use Rattle.ld_machine.specs.State.{Condition, Idle, Busy, HeldUser, is_idle}
use Rattle.ld_machine.specs.Effect.{with_user, if_user}
use Rattle.ld_machine.proofs.ListLemmas.{In, here, there}

-- some of these users has the slot
abbrev pub has_slot : ℕ → List HeldUser → Bool
has_slot slot held = list_any (λ (h : HeldUser). h.slot == slot) held

-- some idle one has it
abbrev pub has_idle : ℕ → List HeldUser → Bool
has_idle slot held = has_slot slot (filter is_idle held)

-- some of these users has the number
abbrev pub has_number : ℕ → List HeldUser → Bool
has_number user held = list_any (λ (h : HeldUser). h.user == user) held

-- ---- one user more

or_swap : (a b c : Bool) → (a || (b || c)) ≡ (b || (a || c))
or_swap true true c = refl
or_swap true false c = refl
or_swap false b c = refl

first_or_later : (g f : HeldUser) (rest : List HeldUser) → In g (f ∷ rest) → (f ≡ g) ⊎ In g rest
first_or_later g f rest here = inl refl
first_or_later g f rest (there more) = inr more

pub with_in : (h g : HeldUser) (held : List HeldUser) → In g (with_user h held) → (h ≡ g) ⊎ In g held
with_in h g [] at = first_or_later g h [] at
with_in h g (f ∷ rest) at =
    let P : Bool → Type 0 = λ b. In g (cond b (h ∷ f ∷ rest) (f ∷ with_user h rest)) → (h ≡ g) ⊎ In g (f ∷ rest) in
    let from : P (nat_lt h.user f.user) = elim (nat_lt h.user f.user) as P [
      | true ↦ λ there_is. first_or_later g h (f ∷ rest) there_is
      | false ↦ λ there_is. elim (first_or_later g f (with_user h rest) there_is) [
        | inl first ↦ inr (subst (λ (x : HeldUser). In x (f ∷ rest)) first here)
        | inr more ↦ elim (with_in h g rest more) [ inl same ↦ inl same | inr old ↦ inr (there old) ]
      ]
    ] in from at

module _ (user slot : ℕ) where
  abbrev pub newcomer : HeldUser
  newcomer = record { user = user; slot = slot; condition = Idle }

  pub slot_with : (x : ℕ) (held : List HeldUser) → has_slot x (with_user newcomer held) ≡ ((slot == x) || has_slot x held)
  slot_with x [] = refl
  slot_with x (g ∷ rest) =
      let later = slot_with x rest in
      let P : Bool → Type 0 = λ b. has_slot x (cond b (newcomer ∷ g ∷ rest) (g ∷ with_user newcomer rest)) ≡ ((slot == x) || ((g.slot == x) || has_slot x rest)) in
      elim (nat_lt user g.user) as P [
        | true ↦ refl
        | false ↦ ap (λ b. (g.slot == x) || b) later ∙ or_swap (g.slot == x) (slot == x) (has_slot x rest)
      ]

  pub idle_slot_with : (x : ℕ) (held : List HeldUser) → has_idle x (with_user newcomer held) ≡ ((slot == x) || has_idle x held)
  idle_slot_with x [] = refl
  idle_slot_with x (g ∷ rest) =
      let later = idle_slot_with x rest in
      let more = filter is_idle (with_user newcomer rest) in
      let old = filter is_idle rest in
      let Q : Bool → Type 0 = λ b. has_slot x (cond b (g ∷ more) more) ≡ ((slot == x) || has_slot x (cond b (g ∷ old) old)) in
      let kept : Q (is_idle g) = elim (is_idle g) as Q [
        | true ↦ ap (λ b. (g.slot == x) || b) later ∙ or_swap (g.slot == x) (slot == x) (has_slot x old)
        | false ↦ later
      ] in
      let P : Bool → Type 0 = λ b. has_idle x (cond b (newcomer ∷ g ∷ rest) (g ∷ with_user newcomer rest)) ≡ ((slot == x) || has_idle x (g ∷ rest)) in
      elim (nat_lt user g.user) as P [ true ↦ refl | false ↦ kept ]

  -- ---- the user of a slot under another condition, or gone

  -- of these users the one of this number, and no other, has the slot
  abbrev pub IsAlone : List HeldUser → Type 0
  IsAlone held = (g : HeldUser) → In g held → (g.user == user) ≡ (g.slot == slot)

  -- where a slot is this one, and where it isn't
  same_slot : (g : HeldUser) (x : ℕ) → (g.slot == slot) ≡ true → (g.slot == x) ≡ (x == slot)
  same_slot g x e = let same : g.slot ≡ slot = eqb-true g.slot slot e in rw same (around slot x)
    where
      around : (a b : ℕ) → (a == b) ≡ (b == a)
      around a b = grind (arith, common_steps)

  other_slot : (g : HeldUser) (x : ℕ) → (g.slot == slot) ≡ false → ((g.slot == x) && not (x == slot)) ≡ (g.slot == x)
  other_slot g x e = let apart = eqb-false g.slot slot e in grind (arith, common_steps)

  pub slot_put : (condition : Condition) (x : ℕ) (held : List HeldUser) → has_slot x (map (if_user user condition) held) ≡ has_slot x held
  slot_put condition x [] = refl
  slot_put condition x (g ∷ rest) =
      let later = slot_put condition x rest in
      let P : Bool → Type 0 = λ b. (((cond b (record g { condition = condition }) g).slot == x) || has_slot x (map (if_user user condition) rest)) ≡ ((g.slot == x) || has_slot x rest) in
      elim (g.user == user) as P [ true ↦ ap (λ b. (g.slot == x) || b) later | false ↦ ap (λ b. (g.slot == x) || b) later ]

  -- tests of the first and of the others, without one slot
  drops : (own other gone : Bool) → own ≡ gone → ((own || other) && not gone) ≡ (other && not gone)
  drops own other gone e = rw e (by gone other)
    where
      by : (a b : Bool) → ((a || b) && not a) ≡ (b && not a)
      by true b = none b
        where
          none : (b : Bool) → false ≡ (b && false)
          none true = refl
          none false = refl
      by false b = refl

  keeps : (own other gone : Bool) → (own && not gone) ≡ own → (own || (other && not gone)) ≡ ((own || other) && not gone)
  keeps true other true e = absurd (cc)
  keeps true other false e = refl
  keeps false other gone e = refl

  -- behind its start the user isn't idle
  pub idle_slot_busy : (thread item until x : ℕ) (held : List HeldUser) → IsAlone held →
      has_idle x (map (if_user user (Busy thread item until)) held) ≡ (has_idle x held && not (x == slot))
  idle_slot_busy thread item until x [] alone = refl
  idle_slot_busy thread item until x (g ∷ rest) alone =
      let condition : Condition = Busy thread item until in
      let later = idle_slot_busy thread item until x rest (λ f at. alone f (there at)) in
      let more = filter is_idle (map (if_user user condition) rest) in
      let old = filter is_idle rest in
      let P : Bool → Type 0 = λ b. (g.user == user) ≡ b →
      has_idle x (cond b (record g { condition = condition }) g ∷ map (if_user user condition) rest) ≡ (has_idle x (g ∷ rest) && not (x == slot)) in
      let by : P (g.user == user) = elim (g.user == user) as P [
        | true ↦ λ e.
            let same = same_slot g x (sym (alone g here) ∙ e) in
            let Q : Bool → Type 0 = λ b. has_slot x more ≡ (has_slot x (cond b (g ∷ old) old) && not (x == slot)) in
            let gone : Q (is_idle g) = elim (is_idle g) as Q [
              | true ↦ later ∙ sym (drops (g.slot == x) (has_slot x old) (x == slot) same)
              | false ↦ later
            ] in gone
        | false ↦ λ e.
            let apart = other_slot g x (sym (alone g here) ∙ e) in
            let Q : Bool → Type 0 = λ b. has_slot x (cond b (g ∷ more) more) ≡ (has_slot x (cond b (g ∷ old) old) && not (x == slot)) in
            let stays : Q (is_idle g) = elim (is_idle g) as Q [
              | true ↦ ap (λ b. (g.slot == x) || b) later ∙ keeps (g.slot == x) (has_slot x old) (x == slot) apart
              | false ↦ later
            ] in stays
      ] in by refl

  -- behind its return it is
  pub idle_slot_put : (x : ℕ) (held : List HeldUser) → IsAlone held →
      has_idle x (map (if_user user Idle) held) ≡ ((has_number user held && (slot == x)) || has_idle x held)
  idle_slot_put x [] alone = refl
  idle_slot_put x (g ∷ rest) alone =
      let later = idle_slot_put x rest (λ f at. alone f (there at)) in
      let more = filter is_idle (map (if_user user Idle) rest) in
      let old = filter is_idle rest in
      let P : Bool → Type 0 = λ b. (g.user == user) ≡ b →
      has_idle x (cond b (record g { condition = Idle }) g ∷ map (if_user user Idle) rest) ≡ (((b || has_number user rest) && (slot == x)) || has_idle x (g ∷ rest)) in
      let by : P (g.user == user) = elim (g.user == user) as P [
        | true ↦ λ e.
            let same : g.slot ≡ slot = eqb-true g.slot slot (sym (alone g here) ∙ e) in
            let Q : Bool → Type 0 = λ b. ((g.slot == x) || has_slot x more) ≡ ((slot == x) || has_slot x (cond b (g ∷ old) old)) in
            let now : Q (is_idle g) = elim (is_idle g) as Q [
              | true ↦ rw (later, same) (twice (slot == x) (has_number user rest) (has_slot x old))
              | false ↦ rw (later, same) (once (slot == x) (has_number user rest) (has_slot x old))
            ] in now
        | false ↦ λ e.
            let Q : Bool → Type 0 = λ b. has_slot x (cond b (g ∷ more) more) ≡ ((has_number user rest && (slot == x)) || has_slot x (cond b (g ∷ old) old)) in
            let stays : Q (is_idle g) = elim (is_idle g) as Q [
              | true ↦ ap (λ b. (g.slot == x) || b) later ∙ or_swap (g.slot == x) (has_number user rest && (slot == x)) (has_slot x old)
              | false ↦ later
            ] in stays
      ] in by refl
    where
      once : (a b c : Bool) → (a || ((b && a) || c)) ≡ (a || c)
      once true b c = refl
      once false true c = refl
      once false false c = refl

      twice : (a b c : Bool) → (a || ((b && a) || c)) ≡ (a || (a || c))
      twice true b c = refl
      twice false true c = refl
      twice false false c = refl

  -- behind its release nobody has the slot
  abbrev is_other : HeldUser → Bool
  is_other h = not (h.user == user)

  pub slot_without : (x : ℕ) (held : List HeldUser) → IsAlone held → has_slot x (filter is_other held) ≡ (has_slot x held && not (x == slot))
  slot_without x [] alone = refl
  slot_without x (g ∷ rest) alone =
      let later = slot_without x rest (λ f at. alone f (there at)) in
      let more = filter is_other rest in
      let P : Bool → Type 0 = λ b. (g.user == user) ≡ b → has_slot x (cond (not b) (g ∷ more) more) ≡ (((g.slot == x) || has_slot x rest) && not (x == slot)) in
      let by : P (g.user == user) = elim (g.user == user) as P [
        | true ↦ λ e. later ∙ sym (drops (g.slot == x) (has_slot x rest) (x == slot) (same_slot g x (sym (alone g here) ∙ e)))
        | false ↦ λ e.
            ap (λ b. (g.slot == x) || b) later
            ∙ keeps (g.slot == x) (has_slot x rest) (x == slot) (other_slot g x (sym (alone g here) ∙ e))
      ] in by refl

  pub idle_slot_without : (x : ℕ) (held : List HeldUser) → IsAlone held → has_idle x (filter is_other held) ≡ (has_idle x held && not (x == slot))
  idle_slot_without x [] alone = refl
  idle_slot_without x (g ∷ rest) alone =
      let later = idle_slot_without x rest (λ f at. alone f (there at)) in
      let more = filter is_other rest in
      let old = filter is_idle rest in
      let P : Bool → Type 0 = λ b. (g.user == user) ≡ b → has_idle x (cond (not b) (g ∷ more) more) ≡ (has_idle x (g ∷ rest) && not (x == slot)) in
      let by : P (g.user == user) = elim (g.user == user) as P [
        | true ↦ λ e.
            let same = same_slot g x (sym (alone g here) ∙ e) in
            let Q : Bool → Type 0 = λ b. has_idle x more ≡ (has_slot x (cond b (g ∷ old) old) && not (x == slot)) in
            let gone : Q (is_idle g) = elim (is_idle g) as Q [
              | true ↦ later ∙ sym (drops (g.slot == x) (has_slot x old) (x == slot) same)
              | false ↦ later
            ] in gone
        | false ↦ λ e.
            let apart = other_slot g x (sym (alone g here) ∙ e) in
            let Q : Bool → Type 0 = λ b. has_slot x (cond b (g ∷ filter is_idle more) (filter is_idle more)) ≡ (has_slot x (cond b (g ∷ old) old) && not (x == slot)) in
            let stays : Q (is_idle g) = elim (is_idle g) as Q [
              | true ↦ ap (λ b. (g.slot == x) || b) later ∙ keeps (g.slot == x) (has_slot x old) (x == slot) apart
              | false ↦ later
            ] in stays
      ] in by refl
