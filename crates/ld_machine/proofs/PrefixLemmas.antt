-- Which entries are prefixes of legal histories, and which is the first illegal one.
use Rattle.std.proofs.Common.{◌≡◌, ◌≤◌, ◌<◌, ◌+◌, ◌∙◌, ℕ, zero, suc, Bool, true, false, cond, not, ◌&&◌, ◌||◌, List, [], ◌∷◌, ◌++◌, Option, None, Some, find, take, drop, length, arith, refl, ap, sym, subst, inl, inr, ◌⊎◌}
use Rattle.std.specs.List.{range_with_len}
use Rattle.std.specs.Option.{option_or}
use Rattle.std.proofs.Math.Seq.{take-length}
use Rattle.std.proofs.lemmas.List.{append_assoc, append-nil, take-append-drop}
use Rattle.ld_base.specs.declared.entry.Entry.{Entry}
use Rattle.ld_machine.specs.Plan.{Plan}
use Rattle.ld_machine.specs.State.{State, opening}
use Rattle.ld_machine.specs.Effect.{after_entry}
use Rattle.ld_machine.specs.Same.{same_entries}
use Rattle.ld_machine.specs.Step.{Result}
use Rattle.ld_machine.specs.History.{results_for, adds_one, adds_two, are_steps, is_first_of_two, begins_two, are_front, is_front, first_beyond, first_illegal, is_legal, IsLegal}
use Rattle.ld_machine.specs.Prefixes.{IsPrefix, IsFirstBeyond, IsFirstIllegal}
use Rattle.ld_machine.proofs.ListLemmas.{In-from_any, any-from_In, both_true, some_true}
use Rattle.ld_machine.proofs.SameLemmas.{itself_entries, same_entry_tells}
use Rattle.ld_machine.proofs.FrontLemmas.{one_more, two_more, two_begin}

-- ---- what begins two entries goes on with the second

-- the two entries of a step that begins with this one
second_of : (one : Entry) (entries : List Entry) → is_first_of_two one entries ≡ true → (two : Entry) × (entries ≡ one ∷ two ∷ [])
second_of one [] h = absurd (cc)
second_of one (a ∷ []) h = absurd (cc)
second_of one (a ∷ b ∷ []) h = (b, ap (λ x. x ∷ b ∷ []) (same_entry_tells a one h))
second_of one (a ∷ b ∷ c ∷ rest) h = absurd (cc)

begun_two : (plan : Plan) (state : State) (one : Entry) → begins_two plan state one ≡ true → (two : Entry) × (adds_two plan state one two ≡ true)
begun_two plan state one h =
    let found = In-from_any (λ (r : Result). is_first_of_two one r.entries) (results_for plan state one) h in
    let second = second_of one found.0.entries found.2 in
    let same : same_entries found.0.entries (one ∷ second.0 ∷ []) ≡ true =
    subst (λ es. same_entries es (one ∷ second.0 ∷ []) ≡ true) (sym second.1) (itself_entries (one ∷ second.0 ∷ [])) in
    (second.0, any-from_In (λ (r : Result). same_entries r.entries (one ∷ second.0 ∷ [])) found.0 found.1 same)

-- ---- the test of fronts, from any state on

-- entries that pass it go on to those of whole steps
goes_on_from : (plan : Plan) (history : List Entry) (state : State) → are_front plan state history ≡ true →
    (rest : List Entry) × (are_steps plan state (history ++ rest) ≡ true)
goes_on_from plan [] state h = ([], refl)
goes_on_from plan (one ∷ []) state h =
    elim (some_true (adds_one plan state one) (begins_two plan state one) h) [
      | inl whole ↦ ([], whole)
      | inr half ↦ let second = begun_two plan state one half in (second.0 ∷ [], two_more plan state one second.0 [] second.1 refl)
    ]
goes_on_from plan (one ∷ two ∷ rest) state h =
    elim (some_true (adds_one plan state one && are_front plan (after_entry plan state one) (two ∷ rest)) _ h) [
      | inl first ↦
          let both = both_true (adds_one plan state one) _ first in
          let more = goes_on_from plan (two ∷ rest) (after_entry plan state one) both.1 in
          (more.0, one_more plan state one (two ∷ (rest ++ more.0)) both.0 more.1)
      | inr second ↦
          let both = both_true (adds_two plan state one two) _ second in
          let more = goes_on_from plan rest (after_entry plan (after_entry plan state one) two) both.1 in
          (more.0, two_more plan state one two (rest ++ more.0) both.0 more.1)
    ]

either : (a b : Bool) → (a ≡ true) ⊎ (b ≡ true) → (a || b) ≡ true
either true b h = refl
either false b (inl h) = absurd (cc)
either false b (inr h) = h

-- and what goes on so passes it
passes_front : (plan : Plan) (history rest : List Entry) (state : State) → are_steps plan state (history ++ rest) ≡ true →
    are_front plan state history ≡ true
passes_front plan [] rest state h = refl
passes_front plan (one ∷ []) [] state h = either (adds_one plan state one) (begins_two plan state one) (inl h)
passes_front plan (one ∷ []) (two ∷ rest) state h =
    elim (some_true (adds_one plan state one && are_steps plan (after_entry plan state one) (two ∷ rest)) _ h) [
      | inl first ↦ either (adds_one plan state one) (begins_two plan state one) (inl (both_true (adds_one plan state one) _ first).0)
      | inr second ↦
          either (adds_one plan state one) (begins_two plan state one)
          (inr (two_begin plan state one two (both_true (adds_two plan state one two) _ second).0))
    ]
passes_front plan (one ∷ two ∷ front) rest state h =
    elim (some_true (adds_one plan state one && are_steps plan (after_entry plan state one) (two ∷ (front ++ rest))) _ h) [
      | inl first ↦
          let both = both_true (adds_one plan state one) _ first in
          let later = passes_front plan (two ∷ front) rest (after_entry plan state one) both.1 in
          either (adds_one plan state one && are_front plan (after_entry plan state one) (two ∷ front)) _ (inl (rw (both.0, later) refl))
      | inr second ↦
          let both = both_true (adds_two plan state one two) _ second in
          let later = passes_front plan front rest (after_entry plan (after_entry plan state one) two) both.1 in
          either (adds_one plan state one && are_front plan (after_entry plan state one) (two ∷ front)) _ (inr (rw (both.0, later) refl))
    ]

pub front_is_prefix : (plan : Plan) (history : List Entry) → is_front plan history ≡ true → IsPrefix plan history
front_is_prefix plan history h = goes_on_from plan history (opening plan) h

pub prefix_is_front : (plan : Plan) (history : List Entry) → IsPrefix plan history → is_front plan history ≡ true
prefix_is_front plan history prefix = passes_front plan history prefix.0 (opening plan) prefix.1

not_front : (plan : Plan) (history : List Entry) → (IsPrefix plan history → ⊥) → is_front plan history ≡ false
not_front plan history fails =
    let P : Bool → Type 0 = λ b. is_front plan history ≡ b → is_front plan history ≡ false in
    let from : P (is_front plan history) = elim (is_front plan history) as P [
      | true ↦ λ e. absurd (fails (front_is_prefix plan history e))
      | false ↦ λ e. e
    ] in from refl

no_prefix : (plan : Plan) (history : List Entry) → is_front plan history ≡ false → IsPrefix plan history → ⊥
no_prefix plan history fails prefix = let passes = prefix_is_front plan history prefix in cc

-- ---- the first number that fails a test

-- of the numbers from a on, as many as `count`, this is the first that fails
record FirstToFail (p : ℕ → Bool) (a count n : ℕ) : Type 0 where
  pub from : a ≤ n
  pub below : n < a + count
  pub fails : p n ≡ false
  pub before : (j : ℕ) → a ≤ j → j < n → p j ≡ true

equal_or_above : (a j : ℕ) → a ≤ j → (a ≡ j) ⊎ (a + 1 ≤ j)
equal_or_above zero zero h = inl refl
equal_or_above zero (suc j) h = inr (omega arith)
equal_or_above (suc a) zero h = absurd (omega arith)
equal_or_above (suc a) (suc j) h =
    elim (equal_or_above a j (omega arith)) [ inl e ↦ inl (ap suc e) | inr above ↦ inr (omega arith) ]

found_first : (p : ℕ → Bool) (count a n : ℕ) → find (λ k. not (p k)) (range_with_len a count) ≡ Some n → FirstToFail p a count n
found_first p zero a n h = absurd (cc)
found_first p (suc count) a n h =
    let P : Bool → Type 0 = λ b. p a ≡ b → cond (not b) (Some a) (find (λ k. not (p k)) (range_with_len (a + 1) count)) ≡ Some n → FirstToFail p a (suc count) n in
    let found : P (p a) = elim (p a) as P [
      | true ↦ λ e is.
          let later = found_first p count (a + 1) n is in
          let from = later.from in
          let below = later.below in
          record {
            from = omega arith;
            below = omega arith;
            fails = later.fails;
            before = λ j above under.
                elim (equal_or_above a j above) [
                  | inl same ↦ subst (λ k. p k ≡ true) same e
                  | inr more ↦ later.before j more under
                ];
          }
      | false ↦ λ e is.
          let same : a ≡ n = cc in
          record {
            from = omega arith;
            below = omega arith;
            fails = subst (λ k. p k ≡ false) same e;
            before = λ j above under. absurd (omega arith);
          }
    ] in found refl h

none_fails : (p : ℕ → Bool) (count a : ℕ) → find (λ k. not (p k)) (range_with_len a count) ≡ None → (j : ℕ) → a ≤ j → j < a + count → p j ≡ true
none_fails p zero a h j above below = absurd (omega arith)
none_fails p (suc count) a h j above below =
    let P : Bool → Type 0 = λ b. p a ≡ b → cond (not b) (Some a) (find (λ k. not (p k)) (range_with_len (a + 1) count)) ≡ None → p j ≡ true in
    let all : P (p a) = elim (p a) as P [
      | true ↦ λ e is.
          elim (equal_or_above a j above) [
            | inl same ↦ subst (λ k. p k ≡ true) same e
            | inr more ↦ none_fails p count (a + 1) is j more (omega arith)
          ]
      | false ↦ λ e is. absurd (cc)
    ] in all refl h

finds_first : (p : ℕ → Bool) (count a n : ℕ) → FirstToFail p a count n → find (λ k. not (p k)) (range_with_len a count) ≡ Some n
finds_first p zero a n first =
    let from = first.from in
    let below = first.below in
    absurd (omega arith)
finds_first p (suc count) a n first =
    elim (equal_or_above a n first.from) [
      | inl same ↦ let fails : p a ≡ false = subst (λ k. p k ≡ false) (sym same) first.fails in rw fails (ap Some same)
      | inr more ↦
          let below = first.below in
          let passes : p a ≡ true = first.before a (omega arith) (omega arith) in
          let later = finds_first p count (a + 1) n (record {
            from = more;
            below = omega arith;
            fails = first.fails;
            before = λ j above under. first.before j (omega arith) under;
          }) in
          rw passes later
    ]

finds_none : (p : ℕ → Bool) (count a : ℕ) → ((j : ℕ) → a ≤ j → j < a + count → p j ≡ true) → find (λ k. not (p k)) (range_with_len a count) ≡ None
finds_none p zero a all = refl
finds_none p (suc count) a all =
    let passes : p a ≡ true = all a (omega arith) (omega arith) in
    let later = finds_none p count (a + 1) (λ j above below. all j (omega arith) (omega arith)) in
    rw passes later

-- ---- the first entry beyond

pub beyond_tells : (plan : Plan) (history : List Entry) (turn : ℕ) → first_beyond plan history ≡ Some turn → IsFirstBeyond plan history turn
beyond_tells plan history turn h =
    let first = found_first (λ n. is_front plan (take n history)) (length history) 1 turn h in
    let below = first.below in
    record {
      least = first.from;
      most = omega arith;
      beyond = no_prefix plan (take turn history) first.fails;
      before = λ k under. before k under first.before;
    }
  where
    before : (k : ℕ) → k < turn → ((j : ℕ) → 1 ≤ j → j < turn → is_front plan (take j history) ≡ true) → IsPrefix plan (take k history)
    before zero under all = ([], refl)
    before (suc k) under all = front_is_prefix plan (take (suc k) history) (all (suc k) (omega arith) under)

pub beyond_told : (plan : Plan) (history : List Entry) (turn : ℕ) → IsFirstBeyond plan history turn → first_beyond plan history ≡ Some turn
beyond_told plan history turn first =
    let most = first.most in
    finds_first (λ n. is_front plan (take n history)) (length history) 1 turn (record {
      from = first.least;
      below = omega arith;
      fails = not_front plan (take turn history) first.beyond;
      before = λ j above under. prefix_is_front plan (take j history) (first.before j under);
    })

-- all entries up to one of a prefix are a prefix
shorter : (plan : Plan) (history : List Entry) (k : ℕ) → IsPrefix plan history → IsPrefix plan (take k history)
shorter plan history k prefix =
    (drop k history ++ prefix.0, subst (λ es. IsLegal plan es) (sym (cut k history prefix.0)) prefix.1)
  where
    cut : (k : ℕ) (history rest : List Entry) → take k history ++ (drop k history ++ rest) ≡ history ++ rest
    cut k history rest =
        sym (append_assoc (take k history) (drop k history) rest) ∙ ap (λ es. es ++ rest) (take-append-drop k history)

pub no_beyond_tells : (plan : Plan) (history : List Entry) → first_beyond plan history ≡ None → IsPrefix plan history
no_beyond_tells plan [] h = ([], refl)
no_beyond_tells plan (one ∷ rest) h =
    let all = none_fails (λ n. is_front plan (take n (one ∷ rest))) (length (one ∷ rest)) 1 h (length (one ∷ rest)) (omega arith) (omega arith) in
    front_is_prefix plan (one ∷ rest) (subst (λ es. is_front plan es ≡ true) (take-length (one ∷ rest)) all)

pub no_beyond_told : (plan : Plan) (history : List Entry) → IsPrefix plan history → first_beyond plan history ≡ None
no_beyond_told plan history prefix =
    finds_none (λ n. is_front plan (take n history)) (length history) 1
    (λ j above below. prefix_is_front plan (take j history) (shorter plan history j prefix))

-- ---- the first illegal entry

legal_is_prefix : (plan : Plan) (history : List Entry) → IsLegal plan history → IsPrefix plan history
legal_is_prefix plan history legal = ([], subst (λ es. IsLegal plan es) (sym (append-nil history)) legal)

pub illegal_tells : (plan : Plan) (history : List Entry) (turn : ℕ) → first_illegal plan history ≡ Some turn → IsFirstIllegal plan history turn
illegal_tells plan history turn h =
    let P : Option ℕ → Type 0 = λ o. first_beyond plan history ≡ o →
    option_or o (cond (is_legal plan history) None (Some (length history))) ≡ Some turn → IsFirstIllegal plan history turn in
    let Q : Bool → Type 0 = λ b. is_legal plan history ≡ b → first_beyond plan history ≡ None →
    cond b None (Some (length history)) ≡ Some turn → IsFirstIllegal plan history turn in
    let short : Q (is_legal plan history) = elim (is_legal plan history) as Q [
      | true ↦ λ e whole is. absurd (cc)
      | false ↦ λ e whole is. inr (record { prefix = no_beyond_tells plan history whole; illegal = λ legal. cc; last = cc })
    ] in
    let found : P (first_beyond plan history) = elim (first_beyond plan history) as P [
      | None ↦ λ e is. short refl e is
      | Some n ↦ λ e is. let same : n ≡ turn = cc in inl (beyond_tells plan history turn (e ∙ ap Some same))
    ] in found refl h

pub illegal_told : (plan : Plan) (history : List Entry) (turn : ℕ) → IsFirstIllegal plan history turn → first_illegal plan history ≡ Some turn
illegal_told plan history turn (inl first) = rw (beyond_told plan history turn first) refl
illegal_told plan history turn (inr short) =
    let illegal : is_legal plan history ≡ false = not_legal (is_legal plan history) refl in
    rw (no_beyond_told plan history short.prefix, illegal) (ap Some (sym short.last))
  where
    not_legal : (b : Bool) → is_legal plan history ≡ b → is_legal plan history ≡ false
    not_legal true e = absurd (short.illegal e)
    not_legal false e = e

pub no_illegal_tells : (plan : Plan) (history : List Entry) → first_illegal plan history ≡ None → IsLegal plan history
no_illegal_tells plan history h =
    let P : Option ℕ → Type 0 = λ o. option_or o (cond (is_legal plan history) None (Some (length history))) ≡ None → IsLegal plan history in
    let Q : Bool → Type 0 = λ b. is_legal plan history ≡ b → cond b None (Some (length history)) ≡ None → IsLegal plan history in
    let legal : Q (is_legal plan history) = elim (is_legal plan history) as Q [ true ↦ λ e is. e | false ↦ λ e is. absurd (cc) ] in
    let found : P (first_beyond plan history) = elim (first_beyond plan history) as P [
      | None ↦ λ is. legal refl is
      | Some n ↦ λ is. absurd (cc)
    ] in found h

pub no_illegal_told : (plan : Plan) (history : List Entry) → IsLegal plan history → first_illegal plan history ≡ None
no_illegal_told plan history legal =
    rw (no_beyond_told plan history (legal_is_prefix plan history legal), legal) refl
