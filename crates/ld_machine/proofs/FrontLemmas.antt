-- Fronts of legal histories.
use Rattle.std.proofs.Common.{◌≡◌, Bool, true, false, ◌&&◌, ◌||◌, List, [], ◌∷◌, ◌++◌, refl, ap, sym, ◌∙◌, subst, inl, inr, ◌⊎◌}
use Rattle.ld_base.specs.declared.entry.Entry.{Entry}
use Rattle.ld_machine.specs.Plan.{Plan}
use Rattle.ld_machine.specs.State.{State}
use Rattle.ld_machine.specs.Effect.{after_entry, after_entries}
use Rattle.ld_machine.specs.Same.{same_entries}
use Rattle.ld_machine.specs.Step.{Result}
use Rattle.ld_machine.specs.History.{results_for, adds_one, adds_two, are_steps, is_first_of_two, begins_two}
use Rattle.ld_machine.proofs.ListLemmas.{In-from_any, any-from_In, both_true, some_true}
use Rattle.ld_machine.proofs.SameLemmas.{itself_entry, same_entries_tells}

-- from this state on the entries end between the two entries of one step
pub record Inside (plan : Plan) (state : State) (entries : List Entry) : Type 0 where
  pub before : List Entry
  pub one : Entry
  pub parts : entries ≡ before ++ one ∷ []
  pub legal : are_steps plan state before ≡ true
  pub begins : begins_two plan (after_entries plan state before) one ≡ true

-- what two entries of a step begin with begins two
pub two_begin : (plan : Plan) (state : State) (one two : Entry) → adds_two plan state one two ≡ true → begins_two plan state one ≡ true
two_begin plan state one two h =
    let found = In-from_any (λ (r : Result). same_entries r.entries (one ∷ two ∷ [])) (results_for plan state one) h in
    let same = same_entries_tells found.0.entries (one ∷ two ∷ []) found.2 in
    any-from_In (λ (r : Result). is_first_of_two one r.entries) found.0 found.1
    (subst (λ es. is_first_of_two one es ≡ true) (sym same) (itself_entry one))

pub one_more : (plan : Plan) (state : State) (one : Entry) (rest : List Entry) → adds_one plan state one ≡ true → are_steps plan (after_entry plan state one) rest ≡ true →
    are_steps plan state (one ∷ rest) ≡ true
one_more plan state one [] h later = h
one_more plan state one (two ∷ rest) h later = rw (h, later) refl

or_true : (a : Bool) → (a || true) ≡ true
or_true true = refl
or_true false = refl

pub two_more : (plan : Plan) (state : State) (one two : Entry) (rest : List Entry) → adds_two plan state one two ≡ true →
    are_steps plan (after_entry plan (after_entry plan state one) two) rest ≡ true → are_steps plan state (one ∷ two ∷ rest) ≡ true
two_more plan state one two rest h later =
    let both : (adds_two plan state one two && are_steps plan (after_entry plan (after_entry plan state one) two) rest) ≡ true = rw (h, later) refl in
    ap (λ b. (adds_one plan state one && are_steps plan (after_entry plan state one) (two ∷ rest)) || b) both ∙ or_true _

pub front_steps : (plan : Plan) (front rest : List Entry) (state : State) → are_steps plan state (front ++ rest) ≡ true →
    (are_steps plan state front ≡ true) ⊎ Inside plan state front
front_steps plan [] rest state h = inl refl
front_steps plan (one ∷ []) [] state h = inl h
front_steps plan (one ∷ []) (two ∷ rest) state h =
    elim (some_true (adds_one plan state one && are_steps plan (after_entry plan state one) (two ∷ rest)) _ h) [
      | inl first ↦ inl (both_true (adds_one plan state one) _ first).0
      | inr second ↦ inr (record {
        before = [];
        one = one;
        parts = refl;
        legal = refl;
        begins = two_begin plan state one two (both_true (adds_two plan state one two) _ second).0;
      })
    ]
front_steps plan (one ∷ two ∷ front) rest state h =
    elim (some_true (adds_one plan state one && are_steps plan (after_entry plan state one) (two ∷ (front ++ rest))) _ h) [
      | inl first ↦
          let both = both_true (adds_one plan state one) _ first in
          elim (front_steps plan (two ∷ front) rest (after_entry plan state one) both.1) [
            | inl whole ↦ inl (one_more plan state one (two ∷ front) both.0 whole)
            | inr inside ↦ inr (record {
              before = one ∷ inside.before;
              one = inside.one;
              parts = ap (λ es. one ∷ es) inside.parts;
              legal = one_more plan state one inside.before both.0 inside.legal;
              begins = inside.begins;
            })
          ]
      | inr second ↦
          let both = both_true (adds_two plan state one two) _ second in
          elim (front_steps plan front rest (after_entry plan (after_entry plan state one) two) both.1) [
            | inl whole ↦ inl (two_more plan state one two front both.0 whole)
            | inr inside ↦ inr (record {
              before = one ∷ two ∷ inside.before;
              one = inside.one;
              parts = ap (λ es. one ∷ two ∷ es) inside.parts;
              legal = two_more plan state one two inside.before both.0 inside.legal;
              begins = inside.begins;
            })
          ]
    ]
