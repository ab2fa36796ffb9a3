-- `stripe` over weights has one answer.
use Rattle.std.proofs.Common.{◌≡◌, ◌<◌, ◌∷◌, ◌∙◌, [], ℕ, suc, List, length, arith, sym, subst, ap, cond}
use Rattle.std.proofs.lemmas.Bool.{lt-ltb}
use Rattle.std.proofs.Math.Decide.{dec_lt}
use Rattle.std.proofs.lemmas.List.Sums.{sum_by-cons}
use Rattle.std.specs.Prelude.{Some, None, sum}
use Rattle.ld_stripe.specs.StripeFault as stripe
use Rattle.ld_stripe.specs.Striping.{IsStriping, IsStripingOf, Striping, owned_indices}
use Rattle.ld_stripe.specs.declared.fault.StripeFault.TheVariants as fault
use Rattle.ld_stripe.proofs.LowestTermsLemmas.{one_form}
use Rattle.ld_stripe.proofs.StripingLaws.{striping_unique}
use Rattle.ld_answer.specs.Indices.{numbers_line}
use Rattle.ld_answer.specs.Stripe.{IsAccepted, IsWeightsRefusal, IsWeightsText}
use Rattle.ld_answer.specs.declared.refusal.Refusal.{Refusal}
use Rattle.ld_answer.specs.declared.refusal.Refusal.TheVariants.{Words, Stripe, NoSuchPosition, Segment, NotInSequence, Read, TooLong, Test, Plan, Memory}

-- weights that have a text aren't refused
pub weights_text_not_refused : (weights : List ℕ) (position count : ℕ) (text : List ℕ) (r : Refusal) →
    IsWeightsText weights position count text → IsWeightsRefusal weights position r → ⊥
weights_text_not_refused weights position count text (Words place) has refused = refused
weights_text_not_refused weights position count text (Stripe f) has refused = let accepted = has.accepted in accepted f refused
weights_text_not_refused weights position count text (NoSuchPosition p) has refused =
    let inside = has.inside in
    let outside = refused.2 in
    omega arith
weights_text_not_refused weights position count text (Segment f) has refused = refused
weights_text_not_refused weights position count text NotInSequence has refused = refused
weights_text_not_refused weights position count text Read has refused = refused
weights_text_not_refused weights position count text (TooLong place) has refused = refused
weights_text_not_refused weights position count text (Test f) has refused = refused
weights_text_not_refused weights position count text (Plan f) has refused = refused
weights_text_not_refused weights position count text Memory has refused = refused

-- weights that sum to nothing are refused
sum_above_zero : (weights : List ℕ) → 0 < length weights → IsAccepted weights → 0 < sum weights
sum_above_zero [] some accepted = absurd (omega arith)
sum_above_zero (w ∷ ws) some accepted =
    let split = sum_by-cons (λ x. x) w ws in
    elim (dec_lt 0 w) [
      | yes above ↦ omega arith
      | no zero ↦
          let none : w ≡ 0 = omega arith in
          absurd (elim (dec_lt stripe.most_weights (length (w ∷ ws))) [
            | yes many ↦ accepted fault.TooMany many
            | no few ↦ accepted (fault.ZeroWeight 0) (
              record { some = some; few = omega arith },
              subst (λ v. stripe.first_zero (v ∷ ws) ≡ Some 0) (sym none)
                  (ap (λ b. cond b (Some 0) None) (lt-ltb 0 (suc (length ws)) (omega arith))),
            )
          ])
    ]

-- weights that aren't all zero have one striping
pub same_owners : (weights : List ℕ) (a b : Striping) → 0 < sum weights → IsStripingOf weights a → IsStripingOf weights b → a.owners ≡ b.owners
same_owners weights a b some of_a of_b =
    let form = one_form weights a.weights b.weights some of_a.lowest_terms of_b.lowest_terms in
    striping_unique b.weights a.owners b.owners (subst (λ ws. IsStriping ws a.owners) form of_a.striping) of_b.striping

-- weights have one text
pub one_weights_text : (weights : List ℕ) (position count : ℕ) (a b : List ℕ) → IsWeightsText weights position count a →
    IsWeightsText weights position count b → a ≡ b
one_weights_text weights position count a b ha hb =
    let inside = ha.inside in
    let some = sum_above_zero weights (omega arith) ha.accepted in
    ha.text_is
    ∙ ap (λ os. numbers_line (owned_indices os position count)) (same_owners weights ha.striping hb.striping some ha.striped hb.striped)
    ∙ sym hb.text_is
