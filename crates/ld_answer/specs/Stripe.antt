-- What `stripe` prints, and why it is refused: in its first form, over weights.
use Rattle.std.specs.Prelude.{◌≡◌, ◌<◌, ◌≤◌, ℕ, List, length}
use Rattle.ld_stripe.specs.Striping.{IsStripingOf, Striping, owned_indices}
use Rattle.ld_stripe.specs.StripeFault as stripe
use Rattle.ld_stripe.specs.declared.fault.StripeFault.{StripeFault}
use Rattle.ld_answer.specs.Indices.{numbers_line}
use Rattle.ld_answer.specs.declared.refusal.Refusal.{Refusal}
use Rattle.ld_answer.specs.declared.refusal.Refusal.TheVariants.{Words, Stripe, NoSuchPosition, Segment, NotInSequence, Read, TooLong, Test, Plan, Memory}

-- the weights have a striping: no fault of theirs comes
abbrev pub IsAccepted : List ℕ → Type 0
IsAccepted weights = (f : StripeFault) → stripe.IsRefusal weights f → ⊥

-- it is refused so: first for its weights, then for its position
abbrev pub IsWeightsRefusal : List ℕ → ℕ → Refusal → Type 0
IsWeightsRefusal weights position (Stripe f) = stripe.IsRefusal weights f
IsWeightsRefusal weights position (NoSuchPosition p) =
    IsAccepted weights × (p ≡ position) × (length weights ≤ position)
IsWeightsRefusal weights position (Words place) = ⊥
IsWeightsRefusal weights position (Segment f) = ⊥
IsWeightsRefusal weights position NotInSequence = ⊥
IsWeightsRefusal weights position Read = ⊥
IsWeightsRefusal weights position (TooLong place) = ⊥
IsWeightsRefusal weights position (Test f) = ⊥
IsWeightsRefusal weights position (Plan f) = ⊥
IsWeightsRefusal weights position Memory = ⊥

-- its text: the line of the indices that the position owns in the weights' striping
pub record IsWeightsText (weights : List ℕ) (position count : ℕ) (text : List ℕ) : Type 0 where
  pub accepted : IsAccepted weights
  pub inside : position < length weights
  pub striping : Striping
  pub striped : IsStripingOf weights striping
  pub text_is : text ≡ numbers_line (owned_indices striping.owners position count)
