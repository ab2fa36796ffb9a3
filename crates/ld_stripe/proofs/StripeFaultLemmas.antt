-- Weights that are accepted have no refusal.
use Rattle.std.proofs.Common.{◌≡◌, ◌<◌, ◌≤◌, ℕ, List, arith, ap}
use Rattle.std.specs.Prelude.{None, length, sum}
use Rattle.ld_stripe.specs.Striping.{IsLowestTerms}
use Rattle.ld_stripe.specs.StripeFault.{AreCounted, IsRefusal, first_zero, greatest_period}
use Rattle.ld_stripe.specs.declared.fault.StripeFault.{StripeFault}
use Rattle.ld_stripe.specs.declared.fault.StripeFault.TheVariants.{NoWeights, TooMany, ZeroWeight, PeriodTooLarge, Memory}
use Rattle.ld_stripe.proofs.LowestTermsLemmas.{one_form}

pub not_refused : (weights reduced : List ℕ) → AreCounted weights → first_zero weights ≡ None → 0 < sum weights →
    IsLowestTerms weights reduced → sum reduced ≤ greatest_period →
    (fault : StripeFault) → IsRefusal weights fault → ⊥
not_refused weights reduced counted no_zero some terms small NoWeights refusal =
    let none = ap length refusal in
    let one = counted.some in
    omega arith
not_refused weights reduced counted no_zero some terms small TooMany refusal =
    let few = counted.few in
    omega arith
not_refused weights reduced counted no_zero some terms small (ZeroWeight p) refusal = cc (no_zero, refusal.1)
not_refused weights reduced counted no_zero some terms small (PeriodTooLarge n) refusal =
    let same = ap sum (one_form weights reduced refusal.2.0 some terms refusal.2.1) in
    let large = refusal.2.2 in
    omega arith
not_refused weights reduced counted no_zero some terms small Memory refusal = refusal
