-- The spans of turns, one span after another, and stages that fit, one stage after another.
use Rattle.std.proofs.Common.{◌≡◌, ◌<◌, ◌≤◌, ◌++◌, Bool, ℕ, List, [], ◌∷◌, Option, Some, None, cond, ap, refl}
use Rattle.std.proofs.lemmas.Bool.{le-ltb, lt-ltb}
use Rattle.ld_ramping.specs.declared.interval.Interval.{Interval}
use Rattle.ld_ramping.specs.Intervals.{paired, spans}
use Rattle.ld_ramping.specs.Turns.{listed}

-- the span between two turns, if it is kept
either : Bool → (on off : ℕ) (rest : List ℕ) → List Interval
either kept on off rest = cond kept (record { on = on; off = off } ∷ spans rest) (spans rest)

pub span_kept : (on off : ℕ) (rest : List ℕ) → on < off →
    spans (on ∷ off ∷ rest) ≡ record { on = on; off = off } ∷ spans rest
unfolding either paired
span_kept on off rest less = ap (λ kept. either kept on off rest) (lt-ltb on off less)

pub span_left_out : (on off : ℕ) (rest : List ℕ) → off ≤ on → spans (on ∷ off ∷ rest) ≡ spans rest
unfolding either paired
span_left_out on off rest less = ap (λ kept. either kept on off rest) (le-ltb on off less)

-- a turn that nothing follows begins no span
pub span_open : (since : Option ℕ) → spans (listed since ++ []) ≡ []
unfolding paired
span_open None = refl
span_open (Some on) = refl
