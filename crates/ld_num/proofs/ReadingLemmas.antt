-- What a text's shape says of the text.
use Rattle.std.proofs.Common.{◌≡◌, ◌≢◌, ◌<◌, ℕ, List, [], length, arith, ap, sym, subst}
use Rattle.std.specs.Prelude.{Result, Ok, Err, IfOk, IfErr}
use Rattle.ld_num.specs.Written.{Written, IsWritten, InDigits, longest_run, denominator}
use Rattle.ld_num.specs.Reading.{IsValueOf, IsRefusal}
use Rattle.ld_num.specs.Shape.{shape_of, Faults, Reads}
use Rattle.ld_num.specs.declared.fraction.Frac.{Frac}
use Rattle.ld_num.specs.declared.fault.NumFault.{NumFault}
use Rattle.ld_num.specs.declared.fault.NumFault.TheVariants.{Empty, BadDigit, ZeroDenominator, TooLarge, BadUnit, NotWhole, Memory}
use Rattle.ld_num.proofs.ShapeLemmas.{has_shape, shape_spelled}

written_so : (text : List ℕ) → InDigits (shape_of text) → IsWritten text (shape_of text)
written_so text digits = record { spelled = shape_spelled text; in_digits = digits }

pub value_read : (text : List ℕ) (result : Result Frac NumFault) → Reads (shape_of text) result →
    IfOk result (λ q. (w : Written) × IsWritten text w × IsValueOf w q)
value_read text (Ok q) reads = (shape_of text, written_so text reads.in_digits, reads)
value_read text (Err f) reads = tt

not_refused : (text : List ℕ) (q : Frac) → text ≢ [] → IsValueOf (shape_of text) q →
    (fault : NumFault) → IsRefusal text fault → ⊥
not_refused text q some value Empty refusal = some refusal
not_refused text q some value BadDigit refusal = refusal.1 (shape_of text) (written_so text value.in_digits)
not_refused text q some value TooLarge refusal =
    let short = value.short in
    let same = ap longest_run (has_shape text refusal.0 refusal.1) in
    let long = refusal.2 in
    omega arith
not_refused text q some value ZeroDenominator refusal =
    let positive = value.positive in
    let same = ap denominator (has_shape text refusal.0 refusal.1) in
    let none = refusal.3 in
    omega arith
not_refused text q some value BadUnit refusal = refusal
not_refused text q some value NotWhole refusal = refusal
not_refused text q some value Memory refusal = refusal

pub accepted : (text : List ℕ) (result : Result Frac NumFault) → text ≢ [] → Reads (shape_of text) result →
    IfOk result (λ _. (f : NumFault) → IsRefusal text f → ⊥)
accepted text (Ok q) some reads = not_refused text q some reads
accepted text (Err f) some reads = tt

is_refused : (text : List ℕ) (fault : NumFault) → text ≢ [] → Faults (shape_of text) fault → IsRefusal text fault
is_refused text Empty some faults = absurd faults
is_refused text BadDigit some faults =
    (some, λ written is. faults (subst InDigits (sym (has_shape text written is)) is.in_digits))
is_refused text TooLarge some faults = (shape_of text, written_so text faults.0, faults.1)
is_refused text ZeroDenominator some faults = (shape_of text, written_so text faults.0, faults.1, faults.2)
is_refused text BadUnit some faults = faults
is_refused text NotWhole some faults = faults
is_refused text Memory some faults = faults

pub refused : (text : List ℕ) (result : Result Frac NumFault) → text ≢ [] → Reads (shape_of text) result →
    IfErr result (λ f. IsRefusal text f)
refused text (Ok q) some reads = tt
refused text (Err f) some reads = is_refused text f some reads

pub some_from_length : (text : List ℕ) → 0 < length text → text ≢ []
some_from_length text some is = let none : length text ≡ 0 = ap length is in absurd (omega arith)
