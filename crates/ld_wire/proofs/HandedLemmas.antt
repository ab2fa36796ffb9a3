-- A fault that a call hands on.
use Rattle.std.proofs.Common.{◌≡◌, sym, subst}
use Rattle.std.specs.Prelude.{IfErr, IsErr, IsErrAnd, Result, Ok, Err}
use Rattle.ld_wire.specs.declared.fault.WireFault.{WireFault}

pub handed : {T : Type 0} (P : WireFault → Type 0) (result : Result T WireFault) (fault : WireFault)
    → IsErr result × IsErrAnd result (λ f. f ≡ fault) → P fault → IfErr result P
handed P (Ok x) fault is holds = absurd (let e = is.0 in cc)
handed P (Err f) fault is holds = subst P (sym is.1) holds
