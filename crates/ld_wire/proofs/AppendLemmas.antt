-- How far the writing of a request has come.
use Rattle.std.proofs.Common.{◌≡◌, ◌∙◌, ◌++◌, ℕ, true, List, length, map, ap, append_assoc}
use Rattle.std.proofs.lemmas.Bool.{cond-true}
use Rattle.std.proofs.lemmas.List.{append-nil}
use Rattle.std.specs.List.{concat}
use Rattle.std.specs.Prelude.{OnErr, Result, Ok, Err, codes, decimal}
use Rattle.ld_base.specs.declared.request.RequestSpec.{RequestSpec}
use Rattle.ld_line.specs.Line.{Grows}
use Rattle.ld_wire.specs.Request.{content_of, ended_header, length_headers, tells_length}

-- more behind what was appended
pub grows_behind : (a b c front : List ℕ) → b ≡ a ++ front → Grows b c → Grows a c
grows_behind a b c front is grows = (front ++ grows.0, grows.1 ∙ ap (λ t. t ++ grows.0) is ∙ append_assoc a front grows.0)

-- what holds is also said of a failure
pub on_err : {T E P : Type 0} (result : Result T E) → P → OnErr result P
on_err (Ok _) holds = tt
on_err (Err _) holds = holds

-- the line that tells the length, where it is told
pub length_line : (spec : RequestSpec) → tells_length spec ≡ true →
    concat (map ended_header (length_headers spec)) ≡ ended_header (codes "Content-Length", decimal (length (content_of spec)))
length_line spec told =
    ap (λ hs. concat (map ended_header hs)) (cond-true _ _ _ told)
    ∙ append-nil (ended_header (codes "Content-Length", decimal (length (content_of spec))))
