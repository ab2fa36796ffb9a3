-- A body, some bytes more at a time, by its framing.
use Rattle.std.proofs.Common.{◌≡◌, ◌<◌, ◌≤◌, ◌+◌, ◌-◌, ◌∙◌, ℕ, false, List, [], ◌++◌, length, take, arith, ap, sym, subst, refl, append-nil}
use Rattle.std.proofs.lemmas.List.{length-append, length-take-le, take_all}
use Rattle.ld_wire.specs.Body.{BodyTakes, InBytes, InClose}
use Rattle.ld_wire.specs.Head.{body_limit}
use Rattle.ld_wire.specs.Response.{IsBody}
use Rattle.ld_wire.specs.Standing.{InSize}
use Rattle.ld_wire.specs.declared.body_place.BodyPlace.{BodyPlace}
use Rattle.ld_wire.specs.declared.body_place.BodyPlace.TheVariants as places
use Rattle.ld_wire.specs.declared.body_place.BodyStep.{BodyStep}
use Rattle.ld_wire.specs.declared.framing.Follows.{Follows}
use Rattle.ld_wire.specs.declared.framing.Follows.TheVariants.{Bytes, Close}
use Rattle.ld_wire.proofs.StandingLemmas.{size_may_come}

abbrev pub body_step : ℕ → BodyPlace → BodyStep
body_step used place = record { used = used; place = place }

-- a body of a length ends
pub bytes_end : (left used number : ℕ) (held old new piece : List ℕ) → used ≤ length piece → left ≡ used → length old + left ≡ number
    → new ≡ old ++ take used piece → BodyTakes (Bytes number) (body_step used places.Whole) held new old piece
bytes_end left used number held old new piece inside all count same =
    let long = length-append old (take used piece) in
    let front = length-take-le used piece inside in
    record {
      inside = inside;
      all = λ other. absurd (other refl);
      stands = (omega arith, same);
    }

-- or goes on
pub bytes_go : (left used rest number : ℕ) (held old new piece : List ℕ) → used ≡ length piece → rest ≡ left - used → 0 < rest
    → length old + left ≡ number → new ≡ old ++ take used piece → BodyTakes (Bytes number) (body_step used (places.Bytes rest)) held new old piece
bytes_go left used rest number held old new piece all rest_is some count same =
    let long = length-append old (take used piece) in
    let front = length-take-le used piece (let i : used ≤ length piece = omega arith in i) in
    record {
      inside = omega arith;
      all = λ other. all;
      stands = record { number = number; framed = refl; count = omega arith; some = some; body_is = same };
    }

-- a body that ends with the close goes on
pub close_goes : (held old new piece : List ℕ) → length old + length piece ≤ body_limit → new ≡ old ++ piece
    → BodyTakes Close (body_step (length piece) places.Close) held new old piece
close_goes held old new piece short same =
    let all : take (length piece) piece ≡ piece = take_all (length piece) piece (omega arith) in
    let long = length-append old piece in
    let whole = ap (λ (t : List ℕ). length (old ++ t)) all in
    record {
      inside = omega arith;
      all = λ other. refl;
      stands = record {
        framed = refl;
        short = omega arith;
        body_is = same ∙ ap (λ (t : List ℕ). old ++ t) (sym all);
      };
    }

-- behind a whole body nothing is taken
pub none_taken : (framing : Follows) (held body text piece : List ℕ) → IsBody framing false text body
    → BodyTakes framing (body_step 0 places.Whole) held body text piece
none_taken framing held body text piece is =
    let P : List ℕ → Type 0 = λ t. IsBody framing false t body in
    record {
      inside = omega arith;
      all = λ other. absurd (other refl);
      stands = subst P (sym (append-nil text)) is;
    }

-- where chunks begin
pub chunks_begin : InSize [] [] []
chunks_begin = record {
  chunks = [];
  form = tt;
  short = omega arith;
  text_is = refl;
  body_is = refl;
  more = size_may_come;
}

-- what is taken of the bytes so far, where they are the text
pub bytes_taken : (framing : Follows) (left : ℕ) (step : BodyStep) (held old new text piece : List ℕ)
    → ((number : ℕ) (held : List ℕ) → length old + left ≡ number → BodyTakes (Bytes number) step held new old piece)
    → InBytes framing left old text → BodyTakes framing step held new text piece
bytes_taken framing left step held old new text piece takes is =
    let P : List ℕ → Type 0 = λ t. BodyTakes framing step held new t piece in
    let Q : Follows → Type 0 = λ f. BodyTakes f step held new old piece in
    let same = ap length is.body_is in
    let count = is.count in
    subst P is.body_is (subst Q (sym is.framed) (takes is.number held (omega arith)))

pub close_taken : (framing : Follows) (step : BodyStep) (held old new text piece : List ℕ)
    → ((held : List ℕ) → BodyTakes Close step held new old piece)
    → InClose framing old text → BodyTakes framing step held new text piece
close_taken framing step held old new text piece takes is =
    let P : List ℕ → Type 0 = λ t. BodyTakes framing step held new t piece in
    let Q : Follows → Type 0 = λ f. BodyTakes f step held new old piece in
    subst P is.body_is (subst Q (sym is.framed) (takes held))
