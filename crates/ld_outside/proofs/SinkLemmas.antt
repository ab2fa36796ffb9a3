-- A text is put piece by piece.
use Rattle.std.proofs.Common.{◌≡◌, ◌≤◌, ◌+◌, ◌++◌, ◌∙◌, ℕ, List, length, take, drop, arith, ap, sym, subst}
use Rattle.std.specs.Prelude.{Option, Some, None, Ok, IfSome, IsSomeAnd}
use Rattle.std.proofs.Math.Seq.{take-add}
use Rattle.std.proofs.lemmas.List.{append_assoc, length-drop}
use Rattle.ld_outside.specs.SinkView.{SinkView, Took}
use Rattle.ld_outside.specs.Sink.{IsPut}

-- the first `done` bytes of the text were taken, with no fault
pub record IsPutSoFar (first : SinkView) (text : List ℕ) (done : ℕ) (now : SinkView) : Type 0 where
  pub within : done ≤ length text
  pub took : Took first (take done text) now
  pub same : now.faults ≡ first.faults

-- what was taken after what was taken came behind it
took_both : (a b c : Option (List ℕ)) (xs ys : List ℕ) →
    IfSome b (λ now. IsSomeAnd a (λ before. now ≡ before ++ xs)) →
    IfSome c (λ now. IsSomeAnd b (λ before. now ≡ before ++ ys)) →
    IfSome c (λ now. IsSomeAnd a (λ before. now ≡ before ++ (xs ++ ys)))
took_both a b None xs ys first second = tt
took_both a None (Some now) xs ys first second = absurd second
took_both None (Some between) (Some now) xs ys first second = absurd first
took_both (Some before) (Some between) (Some now) xs ys first second =
    second ∙ ap (λ zs. zs ++ ys) first ∙ append_assoc before xs ys

-- one put more
pub put_more : (first : SinkView) (text : List ℕ) (done : ℕ) (now : SinkView) (piece : List ℕ) (n : ℕ) (next : SinkView) →
    IsPutSoFar first text done now → piece ≡ drop done text → IsPut now piece (Ok n) next →
    IsPutSoFar first text (done + n) next
put_more first text done now piece n next so_far is put =
    let length_left : length piece ≡ length (drop done text) = ap length is in
    let left = length-drop done text in
    let within = put.within in
    let before = so_far.within in
    let same = so_far.same in
    let counted = put.faults in
    record {
      within = omega arith;
      took = subst (λ zs. Took first zs next)
          (ap (λ p. take done text ++ take n p) is ∙ sym (take-add done n text))
          (took_both first.told now.told next.told (take done text) (take n piece) so_far.took put.took);
      same = counted ∙ same;
    }
