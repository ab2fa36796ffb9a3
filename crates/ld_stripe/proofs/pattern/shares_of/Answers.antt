use Rattle.std.proofs.Common.{◌≡◌, ◌∙◌, ◌++◌, ◌∷◌, [], ℕ, List, length, map, arith, ap, ap₂, sym}
use Rattle.std.specs.Prelude.{sum}
use Rattle.std.specs.List.{range_with_len}
use Rattle.std.proofs.lemmas.List.FromFn.{length-map-range_with_len, map-range_with_len_more}
use Rattle.ld_stripe.specs.Striping.{share_at}
use Rattle.ld_stripe.proofs.StripingLaws.{shares_sum}
use Rattle.ld_stripe.proofs.pattern.shares_of.Goals as goal

pub loop-position-preserved : goal.loop-position-preserved
loop-position-preserved c =
    c.in_ok-push.ensures.items
    ∙ ap₂ (λ (xs : List ℕ) (x : ℕ). xs ++ x ∷ []) c.loop-position.invariant c.share_of.ensures
    ∙ sym (map-range_with_len_more (λ j. share_at c.args.owners.now j c.args.v) 0 c.loop-position.position c.loop-position.position (omega arith))

pub returns-clause-total : goal.returns-clause-total
returns-clause-total c =
    let past = c.loop-position-test.false in
    let period = c.requires.striping.period in
    let whole : c.loop-position.position ≡ length c.args.weights.now = omega arith in
    ap sum c.loop-position.invariant
    ∙ ap (λ n. sum (map (λ j. share_at c.args.owners.now j c.args.v) (range_with_len 0 n))) whole
    ∙ shares_sum c.args.weights.now c.args.owners.now c.requires.striping (omega arith) c.args.v

pub returns-clause-each : goal.returns-clause-each
returns-clause-each c =
    let past = c.loop-position-test.false in
    let same = ap length c.loop-position.invariant in
    let long = length-map-range_with_len (λ j. share_at c.args.owners.now j c.args.v) 0 c.loop-position.position in
    omega arith
