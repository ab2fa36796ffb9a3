-- The text of a test is short.
use Rattle.std.proofs.Common.{◌<◌, ◌≤◌, ◌^◌, ◌++◌, ◌∙◌, List, ℕ, ap, length, arith, subst, sym}
use Rattle.ld_words.specs.RateTest.{rate_test}
use Rattle.ld_answer.proofs.RehearsalLemmas.{test_short}
use Rattle.ld_answer.proofs.test_file.rate_test.Goals as goal

pub returns : goal.returns
returns c =
    let text = rate_test c.args.rate c.args.unit c.args.duration c.args.pre c.args.max in
    let is = c.in_ok-rate_test_text.ensures.ok ∙ ap (λ (front : List ℕ). front ++ text) c.new-text.ensures.items in
    let rate : c.args.rate < 2 ^ 64 = let fits = c.ranges.rate.fits in omega arith in
    let unit : c.args.unit < 2 ^ 64 = let fits = c.ranges.unit.fits in omega arith in
    let duration : c.args.duration < 2 ^ 64 = let fits = c.ranges.duration.fits in omega arith in
    let pre : c.args.pre < 2 ^ 64 = let fits = c.ranges.pre.fits in omega arith in
    let max : c.args.max < 2 ^ 64 = let fits = c.ranges.max.fits in omega arith in
    let short = test_short c.args.rate c.args.unit c.args.duration c.args.pre c.args.max rate unit duration pre max in
    (is, subst (λ (t : List ℕ). length t ≤ 1048576) (sym is) short)
