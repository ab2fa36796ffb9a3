-- The options have no plan.
use Rattle.std.proofs.Common.{inr, refl}
use Rattle.ld_answer.specs.Planned.{RefusesTest}
use Rattle.ld_answer.proofs.FaultLemmas.{handed_on, plan_fault}
use Rattle.ld_answer.proofs.test_file.plan_of_test.Goals as goal

pub returns-in_err-of : goal.returns-in_err-of
returns-in_err-of c =
    handed_on _ _ _ _ c.from_residual-in_err-of.ensures
    (plan_fault (RefusesTest c.args.test.now c.args.limit c.args.part c.args.whole) c.in_err-of.field-0.0
    (λ named. record {
      cause = inr (
        c.in_err-of.field-0.0,
        refl,
        record {
          options = c.in_ok-options.options;
          options_are = c.in_ok-options.ensures.value;
          refused = c.in_err-of.ensures.refused named;
        },
      );
    }))
