use Rattle.std.proofs.Common.{◌++◌, ◌∙◌, ap}
use Rattle.ld_machine.specs.Scenario.{Scenario}
use Rattle.ld_machine.specs.Wait.{scenario_moments, untils}
use Rattle.ld_machine.specs.Together.{lesser, least_with_untils}
use Rattle.ld_machine.proofs.CandidateLemmas.{flat-snoc, flat-cons, above-append}
use Rattle.ld_machine.proofs.together.least_moment_steps.Goals as goal

pub returns-clause-back : goal.returns-clause-back
returns-clause-back c t = flat-snoc t scenario_moments

pub returns-clause-front : goal.returns-clause-front
returns-clause-front c t = flat-cons t scenario_moments

pub returns-clause-back_with_untils : goal.returns-clause-back_with_untils
returns-clause-back_with_untils c t front s =
    flat-snoc t (λ (x : Scenario). scenario_moments x ++ untils x.share) front s
    ∙ ap (λ o. lesser (least_with_untils t front) o) (above-append t (scenario_moments s) (untils s.share))

pub returns-clause-front_with_untils : goal.returns-clause-front_with_untils
returns-clause-front_with_untils c t s rest =
    flat-cons t (λ (x : Scenario). scenario_moments x ++ untils x.share) s rest
    ∙ ap (λ o. lesser o (least_with_untils t rest)) (above-append t (scenario_moments s) (untils s.share))
