use Rattle.ld_plan.proofs.RefusalLemmas.{accepted_not_refused}
use Rattle.ld_plan.proofs.plan.Plan.of.Goals as goal

pub invariant_of-result : goal.invariant_of-result
invariant_of-result c =
    record {
      segment = c.args.segment;
      entries = c.args.entries;
      least = c.requires.least;
      most = c.requires.most;
      sound = record {
        is_sequence = rw c.sequence.view_is at c.sequence.invariant;
        filled = c.requires.filled;
        in_range = c.in-Ok.ensures.owned.in_range;
      };
      is_plan = c.in-Ok.ensures.owned.is_plan;
      accepted = c.in-Ok.ensures.owned.accepted;
    }

pub returns-in-Ok-clause-plan : goal.returns-in-Ok-clause-plan
returns-in-Ok-clause-plan c = c.in-Ok.ensures.owned.is_plan

pub returns-in-Ok-clause-accepted : goal.returns-in-Ok-clause-accepted
returns-in-Ok-clause-accepted c = c.in-Ok.ensures.owned.accepted

pub returns-in-Ok-clause-unrefused : goal.returns-in-Ok-clause-unrefused
returns-in-Ok-clause-unrefused c = λ f.
    accepted_not_refused c.args.options c.args.segment c.args.sequence c.args.entries
    (record {
      is_sequence = rw c.sequence.view_is at c.sequence.invariant;
      filled = c.requires.filled;
      in_range = c.in-Ok.ensures.owned.in_range;
    })
    f c.in-Ok.ensures.owned.accepted
