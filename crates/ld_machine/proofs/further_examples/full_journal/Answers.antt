use Rattle.std.proofs.Common.{rules, refl, inr, arith}
use Rattle.ld_base.specs.declared.reply.Reply.TheVariants.{Full}
use Rattle.ld_base.specs.declared.reply.Room.TheVariants.{Entries}
use Rattle.ld_machine.specs.Effect.{state_after}
use Rattle.ld_machine.specs.Moves.{StartIteration}
use Rattle.ld_machine.specs.Rehearsal.{Waits, IsFullFrom}
use Rattle.ld_machine.specs.FurtherExamples.{full_plan, full_lines}
use Rattle.ld_machine.proofs.further_examples.full_journal.Goals as goal

-- the fifth iteration could start at once, and has no room
full_at_once : IsFullFrom full_plan (state_after full_plan full_lines) 4000000000
full_at_once =
    (Full Entries 11 10, (4000000000, omega arith, (λ t from to. search (rules, arith)), (StartIteration 0 1 0 40000000000, search rules, refl)))

waits : Waits full_plan full_lines
waits = (
  search rules,
  (
    search rules,
    (search rules, (search rules, (search rules, (search rules, (search rules, (search rules, (search rules, inr full_at_once))))))),
  ),
)

pub returns-clause-rehearsed : goal.returns-clause-rehearsed
returns-clause-rehearsed c =
    record {
      legal = search rules;
      entries = search rules;
      readings = search rules;
      returned = search rules;
      order = search rules;
      waits = waits;
    }
