use Rattle.std.proofs.Common.{◌∙◌, ap, arith}
use Rattle.std.specs.Prelude.{min}
use Rattle.std.specs.Option.{option_map_or}
use Rattle.ld_rehearsal.specs.Stage.{IsPaused}
use Rattle.ld_rehearsal.specs.declared.stage.Said.TheVariants.{Over, Waits}
use Rattle.ld_rehearsal.proofs.RoundLemmas.{ends_over, goes_on_waiting, later_round, same_later, same_run}
use Rattle.ld_rehearsal.proofs.stage.Stage.round.Goals as goal

pub returns-in-Waits : goal.returns-in-Waits
returns-in-Waits c =
    let first = c.return_all.new.self in
    let stage = c.act_all.new.self in
    let paused : IsPaused first stage (Waits c.in-Waits.moment) = rw (← c.in-Waits.is) c.act_all.ensures.paused in
    let next = c.lesser-self.ensures ∙ ap (λ o. option_map_or (min c.in-Waits.moment) o c.in-Waits.moment) c.next_end.ensures in
    let on = goes_on_waiting stage paused.acting c.in-Waits.moment c.lesser-self.result paused.pause next in
    record {
      round = record {
        run = same_later c.args.self.now first stage c.lesser-self.result c.return_all.ensures.same paused.same;
        next = (later_round c.args.self.now first stage c.lesser-self.result c.return_all.ensures.same paused.same on.0, omega (arith, c.lesser-self.type_inv), on.1);
      };
    }

pub returns-in-Over : goal.returns-in-Over
returns-in-Over c =
    let first = c.return_all.new.self in
    let stage = c.act_all.new.self in
    let paused : IsPaused first stage Over = rw (← c.in-Over.is) c.act_all.ensures.paused in
    record {
      round = record {
        run = same_run c.args.self.now first stage c.return_all.ensures.same paused.same;
        next = ends_over stage paused.acting paused.pause;
      };
    }
