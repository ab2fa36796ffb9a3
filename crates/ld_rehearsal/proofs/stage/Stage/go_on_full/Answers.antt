use Rattle.std.proofs.Common.{refl, sym, ◌∙◌}
use Rattle.ld_rehearsal.proofs.RoundLemmas.{ends_full, goes_on_full}
use Rattle.ld_rehearsal.proofs.stage.Stage.go_on_full.Goals as goal

pub returns-in-Some : goal.returns-in-Some
returns-in-Some c =
    record {
      round = record {
        run = record { plan = refl; length = refl };
        next = rw c.or-self.ensures (goes_on_full c.args.self.now c.requires.acting c.args.full c.in-Some.end c.requires.refused (sym c.next_end.ensures ∙ c.in-Some.is));
      };
    }

pub returns-in-None : goal.returns-in-None
returns-in-None c =
    record {
      round = record {
        run = record { plan = refl; length = refl };
        next = rw c.or-self.ensures (ends_full c.args.self.now c.requires.acting c.args.full c.requires.refused (sym c.next_end.ensures ∙ c.in-None.is));
      };
    }
