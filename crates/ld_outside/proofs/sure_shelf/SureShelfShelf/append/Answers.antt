use Rattle.std.proofs.Common.{rules, true}
use Rattle.ld_outside.proofs.ShelfLemmas.{is_longer}
use Rattle.ld_outside.proofs.sure_shelf.SureShelfShelf.append.Goals as goal

pub returns-clause-append : goal.returns-clause-append
returns-clause-append c = record {
  whole = is_longer c.args.name.now c.args.piece.now true c.args.self.now c.self.inside.kept c.append.new.self c.self.view_is
      c.in-Ok.ensures.ok;
  front = search rules;
  calls = search rules;
  reads = search rules;
  faults = search rules;
}
