use Rattle.std.proofs.Common.{rules}
use Rattle.ld_outside.proofs.ShelfLemmas.{is_empty}
use Rattle.ld_outside.proofs.sure_shelf.SureShelfShelf.start.Goals as goal

pub returns-clause-start : goal.returns-clause-start
returns-clause-start c = record {
  empty = is_empty c.args.name.now c.args.self.now c.self.inside.kept c.start.new.self c.self.view_is c.in-Ok.ensures.ok;
  kept = search rules;
  calls = search rules;
  reads = search rules;
  faults = search rules;
}
