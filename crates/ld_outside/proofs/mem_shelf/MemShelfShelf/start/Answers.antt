use Rattle.std.proofs.Common.{◌∙◌, ap, rules}
use Rattle.ld_outside.proofs.ShelfLemmas.{is_empty}
use Rattle.ld_outside.proofs.mem_shelf.MemShelfShelf.start.Goals as goal

pub returns-clause-start : goal.returns-clause-start
returns-clause-start c =
    let same = ap (λ s. s.kept) (c.self.view_is ∙ c.count_call.ensures.counted) in
    record {
      empty = is_empty c.args.name.now c.args.self.now.kept c.self.inside.kept c.start.new.self same c.in-Ok-start.ensures.ok;
      kept = search rules;
      calls = search rules;
      reads = search rules;
      faults = search rules;
    }
