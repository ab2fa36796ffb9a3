use Rattle.std.proofs.Common.{◌∙◌, ◌/◌, ap, false, inr, length, rules, true}
use Rattle.ld_outside.proofs.ShelfLemmas.{is_longer}
use Rattle.ld_outside.specs.MemShelf.{appended, half}
use Rattle.ld_outside.proofs.mem_shelf.MemShelfShelf.append.Goals as goal

pub returns-then-count_call-clause-append : goal.returns-then-count_call-clause-append
returns-then-count_call-clause-append c =
    let same = ap (λ s. s.kept) (c.self.view_is ∙ c.count_call.ensures.counted) in
    let is = c.in-Ok.ensures.ok ∙ ap (λ front. appended c.args.name.now front false c.self.inside.kept) c.split_at.ensures.front in
    record {
      whole = search rules;
      front = inr (
        length c.args.piece.now / 2,
        is_longer c.args.name.now (half c.args.piece.now) false c.args.self.now.kept c.self.inside.kept c.append.new.self same is,
      );
      calls = search rules;
      reads = search rules;
      faults = search rules;
    }

pub returns-clause-append : goal.returns-clause-append
returns-clause-append c =
    let same = ap (λ s. s.kept) (c.self.view_is ∙ c.count_call.ensures.counted) in
    record {
      whole = is_longer c.args.name.now c.args.piece.now true c.args.self.now.kept c.self.inside.kept c.append-2.new.self same
          c.in-Ok-append.ensures.ok;
      front = search rules;
      calls = search rules;
      reads = search rules;
      faults = search rules;
    }
