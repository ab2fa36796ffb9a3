use Rattle.std.proofs.Common.{rules, ◌≡◌, ◌∙◌, ◌+◌, ℕ, false, ap, sym, take, arith, refl, Ok, Err}
use Rattle.std.specs.Prelude.{IsTrue}
use Rattle.ld_wire.specs.Head.{follows_head, is_told}
use Rattle.ld_wire.specs.declared.framing.Follows.TheVariants.{Head}
use Rattle.ld_wire.specs.declared.heads.Heads.{Heads}
use Rattle.ld_wire.proofs.HeadsLemmas.{followed, interim_behind}
use Rattle.ld_wire.proofs.ShownLemmas.{told_shown, untold_shown}
use Rattle.ld_wire.proofs.heads.Heads.settle.Goals as goal

pub returns-in-Ok-Head-clause-ok : goal.returns-in-Ok-Head-clause-ok
returns-in-Ok-Head-clause-ok c before head are count found =
    let self = c.args.self.now in
    let spans = c.split_at.result.0.now in
    let same : spans ≡ take c.args.found.now.headers self.room.items = search rules in
    let is : c.follows.result ≡ Ok Head = search rules in
    let goes = followed c.follows.result self.for_head self.interims self.bytes.items self.room.items spans c.args.found.now head (search rules) same found in
    let new : Heads = record {
      for_head = self.for_head;
      interims = self.interims + 1;
      bytes = c.clear.new.self;
      room = self.room;
      headers = self.headers;
      status = self.status;
    } in
    interim_behind new before head are found.form (ap (λ (n : ℕ). follows_head self.for_head n head) count ∙ sym goes ∙ is)
    (omega arith) c.clear.ensures.items c.requires.none.1 c.requires.none.0

pub returns-then-is_told-clause-shown : goal.returns-then-is_told-clause-shown
returns-then-is_told-clause-shown c before head are count found =
    let self = c.args.self.now in
    let at = c.args.found.now in
    let told : IsTrue (is_told at.code) = search rules in
    let new : Heads = record {
      for_head = self.for_head;
      interims = self.interims;
      bytes = self.bytes;
      room = self.room;
      headers = at.headers;
      status = at.code;
    } in
    told_shown new before at head are refl refl told found

pub returns-else-is_told-clause-shown : goal.returns-else-is_told-clause-shown
returns-else-is_told-clause-shown c before head are count found =
    let self = c.args.self.now in
    let at = c.args.found.now in
    let spans = c.split_at.result.0.now in
    let same : spans ≡ take at.headers self.room.items = search rules in
    let is : c.follows.result ≡ Err c.in-Err.fault = search rules in
    let untold : is_told at.code ≡ false = search rules in
    let goes = followed c.follows.result self.for_head self.interims self.bytes.items self.room.items spans at head (search rules) same found in
    untold_shown self before at head c.in-Err.fault are (ap (λ (n : ℕ). follows_head self.for_head n head) count ∙ sym goes ∙ is)
    c.requires.none.1 c.requires.none.0 untold found
