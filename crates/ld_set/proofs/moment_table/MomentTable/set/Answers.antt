use Rattle.std.specs.Prelude.{◌≡◌, ◌+◌, ◌*◌, ◌/◌, ◌<◌, None, false, length}
use Rattle.std.proofs.Common.{arith, get_or, rules, set, sym, ◌∙◌}
use Rattle.std.proofs.lemmas.List.{get_or_default}
use Rattle.ld_set.specs.Moments.{is_by, moment_at, IsLeastAmong}
use Rattle.ld_set.proofs.MomentLemmas.{kept_set, least_with}
use Rattle.ld_set.proofs.moment_table.MomentTable.set.Goals as goal
use Rattle.ld_set.proofs.moment_table.MomentTable.set.Goals.{then-was_least, else-was_least}

pub invariant_of-self : goal.invariant_of-self
invariant_of-self c =
    let moments = c.self.inside.moments.items in
    let leasts = c.self.inside.leasts.items in
    let number = c.args.number in
    let block = number / 32 in
    let below : number < length moments = rw (← c.self.view_is) at c.requires.below in
    let within : block < length leasts = omega (arith, c.self.invariant.room) in
    let least_at : get_or leasts block c.index-least.result.now ≡ c.index-least.result.now = search (rules, c.index-least.ensures) in
    let least_is : moment_at leasts block ≡ c.index-least.result.now = get_or_default leasts block None c.index-least.result.now within ∙ least_at in
    let before_at : get_or moments number c.index.result.now ≡ c.index.result.now = search (rules, c.index.ensures) in
    let before_is : moment_at moments number ≡ c.index.result.now = get_or_default moments number None c.index.result.now below ∙ before_at in
    let least : IsLeastAmong (set moments number c.args.moment) None (32 * block) (32 * block + 32) c.if-was_least.new_least =
    elim c.if-was_least.branch [
      | then-was_least w ↦ rw w.new_least-is (rw w.deref.ensures.value at w.least_in-new_least.ensures)
      | else-was_least w ↦
          let late : is_by (moment_at moments number) (moment_at leasts block) ≡ false =
          rw (before_is, least_is) (sym c.is_by-was_least.ensures ∙ w.if-was_least.false) in
          rw (w.new_least-is, w.lesser-new_least.ensures, ← least_is)
          (least_with moments (32 * block) (32 * block + 32) number c.args.moment (moment_at leasts block) (c.self.invariant.each block) below (omega arith) (omega arith) late)
    ] in
    kept_set _ _ _ _ _ c.self.invariant below least
