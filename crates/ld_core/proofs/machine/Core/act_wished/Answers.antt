use Rattle.std.proofs.Common.{sym, ◌∙◌}
use Rattle.ld_core.proofs.WishLemmas.{below_inside, close_first, drop_first, drop_more_first, full_inside, grow_first, late_first, nothing_never, release_first, start_first, take_first, take_for_first, take_place, told_as}
use Rattle.ld_core.proofs.machine.Core.act_wished.Goals as goal

pub unreachable-requires : goal.unreachable-requires
unreachable-requires c = nothing_never c.args.self.now c.args.reading c.args.scenario (told_as c.args.self.now c.args.reading c.args.scenario c.args.wish _ c.in-Nothing.is c.requires.first)

pub act_release-requires : goal.act_release-requires
act_release-requires c = record { first = release_first c.args.self.now c.args.reading c.args.scenario c.in-Release.user (told_as c.args.self.now c.args.reading c.args.scenario c.args.wish _ c.in-Release.is c.requires.first) }

pub act_take-requires-clause-first : goal.act_take-requires-clause-first
act_take-requires-clause-first c = take_first c.args.self.now c.args.reading c.args.scenario c.in-Take.slot (told_as c.args.self.now c.args.reading c.args.scenario c.args.wish _ c.in-Take.is c.requires.first)

pub act_take-requires-clause-place : goal.act_take-requires-clause-place
act_take-requires-clause-place c = take_place c.args.self.now c.args.reading c.args.scenario c.in-Take.slot (told_as c.args.self.now c.args.reading c.args.scenario c.args.wish _ c.in-Take.is c.requires.first)

pub act_start-requires : goal.act_start-requires
act_start-requires c = record { first = start_first c.args.self.now c.args.reading c.args.scenario c.in-Start.user c.in-Start.item c.in-Start.until c.in-Start.due (told_as c.args.self.now c.args.reading c.args.scenario c.args.wish _ c.in-Start.is c.requires.first) }

pub act_grow-requires : goal.act_grow-requires
act_grow-requires c =
    record {
      first = grow_first c.args.self.now c.args.reading c.args.scenario c.in-More.item c.in-More.until c.in-More.due c.in-More.slot (told_as c.args.self.now c.args.reading c.args.scenario c.args.wish _ c.in-More.is c.requires.first)
          (below_inside c.self.inside c.self.invariant c.args.self.now c.self.view_is c.made.result c.users.result.limit c.made.ensures.count c.users.ensures.limit c.if-made-users.true);
    }

pub act_take_for-requires : goal.act_take_for-requires
act_take_for-requires c =
    record {
      first = take_for_first c.args.self.now c.args.reading c.args.scenario c.in-More.item c.in-More.until c.in-More.due c.in-More.slot (told_as c.args.self.now c.args.reading c.args.scenario c.args.wish _ c.in-More.is c.requires.first)
          (full_inside c.self.inside c.self.invariant c.args.self.now c.self.view_is c.made.result c.users.result.limit c.made.ensures.count c.users.ensures.limit c.if-made-users.false) (sym c.requires.free ∙ c.if-free.true);
    }

pub act_drop-requires : goal.act_drop-requires
act_drop-requires c =
    record {
      first = drop_more_first c.args.self.now c.args.reading c.args.scenario c.in-More.item c.in-More.until c.in-More.due c.in-More.slot (told_as c.args.self.now c.args.reading c.args.scenario c.args.wish _ c.in-More.is c.requires.first)
          (full_inside c.self.inside c.self.invariant c.args.self.now c.self.view_is c.made.result c.users.result.limit c.made.ensures.count c.users.ensures.limit c.if-made-users.false) (sym c.requires.free ∙ c.if-free.false);
    }

pub act_drop-requires-in-Drop : goal.act_drop-requires-in-Drop
act_drop-requires-in-Drop c = record { first = drop_first c.args.self.now c.args.reading c.args.scenario c.in-Drop.item c.in-Drop.due (told_as c.args.self.now c.args.reading c.args.scenario c.args.wish _ c.in-Drop.is c.requires.first) }

pub act_late-requires : goal.act_late-requires
act_late-requires c = record { first = late_first c.args.self.now c.args.reading c.args.scenario c.in-Late.item c.in-Late.due (told_as c.args.self.now c.args.reading c.args.scenario c.args.wish _ c.in-Late.is c.requires.first) }

pub act_close-requires : goal.act_close-requires
act_close-requires c = record { first = close_first c.args.self.now c.args.reading c.args.scenario (told_as c.args.self.now c.args.reading c.args.scenario c.args.wish _ c.in-Close.is c.requires.first) }
