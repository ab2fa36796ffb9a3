use Rattle.std.proofs.Common.{arith}
use Rattle.ld_segment.proofs.FillingLemmas.{below_points, segment_is, segment_rises, segment_within}
use Rattle.ld_segment.proofs.sequence.Sequence.segment.Goals as goal

pub index-requires : goal.index-requires
index-requires c = let below = below_points c.self.inside.points.items c.args.self.now c.args.position c.self.view_is c.requires in omega arith

pub overflow_add-position : goal.overflow_add-position
overflow_add-position c = let below = below_points c.self.inside.points.items c.args.self.now c.args.position c.self.view_is c.requires in let small = c.self.inside.points.small in omega arith

pub index-requires-2 : goal.index-requires-2
index-requires-2 c = let below = below_points c.self.inside.points.items c.args.self.now c.args.position c.self.view_is c.requires in omega arith

pub invariant_of-result : goal.invariant_of-result
invariant_of-result c = record {
  rises = segment_rises c.self.inside.points.items c.args.self.now c.args.position _ _ c.self.view_is c.requires c.self.invariant.rises c.index.ensures c.index-2.ensures;
  within = segment_within c.self.inside.points.items c.args.self.now c.args.position _ c.self.view_is c.requires c.self.invariant.at_most_one c.index-2.ensures;
}

pub returns : goal.returns
returns c = segment_is c.self.inside.points.items c.args.self.now c.args.position _ _ c.self.view_is c.requires c.index.ensures c.index-2.ensures
