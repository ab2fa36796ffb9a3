use Rattle.ld_core.proofs.FirstLemmas.{halt_told, index_of_plan, inside_of_plan, kept_read, none_told, wish_told}
use Rattle.ld_core.proofs.machine.Core.next_of.Goals as goal

pub index-state-requires : goal.index-state-requires
index-state-requires c = index_of_plan c.self.inside c.self.invariant c.args.self.now c.self.view_is c.args.scenario c.requires.of_plan

pub returns-then-may_stop-clause-tells : goal.returns-then-may_stop-clause-tells
returns-then-may_stop-clause-tells c =
    halt_told c.self.inside c.self.invariant c.args.self.now c.self.view_is c.args.reading c.args.scenario c.index-state.result.now
    (kept_read c.self.inside.scenarios.items c.args.scenario c.index-state.result.now
    (inside_of_plan c.self.inside c.self.invariant c.args.self.now c.self.view_is c.args.scenario c.requires.of_plan) c.index-state.ensures)
    c.if-may_stop.ensures

pub returns-in-Nothing-clause-none : goal.returns-in-Nothing-clause-none
returns-in-Nothing-clause-none c =
    none_told c.self.inside c.self.invariant c.args.self.now c.self.view_is c.args.reading c.args.scenario c.index-state.result.now
    (kept_read c.self.inside.scenarios.items c.args.scenario c.index-state.result.now
    (inside_of_plan c.self.inside c.self.invariant c.args.self.now c.self.view_is c.args.scenario c.requires.of_plan) c.index-state.ensures)
    c.args.free c.if-may_stop.ensures c.requires.free c.in-Nothing.ensures

pub returns-in_default : goal.returns-in_default
returns-in_default c =
    record {
      tells = wish_told c.self.inside c.self.invariant c.args.self.now c.self.view_is c.args.reading c.args.scenario c.index-state.result.now
          (kept_read c.self.inside.scenarios.items c.args.scenario c.index-state.result.now
          (inside_of_plan c.self.inside c.self.invariant c.args.self.now c.self.view_is c.args.scenario c.requires.of_plan) c.index-state.ensures)
          c.args.free c.has_arrivals.result c.next_act.result c.if-may_stop.ensures c.requires.free c.next_act.ensures c.has_arrivals.ensures c.in_default.not-Nothing;
      none = tt;
    }
