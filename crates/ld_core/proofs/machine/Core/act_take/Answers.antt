use Rattle.std.proofs.Common.{◌∙◌, refl, sym}
use Rattle.ld_base.specs.declared.act.Act.TheVariants.{Take}
use Rattle.ld_machine.specs.Moves.{TakeUser}
use Rattle.ld_core.specs.CoreView.{plan_of, state_of}
use Rattle.ld_core.proofs.AskLemmas.{entries_alone, performed_act, refused_with, room_alone}
use Rattle.ld_core.proofs.machine.Core.act_take.Goals as goal

pub returns-in-Some : goal.returns-in-Some
returns-in-Some c =
    refused_with c.args.self.now c.args.thread c.args.reading (λ user. TakeUser c.args.scenario user c.args.slot) c.in-Some.full c.requires.first.some c.requires.first.each
    c.args.scenario 1 0 (λ user. refl) (λ user. refl) (λ user. refl)
    (c.in-Some.ensures ∙ sym (entries_alone (plan_of c.args.self.now) (state_of c.args.self.now) c.args.scenario 1))

pub take-user-requires-clause-room : goal.take-user-requires-clause-room
take-user-requires-clause-room c = room_alone c.args.self.now 1 0 c.in-None.ensures

pub returns-in-None : goal.returns-in-None
returns-in-None c =
    performed_act c.args.self.now c.args.thread c.args.reading (TakeUser c.args.scenario c.take-user.result c.args.slot) (Take c.args.scenario c.take-user.result c.args.slot) c.take-user.new.self
    (c.requires.first.each c.take-user.result c.take-user.ensures.free) refl
    (c.in-None.ensures ∙ sym (entries_alone (plan_of c.args.self.now) (state_of c.args.self.now) c.args.scenario 1)) c.take-user.ensures.added
