use Rattle.std.proofs.Common.{[], ◌∙◌, refl, sym}
use Rattle.ld_base.specs.declared.act.Act.TheVariants.{Close}
use Rattle.ld_machine.specs.Moves.{CloseScenario}
use Rattle.ld_core.specs.CoreView.{plan_of, state_of}
use Rattle.ld_core.proofs.AskLemmas.{entries_alone, first_may, performed_act, refused_act, room_alone}
use Rattle.ld_core.proofs.machine.Core.act_close.Goals as goal

pub returns-in-Some : goal.returns-in-Some
returns-in-Some c =
    refused_act c.args.self.now c.args.thread c.args.reading (CloseScenario c.args.scenario) c.in-Some.full c.requires.first
    (c.in-Some.ensures ∙ sym (entries_alone (plan_of c.args.self.now) (state_of c.args.self.now) c.args.scenario 1))

pub note-requires-clause-told : goal.note-requires-clause-told
note-requires-clause-told c = first_may c.args.self.now c.args.thread c.args.reading (CloseScenario c.args.scenario) (Close c.args.scenario) [] c.requires.first refl refl

pub note-requires-clause-room : goal.note-requires-clause-room
note-requires-clause-room c = room_alone c.args.self.now 1 0 c.in-None.ensures

pub returns-in-None : goal.returns-in-None
returns-in-None c =
    performed_act c.args.self.now c.args.thread c.args.reading (CloseScenario c.args.scenario) (Close c.args.scenario) c.note.new.self c.requires.first refl
    (c.in-None.ensures ∙ sym (entries_alone (plan_of c.args.self.now) (state_of c.args.self.now) c.args.scenario 1)) c.note.ensures.added
