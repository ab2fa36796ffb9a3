use Rattle.std.proofs.Common.{[], ◌∙◌, refl, sym}
use Rattle.ld_base.specs.declared.act.Act.TheVariants.{Release}
use Rattle.ld_machine.specs.Moves.{ReleaseUser}
use Rattle.ld_core.specs.CoreView.{plan_of, state_of}
use Rattle.ld_core.proofs.AskLemmas.{entries_alone, performed_act, refused_act, first_may, room_alone}
use Rattle.ld_core.proofs.machine.Core.act_release.Goals as goal

pub returns-in-Some : goal.returns-in-Some
returns-in-Some c =
    refused_act c.args.self.now c.args.thread c.args.reading (ReleaseUser c.args.scenario c.args.user) c.in-Some.full c.requires.first
    (c.in-Some.ensures ∙ sym (entries_alone (plan_of c.args.self.now) (state_of c.args.self.now) c.args.scenario 1))

pub release-requires-clause-told : goal.release-requires-clause-told
release-requires-clause-told c =
    first_may c.args.self.now c.args.thread c.args.reading (ReleaseUser c.args.scenario c.args.user) (Release c.args.scenario c.args.user) [] c.requires.first refl refl

pub release-requires-clause-room : goal.release-requires-clause-room
release-requires-clause-room c = room_alone c.args.self.now 1 0 c.in-None.ensures

pub returns-in-None : goal.returns-in-None
returns-in-None c =
    performed_act c.args.self.now c.args.thread c.args.reading (ReleaseUser c.args.scenario c.args.user) (Release c.args.scenario c.args.user) c.release.new.self c.requires.first refl
    (c.in-None.ensures ∙ sym (entries_alone (plan_of c.args.self.now) (state_of c.args.self.now) c.args.scenario 1)) c.release.ensures.added
