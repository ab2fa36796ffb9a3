use Rattle.std.proofs.Common.{◌+◌, refl}
use Rattle.ld_base.specs.declared.act.Act.TheVariants.{Grow, Start}
use Rattle.ld_machine.specs.Moves.{AnswerArrival, GrowAndStart}
use Rattle.ld_core.specs.CoreView.{state_of}
use Rattle.ld_core.proofs.AskLemmas.{first_inside, grown_below, grown_there, holds_grown, performed_two, refused_act, room_at_all, room_left, room_still, samples_left, samples_still, second_may}
use Rattle.ld_core.proofs.machine.Core.act_grow.Goals as goal

pub full_to_start-requires-clause-of_plan : goal.full_to_start-requires-clause-of_plan
full_to_start-requires-clause-of_plan c =
    first_inside c.args.self.now c.args.thread c.args.reading (AnswerArrival c.args.scenario c.requires.first.0 c.args.item c.args.until (GrowAndStart ((state_of c.args.self.now).made + 1) c.args.slot)) c.requires.first.1

pub returns-in-Some : goal.returns-in-Some
returns-in-Some c =
    refused_act c.args.self.now c.args.thread c.args.reading (AnswerArrival c.args.scenario c.requires.first.0 c.args.item c.args.until (GrowAndStart ((state_of c.args.self.now).made + 1) c.args.slot)) c.in-Some.full c.requires.first.1 c.in-Some.ensures

pub grow-user-requires-clause-below : goal.grow-user-requires-clause-below
grow-user-requires-clause-below c =
    grown_below c.args.self.now c.args.thread c.args.reading c.args.scenario c.requires.first.0 c.args.item c.args.until ((state_of c.args.self.now).made + 1) c.args.slot c.requires.first.1

pub grow-user-requires-clause-place : goal.grow-user-requires-clause-place
grow-user-requires-clause-place c =
    grown_there c.args.self.now c.args.thread c.args.reading c.args.scenario c.requires.first.0 c.args.item c.args.until ((state_of c.args.self.now).made + 1) c.args.slot c.requires.first.1

pub grow-user-requires-clause-room : goal.grow-user-requires-clause-room
grow-user-requires-clause-room c = room_at_all c.args.self.now (room_left c.args.self.now c.args.scenario 2 1 c.in-None.ensures)

pub start-requires-clause-told : goal.start-requires-clause-told
start-requires-clause-told c =
    let move = (AnswerArrival c.args.scenario c.requires.first.0 c.args.item c.args.until (GrowAndStart ((state_of c.args.self.now).made + 1) c.args.slot)) in
    let number = c.grow-user.ensures.number in
    second_may c.args.self.now c.args.thread c.args.reading c.grow-user.new.self c.args.scenario c.grow-user.result c.args.slot move
    (Grow c.args.scenario c.grow-user.result c.args.slot) (Start c.args.scenario c.grow-user.result c.args.item c.args.until) c.requires.first.1 refl (rw number refl) (λ part share. refl)
    (holds_grown c.args.self.now c.args.thread c.args.reading c.grow-user.new.self c.args.scenario c.grow-user.result c.args.slot move c.requires.first.1 refl c.grow-user.ensures.added)

pub start-requires-clause-samples : goal.start-requires-clause-samples
start-requires-clause-samples c =
    samples_still c.args.self.now c.args.thread c.args.reading c.grow-user.new.self c.args.scenario c.grow-user.result c.args.slot
    (holds_grown c.args.self.now c.args.thread c.args.reading c.grow-user.new.self c.args.scenario c.grow-user.result c.args.slot
    (AnswerArrival c.args.scenario c.requires.first.0 c.args.item c.args.until (GrowAndStart ((state_of c.args.self.now).made + 1) c.args.slot)) c.requires.first.1 refl c.grow-user.ensures.added)
    (samples_left c.args.self.now c.args.scenario 2 c.in-None.ensures)

pub start-requires-clause-room : goal.start-requires-clause-room
start-requires-clause-room c =
    room_still c.args.self.now c.args.thread c.args.reading c.grow-user.new.self c.args.scenario c.grow-user.result c.args.slot
    (holds_grown c.args.self.now c.args.thread c.args.reading c.grow-user.new.self c.args.scenario c.grow-user.result c.args.slot
    (AnswerArrival c.args.scenario c.requires.first.0 c.args.item c.args.until (GrowAndStart ((state_of c.args.self.now).made + 1) c.args.slot)) c.requires.first.1 refl c.grow-user.ensures.added)
    (room_left c.args.self.now c.args.scenario 2 1 c.in-None.ensures)

pub returns-in-None : goal.returns-in-None
returns-in-None c =
    let number = c.grow-user.ensures.number in
    rw c.start.ensures.stint
    (performed_two c.args.self.now c.args.thread c.args.reading (AnswerArrival c.args.scenario c.requires.first.0 c.args.item c.args.until (GrowAndStart c.grow-user.result c.args.slot))
    (Grow c.args.scenario c.grow-user.result c.args.slot) (Start c.args.scenario c.grow-user.result c.args.item c.args.until) c.grow-user.new.self c.start.new.self
    (rw number c.requires.first.1) refl c.in-None.ensures c.grow-user.ensures.added c.start.ensures.added)
