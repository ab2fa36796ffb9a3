use Rattle.std.proofs.Common.{refl}
use Rattle.ld_base.specs.declared.act.Act.TheVariants.{Take, Start}
use Rattle.ld_machine.specs.Moves.{AnswerArrival, TakeAndStart}
use Rattle.ld_core.proofs.AskLemmas.{first_inside, holds_taken, one_of_each, performed_two, refused_with, room_at_all, room_left, room_still, samples_left, samples_still, second_may, taken_for_there}
use Rattle.ld_core.proofs.machine.Core.act_take_for.Goals as goal

pub full_to_start-requires-clause-of_plan : goal.full_to_start-requires-clause-of_plan
full_to_start-requires-clause-of_plan c =
    let one = one_of_each c.args.self.now c.args.thread c.args.reading c.args.scenario c.args.item c.args.until c.args.slot c.requires.first in
    first_inside c.args.self.now c.args.thread c.args.reading (AnswerArrival c.args.scenario c.requires.first.due c.args.item c.args.until (TakeAndStart one.0 c.args.slot)) one.1

pub returns-in-Some : goal.returns-in-Some
returns-in-Some c =
    refused_with c.args.self.now c.args.thread c.args.reading (λ user. AnswerArrival c.args.scenario c.requires.first.due c.args.item c.args.until (TakeAndStart user c.args.slot))
    c.in-Some.full c.requires.first.some c.requires.first.each c.args.scenario 2 1 (λ user. refl) (λ user. refl) (λ user. refl) c.in-Some.ensures

pub take-user-requires-clause-place : goal.take-user-requires-clause-place
take-user-requires-clause-place c =
    taken_for_there c.args.self.now c.args.thread c.args.reading c.args.scenario c.args.item c.args.until c.args.slot c.requires.first

pub take-user-requires-clause-room : goal.take-user-requires-clause-room
take-user-requires-clause-room c = room_at_all c.args.self.now (room_left c.args.self.now c.args.scenario 2 1 c.in-None.ensures)

pub start-requires-clause-told : goal.start-requires-clause-told
start-requires-clause-told c =
    let move = (AnswerArrival c.args.scenario c.requires.first.due c.args.item c.args.until (TakeAndStart c.take-user.result c.args.slot)) in
    let first = c.requires.first.each c.take-user.result c.take-user.ensures.free in
    second_may c.args.self.now c.args.thread c.args.reading c.take-user.new.self c.args.scenario c.take-user.result c.args.slot move
    (Take c.args.scenario c.take-user.result c.args.slot) (Start c.args.scenario c.take-user.result c.args.item c.args.until) first refl refl (λ part share. refl)
    (holds_taken c.args.self.now c.args.thread c.args.reading c.take-user.new.self c.args.scenario c.take-user.result c.args.slot move first refl c.take-user.ensures.added)

pub start-requires-clause-samples : goal.start-requires-clause-samples
start-requires-clause-samples c =
    samples_still c.args.self.now c.args.thread c.args.reading c.take-user.new.self c.args.scenario c.take-user.result c.args.slot
    (holds_taken c.args.self.now c.args.thread c.args.reading c.take-user.new.self c.args.scenario c.take-user.result c.args.slot
    (AnswerArrival c.args.scenario c.requires.first.due c.args.item c.args.until (TakeAndStart c.take-user.result c.args.slot))
    (c.requires.first.each c.take-user.result c.take-user.ensures.free) refl c.take-user.ensures.added)
    (samples_left c.args.self.now c.args.scenario 2 c.in-None.ensures)

pub start-requires-clause-room : goal.start-requires-clause-room
start-requires-clause-room c =
    room_still c.args.self.now c.args.thread c.args.reading c.take-user.new.self c.args.scenario c.take-user.result c.args.slot
    (holds_taken c.args.self.now c.args.thread c.args.reading c.take-user.new.self c.args.scenario c.take-user.result c.args.slot
    (AnswerArrival c.args.scenario c.requires.first.due c.args.item c.args.until (TakeAndStart c.take-user.result c.args.slot))
    (c.requires.first.each c.take-user.result c.take-user.ensures.free) refl c.take-user.ensures.added)
    (room_left c.args.self.now c.args.scenario 2 1 c.in-None.ensures)

pub returns-in-None : goal.returns-in-None
returns-in-None c =
    rw c.start.ensures.stint
    (performed_two c.args.self.now c.args.thread c.args.reading (AnswerArrival c.args.scenario c.requires.first.due c.args.item c.args.until (TakeAndStart c.take-user.result c.args.slot))
    (Take c.args.scenario c.take-user.result c.args.slot) (Start c.args.scenario c.take-user.result c.args.item c.args.until) c.take-user.new.self c.start.new.self
    (c.requires.first.each c.take-user.result c.take-user.ensures.free) refl c.in-None.ensures c.take-user.ensures.added c.start.ensures.added)
