-- The reply that names an act of the pool.
use Rattle.std.specs.Prelude.{ℕ}
use Rattle.ld_base.specs.Stint.{stint_of}
use Rattle.ld_base.specs.declared.reply.Reply.{Reply}
use Rattle.ld_base.specs.declared.reply.Reply.TheVariants.{Run, Dropped, Late, Took, Released, Stopped, Closed}
use Rattle.ld_machine.specs.Moves.{Answer, CountLate, StartOn, GrowAndStart, TakeAndStart, DropArrival, Move, StopScenario, ReleaseUser, TakeUser, AnswerArrival, StartIteration, DropIteration, CloseScenario}

-- the reply to an arrival that was answered: `Run` wherever it starts
abbrev pub answer_reply : ℕ → ℕ → ℕ → Answer → Reply
answer_reply n item until CountLate = Late n item
answer_reply n item until (StartOn user) = Run (stint_of n user item until)
answer_reply n item until (GrowAndStart user _) = Run (stint_of n user item until)
answer_reply n item until (TakeAndStart user _) = Run (stint_of n user item until)
answer_reply n item until DropArrival = Dropped n item

-- the reply to an act of the pool
abbrev pub reply_to : Move → Reply
reply_to (StopScenario n) = Stopped n
reply_to (ReleaseUser n user) = Released n user
reply_to (TakeUser n user _) = Took n user
reply_to (AnswerArrival n _ item until answer) = answer_reply n item until answer
reply_to (StartIteration n user item until) = Run (stint_of n user item until)
reply_to (DropIteration n item) = Dropped n item
reply_to (CloseScenario n) = Closed n
