use Rattle.ld_base.specs.declared.ask.Ask.TheVariants as asks
use Rattle.ld_base.specs.declared.reply.Reply.TheVariants.{Wait}
use Rattle.ld_machine.specs.Step.{replies}
use Rattle.ld_machine.proofs.ListLemmas.{In-from_Contains}
use Rattle.ld_machine.proofs.WaitLemmas.{reply_waits}
use Rattle.ld_machine.proofs.laws.waits.Goals as goal

pub returns : goal.returns
returns c plan state thread t m h =
    reply_waits plan state thread t m (In-from_Contains (Wait m) (replies plan state thread asks.Act t) h.0 h.1 h.2)
