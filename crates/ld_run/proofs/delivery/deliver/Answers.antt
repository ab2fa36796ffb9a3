use Rattle.ld_run.proofs.DeliveryLemmas.{file_lacked, text_failed, text_lacked, text_written}
use Rattle.ld_run.proofs.delivery.deliver.Goals as goal

pub returns-in-Err-Memory : goal.returns-in-Err-Memory
returns-in-Err-Memory g c =
    file_lacked _ c.args.answer.now _ _ _ _ _ _ (rw c.in-Err-Memory.field-0-is at c.in-Err-Memory.ensures) c.say-in-Err-Memory.ensures

pub returns-in-Ok-put_all : goal.returns-in-Ok-put_all
returns-in-Ok-put_all g c =
    text_written _ _ c.args.answer.now _ c.in-Ok.field-0 _ _ _ _ _ _ c.in-Ok.ensures c.in-Ok-put_all.field-0 (rw c.as_slice.ensures at c.in-Ok-put_all.ensures) c.end.ensures

pub returns-in-Err-Failed-put_all : goal.returns-in-Err-Failed-put_all
returns-in-Err-Failed-put_all g c =
    text_failed _ _ c.args.answer.now _ c.in-Ok.field-0 _ _ _ _ _ _ c.in-Ok.ensures
    (rw (c.as_slice.ensures, c.in-Err-Failed-put_all.field-0-is) at c.in-Err-Failed-put_all.ensures) c.say-in-Err-Failed-put_all.ensures

pub returns-in-Err-Memory-put_all : goal.returns-in-Err-Memory-put_all
returns-in-Err-Memory-put_all g c =
    text_lacked _ _ c.args.answer.now _ c.in-Ok.field-0 _ _ _ _ _ _ c.in-Ok.ensures
    (rw (c.as_slice.ensures, c.in-Err-Memory-put_all.field-0-is) at c.in-Err-Memory-put_all.ensures) c.say-in-Err-Memory-put_all.ensures
