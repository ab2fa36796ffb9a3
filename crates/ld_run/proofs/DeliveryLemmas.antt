-- How an answer is written, put together from its steps.
use Rattle.std.proofs.Common.{◌≡◌, ◌≤◌, ◌⊎◌, ℕ, List, Option, None, Some, inl, inr, arith, refl}
use Rattle.std.specs.Prelude.{Result, Ok, Err}
use Rattle.ld_outside.specs.ShelfView.{ShelfView}
use Rattle.ld_outside.specs.Sink.{IsPutAll}
use Rattle.ld_outside.specs.SinkView.{SinkView, Rose, TookFront}
use Rattle.ld_outside.specs.declared.shelf.ShelfFault.{ShelfFault}
use Rattle.ld_outside.specs.declared.shelf.ShelfFault.TheVariants as shelves
use Rattle.ld_outside.specs.declared.sink.SinkFault.TheVariants as sinks
use Rattle.ld_rehearsal.specs.declared.full.FullJournal.{FullJournal}
use Rattle.ld_answer.specs.Answer.{full_line}
use Rattle.ld_run.specs.Delivery.{FrontFiled, IsDelivered, IsEndSaid, IsFiled, WholeFiled}
use Rattle.ld_answer.specs.RefusalLine.{memory_line}
use Rattle.ld_run.specs.Saying.{IsSaid, write_line}
use Rattle.ld_answer.specs.declared.answer.Answer.{Answer}
use Rattle.ld_answer.specs.declared.answer.NamedFile.{NamedFile}
use Rattle.ld_run.proofs.SayingLemmas.{said_memory, untouched, whole_front}

-- ---- the file

module _ (T : Type 0) (old new : ShelfView) where
  filed_whole : (file : Option NamedFile) (x : T) → IsFiled {T = T} file (Ok x) old new → WholeFiled file old new
  filed_whole None x filed = filed.1
  filed_whole (Some f) x filed = (filed.whole, filed.faults)

  filed_front : (file : Option NamedFile) (fault : ShelfFault) → IsFiled {T = T} file (Err fault) old new → FrontFiled file old new
  filed_front None fault filed = absurd filed.0
  filed_front (Some f) fault filed = filed.front

  filed_rose : (file : Option NamedFile) → IsFiled {T = T} file (Err shelves.Failed) old new → Rose old.write_faults new.write_faults
  filed_rose None filed = absurd filed.0
  filed_rose (Some f) filed = filed.faults

  filed_kept : (file : Option NamedFile) → IsFiled {T = T} file (Err shelves.Memory) old new → new.write_faults ≡ old.write_faults
  filed_kept None filed = absurd filed.0
  filed_kept (Some f) filed = filed.faults

  filed_same : (file : Option NamedFile) (x : T) → IsFiled {T = T} file (Ok x) old new → new.write_faults ≡ old.write_faults
  filed_same None x filed = rw filed.1 refl
  filed_same (Some f) x filed = filed.faults

  filed_reads : (file : Option NamedFile) (result : Result T ShelfFault) → IsFiled {T = T} file result old new → new.read_faults ≡ old.read_faults
  filed_reads None result filed = rw filed.1 refl
  filed_reads (Some f) result filed = filed.reads

module _ (T : Type 0) (answer : Answer) (status : ℕ) (shelf shelf' : ShelfView) (out err err' : SinkView) where
  -- the shelf failed
  pub file_failed : IsFiled {T = T} answer.file (Err shelves.Failed) shelf shelf' → IsSaid write_line 4 status err err' → IsDelivered answer status shelf shelf' out out err err'
  file_failed filed said =
      let front = filed_front T shelf shelf' answer.file shelves.Failed filed in
      let rose = filed_rose T shelf shelf' answer.file filed in
      let up : shelf.write_faults ≤ shelf'.write_faults = rose.0 in
      record {
        put = elim said.said [
          | inl is ↦ inr (inr (inl (is.0, (front, untouched out), rose, is.1)))
          | inr is ↦ inr (inr (inr (inr (is.0, inl (front, untouched out), (write_line, inr (inl refl), is.1)))))
        ];
        shelf_count = up;
        reads = filed_reads T shelf shelf' answer.file (Err shelves.Failed) filed;
        out_count = omega arith;
        err_count = said.count;
      }

  -- the shelf lacked memory
  pub file_lacked : IsFiled {T = T} answer.file (Err shelves.Memory) shelf shelf' → IsSaid memory_line 9 status err err' → IsDelivered answer status shelf shelf' out out err err'
  file_lacked filed said =
      let front = filed_front T shelf shelf' answer.file shelves.Memory filed in
      let line = said_memory memory_line status err err' said in
      let same = filed_kept T shelf shelf' answer.file filed in
      record {
        put = inr (inr (inr (inr (line.0, inl (front, untouched out), (memory_line, inl refl, line.1)))));
        shelf_count = omega arith;
        reads = filed_reads T shelf shelf' answer.file (Err shelves.Memory) filed;
        out_count = omega arith;
        err_count = said.count;
      }

-- ---- the text

module _ (T U : Type 0) (answer : Answer) (status : ℕ) (x : T) (shelf shelf' : ShelfView) (out out' err err' : SinkView) (filed : IsFiled {T = T} answer.file (Ok x) shelf shelf') where
  whole : WholeFiled answer.file shelf shelf'
  whole = filed_whole T shelf shelf' answer.file x filed

  same : shelf'.write_faults ≡ shelf.write_faults
  same = filed_same T shelf shelf' answer.file x filed

  reads : shelf'.read_faults ≡ shelf.read_faults
  reads = filed_reads T shelf shelf' answer.file (Ok x) filed

  -- `out` failed
  pub text_failed : IsPutAll {T = U} out answer.text (Err sinks.Failed) out' → IsSaid write_line 4 status err err' → IsDelivered answer status shelf shelf' out out' err err'
  text_failed put said =
      let rose = put.faults in
      let up : out.faults ≤ out'.faults = rose.0 in
      let still = same in
      record {
        put = elim said.said [
          | inl is ↦ inr (inr (inr (inl (is.0, (whole, put.front), rose, is.1))))
          | inr is ↦ inr (inr (inr (inr (is.0, inr (whole, put.front), (write_line, inr (inl refl), is.1)))))
        ];
        shelf_count = omega arith;
        reads = reads;
        out_count = up;
        err_count = said.count;
      }

  -- `out` lacked memory
  pub text_lacked : IsPutAll {T = U} out answer.text (Err sinks.Memory) out' → IsSaid memory_line 9 status err err' → IsDelivered answer status shelf shelf' out out' err err'
  text_lacked put said =
      let line = said_memory memory_line status err err' said in
      let kept = put.faults in
      let still = same in
      record {
        put = inr (inr (inr (inr (line.0, inr (whole, put.front), (memory_line, inl refl, line.1)))));
        shelf_count = omega arith;
        reads = reads;
        out_count = omega arith;
        err_count = said.count;
      }

  -- all was written
  pub text_written : (y : U) → IsPutAll {T = U} out answer.text (Ok y) out' → IsEndSaid answer.full status err err' → IsDelivered answer status shelf shelf' out out' err err'
  text_written y put end =
      let kept = put.faults in
      let still = same in
      record {
        put = elim end.said [
          | inl well ↦ inl (well.1, well.0, (whole, put.whole, kept), well.2)
          | inr (inl full) ↦ inr (inl (full.0, full.1, full.2, (whole, put.whole, kept), full.3))
          | inr (inr lacked) ↦
              let line : (line : List ℕ) × ((line ≡ memory_line) ⊎ ((line ≡ write_line) ⊎ ((full : FullJournal) × (answer.full ≡ Some full) × (line ≡ full_line full)))) × TookFront err line err' =
              elim lacked.3 [
                | inl front ↦ (full_line lacked.0, inr (inr (lacked.0, lacked.1, refl)), front)
                | inr front ↦ (memory_line, inl refl, front)
              ] in
              inr (inr (inr (inr (lacked.2, inr (whole, whole_front out out' answer.text put.whole), line))))
        ];
        shelf_count = omega arith;
        reads = reads;
        out_count = omega arith;
        err_count = end.count;
      }

-- ---- the end

-- the line for a journal without room was said
pub full_said : (full : FullJournal) (status : ℕ) (err err' : SinkView) → IsSaid (full_line full) 7 status err err' → IsEndSaid (Some full) status err err'
full_said full status err err' said =
    record {
      said = elim said.said [
        | inl is ↦ inr (inl (full, refl, is.0, is.1))
        | inr is ↦ inr (inr (full, refl, is.0, inl is.1))
      ];
      count = said.count;
    }

-- there was no memory for it
pub full_lacked : (full : FullJournal) (status : ℕ) (err err' : SinkView) → IsSaid memory_line 9 status err err' → IsEndSaid (Some full) status err err'
full_lacked full status err err' said =
    let line = said_memory memory_line status err err' said in
    record { said = inr (inr (full, refl, line.0, inr line.1)); count = said.count }
