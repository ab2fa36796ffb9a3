-- The run of the desk: an answer that was written, or a refusal that was said.
use Rattle.std.proofs.Common.{◌≡◌, ◌≢◌, ◌≤◌, ◌⊎◌, ◌∙◌, ℕ, List, inl, inr, arith, refl, sym, subst, ap}
use Rattle.std.specs.Prelude.{Option, Some, None}
use Rattle.ld_outside.specs.SinkView.{SinkView, TookFront, Rose}
use Rattle.ld_outside.specs.ShelfView.{Became, Kept, ShelfView}
use Rattle.ld_rehearsal.specs.declared.full.FullJournal.{FullJournal}
use Rattle.ld_answer.specs.Answer.{full_line}
use Rattle.ld_answer.specs.Answered.{HasAnswer, HasGot}
use Rattle.ld_run.specs.Delivery.{AllWritten, FileBroken, FrontFiled, IsDelivered, IsEndLine, TextBroken, WholeFiled}
use Rattle.ld_run.specs.DeskRun.{IsDeskRun, IsLine}
use Rattle.ld_answer.specs.Refusal.{IsRefused, IsRefusedAmong, IsRefusedUnread}
use Rattle.ld_answer.specs.RefusalLine.{IsRefusalStatus, line_of, memory_line, status_of}
use Rattle.ld_run.specs.Saying.{IsRefusalSaid, Says, Untouched, write_line}
use Rattle.ld_answer.specs.TestFile.{file_of, TestFile}
use Rattle.ld_answer.specs.WordsOutcome.{IsUnwritten, IsWordsBroken}
use Rattle.ld_answer.specs.declared.answer.Answer.{Answer}
use Rattle.ld_answer.specs.declared.answer.NamedFile.{NamedFile}
use Rattle.ld_answer.specs.declared.refusal.Refusal.{Refusal}
use Rattle.ld_answer.specs.declared.refusal.Refusal.TheVariants.{Words, Stripe, NoSuchPosition, Segment, NotInSequence, Read, TooLong, Test, Plan, Memory}
use Rattle.ld_answer.proofs.WordsLemmas.{answered_not_among, answered_not_unread, refused_among, refused_how, read_rose, refused_status, refused_unread, IsRefusedHow}
use Rattle.ld_run.proofs.SayingLemmas.{said_front, untouched}
use Rattle.ld_answer.proofs.ShelfLemmas.{became_nothing, became_so, became_through}

-- ---- an answer that was written

abbrev Anything : Kept → Kept → Type 0
Anything before now = Unit {0}

-- a shelf that tells what it holds told it before a file was put on it
told_whole : (file : Option NamedFile) (old new : ShelfView) → WholeFiled file old new → Became old Anything new
told_whole None old new is = became_nothing old new Anything is (λ x. tt)
told_whole (Some f) old new is = became_so old new _ Anything is.0 (λ x y p. tt)

told_front : (file : Option NamedFile) (old new : ShelfView) → FrontFiled file old new → Became old Anything new
told_front None old new is = became_nothing old new Anything is (λ x. tt)
told_front (Some f) old new is = became_so old new _ Anything is (λ x y p. tt)

-- a status that is none of a refusal
no_refusal : (status n : ℕ) → status ≡ n → (n ≡ 2 → ⊥) → (n ≡ 3 → ⊥) → (n ≡ 5 → ⊥) → (n ≡ 11 → ⊥) → IsRefusalStatus status → ⊥
no_refusal status n is two three five eleven (inl e) = two (sym is ∙ e)
no_refusal status n is two three five eleven (inr (inl e)) = three (sym is ∙ e)
no_refusal status n is two three five eleven (inr (inr (inl e))) = five (sym is ∙ e)
no_refusal status n is two three five eleven (inr (inr (inr e))) = eleven (sym is ∙ e)

module _ (ws : List (List ℕ)) (answer : Answer) (status : ℕ) (shelf read shelf' : ShelfView) (out out' err err' : SinkView)
    (has : HasAnswer ws shelf answer read) (put : IsDelivered answer status read shelf' out out' err err') where
  -- no fault of reading was counted, and none of writing before the answer was written
  got_reads : (o : Option TestFile) → HasGot o shelf has.answered.test read → read.read_faults ≡ shelf.read_faults
  got_reads None got = ap (λ (view : ShelfView). view.read_faults) got
  got_reads (Some file) got = got.reads

  got_writes : (o : Option TestFile) → HasGot o shelf has.answered.test read → read.write_faults ≡ shelf.write_faults
  got_writes None got = ap (λ (view : ShelfView). view.write_faults) got
  got_writes (Some file) got = got.writes

  reads_same : shelf'.read_faults ≡ shelf.read_faults
  reads_same = put.reads ∙ got_reads (file_of has.request) has.answered.got

  writes_up : shelf.write_faults ≤ shelf'.write_faults
  writes_up = subst (λ (n : ℕ). n ≤ shelf'.write_faults) (got_writes (file_of has.request) has.answered.got) put.shelf_count

  not_among : Became read Anything shelf' → (P : Kept → Refusal → Type 0) → Became shelf (λ before now. (r : Refusal) → IsRefusedAmong before.files ws r → P before r) shelf'
  not_among told P = became_through shelf read shelf' _ _ _ (answered_not_among ws shelf read answer has) told (λ x y z never any r refused. absurd (never r refused))

  not_unread : (r : Refusal) → IsRefusedUnread ws r → ⊥
  not_unread r refused = answered_not_unread ws shelf read answer r has refused

  broken : status ≡ 4 → Says err write_line err' →
      (FileBroken answer read shelf' out out' × Rose read.write_faults shelf'.write_faults) ⊎ (TextBroken answer read shelf' out out' × Rose out.faults out'.faults) →
      Became read Anything shelf' → IsDeskRun ws status shelf shelf' out out' err err'
  broken is said how told = record {
    known = inr (inr (inl is));
    well = λ e. absurd (omega arith);
    full = λ e. absurd (omega arith);
    refused_only = λ e. absurd (no_refusal status 4 is (λ f. omega arith) (λ f. omega arith) (λ f. omega arith) (λ f. omega arith) e);
    refused_exactly = λ r refused. absurd (not_unread r refused);
    refused_among = not_among told (λ before r. (status ≡ status_of r) ⊎ ((status ≡ 9) ⊎ (status ≡ 3)));
    read_only = λ e. absurd (omega arith);
    read_count = λ other more. reads_same;
    write_only = λ e. (answer, read, has, said, from_shelf how);
    memory_out = λ e. absurd (omega arith);
    memory_err = λ e. absurd (omega arith);
    reads = let same = reads_same in omega arith;
    writes = writes_up;
    out_count = put.out_count;
    err_count = put.err_count;
  }
    where
      from_shelf : (FileBroken answer read shelf' out out' × Rose read.write_faults shelf'.write_faults) ⊎ (TextBroken answer read shelf' out out' × Rose out.faults out'.faults) →
          (FileBroken answer read shelf' out out' × Rose shelf.write_faults shelf'.write_faults) ⊎ (TextBroken answer read shelf' out out' × Rose out.faults out'.faults)
      from_shelf (inl file) = inl (file.0, subst (λ (n : ℕ). Rose n shelf'.write_faults) (got_writes (file_of has.request) has.answered.got) file.1)
      from_shelf (inr text) = inr text

  answer_run_by : ((status ≡ 0) × (answer.full ≡ None) × AllWritten answer read shelf' out out' × Untouched err err')
      ⊎ (((full : FullJournal) × (answer.full ≡ Some full) × (status ≡ 7) × AllWritten answer read shelf' out out' × Says err (full_line full) err')
      ⊎ (((status ≡ 4) × FileBroken answer read shelf' out out' × Rose read.write_faults shelf'.write_faults × Says err write_line err')
      ⊎ (((status ≡ 4) × TextBroken answer read shelf' out out' × Rose out.faults out'.faults × Says err write_line err')
      ⊎ ((status ≡ 9) × (FileBroken answer read shelf' out out' ⊎ TextBroken answer read shelf' out out')
      × ((line : List ℕ) × IsEndLine answer line × TookFront err line err'))))) →
      IsDeskRun ws status shelf shelf' out out' err err'
  answer_run_by (inl well) =
      let is : status ≡ 0 = well.0 in
      record {
        known = inr (inl is);
        well = λ e. (answer, read, has, well.1, well.2, well.3);
        full = λ e. absurd (omega arith);
        refused_only = λ e. absurd (no_refusal status 0 is (λ f. omega arith) (λ f. omega arith) (λ f. omega arith) (λ f. omega arith) e);
        refused_exactly = λ r refused. absurd (not_unread r refused);
        refused_among = not_among (told_whole answer.file read shelf' well.2.0) (λ before r. (status ≡ status_of r) ⊎ ((status ≡ 9) ⊎ (status ≡ 3)));
        read_only = λ e. absurd (omega arith);
        read_count = λ other more. reads_same;
        write_only = λ e. absurd (omega arith);
        memory_out = λ e. absurd (omega arith);
        memory_err = λ e. absurd (omega arith);
        reads = let same = reads_same in omega arith;
        writes = writes_up;
        out_count = put.out_count;
        err_count = put.err_count;
      }
  answer_run_by (inr (inl lacked)) =
      let is : status ≡ 7 = lacked.2 in
      record {
        known = inr (inr (inr (inl is)));
        well = λ e. absurd (omega arith);
        full = λ e. (answer, read, lacked.0, has, lacked.1, lacked.3, lacked.4);
        refused_only = λ e. absurd (no_refusal status 7 is (λ f. omega arith) (λ f. omega arith) (λ f. omega arith) (λ f. omega arith) e);
        refused_exactly = λ r refused. absurd (not_unread r refused);
        refused_among = not_among (told_whole answer.file read shelf' lacked.3.0) (λ before r. (status ≡ status_of r) ⊎ ((status ≡ 9) ⊎ (status ≡ 3)));
        read_only = λ e. absurd (omega arith);
        read_count = λ other more. reads_same;
        write_only = λ e. absurd (omega arith);
        memory_out = λ e. absurd (omega arith);
        memory_err = λ e. absurd (omega arith);
        reads = let same = reads_same in omega arith;
        writes = writes_up;
        out_count = put.out_count;
        err_count = put.err_count;
      }
  answer_run_by (inr (inr (inl failed))) = broken failed.0 failed.3 (inl (failed.1, failed.2)) (told_front answer.file read shelf' failed.1.0)
  answer_run_by (inr (inr (inr (inl failed)))) = broken failed.0 failed.3 (inr (failed.1, failed.2)) (told_whole answer.file read shelf' failed.1.0)
  answer_run_by (inr (inr (inr (inr lacked)))) =
      let is : status ≡ 9 = lacked.0 in
      record {
        known = inr (inr (inr (inr is)));
        well = λ e. absurd (omega arith);
        full = λ e. absurd (omega arith);
        refused_only = λ e. absurd (no_refusal status 9 is (λ f. omega arith) (λ f. omega arith) (λ f. omega arith) (λ f. omega arith) e);
        refused_exactly = λ r refused. absurd (not_unread r refused);
        refused_among = not_among (elim lacked.1 as (λ _. Became read Anything shelf') [
          | inl file ↦ told_front answer.file read shelf' file.0
          | inr text ↦ told_whole answer.file read shelf' text.0
        ]) (λ before r. (status ≡ status_of r) ⊎ ((status ≡ 9) ⊎ (status ≡ 3)));
        read_only = λ e. absurd (omega arith);
        read_count = λ other more. reads_same;
        write_only = λ e. absurd (omega arith);
        memory_out = λ e. inr (answer, read, has, lacked.1);
        memory_err = λ e. (lacked.2.0, record { cause = inr (inl (answer, read, has, lacked.2.1)) }, lacked.2.2);
        reads = let same = reads_same in omega arith;
        writes = writes_up;
        out_count = put.out_count;
        err_count = put.err_count;
      }

  -- the answer was written
  pub answer_run : IsDeskRun ws status shelf shelf' out out' err err'
  answer_run = answer_run_by put.put

-- ---- a refusal that was said

-- where memory lacks, there is nothing to refuse; else the words are refused
told_or_memory : (P : Type 0) (refusal : Refusal) → (refusal ≢ Memory → P) → (refusal ≡ Memory) ⊎ P
told_or_memory P (Words place) refused = inr (refused (λ e. cc))
told_or_memory P (Stripe f) refused = inr (refused (λ e. cc))
told_or_memory P (NoSuchPosition p) refused = inr (refused (λ e. cc))
told_or_memory P (Segment f) refused = inr (refused (λ e. cc))
told_or_memory P NotInSequence refused = inr (refused (λ e. cc))
told_or_memory P Read refused = inr (refused (λ e. cc))
told_or_memory P (TooLong place) refused = inr (refused (λ e. cc))
told_or_memory P (Test f) refused = inr (refused (λ e. cc))
told_or_memory P (Plan f) refused = inr (refused (λ e. cc))
told_or_memory P Memory refused = inl refl

module _ (ws : List (List ℕ)) (refusal : Refusal) (status : ℕ) (shelf shelf' : ShelfView) (out err err' : SinkView)
    (was : IsWordsBroken ws shelf refusal shelf') (said : IsRefusalSaid refusal status err err') where
  unwritten_told : IsUnwritten ws shelf shelf' → Became shelf Anything shelf'
  unwritten_told (inl same) = became_nothing shelf shelf' Anything same (λ x. tt)
  unwritten_told (inr reads) = became_so shelf shelf' _ Anything reads.4.files (λ x y p. tt)

  unwritten_reads : IsUnwritten ws shelf shelf' → shelf.read_faults ≤ shelf'.read_faults
  unwritten_reads (inl same) = rw same (omega arith)
  unwritten_reads (inr reads) = reads.4.reads

  unwritten_writes : IsUnwritten ws shelf shelf' → shelf.write_faults ≤ shelf'.write_faults
  unwritten_writes (inl same) = rw same (omega arith)
  unwritten_writes (inr reads) = let same = reads.4.writes in omega arith

  -- memory lacked, and a front of a line was taken
  memory_run : status ≡ 9 → ((line : List ℕ) × IsLine ws shelf shelf' line × TookFront err line err') → IsDeskRun ws status shelf shelf' out out err err'
  memory_run is line = record {
    known = inr (inr (inr (inr is)));
    well = λ e. absurd (omega arith);
    full = λ e. absurd (omega arith);
    refused_only = λ e. absurd (no_refusal status 9 is (λ f. omega arith) (λ f. omega arith) (λ f. omega arith) (λ f. omega arith) e);
    refused_exactly = λ r refused. inr is;
    refused_among = became_so shelf shelf' Anything _ (unwritten_told was.kept) (λ before now any r refused. inr (inl is));
    read_only = λ e. absurd (omega arith);
    read_count = λ other more. absurd (more is);
    write_only = λ e. absurd (omega arith);
    memory_out = λ e. inl (was.kept, untouched out);
    memory_err = λ e. line;
    reads = unwritten_reads was.kept;
    writes = unwritten_writes was.kept;
    out_count = omega arith;
    err_count = said.count;
  }

  -- the line of the refusal was said
  refused_run : IsRefused ws shelf refusal shelf' → status ≡ status_of refusal → Says err (line_of refusal) err' → IsDeskRun ws status shelf shelf' out out err err'
  refused_run refused is line =
      let how = refused_how ws shelf refusal shelf' refused in
      let of_refusals : IsRefusalStatus status = subst IsRefusalStatus (sym is) (refused_status ws shelf refusal shelf' how) in
      record {
        known = inl of_refusals;
        well = λ e. absurd (no_refusal status 0 e (λ f. omega arith) (λ f. omega arith) (λ f. omega arith) (λ f. omega arith) of_refusals);
        full = λ e. absurd (no_refusal status 7 e (λ f. omega arith) (λ f. omega arith) (λ f. omega arith) (λ f. omega arith) of_refusals);
        refused_only = λ e. (refusal, refused, is, untouched out, line);
        refused_exactly = λ r other. inl (is ∙ refused_unread ws shelf refusal shelf' r how other);
        refused_among = became_so shelf shelf' _ _ (refused_among ws shelf refusal shelf' how) (λ before now each r other.
            elim (each r other) as (λ _. (status ≡ status_of r) ⊎ ((status ≡ 9) ⊎ (status ≡ 3))) [
              | inl same ↦ inl (is ∙ same)
              | inr failed ↦ inr (inr (is ∙ failed))
            ]);
        read_only = λ e. rose how (sym is ∙ e);
        read_count = λ other more. was.reads (λ read. other (is ∙ ap status_of read));
        write_only = λ e. absurd (no_refusal status 4 e (λ f. omega arith) (λ f. omega arith) (λ f. omega arith) (λ f. omega arith) of_refusals);
        memory_out = λ e. absurd (no_refusal status 9 e (λ f. omega arith) (λ f. omega arith) (λ f. omega arith) (λ f. omega arith) of_refusals);
        memory_err = λ e. absurd (no_refusal status 9 e (λ f. omega arith) (λ f. omega arith) (λ f. omega arith) (λ f. omega arith) of_refusals);
        reads = unwritten_reads was.kept;
        writes = unwritten_writes was.kept;
        out_count = omega arith;
        err_count = said.count;
      }
    where
      rose : IsRefusedHow ws shelf refusal shelf' → status_of refusal ≡ 3 → Rose shelf.read_faults shelf'.read_faults
      rose how three = read_rose ws shelf refusal shelf' how three

  run_by : (refusal ≡ Memory) ⊎ IsRefused ws shelf refusal shelf' →
      ((status ≡ status_of refusal) × Says err (line_of refusal) err')
      ⊎ ((status ≡ 9) × (TookFront err (line_of refusal) err' ⊎ TookFront err memory_line err')) →
      IsDeskRun ws status shelf shelf' out out err err'
  run_by (inr told) (inl s) = refused_run told s.0 s.1
  run_by (inr told) (inr s) = memory_run s.0
      (elim s.1 [
        | inl front ↦ (line_of refusal, record { cause = inr (inr (refusal, told, refl)) }, front)
        | inr front ↦ (memory_line, record { cause = inl refl }, front)
      ])
  run_by (inl memory) (inl s) = memory_run (s.0 ∙ ap status_of memory)
      (memory_line, record { cause = inl refl }, subst (λ line. TookFront err line err') (ap line_of memory) (said_front err err' (line_of refusal) s.1))
  run_by (inl memory) (inr s) = memory_run s.0 (
    memory_line,
    record { cause = inl refl },
    elim s.1 [
      | inl front ↦ subst (λ line. TookFront err line err') (ap line_of memory) front
      | inr front ↦ front
    ],
  )

  -- the refusal was said, or want of memory was
  pub refusal_run : IsDeskRun ws status shelf shelf' out out err err'
  refusal_run = run_by (told_or_memory (IsRefused ws shelf refusal shelf') refusal was.refused) said.said
