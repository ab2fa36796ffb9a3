-- What a rehearsal answers.
use Rattle.std.specs.Prelude.{◌≡◌, ℕ, List, [], ◌∷◌, None, Some, IsTrue, option_map, slice_get}
use Rattle.std.specs.Option.{option_map_or}
use Rattle.ld_base.specs.History.{HistoryView}
use Rattle.ld_journal.specs.Journal.{journal_text}
use Rattle.ld_journal.specs.declared.header.Header.{Header}
use Rattle.ld_machine.specs.Rehearsal.{nothing_late, FirstRefusal, IsRehearsed}
use Rattle.ld_machine.specs.Settled.{IsSettled}
use Rattle.ld_num.specs.declared.fraction.Frac.{Frac}
use Rattle.ld_plan.specs.PlanView.{PlanView}
use Rattle.ld_rehearsal.specs.Stage.{full_reply}
use Rattle.ld_segment.specs.Printed.{segment_text, sequence_text}
use Rattle.ld_segment.specs.Segments.{segments_of}
use Rattle.ld_summary.specs.Summary.{summary_text}
use Rattle.ld_answer.specs.declared.answer.Answer.{Answer}
use Rattle.ld_answer.specs.declared.rehearsal.Texts.{Texts}

-- the segment at a position of a sequence, as it is printed
abbrev pub segment_at : List Frac → ℕ → List ℕ
segment_at points position =
    option_map_or (λ (ends : Frac × Frac). segment_text ends.0 ends.1) (slice_get (segments_of points) position) []

-- the header of a plan's journal: the test, how it is cut, and how many entries there may be
abbrev pub header_of : List ℕ → PlanView → Header
header_of test seen =
    record {
      test = test;
      segment = segment_at seen.sequence seen.position;
      sequence = sequence_text seen.sequence;
      entries = seen.plan.entry_limit;
    }

-- what is written of a history: its journal under this name, and its summary
pub record AreTexts (test : List ℕ) (seen : PlanView) (history : HistoryView) (journal : List ℕ) (texts : Texts) : Type 0 where
  pub file : texts.file ≡ record { name = journal; bytes = journal_text (header_of test seen) history.entries }
  pub summary : texts.summary ≡ summary_text (seen ∷ []) (history ∷ [])

-- The plan of a test was rehearsed with iterations of this length. The file has the journal of that history,
-- and the text is its summary. Where there was room for all, each arrival was answered, and none late; else the
-- first place without room is told.
pub record IsRehearsalAnswer (test : List ℕ) (seen : PlanView) (iteration : ℕ) (journal : List ℕ) (answer : Answer) : Type 0 where
  pub history : HistoryView
  pub rehearsed : IsRehearsed seen.plan iteration history.entries
  pub first : FirstRefusal seen.plan history.entries (option_map full_reply answer.full)
  pub settled : answer.full ≡ None → IsSettled seen.plan history.entries
  pub in_time : answer.full ≡ None → IsTrue (nothing_late history.entries)
  pub file : answer.file ≡ Some (record { name = journal; bytes = journal_text (header_of test seen) history.entries })
  pub text : answer.text ≡ summary_text (seen ∷ []) (history ∷ [])
