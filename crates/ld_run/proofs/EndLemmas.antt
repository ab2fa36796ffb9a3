-- The status of a run that nothing stood in the way of.
use Rattle.std.proofs.Common.{◌≡◌, ◌⊎◌, ℕ, List, inl, inr}
use Rattle.std.specs.Prelude.{Some}
use Rattle.ld_answer.specs.Answered.{HasAnswer}
use Rattle.ld_answer.specs.Refusal.{IsRefused}
use Rattle.ld_answer.specs.declared.answer.Answer.{Answer}
use Rattle.ld_answer.specs.declared.refusal.Refusal.{Refusal}
use Rattle.ld_outside.specs.ShelfView.{ShelfView}
use Rattle.ld_outside.specs.SinkView.{Rose, SinkView}
use Rattle.ld_rehearsal.specs.declared.full.FullJournal.{FullJournal}
use Rattle.ld_run.specs.Delivery.{FileBroken, TextBroken}
use Rattle.ld_run.specs.DeskRun.{IsDeskRun, IsStatus}

-- it is 0, or 9 for want of memory
pub well_or_memory : (ws : List (List ℕ)) (status : ℕ) (shelf shelf' : ShelfView) (out out' err err' : SinkView) →
    IsDeskRun ws status shelf shelf' out out' err err' →
    ((r : Refusal) → IsRefused ws shelf r shelf' → ⊥) →
    ((answer : Answer) (read : ShelfView) (full : FullJournal) → HasAnswer ws shelf answer read → answer.full ≡ Some full → ⊥) →
    (Rose shelf.write_faults shelf'.write_faults → ⊥) → (Rose out.faults out'.faults → ⊥) →
    (status ≡ 0) ⊎ (status ≡ 9)
well_or_memory ws status shelf shelf' out out' err err' run unrefused room shelf_kept out_kept = step run.known
  where
    no_fault : (answer : Answer) (read : ShelfView) →
        (FileBroken answer read shelf' out out' × Rose shelf.write_faults shelf'.write_faults)
        ⊎ (TextBroken answer read shelf' out out' × Rose out.faults out'.faults) → ⊥
    no_fault answer read (inl file) = shelf_kept file.1
    no_fault answer read (inr text) = out_kept text.1

    step : IsStatus status → (status ≡ 0) ⊎ (status ≡ 9)
    step (inl refused) = let told = run.refused_only refused in absurd (unrefused told.0 told.1)
    step (inr (inl well)) = inl well
    step (inr (inr (inl broken))) = let how = run.write_only broken in absurd (no_fault how.0 how.1 how.4)
    step (inr (inr (inr (inl lacked)))) = let how = run.full lacked in absurd (room how.0 how.1 how.2 how.3 how.4)
    step (inr (inr (inr (inr memory)))) = inr memory
