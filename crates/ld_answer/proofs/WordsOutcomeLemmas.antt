-- What becomes of words, from what becomes of their request.
use Rattle.std.proofs.Common.{◌≡◌, ◌≢◌, ℕ, List, inl, inr, refl, subst, sym}
use Rattle.std.specs.Prelude.{Option, None, Some, Result, Ok, Err}
use Rattle.std.specs.Result.{IsErr, IsErrAnd}
use Rattle.ld_outside.specs.ShelfView.{ShelfView}
use Rattle.ld_words.specs.Words as words
use Rattle.ld_words.specs.declared.fault.WordsFault.{WordsFault}
use Rattle.ld_words.specs.declared.fault.WordsFault.TheVariants as faults
use Rattle.ld_words.specs.declared.words.Words as requests
use Rattle.ld_answer.specs.WordsOutcome.{IsUnwritten, IsWordsBroken, IsWordsOutcome}
use Rattle.ld_answer.specs.Faults.{of_words}
use Rattle.ld_answer.specs.Outcome.{IsOutcome}
use Rattle.ld_answer.specs.TestFile.{file_of, IsKept, TestFile}
use Rattle.ld_answer.specs.declared.answer.Answer.{Answer}
use Rattle.ld_answer.specs.declared.refusal.Refusal.{Refusal}

-- what a request comes to is what its words come to
pub of_request : (ws : List (List ℕ)) (request : requests.Words) (result : Result Answer Refusal) (old new : ShelfView) → words.Asks ws request →
    IsOutcome request result old new → IsWordsOutcome ws result old new
of_request ws request (Ok answer) old new asks is = (record { request = request; asks = asks; answered = is.0 }, is.1)
of_request ws request (Err r) old new asks is = record {
  refused = λ other. record { cause = inr (request, asks, (let refused = is.refused in refused other)) };
  kept = unwritten (file_of request) refl is.kept;
  reads = is.reads;
}
  where
    unwritten : (o : Option TestFile) → file_of request ≡ o → IsKept o old new → IsUnwritten ws old new
    unwritten None none same = inl same
    unwritten (Some file) some only = inr (request, file, asks, some, only)

-- words that are refused as words
pub of_words_fault : (ws : List (List ℕ)) (result : Result Answer Refusal) (f : WordsFault) (shelf : ShelfView) → IsErr result × IsErrAnd result (λ s. s ≡ of_words f) →
    (f ≢ faults.Memory → words.IsRefused ws f) → IsWordsOutcome ws result shelf shelf
of_words_fault ws (Ok x) f shelf is refused = absurd (let e = is.0 in cc)
of_words_fault ws (Err s) f shelf is refused = subst (λ t. IsWordsBroken ws shelf t shelf) (sym is.1) (broken f refused)
  where
    broken : (g : WordsFault) → (g ≢ faults.Memory → words.IsRefused ws g) → IsWordsBroken ws shelf (of_words g) shelf
    broken (faults.Refused place) refused = record {
      refused = λ other. record { cause = inl (place, refl, refused (λ e. cc), refl) };
      kept = inl refl;
      reads = λ other. refl;
    }
    broken faults.Memory refused = record {
      refused = λ other. absurd (other refl);
      kept = inl refl;
      reads = λ other. refl;
    }
