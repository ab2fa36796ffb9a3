-- What the values that were taken of words ask for.
use Rattle.std.specs.Prelude.{◌≡◌, ℕ, List, Option, Some}
use Rattle.std.specs.Option.{option_and_then}
use Rattle.ld_words.specs.Forms.{AreWordsOf}
use Rattle.ld_words.specs.Number.{number_of}
use Rattle.ld_words.specs.Options.{Given}
use Rattle.ld_words.specs.Taken.{text_at, IsTakenOf, Taken}
use Rattle.ld_words.specs.Weights.{AreWeights}
use Rattle.ld_words.specs.Words.{form_asked, IsMeant}
use Rattle.ld_words.specs.declared.form.FormName.{FormName}
use Rattle.ld_words.specs.declared.words.Words.{Words}

-- the values were taken of words of this form
pub record IsTakenBy (form : FormName) (taken : Taken) : Type 0 where
  pub words : List (List ℕ)
  pub places : List (List ℕ)
  pub given : List Given
  pub words_are : AreWordsOf form words places given
  pub values_are : IsTakenOf places given taken

-- the number at a place, if there is one
abbrev pub number_at : ℕ → Taken → Option ℕ
number_at place taken = option_and_then number_of (text_at place taken)

-- the text at a place is these weights
abbrev pub AreWeightsAt : ℕ → Taken → List ℕ → Type 0
AreWeightsAt place taken weights = (text : List ℕ) × (text_at place taken ≡ Some text) × AreWeights text weights

-- whatever words of this form the values were taken of, they ask for this
pub record IsMeantBy (form : FormName) (taken : Taken) (request : Words) : Type 0 where
  pub form_is : form_asked request ≡ form
  pub meant : (places : List (List ℕ)) (given : List Given) → IsTakenOf places given taken → IsMeant places given request
