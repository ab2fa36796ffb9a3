-- The rows of what is given.
use Rattle.std.proofs.Common.{◌≡◌, ◌∙◌, ◌||◌, Bool, true, false, cond, List, [], ◌∷◌, ◌++◌, Some, None, ap, refl, codes, true≢false}
use Rattle.std.specs.Str.{bytes_eq}
use Rattle.clap.specs.Walk.{Row, Text, at_row, has_row, more_values, with_values, without}
use Rattle.clap.specs.declared.builder.value_parser.Reading.TheVariants.{AsWritten}
use Rattle.clap.specs.declared.builder.value_parser.Reading.{Reading}
use Rattle.clap.specs.declared.parser.matches.ValueSource.{ValueSource}
use Rattle.clap.specs.declared.parser.matches.ValueSource.TheVariants.{CommandLine}
use Rattle.ld_words.specs.Options.{Given}
use Rattle.ld_words.specs.Syntax.{bare_name}
use Rattle.ld_words.specs.Taken.{is_flag}

-- the row of one value that the words have
abbrev pub row_of_word : Text → Text → Row
row_of_word id value = record { id = id; values = value ∷ []; count = None; source = Some CommandLine; reading = AsWritten }

-- what stands in the row of an option
abbrev pub value_shown : Given → Text
value_shown g = cond (is_flag g.name) (codes "true") g.value

abbrev pub row_of_option : Given → Row
row_of_option g = row_of_word (bare_name g.name) (value_shown g)

-- a row that isn't there comes last
pub comes_last : (id : Text) (change : Row → List Row) (missing rows : List Row) → has_row id rows ≡ false → at_row id change missing rows ≡ rows ++ missing
comes_last id change missing [] none = refl
comes_last id change missing (r ∷ rs) none = go (bytes_eq r.id id) none (comes_last id change missing rs)
  where
    go : (b : Bool) → (b || has_row id rs) ≡ false → (has_row id rs ≡ false → at_row id change missing rs ≡ rs ++ missing)
        → cond b (change r ++ rs) (r ∷ at_row id change missing rs) ≡ r ∷ (rs ++ missing)
    go true none more = absurd (true≢false none)
    go false none more = ap (λ l. r ∷ l) (more none)

append_none : (rows : List Row) → rows ++ [] ≡ rows
append_none [] = refl
append_none (r ∷ rs) = ap (λ l. r ∷ l) (append_none rs)

-- the first use of an argument adds its row
pub first_use : (id : Text) (how : Reading) (source : ValueSource) (values : List Text) (rows : List Row) → has_row id rows ≡ false →
    with_values id how source values (without id rows) ≡ rows ++ record { id = id; values = values; count = None; source = Some source; reading = how } ∷ []
first_use id how source values rows none =
    ap (with_values id how source values) (comes_last id (λ _. []) [] rows none ∙ append_none rows) ∙ comes_last id (more_values source values) _ rows none
