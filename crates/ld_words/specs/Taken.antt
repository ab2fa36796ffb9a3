-- The values that are taken of words.
use Rattle.std.specs.Prelude.{◌≡◌, ℕ, Bool, true, false, List, Option, slice_get}
use Rattle.std.specs.Option.{option_flatten}
use Rattle.ld_words.specs.Options.{kind_of, value_of, Given}
use Rattle.ld_words.specs.declared.option.OptionName.{OptionName}
use Rattle.ld_words.specs.declared.value.ValueKind.{ValueKind}
use Rattle.ld_words.specs.declared.value.ValueKind.TheVariants.{Flag}

-- the kind has no value
abbrev pub is_none : ValueKind → Bool
is_none Flag = true
is_none _ = false

-- the option stands alone
abbrev pub is_flag : OptionName → Bool
is_flag name = is_none (kind_of name)

-- what stands at each place that a form may have, and the options that are given
pub record Taken : Type 0 where
  pub places : List (Option (List ℕ))
  pub given : List Given

-- what stands at a place
abbrev pub text_at : ℕ → Taken → Option (List ℕ)
text_at place taken = option_flatten (slice_get taken.places place)

-- these words stand at the places, and these options are given
pub record IsTakenOf (places : List (List ℕ)) (given : List Given) (taken : Taken) : Type 0 where
  pub places_are : (place : ℕ) → text_at place taken ≡ slice_get places place
  pub options_are : (name : OptionName) → value_of name taken.given ≡ value_of name given
