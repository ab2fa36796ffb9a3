-- What clap's matches say was given.
use Rattle.std.specs.Prelude.{false, List, [], ◌∷◌, Option, Some, None, codes, if◌then◌else◌, map}
use Rattle.std.specs.List.{filter_map}
use Rattle.std.specs.Option.{option_map, option_map_or}
use Rattle.std.specs.Str.{bytes_eq}
use Rattle.clap.specs.Matches.{found_of}
use Rattle.clap.specs.Walk.{Row, Text, first_of, rows_of}
use Rattle.clap.specs.declared.parser.matches.ArgMatches.{ArgMatches}
use Rattle.ld_words.specs.Options.{Given}
use Rattle.ld_words.specs.Syntax.{bare_name, place_names}
use Rattle.ld_words.specs.Taken.{is_flag, Taken}
use Rattle.ld_words.specs.declared.option.OptionName.{OptionName}
use Rattle.ld_words.specs.declared.option.OptionName.TheVariants as names

-- the names of all options
abbrev pub all_names : List OptionName
all_names =
    names.Segment ∷ names.Sequence ∷ names.Rate ∷ names.Unit ∷ names.Duration ∷ names.Pre ∷ names.Max ∷ names.Iteration
    ∷ names.Journal ∷ names.Entries ∷ names.List ∷ []

-- a flag is given where it is true, and has the empty value
abbrev pub flag_value : Option Text → Option Text
flag_value text = if option_map_or (λ t. bytes_eq t (codes "true")) text false then Some [] else None

-- the value of an option by its row, if it is given
abbrev pub text_of : List Row → OptionName → Option Text
text_of rows name =
    if is_flag name then flag_value (first_of (bare_name name) rows) else first_of (bare_name name) rows

-- an option as it is given, if it is
abbrev pub given_of : List Row → OptionName → Option Given
given_of rows name = option_map (λ v. record { name = name; value = v }) (text_of rows name)

-- what the rows say of each place and of each option
abbrev pub taken_of_rows : List Row → Taken
taken_of_rows rows = record {
  places = map (λ name. first_of name rows) place_names;
  given = filter_map (given_of rows) all_names;
}

-- what the matches say
abbrev pub taken_of : ArgMatches → Taken
taken_of matches = taken_of_rows (rows_of (found_of matches))
