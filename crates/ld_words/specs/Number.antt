-- Numbers among the words of a command line.
use Rattle.std.specs.Prelude.{◌&&◌, ℕ, Bool, List, Option, Some, None, length, nat_le, if◌then◌else◌}
use Rattle.std.specs.Char.{is_ascii_digit}
use Rattle.std.specs.List.{list_all}
use Rattle.std.specs.Str.Parse.{digits_value}

-- a number is one to nine decimal digits
abbrev pub is_number : List ℕ → Bool
is_number text = list_all is_ascii_digit text && nat_le 1 (length text) && nat_le (length text) 9

-- the value of a text that is a number; leading zeros are read
abbrev pub number_of : List ℕ → Option ℕ
number_of text = if is_number text then Some (digits_value 10 text) else None
