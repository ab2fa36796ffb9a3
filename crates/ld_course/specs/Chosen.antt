-- Which user is chosen of some.
use Rattle.std.specs.Prelude.{ℕ, List, Option, Some, slice_get, if◌then◌else◌}
use Rattle.ld_set.specs.SetView.{is_among}

-- of these users the preferred one, if it is among them, else the first one
abbrev pub chosen_of : ℕ → List ℕ → Option ℕ
chosen_of prefer numbers = if is_among numbers prefer then Some prefer else slice_get numbers 0
