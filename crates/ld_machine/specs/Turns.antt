-- A user's turns: its Starts and its Returns, one after another.
use Rattle.std.specs.Prelude.{Bool, true, ◌&&◌, List, [], ◌∷◌, find, IsTrue}
use Rattle.std.specs.Option.{option_map_or}
use Rattle.ld_base.specs.declared.act.Act.{Act}
use Rattle.ld_base.specs.declared.act.Act.TheVariants.{Start}
use Rattle.ld_base.specs.declared.entry.Entry.{Entry}
use Rattle.ld_machine.specs.Settled.{is_turn_of, is_its_return}

-- where an act is a Start, the next Start or Return of its user in these entries, if there is one, is
-- its Return
abbrev pub is_played_alone : Act → List Entry → Bool
is_played_alone (Start n user item _) rest =
    option_map_or (λ (entry : Entry). is_its_return n user item entry.act) (find (λ (entry : Entry). is_turn_of user entry.act) rest) true
is_played_alone _ rest = true

-- between two Starts of one user stands the Return of the first
abbrev pub starts_alternate : List Entry → Bool
starts_alternate [] = true
starts_alternate (entry ∷ rest) = is_played_alone entry.act rest && starts_alternate rest

abbrev pub StartsAlternate : List Entry → Type 0
StartsAlternate history = IsTrue (starts_alternate history)
