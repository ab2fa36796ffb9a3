-- Schedules: the planned arrivals with their moments, and the part that one position owns.
use Rattle.std.specs.Prelude.{◌==◌, ◌-◌, ℕ, List, filter, map}
use Rattle.std.specs.List.{range_with_len}
use Rattle.ld_stripe.specs.Striping.{owner_at}
use Rattle.ld_arrival.specs.Timetable.{Timetable, moment_of, planned}

-- arrival k, with its moment
abbrev pub arrival_at : Timetable → ℕ → ℕ × ℕ
arrival_at timetable k = (k, moment_of timetable k)

-- the planned arrivals with their moments, in order
abbrev pub schedule : Timetable → List (ℕ × ℕ)
schedule timetable = map (arrival_at timetable) (planned timetable)

-- of these pairs, those whose arrival position j owns
abbrev pub owned_pairs : List ℕ → ℕ → List (ℕ × ℕ) → List (ℕ × ℕ)
owned_pairs owners j pairs = filter (λ pair. owner_at owners pair.0 == j) pairs

-- of the arrivals from a on and below b, those that position j owns, with their moments
abbrev pub owned_between : Timetable → List ℕ → ℕ → (a b : ℕ) → List (ℕ × ℕ)
owned_between timetable owners j a b = owned_pairs owners j (map (arrival_at timetable) (range_with_len a (b - a)))
