-- The data of a test by options.
use Rattle.std.proofs.Common.{ℕ, List}
use Rattle.std.specs.Prelude.{codes}
use Rattle.ld_words.specs.RateTest.{duration_text}
use Rattle.serde_json.specs.Data.{Data, unsigned, number, string, array, object, no_items, no_members, member}

-- an object of one member
abbrev pub one : List ℕ → Data → Data
one name d = object (member name d no_members)

-- the members of the scenario, in byte order of their names
abbrev pub scenario_data : ℕ → ℕ → ℕ → ℕ → ℕ → Data
scenario_data rate unit duration pre max = object
    (member (codes "duration") (string (duration_text duration))
    (member (codes "executor") (string (codes "constant-arrival-rate"))
    (member (codes "maxVUs") (number (unsigned max))
    (member (codes "preAllocatedVUs") (number (unsigned pre))
    (member (codes "rate") (number (unsigned rate))
    (member (codes "timeUnit") (string (duration_text unit)) no_members))))))

abbrev pub rate_data : ℕ → ℕ → ℕ → ℕ → ℕ → Data
rate_data rate unit duration pre max = object
    (member (codes "options") (one (codes "scenarios") (one (codes "main") (scenario_data rate unit duration pre max)))
    (member (codes "scripts") (one (codes "default") (array no_items)) no_members))
