-- The order in which the headers of a list are sent: by their names, equal names as they are listed.
use Rattle.std.specs.Prelude.{◌≡◌, Bool, false, ℕ, List, [], ◌∷◌, ⊤, bytes_eq, if◌then◌else◌}
use Rattle.std.specs.Cmp.Lexicographic.{slice_cmp}
use Rattle.std.specs.List.{AllByRecursion, filter}
use Rattle.std.specs.List.Sorted.{IsPermutation}
use Rattle.std.specs.Ordering.{is_lt, nat_cmp}

-- a header's name and its value
abbrev pub Header : Type 0
Header = List ℕ × List ℕ

-- a text is below another in byte order
abbrev pub is_below : List ℕ → List ℕ → Bool
is_below text other = is_lt (slice_cmp nat_cmp text other)

-- the header has this name
abbrev pub is_named : List ℕ → Header → Bool
is_named name header = bytes_eq name header.0

-- no name is below that of a header in front of it
abbrev pub NamesRise : List Header → Type 0
NamesRise [] = ⊤
NamesRise (header ∷ headers) = AllByRecursion (λ (behind : Header). is_below behind.0 header.0 ≡ false) headers × NamesRise headers

-- the headers of a list, in byte order of their names, those of one name in the order of the list
pub record AreInOrder (listed sent : List Header) : Type 0 where
  pub all : IsPermutation listed sent
  pub names : NamesRise sent
  pub alike : (name : List ℕ) → filter (is_named name) sent ≡ filter (is_named name) listed

-- a header in front of the first whose name isn't below its own
abbrev pub placed : Header → List Header → List Header
placed header [] = header ∷ []
placed header (first ∷ headers) =
    if is_below first.0 header.0 then first ∷ placed header headers else header ∷ first ∷ headers

-- the headers of a list in that order
abbrev pub in_order : List Header → List Header
in_order [] = []
in_order (header ∷ headers) = placed header (in_order headers)
