-- Forms of commands, and the place at which words are refused that are of none.
use Rattle.std.specs.Prelude.{◌≡◌, ◌<◌, ◌≤◌, ◌+◌, ℕ, List, ◌++◌, drop, length, take}
use Rattle.ld_words.specs.declared.fault.WordsFault.{WordsFault}
use Rattle.ld_words.specs.declared.fault.WordsFault.TheVariants.{Refused, Memory}

-- a form of commands: the word lists that are of it
abbrev pub Form : Type 1
Form = List (List ℕ) → Type 0

-- with more words behind them the words are of the form
abbrev pub IsFront : Form → List (List ℕ) → Type 0
IsFront form words = (more : List (List ℕ)) × form (words ++ more)

-- Words are refused at the least place whose word can't stand there behind the words before it, or at
-- their end where that comes too early.
pub record IsRefusedBy (form : Form) (words : List (List ℕ)) (place : ℕ) : Type 0 where
  pub within : place ≤ length words
  pub before : IsFront form (take place words)
  pub not_here : place < length words → IsFront form (take (place + 1) words) → ⊥
  pub unfinished : place ≡ length words → form words → ⊥

-- the words are refused with this fault; want of memory is no refusal of theirs
abbrev pub IsRefusal : Form → List (List ℕ) → WordsFault → Type 0
IsRefusal form words (Refused place) = IsRefusedBy form words place
IsRefusal form words Memory = ⊥

-- the words behind the first ones are refused, at a place among all words
abbrev pub IsRefusalBehind : ℕ → Form → List (List ℕ) → WordsFault → Type 0
IsRefusalBehind first form words (Refused place) =
    (behind : ℕ) × (place ≡ first + behind) × IsRefusedBy form (drop first words) behind
IsRefusalBehind first form words Memory = ⊥
