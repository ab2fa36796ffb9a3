-- What is known of the terms that were read so far.
use Rattle.std.specs.Prelude.{◌≡◌, ◌≤◌, ◌-◌, ◌^◌, ℕ, true, List, min, sum_by, take, drop, not}
use Rattle.std.specs.List.{list_all, position_or_len}
use Rattle.ld_num.specs.Duration.{Term, is_known, is_short, is_whole, is_number_byte, term_length, longest}
use Rattle.ld_num.specs.declared.tally.Tally.{Tally}

pub record Tallies (terms : List Term) (tally : Tally) : Type 0 where
  pub known : tally.known ≡ list_all is_known terms
  pub short : tally.known ≡ true → tally.short ≡ list_all is_short terms
  pub total : tally.known ≡ true → tally.short ≡ true → tally.total ≡ min (sum_by term_length terms) (2 ^ 128 - 1)
  pub whole : tally.known ≡ true → tally.short ≡ true → sum_by term_length terms ≤ longest →
      tally.whole ≡ list_all is_whole terms

-- how many bytes from the front on are of a number, or of none
abbrev pub number_end : List ℕ → ℕ
number_end text = position_or_len (λ b. not (is_number_byte b)) text

abbrev pub unit_end : List ℕ → ℕ
unit_end text = position_or_len is_number_byte text

-- the number and the unit in front of a text, and what stands behind them
abbrev pub first_term : List ℕ → Term
first_term text =
    let behind = drop (number_end text) text in
    record { number = take (number_end text) text; unit = take (unit_end behind) behind }

abbrev pub behind_term : List ℕ → List ℕ
behind_term text =
    let behind = drop (number_end text) text in
    drop (unit_end behind) behind
