-- The text of the worked example.
use Rattle.std.proofs.Common.{◌≡◌, ◌∙◌, ◌∷◌, ◌++◌, [], ℕ, List, length, ap, append_assoc}
use Rattle.std.specs.Prelude.{codes, decimal}
use Rattle.std.specs.Fmt.{digits}
use Rattle.std.specs.List.{concat, flat_map}
use Rattle.ld_journal.specs.Example.{arrival_dropped, back, front, whole_header}
use Rattle.ld_journal.specs.Journal.{cut_lines, end_line, entry_lines, journal_text}

pub arrival_dropped_text : (test : List ℕ) → length test ≡ 188 →
    journal_text (whole_header test) arrival_dropped ≡ front ++ test ++ back
unfolding digits
arrival_dropped_text test is =
    let rest : List ℕ =
    concat (cut_lines (whole_header test) ++ flat_map entry_lines arrival_dropped ++ end_line arrival_dropped ∷ []) in
    ap (λ n. codes "ldjournal 1\ntest " ++ ((decimal n ++ 10 ∷ []) ++ ((test ++ 10 ∷ []) ++ rest))) is
    ∙ ap (λ t. front ++ t) (append_assoc test (10 ∷ []) rest)
