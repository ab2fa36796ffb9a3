-- How many lines a journal has.
use Rattle.std.proofs.Common.{◌≡◌, ◌+◌, ◌∙◌, ◌∷◌, [], List, length, arith, ap₂, refl, sym}
use Rattle.std.specs.Prelude.{sum_by}
use Rattle.std.specs.List.{flat_map}
use Rattle.std.proofs.lemmas.List.{length-append, length-map}
use Rattle.std.proofs.lemmas.List.Sums.{sum_by-cons}
use Rattle.ld_base.specs.declared.entry.Entry.{Entry}
use Rattle.ld_journal.specs.Journal.{end_line, entry_lines, journal_lines, sample_line, samples_of}
use Rattle.ld_journal.specs.declared.header.Header.{Header}

pub entries_counted : (entries : List Entry) →
    length (flat_map entry_lines entries) ≡ sum_by (λ (entry : Entry). 1 + length (samples_of entry.act)) entries
entries_counted [] = refl
entries_counted (e ∷ es) =
    let samples = samples_of e.act in
    let one : length (entry_lines e) ≡ 1 + length samples = omega (arith, length-map samples sample_line) in
    length-append (entry_lines e) (flat_map entry_lines es)
    ∙ ap₂ (λ m n. m + n) one (entries_counted es)
    ∙ sym (sum_by-cons (λ (entry : Entry). 1 + length (samples_of entry.act)) e es)

pub counted : (header : Header) (entries : List Entry) →
    length (journal_lines header entries) ≡ 7 + sum_by (λ (entry : Entry). 1 + length (samples_of entry.act)) entries
counted header entries =
    let parts = length-append (flat_map entry_lines entries) (end_line entries ∷ []) in
    omega (arith, parts, entries_counted entries)
