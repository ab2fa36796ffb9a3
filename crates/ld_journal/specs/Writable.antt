-- Which headers and histories have a journal.
use Rattle.std.specs.Prelude.{◌≡◌, ◌<◌, ◌≤◌, ◌||◌, ◌==◌, ℕ, Bool, List, All, IsTrue, length, map}
use Rattle.std.specs.Char.{is_ascii_digit}
use Rattle.std.specs.List.{flat_map, range_with_len}
use Rattle.ld_base.specs.declared.entry.Entry.{Entry}
use Rattle.ld_journal.specs.Journal.{samples_of}
use Rattle.ld_journal.specs.declared.header.Header.{Header}

-- a byte of a segment or of a sequence: a digit, or one of / : ,
abbrev pub is_cut_byte : ℕ → Bool
is_cut_byte byte = is_ascii_digit byte || byte == 47 || byte == 58 || byte == 44

-- a segment or a sequence: one such byte or more
pub record IsCutText (text : List ℕ) : Type 0 where
  pub some : 0 < length text
  pub bytes : All (λ byte. IsTrue (is_cut_byte byte)) text

-- the test isn't too long, segment and sequence are texts of their kind, the limit is in its range,
-- the turns are 1, 2 and so on, and neither the entries nor their samples are more than the limit
pub record IsWritable (header : Header) (entries : List Entry) : Type 0 where
  pub test : length header.test ≤ 1048576
  pub segment : IsCutText header.segment
  pub sequence : IsCutText header.sequence
  pub least : 10 ≤ header.entries
  pub most : header.entries ≤ 1000000
  pub turns : map (λ (entry : Entry). entry.turn) entries ≡ range_with_len 1 (length entries)
  pub few_entries : length entries ≤ header.entries
  pub few_samples : length (flat_map (λ (entry : Entry). samples_of entry.act) entries) ≤ header.entries
