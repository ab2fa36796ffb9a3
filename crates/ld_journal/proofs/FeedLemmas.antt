-- How many line feeds the text of a journal has.
use Rattle.std.proofs.Common.{◌≡◌, ◌+◌, ◌∙◌, ◌∷◌, ◌++◌, [], ℕ, Bool, true, false, List, length, map, arith, ap, ap₂, refl, subst}
use Rattle.std.proofs.lemmas.List.{append-nil}
use Rattle.std.proofs.lemmas.List.Elements.{recursion_from_All}
use Rattle.std.proofs.lemmas.List.Folds.{concat-append}
use Rattle.std.specs.List.{AllByRecursion, concat, flat_map}
use Rattle.std.specs.Prelude.{IsTrue, codes, decimal, sum_by}
use Rattle.ld_base.specs.declared.act.Act.{Act}
use Rattle.ld_base.specs.declared.act.Act.TheVariants.{Take, Grow, Start, Drop, Late, Return, Release, Stop, Close, Control}
use Rattle.ld_base.specs.declared.act.Outcome.{Outcome}
use Rattle.ld_base.specs.declared.act.Outcome.TheVariants.{Done, Interrupted}
use Rattle.ld_base.specs.declared.command.Command.{Command}
use Rattle.ld_base.specs.declared.command.Command.TheVariants as commands
use Rattle.ld_base.specs.declared.entry.Entry.{Entry}
use Rattle.ld_base.specs.declared.sample.Sample.{Sample}
use Rattle.ld_line.proofs.FeedLemmas.{HaveOneFeed, LackFeeds, decimal_lacks, feeds_append, feeds_of_lines, lacks_cons, one_feed}
use Rattle.ld_line.specs.Line.{line, line_feed, line_feeds}
use Rattle.ld_journal.specs.Journal.{act_words, command_words, cut_lines, end_line, entry_line, entry_lines, flag_word, journal_text, outcome_word, sample_line, samples_of, test_lines}
use Rattle.ld_journal.specs.Writable.{IsCutText, is_cut_byte}
use Rattle.ld_journal.specs.declared.header.Header.{Header}
use Rattle.ld_journal.proofs.CountLemmas.{entries_counted}

flag_lacks : (is_set : Bool) → line_feeds (flag_word is_set) ≡ 0
flag_lacks true = refl
flag_lacks false = refl

outcome_lacks : (outcome : Outcome) → line_feeds (outcome_word outcome) ≡ 0
outcome_lacks Done = refl
outcome_lacks Interrupted = refl

command_lacks : (command : Command) → LackFeeds (command_words command)
command_lacks (commands.Pause paused) = (refl, (flag_lacks paused, tt))
command_lacks commands.Stop = (refl, tt)
command_lacks (commands.Vus users) = (refl, (decimal_lacks users, tt))
command_lacks (commands.VusMax users) = (refl, (decimal_lacks users, tt))

-- numbers have no line feeds
numbers_lack : (numbers : List ℕ) → LackFeeds (map decimal numbers)
numbers_lack [] = tt
numbers_lack (n ∷ numbers) = (decimal_lacks n, numbers_lack numbers)

act_lacks : (act : Act) → LackFeeds (act_words act)
act_lacks (Take scenario user slot) = (refl, numbers_lack (scenario ∷ user ∷ slot ∷ []))
act_lacks (Grow scenario user slot) = (refl, numbers_lack (scenario ∷ user ∷ slot ∷ []))
act_lacks (Start scenario user item until) = (refl, numbers_lack (scenario ∷ user ∷ item ∷ until ∷ []))
act_lacks (Drop scenario item) = (refl, numbers_lack (scenario ∷ item ∷ []))
act_lacks (Late scenario item) = (refl, numbers_lack (scenario ∷ item ∷ []))
act_lacks (Return scenario user item outcome tally) = (
  refl,
  (decimal_lacks scenario, (decimal_lacks user, (decimal_lacks item, (outcome_lacks outcome, numbers_lack (length tally.samples ∷ []))))),
)
act_lacks (Release scenario user) = (refl, numbers_lack (scenario ∷ user ∷ []))
act_lacks (Stop scenario) = (refl, numbers_lack (scenario ∷ []))
act_lacks (Close scenario) = (refl, numbers_lack (scenario ∷ []))
act_lacks (Control command) = (refl, command_lacks command)

entry_feed : (entry : Entry) → line_feeds (entry_line entry) ≡ 1
entry_feed entry =
    one_feed (decimal entry.turn ∷ decimal entry.thread ∷ decimal entry.reading ∷ act_words entry.act)
    (decimal_lacks entry.turn, (decimal_lacks entry.thread, (decimal_lacks entry.reading, act_lacks entry.act)))

sample_words : Sample → List (List ℕ)
sample_words s =
    codes "s" ∷ decimal s.name ∷ decimal s.status ∷ decimal s.span ∷ decimal s.sent ∷ decimal s.received ∷ flag_word s.failed ∷ decimal s.check_bits ∷ []

sample_feed : (s : Sample) → line_feeds (sample_line s) ≡ 1
unfolding sample_words
sample_feed s =
    one_feed (sample_words s) (
      refl,
      (decimal_lacks s.name, (decimal_lacks s.status, (decimal_lacks s.span, (decimal_lacks s.sent, (decimal_lacks s.received, (flag_lacks s.failed, (decimal_lacks s.check_bits, tt))))))),
    )

samples_feed : (samples : List Sample) → HaveOneFeed (map sample_line samples)
samples_feed [] = tt
samples_feed (s ∷ samples) = (sample_feed s, samples_feed samples)

both_feed : (xs ys : List (List ℕ)) → HaveOneFeed xs → HaveOneFeed ys → HaveOneFeed (xs ++ ys)
both_feed [] ys left right = right
both_feed (x ∷ xs) ys left right = (left.0, both_feed xs ys left.1 right)

entries_feed : (entries : List Entry) → HaveOneFeed (flat_map entry_lines entries)
entries_feed [] = tt
entries_feed (e ∷ es) =
    both_feed (entry_lines e) (flat_map entry_lines es) (entry_feed e, samples_feed (samples_of e.act)) (entries_feed es)

-- segments and sequences have none
cut_byte_lacks : (x : ℕ) → IsTrue (is_cut_byte x) → x ≡ line_feed → ⊥
cut_byte_lacks x is_one is = let e : false ≡ true = subst (λ y. IsTrue (is_cut_byte y)) is is_one in cc

cut_bytes_lack : (text : List ℕ) → AllByRecursion (λ byte. IsTrue (is_cut_byte byte)) text → line_feeds text ≡ 0
cut_bytes_lack [] are = refl
cut_bytes_lack (x ∷ text) are = lacks_cons x text (cut_byte_lacks x are.0) (cut_bytes_lack text are.1)

cut_lacks : (text : List ℕ) → IsCutText text → line_feeds text ≡ 0
cut_lacks text is = cut_bytes_lack text (recursion_from_All (λ byte. IsTrue (is_cut_byte byte)) text is.bytes)

cut_feed : (header : Header) → IsCutText header.segment → IsCutText header.sequence → HaveOneFeed (cut_lines header)
cut_feed header segment sequence = (
  one_feed (codes "segment" ∷ header.segment ∷ []) (refl, (cut_lacks header.segment segment, tt)),
  (
    one_feed (codes "sequence" ∷ header.sequence ∷ []) (refl, (cut_lacks header.sequence sequence, tt)),
    (one_feed (codes "entries" ∷ decimal header.entries ∷ []) (refl, (decimal_lacks header.entries, tt)), tt),
  ),
)

-- the first lines have three beside those of the test
three_lines : (a b test : List ℕ) → line_feeds a ≡ 1 → line_feeds b ≡ 1 →
    line_feeds (concat (a ∷ b ∷ (test ++ line_feed ∷ []) ∷ [])) ≡ line_feeds test + 3
three_lines a b test one two =
    let last = test ++ line_feed ∷ [] in
    feeds_append a (concat (b ∷ last ∷ []))
    ∙ ap₂ (λ m n. m + n) one (feeds_append b (concat (last ∷ [])) ∙ ap₂ (λ m n. m + n) two (ap line_feeds (append-nil last) ∙ feeds_append test (line_feed ∷ [])))
    ∙ (let e : 1 + (1 + (line_feeds test + 1)) ≡ line_feeds test + 3 = omega arith in e)

test_feeds : (test : List ℕ) → line_feeds (concat (test_lines test)) ≡ line_feeds test + 3
test_feeds test =
    three_lines (line (codes "ldjournal" ∷ codes "1" ∷ [])) (line (codes "test" ∷ decimal (length test) ∷ [])) test refl
    (one_feed (codes "test" ∷ decimal (length test) ∷ []) (refl, (decimal_lacks (length test), tt)))

end_feed : (entries : List Entry) → line_feeds (end_line entries) ≡ 1
end_feed entries = one_feed (codes "end" ∷ decimal (length entries) ∷ []) (refl, (decimal_lacks (length entries), tt))

-- the feeds of four parts
joined_feeds : (xs ys : List (List ℕ)) → line_feeds (concat (xs ++ ys)) ≡ line_feeds (concat xs) + line_feeds (concat ys)
joined_feeds xs ys = ap line_feeds (concat-append xs ys) ∙ feeds_append (concat xs) (concat ys)

four_parts : (xs ys zs : List (List ℕ)) (last : List ℕ) (t n : ℕ) → line_feeds (concat xs) ≡ t + 3 → line_feeds (concat ys) ≡ 3 →
    line_feeds (concat zs) ≡ n → line_feeds last ≡ 1 → line_feeds (concat (xs ++ ys ++ zs ++ last ∷ [])) ≡ t + (7 + n)
four_parts xs ys zs last t n first second third fourth =
    joined_feeds (xs ++ ys ++ zs) (last ∷ [])
    ∙ ap₂ (λ k m. k + m) (joined_feeds (xs ++ ys) zs ∙ ap₂ (λ k m. k + m) (joined_feeds xs ys ∙ ap₂ (λ k m. k + m) first second) third) (ap line_feeds (append-nil last) ∙ fourth)
    ∙ (let e : t + 3 + 3 + n + 1 ≡ t + (7 + n) = omega arith in e)

pub feeds_counted : (header : Header) (entries : List Entry) → IsCutText header.segment → IsCutText header.sequence →
    line_feeds (journal_text header entries) ≡ line_feeds header.test + (7 + sum_by (λ (entry : Entry). 1 + length (samples_of entry.act)) entries)
feeds_counted header entries segment sequence =
    let n = sum_by (λ (entry : Entry). 1 + length (samples_of entry.act)) entries in
    four_parts (test_lines header.test) (cut_lines header) (flat_map entry_lines entries) (end_line entries) (line_feeds header.test) n
    (test_feeds header.test)
    (feeds_of_lines (cut_lines header) (cut_feed header segment sequence))
    (feeds_of_lines (flat_map entry_lines entries) (entries_feed entries) ∙ entries_counted entries)
    (end_feed entries)
