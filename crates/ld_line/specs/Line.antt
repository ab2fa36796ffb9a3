-- Lines of text: words joined by one space, with a line feed behind the last.
use Rattle.std.specs.Prelude.{◌≡◌, ◌==◌, Bool, ℕ, List, [], ◌∷◌, ◌++◌, count_by, decimal, if◌then◌else◌}
use Rattle.std.specs.List.{join_with_byte}
use Rattle.ld_line.specs.declared.word.Word.{Word}
use Rattle.ld_line.specs.declared.word.Word.TheVariants.{Text, Number}

-- the bytes space and line feed
abbrev pub space : ℕ
space = 32

abbrev pub line_feed : ℕ
line_feed = 10

-- a word as it is written
abbrev pub word_text : Word → List ℕ
word_text (Text text) = text.now
word_text (Number number) = decimal number

-- words, joined by one space
abbrev pub joined : List (List ℕ) → List ℕ
joined words = join_with_byte space words

-- a line of words
abbrev pub line : List (List ℕ) → List ℕ
line words = joined words ++ line_feed ∷ []

-- a word behind a space, where it follows another
abbrev pub next_text : Bool → List ℕ → List ℕ
next_text follows word = if follows then space ∷ word else word

-- there is nothing else than more behind it
abbrev pub Grows : List ℕ → List ℕ → Type 0
Grows before after = (more : List ℕ) × (after ≡ before ++ more)

-- how many line feeds a text has
abbrev pub line_feeds : List ℕ → ℕ
line_feeds text = count_by (λ byte. byte == line_feed) text
