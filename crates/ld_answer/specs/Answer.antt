-- What words ask for, before any of it is written.
use Rattle.std.specs.Prelude.{ℕ, List, None, ◌++◌, ◌∷◌, [], IfSome, codes, decimal}
use Rattle.std.specs.Str.{IsUtf8}
use Rattle.ld_base.specs.declared.reply.Room.{Room}
use Rattle.ld_base.specs.declared.reply.Room.TheVariants.{Entries, Samples}
use Rattle.ld_rehearsal.specs.declared.full.FullJournal.{FullJournal}
use Rattle.ld_answer.specs.declared.answer.Answer.{Answer}
use Rattle.ld_answer.specs.declared.answer.NamedFile.{NamedFile}

-- a text, and neither a file nor a journal without room
abbrev pub text_alone : List ℕ → Answer
text_alone words = record { file = None; text = words; full = None }

-- the name of the file, if there is one, is UTF-8
abbrev pub HasUtf8Name : Answer → Type 0
HasUtf8Name answer = IfSome answer.file (λ (f : NamedFile). IsUtf8 f.name)

-- the word for a limit of a journal
abbrev pub room_word : Room → List ℕ
room_word Entries = codes "entries"
room_word Samples = codes "samples"

-- the line that says that a journal had no room
abbrev pub full_line : FullJournal → List ℕ
full_line full =
    codes "error full " ++ room_word full.room ++ 32 ∷ decimal full.needed ++ 32 ∷ decimal full.limit ++ 10 ∷ []
