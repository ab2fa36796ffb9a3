-- Options' names without their dashes.
use Rattle.std.proofs.Common.{◌≡◌, ◌∙◌, ℕ, Bool, true, false, List, [], ◌∷◌, ◌++◌, Some, None, ap, ap₂, refl, sym}
use Rattle.std.specs.Str.{bytes_eq}
use Rattle.std.specs.List.{find}
use Rattle.std.specs.Option.{unwrap_or}
use Rattle.std.proofs.lemmas.Slice.Eq.{bytes_eq-Decides}
use Rattle.clap.specs.Lexer.{long_of}
use Rattle.ld_words.specs.Options.{is_name, name_text}
use Rattle.ld_words.specs.Parsed.{all_names}
use Rattle.ld_words.specs.Syntax.{bare_name}
use Rattle.ld_words.specs.declared.option.OptionName.{OptionName}
use Rattle.ld_words.specs.declared.option.OptionName.TheVariants as names

-- a name is written as two dashes and the rest
pub written_name : (n : OptionName) → name_text n ≡ 45 ∷ 45 ∷ bare_name n
written_name names.Segment = refl
written_name names.Sequence = refl
written_name names.Rate = refl
written_name names.Unit = refl
written_name names.Duration = refl
written_name names.Pre = refl
written_name names.Max = refl
written_name names.Iteration = refl
written_name names.Journal = refl
written_name names.Entries = refl
written_name names.List = refl

-- a test of two texts holds of a text and itself
pub same_text : (xs : List ℕ) → bytes_eq xs xs ≡ true
same_text xs = (bytes_eq-Decides xs xs).1 refl

-- the order of two texts doesn't matter
pub either_order : (xs ys : List ℕ) → bytes_eq xs ys ≡ bytes_eq ys xs
either_order xs ys = go (bytes_eq xs ys) (bytes_eq ys xs) (λ e. (bytes_eq-Decides ys xs).1 (sym ((bytes_eq-Decides xs ys).0 e))) (λ e. (bytes_eq-Decides xs ys).1 (sym ((bytes_eq-Decides ys xs).0 e)))
  where
    go : (a b : Bool) → (a ≡ true → b ≡ true) → (b ≡ true → a ≡ true) → a ≡ b
    go true b there back = sym (there refl)
    go false true there back = back refl
    go false false there back = refl

-- names are one where what is behind their dashes is
pub bare_names : (n m : OptionName) → is_name n m ≡ bytes_eq (bare_name m) (bare_name n)
bare_names n m = ap₂ bytes_eq (written_name n) (written_name m) ∙ either_order (bare_name n) (bare_name m)

name_from : List ℕ → OptionName
name_from text = unwrap_or (find (λ m. bytes_eq (bare_name m) text) all_names) names.Segment

from_bare : (n : OptionName) → name_from (bare_name n) ≡ n
unfolding name_from
from_bare names.Segment = refl
from_bare names.Sequence = refl
from_bare names.Rate = refl
from_bare names.Unit = refl
from_bare names.Duration = refl
from_bare names.Pre = refl
from_bare names.Max = refl
from_bare names.Iteration = refl
from_bare names.Journal = refl
from_bare names.Entries = refl
from_bare names.List = refl

-- a name is known by what is behind its dashes
pub one_name : (m n : OptionName) → bytes_eq (bare_name m) (bare_name n) ≡ true → m ≡ n
one_name m n same = sym (from_bare m) ∙ ap name_from ((bytes_eq-Decides (bare_name m) (bare_name n)).0 same) ∙ from_bare n

-- what is read of a name alone
pub read_alone : (n : OptionName) → long_of (name_text n) ≡ Some (bare_name n, None)
read_alone names.Segment = refl
read_alone names.Sequence = refl
read_alone names.Rate = refl
read_alone names.Unit = refl
read_alone names.Duration = refl
read_alone names.Pre = refl
read_alone names.Max = refl
read_alone names.Iteration = refl
read_alone names.Journal = refl
read_alone names.Entries = refl
read_alone names.List = refl

-- what is read of a name and a value in one word
pub read_joined : (n : OptionName) (value : List ℕ) → long_of (name_text n ++ 61 ∷ value) ≡ Some (bare_name n, Some value)
read_joined names.Segment value = refl
read_joined names.Sequence value = refl
read_joined names.Rate value = refl
read_joined names.Unit value = refl
read_joined names.Duration value = refl
read_joined names.Pre value = refl
read_joined names.Max value = refl
read_joined names.Iteration value = refl
read_joined names.Journal value = refl
read_joined names.Entries value = refl
read_joined names.List value = refl

-- a word that begins with a name isn't two dashes
pub more_than_dashes : (n : OptionName) (rest : List ℕ) → bytes_eq (name_text n ++ rest) (45 ∷ 45 ∷ []) ≡ false
more_than_dashes names.Segment rest = refl
more_than_dashes names.Sequence rest = refl
more_than_dashes names.Rate rest = refl
more_than_dashes names.Unit rest = refl
more_than_dashes names.Duration rest = refl
more_than_dashes names.Pre rest = refl
more_than_dashes names.Max rest = refl
more_than_dashes names.Iteration rest = refl
more_than_dashes names.Journal rest = refl
more_than_dashes names.Entries rest = refl
more_than_dashes names.List rest = refl
