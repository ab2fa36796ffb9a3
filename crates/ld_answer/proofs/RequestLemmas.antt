-- What holds of every request of words: its numbers, and the names of its files.
use Rattle.std.proofs.Common.{rules, ◌≡◌, ◌≤◌, ◌+◌, ℕ, Bool, true, false, cond, List, [], ◌∷◌, ◌++◌, Option, None, Some, arith, ap, get_or, length, map, refl, subst, sym, ◌∙◌}
use Rattle.std.specs.Prelude.{IfSome, String, find, string_bytes}
use Rattle.std.specs.List.{AllByRecursion, flat_map}
use Rattle.std.specs.Option.{option_and_then, option_map}
use Rattle.std.specs.Str.{IsUtf8}
use Rattle.std.proofs.Math.Seq.{drop-append-add, get_or-append_seam}
use Rattle.std.proofs.lemmas.List.{length-append}
use Rattle.std.proofs.lemmas.Str.{IsCharBoundary-after_ascii, IsUtf8-drop, IsUtf8-string_bytes}
use Rattle.ld_words.specs.Forms.{form_read, options_of}
use Rattle.ld_words.specs.Number.{number_of}
use Rattle.ld_words.specs.Options.{kind_of, name_text, option_words, value_of, words_by, Fits, Given, IsOptionOf, Manner, Apart, Joined, Alone, Written, is_name}
use Rattle.ld_words.specs.Values.{IsEntries}
use Rattle.ld_words.specs.Words as words
use Rattle.ld_words.specs.declared.option.OptionName.{OptionName}
use Rattle.ld_words.specs.declared.option.OptionName.TheVariants as names
use Rattle.ld_words.specs.declared.words.Words as requests
use Rattle.ld_words.specs.declared.words.Words.TheVariants.{StripeWeights, StripeSegment, Plan, RehearseTest, RehearseWords, Help}
use Rattle.ld_words.proofs.OptionsLemmas.{value_valid}
use Rattle.ld_machine.proofs.ListLemmas.{some_not_none}
use Rattle.ld_answer.specs.Request.{IsAsked, IsLimited, IsPlayable}

-- ---- numbers

-- a number of entries that is given is in its range, and so is the one that stands in for it
limit_within : (value : Option (List ℕ)) (entries : Option ℕ) → entries ≡ option_and_then number_of value →
    ((text : List ℕ) → value ≡ Some text → (n : ℕ) × IsEntries text n) → IsLimited entries
limit_within None entries is valid = rw is (record { least = omega arith; most = omega arith })
limit_within (Some text) entries is valid =
    let one = valid text refl in
    let low : 10 ≤ one.0 = one.1.enough in
    let high : one.0 ≤ 1000000 = one.1.few in
    let same : entries ≡ Some one.0 = is ∙ one.1.is in
    rw same (record { least = low; most = high })

-- ---- names

-- what stands behind a name and `=` in a text of UTF-8
behind_utf8 : (front value : List ℕ) → IsUtf8 (front ++ 61 ∷ value) → IsUtf8 value
behind_utf8 front value utf8 =
    let whole = front ++ 61 ∷ value in
    let size : length whole ≡ length front + length (61 ∷ value) = length-append front (61 ∷ value) in
    let at : get_or whole (length front) 0 ≡ 61 = get_or-append_seam front 61 value 0 in
    let boundary = IsCharBoundary-after_ascii whole (length front) utf8 (omega arith) (omega arith) in
    subst IsUtf8 (drop-append-add front (61 ∷ value) 1) (IsUtf8-drop whole (length front + 1) utf8 boundary)

-- an option among words that are UTF-8 has a value in UTF-8, and so are the words behind it
one_utf8 : (manner : Manner) (name : OptionName) (value : List ℕ) (more : List (List ℕ)) → Fits manner (kind_of name) value →
    AllByRecursion IsUtf8 (words_by manner (name_text name) value ++ more) → IsUtf8 value × AllByRecursion IsUtf8 more
one_utf8 Apart name value more fits all = (all.1.0, all.1.1)
one_utf8 Joined name value more fits all = (behind_utf8 (name_text name) value all.0, all.1)
one_utf8 Alone name value more fits all = (subst IsUtf8 (sym fits.1) (search rules), all.1)

-- a value among words that are UTF-8
value_utf8 : (names : List OptionName) (ws : List Written) → AllByRecursion (IsOptionOf names) ws → AllByRecursion IsUtf8 (flat_map option_words ws) →
    (n : OptionName) (value : List ℕ) → value_of n (map (λ (w : Written). w.option) ws) ≡ Some value → IsUtf8 value
value_utf8 names [] each all n value is = absurd (some_not_none (sym is))
value_utf8 names (w ∷ ws) each all n value is =
    let both = one_utf8 w.manner w.option.name w.option.value (flat_map option_words ws) each.0.fits all in
    let Q : Bool → Type 0 = λ b. option_map (λ (g : Given). g.value) (cond b (Some w.option) (find (λ (g : Given). is_name n g.name) (map (λ (v : Written). v.option) ws))) ≡ Some value → IsUtf8 value in
    let go : Q (is_name n w.option.name) = elim (is_name n w.option.name) as Q [
      | true ↦ λ at. subst (λ (o : Option (List ℕ)). IfSome o IsUtf8) at both.0
      | false ↦ λ at. value_utf8 names ws each.1 both.1 n value at
    ] in go is

strings_utf8 : {Z : Type 0} (ws : List (String Z)) → AllByRecursion IsUtf8 (map string_bytes ws)
strings_utf8 [] = tt
strings_utf8 (w ∷ ws) = (IsUtf8-string_bytes w, strings_utf8 ws)

all_parts : (xs ys : List (List ℕ)) → AllByRecursion IsUtf8 (xs ++ ys) → AllByRecursion IsUtf8 xs × AllByRecursion IsUtf8 ys
all_parts [] ys all = (tt, all)
all_parts (x ∷ xs) ys all = let rest = all_parts xs ys all.1 in ((all.0, rest.0), rest.1)

-- ---- requests

-- the words at the places are UTF-8, and so is each value that is given
record AreUtf8 (places : List (List ℕ)) (given : List Given) : Type 0 where
  pub places_are : AllByRecursion IsUtf8 places
  pub values_are : (n : OptionName) (value : List ℕ) → value_of n given ≡ Some value → IsUtf8 value

words_utf8 : {Z : Type 0} (ws : List (String Z)) (request : requests.Words) (asks : words.Asks (map string_bytes ws) request) → AreUtf8 asks.places asks.given
words_utf8 ws request asks =
    let are = asks.words_are in
    let all = (subst (AllByRecursion IsUtf8) are.words_are (strings_utf8 ws)).1 in
    let parts = all_parts asks.places are.option_words all in
    let written = are.options_are.written in
    record {
      places_are = parts.0;
      values_are = λ n value is. value_utf8 (options_of (form_read (map string_bytes ws))) written are.options_are.each
          (subst (AllByRecursion IsUtf8) are.options_are.words_are parts.1) n value
          (ap (λ (gs : List Given). value_of n gs) (sym are.options_are.given_are) ∙ is);
    }

limited : (ws : List (List ℕ)) (request : requests.Words) (asks : words.Asks ws request) (entries : Option ℕ) →
    entries ≡ words.number_under names.Entries asks.given → IsLimited entries
limited ws request asks entries is =
    limit_within (value_of names.Entries asks.given) entries is
    (λ text at. value_valid (options_of (form_read ws)) asks.words_are.option_words asks.given asks.words_are.options_are names.Entries text at (λ e. cc))

playable : (places : List (List ℕ)) (given : List Given) (iteration : ℕ) (journal : List ℕ) → AreUtf8 places given → words.IsPlayAsked given iteration journal →
    IsPlayable iteration journal
playable places given iteration journal utf8 play = record {
  lasts = play.iteration_is.2.some;
  named = utf8.values_are names.Journal journal play.journal_is;
}

first_utf8 : (places : List (List ℕ)) (test : List ℕ) → AllByRecursion IsUtf8 places → places ≡ test ∷ [] → IsUtf8 test
first_utf8 places test all is = (subst (AllByRecursion IsUtf8) is all).0

-- what words ask for keeps to this
pub asked_of : {Z : Type 0} (ws : List (String Z)) (request : requests.Words) → words.Asks (map string_bytes ws) request → IsAsked request
asked_of ws (StripeWeights weights position count) asks = tt
asked_of ws (StripeSegment count segment sequence) asks = tt
asked_of ws (Plan test segment sequence entries listed) asks =
    let utf8 = words_utf8 ws _ asks in
    (first_utf8 asks.places test utf8.places_are asks.meant.0.places_are, limited (map string_bytes ws) _ asks entries asks.meant.0.entries_is)
asked_of ws (RehearseTest test iteration journal segment sequence entries) asks =
    let utf8 = words_utf8 ws _ asks in (
      first_utf8 asks.places test utf8.places_are asks.meant.0.places_are,
      limited (map string_bytes ws) _ asks entries asks.meant.0.entries_is,
      playable asks.places asks.given iteration journal utf8 asks.meant.1,
    )
asked_of ws (RehearseWords rate unit duration pre max iteration journal entries) asks =
    let utf8 = words_utf8 ws _ asks in
    (limited (map string_bytes ws) _ asks entries asks.meant.2, playable asks.places asks.given iteration journal utf8 asks.meant.1)
asked_of ws Help asks = tt
