-- Numbers read from words.
use Rattle.std.proofs.Common.{◌≡◌, ◌<◌, ◌≤◌, ◌+◌, ◌^◌, ◌∙◌, ◌++◌, ◌∷◌, [], Bor, ℕ, zero, suc, List, length, get_or, take, map, arith, refl, ap, ap₂, sym, true, rules}
use Rattle.std.specs.Prelude.{Option, Some, None, Result, nat_le, ◌&&◌, if◌then◌else◌}
use Rattle.std.specs.Result.{result_ok}
use Rattle.std.proofs.lemmas.Bool.{and_parts, leb-true}
use Rattle.std.specs.Char.{is_ascii_digit}
use Rattle.std.specs.List.{list_all}
use Rattle.std.specs.Str.Parse.{ParsesUnsigned, digits_value}
use Rattle.std.proofs.lemmas.Str.Parse.{IsNumeralModel, numerals_by_value, parse_gives, digits_value_short}
use Rattle.std.proofs.lemmas.List.{take_more, map-append}
use Rattle.ld_words.specs.Number.{is_number, number_of}

-- where one text is no number, they aren't numbers
not_numbers : (texts : List (List ℕ)) (i : ℕ) → i < length texts → number_of (get_or texts i []) ≡ None →
    (numbers : List ℕ) → map number_of texts ≡ map Some numbers → ⊥
not_numbers [] i below none numbers all = absurd (omega arith)
not_numbers (t ∷ ts) zero below none [] all = cc
not_numbers (t ∷ ts) zero below none (n ∷ ns) all = cc
not_numbers (t ∷ ts) (suc i) below none [] all = cc
not_numbers (t ∷ ts) (suc i) below none (n ∷ ns) all = not_numbers ts i (omega arith) none ns cc

-- one text more that is a number
numbers_more : (texts : List (List ℕ)) (i : ℕ) (numbers : List ℕ) (n : ℕ) → i < length texts →
    map number_of (take i texts) ≡ map Some numbers → number_of (get_or texts i []) ≡ Some n →
    map number_of (take (i + 1) texts) ≡ map Some (numbers ++ n ∷ [])
numbers_more texts i numbers n below so_far is =
    ap (map number_of) (take_more texts i [] below)
    ∙ map-append number_of (take i texts) (get_or texts i [] ∷ [])
    ∙ ap₂ (λ xs x. xs ++ x ∷ []) so_far is
    ∙ sym (map-append Some numbers (n ∷ []))

-- digits, in the words of std's parsing
digits_model : IsNumeralModel (λ ds. list_all is_ascii_digit ds ≡ true) (digits_value 10)
digits_model = numerals_by_value _ (search rules)

-- what is parsed of a number is its value
pub parsed_number : {E : Type 0} (text : List ℕ) (result : Result ℕ E) → ParsesUnsigned 32 10 text result →
    is_number text ≡ true → result_ok result ≡ number_of text
parsed_number text result parses is =
    let digits_and_some = and_parts (list_all is_ascii_digit text && nat_le 1 (length text)) (nat_le (length text) 9) is in
    let digits = and_parts (list_all is_ascii_digit text) (nat_le 1 (length text)) digits_and_some.0 in
    let some : 0 < length text = leb-true 1 (length text) digits.1 in
    let short : length text ≤ 9 = leb-true (length text) 9 digits_and_some.1 in
    let small : digits_value 10 text < 10 ^ 9 = digits_value_short digits_model text 9 digits.0 short in
    let value = parse_gives digits_model 32 text result parses digits.0 some (omega arith) in
    ap result_ok value ∙ sym (ap (λ b. if b then Some (digits_value 10 text) else None) is)

-- the texts behind references
abbrev pub texts_of : List (Bor (List ℕ)) → List (List ℕ)
texts_of texts = map (λ (text : Bor (List ℕ)). text.now) texts

text_at : (texts : List (Bor (List ℕ))) (i : ℕ) (d : Bor (List ℕ)) → i < length texts →
    get_or (texts_of texts) i [] ≡ (get_or texts i d).now
text_at (t ∷ ts) zero d below = refl
text_at (t ∷ ts) (suc i) d below = text_at ts i d (omega arith)
text_at [] i d below = absurd (omega arith)

length-texts_of : (texts : List (Bor (List ℕ))) → length (texts_of texts) ≡ length texts
length-texts_of [] = refl
length-texts_of (t ∷ ts) = ap suc (length-texts_of ts)

-- where the text at an index is no number, they aren't numbers
pub not_numbers_at : (texts : List (Bor (List ℕ))) (i : ℕ) (d : Bor (List ℕ)) (read : Option ℕ) → i < length texts →
    read ≡ number_of (get_or texts i d).now → read ≡ None →
    (numbers : List ℕ) → map number_of (texts_of texts) ≡ map Some numbers → ⊥
not_numbers_at texts i d read below is none =
    let long = length-texts_of texts in
    not_numbers (texts_of texts) i (omega arith) (ap number_of (text_at texts i d below) ∙ sym is ∙ none)

-- one text more that is a number
pub numbers_more_at : (texts : List (Bor (List ℕ))) (i : ℕ) (d : Bor (List ℕ)) (read : Option ℕ) (numbers : List ℕ) (n : ℕ) →
    i < length texts → map number_of (take i (texts_of texts)) ≡ map Some numbers →
    read ≡ number_of (get_or texts i d).now → read ≡ Some n →
    map number_of (take (i + 1) (texts_of texts)) ≡ map Some (numbers ++ n ∷ [])
numbers_more_at texts i d read numbers n below so_far is some =
    let long = length-texts_of texts in
    numbers_more (texts_of texts) i numbers n (omega arith) so_far (ap number_of (text_at texts i d below) ∙ sym is ∙ some)
