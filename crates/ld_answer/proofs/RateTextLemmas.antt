-- The text of a test by options is read as its data.
use Rattle.std.proofs.Common.{◌≡◌, ◌<◌, ◌^◌, ◌++◌, ◌∷◌, [], ℕ, List, Some, decimal, refl, sym, ap, ◌∙◌, arith, subst, append_assoc, append-nil, ap₂}
use Rattle.std.specs.Prelude.{codes, option_and_then}
use Rattle.std.proofs.lemmas.Fmt.{decimal_is_IsNumeral}
use Rattle.std.proofs.lemmas.Str.Parse.{digit_at}
use Rattle.std.specs.Str.Parse.{AllDigits}
use Rattle.json.specs.Json as json
use Rattle.json.specs.Lex.{tokens}
use Rattle.json.specs.Print.{print, print_from, escape, escape_byte}
use Rattle.json.specs.Tree.{json_tokens, HasNumbers}
use Rattle.json.proofs.Printed.Decimals.{IsNumber-decimal}
use Rattle.json.proofs.Printed.Strings.{escape_byte_plain}
use Rattle.json.proofs.Printed.Tokens.{tokens-print}
use Rattle.json.proofs.Printed.Trees.{value-json_tokens, ArePrintable-json_tokens}
use Rattle.serde_json.proofs.Numbers.{number_of-decimal}
use Rattle.serde_json.specs.Data.{Data}
use Rattle.serde_json.specs.Read.{max_depth, of_json, read}
use Rattle.ld_options.specs.Document.{AreOptions, AreOptionsOf, root_of}
use Rattle.ld_options.specs.declared.options.Options.{Options}
use Rattle.ld_words.specs.RateTest.{duration_text, rate_test}
use Rattle.ld_answer.proofs.RateData.{rate_data}
use Rattle.ld_answer.proofs.RateOptionLemmas.{options_are}
use Rattle.ld_answer.specs.RateOptions.{AreRateOptions}

-- an object of one member
abbrev one : List ℕ → json.Json → json.Json
one name j = json.object (json.member name j json.no_members)

-- the members of the scenario as they are written, of texts of numbers and durations
abbrev scenario_json : (rate unit duration pre max : List ℕ) → json.Json
scenario_json rate unit duration pre max = json.object
    (json.member (codes "executor") (json.string (codes "constant-arrival-rate"))
    (json.member (codes "rate") (json.number rate)
    (json.member (codes "timeUnit") (json.string unit)
    (json.member (codes "duration") (json.string duration)
    (json.member (codes "preAllocatedVUs") (json.number pre)
    (json.member (codes "maxVUs") (json.number max) json.no_members))))))

abbrev rate_json : (rate unit duration pre max : List ℕ) → json.Json
rate_json rate unit duration pre max = json.object
    (json.member (codes "options") (one (codes "scenarios") (one (codes "main") (scenario_json rate unit duration pre max)))
    (json.member (codes "scripts") (one (codes "default") (json.array json.no_items)) json.no_members))

-- the text of the scenario and what stands around it, from the left on and from the right on
straight : (a r c u d t e p f m g : List ℕ)
    → a ++ r ++ c ++ u ++ d ++ t ++ e ++ p ++ f ++ m ++ g ≡ a ++ (r ++ (c ++ (u ++ (d ++ (t ++ (e ++ (p ++ (f ++ (m ++ g)))))))))
straight a r c u d t e p f m g = simp append_assoc

beginning : List ℕ
beginning = codes "{\"options\":{\"scenarios\":{\"main\":{\"executor\":\"constant-arrival-rate\",\"rate\":"

ending : List ℕ
ending = codes "}}},\"scripts\":{\"default\":[]}}"

quoted_behind : (text rest : List ℕ) → (text ++ 34 ∷ []) ++ rest ≡ text ++ 34 ∷ rest
quoted_behind text rest = append_assoc text (34 ∷ []) rest

printed : (rate unit duration pre max : List ℕ) → escape unit ≡ unit → escape duration ≡ duration
    → print (json_tokens (rate_json rate unit duration pre max))
    ≡ beginning ++ (rate ++ (codes ",\"timeUnit\":\"" ++ (unit ++ (codes "\",\"duration\":\"" ++ (duration
    ++ (codes "\",\"preAllocatedVUs\":" ++ (pre ++ (codes ",\"maxVUs\":" ++ (max ++ ending)))))))))
unfolding print_from escape_byte beginning ending
printed rate unit duration pre max a b = rw (a, b, quoted_behind unit, quoted_behind duration) refl

-- digits stand for themselves in a string, and so does a duration
escape_digits : (digits rest : List ℕ) → AllDigits 10 digits → escape (digits ++ rest) ≡ digits ++ escape rest
escape_digits [] rest all = refl
escape_digits (d ∷ digits) rest all =
    let near = digit_at (d ∷ digits) 0 all (omega arith) in
    ap₂ (λ xs ys. xs ++ ys) (escape_byte_plain d (λ e. omega arith) (λ e. omega arith) (omega arith)) (escape_digits digits rest all.1)

escape_duration : (n : ℕ) → n < 2 ^ 64 → escape (duration_text n) ≡ duration_text n
unfolding escape_byte
escape_duration n small = escape_digits (decimal n) (codes "ns") (decimal_is_IsNumeral n small).0.1

pub some_same : (d e : Data) → Some d ≡ Some e → d ≡ e
some_same d e same = cc

-- what the text says, in the order in which it is written
abbrev said : (rate unit duration pre max : ℕ) → json.Json
said rate unit duration pre max = rate_json (decimal rate) (duration_text unit) (duration_text duration) (decimal pre) (decimal max)

written : (rate unit duration pre max : ℕ) → unit < 2 ^ 64 → duration < 2 ^ 64
    → rate_test rate unit duration pre max ≡ print (json_tokens (said rate unit duration pre max))
unfolding beginning ending
written rate unit duration pre max small short =
    straight beginning (decimal rate) (codes ",\"timeUnit\":\"") (duration_text unit) (codes "\",\"duration\":\"") (duration_text duration)
    (codes "\",\"preAllocatedVUs\":") (decimal pre) (codes ",\"maxVUs\":") (decimal max) ending
    ∙ sym (printed (decimal rate) (duration_text unit) (duration_text duration) (decimal pre) (decimal max) (escape_duration unit small) (escape_duration duration short))

has_numbers : (rate unit duration pre max : ℕ) → rate < 2 ^ 64 → pre < 2 ^ 64 → max < 2 ^ 64 → HasNumbers (said rate unit duration pre max)
has_numbers rate unit duration pre max a d e =
    ((((tt, (IsNumber-decimal rate a, (tt, (tt, (IsNumber-decimal pre d, (IsNumber-decimal max e, tt)))))), tt), tt), ((tt, tt), tt))

data_of : (rate unit duration pre max : ℕ) → rate < 2 ^ 64 → pre < 2 ^ 64 → max < 2 ^ 64
    → of_json (said rate unit duration pre max) ≡ Some (rate_data rate unit duration pre max)
data_of rate unit duration pre max a d e = rw (number_of-decimal rate a, number_of-decimal pre d, number_of-decimal max e) refl

pub reads : (rate unit duration pre max : ℕ) → rate < 2 ^ 64 → unit < 2 ^ 64 → duration < 2 ^ 64 → pre < 2 ^ 64 → max < 2 ^ 64
    → read (rate_test rate unit duration pre max) ≡ Some (rate_data rate unit duration pre max)
reads rate unit duration pre max a b c d e =
    let j = said rate unit duration pre max in
    let known = ap tokens (written rate unit duration pre max b c) ∙ tokens-print (json_tokens j) (ArePrintable-json_tokens j (has_numbers rate unit duration pre max a d e)) in
    let parsed = ap (json.value max_depth) (known ∙ sym (append-nil (json_tokens j))) ∙ value-json_tokens j max_depth [] (omega arith) in
    ap (λ o. option_and_then of_json (option_and_then (λ p. json.if_last p.0 p.1) o)) parsed ∙ data_of rate unit duration pre max a d e

pub read_back : (rate unit duration pre max : ℕ) (options : Options) → rate < 2 ^ 64 → unit < 2 ^ 64 → duration < 2 ^ 64 → pre < 2 ^ 64 → max < 2 ^ 64
    → AreOptions (rate_test rate unit duration pre max) options → AreRateOptions rate unit duration pre max options
read_back rate unit duration pre max options a b c d e are =
    let same = some_same are.held (rate_data rate unit duration pre max) (sym are.document.read ∙ reads rate unit duration pre max a b c d e) in
    options_are rate unit duration pre max options b c (subst (λ h. AreOptionsOf (root_of h) options) same are.options_are)
