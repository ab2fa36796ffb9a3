-- A number is written in one way.
use Rattle.std.proofs.Common.{◌≡◌, ◌<◌, ◌≤◌, ◌+◌, ◌-◌, ◌∙◌, ◌∷◌, ◌++◌, [], ℕ, suc, List, Bool, true, false, length, get_or, take, drop, arith, ap, sym, subst, refl, nat_lt, nat_eq, length-append}
use Rattle.std.proofs.lemmas.Bool.{ltb-false}
use Rattle.std.specs.Prelude.{unwrap_or, position, not}
use Rattle.std.specs.List.{AllByRecursion, position_or_len, before_first, after_first}
use Rattle.std.specs.Int.{IsInRange}
use Rattle.std.specs.Str.Parse.{IsNumeral, AllDigits}
use Rattle.std.proofs.Math.Seq.{take-append_seam, drop-append-add, take-length, get_or-append_seam}
use Rattle.std.proofs.lemmas.List.{take_more, get_or-append-add}
use Rattle.std.proofs.lemmas.List.Sums.{split_at_first, passes_at_first, prefix_len-le-length}
use Rattle.std.proofs.lemmas.Str.Parse.{digit_from_value, digit_at}
use Rattle.std.proofs.lemmas.Bool.Decides.{nat_tests}
use Rattle.ld_num.specs.Written.{Amount, Whole, Decimal, Written, Quotient, Plain, Percentage, AmountInDigits, IsWritten, amount_spelling, spelling, stroke, point, percent_sign}
use Rattle.ld_num.specs.Shape.{has, has_percent, amount_shape, shape_of}

-- a byte doesn't stand in a text
abbrev Lacks : ℕ → List ℕ → Type 0
Lacks mark text = AllByRecursion (λ b. nat_eq b mark ≡ false) text

lacks_append : (mark : ℕ) (a b : List ℕ) → Lacks mark a → Lacks mark b → Lacks mark (a ++ b)
lacks_append mark [] b of_a of_b = of_b
lacks_append mark (x ∷ a) b of_a of_b = (of_a.0, lacks_append mark a b of_a.1 of_b)

differs : (c mark : ℕ) → IsInRange 48 57 c → mark < 48 → nat_eq c mark ≡ false
differs c mark inside below = grind (arith, nat_tests)

digits_lack : (mark : ℕ) (digits : List ℕ) → mark < 48 → AllDigits 10 digits → Lacks mark digits
digits_lack mark [] below all = tt
digits_lack mark (c ∷ cs) below all = (differs c mark (digit_from_value c all.0) below, digits_lack mark cs below all.1)

-- a byte that doesn't stand in a text is found nowhere
found_nowhere : (mark : ℕ) (text : List ℕ) → Lacks mark text → position_or_len (λ b. nat_eq b mark) text ≡ length text
found_nowhere mark [] lacks = refl
found_nowhere mark (x ∷ text) lacks = let rest = found_nowhere mark text lacks.1 in rw lacks.0 (omega arith)

-- behind a text without it, it is found right there
found_behind : (mark : ℕ) (a b : List ℕ) → nat_eq mark mark ≡ true → Lacks mark a →
    position_or_len (λ c. nat_eq c mark) (a ++ mark ∷ b) ≡ length a
found_behind mark [] b same lacks = rw same
found_behind mark (x ∷ a) b same lacks = let rest = found_behind mark a b same lacks.1 in rw lacks.0 (omega arith)

pub lt_test : (m n : ℕ) → m < n → nat_lt m n ≡ true
lt_test m n below = grind (arith, nat_tests)

not_lt_test : (m n : ℕ) → n ≤ m → nat_lt m n ≡ false
not_lt_test m n above = grind (arith, nat_tests)

lt_from_test : (m n : ℕ) → nat_lt m n ≡ true → m < n
lt_from_test m n is = grind (arith, nat_tests)

pub eq_test : (n : ℕ) → nat_eq n n ≡ true
eq_test n = grind (arith, nat_tests)

eq_from_test : (m n : ℕ) → nat_eq m n ≡ true → m ≡ n
eq_from_test m n is = grind (arith, nat_tests)

has_not : (mark : ℕ) (text : List ℕ) → Lacks mark text → has mark text ≡ false
has_not mark text lacks = let nowhere = found_nowhere mark text lacks in not_lt_test _ _ (omega arith)

has_behind : (mark : ℕ) (a b : List ℕ) → Lacks mark a → has mark (a ++ mark ∷ b) ≡ true
has_behind mark a b lacks =
    let there = found_behind mark a b (eq_test mark) lacks in
    let long = length-append a (mark ∷ b) in
    lt_test _ _ (omega arith)

before_is : (mark : ℕ) (a b : List ℕ) → Lacks mark a → before_first (λ c. nat_eq c mark) (a ++ mark ∷ b) ≡ a
before_is mark a b lacks =
    ap (λ n. take n (a ++ mark ∷ b)) (found_behind mark a b (eq_test mark) lacks) ∙ take-append_seam a (mark ∷ b)

drop_behind : (a : List ℕ) (mark : ℕ) (b : List ℕ) → drop (length a + 1) (a ++ mark ∷ b) ≡ b
drop_behind a mark b = drop-append-add a (mark ∷ b) 1

after_is : (mark : ℕ) (a b : List ℕ) → Lacks mark a → after_first (λ c. nat_eq c mark) (a ++ mark ∷ b) ≡ b
after_is mark a b lacks =
    ap (λ n. drop (n + 1) (a ++ mark ∷ b)) (found_behind mark a b (eq_test mark) lacks) ∙ drop_behind a mark b

-- an amount in digits has its own shape
amount_has_shape : (amount : Amount) → AmountInDigits amount → amount_shape (amount_spelling amount) ≡ amount
amount_has_shape (Whole digits) is = rw (has_not point digits (digits_lack point digits (omega arith) is.1))
amount_has_shape (Decimal whole part) is =
    let lacks = digits_lack point whole (omega arith) is.0.1 in
    rw (has_behind point whole part lacks, before_is point whole part lacks, after_is point whole part lacks)

amount_lacks : (mark : ℕ) (amount : Amount) → mark < 48 → nat_eq point mark ≡ false → AmountInDigits amount → Lacks mark (amount_spelling amount)
amount_lacks mark (Whole digits) below no_point is = digits_lack mark digits (omega arith) is.1
amount_lacks mark (Decimal whole part) below no_point is =
    lacks_append mark whole (point ∷ part) (digits_lack mark whole (omega arith) is.0.1)
    (no_point, digits_lack mark part (omega arith) is.1.1)

-- the last byte of an amount is a digit
last_of_run : (digits : List ℕ) → IsNumeral 10 digits → IsInRange 48 57 (get_or digits (length digits - 1) 0)
last_of_run digits is = digit_at digits (length digits - 1) is.1 (let some = is.0 in omega arith)

last_behind : (a : List ℕ) (mark : ℕ) (b : List ℕ) → 0 < length b →
    get_or (a ++ mark ∷ b) (length (a ++ mark ∷ b) - 1) 0 ≡ get_or b (length b - 1) 0
last_behind a mark b some =
    let long = length-append a (mark ∷ b) in
    ap (λ n. get_or (a ++ mark ∷ b) n 0) (let e : length (a ++ mark ∷ b) - 1 ≡ length a + suc (length b - 1) = omega arith in e)
    ∙ get_or-append-add a (mark ∷ b) (suc (length b - 1)) 0

last_of_amount : (amount : Amount) → AmountInDigits amount →
    IsInRange 48 57 (get_or (amount_spelling amount) (length (amount_spelling amount) - 1) 0)
last_of_amount (Whole digits) is = last_of_run digits is
last_of_amount (Decimal whole part) is =
    rw (last_behind whole point part is.1.0) (last_of_run part is.1)

-- a text has the shape in which it is written
pub has_shape : (text : List ℕ) (written : Written) → IsWritten text written → shape_of text ≡ written
has_shape text (Quotient over under) is =
    let lacks = digits_lack stroke over (omega arith) is.in_digits.0.1 in
    ap shape_of is.spelled
    ∙ rw (has_behind stroke over under lacks, before_is stroke over under lacks, after_is stroke over under lacks)
has_shape text (Plain amount) is =
    ap shape_of is.spelled
    ∙ rw (
      has_not stroke (amount_spelling amount) (amount_lacks stroke amount (omega arith) refl is.in_digits),
      differs (get_or (amount_spelling amount) (length (amount_spelling amount) - 1) 0) percent_sign (last_of_amount amount is.in_digits) (omega arith),
      amount_has_shape amount is.in_digits,
    )
has_shape text (Percentage amount) is =
    let front = amount_spelling amount in
    let long = length-append front (percent_sign ∷ []) in
    let end : length (front ++ percent_sign ∷ []) - 1 ≡ length front = omega arith in
    let lacks = lacks_append stroke front (percent_sign ∷ []) (amount_lacks stroke amount (omega arith) refl is.in_digits) (refl, tt) in
    ap shape_of is.spelled
    ∙ rw (
      has_not stroke (front ++ percent_sign ∷ []) lacks,
      end,
      get_or-append_seam front percent_sign [] 0,
      take-append_seam front (percent_sign ∷ []),
      amount_has_shape amount is.in_digits,
    )

-- what stands before a byte, the byte, and what stands behind it are the text
pub rejoined : (mark : ℕ) (text : List ℕ) → has mark text ≡ true →
    text ≡ before_first (λ b. nat_eq b mark) text ++ mark ∷ after_first (λ b. nat_eq b mark) text
rejoined mark text there =
    let within = lt_from_test _ _ there in
    let found = eq_from_test _ _ (passes_at_first (λ b. nat_eq b mark) text 0 within) in
    subst (λ m. text ≡ before_first (λ b. nat_eq b mark) text ++ m ∷ after_first (λ b. nat_eq b mark) text) found
    (split_at_first (λ b. nat_eq b mark) text 0 within)

amount_spelled : (text : List ℕ) → text ≡ amount_spelling (amount_shape text)
amount_spelled text = decided (has point text) refl
  where
    decided : (b : Bool) → has point text ≡ b → text ≡ amount_spelling (amount_shape text)
    decided true is = rw is (rejoined point text is)
    decided false is = rw is

with_last : (text : List ℕ) → has_percent text ≡ true → text ≡ take (length text - 1) text ++ percent_sign ∷ []
with_last [] is = cc
with_last (c ∷ cs) is =
    let last : get_or (c ∷ cs) (length (c ∷ cs) - 1) 0 ≡ percent_sign = eq_from_test _ _ is in
    let all = take_more (c ∷ cs) (length (c ∷ cs) - 1) 0 (omega arith) in
    let long : length (c ∷ cs) - 1 + 1 ≡ length (c ∷ cs) = omega arith in
    sym (take-length (c ∷ cs))
    ∙ ap (λ n. take n (c ∷ cs)) (sym long)
    ∙ all
    ∙ ap (λ b. take (length (c ∷ cs) - 1) (c ∷ cs) ++ b ∷ []) last

-- a text is spelled as its shape is
pub shape_spelled : (text : List ℕ) → text ≡ spelling (shape_of text)
shape_spelled text = decided (has stroke text) refl (has_percent text) refl
  where
    decided : (b : Bool) → has stroke text ≡ b → (p : Bool) → has_percent text ≡ p → text ≡ spelling (shape_of text)
    decided true is p percent = rw is (rejoined stroke text is)
    decided false is true percent =
        rw (is, percent) (with_last text percent ∙ ap (λ t. t ++ percent_sign ∷ []) (amount_spelled (take (length text - 1) text)))
    decided false is false percent = rw (is, percent) (amount_spelled text)

-- the place that a search answers, or else the length
pub place_or_end : (p : ℕ → Bool) (text : List ℕ) → unwrap_or (position p text) (length text) ≡ position_or_len p text
place_or_end p text = decided (nat_lt (position_or_len p text) (length text)) refl
  where
    decided : (b : Bool) → nat_lt (position_or_len p text) (length text) ≡ b →
        unwrap_or (position p text) (length text) ≡ position_or_len p text
    decided true is = rw is
    decided false is =
        let within = prefix_len-le-length (λ b. not (p b)) text in
        let past = ltb-false (position_or_len p text) (length text) is in
        rw is (omega arith)

pub place_within : (p : ℕ → Bool) (text : List ℕ) → position_or_len p text ≤ length text
place_within p text = prefix_len-le-length (λ b. not (p b)) text

-- what stands before a byte that isn't there is the whole text
pub has_whole : (mark : ℕ) (text : List ℕ) → has mark text ≡ false → before_first (λ b. nat_eq b mark) text ≡ text
has_whole mark text none =
    let within = place_within (λ b. nat_eq b mark) text in
    let past = ltb-false (position_or_len (λ b. nat_eq b mark) text) (length text) none in
    ap (λ n. take n text) (let e : position_or_len (λ b. nat_eq b mark) text ≡ length text = omega arith in e) ∙ take-length text
