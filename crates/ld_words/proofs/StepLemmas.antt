-- The walk of clap over an option, or over the word at a place.
use Rattle.std.proofs.Common.{◌≡◌, ◌∙◌, ◌&&◌, ◌+◌, ℕ, nat_eq, Bool, true, false, min, cond, List, [], ◌∷◌, ◌++◌, Option, Some, None, ap, refl, sym, subst, codes, append_assoc}
use Rattle.std.specs.List.{fold}
use Rattle.std.specs.Str.{bytes_eq}
use Rattle.std.proofs.lemmas.List.Sums.{fold-append}
use Rattle.clap.specs.Lexer.{long_of, short_of, strip_byte, usize_max}
use Rattle.clap.specs.Walk.{Held, Row, Rule, Text, Waiting, Walk, arg_by_id, arg_by_index, arg_by_long, has_row, idle, is_pending, option, settled_rows, used, walked}
use Rattle.clap.specs.Simple.{Shape, filled, new_rule, with_index}
use Rattle.clap.specs.Takes.{settle_passes, turn_passes, use_passes, walk_passes}
use Rattle.clap.specs.declared.builder.action.ArgAction.TheVariants.{Set, SetTrue}
use Rattle.clap.specs.declared.builder.value_parser.Reading.TheVariants.{AsWritten}
use Rattle.clap.specs.declared.parser.matches.ValueSource.TheVariants.{CommandLine}
use Rattle.ld_words.proofs.BareNameLemmas.{same_text}
use Rattle.ld_words.proofs.RowsLemmas.{first_use, row_of_word}

-- what clap makes of an option, of a flag, and of a place
abbrev pub value_rule : Text → Rule
value_rule id = filled (record (new_rule id) { long = Some id; action = Some Set })

abbrev pub flag_rule : Text → Rule
flag_rule id = filled (record (new_rule id) { long = Some id; action = Some SetTrue })

abbrev pub place_rule : ℕ → Text → Rule
place_rule index id = with_index index (filled (new_rule id))

-- ---- between two words

abbrev pub Pending : Type 0
Pending = Option (Text × List Text)

abbrev pub held_with : List Row → Pending → Held
held_with rows pending = record { rows = rows; pending = pending; skip = 0 }

abbrev pub between : List Row → Pending → Waiting → ℕ → Walk
between rows pending waiting position = record {
  held = held_with rows pending;
  waiting = waiting;
  position = position;
  is_trailing = false;
  stopped = None;
}

-- nothing waits for the next word, and these are the rows once what is pending is used
pub record Rests (s : Shape) (w : Walk) (position : ℕ) (rows : List Row) : Type 0 where
  pub before : List Row
  pub pending : Pending
  pub is : w ≡ between before pending idle position
  pub gives : settled_rows s.rules pending before ≡ rows
  pub passes : settle_passes s.rules s.args_override_self (held_with before pending) ≡ true

abbrev pub end_of : Shape → Walk → List Text → Walk
end_of s w words = fold (walked s.rules []) w words

-- the words lead there, and clap takes what it takes from there on
pub record Leads (s : Shape) (w : Walk) (words : List Text) (position : ℕ) (rows : List Row) : Type 0 where
  pub rests : Rests s (end_of s w words) position rows
  pub takes : (more : List Text) → walk_passes s [] w (words ++ more) ≡ walk_passes s [] (end_of s w words) more

-- no word leads nowhere
pub stays : (s : Shape) (w : Walk) (position : ℕ) (rows : List Row) → Rests s w position rows → Leads s w [] position rows
stays s w position rows rests = record { rests = rests; takes = λ more. refl }

-- words lead on
pub leads_on : (s : Shape) (w : Walk) (words more : List Text) (p q : ℕ) (rows others : List Row) → Leads s w words p rows →
    ((v : Walk) → Rests s v p rows → Leads s v more q others) → Leads s w (words ++ more) q others
leads_on s w words more p q rows others there on =
    let last = on (end_of s w words) there.rests in
    let same : end_of s w (words ++ more) ≡ end_of s (end_of s w words) more = fold-append (walked s.rules []) w words more in
    record {
      rests = subst (λ v. Rests s v q others) (sym same) last.rests;
      takes = λ rest. ap (walk_passes s [] w) (append_assoc words more rest) ∙ there.takes (more ++ rest) ∙ last.takes rest ∙ ap (λ v. walk_passes s [] v rest) (sym same);
    }

-- a word that passes
pub turn : (s : Shape) (w after : Walk) (word : Text) → walked s.rules [] w word ≡ after → turn_passes s [] w word ≡ true →
    (more : List Text) → walk_passes s [] w (word ∷ more) ≡ walk_passes s [] after more
unfolding walk_passes
turn s w after word is passes more = ap (λ b. b && walk_passes s [] (walked s.rules [] w word) more) passes ∙ ap (λ v. walk_passes s [] v more) is

-- ---- an option's name, for whose value the next word is

name_walked : (s : Shape) (before : List Row) (pending : Pending) (position : ℕ) (id word : Text) →
    bytes_eq word (45 ∷ 45 ∷ []) ≡ false → long_of word ≡ Some (id, None) → arg_by_long s.rules id ≡ Some (value_rule id) →
    walked s.rules [] (between before pending idle position) word ≡ between (settled_rows s.rules pending before) (Some (id, [])) (option id) position
unfolding walked
name_walked s before pending position id word dashes read found = rw (dashes, read, found) refl

name_passes : (s : Shape) (before : List Row) (pending : Pending) (position : ℕ) (id word : Text) →
    bytes_eq word (45 ∷ 45 ∷ []) ≡ false → long_of word ≡ Some (id, None) → arg_by_long s.rules id ≡ Some (value_rule id) →
    settle_passes s.rules s.args_override_self (held_with before pending) ≡ true →
    turn_passes s [] (between before pending idle position) word ≡ true
name_passes s before pending position id word dashes read found settles = rw (dashes, read, found, settles) refl

-- ---- the value behind it

value_walked : (s : Shape) (rows : List Row) (position : ℕ) (id word : Text) →
    bytes_eq word (45 ∷ 45 ∷ []) ≡ false → long_of word ≡ None → short_of word ≡ None → arg_by_id s.rules id ≡ Some (value_rule id) →
    walked s.rules [] (between rows (Some (id, [])) (option id) position) word ≡ between rows (Some (id, word ∷ [])) idle position
unfolding walked
value_walked s rows position id word dashes long short found = let own = same_text id in rw (dashes, long, short, found, own) refl

value_passes : (s : Shape) (rows : List Row) (position : ℕ) (id word : Text) →
    bytes_eq word (45 ∷ 45 ∷ []) ≡ false → long_of word ≡ None → short_of word ≡ None → arg_by_id s.rules id ≡ Some (value_rule id) →
    turn_passes s [] (between rows (Some (id, [])) (option id) position) word ≡ true
value_passes s rows position id word dashes long short found = rw (dashes, long, short) refl

-- ---- a name and a value in one word

joined_walked : (s : Shape) (before : List Row) (pending : Pending) (position : ℕ) (id word value : Text) →
    bytes_eq word (45 ∷ 45 ∷ []) ≡ false → long_of word ≡ Some (id, Some value) → arg_by_long s.rules id ≡ Some (value_rule id) →
    walked s.rules [] (between before pending idle position) word ≡ between (used (value_rule id) (value ∷ []) (settled_rows s.rules pending before)) None idle position
unfolding walked
joined_walked s before pending position id word value dashes read found = rw (dashes, read, found) refl

joined_passes : (s : Shape) (before : List Row) (pending : Pending) (position : ℕ) (id word value : Text) →
    bytes_eq word (45 ∷ 45 ∷ []) ≡ false → long_of word ≡ Some (id, Some value) → arg_by_long s.rules id ≡ Some (value_rule id) →
    settle_passes s.rules s.args_override_self (held_with before pending) ≡ true → has_row id (settled_rows s.rules pending before) ≡ false →
    turn_passes s [] (between before pending idle position) word ≡ true
joined_passes s before pending position id word value dashes read found settles none = rw (dashes, read, found, settles, none) refl

-- ---- a flag

flag_walked : (s : Shape) (before : List Row) (pending : Pending) (position : ℕ) (id word : Text) →
    bytes_eq word (45 ∷ 45 ∷ []) ≡ false → long_of word ≡ Some (id, None) → arg_by_long s.rules id ≡ Some (flag_rule id) →
    walked s.rules [] (between before pending idle position) word ≡ between (used (flag_rule id) [] (settled_rows s.rules pending before)) None idle position
unfolding walked
flag_walked s before pending position id word dashes read found = rw (dashes, read, found) refl

flag_passes : (s : Shape) (before : List Row) (pending : Pending) (position : ℕ) (id word : Text) →
    bytes_eq word (45 ∷ 45 ∷ []) ≡ false → long_of word ≡ Some (id, None) → arg_by_long s.rules id ≡ Some (flag_rule id) →
    settle_passes s.rules s.args_override_self (held_with before pending) ≡ true → has_row id (settled_rows s.rules pending before) ≡ false →
    turn_passes s [] (between before pending idle position) word ≡ true
flag_passes s before pending position id word dashes read found settles none = rw (dashes, read, found, settles, none) refl

-- ---- the word at a place

and_false : (b : Bool) → (b && false) ≡ false
and_false true = refl
and_false false = refl

place_walked : (s : Shape) (before : List Row) (pending : Pending) (position : ℕ) (id word : Text) →
    bytes_eq word (45 ∷ 45 ∷ []) ≡ false → long_of word ≡ None → short_of word ≡ None → arg_by_index s.rules position ≡ Some (place_rule position id) →
    walked s.rules [] (between before pending idle position) word ≡ between (settled_rows s.rules pending before) (Some (id, word ∷ [])) idle (min (position + 1) usize_max)
unfolding walked
place_walked s before pending position id word dashes long short found =
    let other = and_false (is_pending (place_rule position id) pending) in
    rw (dashes, long, short, found, other) refl

place_passes : (s : Shape) (before : List Row) (pending : Pending) (position : ℕ) (id word : Text) →
    bytes_eq word (45 ∷ 45 ∷ []) ≡ false → long_of word ≡ None → short_of word ≡ None → arg_by_index s.rules position ≡ Some (place_rule position id) →
    settle_passes s.rules s.args_override_self (held_with before pending) ≡ true →
    turn_passes s [] (between before pending idle position) word ≡ true
place_passes s before pending position id word dashes long short found settles =
    let other = and_false (is_pending (place_rule position id) pending) in
    rw (dashes, long, short, found, other, settles) refl

-- ---- what is used for the first time

value_used : (id value : Text) (rows : List Row) → has_row id rows ≡ false → used (value_rule id) (value ∷ []) rows ≡ rows ++ row_of_word id value ∷ []
value_used id value rows none = first_use id AsWritten CommandLine (value ∷ []) rows none

flag_used : (id : Text) (rows : List Row) → has_row id rows ≡ false → used (flag_rule id) [] rows ≡ rows ++ row_of_word id (codes "true") ∷ []
flag_used id rows none = first_use id AsWritten CommandLine (codes "true" ∷ []) rows none

place_used : (index : ℕ) (id value : Text) (rows : List Row) → has_row id rows ≡ false → used (place_rule index id) (value ∷ []) rows ≡ rows ++ row_of_word id value ∷ []
place_used index id value rows none = first_use id AsWritten CommandLine (value ∷ []) rows none

-- ---- words that begin with no dash

not_dashes : (word : Text) → strip_byte 45 word ≡ None → bytes_eq word (45 ∷ 45 ∷ []) ≡ false
not_dashes [] none = refl
not_dashes (x ∷ xs) none = go (nat_eq x 45) none
  where
    go : (b : Bool) → cond b (Some xs) None ≡ None → (b && bytes_eq xs (45 ∷ [])) ≡ false
    go true none = absurd cc
    go false none = refl

not_long : (word : Text) → strip_byte 45 word ≡ None → long_of word ≡ None
not_long word none = rw none refl

not_short : (word : Text) → strip_byte 45 word ≡ None → short_of word ≡ None
not_short word none = rw none refl

-- ---- where words lead

-- what is known of a walk that rests, for what is shown of any walk between two words
from_rest : (s : Shape) (w : Walk) (words : List Text) (p q : ℕ) (rows : List Row) (row : Row) → Rests s w p rows →
    ((before : List Row) (pending : Pending) → settle_passes s.rules s.args_override_self (held_with before pending) ≡ true →
    settled_rows s.rules pending before ≡ rows →
    Leads s (between before pending idle p) words q (settled_rows s.rules pending before ++ row ∷ [])) →
    Leads s w words q (rows ++ row ∷ [])
from_rest s w words p q rows row rests leads =
    subst (λ v. Leads s v words q (rows ++ row ∷ [])) (sym rests.is)
    (subst (λ rs. Leads s (between rests.before rests.pending idle p) words q (rs ++ row ∷ [])) rests.gives
    (leads rests.before rests.pending rests.passes rests.gives))

-- a walk that waits with the one value of an argument
pub waits_with : (s : Shape) (w : Walk) (rows : List Row) (position : ℕ) (id value : Text) (a : Rule) → w ≡ between rows (Some (id, value ∷ [])) idle position →
    arg_by_id s.rules id ≡ Some a → used a (value ∷ []) rows ≡ rows ++ row_of_word id value ∷ [] → use_passes s.args_override_self a (value ∷ []) rows ≡ true →
    Rests s w position (rows ++ row_of_word id value ∷ [])
waits_with s w rows position id value a is found gives passes = record {
  before = rows;
  pending = Some (id, value ∷ []);
  is = is;
  gives = rw found gives;
  passes = rw found passes;
}

-- a walk that waits with nothing
pub waits_bare : (s : Shape) (w : Walk) (rows next : List Row) (position : ℕ) → w ≡ between rows None idle position → rows ≡ next → Rests s w position next
waits_bare s w rows next position is gives = record { before = rows; pending = None; is = is; gives = gives; passes = refl }

value_use : (again : Bool) (id value : Text) (rows : List Row) → has_row id rows ≡ false → use_passes again (value_rule id) (value ∷ []) rows ≡ true
value_use again id value rows none = rw none refl

place_use : (again : Bool) (index : ℕ) (id value : Text) (rows : List Row) → has_row id rows ≡ false → use_passes again (place_rule index id) (value ∷ []) rows ≡ true
place_use again index id value rows none = rw none refl

-- an option in two words
pub apart : (s : Shape) (w : Walk) (position : ℕ) (rows : List Row) (id name value : Text) → Rests s w position rows → has_row id rows ≡ false →
    arg_by_long s.rules id ≡ Some (value_rule id) → arg_by_id s.rules id ≡ Some (value_rule id) →
    bytes_eq name (45 ∷ 45 ∷ []) ≡ false → long_of name ≡ Some (id, None) → strip_byte 45 value ≡ None →
    Leads s w (name ∷ value ∷ []) position (rows ++ row_of_word id value ∷ [])
apart s w position rows id name value rests none long own dashes read plain =
    from_rest s w (name ∷ value ∷ []) position position rows (row_of_word id value) rests (λ before pending settles gives.
    let now : List Row = settled_rows s.rules pending before in
    let lacks : has_row id now ≡ false = ap (has_row id) gives ∙ none in
    let there = name_walked s before pending position id name dashes read long in
    let then = value_walked s now position id value (not_dashes value plain) (not_long value plain) (not_short value plain) own in
    record {
      rests = waits_with s _ now position id value (value_rule id) (ap (λ v. walked s.rules [] v value) there ∙ then) own (value_used id value now lacks) (value_use _ id value now lacks);
      takes = λ more.
          turn s _ _ name there (name_passes s before pending position id name dashes read long settles) (value ∷ more)
          ∙ turn s _ _ value then (value_passes s now position id value (not_dashes value plain) (not_long value plain) (not_short value plain) own) more
          ∙ ap (λ v. walk_passes s [] v more) (sym (ap (λ v. walked s.rules [] v value) there ∙ then));
    })

-- an option in one word
pub joined : (s : Shape) (w : Walk) (position : ℕ) (rows : List Row) (id word value : Text) → Rests s w position rows → has_row id rows ≡ false →
    arg_by_long s.rules id ≡ Some (value_rule id) → bytes_eq word (45 ∷ 45 ∷ []) ≡ false → long_of word ≡ Some (id, Some value) →
    Leads s w (word ∷ []) position (rows ++ row_of_word id value ∷ [])
joined s w position rows id word value rests none long dashes read =
    from_rest s w (word ∷ []) position position rows (row_of_word id value) rests (λ before pending settles gives.
    let now : List Row = settled_rows s.rules pending before in
    let lacks : has_row id now ≡ false = ap (has_row id) gives ∙ none in
    let there = joined_walked s before pending position id word value dashes read long in
    record {
      rests = waits_bare s _ _ _ position there (value_used id value now lacks);
      takes = λ more. turn s _ _ word refl (joined_passes s before pending position id word value dashes read long settles lacks) more;
    })

-- a flag
pub alone : (s : Shape) (w : Walk) (position : ℕ) (rows : List Row) (id name : Text) → Rests s w position rows → has_row id rows ≡ false →
    arg_by_long s.rules id ≡ Some (flag_rule id) → bytes_eq name (45 ∷ 45 ∷ []) ≡ false → long_of name ≡ Some (id, None) →
    Leads s w (name ∷ []) position (rows ++ row_of_word id (codes "true") ∷ [])
alone s w position rows id name rests none long dashes read =
    from_rest s w (name ∷ []) position position rows (row_of_word id (codes "true")) rests (λ before pending settles gives.
    let now : List Row = settled_rows s.rules pending before in
    let lacks : has_row id now ≡ false = ap (has_row id) gives ∙ none in
    let there = flag_walked s before pending position id name dashes read long in
    record {
      rests = waits_bare s _ _ _ position there (flag_used id now lacks);
      takes = λ more. turn s _ _ name refl (flag_passes s before pending position id name dashes read long settles lacks) more;
    })

-- the word at a place
pub placed : (s : Shape) (w : Walk) (position : ℕ) (rows : List Row) (id value : Text) → Rests s w position rows → has_row id rows ≡ false →
    arg_by_index s.rules position ≡ Some (place_rule position id) → arg_by_id s.rules id ≡ Some (place_rule position id) → strip_byte 45 value ≡ None →
    Leads s w (value ∷ []) (min (position + 1) usize_max) (rows ++ row_of_word id value ∷ [])
placed s w position rows id value rests none at own plain =
    from_rest s w (value ∷ []) position (min (position + 1) usize_max) rows (row_of_word id value) rests (λ before pending settles gives.
    let now : List Row = settled_rows s.rules pending before in
    let lacks : has_row id now ≡ false = ap (has_row id) gives ∙ none in
    let there = place_walked s before pending position id value (not_dashes value plain) (not_long value plain) (not_short value plain) at in
    record {
      rests = waits_with s _ now _ id value (place_rule position id) there own (place_used position id value now lacks) (place_use _ position id value now lacks);
      takes = λ more. turn s _ _ value refl (place_passes s before pending position id value (not_dashes value plain) (not_long value plain) (not_short value plain) at settles) more;
    })
