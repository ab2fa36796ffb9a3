-- Names in a set of texts.
use Rattle.std.proofs.Common.{◌≡◌, ◌≢◌, ◌<◌, ◌+◌, ◌∙◌, ◌||◌, ◌++◌, ◌∷◌, [], ℕ, zero, suc, List, Bool, true, false, Option, Some, String, Global, length, length-append, map, get_or, position, slice_get, string_bytes, bytes_eq, option_map, true≢false, if◌then◌else◌, arith, ap, ap₂, sym, subst, refl}
use Rattle.std.specs.List.{AllZip, list_any}
use Rattle.std.specs.String.{string_eq}
use Rattle.std.proofs.lemmas.List.{map-append}
use Rattle.std.proofs.lemmas.List.Quantifiers.{all_pairs_push, position-Some}
use Rattle.std.proofs.lemmas.Option.{none-some, slice_get-get_or, slice_get-map}
use Rattle.std.proofs.lemmas.Slice.Eq.{bytes_eq-Decides}
use Rattle.indexmap.specs.IndexSet.{insert_key}
use Rattle.ld_base.specs.declared.metric.NameSpec.{NameSpec}
use Rattle.ld_script.specs.Name.{Lacks}
use Rattle.ld_script.specs.Names.{AreNames, NamesView, most_names, noted, with_name}

pub some_is : {A : Type 0} → (o : Option A) (x y : A) → o ≡ Some x → o ≡ Some y → x ≡ y
some_is o x y left right = cc

or_true : (b : Bool) → (b || true) ≡ true
or_true true = refl
or_true false = refl

both_false : (b c : Bool) → (b || c) ≡ false → (b ≡ false) × (c ≡ false)
both_false true c p = absurd (true≢false p)
both_false false c p = (refl, p)

false_if_not : (b : Bool) → (b ≡ true → ⊥) → b ≡ false
false_if_not true not = absurd (not refl)
false_if_not false not = refl

-- the test of a name finds it where it stands
pub name_at : (name : List ℕ) (keys : List (String Global)) (at : ℕ) → position (λ s. bytes_eq name (string_bytes s)) keys ≡ Some at → slice_get (map string_bytes keys) at ≡ Some name
name_at name [] at found = absurd (none-some at found)
name_at name (s ∷ ss) at found =
    let first = position-Some (λ s. bytes_eq name (string_bytes s)) (s ∷ ss) at s found in
    slice_get-map string_bytes (s ∷ ss) at
    ∙ ap (option_map string_bytes) (slice_get-get_or (s ∷ ss) at s first.0)
    ∙ ap (λ text. Some text) (sym ((bytes_eq-Decides name (string_bytes (get_or (s ∷ ss) at s))).0 first.1))

-- and it isn't there where the test finds none
pub name_lacks : (name : List ℕ) (keys : List (String Global)) → list_any (λ s. bytes_eq name (string_bytes s)) keys ≡ false → Lacks (map string_bytes keys) name
name_lacks name [] none k is = none-some name is
name_lacks name (s ∷ ss) none zero is =
    true≢false
    (sym ((bytes_eq-Decides name (string_bytes s)).1 (some_is (Some name) name (string_bytes s) refl (sym is)))
    ∙ (both_false (bytes_eq name (string_bytes s)) (list_any (λ s. bytes_eq name (string_bytes s)) ss) none).0)
name_lacks name (s ∷ ss) none (suc k) is =
    name_lacks name ss (both_false (bytes_eq name (string_bytes s)) (list_any (λ s. bytes_eq name (string_bytes s)) ss) none).1 k is

-- a text that is equal to the set's has its bytes
pub same_text : (s t : String Global) → string_eq s t ≡ true → string_bytes s ≡ string_bytes t
same_text s t same = (bytes_eq-Decides (string_bytes s) (string_bytes t)).0 same

-- no text of the set is equal to one that isn't there
pub no_equal : (keys : List (String Global)) (text : String Global) → Lacks (map string_bytes keys) (string_bytes text) → list_any (string_eq text) keys ≡ false
no_equal [] text lacks = refl
no_equal (s ∷ ss) text lacks =
    ap₂ (λ b c. b || c)
    (false_if_not (string_eq text s) (λ same. lacks 0 (ap (λ t. Some t) (sym (same_text text s same)))))
    (no_equal ss text (λ k is. lacks (suc k) is))

-- a new text goes to the end
pub put_last : (keys : List (String Global)) (text : String Global) (name : List ℕ) → string_bytes text ≡ name → Lacks (map string_bytes keys) name
    → map string_bytes (insert_key string_eq keys text) ≡ map string_bytes keys ++ name ∷ []
put_last keys text name is lacks =
    ap (λ b. map string_bytes (if b then keys else keys ++ text ∷ [])) (no_equal keys text (subst (Lacks (map string_bytes keys)) (sym is) lacks))
    ∙ map-append string_bytes keys (text ∷ [])
    ∙ ap (λ t. map string_bytes keys ++ t ∷ []) is

-- the text that stands at a place of the set
pub stands_at : (keys : List (String Global)) (at : ℕ) (text stored : String Global) (name : List ℕ) → string_bytes text ≡ name → slice_get keys at ≡ Some stored → string_eq text stored ≡ true
    → slice_get (map string_bytes keys) at ≡ Some name
stands_at keys at text stored name is stands same =
    slice_get-map string_bytes keys at ∙ ap (option_map string_bytes) stands ∙ ap (λ t. Some t) (sym (same_text text stored same) ∙ is)

-- there is room for one more name, which isn't there
pub names_more : (names : NamesView) (text : List ℕ) (spec : NameSpec) → AreNames names → Lacks names.texts text → length names.texts < most_names → AreNames (with_name names text spec)
names_more names text spec are lacks room = record {
  apart = all_pairs_push (λ x y. x ≢ y) names.texts text are.apart
      (λ k d within same. lacks k (slice_get-get_or names.texts k d within ∙ ap (λ t. Some t) same));
  paired = length-append names.specs (spec ∷ []) ∙ ap (λ n. n + 1) are.paired ∙ sym (length-append names.texts (text ∷ []));
  few = let more = length-append names.texts (text ∷ []) in omega arith;
}

-- clones have the same bytes
pub same_bytes : (keys copies : List (String Global)) → AllZip (λ s t. string_bytes t ≡ string_bytes s) keys copies → map string_bytes copies ≡ map string_bytes keys
same_bytes [] [] same = refl
same_bytes [] (t ∷ ts) same = absurd same
same_bytes (s ∷ ss) [] same = absurd same
same_bytes (s ∷ ss) (t ∷ ts) same = ap₂ (λ x xs. x ∷ xs) same.0 (same_bytes ss ts same.1)

-- names as two lists
abbrev pub names_from : List (List ℕ) → List NameSpec → NamesView
names_from texts specs = record { texts = texts; specs = specs }

pub same_names : (texts texts_then : List (List ℕ)) (specs specs_then : List NameSpec) → texts ≡ texts_then → specs ≡ specs_then → names_from texts specs ≡ names_from texts_then specs_then
same_names texts texts_then specs specs_then one two = ap₂ names_from one two

-- a name that was put to the end of the set
pub named_last : (old : NamesView) (keys keys_then : List (String Global)) (text : String Global) (specs specs_then : List NameSpec) (name : List ℕ) (spec : NameSpec) → names_from (map string_bytes keys) specs ≡ old → Lacks old.texts name → string_bytes text ≡ name
    → keys_then ≡ insert_key string_eq keys text → specs_then ≡ specs ++ spec ∷ [] → names_from (map string_bytes keys_then) specs_then ≡ with_name old name spec
named_last old keys keys_then text specs specs_then name spec is lacks spelled keys_are specs_are =
    same_names (map string_bytes keys_then) (map string_bytes keys ++ name ∷ []) specs_then (specs ++ spec ∷ [])
    (ap (map string_bytes) keys_are ∙ put_last keys text name spelled (subst (λ (n : NamesView). Lacks n.texts name) (sym is) lacks))
    specs_are
    ∙ ap (λ (n : NamesView). with_name n name spec) is

-- a name that is there is found among the names, and one that isn't there is not
pub known_there : (texts : List (List ℕ)) (text : List ℕ) (k : ℕ) → slice_get texts k ≡ Some text → list_any (λ known. bytes_eq known text) texts ≡ true
known_there [] text k is = absurd (none-some text is)
known_there (t ∷ ts) text zero is = ap (λ b. b || list_any (λ known. bytes_eq known text) ts) ((bytes_eq-Decides t text).1 (some_is (Some t) t text refl is))
known_there (t ∷ ts) text (suc k) is = ap (λ b. bytes_eq t text || b) (known_there ts text k is) ∙ or_true (bytes_eq t text)

known_lacks : (texts : List (List ℕ)) (text : List ℕ) → Lacks texts text → list_any (λ known. bytes_eq known text) texts ≡ false
known_lacks [] text lacks = refl
known_lacks (t ∷ ts) text lacks =
    ap₂ (λ b c. b || c)
    (false_if_not (bytes_eq t text) (λ same. lacks 0 (ap (λ x. Some x) ((bytes_eq-Decides t text).0 same))))
    (known_lacks ts text (λ k is. lacks (suc k) is))

-- so the names stay, or have one more
pub noted_there : (names : NamesView) (text : List ℕ) (spec : NameSpec) (k : ℕ) → slice_get names.texts k ≡ Some text → names ≡ noted names text spec
noted_there names text spec k is = sym (ap (λ b. if b then names else with_name names text spec) (known_there names.texts text k is))

pub noted_new : (names : NamesView) (text : List ℕ) (spec : NameSpec) → Lacks names.texts text → noted names text spec ≡ with_name names text spec
noted_new names text spec lacks = ap (λ b. if b then names else with_name names text spec) (known_lacks names.texts text lacks)
