-- A map's members ascend by the bytes of their names.
use Rattle.std.proofs.Common.{◌≡◌, ◌∙◌, ℕ, List, [], ◌∷◌, Option, Some, None, Result, Ok, Err, String, Global, Less, string_bytes, string_cmp, nat_cmp, map, option_map, ok_or, refl, ap, sym, subst}
use Rattle.std.specs.Cmp.Lexicographic.{slice_cmp}
use Rattle.std.specs.List.{AllByRecursion}
use Rattle.std.specs.List.Sorted.{IsStrictlySortedBy}
use Rattle.std.specs.Map.{keys_of}
use Rattle.serde_json.specs.View.{members_view}
use Rattle.serde_json.proofs.Views.{Entry}
use Rattle.serde_json.specs.Data.{Members, no_members, member}
use Rattle.serde_json.specs.Find.{as_object}
use Rattle.ld_json.specs.Node.{NodeView, Ascend, HasOrder, named, names_of, paired}
use Rattle.ld_json.specs.declared.fault.JsonFault.TheVariants.{WrongKind}

names_above : (key : String Global) (es : List Entry) → AllByRecursion (λ y. string_cmp key y ≡ Less) (keys_of es) → AllByRecursion (λ y. slice_cmp nat_cmp (string_bytes key) y ≡ Less) (names_of (members_view es))
names_above key [] h = h
names_above key (e ∷ es) h = (h.0, names_above key es h.1)

pub entries_ascend : (es : List Entry) → IsStrictlySortedBy string_cmp (keys_of es) → Ascend (members_view es)
unfolding IsStrictlySortedBy
entries_ascend [] h = h
entries_ascend (e ∷ es) h = (names_above e.0 es h.0, entries_ascend es h.1)

-- the names of an object's members ascend
names_named : (path : List ℕ) (ms : Members) → map (λ (p : List ℕ × NodeView). p.0) (named path ms) ≡ names_of ms
names_named path no_members = refl
names_named path (member name d ms) = ap (λ names. name ∷ names) (names_named path ms)

ok_is : {A E : Type 0} → (r : Result A E) (x y : A) → r ≡ Ok x → r ≡ Ok y → x ≡ y
ok_is r x y left right = cc

ok_or_err : {A E : Type 0} → (r : Result A E) (e : E) (x : A) → r ≡ Err e → r ≡ Ok x → ⊥
ok_or_err r e x left right = cc

pub pairs_ascend : (node : NodeView) (pairs : List (List ℕ × NodeView)) → HasOrder node.value → paired node ≡ Ok pairs → IsStrictlySortedBy (slice_cmp nat_cmp) (map (λ (p : List ℕ × NodeView). p.0) pairs)
pairs_ascend node pairs order read = by (as_object node.value) refl read
  where
    by : (o : Option Members) → as_object node.value ≡ o → ok_or (option_map (named node.path) o) (WrongKind node.path) ≡ Ok pairs → IsStrictlySortedBy (slice_cmp nat_cmp) (map (λ (p : List ℕ × NodeView). p.0) pairs)
    by None kind same = absurd (ok_or_err _ _ _ refl same)
    by (Some ms) kind same =
        subst (IsStrictlySortedBy (slice_cmp nat_cmp)) (sym (names_named node.path ms) ∙ ap (map (λ (p : List ℕ × NodeView). p.0)) (ok_is _ _ _ refl same)) (order ms kind)
