-- How the logic stores the data of a document: as a tree of numbers that gives it back.
use Rattle.std.proofs.Common.{◌≡◌, ℕ, List, refl, ap, true≢false}
use Rattle.std.specs.Prelude.{nat_eq}
use Rattle.std.specs.Coded.{Coded, coded_ℕ, coded_ℤ, coded_bool, coded_list}
use base.Stored.{Gv, gnil, gnum, gcons, num, coded_float}
use Rattle.serde_json.specs.Data.{Num, unsigned, negative, float, Data, null, boolean, number, string, array, object, Items, no_items, item, Members, no_members, member}

abbrev head : Gv → Gv
head gnil = gnil
head (gnum n) = gnil
head (gcons a b) = a

abbrev tail : Gv → Gv
tail gnil = gnil
tail (gnum n) = gnil
tail (gcons a b) = b

abbrev tag : Gv → ℕ
tag g = num (head g)

abbrev coded_text : Coded (List ℕ)
coded_text = coded_list coded_ℕ

abbrev number_code : Num → Gv
number_code (unsigned n) = gcons (gnum 0) (coded_ℕ.code n)
number_code (negative z) = gcons (gnum 1) (coded_ℤ.code z)
number_code (float x) = gcons (gnum 2) (coded_float.code x)

number_inj : (x y : Num) → number_code x ≡ number_code y → x ≡ y
number_inj (unsigned x) (unsigned y) p = ap unsigned (coded_ℕ.inj x y (ap tail p))
number_inj (unsigned x) (negative y) p = absurd (true≢false (ap (λ g. nat_eq 0 (tag g)) p))
number_inj (unsigned x) (float y) p = absurd (true≢false (ap (λ g. nat_eq 0 (tag g)) p))
number_inj (negative x) (unsigned y) p = absurd (true≢false (ap (λ g. nat_eq 1 (tag g)) p))
number_inj (negative x) (negative y) p = ap negative (coded_ℤ.inj x y (ap tail p))
number_inj (negative x) (float y) p = absurd (true≢false (ap (λ g. nat_eq 1 (tag g)) p))
number_inj (float x) (unsigned y) p = absurd (true≢false (ap (λ g. nat_eq 2 (tag g)) p))
number_inj (float x) (negative y) p = absurd (true≢false (ap (λ g. nat_eq 2 (tag g)) p))
number_inj (float x) (float y) p = ap float (coded_float.inj x y (ap tail p))

abbrev mutual
  pub data_code : Data → Gv
  data_code null = gcons (gnum 0) gnil
  data_code (boolean b) = gcons (gnum 1) (coded_bool.code b)
  data_code (number n) = gcons (gnum 2) (number_code n)
  data_code (string s) = gcons (gnum 3) (coded_text.code s)
  data_code (array ds) = gcons (gnum 4) (items_code ds)
  data_code (object ms) = gcons (gnum 5) (members_code ms)

  items_code : Items → Gv
  items_code no_items = gcons (gnum 0) gnil
  items_code (item d ds) = gcons (gnum 1) (gcons (data_code d) (items_code ds))

  members_code : Members → Gv
  members_code no_members = gcons (gnum 0) gnil
  members_code (member k d ms) = gcons (gnum 1) (gcons (coded_text.code k) (gcons (data_code d) (members_code ms)))

mutual
  pub data_inj : (x y : Data) → data_code x ≡ data_code y → x ≡ y
  data_inj null null p = refl
  data_inj null (boolean y) p = absurd (true≢false (ap (λ g. nat_eq 0 (tag g)) p))
  data_inj null (number y) p = absurd (true≢false (ap (λ g. nat_eq 0 (tag g)) p))
  data_inj null (string y) p = absurd (true≢false (ap (λ g. nat_eq 0 (tag g)) p))
  data_inj null (array y) p = absurd (true≢false (ap (λ g. nat_eq 0 (tag g)) p))
  data_inj null (object y) p = absurd (true≢false (ap (λ g. nat_eq 0 (tag g)) p))
  data_inj (boolean x) null p = absurd (true≢false (ap (λ g. nat_eq 1 (tag g)) p))
  data_inj (boolean x) (boolean y) p = ap boolean (coded_bool.inj x y (ap tail p))
  data_inj (boolean x) (number y) p = absurd (true≢false (ap (λ g. nat_eq 1 (tag g)) p))
  data_inj (boolean x) (string y) p = absurd (true≢false (ap (λ g. nat_eq 1 (tag g)) p))
  data_inj (boolean x) (array y) p = absurd (true≢false (ap (λ g. nat_eq 1 (tag g)) p))
  data_inj (boolean x) (object y) p = absurd (true≢false (ap (λ g. nat_eq 1 (tag g)) p))
  data_inj (number x) null p = absurd (true≢false (ap (λ g. nat_eq 2 (tag g)) p))
  data_inj (number x) (boolean y) p = absurd (true≢false (ap (λ g. nat_eq 2 (tag g)) p))
  data_inj (number x) (number y) p = ap number (number_inj x y (ap tail p))
  data_inj (number x) (string y) p = absurd (true≢false (ap (λ g. nat_eq 2 (tag g)) p))
  data_inj (number x) (array y) p = absurd (true≢false (ap (λ g. nat_eq 2 (tag g)) p))
  data_inj (number x) (object y) p = absurd (true≢false (ap (λ g. nat_eq 2 (tag g)) p))
  data_inj (string x) null p = absurd (true≢false (ap (λ g. nat_eq 3 (tag g)) p))
  data_inj (string x) (boolean y) p = absurd (true≢false (ap (λ g. nat_eq 3 (tag g)) p))
  data_inj (string x) (number y) p = absurd (true≢false (ap (λ g. nat_eq 3 (tag g)) p))
  data_inj (string x) (string y) p = ap string (coded_text.inj x y (ap tail p))
  data_inj (string x) (array y) p = absurd (true≢false (ap (λ g. nat_eq 3 (tag g)) p))
  data_inj (string x) (object y) p = absurd (true≢false (ap (λ g. nat_eq 3 (tag g)) p))
  data_inj (array x) null p = absurd (true≢false (ap (λ g. nat_eq 4 (tag g)) p))
  data_inj (array x) (boolean y) p = absurd (true≢false (ap (λ g. nat_eq 4 (tag g)) p))
  data_inj (array x) (number y) p = absurd (true≢false (ap (λ g. nat_eq 4 (tag g)) p))
  data_inj (array x) (string y) p = absurd (true≢false (ap (λ g. nat_eq 4 (tag g)) p))
  data_inj (array x) (array y) p = ap array (items_inj x y (ap tail p))
  data_inj (array x) (object y) p = absurd (true≢false (ap (λ g. nat_eq 4 (tag g)) p))
  data_inj (object x) null p = absurd (true≢false (ap (λ g. nat_eq 5 (tag g)) p))
  data_inj (object x) (boolean y) p = absurd (true≢false (ap (λ g. nat_eq 5 (tag g)) p))
  data_inj (object x) (number y) p = absurd (true≢false (ap (λ g. nat_eq 5 (tag g)) p))
  data_inj (object x) (string y) p = absurd (true≢false (ap (λ g. nat_eq 5 (tag g)) p))
  data_inj (object x) (array y) p = absurd (true≢false (ap (λ g. nat_eq 5 (tag g)) p))
  data_inj (object x) (object y) p = ap object (members_inj x y (ap tail p))

  items_inj : (x y : Items) → items_code x ≡ items_code y → x ≡ y
  items_inj no_items no_items p = refl
  items_inj no_items (item e es) p = absurd (true≢false (ap (λ g. nat_eq 0 (tag g)) p))
  items_inj (item d ds) no_items p = absurd (true≢false (ap (λ g. nat_eq 1 (tag g)) p))
  items_inj (item d ds) (item e es) p = λ i. item (data_inj d e (ap (λ g. head (tail g)) p) i) (items_inj ds es (ap (λ g. tail (tail g)) p) i)

  members_inj : (x y : Members) → members_code x ≡ members_code y → x ≡ y
  members_inj no_members no_members p = refl
  members_inj no_members (member l e ns) p = absurd (true≢false (ap (λ g. nat_eq 0 (tag g)) p))
  members_inj (member k d ms) no_members p = absurd (true≢false (ap (λ g. nat_eq 1 (tag g)) p))
  members_inj (member k d ms) (member l e ns) p = λ i. member (coded_text.inj k l (ap (λ g. head (tail g)) p) i) (data_inj d e (ap (λ g. head (tail (tail g))) p) i) (members_inj ms ns (ap (λ g. tail (tail (tail g))) p) i)

abbrev pub coded_data : Coded Data
coded_data = record { code = data_code; inj = data_inj }
