-- Values at the places of forms.
use Rattle.std.proofs.Common.{◌≡◌, ◌≢◌, ◌<◌, ◌≤◌, ◌+◌, ◌∙◌, ◌++◌, ◌∷◌, [], ℕ, zero, suc, List, length, get_or, take, drop, arith, refl, ap, sym, subst}
use Rattle.std.specs.Prelude.{Some, codes, slice_get}
use Rattle.std.specs.List.{AllByRecursion}
use Rattle.std.proofs.lemmas.Option.{slice_get-get_or, slice_get_within}
use Rattle.ld_words.specs.Forms.{places_of, AreValues}
use Rattle.ld_words.specs.OptionWords.{IsNoValueAt, IsValueAt}
use Rattle.ld_words.specs.Values.{IsValueOf}
use Rattle.ld_words.specs.declared.form.FormName.{FormName}
use Rattle.ld_words.specs.declared.form.FormName.TheVariants as forms
use Rattle.ld_words.specs.declared.value.ValueKind.{ValueKind}
use Rattle.ld_words.specs.declared.value.ValueKind.TheVariants.{Flag}
use Rattle.ld_words.proofs.ValueLemmas.{sample}

pub values_append : (ks ls : List ValueKind) (xs ys : List (List ℕ)) → AreValues ks xs → AreValues ls ys → AreValues (ks ++ ls) (xs ++ ys)
values_append [] ls [] ys a b = b
values_append [] ls (x ∷ xs) ys a b = absurd a
values_append (k ∷ ks) ls [] ys a b = absurd a
values_append (k ∷ ks) ls (x ∷ xs) ys a b = (a.0, values_append ks ls xs ys a.1 b)

pub values_length : (ks : List ValueKind) (xs : List (List ℕ)) → AreValues ks xs → length xs ≡ length ks
values_length [] [] are = refl
values_length [] (x ∷ xs) are = absurd are
values_length (k ∷ ks) [] are = absurd are
values_length (k ∷ ks) (x ∷ xs) are = ap suc (values_length ks xs are.1)

pub value_at_place : (ks : List ValueKind) (xs : List (List ℕ)) (i : ℕ) (k : ValueKind) (x : List ℕ) → AreValues ks xs →
    slice_get ks i ≡ Some k → slice_get xs i ≡ Some x → IsValueOf k x
value_at_place [] xs i k x are at_k at_x = cc
value_at_place (l ∷ ks) [] i k x are at_k at_x = absurd are
value_at_place (l ∷ ks) (y ∷ ys) zero k x are at_k at_x =
    let same : l ≡ k = cc in
    let word : y ≡ x = cc in
    subst (λ m. IsValueOf m x) same (subst (IsValueOf l) word are.0)
value_at_place (l ∷ ks) (y ∷ ys) (suc i) k x are at_k at_x = value_at_place ks ys i k x are.1 at_k at_x

-- ---- a value for each place

IsTaken : ValueKind → Type 0
IsTaken kind = kind ≢ Flag

taken_places : (form : FormName) → AllByRecursion IsTaken (places_of form)
unfolding IsTaken
taken_places forms.StripeWeights = ((λ e. cc), ((λ e. cc), ((λ e. cc), tt)))
taken_places forms.StripeSegment = ((λ e. cc), tt)
taken_places forms.Plan = ((λ e. cc), tt)
taken_places forms.RehearseTest = ((λ e. cc), tt)
taken_places forms.RehearseWords = tt
taken_places forms.Help = tt

all_drop : (i : ℕ) (ks : List ValueKind) → AllByRecursion IsTaken ks → AllByRecursion IsTaken (drop i ks)
all_drop zero ks all = all
all_drop (suc i) [] all = tt
all_drop (suc i) (k ∷ ks) all = all_drop i ks all.1

samples : List ValueKind → List (List ℕ)
samples [] = []
samples (k ∷ ks) = codes "10" ∷ samples ks

samples_are : (ks : List ValueKind) → AllByRecursion IsTaken ks → AreValues ks (samples ks)
unfolding samples IsTaken
samples_are [] all = tt
samples_are (k ∷ ks) all = (sample k all.0, samples_are ks all.1)

-- the places behind some have values too
pub values_behind : (form : FormName) (i : ℕ) → (rest : List (List ℕ)) × AreValues (drop i (places_of form)) rest
values_behind form i = (samples (drop i (places_of form)), samples_are _ (all_drop i (places_of form) (taken_places form)))

-- ---- words that are counted

kind_here : (ks : List ValueKind) (i : ℕ) (k : ValueKind) → slice_get ks i ≡ Some k → (ws : List (List ℕ)) (x : List ℕ) → IsValueAt k ws i x →
    AreValues (take i ks) (take i ws) → AreValues (take (suc i) ks) (take (suc i) ws)
kind_here [] i k at ws x is are = cc
kind_here (l ∷ ks) i k at [] x is are = absurd (let e = is.0 in cc)
kind_here (l ∷ ks) zero k at (w ∷ ws) x is are =
    let same : k ≡ l = cc in
    let word : x ≡ w = let e = is.0 in cc in
    (subst (λ m. IsValueOf m w) same (subst (IsValueOf k) word is.1), tt)
kind_here (l ∷ ks) (suc i) k at (w ∷ ws) x is are = (are.0, kind_here ks i k at ws x is are.1)

-- one more
pub one_counted : (ks : List ValueKind) (i : ℕ) (d k : ValueKind) (words : List (List ℕ)) (x : List ℕ) → i < length ks → k ≡ get_or ks i d → IsValueAt k words i x →
    AreValues (take i ks) (take i words) → AreValues (take (i + 1) ks) (take (i + 1) words)
one_counted ks i d k words x inside here is are =
    let at : slice_get ks i ≡ Some k = slice_get-get_or ks i d inside ∙ ap Some (sym here) in
    let on : suc i ≡ i + 1 = omega arith in
    subst (λ n. AreValues (take n ks) (take n words)) on (kind_here ks i k at words x is are)

-- the word there is none
pub none_more : (ks : List ValueKind) (i : ℕ) (d k : ValueKind) (words : List (List ℕ)) → i < length ks → k ≡ get_or ks i d → IsNoValueAt k words i →
    (kind : ValueKind) → slice_get ks i ≡ Some kind → IsNoValueAt kind words i
none_more ks i d k words inside here never kind at =
    let same : k ≡ kind = let e = sym (slice_get-get_or ks i d inside ∙ ap Some (sym here)) ∙ at in cc in
    subst (λ m. IsNoValueAt m words i) same never

-- past the last place there is no kind
pub no_kind : (ks : List ValueKind) (i : ℕ) (words : List (List ℕ)) → length ks ≤ i → (kind : ValueKind) → slice_get ks i ≡ Some kind → IsNoValueAt kind words i
no_kind ks i words past kind at = let inside = slice_get_within ks i kind at in absurd (omega arith)
