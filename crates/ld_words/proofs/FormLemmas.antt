-- Fronts of forms, and the one place at which words are refused.
use Rattle.std.proofs.Common.{◌≡◌, ◌≢◌, ◌<◌, ◌≤◌, ◌+◌, ◌∙◌, ◌++◌, ◌∷◌, [], ℕ, List, length, get_or, map, take, drop, arith, refl, ap, sym, subst}
use Rattle.std.specs.Prelude.{◌||◌, Bool, Some, slice_get}
use Rattle.std.specs.List.{list_any}
use Rattle.std.proofs.Math.Decide.{dec_lt}
use Rattle.std.proofs.Math.Seq.{append_snoc, take-append-add, take-length, take-take}
use Rattle.std.proofs.lemmas.List.{append_assoc, length-append, take-append-drop, take_more}
use Rattle.std.proofs.lemmas.Option.{slice_get-get_or, slice_get_within}
use Rattle.ld_words.specs.Form.{Form, IsFront, IsRefusal, IsRefusedBy}
use Rattle.ld_words.specs.declared.fault.WordsFault.{WordsFault}
use Rattle.ld_words.specs.declared.fault.WordsFault.TheVariants.{Refused, Memory}

-- words of a front, cut short, are a front
pub front_cut : (form : Form) (words rest : List (List ℕ)) → IsFront form (words ++ rest) → IsFront form words
front_cut form words rest front = (rest ++ front.0, subst form (append_assoc words rest front.0) front.1)

-- words of the form, cut short, are a front
pub front_of : (form : Form) (words : List (List ℕ)) (k : ℕ) → form words → IsFront form (take k words)
front_of form words k is = (drop k words, subst form (sym (take-append-drop k words)) is)

-- fewer words of a front are a front
pub front_less : (form : Form) (words : List (List ℕ)) (a b : ℕ) → a ≤ b → IsFront form (take b words) → IsFront form (take a words)
front_less form words a b below front =
    let cut : IsFront form (take a (take b words)) =
    front_cut form _ (drop a (take b words)) (subst (IsFront form) (sym (take-append-drop a (take b words))) front) in
    subst (IsFront form) (take-take a b words below) cut

-- words of the form are refused at no place
pub not_refused : (form : Form) (words : List (List ℕ)) (place : ℕ) → form words → IsRefusedBy form words place → ⊥
not_refused form words place is refused =
    let within = refused.within in
    elim (dec_lt place (length words)) [
      | yes inside ↦ refused.not_here inside (front_of form words (place + 1) is)
      | no past ↦ refused.unfinished (omega arith) is
    ]

-- a place at which the words are refused is behind no other
not_before : (form : Form) (words : List (List ℕ)) (a b : ℕ) → IsRefusedBy form words a → IsRefusedBy form words b → a < b → ⊥
not_before form words a b ra rb less =
    let within = rb.within in
    ra.not_here (omega arith) (front_less form words (a + 1) b (omega arith) rb.before)

-- words are refused at one place
pub refused_once : (form : Form) (words : List (List ℕ)) (a b : ℕ) → IsRefusedBy form words a → IsRefusedBy form words b → a ≡ b
refused_once form words a b ra rb =
    elim (dec_lt a b) [
      | yes less ↦ absurd (not_before form words a b ra rb less)
      | no other ↦ elim (dec_lt b a) [
        | yes more ↦ absurd (not_before form words b a rb ra more)
        | no same ↦ omega arith
      ]
    ]

-- words are refused at a place whose word the form doesn't have behind the words before it
pub refused_at : (form : Form) (words : List (List ℕ)) (place : ℕ) → place ≤ length words → IsFront form (take place words) →
    ((word : List ℕ) (more : List (List ℕ)) → slice_get words place ≡ Some word → form (take place words ++ word ∷ more) → ⊥) →
    (place ≡ length words → form words → ⊥) → IsRefusedBy form words place
refused_at form words place within before other whole = record {
  within = within;
  before = before;
  not_here = not_here;
  unfinished = whole;
}
  where
    not_here : place < length words → IsFront form (take (place + 1) words) → ⊥
    not_here inside front =
        let word = get_or words place [] in
        let split = ap (λ ws. ws ++ front.0) (take_more words place [] inside) in
        let moved = append_snoc (take place words) word front.0 in
        other word front.0 (slice_get-get_or words place [] inside) (subst form (split ∙ moved) front.1)

-- a fault that is a refusal at a place
pub refused_from : (form : Form) (words : List (List ℕ)) (fault : WordsFault) (place : ℕ) → fault ≡ Refused place →
    (fault ≢ Memory → IsRefusal form words fault) → IsRefusedBy form words place
refused_from form words (Refused at) place is refused = subst (IsRefusedBy form words) (let e : at ≡ place = cc in e) (refused (λ e. cc))
refused_from form words Memory place is refused = cc

-- ---- words of one form behind the first words of another

-- What stands behind the first words is of a form of its own: wherever that form can go on, the whole can, and
-- what the whole has behind its first words is of it. So what is refused behind them is refused there.
pub refused_behind : (inner form : Form) (first words : List (List ℕ)) (place : ℕ) →
    ((more : List (List ℕ)) → inner more → IsFront form (first ++ more)) →
    ((more : List (List ℕ)) → form (first ++ more) → inner more) →
    IsRefusedBy inner words place → IsRefusedBy form (first ++ words) (length first + place)
refused_behind inner form first words place goes_on inside refused =
    let within = refused.within in
    let long = length-append first words in
    record {
      within = omega arith;
      before = subst (IsFront form) (sym (take-append-add first words place)) (front (take place words) refused.before);
      not_here = λ more_words more.
          refused.not_here (omega arith) (back (take (place + 1) words)
          (subst (IsFront form) (ap (λ k. take k (first ++ words)) (let e : length first + place + 1 ≡ length first + (place + 1) = omega arith in e) ∙ take-append-add first words (place + 1)) more));
      unfinished = λ end whole. refused.unfinished (omega arith) (inside words whole);
    }
  where
    front : (some : List (List ℕ)) → IsFront inner some → IsFront form (first ++ some)
    front some is =
        front_cut form (first ++ some) is.0 (subst (IsFront form) (sym (append_assoc first some is.0)) (goes_on (some ++ is.0) is.1))

    back : (some : List (List ℕ)) → IsFront form (first ++ some) → IsFront inner some
    back some is = (is.0, inside (some ++ is.0) (subst form (append_assoc first some is.0) is.1))

-- words that can go on, but aren't of the form, are refused at their end
pub refused_at_end : (form : Form) (words : List (List ℕ)) → IsFront form words → (form words → ⊥) → IsRefusedBy form words (length words)
refused_at_end form words front never =
    refused_at form words (length words) (omega arith) (subst (IsFront form) (sym (take-length words)) front)
    (λ word more at whole. let inside = slice_get_within words (length words) word at in absurd (omega arith))
    (λ end whole. never whole)

-- ---- what is looked for among items

pub list_any-map : {A B : Type 0} (p : B → Bool) (f : A → B) (xs : List A) → list_any (λ x. p (f x)) xs ≡ list_any p (map f xs)
list_any-map p f [] = refl
list_any-map p f (x ∷ xs) = ap (λ b. p (f x) || b) (list_any-map p f xs)
