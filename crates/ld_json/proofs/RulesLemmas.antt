-- Rules that are looked at in order.
use Rattle.std.specs.Prelude.{List, [], ◌∷◌, ◌++◌}
use Rattle.std.specs.List.{AllByRecursion}
use Rattle.std.proofs.Common.{◌≡◌, ◌<◌, ◌+◌, ◌∙◌, ℕ, length, take, drop, get_or, ap, sym, subst, inl, inr}
use Rattle.std.proofs.lemmas.List.{drop_more, take-append-drop}
use Rattle.ld_json.specs.Rules.{Accepts, FirstOf, Then}

pub then_accepts : {F : Type 0} → (first second : F → Type 0) → Accepts first → Accepts second → Accepts (Then first second)
then_accepts first second one two fault (inl refused) = one fault refused
then_accepts first second one two fault (inr refused) = two fault refused.1

pub all_accept : {X F : Type 0} → (rule : X → F → Type 0) (xs : List X) → AllByRecursion (λ x. Accepts (rule x)) xs → Accepts (FirstOf rule xs)
all_accept rule [] all = λ fault refused. refused
all_accept rule (x ∷ xs) all = then_accepts (rule x) (FirstOf rule xs) all.0 (all_accept rule xs all.1)

pub first_behind : {X F : Type 0} → (rule : X → F → Type 0) (before : List X) (x : X) (after : List X) → AllByRecursion (λ x. Accepts (rule x)) before → (fault : F) → rule x fault → FirstOf rule (before ++ x ∷ after) fault
first_behind rule [] x after all fault refused = inl refused
first_behind rule (y ∷ before) x after all fault refused = inr (all.0, first_behind rule before x after all.1 fault refused)

pub accepts_snoc : {X F : Type 0} → (rule : X → F → Type 0) (before : List X) (x : X) → AllByRecursion (λ x. Accepts (rule x)) before → Accepts (rule x) → AllByRecursion (λ x. Accepts (rule x)) (before ++ x ∷ [])
accepts_snoc rule [] x all accepts = (accepts, tt)
accepts_snoc rule (y ∷ before) x all accepts = (all.0, accepts_snoc rule before x all.1 accepts)

-- the item at this place is the first that isn't accepted
pub first_at : {X F : Type 0} → (rule : X → F → Type 0) (xs : List X) (i : ℕ) (x : X) → i < length xs → x ≡ get_or xs i x →
    AllByRecursion (λ x. Accepts (rule x)) (take i xs) → (fault : F) → rule x fault → FirstOf rule xs fault
first_at rule xs i x within is before fault refused =
    subst (λ ys. FirstOf rule ys fault)
    (ap (λ rest. take i xs ++ rest) (ap (λ y. y ∷ drop (i + 1) xs) is ∙ sym (drop_more xs i x within)) ∙ take-append-drop i xs)
    (first_behind rule (take i xs) x (drop (i + 1) xs) before fault refused)
