-- Wishes where a scenario may choose between two users.
use Rattle.std.proofs.Common.{Contains, ◌≡◌, ◌∙◌, ℕ, false, List, [], ◌∷◌, Option, None, Some, refl, ap, sym, subst, inl, inr}
use Rattle.ld_base.specs.declared.wish.Wish.{Wish}
use Rattle.ld_base.specs.declared.wish.Wish.TheVariants.{Nothing, Release, Start}
use Rattle.ld_machine.specs.Scenario.{Scenario}
use Rattle.ld_machine.specs.Moves.{Move, ReleaseUser, StartIteration, Users}
use Rattle.ld_machine.specs.Order.{is_before, place_of}
use Rattle.ld_machine.specs.Wishes.{later_moves, acts_wished, has_arrivals, start_wished, named_user, IsFirstOf, StandsForFirst, TellsFirst, WishesFirst}
use Rattle.ld_machine.specs.WishExamples.{users_with}
use Rattle.ld_machine.proofs.ListLemmas.{In, here, In-from_Contains, Contains-from_In, In-one, in_two}
use Rattle.ld_machine.proofs.OrderLemmas.{before_itself}

-- of two acts of one place each is a first one
first_of_two : (a b m : Move) → place_of a ≡ place_of b → In m (a ∷ b ∷ []) → IsFirstOf (a ∷ b ∷ []) m
first_of_two a b m same at = record {
  among = Contains-from_In m at;
  none_before = λ other has. behind (place_of other) (place_of m)
      (place_is other (In-from_Contains other (a ∷ b ∷ []) has.0 has.1 has.2)) (place_is m at);
}
  where
    place_is : (x : Move) → In x (a ∷ b ∷ []) → place_of x ≡ place_of a
    place_is x at_x = elim (in_two x a b at_x) [ inl e ↦ ap place_of (sym e) | inr e ↦ ap place_of (sym e) ∙ sym same ]

    behind : (p q : List ℕ) → p ≡ place_of a → q ≡ place_of a → is_before p q ≡ false
    behind p q e f = subst (λ x. is_before x q ≡ false) (sym e) (subst (λ y. is_before (place_of a) y ≡ false) (sym f) (before_itself (place_of a)))

-- where these two acts are all that a scenario may perform and have one place, a wish for one of them that
-- names the preferred user is right
pub told_of_two : (n : ℕ) (users : Users) (s : Scenario) (t prefer : ℕ) (wish : Wish) (a b mine : Move) → later_moves n users s t ≡ a ∷ b ∷ [] →
    place_of a ≡ place_of b → acts_wished n users s.part wish ≡ mine ∷ [] → In mine (a ∷ b ∷ []) →
    ((other : Wish) → named_user other ≡ Some prefer → StandsForFirst n users s t other → named_user wish ≡ Some prefer) → TellsFirst n users s t prefer wish
told_of_two n users s t prefer wish a b mine later same acts at names = record {
  first = λ move has.
      let only : Contains (mine ∷ []) move = subst (λ moves. Contains moves move) acts has in
      let is = In-one move mine (In-from_Contains move (mine ∷ []) only.0 only.1 only.2) in
      subst (λ moves. IsFirstOf moves move) (sym later) (subst (λ m. IsFirstOf (a ∷ b ∷ []) m) is (first_of_two a b mine same at));
  something = λ e. absurd (let clash : mine ∷ [] ≡ [] = sym acts ∙ e in cc);
  nothing = λ e. absurd (let clash : acts_wished n users s.part Nothing ≡ mine ∷ [] = subst (λ w. acts_wished n users s.part w ≡ mine ∷ []) e acts in cc);
  preferred = names;
}

-- a wish that names another user than the preferred one isn't right where a right one names this
pub not_preferred : (s : Scenario) (t prefer : ℕ) (right wish : Wish) → WishesFirst s t false prefer right → named_user right ≡ Some prefer →
    (named_user wish ≡ Some prefer → ⊥) → WishesFirst s t false prefer wish → ⊥
not_preferred s t prefer right wish told names apart wrong =
    apart ((wrong 0 (users_with 2 []) refl).preferred right names (told 0 (users_with 2 []) refl).first)

-- the user that a start is on
abbrev started_user : Move → Option ℕ
started_user (StartIteration _ user _ _) = Some user
started_user _ = None

-- where two users may start and neither is the preferred one, no wish that names this one stands for a first act
pub neither_named : (n : ℕ) (users : Users) (s : Scenario) (t prefer one two item other_item until other_until : ℕ) →
    later_moves n users s t ≡ StartIteration n one item until ∷ StartIteration n two other_item other_until ∷ [] → has_arrivals s.part.executor ≡ false →
    (one ≡ prefer → ⊥) → (two ≡ prefer → ⊥) → (other : Wish) → named_user other ≡ Some prefer → StandsForFirst n users s t other → ⊥
neither_named n users s t prefer one two item other_item until other_until later kind not_one not_two (Start user i u due) named stands =
    let act = StartIteration n user i u in
    let wished : acts_wished n users s.part (Start user i u due) ≡ act ∷ [] = ap (λ b. start_wished b n user i u due ∷ []) kind in
    let among = (stands act (subst (λ moves. Contains moves act) (sym wished) (Contains-from_In act (here {xs = []})))).among in
    let both = subst (λ moves. Contains moves act) later among in
    elim (in_two act (StartIteration n one item until) (StartIteration n two other_item other_until) (In-from_Contains act _ both.0 both.1 both.2)) [
      | inl e ↦ let same = ap started_user e in not_one cc
      | inr e ↦ let same = ap started_user e in not_two cc
    ]
neither_named n users s t prefer one two item other_item until other_until later kind not_one not_two (Release user) named stands =
    let act = ReleaseUser n user in
    let among = (stands act (Contains-from_In act (here {xs = []}))).among in
    let both = subst (λ moves. Contains moves act) later among in
    elim (in_two act (StartIteration n one item until) (StartIteration n two other_item other_until) (In-from_Contains act _ both.0 both.1 both.2)) [
      | inl e ↦ absurd (cc)
      | inr e ↦ absurd (cc)
    ]
neither_named n users s t prefer one two item other_item until other_until later kind not_one not_two other named stands = cc
