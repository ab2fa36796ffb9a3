-- What is told of a shelf over several calls.
use Rattle.std.proofs.Common.{◌≡◌, subst, sym}
use Rattle.std.specs.Prelude.{IfSome, IsSomeAnd, Option, Some, None}
use Rattle.ld_outside.specs.ShelfView.{Became, Kept, ShelfView}

-- what is told at the end was told before, and one came of the other through what was told between
pub became_through : (a b c : ShelfView) (P Q R : Kept → Kept → Type 0) → Became a P b → Became b Q c →
    ((x y z : Kept) → P x y → Q y z → R x z) → Became a R c
became_through a b c P Q R first then step = go a.told b.told c.told first then
  where
    go : (x y z : Option Kept) → IfSome y (λ n. IsSomeAnd x (λ m. P m n)) → IfSome z (λ n. IsSomeAnd y (λ m. Q m n)) →
        IfSome z (λ n. IsSomeAnd x (λ m. R m n))
    go x y None one two = tt
    go x None (Some n) one two = absurd two
    go None (Some m) (Some n) one two = absurd one
    go (Some l) (Some m) (Some n) one two = step l m n one two

-- what is told in one way is told in another
pub became_so : (a b : ShelfView) (P Q : Kept → Kept → Type 0) → Became a P b → ((x y : Kept) → P x y → Q x y) → Became a Q b
became_so a b P Q is step = go a.told b.told is
  where
    go : (x y : Option Kept) → IfSome y (λ n. IsSomeAnd x (λ m. P m n)) → IfSome y (λ n. IsSomeAnd x (λ m. Q m n))
    go x None one = tt
    go None (Some m) one = absurd one
    go (Some l) (Some m) one = step l m one

-- a shelf of which nothing was asked
pub became_nothing : (a b : ShelfView) (Q : Kept → Kept → Type 0) → b ≡ a → ((x : Kept) → Q x x) → Became a Q b
became_nothing a b Q same step = subst (Became a Q) (sym same) (go a.told)
  where
    go : (x : Option Kept) → IfSome x (λ n. IsSomeAnd x (λ m. Q m n))
    go None = tt
    go (Some l) = step l
