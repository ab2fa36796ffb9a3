-- Points and segments that are the same.
use Rattle.std.proofs.Common.{◌≡◌, ◌≤◌, ◌∙◌, ℕ, Bool, true, nat_eq, arith, ap, ap₂, sym}
use Rattle.std.specs.Prelude.{◌↔◌, ◌&&◌, IsTrue}
use Rattle.std.proofs.lemmas.Bool.{and_parts}
use Rattle.std.proofs.lemmas.Bool.Decides.{nat_tests}
use mathlib.Core.HLevel.{is_prop→PathP}
use Rattle.std.proofs.Props.{props}
use Rattle.ld_num.specs.Terms.{AreCoprime}
use Rattle.ld_num.specs.declared.fraction.Frac.{Frac}
use Rattle.ld_segment.specs.Refusal.{ends}
use Rattle.ld_segment.specs.declared.segment.Segment.{Segment}

pub same_point : (p q : Frac) → p.num ≡ q.num → p.den ≡ q.den → p ≡ q
same_point p q num den = λ i. record {
  num = num i;
  den = den i;
  positive = is_prop→PathP (λ j. 1 ≤ den j) (λ j. hlevel props) p.positive q.positive i;
  lowest = is_prop→PathP (λ j. AreCoprime (num j) (den j)) (λ j. hlevel props) p.lowest q.lowest i;
}

eq_from : (m n : ℕ) → nat_eq m n ≡ true → m ≡ n
eq_from m n is = grind (arith, nat_tests)

eq_true : (m n : ℕ) → m ≡ n → nat_eq m n ≡ true
eq_true m n is = grind (arith, nat_tests)

pub same_points : (p q : Frac) (b : Bool) → b ≡ (nat_eq p.num q.num && nat_eq p.den q.den) → IsTrue b ↔ (p ≡ q)
same_points p q b is = (
  λ passed.
      let both = and_parts (nat_eq p.num q.num) (nat_eq p.den q.den) (sym is ∙ passed) in
      same_point p q (eq_from p.num q.num both.0) (eq_from p.den q.den both.1),
  λ same.
      is ∙ (let num = eq_true p.num q.num (ap (λ (x : Frac). x.num) same) in
      let den = eq_true p.den q.den (ap (λ (x : Frac). x.den) same) in rw (num, den)),
)

pub same_ends : (s t : Segment) → s.from ≡ t.from → s.to ≡ t.to → ends s ≡ ends t
same_ends s t from to = ap₂ (λ x y. (x, y)) from to

pub same_begin : (s t : Segment) → ends s ≡ ends t → s.from ≡ t.from
same_begin s t same = ap (λ (pair : Frac × Frac). pair.0) same

pub same_end : (s t : Segment) → ends s ≡ ends t → s.to ≡ t.to
same_end s t same = ap (λ (pair : Frac × Frac). pair.1) same
