-- Segments that are put together.
use Rattle.std.proofs.Common.{◌≡◌, ◌<◌, ◌≤◌, ◌*◌, ◌∙◌, ◌∷◌, [], List, length, drop, get_or, map, arith, ap, ap₂, sym, subst, refl}
use Rattle.std.proofs.Math.Nat.{lt_of_mul-lt-mul_right, mul-le-mul_left}
use Rattle.ld_num.specs.declared.fraction.Frac.{Frac}
use Rattle.ld_segment.specs.Points.{IsAtMostOne, IsBelow, Rise}
use Rattle.ld_segment.specs.Segments.{filled, most_segments, segments_of, IsSequence}
use Rattle.ld_segment.specs.Refusal.{AreAtMostOne, Meet, ends}
use Rattle.ld_segment.proofs.FillingLemmas.{filled_short}
use Rattle.ld_segment.specs.declared.segment.Segment.{Segment}

-- the points of segments: where the first begins, and where each ends
abbrev pub ends_behind : List Segment → List Frac
ends_behind parts = map (λ (part : Segment). part.to) parts

pub segments_put_together : (s : Segment) (rest : List Segment) → Meet (s ∷ rest) →
    segments_of (s.from ∷ ends_behind (s ∷ rest)) ≡ map ends (s ∷ rest)
segments_put_together s [] meet = refl
segments_put_together s (t ∷ rest) meet =
    ap (λ ps. (s.from, s.to) ∷ ps)
    (ap (λ (p : Frac). segments_of (p ∷ ends_behind (t ∷ rest))) meet.0 ∙ segments_put_together t rest meet.1)

pub rise_put_together : (s : Segment) (rest : List Segment) → Meet (s ∷ rest) → Rise (s.from ∷ ends_behind (s ∷ rest))
rise_put_together s [] meet = (s.rises, tt)
rise_put_together s (t ∷ rest) meet =
    (s.rises, subst (λ (p : Frac). Rise (p ∷ ends_behind (t ∷ rest))) (sym meet.0) (rise_put_together t rest meet.1))

ends_within : (parts : List Segment) → AreAtMostOne (ends_behind parts)
ends_within [] = tt
ends_within (s ∷ parts) = (s.within, ends_within parts)

below_one : (p q : Frac) → IsBelow p q → IsAtMostOne q → IsAtMostOne p
below_one p q below within =
    let most : p.den * q.num ≤ p.den * q.den = mul-le-mul_left p.den within in
    let below_all : p.num * q.den < p.den * q.den = omega arith in
    let less : p.num < p.den = lt_of_mul-lt-mul_right q.den below_all in
    omega arith

pub within_put_together : (s : Segment) (parts : List Segment) → AreAtMostOne (s.from ∷ ends_behind parts)
within_put_together s parts = (below_one s.from s.to s.rises s.within, ends_within parts)

-- what is known of the points of segments
pub record PutTogether (parts : List Segment) (points : List Frac) : Type 0 where
  pub segments : segments_of points ≡ map ends parts
  pub some : 2 ≤ length points
  pub rises : Rise points
  pub within : AreAtMostOne points

pub put_together : (parts : List Segment) (s : Segment) (points : List Frac) → 0 < length parts → s ≡ get_or parts 0 s → Meet parts →
    points ≡ s.from ∷ ends_behind parts → PutTogether parts points
put_together [] s points some is meet are = absurd (omega arith)
put_together (t ∷ rest) s points some is meet are =
    subst (PutTogether (t ∷ rest)) (sym (are ∙ ap (λ (x : Segment). x.from ∷ ends_behind (t ∷ rest)) is)) (record {
      segments = segments_put_together t rest meet;
      some = omega arith;
      rises = rise_put_together t rest meet;
      within = within_put_together t (t ∷ rest);
    })

pub parts_sequence : (parts : List Segment) (points : List Frac) → PutTogether parts points →
    length (segments_of (filled points)) ≤ most_segments → IsSequence points
parts_sequence parts points known few = record {
  some = known.some;
  rises = known.rises;
  at_most_one = known.within;
  few = few;
}

one_tail : (p : Frac) (ps : List Frac) (q : Frac) (qs : List Frac) → p ≡ q → segments_of (p ∷ ps) ≡ segments_of (q ∷ qs) →
    ◌≡◌ {A = List Frac} (p ∷ ps) (q ∷ qs)
one_tail p [] q [] head same = ap (λ (x : Frac). x ∷ []) head
one_tail p [] q (s ∷ qs) head same = cc
one_tail p (r ∷ ps) q [] head same = cc
one_tail p (r ∷ ps) q (s ∷ qs) head same =
    ap₂ (λ (x : Frac) (xs : List Frac). x ∷ xs) head
    (one_tail r ps s qs
    (ap (λ (l : List (Frac × Frac)). (get_or l 0 (p, r)).1) same)
    (ap (λ (l : List (Frac × Frac)). drop 1 l) same))

pub one_list : (ps qs : List Frac) → 0 < length (segments_of ps) → segments_of ps ≡ segments_of qs → ps ≡ qs
one_list [] qs some same = absurd (omega arith)
one_list (p ∷ []) qs some same = absurd (omega arith)
one_list (p ∷ q ∷ ps) [] some same = cc
one_list (p ∷ q ∷ ps) (r ∷ []) some same = cc
one_list (p ∷ q ∷ ps) (r ∷ s ∷ qs) some same =
    one_tail p (q ∷ ps) r (s ∷ qs) (ap (λ (l : List (Frac × Frac)). (get_or l 0 (p, q)).0) same) same

-- a segment is a sequence of two points
pub segment_sequence : (s : Segment) → IsSequence (s.from ∷ s.to ∷ [])
segment_sequence s = record {
  some = omega arith;
  rises = (s.rises, tt);
  at_most_one = (below_one s.from s.to s.rises s.within, (s.within, tt));
  few = filled_short (s.from ∷ s.to ∷ []) (omega arith);
}

-- segments that lie between points meet
pub segments_meet_parts : (parts : List Segment) (points : List Frac) → segments_of points ≡ map ends parts → Meet parts
segments_meet_parts [] points same = tt
segments_meet_parts (s ∷ []) points same = tt
segments_meet_parts (s ∷ t ∷ parts) [] same = absurd (let e : ⊥ = cc in e)
segments_meet_parts (s ∷ t ∷ parts) (p ∷ []) same = absurd (let e : ⊥ = cc in e)
segments_meet_parts (s ∷ t ∷ parts) (p ∷ q ∷ []) same = absurd (let e : ⊥ = cc in e)
segments_meet_parts (s ∷ t ∷ parts) (p ∷ q ∷ r ∷ points) same = (
  ap (λ (l : List (Frac × Frac)). (get_or l 0 (p, q)).1) (sym same) ∙ ap (λ (l : List (Frac × Frac)). (get_or l 1 (p, q)).0) same,
  segments_meet_parts (t ∷ parts) (q ∷ r ∷ points) (ap (λ (l : List (Frac × Frac)). drop 1 l) same),
)
