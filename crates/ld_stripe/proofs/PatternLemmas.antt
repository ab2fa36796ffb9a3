-- A pattern grows by one owner at a time.
use Rattle.std.proofs.Common.{◌≡◌, ◌<◌, ◌≤◌, ◌+◌, ◌∙◌, ◌∷◌, ◌++◌, [], ℕ, List, inl, inr, length, get_or, take, arith, ap, sym, subst, nat_eq}
use Rattle.std.proofs.Math.ListN.{set, length-set}
use Rattle.std.proofs.Math.Decide.{dec_lt}
use Rattle.std.proofs.Math.Seq.{get_or-append_seam, take-append_seam}
use Rattle.std.proofs.lemmas.Bool.Decides.{eqb_tells}
use Rattle.std.proofs.lemmas.List.{take-append-le, get_or_append_left, get_or-set_same, get_or-set_other, length_push}
use Rattle.std.proofs.lemmas.Grind.{get_or_default_zero}
use Rattle.std.proofs.lemmas.List.Sums.{count_by-le-length}
use Rattle.ld_stripe.specs.Striping.{FollowsWeights, IsFirstDue}
use Rattle.ld_stripe.specs.Pattern.{AreGiven}
use Rattle.ld_stripe.proofs.FirstDueLemmas.{in_range}
use Rattle.ld_stripe.proofs.GivenLemmas.{given-push, one_if_same, one_if_other}

-- the first n owners follow the weights, and the counts are of these
pub record IsSoFar (weights owners counts : List ℕ) (n : ℕ) : Type 0 where
  pub long : length owners ≡ n
  pub follows : FollowsWeights weights owners
  pub are_given : AreGiven weights owners counts

-- with the first that is due at their end the owners follow the weights
pub follows_more : (weights owners : List ℕ) (owner : ℕ) → FollowsWeights weights owners →
    IsFirstDue weights owners owner → FollowsWeights weights (owners ++ owner ∷ [])
follows_more weights owners owner follows due i below =
    elim (dec_lt i (length owners)) [
      | yes before ↦
          let front = sym (take-append-le i owners (owner ∷ []) (omega arith)) in
          let same = sym (get_or_append_left owners (owner ∷ []) 0 i before) in
          subst (λ j. IsFirstDue weights (take i (owners ++ owner ∷ [])) j) same
          (subst (λ b. IsFirstDue weights b (get_or owners i 0)) front (follows i before))
      | no last ↦
          let long = length_push owners owner in
          let at : length owners ≡ i = omega arith in
          let front = sym (take-append_seam owners (owner ∷ [])) ∙ ap (λ k. take k (owners ++ owner ∷ [])) at in
          let same = sym (get_or-append_seam owners owner [] 0) ∙ ap (λ k. get_or (owners ++ owner ∷ []) k 0) at in
          subst (λ j. IsFirstDue weights (take i (owners ++ owner ∷ [])) j) same
          (subst (λ b. IsFirstDue weights b owner) front due)
    ]

-- and the counts of these are the counts before, with one more for the new owner
counted_more : (weights owners counts : List ℕ) (owner : ℕ) → AreGiven weights owners counts →
    owner < length weights → AreGiven weights (owners ++ owner ∷ []) (set counts owner (get_or counts owner 0 + 1))
counted_more weights owners counts owner are inside =
    let long = length-set counts owner (get_or counts owner 0 + 1) in
    let all = are.each_has in
    record {
      each_has = omega arith;
      counted = λ j below.
          let before = are.counted j (omega arith) in
          let more = given-push owners owner j in
          elim (eqb_tells owner j) [
            | inl same ↦
                let one = one_if_same owner j same.1 in
                let here = get_or-set_same counts owner (get_or counts owner 0 + 1) 0 (omega arith) in
                let here' = subst (λ k. get_or (set counts owner (get_or counts owner 0 + 1)) k 0 ≡ get_or counts k 0 + 1) same.1 here in
                omega arith
            | inr apart ↦
                let none = one_if_other owner j apart.1 in
                let there = get_or-set_other counts owner j (get_or counts owner 0 + 1) 0 (λ e. apart.1 (sym e)) in
                omega arith
          ];
    }

pub so_far_more : (weights owners counts : List ℕ) (n owner : ℕ) → IsSoFar weights owners counts n →
    IsFirstDue weights owners owner →
    IsSoFar weights (owners ++ owner ∷ []) (set counts owner (get_or counts owner 0 + 1)) (n + 1)
so_far_more weights owners counts n owner h due =
    let long = length_push owners owner in
    let before = h.long in
    let here = due.due in
    record {
      long = omega arith;
      follows = follows_more weights owners owner h.follows due;
      are_given = counted_more weights owners counts owner h.are_given (in_range weights owner here.weighted);
    }

-- no position was given more than there are owners
count_at_most : (weights owners counts : List ℕ) (j : ℕ) → AreGiven weights owners counts →
    j < length weights → get_or counts j 0 ≤ length owners
count_at_most weights owners counts j are inside =
    let all = are.each_has in
    let counted = are.counted j (omega arith) in
    let most = count_by-le-length (λ k. nat_eq k j) owners in
    omega arith

-- a count that is read at the first that is due is its count
pub count_read : (weights owners counts : List ℕ) (owner x : ℕ) → AreGiven weights owners counts →
    IsFirstDue weights owners owner → x ≡ get_or counts owner x → x ≡ get_or counts owner 0
count_read weights owners counts owner x are due is =
    let all = are.each_has in
    let here = due.due in
    let inside = in_range weights owner here.weighted in
    is ∙ get_or_default_zero counts owner x (omega arith)

-- and it is at most the number of owners
pub count_read_at_most : (weights owners counts : List ℕ) (owner x : ℕ) → AreGiven weights owners counts →
    IsFirstDue weights owners owner → x ≡ get_or counts owner x → x ≤ length owners
count_read_at_most weights owners counts owner x are due is =
    let here = due.due in
    let read = count_read weights owners counts owner x are due is in
    let most = count_at_most weights owners counts owner are (in_range weights owner here.weighted) in
    omega arith
