-- Counts of acts, as histories go on.
use Rattle.std.proofs.Common.{◌≡◌, ◌≤◌, ◌<◌, ◌+◌, ◌*◌, ◌^◌, ◌∙◌, ◌∷◌, ◌++◌, [], ℕ, Bool, List, length, take, cond, arith, ap, sym, subst, add-one, add_assoc}
use Rattle.std.proofs.Math.Seq.{take-suc}
use Rattle.std.proofs.lemmas.List.{append-nil, length-map, length-take-le, map-append}
use Rattle.std.proofs.lemmas.Grind.{flat_map-append}
use Rattle.std.proofs.lemmas.List.Sums.{count_by-le-length, sum_by-append}
use Rattle.std.proofs.lemmas.Option.{get_or_from_slice_get, slice_get_within}
use Rattle.std.specs.Prelude.{Some, count_by, slice_get}
use Rattle.ld_base.specs.History.{HistoryView}
use Rattle.ld_base.specs.declared.act.Act.{Act}
use Rattle.ld_base.specs.declared.entry.Entry.{Entry}
use Rattle.ld_machine.specs.Counted.{acts_written, counts_late, drops_item, ends_done, ends_interrupted, starts_item}
use Rattle.ld_summary.specs.Counts.{AreAtMost, acts_in, acts_of, counts_of, plus}
use Rattle.ld_summary.specs.declared.counts.Counts.{Counts}

count_append : (p : Act → Bool) (xs ys : List Act) → count_by p (xs ++ ys) ≡ count_by p xs + count_by p ys
count_append p xs ys = sum_by-append (λ x. cond (p x) 1 0) xs ys

pub plus_append : (n : ℕ) (xs ys : List Act) → counts_of n (xs ++ ys) ≡ plus (counts_of n xs) (counts_of n ys)
plus_append n xs ys =
    cc
    (count_append (starts_item n) xs ys, count_append (ends_done n) xs ys, count_append (ends_interrupted n) xs ys, count_append (drops_item n) xs ys, count_append (counts_late n) xs ys)

plus_assoc : (a b c : Counts) → plus (plus a b) c ≡ plus a (plus b c)
plus_assoc a b c =
    cc
    (add_assoc a.started b.started c.started, add_assoc a.done b.done c.done, add_assoc a.interrupted b.interrupted c.interrupted, add_assoc a.dropped b.dropped c.dropped, add_assoc a.late b.late c.late)

take_next : {X : Type 0} (xs : List X) (i : ℕ) (x : X) → slice_get xs i ≡ Some x → take (i + 1) xs ≡ take i xs ++ x ∷ []
take_next xs i x at =
    ap (λ k. take k xs) (add-one i)
    ∙ take-suc xs i x (slice_get_within xs i x at)
    ∙ ap (λ y. take i xs ++ y ∷ []) (get_or_from_slice_get xs i x x at)

-- more acts behind some
added : (n : ℕ) (start before now : Counts) (so_far more : List Act) → before ≡ plus start (counts_of n so_far) →
    now ≡ plus before (counts_of n more) → now ≡ plus start (counts_of n (so_far ++ more))
added n start before now so_far more before_is is =
    is
    ∙ ap (λ c. plus c (counts_of n more)) before_is
    ∙ plus_assoc start (counts_of n so_far) (counts_of n more)
    ∙ ap (λ c. plus start c) (sym (plus_append n so_far more))

-- one entry more
pub entry_added : (n : ℕ) (start before now : Counts) (entries : List Entry) (i : ℕ) (entry : Entry) → slice_get entries i ≡ Some entry →
    before ≡ plus start (counts_of n (acts_written (take i entries))) → now ≡ plus before (counts_of n (entry.act ∷ [])) →
    now ≡ plus start (counts_of n (acts_written (take (i + 1) entries)))
entry_added n start before now entries i entry at so_far is =
    added n start before now (acts_written (take i entries)) (entry.act ∷ []) so_far is
    ∙ ap (λ more. plus start (counts_of n more))
    (sym (ap acts_written (take_next entries i entry at) ∙ map-append (λ (e : Entry). e.act) (take i entries) (entry ∷ [])))

-- acts raise no count by more than their number
at_most_more : (n most : ℕ) (start : Counts) (more : List Act) → AreAtMost start most →
    AreAtMost (plus start (counts_of n more)) (most + length more)
at_most_more n most start more b =
    record {
      started = omega (arith, count_by-le-length (starts_item n) more);
      done = omega (arith, count_by-le-length (ends_done n) more);
      interrupted = omega (arith, count_by-le-length (ends_interrupted n) more);
      dropped = omega (arith, count_by-le-length (drops_item n) more);
      late = omega (arith, count_by-le-length (counts_late n) more);
    }

pub wider : (counts : Counts) (few more : ℕ) → few ≤ more → AreAtMost counts few → AreAtMost counts more
wider counts few more le b =
    record {
      started = omega arith;
      done = omega arith;
      interrupted = omega arith;
      dropped = omega arith;
      late = omega arith;
    }

-- the entries so far raise no count by more than their number
pub within_entries : (n most above : ℕ) (start now : Counts) (entries : List Entry) (i : ℕ) → AreAtMost start most →
    now ≡ plus start (counts_of n (acts_written (take i entries))) → i ≤ length entries → most + i ≤ above → AreAtMost now above
within_entries n most above start now entries i b is inside le =
    let count : length (acts_written (take i entries)) ≡ i = length-map (take i entries) (λ (e : Entry). e.act) ∙ length-take-le i entries inside in
    subst (λ c. AreAtMost c above) (sym is)
    (wider (plus start (counts_of n (acts_written (take i entries)))) (most + length (acts_written (take i entries))) above (omega arith)
    (at_most_more n most start (acts_written (take i entries)) b))

-- the counts so far: those of the first histories, of fewer than 2^32 entries each
pub record AreSoFar (n : ℕ) (histories : List HistoryView) (i : ℕ) (counts : Counts) : Type 0 where
  pub counted : counts ≡ counts_of n (acts_of (take i histories))
  pub below : AreAtMost counts (i * 2 ^ 32)

-- one history more
pub history_added : (n : ℕ) (histories : List HistoryView) (i : ℕ) (history : HistoryView) (before now : Counts) →
    slice_get histories i ≡ Some history → length history.entries < 2 ^ 32 → AreSoFar n histories i before →
    now ≡ plus before (counts_of n (acts_in history)) → AreSoFar n histories (i + 1) now
history_added n histories i history before now at short so_far is =
    let first = take i histories in
    let all : acts_of (take (i + 1) histories) ≡ acts_of first ++ acts_in history =
    ap acts_of (take_next histories i history at)
    ∙ flat_map-append acts_in first (history ∷ [])
    ∙ ap (λ t. acts_of first ++ t) (append-nil (acts_in history)) in
    let count : length (acts_in history) ≡ length history.entries = length-map history.entries (λ (e : Entry). e.act) in
    record {
      counted =
          is
          ∙ ap (λ c. plus c (counts_of n (acts_in history))) so_far.counted
          ∙ sym (plus_append n (acts_of first) (acts_in history))
          ∙ ap (λ t. counts_of n t) (sym all);
      below =
          subst (λ c. AreAtMost c ((i + 1) * 2 ^ 32)) (sym is)
          (wider (plus before (counts_of n (acts_in history))) (i * 2 ^ 32 + length (acts_in history)) ((i + 1) * 2 ^ 32) (omega arith)
          (at_most_more n (i * 2 ^ 32) before (acts_in history) so_far.below));
    }
