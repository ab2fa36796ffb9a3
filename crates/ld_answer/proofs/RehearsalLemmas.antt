-- The journal and the summary of a rehearsal: that they may be written.
use Rattle.std.proofs.Common.{◌≡◌, ◌≤◌, ◌<◌, ◌+◌, ◌^◌, ◌==◌, ℕ, true, List, [], ◌∷◌, ◌++◌, Option, None, Some, IsTrue, arith, ap, sym, codes, decimal, length, refl, rules, subst, ◌∙◌}
use Rattle.std.specs.Prelude.{option_map}
use Rattle.std.specs.List.{flat_map, list_all}
use Rattle.std.proofs.lemmas.Fmt.{length-decimal-le}
use Rattle.std.proofs.lemmas.Grind.{common_steps}
use Rattle.std.proofs.lemmas.List.{length-append}
use Rattle.std.proofs.lemmas.List.Elements.{All-cons, All-nil}
use Rattle.ld_base.specs.History.{HistoryView}
use Rattle.ld_base.specs.declared.act.Act.{Act}
use Rattle.ld_base.specs.declared.act.Act.TheVariants.{Take, Grow, Start, Drop, Late, Return, Release, Stop, Close, Control}
use Rattle.ld_base.specs.declared.entry.Entry.{Entry}
use Rattle.ld_base.specs.declared.sample.Sample.{Sample}
use Rattle.ld_journal.specs.Journal.{journal_text, samples_of}
use Rattle.ld_journal.specs.declared.header.Header.{Header}
use Rattle.ld_journal.specs.Writable.{IsWritable}
use Rattle.ld_machine.specs.Effect.{state_after}
use Rattle.ld_machine.specs.History.{IsLegal}
use Rattle.ld_machine.specs.Rehearsal.{is_rehearsed_act, is_rehearsed_entry, nothing_late, FirstRefusal, IsRehearsed}
use Rattle.ld_machine.specs.Settled.{IsSettled}
use Rattle.ld_machine.specs.State.{busy_count, opening}
use Rattle.ld_machine.proofs.KeepsRoomLemmas.{legal_room}
use Rattle.ld_machine.proofs.ListLemmas.{both_true, some_not_none}
use Rattle.ld_machine.proofs.NumberedLemmas.{steps_numbered}
use Rattle.ld_plan.specs.Plan.{IsMade}
use Rattle.ld_plan.specs.PlanView.{PlanView}
use Rattle.ld_rehearsal.specs.Stage.{full_reply}
use Rattle.ld_rehearsal.specs.declared.full.FullJournal.{FullJournal}
use Rattle.ld_summary.specs.Summary.{summary_text}
use Rattle.ld_summary.specs.Summed.{AreSummed}
use Rattle.ld_words.specs.RateTest.{duration_text, rate_test}
use Rattle.ld_journal.specs.Writable.{IsCutText}
use Rattle.std.specs.Prelude.{slice_get}
use Rattle.std.specs.Option.{option_map_or}
use Rattle.ld_num.specs.declared.fraction.Frac.{Frac}
use Rattle.ld_segment.specs.Printed.{segment_text}
use Rattle.ld_segment.specs.Refusal.{ends}
use Rattle.ld_segment.specs.Segments.{segments_of}
use Rattle.ld_segment.specs.declared.segment.Segment.{Segment}
use Rattle.ld_answer.specs.Rehearsal.{header_of, segment_at, IsRehearsalAnswer}
use Rattle.ld_answer.proofs.PrintedLemmas.{segment_cut, sequence_cut}
use Rattle.ld_answer.specs.declared.answer.NamedFile.{NamedFile}

-- ---- the test's text

-- numbers below 2^64 have at most 20 digits
digits : (n : ℕ) → n < 2 ^ 64 → length (decimal n) ≤ 20
digits n below = length-decimal-le 20 n (omega arith) (omega arith) (omega arith)

longer : (front back : List ℕ) (m n : ℕ) → length front ≤ m → length back ≤ n → length (front ++ back) ≤ m + n
longer front back m n one two = let sum : length (front ++ back) ≡ length front + length back = length-append front back in omega arith

-- what stands before the rate
abbrev test_front : List ℕ
test_front = codes "{\"options\":{\"scenarios\":{\"main\":{\"executor\":\"constant-arrival-rate\"" ++ codes ",\"rate\":"

pub test_short : (r u d p m : ℕ) → r < 2 ^ 64 → u < 2 ^ 64 → d < 2 ^ 64 → p < 2 ^ 64 → m < 2 ^ 64 → length (rate_test r u d p m) ≤ 1048576
test_short r u d p m r_fits u_fits d_fits p_fits m_fits =
    let rate = digits r r_fits in
    let unit = digits u u_fits in
    let duration = digits d d_fits in
    let pre = digits p p_fits in
    let max = digits m m_fits in
    let span : (n : ℕ) → length (decimal n) ≤ 20 → length (duration_text n) ≤ 22 = λ n short. longer (decimal n) (codes "ns") 20 2 short (omega arith) in
    let one = test_front ++ decimal r in
    let to_one = longer test_front (decimal r) 200 20 (omega arith) rate in
    let two = one ++ codes ",\"timeUnit\":\"" in
    let to_two = longer one (codes ",\"timeUnit\":\"") 220 100 to_one (omega arith) in
    let three = two ++ duration_text u in
    let to_three = longer two (duration_text u) 320 22 to_two (span u unit) in
    let four = three ++ codes "\",\"duration\":\"" in
    let to_four = longer three (codes "\",\"duration\":\"") 342 100 to_three (omega arith) in
    let five = four ++ duration_text d in
    let to_five = longer four (duration_text d) 442 22 to_four (span d duration) in
    let six = five ++ codes "\",\"preAllocatedVUs\":" in
    let to_six = longer five (codes "\",\"preAllocatedVUs\":") 464 100 to_five (omega arith) in
    let seven = six ++ decimal p in
    let to_seven = longer six (decimal p) 564 20 to_six pre in
    let eight = seven ++ codes ",\"maxVUs\":" in
    let to_eight = longer seven (codes ",\"maxVUs\":") 584 100 to_seven (omega arith) in
    let nine = eight ++ decimal m in
    let to_nine = longer eight (decimal m) 684 20 to_eight max in
    let whole = longer nine (codes "}}},\"scripts\":{\"default\":[]}}") 704 100 to_nine (omega arith) in
    omega (arith, whole)

-- ---- samples

none_by_count : (samples : List Sample) → (length samples == 0) ≡ true → samples ≡ []
none_by_count [] e = refl
none_by_count (x ∷ xs) e = let none : length (x ∷ xs) ≡ 0 = grind (arith, common_steps) in absurd (omega arith)

act_brings_none : (act : Act) → is_rehearsed_act act ≡ true → samples_of act ≡ []
act_brings_none (Take n user slot) e = refl
act_brings_none (Grow n user slot) e = refl
act_brings_none (Start n user item until) e = refl
act_brings_none (Drop n item) e = refl
act_brings_none (Late n item) e = refl
act_brings_none (Return n user item outcome tally) e = none_by_count tally.samples e
act_brings_none (Release n user) e = refl
act_brings_none (Stop n) e = refl
act_brings_none (Close n) e = refl
act_brings_none (Control command) e = refl

-- a rehearsal has no samples
no_samples : (history : List Entry) → list_all is_rehearsed_entry history ≡ true → flat_map (λ (entry : Entry). samples_of entry.act) history ≡ []
no_samples [] all = refl
no_samples (x ∷ rest) all =
    let both = both_true (is_rehearsed_entry x) (list_all is_rehearsed_entry rest) all in
    let act = both_true (x.thread == 0) (is_rehearsed_act x.act) both.0 in
    rw (act_brings_none x.act act.1, no_samples rest both.1) refl

-- ---- the journal

-- the segment at a position of a sequence that has one there
pub segment_there : (points : List Frac) (position : ℕ) (segment : Segment) → slice_get (segments_of points) position ≡ Some (ends segment) →
    segment_at points position ≡ segment_text segment.from segment.to
segment_there points position segment is = ap (λ (o : Option (Frac × Frac)). option_map_or (λ (e : Frac × Frac). segment_text e.0 e.1) o []) is

segment_cut_there : (points : List Frac) (position : ℕ) (segment : Segment) → slice_get (segments_of points) position ≡ Some (ends segment) →
    IsCutText (segment_at points position)
segment_cut_there points position segment is = subst IsCutText (sym (segment_there points position segment is)) (segment_cut segment.from segment.to)

some_points : (points : List Frac) (position : ℕ) (segment : Segment) → slice_get (segments_of points) position ≡ Some (ends segment) → 0 < length points
some_points [] position segment is = absurd (some_not_none (sym is))
some_points (p ∷ ps) position segment is = omega arith

-- a plan's rehearsal has a journal
pub writable : (test : List ℕ) (iteration : ℕ) (seen : PlanView) (history : List Entry) → length test ≤ 1048576 → IsMade seen →
    IsRehearsed seen.plan iteration history → IsWritable (header_of test seen) history
writable test iteration seen history short made rehearsed =
    let room : length history + busy_count (state_after seen.plan history) ≤ seen.plan.entry_limit = legal_room seen.plan history rehearsed.legal in
    let none : length (flat_map (λ (entry : Entry). samples_of entry.act) history) ≡ 0 = ap (λ xs. length xs) (no_samples history rehearsed.entries) in
    let limit : seen.plan.entry_limit ≡ made.entries = made.is_plan.entry_limit in
    let low = made.least in
    let high = made.most in
    let stands = made.is_plan.are_parts.stands in
    record {
      test = short;
      segment = segment_cut_there seen.sequence seen.position made.segment stands;
      sequence = sequence_cut seen.sequence (some_points seen.sequence seen.position made.segment stands);
      least = omega arith;
      most = omega arith;
      turns = steps_numbered seen.plan history (opening seen.plan) rehearsed.legal;
      few_entries = omega arith;
      few_samples = omega arith;
    }

-- ---- the summary

pub summed : (seen : PlanView) (history : HistoryView) → IsLegal seen.plan history.entries → AreSummed (seen ∷ []) (history ∷ [])
summed seen history legal =
    record {
      some = omega arith;
      few = omega arith;
      one_test = search rules;
      paired = refl;
      legal = All-cons (λ (p : PlanView × HistoryView). IsLegal p.0.plan p.1.entries) (seen, history) [] legal (All-nil (λ (p : PlanView × HistoryView). IsLegal p.0.plan p.1.entries));
    }

-- ---- the answer

-- a journal was written behind nothing
pub journal_written : (header wanted : Header) (entries played : List Entry) (before after bytes : List ℕ) → header ≡ wanted → entries ≡ played → before ≡ [] →
    after ≡ before ++ journal_text header entries → bytes ≡ after → bytes ≡ journal_text wanted played
journal_written header wanted entries played before after bytes same_header same_entries empty wrote is =
    is
    ∙ wrote
    ∙ ap (λ (front : List ℕ). front ++ journal_text header entries) empty
    ∙ ap (λ (h : Header). journal_text h entries) same_header
    ∙ ap (λ (es : List Entry). journal_text wanted es) same_entries

abbrev file_named : List ℕ → List ℕ → Option NamedFile
file_named called written = Some (record { name = called; bytes = written })

named : (called journal written text : List ℕ) → called ≡ journal → written ≡ text → file_named called written ≡ file_named journal text
named called journal written text name bytes = rw (name, bytes) refl

-- all that was rehearsed and written is the answer
pub answered : (test : List ℕ) (iteration : ℕ) (journal called : List ℕ) (seen played : PlanView) (history : HistoryView) (lacked : Option FullJournal)
    (written summary : List ℕ) → played ≡ seen → IsRehearsed seen.plan iteration history.entries →
    FirstRefusal seen.plan history.entries (option_map full_reply lacked) → (lacked ≡ None → IsSettled seen.plan history.entries) → (lacked ≡ None → IsTrue (nothing_late history.entries)) →
    called ≡ journal → written ≡ journal_text (header_of test played) history.entries → summary ≡ summary_text (played ∷ []) (history ∷ []) →
    IsRehearsalAnswer test seen iteration journal (record { file = Some (record { name = called; bytes = written }); text = summary; full = lacked })
answered test iteration journal called seen played history lacked written summary same rehearsed first settled in_time name bytes text =
    record {
      history = history;
      rehearsed = rehearsed;
      first = first;
      settled = settled;
      in_time = in_time;
      file = named called journal written (journal_text (header_of test seen) history.entries) name (bytes ∙ ap (λ (p : PlanView). journal_text (header_of test p) history.entries) same);
      text = text ∙ ap (λ (p : PlanView). summary_text (p ∷ []) (history ∷ [])) same;
    }
