-- When the test by options is refused.
use Rattle.std.proofs.Common.{true, ◌≡◌, ◌≢◌, ◌<◌, ◌≤◌, ◌^◌, ◌↔◌, ◌⊎◌, ◌∷◌, ◌++◌, [], ap, decimal, inl, inr, length, lit<, subst, sym, ◌∙◌, ℕ, List, None, Some, Ok, Err, arith, refl}
use Rattle.std.specs.Prelude.{◌&&◌, All, IsUtf8, Result, codes, nat_le, nat_lt}
use Rattle.std.specs.List.{list_all}
use Rattle.std.proofs.lemmas.Bool.{and_from, and_parts, leb-true, lt-ltb, ltb-true}
use Rattle.std.proofs.lemmas.List.{length-append}
use Rattle.std.proofs.lemmas.List.Elements.{All-cons, All-nil}
use Rattle.std.proofs.lemmas.Fmt.{decimal_is_IsNumeral}
use Rattle.std.proofs.lemmas.Str.{IsUtf8-append}
use Rattle.std.proofs.lemmas.Str.Parse.{digit_at}
use Rattle.std.specs.Str.Parse.{AllDigits}
use Rattle.json.proofs.Printed.Utf8.{are_ascii, IsUtf8-are_ascii}
use Rattle.ld_json.specs.Document.{IsDocument}
use Rattle.ld_json.specs.Known.{allowed}
use Rattle.ld_json.specs.Node.{NodeView}
use Rattle.ld_json.specs.Pointer.{member_path}
use Rattle.ld_json.specs.Rules.{Accepts, FirstOf, Then}
use Rattle.ld_json.specs.declared.fault.JsonFault.{JsonFault}
use Rattle.ld_options.specs.ConstantArrivals.{RefusesArrivals, rates}
use Rattle.ld_options.specs.Document.{IsRefusal, OfScripts, RefusesDocument, RefusesOptions, RefusesRoot, counted, object_of, options_in, root_of, scenario_counts, script_counts, scripts_in}
use Rattle.ld_options.specs.Executors.{kind_of}
use Rattle.ld_options.specs.Faults.{Refused, of_node}
use Rattle.ld_options.specs.Fields.{given, number, ranged}
use Rattle.ld_options.specs.Ranges.{longest}
use Rattle.ld_options.specs.Scenarios.{HasBadName, IsLost, RefusesFields, RefusesKnown, RefusesScenario, RefusesScript}
use Rattle.ld_options.specs.Times.{RefusesTime, durations, spans, units}
use Rattle.ld_options.specs.Users.{RefusesGreatest, greatest, planned_users, pre_allocated, users}
use Rattle.ld_options.specs.declared.fault.OptionsFault.{OptionsFault}
use Rattle.ld_options.specs.declared.fault.OptionsFault.TheVariants as faults
use Rattle.ld_script.specs.Name.{IsName, IsNameByte}
use Rattle.ld_script.specs.Refusal.{Member, RefusesScripts}
use Rattle.ld_script.specs.declared.fault.ScriptFault.{ScriptFault}
use Rattle.serde_json.specs.Data.{Data}
use Rattle.serde_json.specs.Find.{as_str}
use Rattle.ld_words.specs.RateTest.{duration_text, rate_test}
use Rattle.ld_answer.proofs.RateData.{rate_data}
use Rattle.ld_answer.proofs.RateOptionLemmas.{main_node, names, ok_same}
use Rattle.ld_answer.proofs.RateTextLemmas.{reads, some_same}
use Rattle.ld_answer.proofs.RuleLemmas.{Rule, alike, both, last, not_refused, passed, ranged_accepted, ranged_refused, test_first}
use Rattle.ld_answer.proofs.SpanLemmas.{begin_is_span, begin_span, grace_is_span, grace_span, text_is_span, text_span, time_refused}
use Rattle.ld_answer.specs.RateOptions.{IsBelow, IsOut, RefusesRates, field_path}

-- ---- names

letters : (xs : List ℕ) → list_all (λ b. nat_le 97 b && nat_le b 122) xs ≡ true → All IsNameByte xs
letters [] small = All-nil IsNameByte
letters (x ∷ xs) small =
    let p = and_parts (nat_le 97 x && nat_le x 122) _ small in
    let q = and_parts (nat_le 97 x) (nat_le x 122) p.0 in
    All-cons IsNameByte x xs (inl (inr (leb-true _ _ q.0, leb-true _ _ q.1))) (letters xs p.1)

main_is_name : IsName (codes "main")
main_is_name = record { some = omega arith; few = omega arith; bytes = letters (codes "main") refl }

default_is_name : IsName (codes "default")
default_is_name = record { some = omega arith; few = omega arith; bytes = letters (codes "default") refl }

-- ---- the document, up to its scenario

no_fault : {A : Type 0} (x : A) (f : JsonFault) → ◌≡◌ {A = Result A JsonFault} (Ok x) (Err f) → ⊥
no_fault x f is = cc

module _ (rate unit duration pre max : ℕ) where
  abbrev root : NodeView
  root = root_of (rate_data rate unit duration pre max)

  root_passes : Accepts (RefusesRoot root)
  root_passes f (inl is) = not_refused (of_node (allowed root (codes "options scripts"))) tt refl f is
  root_passes f (inr (_, inl is)) = not_refused (object_of root (codes "options")) _ refl f is
  root_passes f (inr (_, inr (_, is))) = not_refused (counted script_counts root (codes "scripts")) 1 refl f is

  options_pass : Accepts (RefusesOptions (options_in root))
  options_pass f (inl is) = not_refused (of_node (allowed (options_in root) (codes "scenarios"))) tt refl f is
  options_pass f (inr (_, is)) = not_refused (counted scenario_counts (options_in root) (codes "scenarios")) 1 refl f is

  no_script_fault : (cause : ScriptFault) → RefusesScripts (scripts_in root) cause → ⊥
  no_script_fault cause (inl (inl (is, _))) = no_fault _ _ is
  no_script_fault cause (inl (inr (_, (more, _)))) = omega (arith, more)
  no_script_fault cause (inr (_, inl (inl (bad, _)))) = bad default_is_name
  no_script_fault cause (inr (_, inl (inr (_, inl (is, _))))) = no_fault _ _ is
  no_script_fault cause (inr (_, inl (inr (_, inr (_, none))))) = none
  no_script_fault cause (inr (_, inr (_, none))) = none

  scripts_pass : Accepts (OfScripts (RefusesScripts (scripts_in root)))
  scripts_pass f (cause, rule, same) = no_script_fault cause rule

  abbrev node : NodeView
  node = main_node rate unit duration pre max

  abbrev scenario : Member
  scenario = (codes "main", node)

  -- the rules behind the root, behind the options, behind the scripts, and behind the scenario's name
  abbrev behind_name : Rule
  behind_name = Then (Refused (kind_of node)) (RefusesKnown names node)

  abbrev behind_scripts : Rule
  behind_scripts = FirstOf (RefusesScenario names) (scenario ∷ [])

  abbrev behind_options : Rule
  behind_options = Then (OfScripts (RefusesScripts (scripts_in root))) behind_scripts

  abbrev behind_root : Rule
  behind_root = Then (RefusesOptions (options_in root)) behind_options

  -- what is refused of the document is refused of the fields of its scenario
  known : (f : OptionsFault) → RefusesDocument root f ↔ RefusesKnown names node f
  known f =
      both (passed (RefusesRoot root) behind_root f root_passes)
      (both (passed (RefusesOptions (options_in root)) behind_options f options_pass)
      (both (passed (OfScripts (RefusesScripts (scripts_in root))) behind_scripts f scripts_pass)
      (both (last (RefusesScenario names scenario) (FirstOf (RefusesScenario names) []) f (λ g none. none))
      (both (passed (HasBadName scenario) behind_name f (λ g bad. bad.0 main_is_name))
      (passed (Refused (kind_of node)) (RefusesKnown names node) f (not_refused (kind_of node) _ refl))))))

  -- ---- its fields

  -- what every kind that the executor may have refuses is refused
  of_kind : (f : OptionsFault) (P : Type 0) → ((k : _) → kind_of node ≡ Ok k → RefusesFields names k node f ↔ P) → RefusesKnown names node f ↔ P
  of_kind f P each = (
    (λ (r : RefusesKnown names node f). (each r.kind r.kind_is).0 r.refused),
    (λ p. record { kind = _; kind_is = refl; refused = (each _ refl).1 p }),
  )

  begin_passes : Accepts (RefusesTime spans (Some (codes "0s")) node (codes "startTime"))
  begin_passes f is =
      let out = (time_refused spans (Some (codes "0s")) node (codes "startTime") (codes "0s") 0 f refl (lit< tt) begin_is_span begin_span).0 is in
      out.0 (record { at_least = omega arith; at_most = omega arith })

  grace_passes : Accepts (RefusesTime spans (Some (codes "30s")) node (codes "gracefulStop"))
  grace_passes f is =
      let out = (time_refused spans (Some (codes "30s")) node (codes "gracefulStop") (codes "30s") 30000000000 f refl (lit< tt) grace_is_span grace_span).0 is in
      out.0 (record { at_least = omega arith; at_most = omega arith })

  script_found : (f : OptionsFault) → Refused (given as_str (Some (codes "default")) node (codes "exec")) f
      ⊎ ((text : List ℕ) × (given as_str (Some (codes "default")) node (codes "exec") ≡ Ok text) × IsLost names (member_path node.path (codes "exec")) text f) → ⊥
  script_found f (inl is) = not_refused (given as_str (Some (codes "default")) node (codes "exec")) (codes "default") refl f is
  script_found f (inr (text, holds, lost)) = lost.lacks 0 (ap (λ t. Some t) (ok_same (codes "default") text holds))

  script_passes : Accepts (RefusesScript names node)
  script_passes f is = script_found f is.refused

  -- the fields behind those that aren't given
  abbrev arrivals : Rule
  arrivals = RefusesArrivals node

  abbrev behind_grace : Rule
  behind_grace = Then (RefusesScript names node) arrivals

  abbrev behind_begin : Rule
  behind_begin = Then (RefusesTime spans (Some (codes "30s")) node (codes "gracefulStop")) behind_grace

  abbrev behind_members : Rule
  behind_members = Then (RefusesTime spans (Some (codes "0s")) node (codes "startTime")) behind_begin

  abbrev members_known : Rule
  members_known = Refused (of_node (allowed node (codes "executor startTime gracefulStop exec rate timeUnit duration preAllocatedVUs maxVUs")))

  fields : (f : OptionsFault) → Then members_known behind_members f ↔ RefusesArrivals node f
  fields f =
      both (passed members_known behind_members f (not_refused (of_node (allowed node (codes "executor startTime gracefulStop exec rate timeUnit duration preAllocatedVUs maxVUs"))) tt refl))
      (both (passed (RefusesTime spans (Some (codes "0s")) node (codes "startTime")) behind_begin f begin_passes)
      (both (passed (RefusesTime spans (Some (codes "30s")) node (codes "gracefulStop")) behind_grace f grace_passes)
      (passed (RefusesScript names node) arrivals f script_passes)))

  to_arrivals : (f : OptionsFault) → RefusesDocument root f ↔ RefusesArrivals node f
  to_arrivals f = both (known f) (of_kind f (RefusesArrivals node f) (λ k is.
      subst (λ x. RefusesFields names x node f ↔ RefusesArrivals node f) (ok_same _ k is) (fields f)))

  -- ---- its numbers

  abbrev most : Rule
  most = Then (IsBelow pre max) (IsOut users max (codes "maxVUs"))

  most_refused : (f : OptionsFault) → Refused (greatest pre node) f ↔ most f
  most_refused f =
      both (test_first (nat_lt max pre) (max < pre) (faults.MaxBelowPre (field_path (codes "maxVUs"))) (ranged users (field_path (codes "maxVUs")) max) f (ltb-true max pre) (lt-ltb max pre))
      (alike (IsBelow pre max) (IsBelow pre max) (Refused (ranged users (field_path (codes "maxVUs")) max)) (IsOut users max (codes "maxVUs")) f
      (λ g. ((λ x. x), (λ x. x))) (λ none. ranged_refused users (field_path (codes "maxVUs")) max f))

  greatest_refused : (f : OptionsFault) → Accepts (IsOut planned_users pre (codes "preAllocatedVUs")) → RefusesGreatest node f ↔ most f
  greatest_refused f accepted =
      let is : pre_allocated node ≡ Ok pre = ranged_accepted planned_users (field_path (codes "preAllocatedVUs")) pre accepted in
      both {B = Refused (greatest pre node) f} (
        (λ r. subst (λ p. Refused (greatest p node) f) (ok_same r.0 pre (sym r.1 ∙ is)) r.2),
        (λ r. (pre, is, r)),
      ) (most_refused f)

  abbrev from_pre : Rule
  from_pre = Then (IsOut planned_users pre (codes "preAllocatedVUs")) most

  abbrev from_duration : Rule
  from_duration = Then (IsOut durations duration (codes "duration")) from_pre

  abbrev from_unit : Rule
  from_unit = Then (IsOut units unit (codes "timeUnit")) from_duration

  abbrev pre_rule : Rule
  pre_rule = Then (Refused (pre_allocated node)) (RefusesGreatest node)

  abbrev duration_rule : Rule
  duration_rule = Then (RefusesTime durations None node (codes "duration")) pre_rule

  abbrev unit_rule : Rule
  unit_rule = Then (RefusesTime units (Some (codes "1s")) node (codes "timeUnit")) duration_rule

  some_text : (n : ℕ) → 0 < length (duration_text n)
  some_text n = let sum = length-append (decimal n) (codes "ns") in let two : length (codes "ns") ≡ 2 = refl in omega arith

  pre_refused : (f : OptionsFault) → pre_rule f ↔ from_pre f
  pre_refused f =
      alike (Refused (pre_allocated node)) (IsOut planned_users pre (codes "preAllocatedVUs")) (RefusesGreatest node) most f
      (λ g. ranged_refused planned_users (field_path (codes "preAllocatedVUs")) pre g) (greatest_refused f)

  duration_refused : (f : OptionsFault) → duration ≤ longest → duration_rule f ↔ from_duration f
  duration_refused f small =
      alike (RefusesTime durations None node (codes "duration")) (IsOut durations duration (codes "duration")) pre_rule from_pre f
      (λ g. time_refused durations None node (codes "duration") (duration_text duration) duration g refl (some_text duration) (text_is_span duration small) (λ k. text_span duration k (omega arith)))
      (λ none. pre_refused f)

  unit_refused : (f : OptionsFault) → unit ≤ longest → duration ≤ longest → unit_rule f ↔ from_unit f
  unit_refused f small short =
      alike (RefusesTime units (Some (codes "1s")) node (codes "timeUnit")) (IsOut units unit (codes "timeUnit")) duration_rule from_duration f
      (λ g. time_refused units (Some (codes "1s")) node (codes "timeUnit") (duration_text unit) unit g refl (some_text unit) (text_is_span unit small) (λ k. text_span unit k (omega arith)))
      (λ none. duration_refused f short)

  numbers_refused : (f : OptionsFault) → unit ≤ longest → duration ≤ longest → RefusesDocument root f ↔ RefusesRates rate unit duration pre max f
  numbers_refused f small short =
      both (to_arrivals f)
      (alike (Refused (number rates None node (codes "rate"))) (IsOut rates rate (codes "rate")) unit_rule from_unit f
      (λ g. ranged_refused rates (field_path (codes "rate")) rate g) (λ none. unit_refused f small short))

  of_range : (path : List ℕ) (f : OptionsFault) → f ≡ faults.Range path → f ≢ faults.Memory
  of_range path f is memory = let e : faults.Range path ≡ faults.Memory = sym is ∙ memory in cc

  not_memory : (f : OptionsFault) → RefusesRates rate unit duration pre max f → f ≢ faults.Memory
  not_memory f (inl out) = of_range _ f out.1
  not_memory f (inr (_, inl out)) = of_range _ f out.1
  not_memory f (inr (_, inr (_, inl out))) = of_range _ f out.1
  not_memory f (inr (_, inr (_, inr (_, inl out)))) = of_range _ f out.1
  not_memory f (inr (_, inr (_, inr (_, inr (_, inl below))))) = λ memory. let e = sym below.1 ∙ memory in cc
  not_memory f (inr (_, inr (_, inr (_, inr (_, inr (_, out)))))) = of_range _ f out.1

  -- ---- the text

  ascii_digits : (digits : List ℕ) → AllDigits 10 digits → are_ascii digits ≡ true
  ascii_digits [] all = refl
  ascii_digits (d ∷ digits) all =
      let near = digit_at (d ∷ digits) 0 all (omega arith) in
      and_from _ _ (lt-ltb d 128 (omega arith)) (ascii_digits digits all.1)

  decimal_utf8 : (n : ℕ) → n < 2 ^ 64 → IsUtf8 (decimal n)
  decimal_utf8 n small = IsUtf8-are_ascii (decimal n) (ascii_digits (decimal n) (decimal_is_IsNumeral n small).0.1)

  duration_utf8 : (n : ℕ) → n < 2 ^ 64 → IsUtf8 (duration_text n)
  duration_utf8 n small = IsUtf8-append (decimal n) (codes "ns") (decimal_utf8 n small) (IsUtf8-are_ascii (codes "ns") refl)

  -- a text of ASCII, and one behind it
  then_text : (text more : List ℕ) → are_ascii more ≡ true → IsUtf8 text → IsUtf8 (text ++ more)
  then_text text more ascii is = IsUtf8-append text more is (IsUtf8-are_ascii more ascii)

  text_utf8 : rate < 2 ^ 64 → unit < 2 ^ 64 → duration < 2 ^ 64 → pre < 2 ^ 64 → max < 2 ^ 64 → IsUtf8 (rate_test rate unit duration pre max)
  text_utf8 a b c d e =
      then_text _ (codes "}}},\"scripts\":{\"default\":[]}}") refl
      (IsUtf8-append _ (decimal max) (then_text _ (codes ",\"maxVUs\":") refl
      (IsUtf8-append _ (decimal pre) (then_text _ (codes "\",\"preAllocatedVUs\":") refl
      (IsUtf8-append _ (duration_text duration) (then_text _ (codes "\",\"duration\":\"") refl
      (IsUtf8-append _ (duration_text unit) (then_text _ (codes ",\"timeUnit\":\"") refl
      (IsUtf8-append _ (decimal rate) (then_text (codes "{\"options\":{\"scenarios\":{\"main\":{\"executor\":\"constant-arrival-rate\"") (codes ",\"rate\":") refl
      (IsUtf8-are_ascii (codes "{\"options\":{\"scenarios\":{\"main\":{\"executor\":\"constant-arrival-rate\"") refl)) (decimal_utf8 rate a)))
      (duration_utf8 unit b))) (duration_utf8 duration c))) (decimal_utf8 pre d))) (decimal_utf8 max e))

  document : rate < 2 ^ 64 → unit < 2 ^ 64 → duration < 2 ^ 64 → pre < 2 ^ 64 → max < 2 ^ 64 → IsDocument (rate_test rate unit duration pre max) (rate_data rate unit duration pre max)
  document a b c d e = record { utf8 = text_utf8 a b c d e; read = reads rate unit duration pre max a b c d e; whole = refl }

  by_document : (f : OptionsFault) → IsDocument (rate_test rate unit duration pre max) (rate_data rate unit duration pre max) →
      (((d : Data) → IsDocument (rate_test rate unit duration pre max) d → ⊥) × (f ≡ faults.NotJson))
      ⊎ ((d : Data) × IsDocument (rate_test rate unit duration pre max) d × RefusesDocument (root_of d) f)
      → RefusesDocument root f
  by_document f is (inl none) = absurd (none.0 (rate_data rate unit duration pre max) is)
  by_document f is (inr (d, held, rule)) = subst (λ x. RefusesDocument (root_of x) f) (some_same d _ (sym held.read ∙ is.read)) rule

pub refused : (rate unit duration pre max : ℕ) (fault : OptionsFault) → rate < 2 ^ 64 → unit ≤ longest → duration ≤ longest → pre < 2 ^ 64 → max < 2 ^ 64
    → IsRefusal (rate_test rate unit duration pre max) fault ↔ RefusesRates rate unit duration pre max fault
refused rate unit duration pre max fault a b c d e =
    let is = document rate unit duration pre max a (omega arith) (omega arith) d e in
    let same = numbers_refused rate unit duration pre max fault b c in (
      λ r. same.0 (by_document rate unit duration pre max fault is r.refused),
      λ r. record { not_memory = not_memory rate unit duration pre max fault r; refused = inr (rate_data rate unit duration pre max, is, same.1 r) },
    )
