-- An object of scripts says the same scripts always.
use Rattle.std.proofs.Common.{◌≡◌, ◌≢◌, ◌∙◌, ℕ, Bool, true, false, true≢false, List, [], ◌∷◌, Option, Some, None, if◌then◌else◌, arith, ap, ap₂, sym, subst, refl}
use Rattle.std.specs.Prelude.{bytes_eq}
use Rattle.std.specs.List.{AllPairs, AllZip, filter, list_any}
use Rattle.std.proofs.lemmas.List.Quantifiers.{all_pairs_push}
use Rattle.std.proofs.lemmas.Option.{slice_get-get_or}
use Rattle.ld_base.specs.declared.metric.NameSpec.{NameSpec}
use Rattle.ld_json.specs.Node.{NodeView}
use Rattle.ld_script.specs.Along.{after}
use Rattle.ld_script.specs.Fields.{given}
use Rattle.ld_script.specs.Members.{Member, members_of}
use Rattle.ld_script.specs.Names.{NamesView, no_names, noted, with_name}
use Rattle.ld_script.specs.Refusal.{before_script, names_after, steps_of}
use Rattle.ld_script.specs.ScriptView.{ScriptView}
use Rattle.ld_script.specs.Scripts.{AreScriptsOf, IsScriptOf}
use Rattle.ld_script.specs.ScriptsView.{ScriptsView}
use Rattle.ld_script.specs.Step.{AreStepsOf, IsStep, IsStepOf, Known, Placed, is_plain, kind_of, known_after, sample_count, used, with_used}
use Rattle.ld_script.specs.Times.{IsSpan, IsTime, span_text}
use Rattle.ld_script.specs.declared.kind.Kind.{Kind}
use Rattle.ld_script.specs.declared.kind.Kind.TheVariants as kinds
use Rattle.ld_script.specs.declared.range.Range.{Range}
use Rattle.ld_script.specs.declared.step.Step.{Step}
use Rattle.ld_script.specs.declared.step.Step.TheVariants.{Sleep, Count}
use Rattle.ld_script.proofs.NamesLemmas.{known_there}
use Rattle.ld_script.proofs.NumberLemmas.{apart_number}
use Rattle.ld_script.proofs.OneRefusalLemmas.{one_answer}
use Rattle.ld_script.proofs.TimesLemmas.{one_span}

-- ---- names that are noted are apart

abbrev Apart : List (List ℕ) → Type 0
Apart texts = AllPairs (λ x y. x ≢ y) texts

none_apart : Apart []
none_apart i j d before within = absurd (omega arith)

noted_apart : (names : NamesView) (text : List ℕ) (spec : NameSpec) → Apart names.texts → Apart (noted names text spec).texts
noted_apart names text spec apart = by (list_any (λ known. bytes_eq known text) names.texts) refl
  where
    by : (b : Bool) → list_any (λ known. bytes_eq known text) names.texts ≡ b → Apart (if b then names else with_name names text spec).texts
    by true found = apart
    by false found =
        all_pairs_push (λ x y. x ≢ y) names.texts text apart
        (λ k d within same. true≢false (sym (known_there names.texts text k (slice_get-get_or names.texts k d within ∙ ap (λ t. Some t) same)) ∙ found))

used_apart : (names : NamesView) (use_of : Option (List ℕ)) → Apart names.texts → Apart (with_used names use_of).texts
used_apart names None apart = apart
used_apart names (Some text) apart = noted_apart names text _ apart

steps_apart : (known : Known) (nodes : List Placed) → Apart known.names.texts → Apart (after known_after known nodes).names.texts
steps_apart known [] apart = apart
steps_apart known (x ∷ xs) apart = steps_apart (known_after known x) xs (used_apart known.names (used (kind_of x.node) x.node) apart)

scripts_apart : (names : NamesView) (members : List Member) → Apart names.texts → Apart (after names_after names members).texts
scripts_apart names [] apart = apart
scripts_apart names (m ∷ ms) apart = scripts_apart (names_after names m) ms (steps_apart (before_script names) (steps_of m.1) apart)

-- ---- steps

pub one_time : (range : Range) (default : Option (List ℕ)) (node : NodeView) (name : List ℕ) (n m : ℕ) → IsTime range default node name n → IsTime range default node name m → n ≡ m
one_time range default node name n m left right =
    let same = one_answer (given span_text default node name) left.text right.text left.holds right.holds in
    one_span right.text n m (subst (λ t. IsSpan t n) same left.span) right.span

one_step : (texts : List (List ℕ)) (kind : Kind) (node : NodeView) (s t : Step) → Apart texts → IsStep kind texts node s → IsStep kind texts node t → s ≡ t
one_step texts kinds.Sleep node (Sleep n) (Sleep m) apart left right = ap Sleep (one_time _ _ node _ n m left right)
one_step texts kinds.Sleep node (Sleep n) (Count a b) apart left right = absurd right
one_step texts kinds.Sleep node (Count a b) t apart left right = absurd left
one_step texts kinds.Count node (Sleep n) t apart left right = absurd left
one_step texts kinds.Count node (Count a b) (Sleep m) apart left right = absurd right
one_step texts kinds.Count node (Count a b) (Count c d) apart left right =
    let same = one_answer _ left.name_is.text right.name_is.text left.name_is.holds right.name_is.holds in
    let name = apart_number texts apart right.name_is.text a c (left.name_is.found ∙ ap (λ text. Some text) same) right.name_is.found in
    ap₂ Count name (one_answer _ b d left.add_is right.add_is)
one_step texts kinds.Group node s t apart left right = absurd left

-- lists that are said item by item are the same
one_list : {A B : Type 0} → (R : A → B → Type 0) → ((x : A) (y z : B) → R x y → R x z → y ≡ z) → (xs : List A) (ys zs : List B) → AllZip R xs ys → AllZip R xs zs → ys ≡ zs
one_list R each [] [] [] left right = refl
one_list R each [] [] (z ∷ zs) left right = absurd right
one_list R each [] (y ∷ ys) zs left right = absurd left
one_list R each (x ∷ xs) [] zs left right = absurd left
one_list R each (x ∷ xs) (y ∷ ys) [] left right = absurd right
one_list R each (x ∷ xs) (y ∷ ys) (z ∷ zs) left right = ap₂ (λ v vs. v ∷ vs) (each x y z left.0 right.0) (one_list R each xs ys zs left.1 right.1)

one_steps : (texts : List (List ℕ)) (nodes : List Placed) (steps others : List Step) → Apart texts → AreStepsOf texts nodes steps → AreStepsOf texts nodes others → steps ≡ others
one_steps texts nodes steps others apart left right =
    one_list (IsStepOf texts) (λ x s t l r. one_step texts (kind_of x.node) x.node s t apart l r) (filter is_plain nodes) steps others left right

-- ---- scripts

one_script : (texts : List (List ℕ)) (member : Member) (s t : ScriptView) → Apart texts → IsScriptOf texts member s → IsScriptOf texts member t → s ≡ t
one_script texts member s t apart left right =
    let steps = one_steps texts (steps_of member.1) s.steps t.steps apart left.steps right.steps in
    let room = left.room ∙ ap sample_count steps ∙ sym right.room in
    λ i. record { steps = steps i; room = room i }

pub one_scripts : (node : NodeView) (a b : ScriptsView) → AreScriptsOf node a → AreScriptsOf node b → a ≡ b
one_scripts node a b left right =
    let names = left.names ∙ sym right.names in
    let used = left.used ∙ sym right.used in
    let texts = ap (λ (n : NamesView). n.texts) used in
    let apart = subst (λ (n : NamesView). Apart n.texts) (sym right.used) (scripts_apart no_names (members_of node) none_apart) in
    let scripts = one_list (IsScriptOf b.texts) (λ m s t l r. one_script b.texts m s t apart l r) (members_of node) a.scripts b.scripts
    (subst (λ ts. AllZip (IsScriptOf ts) (members_of node) a.scripts) texts left.scripts) right.scripts in
    λ i. record { names = names i; scripts = scripts i; texts = (used i).texts; specs = (used i).specs }
