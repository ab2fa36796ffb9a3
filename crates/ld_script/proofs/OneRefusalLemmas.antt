-- Scripts are refused in one way.
use Rattle.std.proofs.Common.{◌≡◌, ◌∙◌, ℕ, List, [], ◌∷◌, ap, sym, subst, inl, inr}
use Rattle.std.specs.Prelude.{◌⊎◌, Option, Result, Ok, Err, codes}
use Rattle.ld_json.specs.Node.{NodeView, listed, paired}
use Rattle.ld_json.specs.Pointer.{member_path}
use Rattle.ld_json.specs.Rules.{FirstOf, Then}
use Rattle.ld_script.specs.Along.{FirstAlong}
use Rattle.ld_script.specs.Fault.{Refused}
use Rattle.ld_script.specs.Fields.{given}
use Rattle.ld_script.specs.Members.{Member, members_of}
use Rattle.ld_script.specs.Names.{NamesView, no_names}
use Rattle.ld_script.specs.Refusal.{HasBadName, HasMoreMembers, IsOfOtherKind, MayNotCount, RefusesCounter, RefusesCounterName, RefusesForm, RefusesGroup, RefusesKind, RefusesScript, RefusesScripts, RefusesStep, RefusesSteps, RefusesTable, before_script, names_after, steps_of}
use Rattle.ld_script.specs.ScriptsView.{most_scripts}
use Rattle.ld_script.specs.Step.{Known, Placed, counter_in, counter_name, kind_of, known_after}
use Rattle.ld_script.specs.Times.{RefusesSpan, RefusesTime, span_text}
use Rattle.ld_script.specs.declared.fault.ScriptFault.{ScriptFault}
use Rattle.ld_script.specs.declared.fault.ScriptFault.TheVariants.{Number}
use Rattle.ld_script.specs.declared.kind.Kind.{Kind}
use Rattle.ld_script.specs.declared.kind.Kind.TheVariants as kinds
use Rattle.ld_script.specs.declared.range.Range.{Range}
use Rattle.ld_script.proofs.AnswerLemmas.{ok_isnt_err, ok_same}
use Rattle.ld_script.proofs.TimesLemmas.{one_cause, spans_read}

-- a rule refuses with one fault at most
abbrev pub IsSingle : {F : Type 0} → (F → Type 0) → Type 0
IsSingle {F} rule = (f g : F) → rule f → rule g → f ≡ g

pub then_single : {F : Type 0} → (first second : F → Type 0) → IsSingle first → IsSingle second → IsSingle (Then first second)
then_single first second one two f g (inl left) (inl right) = one f g left right
then_single first second one two f g (inl left) (inr right) = absurd (right.0 f left)
then_single first second one two f g (inr left) (inl right) = absurd (left.0 g right)
then_single first second one two f g (inr left) (inr right) = two f g left.1 right.1

pub first_single : {X F : Type 0} → (rule : X → F → Type 0) → ((x : X) → IsSingle (rule x)) → (xs : List X) → IsSingle (FirstOf rule xs)
first_single rule each [] f g left right = absurd left
first_single rule each (x ∷ xs) f g left right = then_single (rule x) (FirstOf rule xs) (each x) (first_single rule each xs) f g left right

pub along_single : {S X F : Type 0} → (rule : S → X → F → Type 0) (next : S → X → S) → ((s : S) (x : X) → IsSingle (rule s x)) → (s : S) (xs : List X) → IsSingle (FirstAlong rule next s xs)
along_single rule next each s [] f g left right = absurd left
along_single rule next each s (x ∷ xs) f g left right =
    then_single (rule s x) (FirstAlong rule next (next s x) xs) (each s x) (along_single rule next each (next s x) xs) f g left right

-- ---- answers, and spans of time

err_same : {A : Type 0} (f g : ScriptFault) → ◌≡◌ {A = Result A ScriptFault} (Err f) (Err g) → f ≡ g
err_same f g same = cc

refused_single : {A : Type 0} (answer : Result A ScriptFault) → IsSingle (Refused answer)
refused_single answer f g left right = err_same f g (sym left ∙ right)

-- what an answer holds is one
pub one_answer : {A : Type 0} (answer : Result A ScriptFault) (x y : A) → answer ≡ Ok x → answer ≡ Ok y → x ≡ y
one_answer answer x y left right = ok_same x y (sym left ∙ right)

given_single : {A : Type 0} (answer : Result A ScriptFault) (Refuses : A → ScriptFault → Type 0) → ((x : A) → IsSingle (Refuses x)) → (f g : ScriptFault) →
    Refused answer f ⊎ ((x : A) × (answer ≡ Ok x) × Refuses x f) → Refused answer g ⊎ ((x : A) × (answer ≡ Ok x) × Refuses x g) → f ≡ g
given_single answer Refuses each f g (inl left) (inl right) = refused_single answer f g left right
given_single answer Refuses each f g (inl left) (inr right) = absurd (ok_isnt_err right.0 f (sym right.1 ∙ left))
given_single answer Refuses each f g (inr left) (inl right) = absurd (ok_isnt_err left.0 g (sym left.1 ∙ right))
given_single answer Refuses each f g (inr left) (inr right) =
    each right.0 f g (subst (λ x. Refuses x f) (one_answer answer left.0 right.0 left.1 right.1) left.2) right.2

span_single : (range : Range) (path text : List ℕ) → IsSingle (RefusesSpan range path text)
span_single range path text f g (inl left) (inl right) = left.2 ∙ ap (λ c. Number path c) (one_cause text left.0 right.0 left.1 right.1) ∙ sym right.2
span_single range path text f g (inl left) (inr right) = absurd (spans_read text left.0 right.0 right.1 left.1)
span_single range path text f g (inr left) (inl right) = absurd (spans_read text right.0 left.0 left.1 right.1)
span_single range path text f g (inr left) (inr right) = left.3 ∙ sym right.3

pub time_single : (range : Range) (default : Option (List ℕ)) (node : NodeView) (name : List ℕ) → IsSingle (RefusesTime range default node name)
time_single range default node name f g left right =
    given_single (given span_text default node name) (λ t fault. RefusesSpan range (member_path node.path name) t fault) (λ t. span_single range (member_path node.path name) t) f g left.refused right.refused

-- ---- steps

name_single : (names : NamesView) (counter : NodeView) → IsSingle (RefusesCounterName names counter)
name_single names counter f g left right =
    given_single (counter_name counter) (λ text fault. MayNotCount names (member_path counter.path (codes "name")) text fault) (λ text f g left right. left.says ∙ sym right.says) f g
    left.refused right.refused

counter_single : (names : NamesView) (counter : NodeView) → IsSingle (RefusesCounter names counter)
counter_single names counter = then_single _ _ (refused_single _) (then_single _ _ (name_single names counter) (refused_single _))

group_single : (room : ℕ) (node : NodeView) → IsSingle (RefusesGroup room node)
group_single room node =
    then_single _ _ (λ f g left right. left.1 ∙ sym right.1)
    (then_single _ _ (refused_single _)
    (then_single _ _ (refused_single _)
    (then_single _ _ (refused_single _)
    (refused_single _))))

kind_single : (kind : Kind) (names : NamesView) (room : ℕ) (node : NodeView) → IsSingle (RefusesKind kind names room node)
kind_single kinds.Sleep names room node = time_single _ _ node _
kind_single kinds.Count names room node = then_single _ _ (refused_single _) (counter_single names (counter_in node))
kind_single kinds.Group names room node = group_single room node

form_single : (node : NodeView) → IsSingle (RefusesForm node)
form_single node = then_single _ _ (refused_single _) (λ f g left right. left.1 ∙ sym right.1)

step_single : (known : Known) (step : Placed) → IsSingle (RefusesStep known step)
step_single known step =
    then_single _ _ (λ f g left right. left.1 ∙ sym right.1)
    (then_single _ _ (form_single step.node) (kind_single (kind_of step.node) known.names step.room step.node))

-- ---- scripts

steps_single : (names : NamesView) (node : NodeView) → IsSingle (RefusesSteps names node)
steps_single names node =
    then_single (IsOfOtherKind listed node) _ (λ f g left right. left.1 ∙ sym right.1) (along_single RefusesStep known_after step_single (before_script names) (steps_of node))

script_single : (names : NamesView) (member : Member) → IsSingle (RefusesScript names member)
script_single names member = then_single (HasBadName member) _ (λ f g left right. left.1 ∙ sym right.1) (steps_single names member.1)

table_single : (node : NodeView) → IsSingle (RefusesTable node)
table_single node =
    then_single (IsOfOtherKind paired node) (HasMoreMembers most_scripts node) (λ f g left right. left.1 ∙ sym right.1) (λ f g left right. left.1 ∙ sym right.1)

pub scripts_single : (node : NodeView) → IsSingle (RefusesScripts node)
scripts_single node =
    then_single (RefusesTable node) _ (table_single node) (along_single RefusesScript names_after script_single no_names (members_of node))
