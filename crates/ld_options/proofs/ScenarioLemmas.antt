-- Scenarios that are read one behind the other.
use Rattle.std.proofs.Common.{◌≡◌, ◌<◌, ◌≤◌, ◌+◌, ◌∙◌, ℕ, List, [], ◌∷◌, ◌++◌, All, length, take, get_or, arith, ap, sym, subst, inl, inr}
use Rattle.std.specs.List.{AllByRecursion, AllZip}
use Rattle.std.proofs.lemmas.List.{take_all, take_more}
use Rattle.std.proofs.lemmas.List.Elements.{All-push}
use Rattle.std.specs.Prelude.{◌⊎◌, IfOk, OnOk, Option, Some, Result, Ok, Err}
use Rattle.ld_json.specs.Document.{IsDocument}
use Rattle.ld_json.specs.Node.{NodeView}
use Rattle.ld_json.specs.Rules.{Accepts}
use Rattle.ld_json.proofs.RulesLemmas.{accepts_snoc}
use Rattle.ld_options.specs.Document.{AreOptions, AreOptionsOf, IsRefusal, OfScripts, RefusesDocument, root_of}
use Rattle.ld_options.specs.Ranges.{AreInRange, IsScenarioInRange}
use Rattle.ld_options.specs.Scenarios.{IsScenarioOf, RefusesScenario}
use Rattle.ld_options.specs.declared.fault.OptionsFault.{OptionsFault}
use Rattle.ld_options.specs.declared.fault.OptionsFault.TheVariants.{NotJson}
use Rattle.ld_options.specs.declared.options.Options.{Options}
use Rattle.ld_options.specs.declared.scenario.Scenario.{Scenario}
use Rattle.ld_script.specs.Refusal.{Member, RefusesScripts}
use Rattle.serde_json.specs.Data.{Data}

-- one more pair
pub zip_push : {A B : Type 0} (R : A → B → Type 0) (xs : List A) (ys : List B) (x : A) (y : B) → AllZip R xs ys → R x y → AllZip R (xs ++ x ∷ []) (ys ++ y ∷ [])
zip_push R [] [] x y all last = (last, tt)
zip_push R [] (z ∷ ys) x y all last = absurd all
zip_push R (w ∷ xs) [] x y all last = absurd all
zip_push R (w ∷ xs) (z ∷ ys) x y all last = (all.0, zip_push R xs ys x y all.1 last)

-- one more item
pub each_push : {A : Type 0} (P : A → Type 0) (xs : List A) (x : A) → AllByRecursion P xs → P x → AllByRecursion P (xs ++ x ∷ [])
each_push P [] x all last = (last, tt)
each_push P (y ∷ xs) x all last = (all.0, each_push P xs x all.1 last)

-- lists whose items stand in pairs are as long
pub zip_length : {A B : Type 0} (R : A → B → Type 0) (xs : List A) (ys : List B) → AllZip R xs ys → length ys ≡ length xs
zip_length R [] [] all = omega arith
zip_length R [] (z ∷ ys) all = absurd all
zip_length R (w ∷ xs) [] all = absurd all
zip_length R (w ∷ xs) (z ∷ ys) all = let rest = zip_length R xs ys all.1 in omega arith

-- what is known of the members that were read so far
pub record ReadSoFar (names : List (List ℕ)) (done : List Member) (list : List Scenario) : Type 0 where
  pub value : AllZip (IsScenarioOf names) done list
  pub within : AreInRange list
  pub known : All (λ (s : Scenario). s.script < length names) list
  pub accepted : AllByRecursion (λ member. Accepts (RefusesScenario names member)) done

-- one more member is read, which stands at this place
pub read_at : (names : List (List ℕ)) (members : List Member) (i : ℕ) (member : Member) (list : List Scenario) (s : Scenario) →
    i < length members → member ≡ get_or members i member → ReadSoFar names (take i members) list →
    IsScenarioOf names member s → IsScenarioInRange s → s.script < length names → Accepts (RefusesScenario names member) →
    ReadSoFar names (take (i + 1) members) (list ++ s ∷ [])
read_at names members i member list s inside is so_far value within known accepted =
    subst (λ ms. ReadSoFar names ms (list ++ s ∷ []))
    (sym (take_more members i member inside ∙ ap (λ m. take i members ++ m ∷ []) (sym is)))
    (record {
      value = zip_push (IsScenarioOf names) (take i members) list member s so_far.value value;
      within = each_push IsScenarioInRange list s so_far.within within;
      known = All-push (λ (t : Scenario). t.script < length names) list s so_far.known known;
      accepted = accepts_snoc (RefusesScenario names) (take i members) member so_far.accepted accepted;
    })

-- all members are read
pub all_read : (names : List (List ℕ)) (members : List Member) (i : ℕ) (list : List Scenario) → length members ≤ i →
    ReadSoFar names (take i members) list → ReadSoFar names members list
all_read names members i list past so_far = subst (λ ms. ReadSoFar names ms list) (take_all i members past) so_far

-- the same scripts and the same members
pub moved : (P : List (List ℕ) → NodeView → Type 0) (names others : List (List ℕ)) (node other : NodeView) → names ≡ others → node ≡ other →
    P names node → P others other
moved P names others node other same_names same_node p =
    subst (P others) same_node (subst (λ ns. P ns node) same_names p)

-- what isn't refused of the scripts isn't refused of the document
pub scripts_accept : (node : NodeView) → Accepts (RefusesScripts node) → Accepts (OfScripts (RefusesScripts node))
scripts_accept node accepts fault r = accepts r.0 r.1

-- what two options hold is the same
pub some_same : {A : Type 0} → (x y : A) → ◌≡◌ {A = Option A} (Some x) (Some y) → x ≡ y
some_same x y same = cc

-- bytes are one document
pub one_document : (bytes : List ℕ) (d e : Data) → IsDocument bytes d → IsDocument bytes e → d ≡ e
one_document bytes d e of_d of_e = some_same d e (sym of_d.read ∙ of_e.read)

-- bytes of a document that isn't refused aren't refused
document_accepts : (bytes : List ℕ) (d : Data) → IsDocument bytes d → Accepts (RefusesDocument (root_of d)) → (fault : OptionsFault) →
    (((e : Data) → IsDocument bytes e → ⊥) × (fault ≡ NotJson)) ⊎ ((e : Data) × IsDocument bytes e × RefusesDocument (root_of e) fault) → ⊥
document_accepts bytes d is accepts fault (inl r) = r.0 d is
document_accepts bytes d is accepts fault (inr r) =
    accepts fault (subst (λ e. RefusesDocument (root_of e) fault) (one_document bytes r.0 d r.1 is) r.2)

-- bytes that mean options aren't refused
pub apart : (bytes : List ℕ) (options : Options) (fault : OptionsFault) → AreOptions bytes options → IsRefusal bytes fault → ⊥
apart bytes options fault are refusal = document_accepts bytes are.held are.document are.accepted fault refusal.refused

-- what is read of a document of which nothing is refused are its options
pub read_options : (bytes : List ℕ) (d : Data) (result : Result Options OptionsFault) → IsDocument bytes d → IfOk result (AreOptionsOf (root_of d)) →
    IfOk result (λ options. AreInRange options.scenarios) → OnOk result (Accepts (RefusesDocument (root_of d))) → IfOk result (AreOptions bytes)
read_options bytes d (Ok options) is are within accepts =
    record { held = d; document = is; options_are = are; in_range = within; accepted = accepts }
read_options bytes d (Err fault) is are within accepts = tt

-- bytes of a document of which nothing is refused aren't refused
pub read_accepts : (bytes : List ℕ) (d : Data) → IsDocument bytes d → Accepts (RefusesDocument (root_of d)) → Accepts (IsRefusal bytes)
read_accepts bytes d is accepts fault refusal = document_accepts bytes d is accepts fault refusal.refused
