-- Drafts behind which nodes were read.
use Rattle.std.proofs.Common.{◌≡◌, ◌<◌, ◌≤◌, ◌+◌, ◌∙◌, ℕ, zero, suc, Bool, true, false, List, [], ◌∷◌, ◌++◌, Option, Some, None, length, take, drop, get_or, slice_get, if◌then◌else◌, ap, sym, subst, inl, inr, refl}
use Rattle.std.specs.Prelude.{bytes_eq, flat_map}
use Rattle.std.specs.List.{AllZip, filter, list_any}
use Rattle.std.proofs.lemmas.List.{append_assoc, append-nil, take-append-drop, take_all, take_more}
use Rattle.std.proofs.lemmas.List.Elements.{filter-append}
use Rattle.std.proofs.lemmas.Option.{none-some}
use Rattle.std.proofs.lemmas.Grind.{flat_map-append}
use Rattle.ld_base.specs.declared.metric.NameSpec.{NameSpec}
use Rattle.ld_json.specs.Node.{NodeView}
use Rattle.ld_json.specs.Rules.{Accepts, Then}
use Rattle.ld_json.proofs.RulesLemmas.{then_accepts}
use Rattle.ld_script.specs.Along.{FirstAlong, after}
use Rattle.ld_script.specs.Draft.{DraftView, HasRead, HasReadOne}
use Rattle.ld_script.specs.Names.{NamesView, with_name}
use Rattle.ld_script.specs.Refusal.{IsBehind, RefusesForm, RefusesGroup, RefusesKind, RefusesStep}
use Rattle.ld_script.specs.Step.{AreStepsOf, IsStep, IsStepOf, Known, Placed, is_plain, is_plain_kind, kind_of, known_after, laid, laid_in, all_laid, steps_in, used, with_used}
use Rattle.ld_script.specs.declared.fault.ScriptFault.{ScriptFault}
use Rattle.ld_script.specs.declared.kind.Kind.{Kind}
use Rattle.ld_script.specs.declared.kind.Kind.TheVariants as kinds
use Rattle.ld_script.specs.declared.step.Step.{Step}
use Rattle.ld_script.specs.declared.step.Step.TheVariants.{Sleep, Count}
use Rattle.ld_script.proofs.AlongLemmas.{after_both, along_behind, along_both, along_front}

-- ---- names only grow

-- texts with more behind them
abbrev pub Grow : List (List ℕ) → List (List ℕ) → Type 0
Grow old new = (more : List (List ℕ)) × (new ≡ old ++ more)

pub grow_none : (texts : List (List ℕ)) → Grow texts texts
grow_none texts = ([], sym (append-nil texts))

pub grow_more : (old mid new : List (List ℕ)) → Grow old mid → Grow mid new → Grow old new
grow_more old mid new left right = (left.0 ++ right.0, right.1 ∙ ap (λ t. t ++ right.0) left.1 ∙ append_assoc old left.0 right.0)

noted_grows : (names : NamesView) (text : List ℕ) (spec : NameSpec) (b : Bool) → Grow names.texts (if b then names else with_name names text spec).texts
noted_grows names text spec true = grow_none names.texts
noted_grows names text spec false = (text ∷ [], refl)

used_grows : (names : NamesView) (use_of : Option (List ℕ)) → Grow names.texts (with_used names use_of).texts
used_grows names None = grow_none names.texts
used_grows names (Some text) = noted_grows names text _ (list_any (λ known. bytes_eq known text) names.texts)

pub after_grows : (known : Known) (nodes : List Placed) → Grow known.names.texts (after known_after known nodes).names.texts
after_grows known [] = grow_none known.names.texts
after_grows known (x ∷ xs) =
    grow_more known.names.texts (known_after known x).names.texts (after known_after known (x ∷ xs)).names.texts
    (used_grows known.names (used (kind_of x.node) x.node))
    (after_grows (known_after known x) xs)

-- a name keeps its number
stands_still : (old more : List (List ℕ)) (k : ℕ) (text : List ℕ) → slice_get old k ≡ Some text → slice_get (old ++ more) k ≡ Some text
stands_still [] more k text is = absurd (none-some text is)
stands_still (x ∷ xs) more zero text is = is
stands_still (x ∷ xs) more (suc k) text is = stands_still xs more k text is

kept_name : (old new : List (List ℕ)) (k : ℕ) (text : List ℕ) → Grow old new → slice_get old k ≡ Some text → slice_get new k ≡ Some text
kept_name old new k text grow is = subst (λ texts. slice_get texts k ≡ Some text) (sym grow.1) (stands_still old grow.0 k text is)

-- and so a step stays the same
kept_step : (kind : Kind) (old new : List (List ℕ)) (node : NodeView) (step : Step) → Grow old new → IsStep kind old node step → IsStep kind new node step
kept_step kinds.Sleep old new node (Sleep n) grow is = is
kept_step kinds.Sleep old new node (Count name add) grow is = absurd is
kept_step kinds.Count old new node (Sleep n) grow is = absurd is
kept_step kinds.Count old new node (Count name add) grow is = record {
  name_is = record { text = is.name_is.text; holds = is.name_is.holds; found = kept_name old new name is.name_is.text grow is.name_is.found };
  add_is = is.add_is;
}
kept_step kinds.Group old new node step grow is = absurd is

pub zip_kept : {A B : Type 0} → (P Q : A → B → Type 0) → ((x : A) (y : B) → P x y → Q x y) → (xs : List A) (ys : List B) → AllZip P xs ys → AllZip Q xs ys
zip_kept P Q each [] [] zip = zip
zip_kept P Q each [] (y ∷ ys) zip = absurd zip
zip_kept P Q each (x ∷ xs) [] zip = absurd zip
zip_kept P Q each (x ∷ xs) (y ∷ ys) zip = (each x y zip.0, zip_kept P Q each xs ys zip.1)

pub zip_both : {A B : Type 0} → (P : A → B → Type 0) → (xs vs : List A) (ys ws : List B) → AllZip P xs ys → AllZip P vs ws → AllZip P (xs ++ vs) (ys ++ ws)
zip_both P [] vs [] ws left right = right
zip_both P [] vs (y ∷ ys) ws left right = absurd left
zip_both P (x ∷ xs) vs [] ws left right = absurd left
zip_both P (x ∷ xs) vs (y ∷ ys) ws left right = (left.0, zip_both P xs vs ys ws left.1 right)

pub kept_steps : (old new : List (List ℕ)) (nodes : List Placed) (steps : List Step) → Grow old new → AreStepsOf old nodes steps → AreStepsOf new nodes steps
kept_steps old new nodes steps grow are =
    zip_kept (IsStepOf old) (IsStepOf new) (λ placed step is. kept_step (kind_of placed.node) old new placed.node step grow is) (filter is_plain nodes) steps are

-- ---- what was read, and what behind it

-- nothing was read
pub read_none : (draft : DraftView) → HasRead draft draft []
read_none draft = record {
  accepted = λ fault refused. refused;
  known = refl;
  more = [];
  steps = sym (append-nil draft.steps);
  said = tt;
}

pub read_both : (old mid new : DraftView) (xs ys : List Placed) → HasRead old mid xs → HasRead mid new ys → HasRead old new (xs ++ ys)
read_both old mid new xs ys left right =
    let grow = subst (λ (known : Known). Grow mid.known.names.texts known.names.texts) (sym right.known) (after_grows mid.known ys) in
    record {
      accepted =
          along_both RefusesStep known_after old.known xs ys left.accepted
          (subst (λ known. Accepts (FirstAlong RefusesStep known_after known ys)) left.known right.accepted);
      known =
          right.known
          ∙ ap (λ known. after known_after known ys) left.known
          ∙ sym (after_both RefusesStep known_after old.known xs ys);
      more = left.more ++ right.more;
      steps = right.steps ∙ ap (λ steps. steps ++ right.more) left.steps ∙ append_assoc old.steps left.more right.more;
      said =
          subst (λ nodes. AllZip (IsStepOf new.known.names.texts) nodes (left.more ++ right.more)) (sym (filter-append is_plain xs ys))
          (zip_both (IsStepOf new.known.names.texts) (filter is_plain xs) (filter is_plain ys) left.more right.more
          (kept_steps mid.known.names.texts new.known.names.texts xs left.more grow left.said) right.said);
    }

-- what is refused behind what was read
pub refused_behind : (old mid : DraftView) (xs ys : List Placed) → HasRead old mid xs → (fault : ScriptFault) → FirstAlong RefusesStep known_after mid.known ys fault
    → FirstAlong RefusesStep known_after old.known (xs ++ ys) fault
refused_behind old mid xs ys left fault refused =
    along_behind RefusesStep known_after old.known xs ys left.accepted fault (subst (λ known. FirstAlong RefusesStep known_after known ys fault) left.known refused)

-- ---- the nodes of a list

flat_snoc : {X A : Type 0} → (f : X → List A) (xs : List X) (x : X) → flat_map f (xs ++ x ∷ []) ≡ flat_map f xs ++ f x
flat_snoc f xs x = flat_map-append f xs (x ∷ []) ∙ ap (λ l. flat_map f xs ++ l) (append-nil (f x))

at_place : {X A : Type 0} → (f : X → List A) (xs : List X) (i : ℕ) (x : X) → i < length xs → x ≡ get_or xs i x → flat_map f (take (i + 1) xs) ≡ flat_map f (take i xs) ++ f x
at_place f xs i x within is =
    ap (flat_map f) (take_more xs i x within ∙ ap (λ y. take i xs ++ y ∷ []) (sym is)) ∙ flat_snoc f (take i xs) x

parted : {X A : Type 0} → (f : X → List A) (xs : List X) (i : ℕ) (x : X) → i < length xs → x ≡ get_or xs i x → flat_map f xs ≡ flat_map f (take i xs) ++ f x ++ flat_map f (drop (i + 1) xs)
parted f xs i x within is =
    ap (flat_map f) (sym (take-append-drop (i + 1) xs)) ∙ flat_map-append f (take (i + 1) xs) (drop (i + 1) xs)
    ∙ ap (λ l. l ++ flat_map f (drop (i + 1) xs)) (at_place f xs i x within is)

pub read_at : (room : ℕ) (nodes : List NodeView) (i : ℕ) (node : NodeView) (old mid new : DraftView) → i < length nodes → node ≡ get_or nodes i node
    → HasRead old mid (all_laid room (take i nodes)) → HasRead mid new (laid room node) → HasRead old new (all_laid room (take (i + 1) nodes))
read_at room nodes i node old mid new within is before one =
    subst (HasRead old new) (sym (at_place (laid room) nodes i node within is)) (read_both old mid new (all_laid room (take i nodes)) (laid room node) before one)

pub read_all : (room : ℕ) (nodes : List NodeView) (i : ℕ) (old new : DraftView) → length nodes ≤ i → HasRead old new (all_laid room (take i nodes)) → HasRead old new (all_laid room nodes)
read_all room nodes i old new past read = subst (λ ns. HasRead old new (all_laid room ns)) (take_all i nodes past) read

pub refused_at : (room : ℕ) (nodes : List NodeView) (i : ℕ) (node : NodeView) (old mid : DraftView) → i < length nodes → node ≡ get_or nodes i node
    → HasRead old mid (all_laid room (take i nodes)) → (fault : ScriptFault) → FirstAlong RefusesStep known_after mid.known (laid room node) fault
    → FirstAlong RefusesStep known_after old.known (all_laid room nodes) fault
refused_at room nodes i node old mid within is before fault refused =
    subst (λ ns. FirstAlong RefusesStep known_after old.known ns fault) (sym (parted (laid room) nodes i node within is))
    (along_front RefusesStep known_after old.known (all_laid room (take i nodes) ++ laid room node) (all_laid room (drop (i + 1) nodes)) fault
    (refused_behind old mid (all_laid room (take i nodes)) (laid room node) before fault refused))

-- ---- one step

abbrev here : ℕ → NodeView → Placed
here room node = record { room = room; node = node }

laid_is : (room : ℕ) (node : NodeView) → laid room node ≡ here room node ∷ laid_in room node
laid_is zero node = refl
laid_is (suc room) node = refl

none_in : (room : ℕ) (node : NodeView) → steps_in (kind_of node) node ≡ [] → laid_in room node ≡ []
none_in zero node none = refl
none_in (suc room) node none = ap (flat_map (laid room)) none

-- a draft in which one step more is counted
abbrev pub IsCounting : DraftView → DraftView → Type 0
IsCounting old mid = mid ≡ record { steps = old.steps; known = record { count = old.known.count + 1; names = old.known.names } }

-- the rule of a step looks at the names alone, where what it says is looked at
step_accepts : (room : ℕ) (node : NodeView) (old : DraftView) → Accepts (IsBehind old.known.count node) → Accepts (RefusesForm node) → Accepts (RefusesKind (kind_of node) old.known.names room node)
    → Accepts (RefusesStep old.known (here room node))
step_accepts room node old one two three = then_accepts _ _ one (then_accepts _ _ two three)

pub step_refused : (room : ℕ) (node : NodeView) (old : DraftView) → Accepts (IsBehind old.known.count node) → Accepts (RefusesForm node) → (fault : ScriptFault)
    → RefusesKind (kind_of node) old.known.names room node fault → FirstAlong RefusesStep known_after old.known (laid room node) fault
step_refused room node old one two fault refused =
    subst (λ nodes. FirstAlong RefusesStep known_after old.known nodes fault) (sym (laid_is room node)) (inl (inr (one, inr (two, refused))))

-- a step that isn't refused for what it says, but before
pub form_refused : (room : ℕ) (node : NodeView) (old : DraftView) → Accepts (IsBehind old.known.count node) → (fault : ScriptFault) → RefusesForm node fault
    → FirstAlong RefusesStep known_after old.known (laid room node) fault
form_refused room node old one fault refused =
    subst (λ nodes. FirstAlong RefusesStep known_after old.known nodes fault) (sym (laid_is room node)) (inl (inr (one, inl refused)))

pub behind_refused : (room : ℕ) (node : NodeView) (old : DraftView) → (fault : ScriptFault) → IsBehind old.known.count node fault
    → FirstAlong RefusesStep known_after old.known (laid room node) fault
behind_refused room node old fault refused =
    subst (λ nodes. FirstAlong RefusesStep known_after old.known nodes fault) (sym (laid_is room node)) (inl (inl refused))

-- a plain step has no room for groups to look at
any_room : (kind : Kind) (names : NamesView) (room : ℕ) (node : NodeView) (step : Step) (texts : List (List ℕ)) → IsStep kind texts node step → RefusesKind kind names room node ≡ RefusesKind kind names 0 node
any_room kinds.Sleep names room node step texts is = refl
any_room kinds.Count names room node step texts is = refl
any_room kinds.Group names room node step texts is = absurd is

plain_step : (kind : Kind) (node : NodeView) (step : Step) (texts : List (List ℕ)) → IsStep kind texts node step → (is_plain_kind kind ≡ true) × (steps_in kind node ≡ [])
plain_step kinds.Sleep node step texts is = (refl, refl)
plain_step kinds.Count node step texts is = (refl, refl)
plain_step kinds.Group node step texts is = absurd is

known_same : (one two : Known) → one.count ≡ two.count → one.names ≡ two.names → one ≡ two
known_same one two count names = λ i. record { count = count i; names = names i }

-- a step that is no group is read
pub one_read : (room : ℕ) (node : NodeView) (old mid new : DraftView) → IsCounting old mid → Accepts (IsBehind old.known.count node) → Accepts (RefusesForm node) → HasReadOne (kind_of node) mid new node
    → HasRead old new (laid room node)
one_read room node old mid new counting one two read =
    let plain = plain_step (kind_of node) node read.step new.known.names.texts read.said in
    let names = ap (λ (d : DraftView). d.known.names) counting in
    let three = subst (λ rule. Accepts rule) (sym (any_room (kind_of node) old.known.names room node read.step new.known.names.texts read.said))
    (subst (λ ns. Accepts (RefusesKind (kind_of node) ns 0 node)) names read.accepted) in
    subst (HasRead old new) (sym (laid_is room node ∙ ap (λ nodes. here room node ∷ nodes) (none_in room node plain.1)))
    (record {
      accepted = then_accepts _ _ (step_accepts room node old one two three) (λ fault refused. refused);
      known =
          known_same new.known (known_after old.known (here room node))
          (read.count ∙ ap (λ (d : DraftView). d.known.count) counting)
          (read.names ∙ ap (λ ns. with_used ns (used (kind_of node) node)) names);
      more = read.step ∷ [];
      steps = read.steps ∙ ap (λ (d : DraftView). d.steps ++ read.step ∷ []) counting;
      said =
          subst (λ nodes. AllZip (IsStepOf new.known.names.texts) nodes (read.step ∷ [])) (sym (ap (λ b. if b then here room node ∷ [] else []) plain.0))
          (read.said, tt);
    })

-- a group is read, and the steps in it
pub group_read : (room : ℕ) (node : NodeView) (old mid new : DraftView) → IsCounting old mid → Accepts (IsBehind old.known.count node) → Accepts (RefusesForm node) → kind_of node ≡ kinds.Group
    → Accepts (RefusesGroup room node) → HasRead mid new (laid_in room node) → HasRead old new (laid room node)
group_read room node old mid new counting one two kind three read =
    let first : HasRead old mid (here room node ∷ []) = record {
      accepted = then_accepts _ _ (step_accepts room node old one two (subst (λ k. Accepts (RefusesKind k old.known.names room node)) (sym kind) three)) (λ fault refused. refused);
      known =
          ap (λ (d : DraftView). d.known) counting
          ∙ ap (λ k. record { count = old.known.count + 1; names = with_used old.known.names (used k node) }) (sym kind);
      more = [];
      steps = ap (λ (d : DraftView). d.steps) counting ∙ sym (append-nil old.steps);
      said =
          subst (λ nodes. AllZip (IsStepOf mid.known.names.texts) nodes []) (sym (ap (λ k. if is_plain_kind k then here room node ∷ [] else []) kind)) tt;
    } in
    subst (HasRead old new) (sym (laid_is room node)) (read_both old mid new (here room node ∷ []) (laid_in room node) first read)

-- a group is refused, or else the first of the steps in it that is refused
pub group_refused : (room : ℕ) (node : NodeView) (old mid : DraftView) → IsCounting old mid → Accepts (IsBehind old.known.count node) → Accepts (RefusesForm node) → kind_of node ≡ kinds.Group
    → (fault : ScriptFault) → Then (RefusesGroup room node) (FirstAlong RefusesStep known_after mid.known (laid_in room node)) fault → FirstAlong RefusesStep known_after old.known (laid room node) fault
group_refused room node old mid counting one two kind fault (inl refused) =
    step_refused room node old one two fault (subst (λ k. RefusesKind k old.known.names room node fault) (sym kind) refused)
group_refused room node old mid counting one two kind fault (inr refused) =
    let known = ap (λ (d : DraftView). d.known) counting
    ∙ ap (λ k. record { count = old.known.count + 1; names = with_used old.known.names (used k node) }) (sym kind) in
    subst (λ nodes. FirstAlong RefusesStep known_after old.known nodes fault) (sym (laid_is room node))
    (inr (
      step_accepts room node old one two (subst (λ k. Accepts (RefusesKind k old.known.names room node)) (sym kind) refused.0),
      subst (λ k. FirstAlong RefusesStep known_after k (laid_in room node) fault) known refused.1,
    ))
