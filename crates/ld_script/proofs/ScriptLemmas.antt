-- Scripts that are read one behind the other.
use Rattle.std.proofs.Common.{◌≡◌, ◌<◌, ◌≤◌, ◌+◌, ◌∙◌, ℕ, List, [], ◌∷◌, ◌++◌, All, length, map, take, drop, get_or, ap, sym, subst, inl, refl}
use Rattle.std.specs.List.{AllZip}
use Rattle.std.proofs.lemmas.List.{drop_more, length-map, map-append, take-append-drop, take_all, take_more}
use Rattle.std.proofs.lemmas.List.Elements.{All-nil, All-push}
use Rattle.std.proofs.lemmas.Slice.Zip.{AllZip-long}
use Rattle.ld_json.specs.Rules.{Accepts}
use Rattle.ld_json.proofs.RulesLemmas.{then_accepts}
use Rattle.ld_script.specs.Along.{FirstAlong, after}
use Rattle.ld_script.specs.Members.{Member, name_of}
use Rattle.ld_script.specs.Name.{IsName}
use Rattle.ld_script.specs.Names.{NamesView, no_names}
use Rattle.ld_script.specs.Refusal.{RefusesScript, before_script, names_after, steps_of}
use Rattle.ld_script.specs.ScriptView.{ScriptView}
use Rattle.ld_script.specs.Scripts.{IsScriptOf}
use Rattle.ld_script.specs.ScriptsView.{AreOrdered, AreScripts, most_scripts}
use Rattle.ld_script.specs.declared.fault.ScriptFault.{ScriptFault}
use Rattle.ld_script.proofs.AlongLemmas.{after_both, along_behind, along_both}
use Rattle.ld_script.proofs.DraftLemmas.{Grow, after_grows, kept_steps, zip_both, zip_kept}

-- what is known of the members that were read so far, and of the names that their steps use
pub record ReadSoFar (done : List Member) (scripts : List ScriptView) (names : NamesView) : Type 0 where
  pub value : AllZip (IsScriptOf names.texts) done scripts
  pub named : All IsName (map name_of done)
  pub names_are : names ≡ after names_after no_names done
  pub accepted : Accepts (FirstAlong RefusesScript names_after no_names done)

script_grows : (names : NamesView) (member : Member) → Grow names.texts (names_after names member).texts
script_grows names member = after_grows (before_script names) (steps_of member.1)

-- one more member is read behind them
pub read_more : (done : List Member) (scripts : List ScriptView) (old new : NamesView) (member : Member) (script : ScriptView) → ReadSoFar done scripts old → IsScriptOf new.texts member script
    → new ≡ names_after old member → IsName member.0 → Accepts (RefusesScript old member) → ReadSoFar (done ++ member ∷ []) (scripts ++ script ∷ []) new
read_more done scripts old new member script so_far value names named accepted =
    let grow = subst (λ (n : NamesView). Grow old.texts n.texts) (sym names) (script_grows old member) in
    record {
      value =
          zip_both (IsScriptOf new.texts) done (member ∷ []) scripts (script ∷ [])
          (zip_kept (IsScriptOf old.texts) (IsScriptOf new.texts)
          (λ m s is. record { steps = kept_steps old.texts new.texts (steps_of m.1) s.steps grow is.steps; room = is.room }) done scripts so_far.value)
          (value, tt);
      named = rw (map-append name_of done (member ∷ [])) (All-push IsName (map name_of done) member.0 so_far.named named);
      names_are =
          names ∙ ap (λ n. names_after n member) so_far.names_are ∙ sym (after_both RefusesScript names_after no_names done (member ∷ []));
      accepted =
          along_both RefusesScript names_after no_names done (member ∷ []) so_far.accepted
          (then_accepts _ _ (subst (λ n. Accepts (RefusesScript n member)) so_far.names_are accepted) (λ fault refused. refused));
    }

pub read_at : (members : List Member) (i : ℕ) (member : Member) (scripts : List ScriptView) (old new : NamesView) (script : ScriptView) → i < length members → member ≡ get_or members i member
    → ReadSoFar (take i members) scripts old → IsScriptOf new.texts member script → new ≡ names_after old member → IsName member.0 → Accepts (RefusesScript old member)
    → ReadSoFar (take (i + 1) members) (scripts ++ script ∷ []) new
read_at members i member scripts old new script within is so_far value names named accepted =
    subst (λ ms. ReadSoFar ms (scripts ++ script ∷ []) new)
    (sym (take_more members i member within ∙ ap (λ m. take i members ++ m ∷ []) (sym is)))
    (read_more (take i members) scripts old new member script so_far value names named accepted)

-- the member at this place is the first that is refused
pub refused_at : (members : List Member) (i : ℕ) (member : Member) (scripts : List ScriptView) (old : NamesView) → i < length members → member ≡ get_or members i member
    → ReadSoFar (take i members) scripts old → (fault : ScriptFault) → RefusesScript old member fault → FirstAlong RefusesScript names_after no_names members fault
refused_at members i member scripts old within is so_far fault refused =
    subst (λ ms. FirstAlong RefusesScript names_after no_names ms fault)
    (ap (λ rest. take i members ++ rest) (ap (λ y. y ∷ drop (i + 1) members) is ∙ sym (drop_more members i member within)) ∙ take-append-drop i members)
    (along_behind RefusesScript names_after no_names (take i members) (member ∷ drop (i + 1) members) so_far.accepted fault
    (inl (subst (λ n. RefusesScript n member fault) so_far.names_are refused)))

-- all members are read
pub all_read : (members : List Member) (i : ℕ) (scripts : List ScriptView) (names : NamesView) → length members ≤ i → ReadSoFar (take i members) scripts names → ReadSoFar members scripts names
all_read members i scripts names past so_far = subst (λ ms. ReadSoFar ms scripts names) (take_all i members past) so_far

-- nothing is read
pub none_read : ReadSoFar [] [] no_names
none_read = record { value = tt; named = All-nil IsName; names_are = refl; accepted = λ fault refused. refused }

-- the scripts of an object, under their names
pub scripts_are : (members : List Member) (names texts : List (List ℕ)) (scripts : List ScriptView) → AreOrdered (map name_of members) → length members ≤ most_scripts → All IsName (map name_of members)
    → names ≡ map name_of members → AllZip (IsScriptOf texts) members scripts → AreScripts names scripts
scripts_are members names texts scripts ordered few named are value =
    let long = ap length are ∙ length-map members name_of in
    record {
      ordered = subst AreOrdered (sym are) ordered;
      named = subst (All IsName) (sym are) named;
      few = rw long few;
      paired = AllZip-long (IsScriptOf texts) members scripts value ∙ sym long;
    }
