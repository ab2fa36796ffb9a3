-- Rules that refuse alike, and rules over numbers.
use Rattle.std.proofs.Common.{◌≡◌, ◌↔◌, inl, inr, ℕ, List, Bool, true, false, Ok, Err, ◌∙◌, ap, sym, refl}
use Rattle.std.specs.Prelude.{Result, ◌&&◌, if◌then◌else◌, nat_le}
use Rattle.std.proofs.lemmas.Bool.{and_from, and_parts, le-leb, leb-true}
use Rattle.ld_json.specs.Rules.{Accepts, Then}
use Rattle.ld_options.specs.Faults.{Refused, of_field, of_script}
use Rattle.ld_options.specs.Fields.{ranged}
use Rattle.ld_options.specs.Ranges.{IsWithin}
use Rattle.ld_options.specs.declared.fault.OptionsFault.{OptionsFault}
use Rattle.ld_options.specs.declared.fault.OptionsFault.TheVariants as faults
use Rattle.ld_script.specs.declared.fault.ScriptFault.{ScriptFault}
use Rattle.ld_script.specs.declared.fault.ScriptFault.TheVariants as script
use Rattle.ld_script.specs.declared.range.Range.{Range}

abbrev pub Rule : Type 1
Rule = OptionsFault → Type 0

pub both : {A B C : Type 0} → A ↔ B → B ↔ C → A ↔ C
both p q = ((λ a. q.0 (p.0 a)), (λ c. p.1 (q.1 c)))

-- ---- one rule behind another

behind : (A B : Rule) (f : OptionsFault) → Accepts A → Then A B f → B f
behind A B f none (inl a) = absurd (none f a)
behind A B f none (inr b) = b.1

-- a rule that refuses nothing is passed
pub passed : (A B : Rule) (f : OptionsFault) → Accepts A → Then A B f ↔ B f
passed A B f none = (behind A B f none, (λ b. inr (none, b)))

before : (A B : Rule) (f : OptionsFault) → Accepts B → Then A B f → A f
before A B f none (inl a) = a
before A B f none (inr b) = absurd (none f b.1)

-- so is the last one
pub last : (A B : Rule) (f : OptionsFault) → Accepts B → Then A B f ↔ A f
last A B f none = (before A B f none, (λ a. inl a))

follows : (A B C D : Rule) (f : OptionsFault) → ((g : OptionsFault) → A g ↔ C g) → (Accepts C → B f → D f) → Then A B f → Then C D f
follows A B C D f first second (inl a) = inl ((first f).0 a)
follows A B C D f first second (inr (none, b)) =
    let none_there : Accepts C = λ g c. none g ((first g).1 c) in
    inr (none_there, second none_there b)

-- rules whose parts refuse alike refuse alike
pub alike : (A C B D : Rule) (f : OptionsFault) → ((g : OptionsFault) → A g ↔ C g) → (Accepts C → B f ↔ D f) → Then A B f ↔ Then C D f
alike A C B D f first second = (
  follows A B C D f first (λ none b. (second none).0 b),
  follows C D A B f (λ g. ((first g).1, (first g).0)) (λ none d. (second (λ g c. none g ((first g).1 c))).1 d),
)

-- ---- numbers

-- an answer that is there is refused by nothing
pub not_refused : {A : Type 0} (answer : Result A OptionsFault) (x : A) → answer ≡ Ok x → Accepts (Refused answer)
not_refused {A = A} answer x is fault refused = let e : ◌≡◌ {A = Result A OptionsFault} (Ok x) (Err fault) = sym is ∙ refused in cc

tested : (b : Bool) (P : Type 0) (n : ℕ) (m : ScriptFault) (fault : OptionsFault) → (b ≡ true → P) → (P → b ≡ true)
    → Refused (of_field (if b then Ok n else Err m)) fault ↔ ((P → ⊥) × (fault ≡ of_script m))
tested true P n m fault gives takes = ((λ is. absurd (cc)), (λ p. absurd (p.0 (gives refl))))
tested false P n m fault gives takes = ((λ is. ((λ p. let e = takes p in cc), (cc))), (λ p. ap Err (sym p.1)))

-- a number is refused where it is out of its range
pub ranged_refused : (range : Range) (path : List ℕ) (n : ℕ) (fault : OptionsFault)
    → Refused (ranged range path n) fault ↔ ((IsWithin range.least range.most n → ⊥) × (fault ≡ faults.Range path))
ranged_refused range path n fault =
    tested (nat_le range.least n && nat_le n range.most) (IsWithin range.least range.most n) n (script.Range path) fault
    (λ e. let p = and_parts (nat_le range.least n) (nat_le n range.most) e in record { at_least = leb-true _ _ p.0; at_most = leb-true _ _ p.1 })
    (λ within. and_from _ _ (le-leb _ _ within.at_least) (le-leb _ _ within.at_most))

in_range : (b : Bool) (P : Type 0) (n : ℕ) (m : ScriptFault) → (P → b ≡ true) → Accepts (λ (f : OptionsFault). (P → ⊥) × (f ≡ of_script m))
    → ◌≡◌ {A = Result ℕ OptionsFault} (of_field (if b then Ok n else Err m)) (Ok n)
in_range true P n m takes accepted = refl
in_range false P n m takes accepted = absurd (accepted (of_script m) ((λ p. let e = takes p in cc), refl))

-- and else it is the answer
pub ranged_accepted : (range : Range) (path : List ℕ) (n : ℕ) → Accepts (λ (f : OptionsFault). (IsWithin range.least range.most n → ⊥) × (f ≡ faults.Range path)) → ranged range path n ≡ Ok n
ranged_accepted range path n accepted =
    in_range (nat_le range.least n && nat_le n range.most) (IsWithin range.least range.most n) n (script.Range path)
    (λ within. and_from _ _ (le-leb _ _ within.at_least) (le-leb _ _ within.at_most)) accepted

-- a test before an answer is a rule before it
pub test_first : (b : Bool) (P : Type 0) (m : OptionsFault) (r : Result ℕ OptionsFault) (fault : OptionsFault) → (b ≡ true → P) → (P → b ≡ true)
    → Refused (if b then Err m else r) fault ↔ Then (λ f. P × (f ≡ m)) (Refused r) fault
test_first true P m r fault gives takes = ((λ is. inl (gives refl, (cc))), first)
  where
    first : Then (λ f. P × (f ≡ m)) (Refused r) fault → Refused {A = ℕ} (Err m) fault
    first (inl p) = ap Err (sym p.1)
    first (inr q) = absurd (q.0 m (gives refl, refl))
test_first false P m r fault gives takes = ((λ is. inr ((λ g p. let e = takes p.0 in cc), is)), second)
  where
    second : Then (λ f. P × (f ≡ m)) (Refused r) fault → Refused r fault
    second (inl p) = let e = takes p.0 in absurd (cc)
    second (inr q) = q.1
