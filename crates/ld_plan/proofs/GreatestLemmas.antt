-- What scenarios need of users is greatest at the run's start or where one of them begins.
use Rattle.std.proofs.Common.{◌≡◌, ◌<◌, ◌≤◌, ◌+◌, ◌∙◌, ℕ, Bool, true, false, List, [], ◌∷◌, ◌++◌, cond, length, max, take, get_or, arith, ap, ap₂, refl, sym, subst}
use Rattle.std.specs.Prelude.{◌&&◌, nat_le, nat_lt, sum_by}
use Rattle.std.specs.List.{AllByRecursion}
use Rattle.std.proofs.Math.Decide.{dec_lt}
use Rattle.std.proofs.lemmas.Bool.{le-leb, leb-true, lt-ltb, ltb-true}
use Rattle.std.proofs.lemmas.List.{take_all, take_more}
use Rattle.std.proofs.lemmas.List.Sums.{sum_by-cons}
use Rattle.ld_machine.specs.Moment.{moment_after}
use Rattle.ld_machine.specs.Requirement.{IsGreatest}
use Rattle.ld_options.specs.declared.scenario.Scenario.{Scenario}
use Rattle.ld_options.proofs.ScenarioLemmas.{each_push}
use Rattle.ld_plan.specs.Executor.{length_of}
use Rattle.ld_plan.specs.Need.{is_on}

-- ---- the last begin

-- the last moment up to t at which a scenario begins, or else the run's start: what is at most n at each of these is
-- at most n there
record IsLast (t : ℕ) (scenarios : List Scenario) : Type 0 where
  moment : ℕ
  within : moment ≤ t
  last : AllByRecursion (λ (s : Scenario). s.begin ≤ t → s.begin ≤ moment) scenarios
  found : (f : ℕ → ℕ) (n : ℕ) → f 0 ≤ n → AllByRecursion (λ (s : Scenario). f s.begin ≤ n) scenarios → f moment ≤ n

-- what stands before one moment stands before a later one
before_later : (t m n : ℕ) (scenarios : List Scenario) → m ≤ n → AllByRecursion (λ (s : Scenario). s.begin ≤ t → s.begin ≤ m) scenarios →
    AllByRecursion (λ (s : Scenario). s.begin ≤ t → s.begin ≤ n) scenarios
before_later t m n [] later all = tt
before_later t m n (s ∷ rest) later all =
    (λ begun. let before = all.0 begun in omega arith, before_later t m n rest later all.1)

last_begin : (t : ℕ) (scenarios : List Scenario) → IsLast t scenarios
last_begin t [] = record { moment = 0; within = omega arith; last = tt; found = λ f n first begins. first }
last_begin t (s ∷ rest) =
    let before = last_begin t rest in
    let within = before.within in
    elim (dec_lt t s.begin) [
      | yes ahead ↦ record {
        moment = before.moment;
        within = within;
        last = (λ begun. absurd (omega arith), before.last);
        found = λ f n first begins. before.found f n first begins.1;
      }
      | no begun ↦ elim (dec_lt before.moment s.begin) [
        | yes later ↦ record {
          moment = s.begin;
          within = omega arith;
          last = (λ at. omega arith, before_later t before.moment s.begin rest (omega arith) before.last);
          found = λ f n first begins. begins.0;
        }
        | no earlier ↦ record {
          moment = before.moment;
          within = within;
          last = (λ at. omega arith, before.last);
          found = λ f n first begins. before.found f n first begins.1;
        }
      ]
    ]

-- ---- no more is needed than there

-- what is on at t is on at an earlier moment that isn't before its begin
on_earlier : (begin hard t m n : ℕ) → m ≤ t → (begin ≤ t → begin ≤ m) →
    cond (nat_le begin t && nat_lt t hard) n 0 ≤ cond (nat_le begin m && nat_lt m hard) n 0
on_earlier begin hard t m n within last =
    let P : Bool → Type 0 = λ b. nat_le begin t ≡ b → cond (b && nat_lt t hard) n 0 ≤ cond (nat_le begin m && nat_lt m hard) n 0 in
    let Q : Bool → Type 0 = λ b. nat_lt t hard ≡ b → begin ≤ m → cond b n 0 ≤ cond (nat_le begin m && nat_lt m hard) n 0 in
    let during : Q (nat_lt t hard) = elim (nat_lt t hard) as Q [
      | true ↦ λ on begun.
          let inside : t < hard = ltb-true t hard on in
          let here : (nat_le begin m && nat_lt m hard) ≡ true =
          ap₂ (λ a b. a && b) (le-leb begin m begun) (lt-ltb m hard (omega arith)) in
          rw here (omega arith)
      | false ↦ λ off begun. omega arith
    ] in
    let x : P (nat_le begin t) = elim (nat_le begin t) as P [
      | true ↦ λ begun. during refl (last (leb-true begin t begun))
      | false ↦ λ ahead. omega arith
    ] in
    x refl

-- the users that are on at a moment, of which each scenario has so many
abbrev pub users_at : (Scenario → ℕ) → List Scenario → ℕ → ℕ
users_at amount scenarios t = sum_by (λ (s : Scenario). cond (is_on t s) (amount s) 0) scenarios

users_earlier : (amount : Scenario → ℕ) (scenarios : List Scenario) (t m : ℕ) → m ≤ t →
    AllByRecursion (λ (s : Scenario). s.begin ≤ t → s.begin ≤ m) scenarios → users_at amount scenarios t ≤ users_at amount scenarios m
users_earlier amount [] t m within last = omega arith
users_earlier amount (s ∷ rest) t m within last =
    let hard = moment_after (moment_after s.begin (length_of s.executor)) s.grace in
    let others = users_earlier amount rest t m within last.1 in
    let one : cond (is_on t s) (amount s) 0 ≤ cond (is_on m s) (amount s) 0 = on_earlier s.begin hard t m (amount s) within last.0 in
    let left = sum_by-cons (λ (x : Scenario). cond (is_on t x) (amount x) 0) s rest in
    let right = sum_by-cons (λ (x : Scenario). cond (is_on m x) (amount x) 0) s rest in
    omega arith

-- ---- the greatest of some moments

-- the number is reached, and not exceeded at the run's start and where these scenarios begin
pub record IsMost (f : ℕ → ℕ) (scenarios : List Scenario) (n : ℕ) : Type 0 where
  pub moment : ℕ
  pub reached : f moment ≡ n
  pub first : f 0 ≤ n
  pub begins : AllByRecursion (λ (s : Scenario). f s.begin ≤ n) scenarios

-- at the start
pub most_of_none : (f : ℕ → ℕ) (n : ℕ) → n ≡ f 0 → IsMost f [] n
most_of_none f n is = record { moment = 0; reached = sym is; first = omega arith; begins = tt }

-- what isn't over one number isn't over a greater one
within_more : (f : ℕ → ℕ) (m n : ℕ) (scenarios : List Scenario) → m ≤ n → AllByRecursion (λ (s : Scenario). f s.begin ≤ m) scenarios →
    AllByRecursion (λ (s : Scenario). f s.begin ≤ n) scenarios
within_more f m n [] more all = tt
within_more f m n (s ∷ rest) more all = (let here = all.0 in omega arith, within_more f m n rest more all.1)

-- one scenario more
most_push : (f : ℕ → ℕ) (scenarios : List Scenario) (s : Scenario) (n : ℕ) → IsMost f scenarios n →
    IsMost f (scenarios ++ s ∷ []) (max n (f s.begin))
most_push f scenarios s n most =
    let first = most.first in
    let each = λ (k : ℕ) (more : n ≤ k) (here : f s.begin ≤ k).
    each_push (λ (x : Scenario). f x.begin ≤ k) scenarios s (within_more f n k scenarios more most.begins) here in
    elim (dec_lt n (f s.begin)) [
      | yes over ↦
          let is : f s.begin ≡ max n (f s.begin) = omega arith in
          subst (IsMost f (scenarios ++ s ∷ [])) is
          (record { moment = s.begin; reached = refl; first = omega arith; begins = each (f s.begin) (omega arith) (omega arith) })
      | no within ↦
          let is : n ≡ max n (f s.begin) = omega arith in
          subst (IsMost f (scenarios ++ s ∷ [])) is
          (record { moment = most.moment; reached = most.reached; first = first; begins = each n (omega arith) (omega arith) })
    ]

pub most_more : (f : ℕ → ℕ) (scenarios : List Scenario) (i : ℕ) (s : Scenario) (n here more : ℕ) → i < length scenarios → s ≡ get_or scenarios i s →
    IsMost f (take i scenarios) n → here ≡ f s.begin → more ≡ max n here → IsMost f (take (i + 1) scenarios) more
most_more f scenarios i s n here more inside is most at sum =
    subst (λ (done : List Scenario). IsMost f done more)
    (sym (take_more scenarios i s inside ∙ ap (λ (x : Scenario). take i scenarios ++ x ∷ []) (sym is)))
    (subst (IsMost f (take i scenarios ++ s ∷ [])) (ap (max n) (sym at) ∙ sym sum) (most_push f (take i scenarios) s n most))

-- there is one
pub some_most : (f : ℕ → ℕ) (scenarios : List Scenario) → (n : ℕ) × IsMost f scenarios n
some_most f [] = (f 0, most_of_none f (f 0) refl)
some_most f (s ∷ rest) =
    let before = some_most f rest in
    let most = before.1 in
    let first = most.first in
    elim (dec_lt before.0 (f s.begin)) [
      | yes over ↦ (
        f s.begin,
        record {
          moment = s.begin;
          reached = refl;
          first = omega arith;
          begins = (omega arith, within_more f before.0 (f s.begin) rest (omega arith) most.begins);
        },
      )
      | no within ↦ (before.0, record { moment = most.moment; reached = most.reached; first = first; begins = (omega arith, most.begins) })
    ]

-- it is the greatest over all moments
pub most_is_greatest : (amount : Scenario → ℕ) (scenarios : List Scenario) (n : ℕ) → IsMost (users_at amount scenarios) scenarios n →
    IsGreatest (users_at amount scenarios) n
most_is_greatest amount scenarios n most =
    record {
      moment = most.moment;
      reached = most.reached;
      at_most = λ t.
          let last = last_begin t scenarios in
          let earlier = users_earlier amount scenarios t last.moment last.within last.last in
          let within = last.found (users_at amount scenarios) n most.first most.begins in
          omega arith;
    }

pub all_most : (amount : Scenario → ℕ) (scenarios : List Scenario) (i n : ℕ) → length scenarios ≤ i →
    IsMost (users_at amount scenarios) (take i scenarios) n → IsGreatest (users_at amount scenarios) n
all_most amount scenarios i n past most =
    most_is_greatest amount scenarios n
    (subst (λ (done : List Scenario). IsMost (users_at amount scenarios) done n) (take_all i scenarios past) most)
