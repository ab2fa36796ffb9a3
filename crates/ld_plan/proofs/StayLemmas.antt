-- The stays of parts: their users at a moment are those that the parts need then.
use Rattle.std.proofs.Common.{◌≡◌, ◌<◌, ◌≤◌, ◌+◌, ◌-◌, ◌*◌, ◌∙◌, ℕ, zero, suc, Bool, true, false, List, [], ◌∷◌, ◌++◌, cond, length, max, take, get_or, arith, ap, refl, sym, subst}
use Rattle.std.specs.Prelude.{◌&&◌, All, Err, IfOk, Ok, Result, nat_le, nat_lt, sum_by}
use Rattle.std.specs.List.{AllByRecursion, AllZip}
use Rattle.std.proofs.Math.Decide.{dec_lt}
use Rattle.std.proofs.lemmas.Bool.Decides.{nat_tests}
use Rattle.std.proofs.lemmas.List.{length_push, take_all, take_more}
use Rattle.std.proofs.lemmas.List.Elements.{All-cons, All-nil, All-push}
use Rattle.std.proofs.lemmas.List.Sums.{sum_by-append, sum_by-cons, sum_by_push}
use Rattle.ld_stripe.specs.Striping.{Striping}
use Rattle.ld_stripe.proofs.StripingLaws.{share_at_most}
use Rattle.ld_machine.specs.Plan.{Part, hard_moment}
use Rattle.ld_machine.specs.Requirement.{IsGreatest, IsRequirement, executor_extra, executor_need, extra, is_before, most_owned_users, need, owned_users}
use Rattle.ld_options.specs.Ranges.{IsScenarioInRange}
use Rattle.ld_options.specs.declared.options.Options.{Options}
use Rattle.ld_options.specs.declared.scenario.Scenario.{Scenario}
use Rattle.ld_plan.specs.Executor.{max_of, pre_of}
use Rattle.ld_plan.specs.IsPlanOf.{IsPartOf, part_of, sample_room}
use Rattle.ld_plan.specs.PartView.{PartView, parts_of}
use Rattle.ld_plan.specs.Stay.{AreCounted, AreStaysOf, HasFewUsers, HoldSometime, IsSteady, held_at, holds, limit_at, planned_at}
use Rattle.ld_plan.specs.declared.fault.PlanFault.{PlanFault}
use Rattle.ld_plan.specs.declared.stay.Stay.{Stay}
use Rattle.ld_plan.specs.declared.users.Users.{Users}
use Rattle.ld_plan.proofs.ExecutorLemmas.{few_users, most_users_owned, pre_within, users_owned}

-- ---- one stay

one_held : (amount : Stay → ℕ) (stay : Stay) (t : ℕ) → held_at amount (stay ∷ []) t ≡ cond (holds t stay) (amount stay) 0
one_held amount stay t =
    let split = sum_by-cons (λ (s : Stay). cond (holds t s) (amount s) 0) stay [] in
    omega arith

-- that of a part
pub stay_planned : (stay : Stay) (part : Part) (t : ℕ) → IsSteady part.executor → stay.from ≡ part.begin → stay.until ≡ hard_moment part →
    stay.planned ≡ owned_users part.executor → planned_at (stay ∷ []) t ≡ executor_need part.executor part t
stay_planned stay part t steady begins ends users =
    let on : cond (nat_le stay.from t && nat_lt t stay.until) stay.planned 0
    ≡ cond (nat_le part.begin t && nat_lt t (hard_moment part)) (owned_users part.executor) 0 = rw (begins, ends, users) refl in
    one_held (λ (s : Stay). s.planned) stay t ∙ on ∙ sym (steady part t)

both : (on : Bool) (m n : ℕ) → cond on m 0 + cond on (n - m) 0 ≡ cond on (max m n) 0
both true m n = omega arith
both false m n = refl

pub stay_limit : (stay : Stay) (part : Part) (t : ℕ) → IsSteady part.executor → stay.from ≡ part.begin → stay.until ≡ hard_moment part →
    stay.limit ≡ max (owned_users part.executor) (most_owned_users part.executor) →
    limit_at (stay ∷ []) t ≡ executor_need part.executor part t + executor_extra part.executor part t
stay_limit stay part t steady begins ends users =
    let on : cond (nat_le stay.from t && nat_lt t stay.until) stay.limit 0
    ≡ cond (is_before part (hard_moment part) t) (max (owned_users part.executor) (most_owned_users part.executor)) 0 = rw (begins, ends, users) refl in
    one_held (λ (s : Stay). s.limit) stay t ∙ on
    ∙ sym (both (is_before part (hard_moment part) t) (owned_users part.executor) (most_owned_users part.executor))
    ∙ ap (λ n. n + executor_extra part.executor part t) (sym (steady part t))

-- an empty one holds at no moment
none_held : (s : Stay) (n t : ℕ) → s.until ≤ s.from → cond (holds t s) n 0 ≡ 0
none_held s n t empty = elim (dec_lt t s.from) [
  | yes ahead ↦
      let begun : nat_le s.from t ≡ false = grind (arith, nat_tests) in
      rw begun refl
  | no begins ↦
      let begun : nat_le s.from t ≡ true = grind (arith, nat_tests) in
      let before : nat_lt t s.until ≡ false = grind (arith, nat_tests) in
      rw (begun, before) refl
]

-- ---- stays of parts

-- the stays of the parts so far
pub record AreSoFar (views : List PartView) (stays : List Stay) : Type 0 where
  pub are : AreStaysOf (parts_of views) stays
  pub sometime : HoldSometime stays
  pub planned : sum_by (λ (stay : Stay). stay.planned) stays ≤ 1000 * length views
  pub limit : sum_by (λ (stay : Stay). stay.limit) stays ≤ 1000 * length views

pub none_so_far : AreSoFar [] []
none_so_far = record {
  are = record { planned = λ t. refl; limit = λ t. refl };
  sometime = All-nil (λ (stay : Stay). stay.from < stay.until);
  planned = omega arith;
  limit = omega arith;
}

-- one part more
part_more : (f : Part → ℕ) (views : List PartView) (v : PartView) → sum_by f (parts_of (views ++ v ∷ [])) ≡ sum_by f (parts_of views) + f v.part
part_more f [] v = let split = sum_by-cons f v.part [] in omega arith
part_more f (w ∷ views) v =
    let rest = part_more f views v in
    let left = sum_by-cons f w.part (parts_of (views ++ v ∷ [])) in
    let right = sum_by-cons f w.part (parts_of views) in
    omega arith

-- what is known of its stay
pub record IsStayOf (part : Part) (stay : Stay) : Type 0 where
  pub planned : (t : ℕ) → planned_at (stay ∷ []) t ≡ executor_need part.executor part t
  pub limit : (t : ℕ) → limit_at (stay ∷ []) t ≡ executor_need part.executor part t + executor_extra part.executor part t
  pub users : stay.planned ≡ owned_users part.executor
  pub most : stay.limit ≡ max (owned_users part.executor) (most_owned_users part.executor)

stays_push : (views : List PartView) (stays : List Stay) (v : PartView) (stay : Stay) → AreSoFar views stays → IsStayOf v.part stay → HasFewUsers v.part →
    stay.from < stay.until → AreSoFar (views ++ v ∷ []) (stays ++ stay ∷ [])
stays_push views stays v stay so_far of few some =
    let are = so_far.are in
    let long = length_push views v in
    let planned_sum = sum_by_push (λ (s : Stay). s.planned) stays stay in
    let limit_sum = sum_by_push (λ (s : Stay). s.limit) stays stay in
    let planned = so_far.planned in
    let limit = so_far.limit in
    let users = of.users in
    let most = of.most in
    let few_planned = few.planned in
    let few_limit = few.limit in
    record {
      are = record {
        planned = λ t.
            let before = are.planned t in
            let here = of.planned t in
            let split = sum_by-append (λ (s : Stay). cond (holds t s) s.planned 0) stays (stay ∷ []) in
            let more = part_more (λ (p : Part). executor_need p.executor p t) views v in
            omega arith;
        limit = λ t.
            let before = are.limit t in
            let here = of.limit t in
            let split = sum_by-append (λ (s : Stay). cond (holds t s) s.limit 0) stays (stay ∷ []) in
            let more = part_more (λ (p : Part). executor_need p.executor p t) views v in
            let extra_more = part_more (λ (p : Part). executor_extra p.executor p t) views v in
            omega arith;
      };
      sometime = All-push (λ (s : Stay). s.from < s.until) stays stay so_far.sometime some;
      planned = omega arith;
      limit = omega arith;
    }

stays_same : (views : List PartView) (stays : List Stay) (v : PartView) (stay : Stay) → AreSoFar views stays → IsStayOf v.part stay →
    stay.until ≤ stay.from → AreSoFar (views ++ v ∷ []) stays
stays_same views stays v stay so_far of empty =
    let are = so_far.are in
    let long = length_push views v in
    let planned = so_far.planned in
    let limit = so_far.limit in
    record {
      are = record {
        planned = λ t.
            let before = are.planned t in
            let here = of.planned t in
            let one = one_held (λ (s : Stay). s.planned) stay t in
            let none = none_held stay stay.planned t empty in
            let more = part_more (λ (p : Part). executor_need p.executor p t) views v in
            omega arith;
        limit = λ t.
            let before = are.limit t in
            let here = of.limit t in
            let one = one_held (λ (s : Stay). s.limit) stay t in
            let none = none_held stay stay.limit t empty in
            let more = part_more (λ (p : Part). executor_need p.executor p t) views v in
            let extra_more = part_more (λ (p : Part). executor_extra p.executor p t) views v in
            omega arith;
      };
      sometime = so_far.sometime;
      planned = omega arith;
      limit = omega arith;
    }

-- at a place
next : (views : List PartView) (i : ℕ) (v : PartView) (stays : List Stay) → i < length views → v ≡ get_or views i v →
    AreSoFar (take i views ++ v ∷ []) stays → AreSoFar (take (i + 1) views) stays
next views i v stays inside is so_far =
    subst (λ (done : List PartView). AreSoFar done stays)
    (sym (take_more views i v inside ∙ ap (λ (w : PartView). take i views ++ w ∷ []) (sym is))) so_far

pub stays_more : (views : List PartView) (i : ℕ) (v : PartView) (stays : List Stay) (stay : Stay) → i < length views → v ≡ get_or views i v →
    AreSoFar (take i views) stays → IsStayOf v.part stay → HasFewUsers v.part → stay.from < stay.until →
    AreSoFar (take (i + 1) views) (stays ++ stay ∷ [])
stays_more views i v stays stay inside is so_far of few some =
    next views i v (stays ++ stay ∷ []) inside is (stays_push (take i views) stays v stay so_far of few some)

pub stays_less : (views : List PartView) (i : ℕ) (v : PartView) (stays : List Stay) (stay : Stay) → i < length views → v ≡ get_or views i v →
    AreSoFar (take i views) stays → IsStayOf v.part stay → stay.until ≤ stay.from → AreSoFar (take (i + 1) views) stays
stays_less views i v stays stay inside is so_far of empty =
    next views i v stays inside is (stays_same (take i views) stays v stay so_far of empty)

pub all_stays : (views : List PartView) (i : ℕ) (stays : List Stay) → length views ≤ i → AreSoFar (take i views) stays → AreSoFar views stays
all_stays views i stays past so_far = subst (λ (done : List PartView). AreSoFar done stays) (take_all i views past) so_far

-- ---- the requirement

-- the greatest of what is the same at each moment
pub same_greatest : (f g : ℕ → ℕ) (n : ℕ) → ((t : ℕ) → f t ≡ g t) → IsGreatest f n → IsGreatest g n
same_greatest f g n same is =
    record {
      moment = is.moment;
      reached = sym (same is.moment) ∙ is.reached;
      at_most = λ t. let here = same t in let most = is.at_most t in omega arith;
    }

-- the most users of the stays of parts are their requirement
pub requirement_of_stays : (parts : List Part) (stays : List Stay) (most : Result Users PlanFault) → AreStaysOf parts stays →
    IfOk most (λ (users : Users). IsGreatest (planned_at stays) users.planned) →
    IfOk most (λ (users : Users). IsGreatest (limit_at stays) users.limit) →
    IfOk most (λ (users : Users). IsRequirement parts users.planned users.limit)
requirement_of_stays parts stays (Ok users) are planned limit =
    record {
      planned_is = same_greatest (planned_at stays) (need parts) users.planned are.planned planned;
      limit_is = same_greatest (limit_at stays) (λ t. need parts t + extra parts t) users.limit are.limit limit;
    }
requirement_of_stays parts stays (Err fault) are planned limit = tt

-- ---- few users

few_of : (options : Options) (striping : Striping) (j : ℕ) (s : Scenario) (v : PartView) → IsScenarioInRange s →
    IsPartOf (sample_room options.scripts.scripts s.script) striping j s v → HasFewUsers v.part
few_of options striping j s v range is =
    let few = few_users s.executor range.executor in
    let within = pre_within s.executor range.executor in
    let planned = users_owned s.executor is.items.owners striping j in
    let most = most_users_owned s.executor is.items.owners striping j in
    let planned_share = share_at_most striping.owners j (pre_of s.executor) in
    let most_share = share_at_most striping.owners j (max_of s.executor) in
    subst HasFewUsers (sym is.part_is) (record { planned = omega arith; limit = omega arith })

pub few_parts : (options : Options) (striping : Striping) (j : ℕ) (scenarios : List Scenario) (views : List PartView) →
    AllByRecursion IsScenarioInRange scenarios →
    AllZip (λ (s : Scenario). IsPartOf (sample_room options.scripts.scripts s.script) striping j s) scenarios views →
    All (λ (v : PartView). HasFewUsers v.part) views
few_parts options striping j [] [] ranges all = All-nil (λ (v : PartView). HasFewUsers v.part)
few_parts options striping j [] (v ∷ views) ranges all = absurd all
few_parts options striping j (s ∷ scenarios) [] ranges all = absurd all
few_parts options striping j (s ∷ scenarios) (v ∷ views) ranges all =
    All-cons (λ (v : PartView). HasFewUsers v.part) v views (few_of options striping j s v ranges.0 all.0)
    (few_parts options striping j scenarios views ranges.1 all.1)
