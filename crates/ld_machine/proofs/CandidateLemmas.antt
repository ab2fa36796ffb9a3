-- The least of some moments, and the next candidate put together of its parts.
use Rattle.std.proofs.Common.{Contains, ◌≡◌, ◌<◌, ◌≤◌, ◌∙◌, ℕ, Bool, true, false, cond, nat_lt, List, [], ◌∷◌, ◌++◌, length, Option, None, Some, min, filter, filter_map, flat_map, arith, refl, sym, ap, subst, if◌then◌else◌}
use Rattle.std.specs.Prelude.{option_to_list}
use Rattle.std.specs.Option.{option_map_or}
use Rattle.std.specs.List.{cons_option}
use Rattle.std.proofs.Math.Decide.{dec_lt}
use Rattle.std.proofs.lemmas.List.{append-nil}
use Rattle.std.proofs.lemmas.Grind.{common_steps, flat_map-append}
use Rattle.std.proofs.lemmas.List.Elements.{filter-append, filter_map-append}
use Rattle.ld_machine.specs.Plan.{Part, Plan}
use Rattle.ld_machine.specs.State.{HeldUser, Share, Controls, State}
use Rattle.ld_machine.specs.Scenario.{Scenario}
use Rattle.ld_machine.specs.Moves.{scenarios_with, scenarios}
use Rattle.ld_machine.specs.Wait.{busy_until, scenario_moments, untils, least_of, next_candidate}
use Rattle.ld_machine.specs.Together.{lesser, least_above, least_moment, least_with_untils, least_until, least_until_in, IsLeast, IsLeastAbove}
use Rattle.ld_machine.proofs.ListLemmas.{In, here, there, nothing_in, In-filter, filter-In, Contains-from_In, some_not_none}
use Rattle.ld_machine.proofs.WaitLemmas.{least_below}
use Rattle.ld_machine.proofs.FirstOfAllLemmas.{In-of}

-- ---- the lesser of two

pub lesser_none : (a : Option ℕ) → lesser a None ≡ a
lesser_none None = refl
lesser_none (Some a) = refl

pub lesser_swap : (a b : Option ℕ) → lesser a b ≡ lesser b a
lesser_swap None None = refl
lesser_swap None (Some b) = refl
lesser_swap (Some a) None = refl
lesser_swap (Some a) (Some b) = ap Some (omega arith)

pub lesser_along : (a b c : Option ℕ) → lesser (lesser a b) c ≡ lesser a (lesser b c)
lesser_along None b c = refl
lesser_along (Some a) None c = refl
lesser_along (Some a) (Some b) None = refl
lesser_along (Some a) (Some b) (Some c) = ap Some (omega arith)

-- ---- the least of a list

least_step : (m : ℕ) (a b : Option ℕ) → Some (option_map_or (min m) (lesser a b) m) ≡ lesser (Some (option_map_or (min m) a m)) b
least_step m None None = refl
least_step m None (Some b) = refl
least_step m (Some a) None = refl
least_step m (Some a) (Some b) = ap Some (omega arith)

pub least-append : (xs ys : List ℕ) → least_of (xs ++ ys) ≡ lesser (least_of xs) (least_of ys)
least-append [] ys = refl
least-append (m ∷ xs) ys = rw (least-append xs ys) (least_step m (least_of xs) (least_of ys))

-- one moment more
pub least_more : (moments : List ℕ) (m : ℕ) → least_of (moments ++ m ∷ []) ≡ Some (option_map_or (min m) (least_of moments) m)
least_more moments m = least-append moments (m ∷ []) ∙ one_more (least_of moments)
  where
    one_more : (o : Option ℕ) → lesser o (Some m) ≡ Some (option_map_or (min m) o m)
    one_more None = refl
    one_more (Some k) = ap Some (omega arith)

least_in : (xs : List ℕ) (m : ℕ) → least_of xs ≡ Some m → In m xs
least_in [] m h = absurd (cc)
least_in (x ∷ xs) m h =
    let P : Option ℕ → Type 0 = λ o. least_of xs ≡ o → Some (option_map_or (min x) o x) ≡ Some m → In m (x ∷ xs) in
    let found : P (least_of xs) = elim (least_of xs) as P [
      | None ↦ λ e at. let same : x ≡ m = cc in subst (λ z. In z (x ∷ xs)) same here
      | Some k ↦ λ e at.
          let same : min x k ≡ m = cc in
          elim (dec_lt x k) [
            | yes less ↦ let it : x ≡ m = omega arith in subst (λ z. In z (x ∷ xs)) it here
            | no notless ↦ let it : k ≡ m = omega arith in subst (λ z. In z (x ∷ xs)) it (there (least_in xs k e))
          ]
    ] in found refl h

some_is : (a b : ℕ) → Some a ≡ Some b → a ≡ b
some_is a b h = cc

pub least_tells : (xs : List ℕ) (m : ℕ) → least_of xs ≡ Some m → IsLeast xs m
least_tells xs m h = (
  Contains-from_In m (least_in xs m h),
  λ x at.
      let least = least_below x (In-of at) in
      let same : least.0 ≡ m = some_is least.0 m (sym least.1 ∙ h) in
      let below : least.0 ≤ x = least.2 in
      omega arith,
)

pub least_is : (xs : List ℕ) (m : ℕ) → IsLeast xs m → least_of xs ≡ Some m
least_is xs m h =
    let least = least_below m (In-of h.0) in
    let below : least.0 ≤ m = least.2 in
    let above : m ≤ least.0 = h.1 least.0 (Contains-from_In least.0 (least_in xs least.0 least.1)) in
    let same : least.0 ≡ m = omega arith in
    least.1 ∙ ap Some same

pub no_least : (xs : List ℕ) → least_of xs ≡ None → xs ≡ []
no_least [] h = refl
no_least (x ∷ xs) h = absurd (some_not_none h)

-- ---- the least above a moment

above_passes : (t x : ℕ) → t < x → nat_lt t x ≡ true
above_passes t x h = grind (arith, common_steps)

passes_above : (t x : ℕ) → nat_lt t x ≡ true → t < x
passes_above t x h = grind (arith, common_steps)

pub above_tells : (t : ℕ) (xs : List ℕ) (m : ℕ) → least_above t xs ≡ Some m → IsLeastAbove t xs m
above_tells t xs m h =
    let told = least_tells (filter (nat_lt t) xs) m h in
    let kept = In-filter (nat_lt t) m xs (In-of told.0) in (
      Contains-from_In m kept.0,
      passes_above t m kept.1,
      λ x at above. told.1 x (Contains-from_In x (filter-In (nat_lt t) x (In-of at) (above_passes t x above))),
    )

pub above_is : (t : ℕ) (xs : List ℕ) (m : ℕ) → IsLeastAbove t xs m → least_above t xs ≡ Some m
above_is t xs m h =
    least_is (filter (nat_lt t) xs) m (
      Contains-from_In m (filter-In (nat_lt t) m (In-of h.0) (above_passes t m h.1)),
      λ x at. let kept = In-filter (nat_lt t) x xs (In-of at) in h.2 x (Contains-from_In x kept.0) (passes_above t x kept.1),
    )

pub none_above : (t : ℕ) (xs : List ℕ) → least_above t xs ≡ None → (x : ℕ) → Contains xs x → x ≤ t
none_above t xs h x at =
    elim (dec_lt t x) [
      | yes above ↦
          let kept = filter-In (nat_lt t) x (In-of at) (above_passes t x above) in
          absurd (nothing_in (subst (λ ms. In x ms) (no_least (filter (nat_lt t) xs) h) kept))
      | no notabove ↦ omega arith
    ]

pub above_none : (t : ℕ) (xs : List ℕ) → ((x : ℕ) → Contains xs x → x ≤ t) → least_above t xs ≡ None
above_none t xs h =
    let P : Option ℕ → Type 0 = λ o. least_above t xs ≡ o → least_above t xs ≡ None in
    let found : P (least_above t xs) = elim (least_above t xs) as P [
      | None ↦ λ e. e
      | Some m ↦ λ e. let told = above_tells t xs m e in let below : m ≤ t = h m told.0 in let above : t < m = told.1 in absurd (omega arith)
    ] in found refl

pub above-append : (t : ℕ) (xs ys : List ℕ) → least_above t (xs ++ ys) ≡ lesser (least_above t xs) (least_above t ys)
above-append t xs ys = ap least_of (filter-append (nat_lt t) xs ys) ∙ least-append (filter (nat_lt t) xs) (filter (nat_lt t) ys)

pub above_one : (t x : ℕ) → least_above t (x ∷ []) ≡ (if nat_lt t x then Some x else None)
above_one t x =
    let P : Bool → Type 0 = λ b. least_of (cond b (x ∷ []) []) ≡ (if b then Some x else None) in
    elim (nat_lt t x) as P [ true ↦ refl | false ↦ refl ]

-- ---- over a list, step by step

pub flat-snoc : {A : Type 0} (t : ℕ) (f : A → List ℕ) (front : List A) (x : A) →
    least_above t (flat_map f (front ++ x ∷ [])) ≡ lesser (least_above t (flat_map f front)) (least_above t (f x))
flat-snoc t f front x =
    ap (least_above t) (flat_map-append f front (x ∷ []) ∙ ap (λ ys. flat_map f front ++ ys) (append-nil (f x)))
    ∙ above-append t (flat_map f front) (f x)

pub flat-cons : {A : Type 0} (t : ℕ) (f : A → List ℕ) (x : A) (rest : List A) →
    least_above t (flat_map f (x ∷ rest)) ≡ lesser (least_above t (f x)) (least_above t (flat_map f rest))
flat-cons t f x rest = above-append t (f x) (flat_map f rest)

pub until-snoc : (t : ℕ) (front : List HeldUser) (h : HeldUser) →
    least_until t (front ++ h ∷ []) ≡ lesser (least_until t front) (least_above t (option_to_list (busy_until h.condition)))
until-snoc t front h =
    ap (least_above t) (filter_map-append (λ (u : HeldUser). busy_until u.condition) front (h ∷ []) ∙ ap (λ ys. filter_map (λ (u : HeldUser). busy_until u.condition) front ++ ys) (one_until (busy_until h.condition)))
    ∙ above-append t (filter_map (λ (u : HeldUser). busy_until u.condition) front) (option_to_list (busy_until h.condition))
  where
    one_until : (o : Option ℕ) → cons_option o [] ≡ option_to_list o
    one_until None = refl
    one_until (Some until) = refl

pub until-cons : (t : ℕ) (h : HeldUser) (rest : List HeldUser) →
    least_until t (h ∷ rest) ≡ lesser (least_above t (option_to_list (busy_until h.condition))) (least_until t rest)
until-cons t h rest = ap (least_above t) (first_until (busy_until h.condition) (filter_map (λ (u : HeldUser). busy_until u.condition) rest)) ∙ above-append t (option_to_list (busy_until h.condition)) (filter_map (λ (u : HeldUser). busy_until u.condition) rest)
  where
    first_until : (o : Option ℕ) (later : List ℕ) → cons_option o later ≡ option_to_list o ++ later
    first_until None later = refl
    first_until (Some until) later = refl

-- ---- the next candidate

pub next_of_parts : (plan : Plan) (state : State) (t : ℕ) → next_candidate plan state t ≡ lesser (least_moment t (scenarios plan state)) (least_until_in t state.shares)
next_of_parts plan state t = above-append t (flat_map scenario_moments (scenarios plan state)) (flat_map untils state.shares)

four : (a b c d : Option ℕ) → lesser (lesser a b) (lesser c d) ≡ lesser (lesser a c) (lesser b d)
four a b c d =
    lesser_along a b (lesser c d)
    ∙ ap (λ x. lesser a x) (sym (lesser_along b c d) ∙ ap (λ x. lesser x d) (lesser_swap b c) ∙ lesser_along c b d)
    ∙ sym (lesser_along a c (lesser b d))

both_lists : {A : Type 0} (t : ℕ) (f g : A → List ℕ) (xs : List A) →
    least_above t (flat_map (λ x. f x ++ g x) xs) ≡ lesser (least_above t (flat_map f xs)) (least_above t (flat_map g xs))
both_lists t f g [] = refl
both_lists t f g (x ∷ xs) =
    flat-cons t (λ y. f y ++ g y) x xs
    ∙ ap (λ o. lesser o (least_above t (flat_map (λ y. f y ++ g y) xs))) (above-append t (f x) (g x))
    ∙ ap (λ o. lesser (lesser (least_above t (f x)) (least_above t (g x))) o) (both_lists t f g xs)
    ∙ four (least_above t (f x)) (least_above t (g x)) (least_above t (flat_map f xs)) (least_above t (flat_map g xs))
    ∙ ap (λ o. lesser o (lesser (least_above t (g x)) (least_above t (flat_map g xs)))) (sym (flat-cons t f x xs))
    ∙ ap (λ o. lesser (least_above t (flat_map f (x ∷ xs))) o) (sym (flat-cons t g x xs))

untils_with : (controls : Controls) (parts : List Part) (shares : List Share) → length parts ≡ length shares →
    flat_map (λ (s : Scenario). untils s.share) (scenarios_with controls parts shares) ≡ flat_map untils shares
untils_with controls [] [] same = refl
untils_with controls [] (share ∷ shares) same = absurd (omega arith)
untils_with controls (part ∷ parts) [] same = absurd (omega arith)
untils_with controls (part ∷ parts) (share ∷ shares) same =
    ap (λ ms. untils share ++ ms) (untils_with controls parts shares (omega arith))

pub next_of_each : (plan : Plan) (state : State) (t : ℕ) → length plan.parts ≡ length state.shares →
    next_candidate plan state t ≡ least_with_untils t (scenarios plan state)
next_of_each plan state t same =
    next_of_parts plan state t
    ∙ ap (λ ms. lesser (least_moment t (scenarios plan state)) (least_above t ms)) (sym (untils_with state.controls plan.parts state.shares same))
    ∙ sym (both_lists t scenario_moments (λ (s : Scenario). untils s.share) (scenarios plan state))
