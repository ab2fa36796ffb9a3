-- A segment of a test is accepted or has one refusal.
use Rattle.std.proofs.Common.{◌≡◌, ◌<◌, ◌-◌, ◌^◌, ◌⊎◌, ◌∙◌, inl, inr, ℕ, zero, suc, List, [], ◌∷◌, slice_get, arith, ap, refl, sym}
use Rattle.std.specs.Prelude.{Some, min}
use Rattle.std.proofs.Math.Decide.{dec_lt}
use Rattle.std.proofs.lemmas.Option.{none-some, same_Some}
use Rattle.ld_num.specs.declared.fraction.Frac.{Frac}
use Rattle.ld_segment.specs.Refusal.{ends}
use Rattle.ld_segment.specs.Segments.{segments_of}
use Rattle.ld_segment.specs.Weights.{HasPeriod, greatest_period}
use Rattle.ld_segment.specs.declared.segment.Segment.{Segment}
use Rattle.ld_segment.proofs.PointLemmas.{same_point}
use Rattle.ld_segment.proofs.WeightsPeriodLemmas.{period_exists, period_unique}
use Rattle.ld_arrival.specs.Limits.{most_arrivals}
use Rattle.ld_options.specs.Ranges.{most_users}
use Rattle.ld_options.specs.declared.options.Options.{Options}
use Rattle.ld_options.specs.declared.scenario.Scenario.{Scenario}
use Rattle.ld_plan.specs.Executor.{timetable_of}
use Rattle.ld_plan.specs.IsPlanOf.{IsSound}
use Rattle.ld_plan.specs.PartView.{parts_of}
use Rattle.ld_plan.specs.PlanView.{arrival_count}
use Rattle.ld_plan.specs.PlanFault.{AreFew, HasFewUsers, HasFirstMany, HasShortPeriod, IsAccepted, IsNeeded, IsRefusal, IsWholeLimit, StandsAt, needed_entries}
use Rattle.ld_plan.specs.declared.fault.PlanFault.{PlanFault}
use Rattle.ld_plan.specs.declared.fault.PlanFault.TheVariants.{NotInSequence, PeriodTooLarge, TooManyArrivals, TooManyUsers, JournalTooSmall, Memory}
use Rattle.ld_plan.proofs.PartLemmas.{one_parts, some_parts}
use Rattle.ld_plan.proofs.UsersLemmas.{one_whole_limit, some_whole_limit}

-- ---- where the segment stands

same_number_or_not : (m n : ℕ) → (m ≡ n) ⊎ (m ≡ n → ⊥)
same_number_or_not m n = elim (dec_lt m n) [
  | yes below ↦ inr (λ same. omega arith)
  | no above ↦ elim (dec_lt n m) [
    | yes over ↦ inr (λ same. omega arith)
    | no within ↦ inl (omega arith)
  ]
]

same_point_or_not : (p q : Frac) → (p ≡ q) ⊎ (p ≡ q → ⊥)
same_point_or_not p q = elim (same_number_or_not p.num q.num) [
  | inr apart ↦ inr (λ same. apart (ap (λ (x : Frac). x.num) same))
  | inl num ↦ elim (same_number_or_not p.den q.den) [
    | inr apart ↦ inr (λ same. apart (ap (λ (x : Frac). x.den) same))
    | inl den ↦ inl (same_point p q num den)
  ]
]

same_pair_or_not : (a b : Frac × Frac) → (a ≡ b) ⊎ (a ≡ b → ⊥)
same_pair_or_not a b = elim (same_point_or_not a.0 b.0) [
  | inr apart ↦ inr (λ same. apart (ap (λ (x : Frac × Frac). x.0) same))
  | inl first ↦ elim (same_point_or_not a.1 b.1) [
    | inr apart ↦ inr (λ same. apart (ap (λ (x : Frac × Frac). x.1) same))
    | inl second ↦ inl (λ i. (first i, second i))
  ]
]

-- a pair stands in a list, or at no place of it
in_list_or_not : (pairs : List (Frac × Frac)) (one : Frac × Frac) →
    ((j : ℕ) × (slice_get pairs j ≡ Some one)) ⊎ ((j : ℕ) → slice_get pairs j ≡ Some one → ⊥)
in_list_or_not [] one = inr (λ j is. none-some one is)
in_list_or_not (pair ∷ pairs) one = elim (same_pair_or_not pair one) [
  | inl same ↦ inl (0, ap Some same)
  | inr apart ↦ elim (in_list_or_not pairs one) [
    | inl behind ↦ inl (suc behind.0, behind.1)
    | inr none ↦ inr (at_no_place apart none)
  ]
]
  where
    at_no_place : (pair ≡ one → ⊥) → ((j : ℕ) → slice_get pairs j ≡ Some one → ⊥) → (j : ℕ) → slice_get (pair ∷ pairs) j ≡ Some one → ⊥
    at_no_place apart none zero is = apart (same_Some pair one is)
    at_no_place apart none (suc j) is = none j is

stands_or_not : (segment : Segment) (sequence : List Frac) →
    ((j : ℕ) × StandsAt segment sequence j) ⊎ ((j : ℕ) → StandsAt segment sequence j → ⊥)
stands_or_not segment sequence = in_list_or_not (segments_of sequence) (ends segment)

-- ---- which scenario has too many arrivals

-- each has few, or there is a first that has too many
few_or_many : (scenarios : List Scenario) → AreFew scenarios ⊎ ((n : ℕ) × (told : ℕ) × HasFirstMany scenarios n told)
few_or_many [] = inl tt
few_or_many (s ∷ rest) = elim (dec_lt most_arrivals (arrival_count (timetable_of s.executor))) [
  | yes many ↦ inr (0, min (arrival_count (timetable_of s.executor)) (2 ^ 64 - 1), record { before = tt; here = record { many = many; number = refl } })
  | no few ↦ elim (few_or_many rest) [
    | inl all ↦ inl (omega arith, all)
    | inr behind ↦ inr (suc behind.0, behind.1, record { before = (omega arith, behind.2.before); here = behind.2.here })
  ]
]

-- not both
few_not_many : (scenarios : List Scenario) (n told : ℕ) → AreFew scenarios → HasFirstMany scenarios n told → ⊥
few_not_many [] n told few many = many.here
few_not_many (s ∷ rest) zero told few many = let here = many.here in let over = here.many in let within = few.0 in omega arith
few_not_many (s ∷ rest) (suc n) told few many =
    few_not_many rest n told few.1 (record { before = many.before.1; here = many.here })

-- there is one such first
record Same (m n a b : ℕ) : Type 0 where
  pub place : m ≡ n
  pub number : a ≡ b

one_first_many : (scenarios : List Scenario) (m n a b : ℕ) → HasFirstMany scenarios m a → HasFirstMany scenarios n b → Same m n a b
one_first_many [] m n a b has other = absurd has.here
one_first_many (s ∷ rest) zero zero a b has other =
    record { place = refl; number = has.here.number ∙ sym other.here.number }
one_first_many (s ∷ rest) zero (suc n) a b has other =
    let here = has.here in let over = here.many in let within = other.before.0 in absurd (omega arith)
one_first_many (s ∷ rest) (suc m) zero a b has other =
    let here = other.here in let over = here.many in let within = has.before.0 in absurd (omega arith)
one_first_many (s ∷ rest) (suc m) (suc n) a b has other =
    let behind = one_first_many rest m n a b (record { before = has.before.1; here = has.here }) (record { before = other.before.1; here = other.here }) in
    record { place = ap suc behind.place; number = behind.number }

-- ---- the law

-- a segment is accepted, or refused with a fault
abbrev Decided : Options → Segment → List Frac → ℕ → Type 0
Decided options segment sequence entries =
    IsAccepted options segment sequence entries ⊎ ((fault : PlanFault) × IsRefusal options segment sequence entries fault)

-- with a place, a short period, few arrivals and few users
room_or_not : (options : Options) (segment : Segment) (sequence : List Frac) (entries : ℕ) → IsSound options sequence →
    (j : ℕ) → StandsAt segment sequence j → HasShortPeriod sequence → AreFew options.scenarios → HasFewUsers options →
    Decided options segment sequence entries
room_or_not options segment sequence entries sound j stands short few users =
    let found = some_parts options segment sequence j sound stands in
    let needed = needed_entries (parts_of found.0) in
    let is_needed : IsNeeded options segment sequence needed = record { position = j; views = found.0; are_parts = found.1; number = refl } in
    elim (dec_lt entries needed) [
      | yes small ↦ inr (JournalTooSmall needed entries, (short, few, users, is_needed, small, refl))
      | no room ↦ inl (record { short = short; few = few; users = users; needed = needed; is_needed = is_needed; room = omega arith })
    ]

-- with a place, a short period and few arrivals
users_or_not : (options : Options) (segment : Segment) (sequence : List Frac) (entries : ℕ) → IsSound options sequence →
    (j : ℕ) → StandsAt segment sequence j → HasShortPeriod sequence → AreFew options.scenarios → Decided options segment sequence entries
users_or_not options segment sequence entries sound j stands short few =
    let limit = some_whole_limit options sound.in_range in
    elim (dec_lt most_users limit.0) [
      | yes over ↦ inr (TooManyUsers limit.0, ((j, stands), short, few, limit.1, over))
      | no within ↦
          room_or_not options segment sequence entries sound j stands short few (record { limit = limit.0; is_limit = limit.1; few = omega arith })
    ]

-- with a place and a short period
few_or_not : (options : Options) (segment : Segment) (sequence : List Frac) (entries : ℕ) → IsSound options sequence →
    (j : ℕ) → StandsAt segment sequence j → HasShortPeriod sequence → Decided options segment sequence entries
few_or_not options segment sequence entries sound j stands short = elim (few_or_many options.scenarios) [
  | inr many ↦ inr (TooManyArrivals many.0 many.1, ((j, stands), short, many.2))
  | inl few ↦ users_or_not options segment sequence entries sound j stands short few
]

pub accepted_or_refused : (options : Options) (segment : Segment) (sequence : List Frac) (entries : ℕ) → IsSound options sequence →
    IsAccepted options segment sequence entries ⊎ ((fault : PlanFault) × IsRefusal options segment sequence entries fault)
accepted_or_refused options segment sequence entries sound = elim (stands_or_not segment sequence) [
  | inr nowhere ↦ inr (NotInSequence, nowhere)
  | inl place ↦
      let found = period_exists sequence sound.filled in
      elim (dec_lt greatest_period found.0) [
        | yes long ↦ inr (PeriodTooLarge (min found.0 (2 ^ 64 - 1)), (place, (found.0, found.1, long, refl)))
        | no short ↦ few_or_not options segment sequence entries sound place.0 place.1 (record { period = found.0; has = found.1; short = omega arith })
      ]
]

-- ---- not both

-- a period is short or long
short_not_long : (sequence : List Frac) (long told : ℕ) → (options : Options) → IsSound options sequence → HasShortPeriod sequence → HasPeriod sequence long → greatest_period < long → ⊥
short_not_long sequence long told options sound short has over =
    let same = period_unique sequence short.period long sound.filled short.has has in
    let within = short.short in
    omega arith

-- the users are few or too many
few_not_many_users : (options : Options) (sequence : List Frac) (told : ℕ) → IsSound options sequence → HasFewUsers options →
    IsWholeLimit options told → most_users < told → ⊥
few_not_many_users options sequence told sound users is over =
    let same = one_whole_limit options users.limit told sound.in_range users.is_limit is in
    let few = users.few in
    omega arith

-- the segment needs one number of entries
one_needed : (options : Options) (segment : Segment) (sequence : List Frac) (m n : ℕ) → IsSound options sequence →
    IsNeeded options segment sequence m → IsNeeded options segment sequence n → m ≡ n
one_needed options segment sequence m n sound needs other =
    needs.number
    ∙ ap (λ views. needed_entries (parts_of views))
    (one_parts options segment sequence needs.position other.position needs.views other.views sound needs.are_parts other.are_parts)
    ∙ sym other.number

pub accepted_not_refused : (options : Options) (segment : Segment) (sequence : List Frac) (entries : ℕ) → IsSound options sequence →
    (fault : PlanFault) → IsAccepted options segment sequence entries → IsRefusal options segment sequence entries fault → ⊥
accepted_not_refused options segment sequence entries sound NotInSequence has refused =
    refused has.is_needed.position has.is_needed.are_parts.stands
accepted_not_refused options segment sequence entries sound (PeriodTooLarge told) has refused =
    short_not_long sequence refused.1.0 told options sound has.short refused.1.1 refused.1.2
accepted_not_refused options segment sequence entries sound (TooManyArrivals n told) has refused =
    few_not_many options.scenarios n told has.few refused.2
accepted_not_refused options segment sequence entries sound (TooManyUsers told) has refused =
    few_not_many_users options sequence told sound has.users refused.3 refused.4
accepted_not_refused options segment sequence entries sound (JournalTooSmall needed limit) has refused =
    let same = one_needed options segment sequence has.needed needed sound has.is_needed refused.3 in
    let room = has.room in
    let small = refused.4 in
    omega arith
accepted_not_refused options segment sequence entries sound Memory has refused = refused

-- ---- there is one refusal

pub one_refusal : (options : Options) (segment : Segment) (sequence : List Frac) (entries : ℕ) → IsSound options sequence → (a b : PlanFault) →
    IsRefusal options segment sequence entries a → IsRefusal options segment sequence entries b → a ≡ b
one_refusal options segment sequence entries sound NotInSequence NotInSequence of_a of_b = refl
one_refusal options segment sequence entries sound NotInSequence (PeriodTooLarge told) of_a of_b = absurd (of_a of_b.0.0 of_b.0.1)
one_refusal options segment sequence entries sound NotInSequence (TooManyArrivals n told) of_a of_b = absurd (of_a of_b.0.0 of_b.0.1)
one_refusal options segment sequence entries sound NotInSequence (TooManyUsers told) of_a of_b = absurd (of_a of_b.0.0 of_b.0.1)
one_refusal options segment sequence entries sound NotInSequence (JournalTooSmall needed limit) of_a of_b =
    absurd (of_a of_b.3.position of_b.3.are_parts.stands)
one_refusal options segment sequence entries sound NotInSequence Memory of_a of_b = absurd of_b
one_refusal options segment sequence entries sound (PeriodTooLarge told) NotInSequence of_a of_b = absurd (of_b of_a.0.0 of_a.0.1)
one_refusal options segment sequence entries sound (PeriodTooLarge told) (PeriodTooLarge other) of_a of_b =
    ap PeriodTooLarge
    (of_a.1.3
    ∙ ap (λ (p : ℕ). min p (2 ^ 64 - 1)) (period_unique sequence of_a.1.0 of_b.1.0 sound.filled of_a.1.1 of_b.1.1)
    ∙ sym of_b.1.3)
one_refusal options segment sequence entries sound (PeriodTooLarge told) (TooManyArrivals n other) of_a of_b =
    absurd (short_not_long sequence of_a.1.0 told options sound of_b.1 of_a.1.1 of_a.1.2)
one_refusal options segment sequence entries sound (PeriodTooLarge told) (TooManyUsers other) of_a of_b =
    absurd (short_not_long sequence of_a.1.0 told options sound of_b.1 of_a.1.1 of_a.1.2)
one_refusal options segment sequence entries sound (PeriodTooLarge told) (JournalTooSmall needed limit) of_a of_b =
    absurd (short_not_long sequence of_a.1.0 told options sound of_b.0 of_a.1.1 of_a.1.2)
one_refusal options segment sequence entries sound (PeriodTooLarge told) Memory of_a of_b = absurd of_b
one_refusal options segment sequence entries sound (TooManyArrivals n told) NotInSequence of_a of_b = absurd (of_b of_a.0.0 of_a.0.1)
one_refusal options segment sequence entries sound (TooManyArrivals n told) (PeriodTooLarge other) of_a of_b =
    absurd (short_not_long sequence of_b.1.0 told options sound of_a.1 of_b.1.1 of_b.1.2)
one_refusal options segment sequence entries sound (TooManyArrivals n told) (TooManyArrivals m other) of_a of_b =
    let same = one_first_many options.scenarios n m told other of_a.2 of_b.2 in
    ap (λ (k : ℕ). TooManyArrivals k told) same.place ∙ ap (TooManyArrivals m) same.number
one_refusal options segment sequence entries sound (TooManyArrivals n told) (TooManyUsers other) of_a of_b =
    absurd (few_not_many options.scenarios n told of_b.2 of_a.2)
one_refusal options segment sequence entries sound (TooManyArrivals n told) (JournalTooSmall needed limit) of_a of_b =
    absurd (few_not_many options.scenarios n told of_b.1 of_a.2)
one_refusal options segment sequence entries sound (TooManyArrivals n told) Memory of_a of_b = absurd of_b
one_refusal options segment sequence entries sound (TooManyUsers told) NotInSequence of_a of_b = absurd (of_b of_a.0.0 of_a.0.1)
one_refusal options segment sequence entries sound (TooManyUsers told) (PeriodTooLarge other) of_a of_b =
    absurd (short_not_long sequence of_b.1.0 other options sound of_a.1 of_b.1.1 of_b.1.2)
one_refusal options segment sequence entries sound (TooManyUsers told) (TooManyArrivals n other) of_a of_b =
    absurd (few_not_many options.scenarios n other of_a.2 of_b.2)
one_refusal options segment sequence entries sound (TooManyUsers told) (TooManyUsers other) of_a of_b =
    ap TooManyUsers (one_whole_limit options told other sound.in_range of_a.3 of_b.3)
one_refusal options segment sequence entries sound (TooManyUsers told) (JournalTooSmall needed limit) of_a of_b =
    absurd (few_not_many_users options sequence told sound of_b.2 of_a.3 of_a.4)
one_refusal options segment sequence entries sound (TooManyUsers told) Memory of_a of_b = absurd of_b
one_refusal options segment sequence entries sound (JournalTooSmall needed limit) NotInSequence of_a of_b =
    absurd (of_b of_a.3.position of_a.3.are_parts.stands)
one_refusal options segment sequence entries sound (JournalTooSmall needed limit) (PeriodTooLarge told) of_a of_b =
    absurd (short_not_long sequence of_b.1.0 told options sound of_a.0 of_b.1.1 of_b.1.2)
one_refusal options segment sequence entries sound (JournalTooSmall needed limit) (TooManyArrivals n told) of_a of_b =
    absurd (few_not_many options.scenarios n told of_a.1 of_b.2)
one_refusal options segment sequence entries sound (JournalTooSmall needed limit) (TooManyUsers told) of_a of_b =
    absurd (few_not_many_users options sequence told sound of_a.2 of_b.3 of_b.4)
one_refusal options segment sequence entries sound (JournalTooSmall needed limit) (JournalTooSmall other most) of_a of_b =
    ap (λ (k : ℕ). JournalTooSmall k limit) (one_needed options segment sequence needed other sound of_a.3 of_b.3)
    ∙ ap (JournalTooSmall other) (of_a.5 ∙ sym of_b.5)
one_refusal options segment sequence entries sound (JournalTooSmall needed limit) Memory of_a of_b = absurd of_b
one_refusal options segment sequence entries sound Memory b of_a of_b = absurd of_a
