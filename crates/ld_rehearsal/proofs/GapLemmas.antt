-- The moments between entries: how they go on with one entry more, or up to a later moment.
use Rattle.std.proofs.Common.{◌≡◌, ◌≤◌, ◌<◌, inl, inr, ℕ, Bool, true, false, List, [], ◌∷◌, ◌++◌, Option, None, Some, arith, refl, sym, ap, subst}
use Rattle.std.specs.Option.{option_or}
use Rattle.std.proofs.Math.Decide.{dec_lt}
use Rattle.ld_base.specs.declared.entry.Entry.{Entry}
use Rattle.ld_base.specs.declared.reply.Reply.{Reply}
use Rattle.ld_machine.specs.Effect.{after_entry, after_entries, state_after}
use Rattle.ld_machine.specs.OnTime.{last_reading}
use Rattle.ld_machine.specs.Plan.{Plan}
use Rattle.ld_machine.specs.Rehearsal.{is_return, FirstRefusalFrom, IsRefusedAt, IsRefusedBetween, NothingEnabled, NothingEnabledFrom, Waits, WaitsFrom}
use Rattle.ld_machine.specs.State.{State, opening}
use Rattle.ld_rehearsal.specs.Played.{RefusalUpTo, WaitsSoFar, WaitsUpTo}

-- ---- stretches of time

nothing_between : (plan : Plan) (state : State) (from to : ℕ) → to ≤ from → NothingEnabled plan state from to
nothing_between plan state from to past t low high = absurd (omega arith)

joined : (plan : Plan) (state : State) (from middle to : ℕ) → NothingEnabled plan state from middle → NothingEnabled plan state middle to → NothingEnabled plan state from to
joined plan state from middle to one two t low high = elim (dec_lt t middle) [ yes before ↦ one t low before | no behind ↦ two t (omega arith) high ]

pub joined_on : (plan : Plan) (state : State) (from middle : ℕ) → NothingEnabled plan state from middle → NothingEnabledFrom plan state middle → NothingEnabledFrom plan state from
joined_on plan state from middle one two t low = elim (dec_lt t middle) [ yes before ↦ one t low before | no behind ↦ two t (omega arith) ]

refused_at : (plan : Plan) (state : State) (from to later : ℕ) (refusal : Reply) → NothingEnabled plan state from to → from ≤ to → to < later →
    IsRefusedAt plan state to refusal → IsRefusedBetween plan state from later refusal
refused_at plan state from to later refusal quiet low high at = (to, low, high, quiet, at)

refused_longer : (plan : Plan) (state : State) (from to later : ℕ) (refusal : Reply) → to ≤ later → IsRefusedBetween plan state from to refusal → IsRefusedBetween plan state from later refusal
refused_longer plan state from to later refusal more at = (at.0, at.1, (let high : at.0 < to = at.2 in omega arith), at.3, at.4)

-- ---- waiting: one entry more

waits_grown : (plan : Plan) (state : State) (from : ℕ) (history : List Entry) (e : Entry) (to : ℕ) (blocked : Bool) → WaitsUpTo plan state from history to blocked →
    e.reading ≡ to → (blocked ≡ true → is_return e.act ≡ true) → WaitsUpTo plan state from (history ++ e ∷ []) to false
waits_grown plan state from [] e to false waits now back =
    ((λ _. inl (subst (λ (m : ℕ). NothingEnabled plan state from m) (sym now) waits)), nothing_between plan (after_entry plan state e) e.reading to (omega arith))
waits_grown plan state from [] e to true waits now back =
    ((λ _. inr (subst (λ (m : ℕ). (refusal : Reply) × IsRefusedBetween plan state from m refusal) (sym now) waits, back refl)), nothing_between plan (after_entry plan state e) e.reading to (omega arith))
waits_grown plan state from (x ∷ rest) e to blocked waits now back =
    (waits.0, waits_grown plan (after_entry plan state x) x.reading rest e to blocked waits.1 now back)

pub waits_so_far_grown : (plan : Plan) (history : List Entry) (e : Entry) (to : ℕ) (blocked : Bool) → WaitsSoFar plan history to blocked →
    e.reading ≡ to → (blocked ≡ true → (is_return e.act ≡ true) × (history ≡ [] → ⊥)) → WaitsSoFar plan (history ++ e ∷ []) to false
waits_so_far_grown plan [] e to false waits now back =
    (subst (λ (m : ℕ). NothingEnabled plan (opening plan) 0 m) (sym now) waits, nothing_between plan (after_entry plan (opening plan) e) e.reading to (omega arith))
waits_so_far_grown plan [] e to true waits now back = absurd ((back refl).1 refl)
waits_so_far_grown plan (x ∷ rest) e to blocked waits now back =
    (waits.0, waits_grown plan (after_entry plan (opening plan) x) x.reading rest e to blocked waits.1 now (λ is. (back is).0))

-- ---- waiting: a later moment

waits_later : (plan : Plan) (state : State) (from : ℕ) (history : List Entry) (to later : ℕ) → WaitsUpTo plan state from history to false →
    NothingEnabled plan (after_entries plan state history) to later → WaitsUpTo plan state from history later false
waits_later plan state from [] to later waits quiet = joined plan state from to later waits quiet
waits_later plan state from (x ∷ rest) to later waits quiet = (waits.0, waits_later plan (after_entry plan state x) x.reading rest to later waits.1 quiet)

pub waits_so_far_later : (plan : Plan) (history : List Entry) (to later : ℕ) → WaitsSoFar plan history to false →
    NothingEnabled plan (state_after plan history) to later → WaitsSoFar plan history later false
waits_so_far_later plan [] to later waits quiet = joined plan (opening plan) 0 to later waits quiet
waits_so_far_later plan (x ∷ rest) to later waits quiet = (waits.0, waits_later plan (after_entry plan (opening plan) x) x.reading rest to later waits.1 quiet)

waits_blocked : (plan : Plan) (state : State) (from : ℕ) (history : List Entry) (to later : ℕ) (refusal : Reply) → WaitsUpTo plan state from history to false →
    last_reading from history ≤ to → to < later → IsRefusedAt plan (after_entries plan state history) to refusal → WaitsUpTo plan state from history later true
waits_blocked plan state from [] to later refusal waits low high at = (refusal, refused_at plan state from to later refusal waits low high at)
waits_blocked plan state from (x ∷ rest) to later refusal waits low high at =
    (waits.0, waits_blocked plan (after_entry plan state x) x.reading rest to later refusal waits.1 low high at)

pub waits_so_far_blocked : (plan : Plan) (history : List Entry) (to later : ℕ) (refusal : Reply) → WaitsSoFar plan history to false →
    last_reading 0 history ≤ to → to < later → IsRefusedAt plan (state_after plan history) to refusal → WaitsSoFar plan history later true
waits_so_far_blocked plan [] to later refusal waits low high at = (refusal, refused_at plan (opening plan) 0 to later refusal waits low high at)
waits_so_far_blocked plan (x ∷ rest) to later refusal waits low high at =
    (waits.0, waits_blocked plan (after_entry plan (opening plan) x) x.reading rest to later refusal waits.1 low high at)

-- ---- waiting: the end

waits_over : (plan : Plan) (state : State) (from : ℕ) (history : List Entry) (to : ℕ) → WaitsUpTo plan state from history to false →
    NothingEnabledFrom plan (after_entries plan state history) to → WaitsFrom plan state from history
waits_over plan state from [] to waits quiet = inl (joined_on plan state from to waits quiet)
waits_over plan state from (x ∷ rest) to waits quiet = (waits.0, waits_over plan (after_entry plan state x) x.reading rest to waits.1 quiet)

pub waits_so_far_over : (plan : Plan) (history : List Entry) (to : ℕ) → WaitsSoFar plan history to false →
    NothingEnabledFrom plan (state_after plan history) to → Waits plan history
waits_so_far_over plan [] to waits quiet = inl (joined_on plan (opening plan) 0 to waits quiet)
waits_so_far_over plan (x ∷ rest) to waits quiet = (waits.0, waits_over plan (after_entry plan (opening plan) x) x.reading rest to waits.1 quiet)

waits_full : (plan : Plan) (state : State) (from : ℕ) (history : List Entry) (to : ℕ) → WaitsUpTo plan state from history to true → WaitsFrom plan state from history
waits_full plan state from [] to waits = inr (waits.0, (waits.1.0, waits.1.1, waits.1.3, waits.1.4))
waits_full plan state from (x ∷ rest) to waits = (waits.0, waits_full plan (after_entry plan state x) x.reading rest to waits.1)

pub waits_so_far_full : (plan : Plan) (history : List Entry) (to : ℕ) → WaitsSoFar plan history to true → Waits plan history
waits_so_far_full plan [] to waits = inr (waits.0, (waits.1.0, waits.1.1, waits.1.3, waits.1.4))
waits_so_far_full plan (x ∷ rest) to waits = (waits.0, waits_full plan (after_entry plan (opening plan) x) x.reading rest to waits.1)

-- ---- the first act without room

pub refusal_grown : (plan : Plan) (state : State) (from : ℕ) (history : List Entry) (e : Entry) (to : ℕ) (first : Option Reply) → RefusalUpTo plan state from history to first →
    e.reading ≡ to → RefusalUpTo plan state from (history ++ e ∷ []) to first
refusal_grown plan state from [] e to None quiet now =
    inl (subst (λ (m : ℕ). NothingEnabled plan state from m) (sym now) quiet, nothing_between plan (after_entry plan state e) e.reading to (omega arith))
refusal_grown plan state from [] e to (Some refusal) at now =
    inr (refusal, refl, subst (λ (m : ℕ). IsRefusedBetween plan state from m refusal) (sym now) at)
refusal_grown plan state from (x ∷ rest) e to first (inl later) now = inl (later.0, refusal_grown plan (after_entry plan state x) x.reading rest e to first later.1 now)
refusal_grown plan state from (x ∷ rest) e to first (inr there) now = inr there

pub refusal_later : (plan : Plan) (state : State) (from : ℕ) (history : List Entry) (to later : ℕ) (first : Option Reply) → to ≤ later → RefusalUpTo plan state from history to first →
    NothingEnabled plan (after_entries plan state history) to later → RefusalUpTo plan state from history later first
refusal_later plan state from [] to later None more quiet on = joined plan state from to later quiet on
refusal_later plan state from [] to later (Some refusal) more at on = refused_longer plan state from to later refusal more at
refusal_later plan state from (x ∷ rest) to later first more (inl next) on = inl (next.0, refusal_later plan (after_entry plan state x) x.reading rest to later first more next.1 on)
refusal_later plan state from (x ∷ rest) to later first more (inr there) on = inr there

pub refusal_noted : (plan : Plan) (state : State) (from : ℕ) (history : List Entry) (to later : ℕ) (first : Option Reply) (refusal : Reply) → RefusalUpTo plan state from history to first →
    last_reading from history ≤ to → to < later → IsRefusedAt plan (after_entries plan state history) to refusal →
    RefusalUpTo plan state from history later (option_or first (Some refusal))
refusal_noted plan state from [] to later None refusal quiet low high at = refused_at plan state from to later refusal quiet low high at
refusal_noted plan state from [] to later (Some other) refusal before low high at = refused_longer plan state from to later other (omega arith) before
refusal_noted plan state from (x ∷ rest) to later first refusal (inl next) low high at =
    inl (next.0, refusal_noted plan (after_entry plan state x) x.reading rest to later first refusal next.1 low high at)
refusal_noted plan state from (x ∷ rest) to later first refusal (inr there) low high at =
    inr (there.0, (ap (λ (o : Option Reply). option_or o (Some refusal)) there.1), there.2)

pub refusal_over : (plan : Plan) (state : State) (from : ℕ) (history : List Entry) (to : ℕ) (first : Option Reply) → RefusalUpTo plan state from history to first →
    NothingEnabledFrom plan (after_entries plan state history) to → FirstRefusalFrom plan state from history first
refusal_over plan state from [] to None quiet on = joined_on plan state from to quiet on
refusal_over plan state from [] to (Some refusal) at on = (at.0, at.1, at.3, at.4)
refusal_over plan state from (x ∷ rest) to first (inl next) on = inl (next.0, refusal_over plan (after_entry plan state x) x.reading rest to first next.1 on)
refusal_over plan state from (x ∷ rest) to first (inr there) on = inr there

pub refusal_full : (plan : Plan) (state : State) (from : ℕ) (history : List Entry) (to : ℕ) (refusal : Reply) → RefusalUpTo plan state from history to (Some refusal) →
    FirstRefusalFrom plan state from history (Some refusal)
refusal_full plan state from [] to refusal at = (at.0, at.1, at.3, at.4)
refusal_full plan state from (x ∷ rest) to refusal (inl next) = inl (next.0, refusal_full plan (after_entry plan state x) x.reading rest to refusal next.1)
refusal_full plan state from (x ∷ rest) to refusal (inr there) = inr there
