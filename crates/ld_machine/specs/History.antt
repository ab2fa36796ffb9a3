-- Legal histories: entries of steps, one step after another from the opening state.
use Rattle.std.specs.Prelude.{◌≡◌, ◌++◌, ℕ, Bool, true, false, not, ◌&&◌, ◌||◌, ◌==◌, List, [], ◌∷◌, take, length, Option, None, Some, find, unwrap_or, IsTrue, slice_get, if◌then◌else◌}
use Rattle.std.specs.List.{list_any, range_with_len}
use Rattle.std.specs.Option.{option_map_or, option_or}
use Rattle.ld_base.specs.Stint.{stint_of}
use Rattle.ld_base.specs.declared.act.Act.{Act}
use Rattle.ld_base.specs.declared.act.Act.TheVariants.{Return, Control}
use Rattle.ld_base.specs.declared.act.Outcome.{Outcome}
use Rattle.ld_base.specs.declared.act.Outcome.TheVariants.{Done, Interrupted}
use Rattle.ld_base.specs.declared.ask.Ask.{Ask}
use Rattle.ld_base.specs.declared.ask.Ask.TheVariants as asks
use Rattle.ld_base.specs.declared.entry.Entry.{Entry}
use Rattle.ld_machine.specs.Plan.{Plan}
use Rattle.ld_machine.specs.State.{HeldUser, Share, State, opening}
use Rattle.ld_machine.specs.Wait.{busy_until}
use Rattle.ld_machine.specs.Effect.{after_entry, state_after}
use Rattle.ld_machine.specs.Same.{same_entry, same_entries}
use Rattle.ld_machine.specs.Step.{Result, results}

-- ---- the ask that an entry answers

-- until when a user's iteration may last, and 0 where it isn't busy
abbrev pub until_in : State → ℕ → ℕ → ℕ
until_in state n user =
    option_map_or
    (λ (share : Share). option_map_or (λ (h : HeldUser). unwrap_or (busy_until h.condition) 0) (find (λ h. h.user == user) share.held) 0)
    (slice_get state.shares n)
    0

-- the iteration was done
abbrev pub is_done : Outcome → Bool
is_done Done = true
is_done Interrupted = false

-- the ask that a step answers which adds this act
abbrev pub ask_for : State → Act → Ask
ask_for state (Return n user item outcome tally) =
    asks.Return (stint_of n user item (until_in state n user)) (is_done outcome) tally
ask_for state (Control command) = asks.Control command
ask_for state _ = asks.Act

-- the results of all steps from the state that may add this entry
abbrev pub results_for : Plan → State → Entry → List Result
results_for plan state entry = results plan state entry.thread (ask_for state entry.act) entry.reading

-- ---- legal

-- some step from the state adds this entry alone
abbrev pub adds_one : Plan → State → Entry → Bool
adds_one plan state one = list_any (λ r. same_entries r.entries (one ∷ [])) (results_for plan state one)

-- some step from the state adds these two entries
abbrev pub adds_two : Plan → State → Entry → Entry → Bool
adds_two plan state one two = list_any (λ r. same_entries r.entries (one ∷ two ∷ [])) (results_for plan state one)

-- the entries are those of steps from this state on, one step after another
abbrev pub are_steps : Plan → State → List Entry → Bool
are_steps plan state [] = true
are_steps plan state (one ∷ []) = adds_one plan state one
are_steps plan state (one ∷ two ∷ rest) =
    (adds_one plan state one && are_steps plan (after_entry plan state one) (two ∷ rest))
    || (adds_two plan state one two && are_steps plan (after_entry plan (after_entry plan state one) two) rest)

-- a history is legal where its entries are those of steps from the opening state on
abbrev pub is_legal : Plan → List Entry → Bool
is_legal plan history = are_steps plan (opening plan) history

abbrev pub IsLegal : Plan → List Entry → Type 0
IsLegal plan history = IsTrue (is_legal plan history)

-- ---- the first illegal entry

-- the entry is the first of these two
abbrev pub is_first_of_two : Entry → List Entry → Bool
is_first_of_two one (a ∷ b ∷ []) = same_entry a one
is_first_of_two one _ = false

-- some step from the state adds this entry and another behind it
abbrev pub begins_two : Plan → State → Entry → Bool
begins_two plan state one = list_any (λ r. is_first_of_two one r.entries) (results_for plan state one)

-- the entries are the front of those of steps from this state on: all of some steps, or all but the
-- last entry
abbrev pub are_front : Plan → State → List Entry → Bool
are_front plan state [] = true
are_front plan state (one ∷ []) = adds_one plan state one || begins_two plan state one
are_front plan state (one ∷ two ∷ rest) =
    (adds_one plan state one && are_front plan (after_entry plan state one) (two ∷ rest))
    || (adds_two plan state one two && are_front plan (after_entry plan (after_entry plan state one) two) rest)

-- the entries are the front of a legal history
abbrev pub is_front : Plan → List Entry → Bool
is_front plan history = are_front plan (opening plan) history

-- the turn, from 1, of the first entry up to which the entries are no front of a legal history
abbrev pub first_beyond : Plan → List Entry → Option ℕ
first_beyond plan history = find (λ n. not (is_front plan (take n history))) (range_with_len 1 (length history))

-- the first illegal entry's turn: the first that no legal history goes on with; or else the last
-- entry, where the history ends between two entries of one step; none where the history is legal
abbrev pub first_illegal : Plan → List Entry → Option ℕ
first_illegal plan history =
    option_or (first_beyond plan history) (if is_legal plan history then None else Some (length history))

-- ---- fronts of histories

-- the entries end between the two entries of one step: all but the last are legal, and the last is
-- the first of two
pub record EndsInside (plan : Plan) (entries : List Entry) : Type 0 where
  pub before : List Entry
  pub one : Entry
  pub parts : entries ≡ before ++ one ∷ []
  pub legal : IsLegal plan before
  pub begins : IsTrue (begins_two plan (state_after plan before) one)
